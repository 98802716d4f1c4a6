-- What a call, a `let` and a name leave to be done where they are reached.
use Rattle.std.proofs.Common.{◌≡◌, ℕ, List, [], ◌∷◌, ◌++◌, map, true, false, Option, Some, None, refl, ap, sym, ◌∙◌, true≢false}
use Rattle.std.specs.Prelude.{Result, Ok}
use Rattle.script_model.specs.Sexp.{Place, Sexp, Sexps, none, more}
use Rattle.script_model.specs.Reading.{Operator, Meanings, Names, Named, value, found, operators, meaning, meanings, application, call_named, bare_named, name_meaning, value_named, binding_meanings, values_bound, malformed}
use Rattle.script_model.specs.Script.{bound_to, Parameter}
use Rattle.script_model.specs.Declared.{Bounding, bounding, constant_bounding, bounding_operation}
use Rattle.script_forms.specs.Terms.{Unfolded}
use Rattle.script_forms.specs.Unfolded.{first_fault, unless_refused}
use Rattle.script_forms.specs.Atoms.{constant_tree}
use Rattle.script_forms.specs.Work.{Event, reached, Work, as_work, outcome_of, events_of, ending}
use Rattle.script_forms.specs.Walk.{constant_work}
use Rattle.smt_sexp.specs.Arena.{expression_at, rest_of}
use Rattle.smt_sexp.specs.Views.{place_of}
use Rattle.script_fault.specs.declared.place.Place as code
use Rattle.smt_sexp.specs.declared.sexps.Sexps as arena
use Rattle.smt_script.specs.Forms.{is_end}
use Rattle.smt_script.specs.Views.{parameter_of, sort_of}
use Rattle.smt_script.specs.declared.command.Sort as code_sort
use Rattle.sort_check.specs.Views.{operator_of}
use Rattle.sort_check.specs.declared.operators.Operator as code_operator
use Rattle.std.specs.Borrow.{Bor}
use Rattle.smt_script.specs.declared.command.Parameter as code_parameter
use Rattle.term_build.specs.declared.stop.Stop.{Stop}
use Rattle.value_build.specs.Making.{Making, Grows, Steps}
use Rattle.value_build.specs.Values.{IsArm, is_choice, IsValue, AreValues}
use Rattle.term_build.specs.Built.{BuilderModel}
use Rattle.term_build.specs.Sketch.{SketchNode}
use Rattle.term_build.specs.declared.sketch.Arm.TheVariants as arm
use Rattle.value_build.specs.declared.value.Value.{Value}
use Rattle.value_build.specs.declared.value.Value.TheVariants as values
use Rattle.value_build.proofs.Growth.{value_stays}
use Rattle.problem_build.specs.Locals.{local_value}
use Rattle.problem_build.specs.Names.{top_known, IsHead, known_of, work_names, bound_names_of, AreLocals, Knows}
use Rattle.problem_build.specs.LetParts.{as_let, let_of}
use Rattle.problem_build.specs.Walking.{IsCall, IsLet, Turns, Reaches, call_work, call_bounds}
use Rattle.problem_build.specs.declared.top.Known.{Known}
use Rattle.problem_build.specs.declared.top.Known.TheVariants as known
use Rattle.problem_build.specs.declared.top.Top.{Top}
use Rattle.problem_build.specs.declared.locals.Local.{Local}
use Rattle.problem_build.specs.declared.names.Head.{Head}
use Rattle.problem_build.specs.declared.names.Head.TheVariants as head
use Rattle.problem_build.specs.declared.frames.Next.{Next}
use Rattle.problem_build.proofs.Lookups.{found_local, none_local, found_top, none_top, FoundLocal}
use Rattle.problem_build.proofs.Turns.{turns_same, reaches_same, reaches_then}

-- ---- values are not refused

choice-first : (n : BuilderModel) (ds : List SketchNode) (u : Unfolded) (k : ℕ) (us : List Unfolded) → IsArm n ds u (arm.Choice k) → first_fault (u ∷ us) ≡ first_fault us
choice-first n ds _ k us (is_choice e w i j) = refl

pub values_free : (m : Making) (us : List Unfolded) (bs : List Bounding) (vs : List Value) → AreValues m us bs vs → first_fault us ≡ None
values_free m [] bs vs h = refl
values_free m (u ∷ us) (b ∷ bs) (values.Real k ∷ vs) h = ap (λ x. first_fault (x ∷ us)) h.0.1 ∙ values_free m us bs vs h.1
values_free m (u ∷ us) (b ∷ bs) (values.Choice k ∷ vs) h = choice-first m.made m.drawn u k us h.0.0 ∙ values_free m us bs vs h.1
values_free m (u ∷ us) (b ∷ bs) (values.Bool p n ∷ vs) h = ap (λ x. first_fault (x ∷ us)) h.0.0.is ∙ values_free m us bs vs h.1
values_free m (u ∷ us) [] vs h = elim h [ ]
values_free m (u ∷ us) (b ∷ bs) [] h = elim h [ ]

value-first : (m : Making) (u : Unfolded) (b : Bounding) (v : Value) (us : List Unfolded) → IsValue m u b v → first_fault (u ∷ us) ≡ first_fault us
value-first m u b (values.Real k) us h = ap (λ x. first_fault (x ∷ us)) h.1
value-first m u b (values.Choice k) us h = choice-first m.made m.drawn u k us h.0
value-first m u b (values.Bool p n) us h = ap (λ x. first_fault (x ∷ us)) h.0.is

pub locals_free : (m : Making) (ls : List Local) (ns : Names Work) (bs : Names Bounding) → AreLocals m ls ns bs → first_fault (map outcome_of (values_bound ns)) ≡ None
locals_free m [] [] [] h = refl
locals_free m (l ∷ ls) ((x, value w) ∷ ns) ((y, value b) ∷ bs) h = value-first m w.outcome b l.value (map outcome_of (values_bound ns)) h.2 ∙ locals_free m ls ns bs h.3
locals_free m _ _ _ h = elim h [ ]

-- ---- what a name means at arguments, and alone

module _ {V : Type 0} (M : Meanings V) (names : Names V) (at : Place) (x : List ℕ) where
  pub app_operator : (o : Operator) (a : V) (args : List V) → found x operators ≡ Some o → application M names at x (found x operators) (a ∷ args) ≡ M.apply at o (a ∷ args)
  app_operator o a args e = ap (λ f. application M names at x f (a ∷ args)) e

  pub app_named : (n : Named V) (a : V) (args : List V) → found x operators ≡ None → found x names ≡ Some n → application M names at x (found x operators) (a ∷ args) ≡ call_named M at x (Some n) (a ∷ args)
  app_named n a args e f = ap (λ o. application M names at x o (a ∷ args)) e ∙ ap (λ o. call_named M at x o (a ∷ args)) f

  pub alone_operator : (o : Operator) → found x operators ≡ Some o → name_meaning M names at x (found x operators) ≡ M.apply at o []
  alone_operator o e = ap (name_meaning M names at x) e

  pub alone_named : (n : Named V) → found x operators ≡ None → found x names ≡ Some n → name_meaning M names at x (found x operators) ≡ value_named M at x (Some n)
  alone_named n e f = ap (name_meaning M names at x) e ∙ ap (value_named M at x) f

-- a name that is not known
pub alone_unknown : (names : Names Work) (at : Place) (x : List ℕ) → found x operators ≡ None → found x names ≡ None → name_meaning as_work names at x (found x operators) ≡ as_work.nothing at malformed
alone_unknown names at x e f = ap (name_meaning as_work names at x) e ∙ ap (value_named as_work at x) f

pub applied_unknown : (names : Names Work) (at : Place) (x : List ℕ) (ws : List Work) → found x operators ≡ None → found x names ≡ None → application as_work names at x (found x operators) ws ≡ as_work.nothing at malformed
applied_unknown names at x [] e f = ap (λ o. application as_work names at x o []) e ∙ ap (bare_named as_work at x) f
applied_unknown names at x (w ∷ ws) e f = ap (λ o. application as_work names at x o (w ∷ ws)) e ∙ ap (λ o. call_named as_work at x o (w ∷ ws)) f

-- a name in parentheses without arguments
pub applied_bare : (names : Names Work) (at : Place) (x : List ℕ) (items : Sexps) → is_end items ≡ true → application as_work names at x (found x operators) (meanings as_work names items) ≡ as_work.nothing at malformed
applied_bare names at x none h = by-operator (found x operators)
  where
    by-name : (o : Option (Named Work)) → bare_named as_work at x o ≡ as_work.nothing at malformed
    by-name None = refl
    by-name (Some n) = refl

    by-operator : (o : Option Operator) → application as_work names at x o [] ≡ as_work.nothing at malformed
    by-operator (Some op) = refl
    by-operator None = by-name (found x names)
applied_bare names at x (more e rest) h = absurd (true≢false (sym h))

-- ---- by what stands under the name

-- what is done of a call behind its being reached
abbrev pub applied_after : arena.Sexps → List Top → Names Work → List ℕ → Place → Head → Sexps → Work
applied_after s top names x at h items = record {
  events = events_of (meanings as_work names items) ++ (call_work s top at h (meanings as_work names items)).events;
  outcome = (application as_work names at x (found x operators) (meanings as_work names items)).outcome;
}

module _ (m : Making) (s : arena.Sexps) (top : List Top) (n : ℕ) (ls : List Local) (names : Names Work) (bnames : Names Bounding) (knows : Knows m s top n ls names bnames) (x : List ℕ) where
  pub none_known : IsHead x top n ls None → found x names ≡ None
  none_known h = ap (found x) knows.works ∙ (none_local m x (work_names s top n) (bound_names_of s top n) ls knows.near knows.bounded knows.stand h.1).0 ∙
      none_top as_work constant_work s top x n h.2

  module _ (i : ℕ) (k : Known) (h : (found x operators ≡ None) × (local_value x ls ≡ None) × (top_known x top n ≡ Some (i, k))) where
    pub known_work : found x names ≡ Some (known_of as_work constant_work s (work_names s top i) k)
    known_work = ap (found x) knows.works ∙ (none_local m x (work_names s top n) (bound_names_of s top n) ls knows.near knows.bounded knows.stand h.1).0 ∙
        found_top as_work constant_work s top x n i k h.2

    pub known_bounds : found x bnames ≡ Some (known_of bounding constant_bounding s (bound_names_of s top i) k)
    known_bounds = ap (found x) knows.bounds ∙ (none_local m x (work_names s top n) (bound_names_of s top n) ls knows.near knows.bounded knows.stand h.1).1 ∙
        found_top bounding constant_bounding s top x n i k h.2

  pub local_known : (v : Value) → IsHead x top n ls (Some (head.Local v)) → FoundLocal m x names bnames v
  local_known v h = let f = found_local m x (work_names s top n) (bound_names_of s top n) ls knows.near knows.bounded v knows.stand h.1 in record {
    work = f.work;
    bound = f.bound;
    works = ap (found x) knows.works ∙ f.works;
    bounds = ap (found x) knows.bounds ∙ f.bounds;
    is = f.is;
  }

  -- the events of a call begin so
  behind-arguments : (at : Place) (h : Head) (w : Work) (ws : List Work) → IsHead x top n ls (Some h) →
      (application as_work names at x (found x operators) (w ∷ ws)).events ≡ reached ∷ (events_of (w ∷ ws) ++ (call_work s top at h (w ∷ ws)).events)
  behind-arguments at (head.Operator o) w ws is = ap (λ (y : Work). y.events) (app_operator as_work names at x _ w ws is)
  behind-arguments at (head.Local v) w ws is = ap (λ (y : Work). y.events) (app_named as_work names at x _ w ws is.0 (local_known v is).works)
  behind-arguments at (head.Constant i axis sort) w ws is = ap (λ (y : Work). y.events) (app_named as_work names at x _ w ws is.0 (known_work i (known.Constant axis sort) is))
  behind-arguments at (head.Function i params body) w ws is = ap (λ (y : Work). y.events) (app_named as_work names at x _ w ws is.0 (known_work i (known.Function params body) is))

  pub applied_events : (at : Place) (h : Head) (items : Sexps) → IsHead x top n ls (Some h) → is_end items ≡ false → let ws = meanings as_work names items in
      (application as_work names at x (found x operators) ws).events ≡ reached ∷ (events_of ws ++ (call_work s top at h ws).events)
  applied_events at h none is e = absurd (true≢false e)
  applied_events at h (more first rest) is e = behind-arguments at h (meaning as_work names first) (meanings as_work names rest) is

  -- what comes of a call, where no argument is refused
  outcome-head : (at : Place) (h : Head) (w : Work) (ws : List Work) → IsHead x top n ls (Some h) → first_fault (map outcome_of (w ∷ ws)) ≡ None →
      (application as_work names at x (found x operators) (w ∷ ws)).outcome ≡ (call_work s top at h (w ∷ ws)).outcome
  outcome-head at (head.Operator o) w ws is free = ap (λ (y : Work). y.outcome) (app_operator as_work names at x _ w ws is)
  outcome-head at (head.Local v) w ws is free = ap (λ (y : Work). y.outcome) (app_named as_work names at x _ w ws is.0 (local_known v is).works) ∙
      ap (λ f. unless_refused f (call_work s top at (head.Local v) (w ∷ ws)).outcome) free
  outcome-head at (head.Constant i axis sort) w ws is free = ap (λ (y : Work). y.outcome) (app_named as_work names at x _ w ws is.0 (known_work i (known.Constant axis sort) is)) ∙
      ap (λ f. unless_refused f (call_work s top at (head.Constant i axis sort) (w ∷ ws)).outcome) free
  outcome-head at (head.Function i params body) w ws is free = ap (λ (y : Work). y.outcome) (app_named as_work names at x _ w ws is.0 (known_work i (known.Function params body) is)) ∙
      ap (λ f. unless_refused f (call_work s top at (head.Function i params body) (w ∷ ws)).outcome) free

  -- its bounds
  bound-head : (at : Place) (h : Head) (b : Bounding) (bs : List Bounding) → IsHead x top n ls (Some h) → application bounding bnames at x (found x operators) (b ∷ bs) ≡ call_bounds s top h (b ∷ bs)
  bound-head at (head.Operator o) b bs is = app_operator bounding bnames at x _ b bs is
  bound-head at (head.Local v) b bs is = let f = local_known v is in app_named bounding bnames at x (value f.bound) b bs is.0 f.bounds
  bound-head at (head.Constant i axis sort) b bs is = app_named bounding bnames at x _ b bs is.0 (known_bounds i (known.Constant axis sort) is)
  bound-head at (head.Function i params body) b bs is = app_named bounding bnames at x _ b bs is.0 (known_bounds i (known.Function params body) is)

  applied-outcome : (at : Place) (h : Head) (items : Sexps) → IsHead x top n ls (Some h) → is_end items ≡ false → let ws = meanings as_work names items in
      first_fault (map outcome_of ws) ≡ None → (application as_work names at x (found x operators) ws).outcome ≡ (call_work s top at h ws).outcome
  applied-outcome at h none is e = absurd (true≢false e)
  applied-outcome at h (more first rest) is e = outcome-head at h (meaning as_work names first) (meanings as_work names rest) is

  applied-bound : (at : Place) (h : Head) (items : Sexps) → IsHead x top n ls (Some h) → is_end items ≡ false → let bs = meanings bounding bnames items in
      application bounding bnames at x (found x operators) bs ≡ call_bounds s top h bs
  applied-bound at h none is e = absurd (true≢false e)
  applied-bound at h (more first rest) is e = bound-head at h (meaning bounding bnames first) (meanings bounding bnames rest) is

  pub call_begins : (at : code.Place) (h : Head) (place : ℕ) → IsHead x top n ls (Some h) → is_end (rest_of s place) ≡ false →
      IsCall s top at h place names bnames [] [] (applied_after s top names x (place_of at) h (rest_of s place)) (application bounding bnames (place_of at) x (found x operators) (meanings bounding bnames (rest_of s place)))
  call_begins at h place is e = record {
    events = refl;
    outcome = applied-outcome (place_of at) h (rest_of s place) is e;
    bound = applied-bound (place_of at) h (rest_of s place) is e;
  }

-- ---- `let`

module _ (names : Names Work) (bnames : Names Bounding) (at : Place) (items bindings : Sexps) (body : Sexp) (is : as_let items ≡ Some (bindings, body)) where
  pub let_events : (let_of as_work names at (as_let items)).events ≡
      reached ∷ (events_of (values_bound (binding_meanings as_work names bindings)) ++ (meaning as_work (binding_meanings as_work names bindings ++ names) body).events)
  let_events = ap (λ o. (let_of as_work names at o).events) is

  pub let_outcome : first_fault (map outcome_of (values_bound (binding_meanings as_work names bindings))) ≡ None →
      (let_of as_work names at (as_let items)).outcome ≡ (meaning as_work (binding_meanings as_work names bindings ++ names) body).outcome
  let_outcome free = ap (λ o. (let_of as_work names at o).outcome) is ∙ ap (λ f. unless_refused f (meaning as_work (binding_meanings as_work names bindings ++ names) body).outcome) free

  pub let_bound : let_of bounding bnames at (as_let items) ≡ meaning bounding (binding_meanings bounding bnames bindings ++ bnames) body
  let_bound = ap (let_of bounding bnames at) is

-- what is done of a `let` behind its being reached
abbrev pub let_after : arena.Sexps → Names Work → Place → ℕ → ℕ → ℕ → Work
let_after s names at place inside body = record {
  events = events_of (values_bound (binding_meanings as_work names (rest_of s inside))) ++ (meaning as_work (binding_meanings as_work names (rest_of s inside) ++ names) (expression_at s body)).events;
  outcome = (let_of as_work names at (as_let (rest_of s place))).outcome;
}

pub let_begins : (s : arena.Sexps) (names : Names Work) (bnames : Names Bounding) (at : Place) (place inside body : ℕ) → as_let (rest_of s place) ≡ Some (rest_of s inside, expression_at s body) →
    IsLet s inside body names bnames [] [] (let_after s names at place inside body) (let_of bounding bnames at (as_let (rest_of s place)))
let_begins s names bnames at place inside body is = record {
  events = refl;
  outcome = let_outcome names bnames at (rest_of s place) (rest_of s inside) (expression_at s body) is;
  bound = let_bound names bnames at (rest_of s place) (rest_of s inside) (expression_at s body) is;
}

-- ---- a name alone

bound-none : {V : Type 0} (ps : List Parameter) → bound_to {V = V} ps [] ≡ []
bound-none [] = refl
bound-none (p ∷ ps) = refl

module _ (m m1 m2 : Making) (s : arena.Sexps) (top : List Top) (n : ℕ) (ls : List Local) (names : Names Work) (bnames : Names Bounding) (knows : Knows m s top n ls names bnames) (x : List ℕ) (at : Place) (u : Unit {0})
    (reach : Steps {X = Unit {0}} m m1 (reached ∷ []) (Ok u) (λ _. Unit {0})) where
  -- a name alone, from what is done behind its being reached
  abbrev Answers : Result Next Stop → Type 0
  Answers r = Reaches m m2 s top (name_meaning as_work names at x (found x operators)) (name_meaning bounding bnames at x (found x operators)) r

  pub alone_calls : (o : code_operator.Operator) (r : Result Next Stop) → IsHead x top n ls (Some (head.Operator o)) →
      Turns m1 m2 s top (call_work s top at (head.Operator o) []) (bounding_operation (operator_of o) []) r → Answers r
  alone_calls o r is h = reaches_same s top m m2 _ _ _ _ r (alone_operator as_work names at x _ is) (alone_operator bounding bnames at x _ is)
      (reaches_then s top m m1 m2 u _ (call_work s top at (head.Operator o) []) _ r refl refl reach h)

  pub alone_local : (v : Value) (r : Result Next Stop) → Grows m m1 → IsHead x top n ls (Some (head.Local v)) →
      ((w : Work) (b : Bounding) → IsValue m1 w.outcome b v → Turns m1 m2 s top (record { events = ending w.outcome; outcome = w.outcome }) b r) → Answers r
  alone_local v r g is h = let f = local_known m s top n ls names bnames knows x v is in
      reaches_same s top m m2 _ _ _ _ r (alone_named as_work names at x (value f.work) is.0 f.works) (alone_named bounding bnames at x (value f.bound) is.0 f.bounds)
      (reaches_then s top m m1 m2 u _ (record { events = ending f.work.outcome; outcome = f.work.outcome }) f.bound r refl refl reach
      (h f.work f.bound (value_stays m m1 f.work.outcome f.bound v g f.is)))

  pub alone_constant : (i axis : ℕ) (sort : code_sort.Sort) (r : Result Next Stop) → IsHead x top n ls (Some (head.Constant i axis sort)) →
      Turns m1 m2 s top (record { events = ending (constant_tree axis (sort_of sort)); outcome = constant_tree axis (sort_of sort) }) (constant_bounding axis (sort_of sort)) r → Answers r
  alone_constant i axis sort r is h =
      reaches_same s top m m2 _ _ _ _ r (alone_named as_work names at x _ is.0 (known_work m s top n ls names bnames knows x i (known.Constant axis sort) is)) (alone_named bounding bnames at x _ is.0 (known_bounds m s top n ls names bnames knows x i (known.Constant axis sort) is))
      (reaches_then s top m m1 m2 u _ (record { events = ending (constant_tree axis (sort_of sort)); outcome = constant_tree axis (sort_of sort) }) _ r refl refl reach h)

  pub alone_function : (i : ℕ) (params : Bor (List code_parameter.Parameter)) (body : ℕ) (r : Result Next Stop) → IsHead x top n ls (Some (head.Function i params body)) →
      Turns m1 m2 s top (meaning as_work (work_names s top i) (expression_at s body)) (meaning bounding (bound_names_of s top i) (expression_at s body)) r → Answers r
  alone_function i params body r is h =
      reaches_same s top m m2 _ _ _ _ r (alone_named as_work names at x _ is.0 (known_work m s top n ls names bnames knows x i (known.Function params body) is)) (alone_named bounding bnames at x _ is.0 (known_bounds m s top n ls names bnames knows x i (known.Function params body) is))
      (reaches_then s top m m1 m2 u _ (call_work s top at (head.Function i params body) []) (call_bounds s top (head.Function i params body) []) r refl refl reach
      (turns_same s top m1 m2 _ (meaning as_work (work_names s top i) (expression_at s body)) _ (meaning bounding (bound_names_of s top i) (expression_at s body)) r
      (ap (λ ns. (meaning as_work (ns ++ work_names s top i) (expression_at s body)).events) (bound-none (map parameter_of params.now)))
      (ap (λ ns. (meaning as_work (ns ++ work_names s top i) (expression_at s body)).outcome) (bound-none (map parameter_of params.now)))
      (ap (λ ns. meaning bounding (ns ++ bound_names_of s top i) (expression_at s body)) (bound-none (map parameter_of params.now))) h))

module _ (m : Making) (s : arena.Sexps) (top : List Top) (n : ℕ) (ls : List Local) (names : Names Work) (bnames : Names Bounding) (knows : Knows m s top n ls names bnames) (x : List ℕ) (at : Place) where
  -- the events of a known name alone begin so
  pub alone_begins : (h : Head) → IsHead x top n ls (Some h) → (rest : List Event) × ((name_meaning as_work names at x (found x operators)).events ≡ reached ∷ rest)
  alone_begins (head.Operator o) is = (_, ap (λ (y : Work). y.events) (alone_operator as_work names at x _ is))
  alone_begins (head.Local v) is = let f = local_known m s top n ls names bnames knows x v is in (_, ap (λ (y : Work). y.events) (alone_named as_work names at x (value f.work) is.0 f.works))
  alone_begins (head.Constant i axis sort) is = (_, ap (λ (y : Work). y.events) (alone_named as_work names at x _ is.0 (known_work m s top n ls names bnames knows x i (known.Constant axis sort) is)))
  alone_begins (head.Function i params body) is = (_, ap (λ (y : Work). y.events) (alone_named as_work names at x _ is.0 (known_work m s top n ls names bnames knows x i (known.Function params body) is)))
