-- The end of a part, and the part behind it.
use Rattle.std.proofs.Common.{◌≡◌, ℕ, suc, ◌+◌, ◌≤◌, List, [], ◌∷◌, ◌++◌, length, map, drop, cond, Bool, true, false, not, ◌&&◌, Option, Some, None, refl, ap, ap₂, sym, ◌∙◌, subst, All, arith}
use Rattle.std.proofs.lemmas.List.{map-append, drop_all}
use Rattle.std.specs.Borrow.{Bor}
use Rattle.interval_model.specs.Space.{Space}
use Rattle.poly_graph.specs.Problem.{Axis, first_crossed}
use Rattle.poly_graph.specs.ProblemViews.{Parts, problem_of}
use Rattle.problem_session.specs.Session.{problems_of}
use Rattle.cover_model.specs.Carried.{carried, GoesOnFrom}
use Rattle.cover_model.specs.State as model
use Rattle.cover_model.specs.State.{State}
use Rattle.cert_model.specs.Due.{Value, left_open, Standing, Due, tree_due, end_due, nothing_due, axis_next, coordinate_next, is_some_axis, is_crossed_box}
use Rattle.cert_model.specs.Session as parts
use Rattle.cert_model.specs.Session.{SessionDue, part_due, inside_due, all_done, next_part, inside, kept_by}
use Rattle.cert_check.specs.declared.loosenings.Loosenings.{Loosenings}
use Rattle.cert_check.specs.declared.part.Outcome.{Outcome}
use Rattle.cert_check.specs.declared.part.Outcome.TheVariants.{Point, Left}
use Rattle.cert_check.specs.declared.part.Part.{Part}
use Rattle.cert_check.specs.declared.due.Due as held
use Rattle.cert_check.specs.declared.due.Due.TheVariants as due
use Rattle.cert_check.specs.declared.due.Value as value
use Rattle.cert_check.specs.declared.due.Value.TheVariants as kept
use Rattle.cert_check.specs.declared.tools.Tools.{Tools}
use Rattle.ival.specs.SpaceViews.{space_of}
use Rattle.cert_check.specs.Behind.{pending_of}
use Rattle.cert_check.specs.States.{HasMore, state_of, loosenings_of}
use Rattle.cert_check.specs.Dues.{AllFit, blanks, due_of, lean, lean_left, lemmas_of, value_of}
use Rattle.cert_check.specs.Work.{Work, together, brief, lean_session}
use Rattle.cert_check.specs.Works.{outcome_value, values_of, checks_from, part_of, spent_part_of, IsPlace}
use Rattle.cert_check.proofs.Leans.{length_blanks, behind_lean}
use Rattle.cert_check.proofs.Sessions.{more_axes, more_atoms, problem_at, extends_at, from_check, goes_on_next}
use Rattle.cert_check.proofs.Waits.{lean_axis, lean_coordinate}

-- ---- values

outcome-brief : (o : Outcome) → brief (outcome_value o) ≡ outcome_value o
outcome-brief Point = refl
outcome-brief (Left n) = ap (λ (k : ℕ). left_open (blanks k)) (length_blanks n)

pub values_brief : (os : List Outcome) → map brief (values_of os) ≡ values_of os
values_brief [] = refl
values_brief (o ∷ os) = ap₂ (λ (v : Value) (vs : List Value). v ∷ vs) (outcome-brief o) (values_brief os)

-- one more value
pub values_more : (os : List Outcome) (o : Outcome) (v : Value) → outcome_value o ≡ brief v → map brief (values_of os ++ (v ∷ [])) ≡ map brief (values_of (os ++ (o ∷ [])))
values_more os o v e =
    map-append brief (values_of os) (v ∷ []) ∙ ap₂ (λ (vs : List Value) (x : Value). vs ++ (x ∷ [])) (values_brief os) (sym e)
    ∙ sym (map-append outcome_value os (o ∷ [])) ∙ sym (values_brief (os ++ (o ∷ [])))

-- ---- the part behind

module _ (s : Loosenings) (p : Parts) (Ls : List State) (os : List Outcome) where
  abbrev pub due_behind : List (Parts × Bool) → Work
  due_behind cs = together (lean_session (next_part (loosenings_of s) (problem_of p) Ls (values_of os) (problems_of cs)))

  pub none_behind : (cs : List (Parts × Bool)) → cs ≡ [] → due_behind cs ≡ together (all_done (loosenings_of s) (values_of os))
  none_behind cs e = ap due_behind e ∙ ap (λ (vs : List Value). together (all_done (loosenings_of s) vs)) (values_brief os)

  pub one_behind : (cs later : List (Parts × Bool)) (q : Parts) (e : Bool) (keeps : List State) → cs ≡ (q, e) ∷ later → kept_by e (problem_of p) Ls (problem_of q) ≡ keeps →
      due_behind cs ≡ together (part_due (loosenings_of s) (record { problem = problem_of q; may_keep = keeps; later = problems_of later; values = values_of os }))
  one_behind cs later q e keeps f g = ap due_behind f
      ∙ ap₂ (λ (vs : List Value) (ks : List State). together (part_due (loosenings_of s) (record { problem = problem_of q; may_keep = ks; later = problems_of later; values = vs }))) (values_brief os) g

  -- with one more value
  pub value_behind : (cs : List (Parts × Bool)) (vs : List Value) → map brief vs ≡ map brief (values_of os) →
      together (lean_session (next_part (loosenings_of s) (problem_of p) Ls vs (problems_of cs))) ≡ due_behind cs
  value_behind cs vs e = ap (λ (d : SessionDue). together d) (behind_lean (loosenings_of s) (problem_of p) Ls vs (values_of os) (problems_of cs) e)

-- ---- the lemmas that may be kept

-- the test for lemmas that may be kept
abbrev pub may_keep : Bool → Parts → Parts → Bool
may_keep e p q = e && not (is_crossed_box (problem_of p)) && not (is_crossed_box (problem_of q))

pub keeps_all : (e : Bool) (p q : Parts) (states : List State) → may_keep e p q ≡ true → map (carried (problem_of q)) states ≡ kept_by e (problem_of p) states (problem_of q)
keeps_all e p q states h = sym (ap (λ (t : Bool). cond t (map (carried (problem_of q)) states) []) h)

pub keeps_none : (e : Bool) (p q : Parts) (states : List State) → may_keep e p q ≡ false → [] ≡ kept_by e (problem_of p) states (problem_of q)
keeps_none e p q states h = sym (ap (λ (t : Bool). cond t (map (carried (problem_of q)) states) []) h)

record MayKeep (e : Bool) (q : Parts) : Type 0 where
  extends : e ≡ true
  box : first_crossed (problem_of q) ≡ None

may-keep : (q : Parts) (e u : Bool) (o : Option ℕ) → first_crossed (problem_of q) ≡ o → (e && not u && not (is_some_axis o)) ≡ true → MayKeep e q
may-keep q false u o g h = cc
may-keep q true true o g h = cc
may-keep q true false (Some i) g h = cc
may-keep q true false None g h = record { extends = refl; box = g }

pub no_crossed_axis : (e : Bool) (p q : Parts) → may_keep e p q ≡ true → first_crossed (problem_of q) ≡ None
no_crossed_axis e p q h = (may-keep q e (is_crossed_box (problem_of p)) (first_crossed (problem_of q)) refl h).box

pub more_of_each : (e : Bool) (p q : Parts) (Ss : List State) → may_keep e p q ≡ true → AllFit p Ss → (e ≡ true → GoesOnFrom (problem_of p) (problem_of q)) → All (HasMore q) Ss
more_of_each e p q Ss h fit goes =
    let g = goes (may-keep q e (is_crossed_box (problem_of p)) (first_crossed (problem_of q)) refl h).extends in
    λ k d l. record { axes = omega (arith, (fit k d l).axes, more_axes p q g); atoms = omega (arith, (fit k d l).atoms, more_atoms p q g) }

-- ---- inside a part

lean-left-blanks : (n : ℕ) → lean_left (blanks n) ≡ blanks n
lean-left-blanks n = ap blanks (length_blanks n)

pub held_lean : (p : Parts) (d : held.Due) → lean (due_of p d) ≡ due_of p d
held_lean p (due.Tree c t n) = ap (λ (l : List Standing). tree_due (loosenings_of c.loosenings) c.lemmas (state_of t.state) (pending_of t.pending) l) (lean-left-blanks n)
held_lean p (due.End c n) = ap (λ (l : List Standing). end_due (loosenings_of c.loosenings) c.lemmas (left_open l)) (lean-left-blanks n)
held_lean p (due.Nothing s (kept.Left Ls n)) = ap (λ (l : List Standing). nothing_due (loosenings_of s) Ls (left_open l)) (lean-left-blanks n)
held_lean p (due.Nothing s (kept.Point x)) = refl
held_lean p (due.Axis c space) = lean_axis (loosenings_of c.loosenings) c.count c.lemmas (drop (length (space_of space)) p.axes) (space_of space)
held_lean p (due.Coordinate s space) = lean_coordinate (loosenings_of s) (drop (length (space_of space)) p.axes) (space_of space)
held_lean p _ = refl

-- not at its end
abbrev pub IsWithin : held.Due → Type 0
IsWithin (due.Nothing s v) = ⊥
IsWithin d = Unit {0}

axis-inside : (t : parts.Part) (s : model.Loosenings) (k : ℕ) (lemmas : List State) (axes : List Axis) (space : Space) → inside t (axis_next s k lemmas axes space) ≡ inside_due t (axis_next s k lemmas axes space)
axis-inside t s k lemmas [] space = refl
axis-inside t s k lemmas (a ∷ axes) space = refl

coordinate-inside : (t : parts.Part) (s : model.Loosenings) (axes : List Axis) (space : Space) → inside t (coordinate_next s axes space) ≡ inside_due t (coordinate_next s axes space)
coordinate-inside t s [] space = refl
coordinate-inside t s (a ∷ axes) space = refl

held-inside : (t : parts.Part) (p : Parts) (d : held.Due) → IsWithin d → inside t (due_of p d) ≡ inside_due t (due_of p d)
held-inside t p (due.Nothing s v) h = absurd h
held-inside t p (due.Axis c space) h = axis-inside t (loosenings_of c.loosenings) c.count c.lemmas (drop (length (space_of space)) p.axes) (space_of space)
held-inside t p (due.Coordinate s space) h = coordinate-inside t (loosenings_of s) (drop (length (space_of space)) p.axes) (space_of space)
held-inside t p _ h = refl

pub stays_inside : (t : Part) (d : held.Due) → IsWithin d → together (lean_session (inside (spent_part_of t) (due_of t.problem d))) ≡ together (inside_due (spent_part_of t) (due_of t.problem d))
stays_inside t d h =
    ap (λ (x : SessionDue). together (lean_session x)) (held-inside (spent_part_of t) t.problem d h)
    ∙ ap₂ (λ (vs : List Value) (e : Due). together (inside_due (record (spent_part_of t) { values = vs }) e)) (values_brief t.values.items) (held_lean t.problem d)

pub is_within : (d : held.Due) → ((s : Loosenings) (v : value.Value) → d ≡ due.Nothing s v → ⊥) → IsWithin d
is_within (due.Nothing s v) h = h s v refl
is_within _ h = tt

-- ---- the next part

module _ (s : Loosenings) (t : Part) (session : Bor (List (Parts × Bool))) (here : t.session ≡ Some session) where
  from-here : (k : ℕ) → checks_from t.session k ≡ drop k session.now
  from-here k = ap (λ (o : Option (Bor (List (Parts × Bool)))). checks_from o k) here

  pub next_goes_on : (q : Parts) (e : Bool) → IsPlace t.session t.number t.problem → problem_at session.now (t.number + 1) ≡ Some q → extends_at session.now (t.number + 1) ≡ Some e → e ≡ true →
      GoesOnFrom (problem_of t.problem) (problem_of q)
  next_goes_on q e place f g h =
      let at = subst (λ (o : Option (Bor (List (Parts × Bool)))). IsPlace o t.number t.problem) here place in
      goes_on_next session.now t.number t.problem q e at.1 at.0 f g h

  pub last_part : (Ls : List State) → length session.now ≤ t.number + 1 →
      due_behind s t.problem Ls t.values.items (checks_from t.session (suc t.number)) ≡ together (all_done (loosenings_of s) (values_of t.values.items))
  last_part Ls h = none_behind s t.problem Ls t.values.items (checks_from t.session (suc t.number)) (from-here (suc t.number) ∙ drop_all (suc t.number) session.now (omega (arith, h)))

  pub next_comes : (Ls : List State) (q q' : Parts) (e : Bool) (tools : Tools) (keeps keeps' : List State) → problem_at session.now (t.number + 1) ≡ Some q → extends_at session.now (t.number + 1) ≡ Some e →
      keeps ≡ kept_by e (problem_of t.problem) Ls (problem_of q) → q' ≡ q → keeps' ≡ keeps →
      due_behind s t.problem Ls t.values.items (checks_from t.session (suc t.number))
      ≡ together (part_due (loosenings_of s) (part_of (record { session = t.session; number = t.number + 1; problem = q'; tools = tools; may_keep = keeps'; values = t.values })))
  next_comes Ls q q' e tools keeps keeps' f g h i j =
      let same : t.number + 1 ≡ suc t.number = omega arith in
      let cs : checks_from t.session (suc t.number) ≡ (q, e) ∷ checks_from t.session (suc (t.number + 1)) =
      from-here (suc t.number) ∙ from_check session.now (suc t.number) q e (ap (problem_at session.now) (sym same) ∙ f) (ap (extends_at session.now) (sym same) ∙ g)
      ∙ ap (λ (xs : List (Parts × Bool)). (q, e) ∷ xs) (ap (λ (k : ℕ). drop (suc k) session.now) (sym same) ∙ sym (from-here (suc (t.number + 1)))) in
      one_behind s t.problem Ls t.values.items (checks_from t.session (suc t.number)) (checks_from t.session (suc (t.number + 1))) q e keeps cs (sym h)
      ∙ ap₂ (λ (x : Parts) (ks : List State). together (part_due (loosenings_of s) (part_of (record { session = t.session; number = t.number + 1; problem = x; tools = tools; may_keep = ks; values = t.values })))) (sym i) (sym j)

-- ---- a part with its value

module _ (s : Loosenings) (p : Parts) (v : value.Value) (os more : List Outcome) (o : Outcome) (pushed : more ≡ os ++ (o ∷ [])) (told : outcome_value o ≡ brief (value_of v)) (cs : List (Parts × Bool)) where
  abbrev pub due_with_value : Work
  due_with_value = together (lean_session (next_part (loosenings_of s) (problem_of p) (lemmas_of v) (values_of os ++ (value_of v ∷ [])) (problems_of cs)))

  pub with_value : due_with_value ≡ due_behind s p (lemmas_of v) more cs
  with_value = value_behind s p (lemmas_of v) more cs (values_of os ++ (value_of v ∷ [])) (values_more os o (value_of v) told ∙ ap (λ (xs : List Outcome). map brief (values_of xs)) (sym pushed))

  pub only_part : cs ≡ [] → due_with_value ≡ together (all_done (loosenings_of s) (values_of more))
  only_part e = with_value ∙ none_behind s p (lemmas_of v) more cs e

  pub not_only : (Ls : List State) → Ls ≡ lemmas_of v → due_with_value ≡ due_behind s p Ls more cs
  not_only Ls e = with_value ∙ ap (λ (xs : List State). due_behind s p xs more cs) (sym e)
