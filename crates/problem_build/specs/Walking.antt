-- What the walk over an expression answers, and what is left to be done while it goes on.
use Rattle.std.specs.Prelude.{◌≡◌, ℕ, List, [], ◌∷◌, ◌++◌, map, None, Result, Ok, Err}
use Rattle.script_model.specs.Sexp.{Place}
use Rattle.script_model.specs.Reading.{Meanings, Names, value, meaning, meanings, binding_meanings, values_bound, malformed}
use Rattle.script_model.specs.Script.{bound_to}
use Rattle.script_model.specs.Declared.{Bounding, bounding, bounding_operation, other}
use Rattle.script_forms.specs.Terms.{Unfolded}
use Rattle.script_forms.specs.Unfolded.{first_fault, operation_tree}
use Rattle.script_forms.specs.Walk.{after_events}
use Rattle.script_forms.specs.Work.{Event, reached, Work, as_work, outcome_of, events_of, operator_events}
use Rattle.smt_sexp.specs.Arena.{expression_at, rest_of}
use Rattle.smt_sexp.specs.Views.{place_of}
use Rattle.script_fault.specs.declared.place.Place as code
use Rattle.smt_sexp.specs.declared.sexps.Sexps as arena
use Rattle.smt_script.specs.Views.{parameter_of}
use Rattle.sort_check.specs.Views.{operator_of}
use Rattle.term_build.specs.Built.{stand_of}
use Rattle.term_build.specs.Does.{StopsAs}
use Rattle.term_build.specs.declared.stop.Stop.{Stop}
use Rattle.term_build.specs.declared.stop.Stop.TheVariants as stop
use Rattle.term_build.specs.declared.stop.Fault.TheVariants.{IllFormed}
use Rattle.value_build.specs.Making.{Making, Steps}
use Rattle.value_build.specs.Values.{IsValue, AreValues, AreKnown}
use Rattle.value_build.specs.declared.value.Value.{Value}
use Rattle.problem_build.specs.Names.{work_names, bound_names_of, AreLocals, Knows}
use Rattle.problem_build.specs.declared.top.Top.{Top}
use Rattle.problem_build.specs.declared.locals.Local.{Local}
use Rattle.problem_build.specs.declared.names.Head.{Head}
use Rattle.problem_build.specs.declared.names.Head.TheVariants as head
use Rattle.problem_build.specs.declared.frames.Scope.{Scope}
use Rattle.problem_build.specs.declared.frames.Call.{Call}
use Rattle.problem_build.specs.declared.frames.Let.{Let}
use Rattle.problem_build.specs.declared.frames.Frame.{Frame}
use Rattle.problem_build.specs.declared.frames.Frame.TheVariants as frame
use Rattle.problem_build.specs.declared.frames.Next.{Next}
use Rattle.problem_build.specs.declared.frames.Next.TheVariants as next

-- the walk over these events stops so
abbrev pub Fails : Making → List Event → Stop → Type 0
Fails m es e = (claim : Place) → StopsAs claim (after_events claim (stand_of m.made) es) e

-- the work is done, and what is answered is its value
abbrev pub IsWorkValue : Making → Making → Work → Bounding → Result Value Stop → Type 0
IsWorkValue old new w b r = Steps old new w.events r (IsValue new w.outcome b)

-- an expression without a sort
abbrev pub IsIll : {X : Type 0} → code.Place → Result X Stop → Type 0
IsIll at r = r ≡ Err (stop.Fault at IllFormed)

-- the scope sees so many names of the top, and these locals
abbrev pub IsScope : Scope → ℕ → List Local → Type 0
IsScope scope n ls = (scope.visible ≡ n) × (scope.locals.value ≡ ls)

-- what the names of a scope stand for, in both meanings
abbrev pub KnowsScope : Making → arena.Sexps → List Top → Scope → Names Work → Names Bounding → Type 0
KnowsScope m s top scope names bnames = Knows m s top scope.visible scope.locals.value names bnames

-- a value that is made goes back
abbrev pub returned : Result Value Stop → Result Next Stop
returned (Ok v) = Ok (next.Back v)
returned (Err e) = Err e

-- ---- what is left to be done

-- what is done behind the arguments of a call
abbrev pub call_work : arena.Sexps → List Top → Place → Head → List Work → Work
call_work s top at (head.Operator o) ws = record { events = operator_events at (operator_of o) (map outcome_of ws); outcome = operation_tree at (operator_of o) (map outcome_of ws) }
call_work s top at (head.Function i params body) ws = meaning as_work (bound_to (map parameter_of params.now) ws ++ work_names s top i) (expression_at s body)
call_work s top at h ws = as_work.nothing at malformed

abbrev pub call_bounds : arena.Sexps → List Top → Head → List Bounding → Bounding
call_bounds s top (head.Operator o) bs = bounding_operation (operator_of o) bs
call_bounds s top (head.Function i params body) bs = meaning bounding (bound_to (map parameter_of params.now) bs ++ bound_names_of s top i) (expression_at s body)
call_bounds s top h bs = other

-- of a call: behind these arguments those from this place on, and then what is called
pub record IsCall (s : arena.Sexps) (top : List Top) (at : code.Place) (h : Head) (place : ℕ) (names : Names Work) (bnames : Names Bounding) (ws : List Work) (bs : List Bounding) (w : Work) (b : Bounding) : Type 0 where
  pub events : w.events ≡ events_of (meanings as_work names (rest_of s place)) ++ (call_work s top (place_of at) h (ws ++ meanings as_work names (rest_of s place))).events
  pub outcome : first_fault (map outcome_of (ws ++ meanings as_work names (rest_of s place))) ≡ None → w.outcome ≡ (call_work s top (place_of at) h (ws ++ meanings as_work names (rest_of s place))).outcome
  pub bound : b ≡ call_bounds s top h (bs ++ meanings bounding bnames (rest_of s place))

-- of a `let`: behind these bindings those from this place on, and then its body
pub record IsLet (s : arena.Sexps) (place body : ℕ) (names : Names Work) (bnames : Names Bounding) (ns : Names Work) (bs : Names Bounding) (w : Work) (b : Bounding) : Type 0 where
  pub events : w.events ≡ events_of (values_bound (binding_meanings as_work names (rest_of s place))) ++ (meaning as_work ((ns ++ binding_meanings as_work names (rest_of s place)) ++ names) (expression_at s body)).events
  pub outcome : first_fault (map outcome_of (values_bound (ns ++ binding_meanings as_work names (rest_of s place)))) ≡ None →
      w.outcome ≡ (meaning as_work ((ns ++ binding_meanings as_work names (rest_of s place)) ++ names) (expression_at s body)).outcome
  pub bound : b ≡ meaning bounding ((bs ++ binding_meanings bounding bnames (rest_of s place)) ++ bnames) (expression_at s body)

-- what a call goes on with, whose first arguments have values
pub record Calls (m : Making) (s : arena.Sexps) (top : List Top) (c : Call) (w : Work) (b : Bounding) : Type 0 where
  pub names : Names Work
  pub bnames : Names Bounding
  pub knows : KnowsScope m s top c.scope names bnames
  pub done : List Work
  pub bounded : List Bounding
  pub values : AreValues m (map outcome_of done) bounded c.values.items
  pub call : IsCall s top c.place c.head c.next names bnames done bounded w b

-- the same, where one argument more is in work, which gets a value of this outcome and bound
pub record CallWaits (m : Making) (s : arena.Sexps) (top : List Top) (c : Call) (u : Unfolded) (d : Bounding) (w : Work) (b : Bounding) : Type 0 where
  pub names : Names Work
  pub bnames : Names Bounding
  pub knows : KnowsScope m s top c.scope names bnames
  pub done : List Work
  pub bounded : List Bounding
  pub values : AreValues m (map outcome_of done) bounded c.values.items
  pub here : Work
  pub is : here.outcome ≡ u
  pub call : IsCall s top c.place c.head c.next names bnames (done ++ (here ∷ [])) (bounded ++ (d ∷ [])) w b

-- what a `let` goes on with, whose first names are bound
pub record Lets (m : Making) (s : arena.Sexps) (top : List Top) (l : Let) (w : Work) (b : Bounding) : Type 0 where
  pub names : Names Work
  pub bnames : Names Bounding
  pub knows : KnowsScope m s top l.scope names bnames
  pub done : Names Work
  pub bounded : Names Bounding
  pub stand : AreLocals m l.bound done bounded
  pub binds : IsLet s l.next l.body names bnames done bounded w b

-- the same, where this name is to be bound to a value of this outcome and bound
pub record LetWaits (m : Making) (s : arena.Sexps) (top : List Top) (l : Let) (x : List ℕ) (u : Unfolded) (d : Bounding) (w : Work) (b : Bounding) : Type 0 where
  pub names : Names Work
  pub bnames : Names Bounding
  pub knows : KnowsScope m s top l.scope names bnames
  pub done : Names Work
  pub bounded : Names Bounding
  pub stand : AreLocals m l.bound done bounded
  pub here : Work
  pub is : here.outcome ≡ u
  pub binds : IsLet s l.next l.body names bnames (done ++ ((x, value here) ∷ [])) (bounded ++ ((x, value d) ∷ [])) w b

-- what is done behind a value of this outcome and bound
abbrev pub Waits : Making → arena.Sexps → List Top → Frame → Unfolded → Bounding → Work → Bounding → Type 0
Waits m s top (frame.Call c) u d w b = CallWaits m s top c u d w b
Waits m s top (frame.Let l x) u d w b = LetWaits m s top l x.now u d w b

-- what waits keeps values
abbrev pub KnowsValues : Making → Frame → Type 0
KnowsValues m (frame.Call c) = AreKnown m c.values.items
KnowsValues m (frame.Let l x) = Unit {0}

-- the work of an expression
pub record Enters (m : Making) (s : arena.Sexps) (top : List Top) (scope : Scope) (at : ℕ) (w : Work) (b : Bounding) : Type 0 where
  pub names : Names Work
  pub bnames : Names Bounding
  pub knows : KnowsScope m s top scope names bnames
  pub work : w ≡ meaning as_work names (expression_at s at)
  pub bound : b ≡ meaning bounding bnames (expression_at s at)

-- the work of an expression, and of what waits for its value
pub record EntersWithin (m : Making) (s : arena.Sexps) (top : List Top) (f : Frame) (scope : Scope) (at : ℕ) (w : Work) (b : Bounding) : Type 0 where
  pub here : Work
  pub held : Bounding
  pub after : Work
  pub enters : Enters m s top scope at here held
  pub waits : Waits m s top f here.outcome held after b
  pub events : w.events ≡ here.events ++ after.events
  pub outcome : w.outcome ≡ after.outcome

-- this work is left where this is done next, for a value of this bound
abbrev pub Leaves : Making → arena.Sexps → List Top → Next → Work → Bounding → Type 0
Leaves m s top (next.Back v) w b = (w.events ≡ []) × IsValue m w.outcome b v
Leaves m s top (next.Enter scope at) w b = Enters m s top scope at w b
Leaves m s top (next.Wait f scope at) w b = EntersWithin m s top f scope at w b

-- ---- a turn of the walk

-- some of the work is done, and the rest is left
pub record WorkStep (old new : Making) (s : arena.Sexps) (top : List Top) (w : Work) (b : Bounding) (n : Next) : Type 0 where
  pub done : List Event
  pub left : Work
  pub steps : Steps {X = Unit {0}} old new done (Ok tt) (λ _. Unit {0})
  pub leaves : Leaves new s top n left b
  pub events : w.events ≡ done ++ left.events
  pub outcome : w.outcome ≡ left.outcome

abbrev pub Turns : Making → Making → arena.Sexps → List Top → Work → Bounding → Result Next Stop → Type 0
Turns old new s top w b (Ok n) = WorkStep old new s top w b n
Turns old new s top w b (Err e) = Fails old w.events e

-- an expression is reached, some of its work is done, and the rest is left
pub record ReachedWorkStep (old new : Making) (s : arena.Sexps) (top : List Top) (w : Work) (b : Bounding) (n : Next) : Type 0 where
  pub middle : Making
  pub after : Work
  pub reach : Steps {X = Unit {0}} old middle (reached ∷ []) (Ok tt) (λ _. Unit {0})
  pub goes : WorkStep middle new s top after b n
  pub events : w.events ≡ reached ∷ after.events
  pub outcome : w.outcome ≡ after.outcome

abbrev pub Reaches : Making → Making → arena.Sexps → List Top → Work → Bounding → Result Next Stop → Type 0
Reaches old new s top w b (Ok n) = ReachedWorkStep old new s top w b n
Reaches old new s top w b (Err e) = Fails old w.events e

-- the same of both meanings of what is read in a scope, where its names stand for what they do
abbrev pub ReachesMeaning : Making → Making → arena.Sexps → List Top → Scope → ((V : Type 0) → Meanings V → Names V → V) → Result Next Stop → Type 0
ReachesMeaning old new s top scope read r = (names : Names Work) (bnames : Names Bounding) → KnowsScope old s top scope names bnames →
    Reaches old new s top (read Work as_work names) (read Bounding bounding bnames) r
