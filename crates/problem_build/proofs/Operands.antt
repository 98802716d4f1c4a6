-- An operator at two expressions that are walked one after the other.
use Rattle.std.proofs.Common.{◌≡◌, List, [], ◌∷◌, ◌++◌, ap, sym, ◌∙◌, subst, append_assoc, append-nil}
use Rattle.std.specs.Prelude.{Result, Ok}
use Rattle.script_model.specs.Sexp.{Place}
use Rattle.script_model.specs.Reading.{Operator}
use Rattle.script_model.specs.Declared.{Bounding, bounding_operation}
use Rattle.script_forms.specs.Unfolded.{operation_tree}
use Rattle.script_forms.specs.Work.{Event, reached, Work, as_work, operator_events}
use Rattle.term_build.specs.declared.stop.Stop.{Stop}
use Rattle.value_build.specs.Making.{Making, Steps}
use Rattle.value_build.specs.Values.{IsValue, AreValues, Operates}
use Rattle.value_build.specs.declared.value.Value.{Value}
use Rattle.value_build.proofs.Growth.{value_stays, steps_then}
use Rattle.problem_build.specs.Walking.{Fails, IsWorkValue}
use Rattle.problem_build.proofs.Steps.{fails_on, fails_then}

-- an expression is reached
abbrev pub Reaches : Making → Making → Type 0
Reaches m m1 = Steps {X = Unit {0}} m m1 (reached ∷ []) (Ok tt) (λ _. Unit {0})

-- a work of two parts
pub reached_then : (m m1 m2 : Making) (es : List Event) (P : Value → Type 0) (r : Result Value Stop) → Reaches m m1 → Steps m1 m2 es r P → Steps m m2 (reached ∷ es) r P
reached_then m m1 m2 es P r h k = steps_then (λ (x : Unit {0}). Unit {0}) P m m1 m2 (reached ∷ []) es tt r h k

pub unreached : (m : Making) (es : List Event) (e : Stop) → Fails m (reached ∷ []) e → Fails m (reached ∷ es) e
unreached m es e h = fails_on m (reached ∷ []) es e h

pub reached_fails : (m m1 : Making) (es : List Event) (e : Stop) → Reaches m m1 → Fails m1 es e → Fails m (reached ∷ es) e
reached_fails m m1 es e h k = fails_then (λ (x : Unit {0}). Unit {0}) m m1 (reached ∷ []) es tt e h k

module _ (at : Place) (op : Operator) (w x : Work) (b d : Bounding) where
  ops : List Event
  ops = operator_events at op (w.outcome ∷ x.outcome ∷ [])

  in-order : (as_work.apply at op (w ∷ x ∷ [])).events ≡ reached ∷ (w.events ++ (x.events ++ ops))
  unfolding ops
  in-order = ap (λ es. reached ∷ es) (append_assoc w.events (x.events ++ []) ops ∙ ap (λ es. w.events ++ (es ++ ops)) (append-nil x.events))

  -- the values of both, where both are made
  pub two_known : (m1 m2 m3 : Making) (v y : Value) → IsWorkValue m1 m2 w b (Ok v) → IsWorkValue m2 m3 x d (Ok y) → AreValues m3 (w.outcome ∷ x.outcome ∷ []) (b ∷ d ∷ []) (v ∷ y ∷ [])
  two_known m1 m2 m3 v y h k = (value_stays m2 m3 w.outcome b v k.1.0 h.1.1, (k.1.1, tt))

  pub two_done : (m m1 m2 m3 m4 : Making) (v y : Value) (r : Result Value Stop) → Reaches m m1 → IsWorkValue m1 m2 w b (Ok v) → IsWorkValue m2 m3 x d (Ok y) → Operates m3 m4 at op (v ∷ y ∷ []) r →
      IsWorkValue m m4 (as_work.apply at op (w ∷ x ∷ [])) (bounding_operation op (b ∷ d ∷ [])) r
  unfolding ops
  two_done m m1 m2 m3 m4 v y r reach h k o =
      let P : Value → Type 0 = IsValue m4 (operation_tree at op (w.outcome ∷ x.outcome ∷ [])) (bounding_operation op (b ∷ d ∷ [])) in
      subst (λ (es : List Event). Steps m m4 es r P) (sym in-order)
      (reached_then m m1 m4 (w.events ++ (x.events ++ ops)) P r reach
      (steps_then (IsValue m2 w.outcome b) P m1 m2 m4 w.events (x.events ++ ops) v r h
      (steps_then (IsValue m3 x.outcome d) P m2 m3 m4 x.events ops y r k
      (o (w.outcome ∷ x.outcome ∷ []) (b ∷ d ∷ []) (two_known m1 m2 m3 v y h k)))))

  -- it stops before the first, in it or in the second
  pub none_reached : (m : Making) (e : Stop) → Fails m (reached ∷ []) e → Fails m (as_work.apply at op (w ∷ x ∷ [])).events e
  none_reached m e h = subst (λ (es : List Event). Fails m es e) (sym in-order) (unreached m (w.events ++ (x.events ++ ops)) e h)

  pub first_fails : (m m1 : Making) (e : Stop) → Reaches m m1 → Fails m1 w.events e → Fails m (as_work.apply at op (w ∷ x ∷ [])).events e
  first_fails m m1 e reach h = subst (λ (es : List Event). Fails m es e) (sym in-order)
      (reached_fails m m1 (w.events ++ (x.events ++ ops)) e reach (fails_on m1 w.events (x.events ++ ops) e h))

  pub second_fails : (m m1 m2 : Making) (v : Value) (e : Stop) → Reaches m m1 → IsWorkValue m1 m2 w b (Ok v) → Fails m2 x.events e → Fails m (as_work.apply at op (w ∷ x ∷ [])).events e
  second_fails m m1 m2 v e reach h k = subst (λ (es : List Event). Fails m es e) (sym in-order)
      (reached_fails m m1 (w.events ++ (x.events ++ ops)) e reach
      (fails_then (IsValue m2 w.outcome b) m1 m2 w.events (x.events ++ ops) v e h (fails_on m2 x.events ops e k)))
