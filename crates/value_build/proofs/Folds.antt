-- The steps of an arithmetic operator, one after another.
use Rattle.std.proofs.Common.{◌≡◌, ℕ, ◌<◌, List, [], ◌∷◌, length, true, false, cond, true≢false, refl, ap, sym, ◌∙◌, subst, arith}
use Rattle.std.specs.Prelude.{Result, Ok, Err, ◌==◌}
use Rattle.dyadic.specs.Fraction.{zero_fraction}
use Rattle.script_model.specs.Sexp.{Place}
use Rattle.poly_graph.specs.Term.{Term, constant}
use Rattle.poly_graph.proofs.Graphs.{length_terms}
use Rattle.script_forms.specs.Terms.{term, refused, divisor_not_constant, divide_tree, steps, negate_tree}
use Rattle.script_forms.specs.Unfolded.{unfolded_operation}
use Rattle.script_forms.specs.Work.{Event, met, divide_events, steps_events, operation_events, ending}
use Rattle.script_forms.specs.Walk.{after_events, goes_on}
use Rattle.term_build.specs.Built.{BuilderModel, stand_of}
use Rattle.term_build.specs.Does.{IsTree}
use Rattle.term_build.specs.Settled.{Extends}
use Rattle.term_build.specs.Steps.{Emits, IsTreeOf, tree_of}
use Rattle.term_build.specs.Pairs.{tree_at, trees_at}
pub use Rattle.term_build.proofs.Lists.{nil_of}
use Rattle.term_build.specs.declared.stop.Stop.{Stop}
use Rattle.term_build.proofs.Emits.{events_both, stops_so, stopped_on, tree_is, tree_below, same_tree, more_nodes}
use Rattle.term_build.proofs.Lists.{index_get}
use Rattle.term_build.proofs.Settled.{extends_self, extends_on, extends_to}
use Rattle.value_build.proofs.Plain.{plain_trees}
use Rattle.value_build.specs.Arithmetic.{AreNodes, IsFolding, is_difference, is_product, operator_of_step, tree_of_step, events_of_step}
use Rattle.value_build.specs.declared.arithmetic.Step.{Step}
use Rattle.value_build.specs.declared.arithmetic.Step.TheVariants.{Add, Subtract, Multiply, Divide}

pub nowhere : Place
nowhere = record { line = 0; column = 0 }

-- what emits grows
pub emits_grows : {X : Type 0} (P : X → Type 0) (m m1 : BuilderModel) (es : List Event) (x : X) → Emits m m1 es (Ok x) P → Extends (stand_of m) (stand_of m1)
emits_grows P m m1 es x h = extends_to (record { line = 0; column = 0 }) (stand_of m) (stand_of m1) es (h.0 (record { line = 0; column = 0 }))

pub node_there : (m : BuilderModel) (k : ℕ) → k < length m.nodes → IsTree m (tree_of m k) k
node_there m k h = index_get (stand_of m).trees k (constant zero_fraction) (omega (arith, h, length_terms m.nodes))

pub fold_begun : (step : Step) (at : Place) (m : BuilderModel) (first : ℕ) (rest : List ℕ) → first < length m.nodes → AreNodes m rest → IsFolding step at m m first rest first rest
fold_begun step at m first rest h below = record {
  sorts = refl;
  stand = extends_self (stand_of m);
  below = below;
  value = tree_of m first;
  there = node_there m first h;
  walk = λ claim. refl;
  same = refl;
}

-- the nodes of the next step stand
pub fold_first : (step : Step) (at : Place) (m now : BuilderModel) (first : ℕ) (rest : List ℕ) (k : ℕ) (left : List ℕ) → IsFolding step at m now first rest k left → k < length now.nodes
fold_first step at m now first rest k left h = tree_below now h.value k h.there

pub fold_next : (step : Step) (at : Place) (m now : BuilderModel) (first : ℕ) (rest : List ℕ) (k j : ℕ) (left : List ℕ) → IsFolding step at m now first rest k (j ∷ left) → j < length now.nodes
fold_next step at m now first rest k j left h = omega (arith, h.below.0, more_nodes m now h.stand.trees)

-- the events of the step, over the trees as they were
step-emits : (step : Step) (at : Place) (m now next : BuilderModel) (first : ℕ) (rest : List ℕ) (k j : ℕ) (left : List ℕ) (r : Result ℕ Stop) → (h : IsFolding step at m now first rest k (j ∷ left)) →
    Emits now next (events_of_step step at (tree_of now k) (tree_of now j)) r (IsTreeOf next (tree_of_step step at (tree_of now k) (tree_of now j))) →
    Emits now next (events_of_step step at h.value (tree_of m j)) r (IsTreeOf next (tree_of_step step at h.value (tree_of m j)))
step-emits step at m now next first rest k j left r h e =
    subst (λ (t : Term). Emits now next (events_of_step step at t (tree_of m j)) r (IsTreeOf next (tree_of_step step at t (tree_of m j)))) (tree_is now h.value k h.there)
    (subst (λ (u : Term). Emits now next (events_of_step step at (tree_of now k) u) r (IsTreeOf next (tree_of_step step at (tree_of now k) u))) (same_tree m now j h.stand.trees h.below.0) e)

pub fold_step : (step : Step) (at : Place) (m now next : BuilderModel) (first : ℕ) (rest : List ℕ) (k j i : ℕ) (left : List ℕ) → IsFolding step at m now first rest k (j ∷ left) →
    Emits now next (events_of_step step at (tree_of now k) (tree_of now j)) (Ok i) (IsTreeOf next (tree_of_step step at (tree_of now k) (tree_of now j))) → next.sorts ≡ now.sorts →
    IsFolding step at m next first rest i left
fold_step step at m now next first rest k j i left h e s =
    let f = tree_of_step step at in let g = events_of_step step at in let us = trees_at (stand_of m).trees left in
    let w = step-emits step at m now next first rest k j left (Ok i) h e in
    let x = emits_grows (IsTreeOf next (f h.value (tree_of m j))) now next (g h.value (tree_of m j)) i w in record {
      sorts = s ∙ h.sorts;
      stand = extends_on (stand_of m) (stand_of now) (stand_of next) h.stand x;
      below = h.below.1;
      value = w.1.0;
      there = w.1.2;
      walk = λ claim. h.walk claim ∙ events_both claim (stand_of now) (g h.value (tree_of m j)) (steps_events f g (f h.value (tree_of m j)) us)
          ∙ ap (goes_on (λ s'. after_events claim s' (steps_events f g (f h.value (tree_of m j)) us))) (w.0 claim)
          ∙ ap (λ u. after_events claim (stand_of next) (steps_events f g u us)) w.1.1;
      same = h.same ∙ ap (λ u. steps f u us) w.1.1;
    }

pub fold_stopped : (P : ℕ → Type 0) (step : Step) (at : Place) (m now next : BuilderModel) (first : ℕ) (rest : List ℕ) (k j : ℕ) (x : Stop) (left : List ℕ) → IsFolding step at m now first rest k (j ∷ left) →
    Emits now next (events_of_step step at (tree_of now k) (tree_of now j)) (Err x) (IsTreeOf next (tree_of_step step at (tree_of now k) (tree_of now j))) →
    Emits m next (steps_events (tree_of_step step at) (events_of_step step at) (tree_at (stand_of m).trees first) (trees_at (stand_of m).trees rest)) (Err x) P
fold_stopped P step at m now next first rest k j x left h e = λ claim.
    let f = tree_of_step step at in let g = events_of_step step at in let us = trees_at (stand_of m).trees left in
    let es = steps_events f g (f h.value (tree_of m j)) us in
    let w = step-emits step at m now next first rest k j left (Err x) h e in
    stops_so claim _ (goes_on (λ s'. after_events claim s' es) (after_events claim (stand_of now) (g h.value (tree_of m j)))) x
    (h.walk claim ∙ events_both claim (stand_of now) (g h.value (tree_of m j)) es)
    (stopped_on claim (after_events claim (stand_of now) (g h.value (tree_of m j))) (λ s'. after_events claim s' es) x (w claim))

pub fold_done : (step : Step) (at : Place) (m now : BuilderModel) (first : ℕ) (rest : List ℕ) (k : ℕ) → IsFolding step at m now first rest k [] →
    Emits m now (steps_events (tree_of_step step at) (events_of_step step at) (tree_at (stand_of m).trees first) (trees_at (stand_of m).trees rest)) (Ok k)
    (IsTreeOf now (steps (tree_of_step step at) (tree_at (stand_of m).trees first) (trees_at (stand_of m).trees rest)))
fold_done step at m now first rest k h = ((λ claim. h.walk claim), (h.value, h.same, h.there))

-- ---- an operator

pub calculate_folds : (step : Step) (at : Place) (m m1 : BuilderModel) (k : ℕ) (ks : List ℕ) (r : Result ℕ Stop) → is_product step ≡ false → (is_difference step ≡ true → ks ≡ [] → ⊥) →
    Emits m m1 (steps_events (tree_of_step step at) (events_of_step step at) (tree_at (stand_of m).trees k) (trees_at (stand_of m).trees ks)) r (IsTreeOf m1 (steps (tree_of_step step at) (tree_at (stand_of m).trees k) (trees_at (stand_of m).trees ks))) →
    Emits m m1 (operation_events at (operator_of_step step) (trees_at (stand_of m).trees (k ∷ ks))) r (IsTreeOf m1 (unfolded_operation at (operator_of_step step) (trees_at (stand_of m).trees (k ∷ ks))))
calculate_folds Add at m m1 k ks r p h e = e
calculate_folds Multiply at m m1 k ks r p h e = cc
calculate_folds Divide at m m1 k ks r p h e = let ts = (stand_of m).trees in let f = divide_tree at in let g = divide_events at in
    subst (λ b. Emits m m1 (cond b (met (divisor_not_constant at) ∷ []) (steps_events f g (tree_at ts k) (trees_at ts ks))) r (IsTreeOf m1 (cond b (refused (divisor_not_constant at)) (steps f (tree_at ts k) (trees_at ts ks)))))
    (sym (plain_trees ts ks)) e
calculate_folds Subtract at m m1 k [] r p h e = absurd (h refl refl)
calculate_folds Subtract at m m1 k (j ∷ ks) r p h e = e

pub calculate_negates : (step : Step) (at : Place) (m m1 : BuilderModel) (k : ℕ) (ks : List ℕ) (r : Result ℕ Stop) → is_difference step ≡ true → ks ≡ [] →
    Emits m m1 (ending (term (negate_tree (tree_of m k)))) r (IsTreeOf m1 (term (negate_tree (tree_of m k)))) →
    Emits m m1 (operation_events at (operator_of_step step) (trees_at (stand_of m).trees (k ∷ ks))) r (IsTreeOf m1 (unfolded_operation at (operator_of_step step) (trees_at (stand_of m).trees (k ∷ ks))))
calculate_negates Subtract at m m1 k [] r h e n = n
calculate_negates Subtract at m m1 k (j ∷ ks) r h e n = cc
calculate_negates Add at m m1 k ks r h e n = cc
calculate_negates Multiply at m m1 k ks r h e n = cc
calculate_negates Divide at m m1 k ks r h e n = cc

-- ---- lists

pub not_empty : {X : Type 0} (xs : List X) → false ≡ (length xs == 0) → xs ≡ [] → ⊥
not_empty [] h e = true≢false (sym h)
not_empty (x ∷ xs) h e = cc
