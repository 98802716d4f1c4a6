-- Nodes without an adjoint add nothing: a sweep passes over them.
use Rattle.std.proofs.Common.{◌≡◌, ℕ, zero, suc, ◌+◌, ◌<◌, ◌≤◌, List, Option, Some, None, refl, ap, ap₂, ◌∙◌, arith}
use Rattle.std.specs.Prelude.{slice_get}
use Rattle.interval_model.specs.Interval.{Interval}
use Rattle.poly_graph.specs.Term.{Node, constant_node, variable_node, negate_node, add_node, multiply_node, square_node}
use Rattle.cover_model.specs.Combination.{Adjoints, Expansion, expanded, next_adjoints, next_squares, next_expansion, swept}

nothing-added : (es cs : List Interval) (k : ℕ) (n : Node) (e : Expansion) → expanded es cs k None None n e ≡ e
nothing-added es cs k (constant_node q) e = refl
nothing-added es cs k (variable_node a) e = refl
nothing-added es cs k (negate_node a) e = refl
nothing-added es cs k (add_node a b) e = refl
nothing-added es cs k (multiply_node a b) e = refl
nothing-added es cs k (square_node a) e = refl

nothing-next : (es cs : List Interval) (k : ℕ) (m : Option Node) (e : Expansion) → next_expansion es cs k None None m e ≡ e
nothing-next es cs k None e = refl
nothing-next es cs k (Some n) e = nothing-added es cs k n e

module _ (nodes : List Node) (es cs : List Interval) where
  silent : (p : ℕ) (os qs : Adjoints) (e : Expansion) → os p ≡ None → qs p ≡ None → swept nodes es cs (suc p) os qs e ≡ swept nodes es cs p os qs e
  silent p os qs e f g =
      ap₂ (λ (o q : Option Interval). swept nodes es cs p (next_adjoints cs o (slice_get nodes p) os) (next_squares o (slice_get nodes p) qs) (next_expansion es cs p o q (slice_get nodes p) e)) f g
      ∙ ap (λ (x : Expansion). swept nodes es cs p os qs x) (nothing-next es cs p (slice_get nodes p) e)

  pub skipped : (d p q : ℕ) (os qs : Adjoints) (e : Expansion) → q + d ≡ p → ((k : ℕ) → q ≤ k → k < p → os k ≡ None) → ((k : ℕ) → q ≤ k → k < p → qs k ≡ None) →
      swept nodes es cs p os qs e ≡ swept nodes es cs q os qs e
  skipped zero p q os qs e h f g = let same : p ≡ q = omega arith in ap (λ (x : ℕ). swept nodes es cs x os qs e) same
  skipped (suc d) p q os qs e h f g =
      let same : p ≡ suc (q + d) = omega arith in
      ap (λ (x : ℕ). swept nodes es cs x os qs e) same ∙ silent (q + d) os qs e (f (q + d) (omega arith) (omega arith)) (g (q + d) (omega arith) (omega arith))
      ∙ skipped d (q + d) q os qs e refl (λ k a b. f k a (omega arith)) (λ k a b. g k a (omega arith))
