-- Axes of nodes to which nothing is put are passed over.
use Rattle.std.proofs.Common.{◌≡◌, ℕ, zero, suc, ◌+◌, ◌<◌, ◌≤◌, List, length, get_or, drop, Option, None, refl, ap, sym, ◌∙◌, arith}
use Rattle.interval_model.specs.Interval.{Interval}
use Rattle.interval_model.specs.Space.{Space}
use Rattle.poly_graph.specs.Term.{Node, constant_node, variable_node, negate_node, add_node, multiply_node, square_node}
use Rattle.cover_model.specs.Narrowed.{with_axes}
use Rattle.cover_model.specs.AxisStep.{axis_step}
use Rattle.cover_model.proofs.Axes.{axes_next}
use Rattle.plain_eval.proofs.CombinedSweeps.{some_node}

step-none : (n : Node) (space : Space) → axis_step n None space ≡ space
step-none (constant_node q) space = refl
step-none (variable_node a) space = refl
step-none (negate_node a) space = refl
step-none (add_node a b) space = refl
step-none (multiply_node a b) space = refl
step-none (square_node a) space = refl

pub axes_skip : (nodes : List Node) (opts : List (Option Interval)) (space : Space) (d p q : ℕ) → q + d ≡ p → p ≤ length nodes → length opts ≡ length nodes →
    ((k : ℕ) → q ≤ k → k < p → get_or opts k None ≡ None) → with_axes (drop p nodes) (drop p opts) space ≡ with_axes (drop q nodes) (drop q opts) space
axes_skip nodes opts space zero p q e l c f = let same : p ≡ q = omega arith in ap (λ (x : ℕ). with_axes (drop x nodes) (drop x opts) space) same
axes_skip nodes opts space (suc d) p q e l c f =
    let inside : q < length nodes = omega arith in let n = some_node nodes q inside in
    axes_skip nodes opts space d p (q + 1) (omega arith) l c (λ k h j. f k (omega arith) j)
    ∙ sym (step-none n.0 (with_axes (drop (q + 1) nodes) (drop (q + 1) opts) space))
    ∙ axes_next nodes opts space q n.0 None n.1 (omega (arith, inside, c)) (sym (f q (omega arith) (omega arith)))
