use Rattle.std.proofs.Common.{◌≡◌, ℕ, suc, ◌-◌, length, ap, ◌∙◌, arith}
use Rattle.square_model.specs.Positive.{marked_below}
use Rattle.squares.proofs.Marking.{visited_length}
use Rattle.squares.proofs.marks.mark_below.Goals as goal

pub visit-requires-clause-order : goal.visit-requires-clause-order
visit-requires-clause-order c = c.len-left.ensures.graph.ordered

pub loop-left-preserved : goal.loop-left-preserved
loop-left-preserved c =
    let nodes = c.args.graph.now in let marks = c.loop-left.marks in let k : ℕ = c.loop-left.left - 1 in
    let next : suc k ≡ c.loop-left.left = omega (arith, c.loop-left-test.true) in
    record {
      inside = omega (arith, c.loop-left.invariant.inside);
      count = ap length c.visit.ensures ∙ visited_length nodes k marks ∙ c.loop-left.invariant.count;
      same = ap (marked_below nodes k) c.visit.ensures ∙ ap (λ (j : ℕ). marked_below nodes j marks) next ∙ c.loop-left.invariant.same;
    }
