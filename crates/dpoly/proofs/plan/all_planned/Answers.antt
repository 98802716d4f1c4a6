use Rattle.std.proofs.Common.{◌≡◌, ◌+◌, ◌-◌, ◌++◌, ◌∙◌, ℕ, List, ap, subst, arith}
use Rattle.dpoly.proofs.Planning.{PlannedSoFar, planned_first, planned_more, planned_all}
use Rattle.dpoly.proofs.plan.all_planned.Goals as goal

pub loop-k-init : goal.loop-k-init
loop-k-init c = record {
  some = omega arith;
  planned = planned_first c.args.session.now c.args.delta_bits c.args.margin_bits c.in_ok-problem.problem c.in_ok-text.text.items c.in_ok-problem.ensures c.in_ok-text.ensures;
}

pub loop-k-preserved : goal.loop-k-preserved
loop-k-preserved c =
    let k : ℕ = c.loop-k.k in
    let all : List ℕ = c.extend_from_slice.new.self.items in
    let next : k - 1 + 1 ≡ k + 1 - 1 = omega (arith, c.loop-k.invariant.some) in
    record {
      some = omega arith;
      planned = subst (λ (n : ℕ). PlannedSoFar c.args.session.now c.args.delta_bits c.args.margin_bits n c.in_ok-problem-2.problem all) next
          (planned_more c.args.session.now c.args.delta_bits c.args.margin_bits (k - 1) c.loop-k.problem c.in_ok-problem-2.problem c.loop-k.text.items c.in_ok-one.one.items all c.loop-k.invariant.planned
          c.in_ok-problem-2.ensures c.in_ok-one.ensures (c.in_ok-extend_from_slice.ensures.items ∙ ap (λ (t : List ℕ). c.loop-k.text.items ++ t) c.deref.ensures.value));
    }

pub returns : goal.returns
returns c =
    planned_all c.args.session.now c.args.delta_bits c.args.margin_bits (c.loop-k.k - 1) c.loop-k.problem c.loop-k.text.items c.loop-k.invariant.planned
    (omega (arith, c.loop-k-test.false, c.len-k-end.ensures, c.loop-k.invariant.some))
