use Rattle.std.proofs.Common.{◌≡◌, ◌+◌, ◌-◌, ℕ, Some, subst, arith}
use Rattle.std.specs.Prelude.{slice_get}
use Rattle.dpoly.proofs.Planning.{parts_in}
use Rattle.dpoly.proofs.located.last_problem.Goals as goal

pub loop-k-init : goal.loop-k-init
loop-k-init c = record { some = omega arith; at = c.in_ok-problem.ensures }

pub loop-k-preserved : goal.loop-k-preserved
loop-k-preserved c =
    let k : ℕ = c.loop-k.k in
    let next : k - 1 + 1 ≡ k + 1 - 1 = omega (arith, c.loop-k.invariant.some) in
    record { some = omega arith; at = subst (λ (n : ℕ). slice_get (parts_in c.args.session.now) n ≡ Some c.in_ok-problem-2.problem) next c.in_ok-problem-2.ensures }
