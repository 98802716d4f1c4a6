use Rattle.std.proofs.Common.{rules, arith, ◌≡◌, ◌+◌, subst, ℕ}
use Rattle.steal_pool.specs.Links.{AllLookedInVain}
use Rattle.steal_pool.proofs.Sweeps.{goes_on, then_steals, all_alike}
use Rattle.steal_pool.proofs.hand.steal_within.Goals as goal

pub loop-k-preserved : goal.loop-k-preserved
loop-k-preserved g c = goes_on c.args.links.now c.loop-k.links c.steal_at.new.links c.args.from c.loop-k.k (c.loop-k.k + 1) (search rules) (omega arith) c.loop-k.invariant (search rules)

pub returns : goal.returns
returns g c =
    let all : c.loop-k.k ≡ c.args.to = search rules in
    subst (λ (n : ℕ). AllLookedInVain c.args.links.now c.loop-k.links c.args.from n) all c.loop-k.invariant

pub returns-in-Some : goal.returns-in-Some
returns-in-Some g c = then_steals c.args.links.now c.loop-k.links c.steal_at.new.links c.in-Some.id (all_alike _ _ c.args.from c.loop-k.k c.loop-k.invariant) (search rules)
