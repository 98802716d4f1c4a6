use Rattle.std.proofs.Common.{rules, ◌≡◌, ℕ, List, length, drop, sym, subst}
use Rattle.steal_pool.specs.declared.hand.Hand.{Hand}
use Rattle.steal_pool.specs.Pool.{AreLinked, IsNewPool}
use Rattle.steal_pool.proofs.Rows.{take_front}
use Rattle.steal_pool.proofs.NewPools.{new_pool}
use Rattle.steal_pool.proofs.pool.Pool.new.Goals as goal

pub returns : goal.returns
returns c =
    let new : List Hand = c.link_pool.new.hands in
    let items : List Hand = c.in_ok-hands.hands.items in
    let told : AreLinked (length c.as_mut_slice.result.now) new = search rules in
    let same : length c.as_mut_slice.result.now ≡ c.args.n = search rules in
    let len : length new ≡ c.in_ok-hands.hands.len = search rules in
    subst (λ (z : ℕ × List Hand). IsNewPool z.0 z.1) (λ i. (same i, sym (take_front new (drop (length new) items) c.in_ok-hands.hands.len len) i)) (new_pool (length c.as_mut_slice.result.now) new told)
