use Rattle.std.proofs.Common.{rules, arith, ◌≡◌, ℕ, ◌<◌, List, length, get_or, ◌∙◌, subst}
use Rattle.steal_pool.specs.declared.hand.Hand.{Hand}
use Rattle.steal_pool.specs.Gathering.{IsLawful}
use Rattle.steal_pool.proofs.Rows.{set_more, set_rest, get_or-any}
use Rattle.steal_pool.proofs.whole.settle_all.Goals as goal

pub loop-k-preserved : goal.loop-k-preserved
loop-k-preserved c =
    let k : ℕ = c.loop-k.k in
    let inv = c.loop-k.invariant in
    let hands : List Hand = c.args.hands.now in
    let now : List Hand = c.loop-k.hands in
    let new : Hand = c.settle.new.self in
    let inside : k < length now = search rules in
    let same : (d : Hand) → get_or now k c.index-hands-k.result ≡ get_or hands k d = λ d. get_or-any now k c.index-hands-k.result d inside ∙ inv.rest k d (omega arith) in
    let told : IsLawful (get_or now k c.index-hands-k.result) new = record { view = c.settle.ensures.view; law = c.settle.ensures.law } in record {
      done = λ j d h. set_more (λ j y. (d : Hand) → IsLawful (get_or hands j d) y) now k new inside
          (λ j d h d'. subst (λ (z : Hand). IsLawful (get_or hands j d') z) (get_or-any now j d' d (omega arith)) (inv.done j d' h))
          (λ d. subst (λ (z : Hand). IsLawful z new) (same d) told) j d h d;
      rest = λ j d h. set_rest now hands k new inv.rest j d h;
    }
