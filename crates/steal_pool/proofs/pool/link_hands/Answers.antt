use Rattle.std.proofs.Common.{rules, arith, ◌≡◌, ℕ, ◌<◌, List, length, get_or, sym, ◌∙◌, subst}
use Rattle.steal_pool.specs.declared.deque.Link.{Link}
use Rattle.steal_pool.specs.declared.hand.Hand.{Hand}
use Rattle.steal_pool.specs.NewPool.{IsLinked, LosesPart}
use Rattle.steal_pool.proofs.Rows.{row_more, set_more, set_rest, get_or-any}
use Rattle.steal_pool.proofs.pool.link_hands.Goals as goal

pub loop-i-preserved : goal.loop-i-preserved
loop-i-preserved c =
    let i : ℕ = c.loop-i.i in
    let inv = c.loop-i.invariant in
    let hands : List Hand = c.args.hands.now in
    let now : List Hand = c.loop-i.hands in
    let inside : i < length now = search rules in
    let same : (d : Hand) → get_or now i c.index-hands-i.result ≡ get_or hands i d = λ d. get_or-any now i c.index-hands-i.result d inside ∙ inv.rest i d (omega arith) in
    let told : IsLinked (get_or now i c.index-hands-i.result) c.in_ok-link.field-0 × LosesPart (get_or now i c.index-hands-i.result) c.link.new.self = (c.in_ok-link.ensures.link, c.in_ok-link.ensures.hand) in
    let items = c.push_reserved.ensures.items in record {
      count = search rules;
      room = search rules;
      linked = λ k d e h. subst (λ (l : List Link). IsLinked (get_or hands k d) (get_or l k e)) (sym items)
          (row_more (λ k y. (d : Hand) → IsLinked (get_or hands k d) y) c.loop-i.links.items c.in_ok-link.field-0 i (search rules)
          (λ k e h d. inv.linked k d e h) (λ d. subst (λ (z : Hand). IsLinked z c.in_ok-link.field-0) (same d) told.0) k e h d);
      left = λ k d h. set_more (λ k y. (d : Hand) → LosesPart (get_or hands k d) y) now i c.link.new.self inside
          (λ k d h d'. subst (λ (z : Hand). LosesPart (get_or hands k d') z) (get_or-any now k d' d (omega arith)) (inv.left k d' h))
          (λ d. subst (λ (z : Hand). LosesPart z c.link.new.self) (same d) told.1) k d h d;
      rest = λ k d h. set_rest now hands i c.link.new.self inv.rest k d h;
    }

pub returns : goal.returns
returns c =
    let inv = c.loop-i.invariant in
    let all : c.loop-i.i ≡ length c.args.hands.now = search rules in
    let len : length c.loop-i.links.items ≡ c.loop-i.i = search rules in
    ((len ∙ all, λ k d e h. inv.linked k d e (omega arith)), (c.loop-i.auto.hands, λ k d h. inv.left k d (omega arith)))
