use Rattle.std.proofs.Common.{rules, arith, ◌≡◌, ◌+◌, ◌-◌, ◌∙◌, ap, sym, vec_len, length, List, [], ◌∷◌, ◌++◌, get_or, subst}
use Rattle.steal_pool.specs.declared.hand.Hand.{Hand}
use Rattle.steal_pool.specs.NewPool.{IsNew}
use Rattle.steal_pool.specs.Count.{all_resting}
use Rattle.steal_pool.proofs.Rows.{row_more}
use Rattle.steal_pool.proofs.pool.make_hands.Goals as goal

pub new-requires-2 : goal.new-requires-2
new-requires-2 c =
    let inv = c.loop-start.invariant in
    let all : c.loop-start.start ≡ c.args.n = search rules in
    let count = inv.count in
    let one : c.args.n - vec_len c.loop-start.hands ≡ 1 = omega arith in
    inv.lead ∙ ap all_resting one

pub returns : goal.returns
returns c =
    let inv = c.loop-start.invariant in
    let all : c.loop-start.start ≡ c.args.n = search rules in
    let count = inv.count in
    let items : c.push_reserved-2.new.self.items ≡ c.loop-start.hands.items ++ c.in_ok-new-2.field-0 ∷ [] = search rules in
    let len : length c.loop-start.hands.items ≡ vec_len c.loop-start.hands = search rules in
    let longer : length c.push_reserved-2.new.self.items ≡ vec_len c.loop-start.hands + 1 = search rules in (
      search rules,
      λ k d h. subst (λ (l : List Hand). IsNew (get_or l k d)) (sym items)
          (row_more (λ _ x. IsNew x) c.loop-start.hands.items c.in_ok-new-2.field-0 (vec_len c.loop-start.hands) len (λ k e h. inv.new k e (omega arith)) c.in_ok-new-2.ensures k d (omega arith)),
    )
