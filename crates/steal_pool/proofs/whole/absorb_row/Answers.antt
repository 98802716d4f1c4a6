use Rattle.std.proofs.Common.{rules, arith, ◌≡◌, ◌≢◌, ℕ, ◌+◌, ◌<◌, List, [], ◌∷◌, ◌++◌, length, set, get_or, sym, ap, ◌∙◌, subst, get_or-set_other, get_or-set_same, vec_len}
use mathlib.Core.Logic.{dite}
use native.Mathlib.Decide.{ℕ_discrete}
use Rattle.steal_pool.specs.declared.deque.Link.{Link}
use Rattle.steal_pool.specs.declared.hand.Hand.{Hand}
use Rattle.steal_pool.specs.Gathering.{TakenIn}
use Rattle.steal_pool.proofs.Rows.{get_or-front, get_or-last, get_or-any}
use Rattle.steal_pool.proofs.whole.absorb_row.Goals as goal

pub loop-link-preserved : goal.loop-link-preserved
loop-link-preserved c =
    let inv = c.loop-link.invariant in
    let hands : List Hand = c.args.hands.now in
    let now : List Hand = c.loop-link.hands in
    let row : List Link = c.args.row.items in
    let rest : List Link = c.pop.new.self.items in
    let link : Link = c.in-Some.link in
    let n : ℕ = c.len.result in
    let all : c.loop-link.row.items ≡ rest ++ link ∷ [] = search rules in
    let at : n ≡ length rest = search rules in
    let more : vec_len c.loop-link.row ≡ n + 1 = search rules in
    let inside : n < length now = search rules in
    let left = inv.some_left in
    let here : (e : Link) → link ≡ get_or row n e = λ e. sym (get_or-last rest link e) ∙ (ap (λ (j : ℕ). get_or (rest ++ link ∷ []) j e) (sym at) ∙ (ap (λ l. get_or l n e) (sym all) ∙ inv.row n e (omega arith))) in
    let same : (d : Hand) → get_or now n c.index-hands-len.result ≡ get_or hands n d = λ d. get_or-any now n c.index-hands-len.result d inside ∙ inv.waits n d (omega arith) in
    let told : TakenIn (get_or now n c.index-hands-len.result) link c.absorb.new.self = c.absorb.ensures in
    let after : vec_len c.pop.new.self ≡ n = search rules in record {
      some_left = omega arith;
      row = λ k e h. sym (get_or-front rest link k e (omega arith)) ∙ (ap (λ l. get_or l k e) (sym all) ∙ inv.row k e (omega arith));
      waits = λ k d h. (let ne : k ≢ n = (λ x. omega arith) in get_or-set_other now n k c.absorb.new.self d ne ∙ inv.waits k d (omega arith));
      done = λ k d e low high. dite (ℕ_discrete k n)
          (λ is. subst (λ (j : ℕ). TakenIn (get_or hands j d) (get_or row j e) (get_or (set now n c.absorb.new.self) j d)) (sym is)
          (subst (λ (z : Hand). TakenIn (get_or hands n d) (get_or row n e) z) (sym (get_or-set_same now n c.absorb.new.self d inside))
          (subst (λ (z : Hand × Link). TakenIn z.0 z.1 c.absorb.new.self) (λ i. (same d i, here e i)) told)))
          (λ ne. subst (λ (z : Hand). TakenIn (get_or hands k d) (get_or row k e) z) (sym (get_or-set_other now n k c.absorb.new.self d ne)) (inv.done k d e (omega arith) high));
    }

pub returns : goal.returns
returns c =
    let inv = c.loop-link.invariant in
    let none : vec_len c.loop-link.row ≡ 0 = search rules in
    let len : vec_len c.args.row ≡ length c.args.row.items = search rules in
    (c.loop-link.auto.hands, λ k d e h. inv.done k d e (omega arith) (omega arith))
