use Rattle.std.proofs.Common.{rules, arith, ◌≡◌, ℕ, ◌-◌, ◌<◌, ◌≤◌, List, length, set, get_or, sym, ap, ◌∙◌, subst, length-set, get_or-set_other, get_or-set_same}
use mathlib.Core.Logic.{dite}
use native.Mathlib.Decide.{ℕ_discrete}
use Rattle.crossbeam_deque.specs.Handles.{worker_deque, worker_view}
use Rattle.steal_pool.specs.declared.deque.OwnDeque.{OwnDeque}
use Rattle.steal_pool.specs.declared.hand.Hand.{Hand}
use Rattle.steal_pool.specs.NewPool.{LinkedHands, AllLosePart}
use Rattle.steal_pool.proofs.Columns.{own_at, kept_at}
use Rattle.steal_pool.proofs.Linking.{still_linked, bare_new, bare_less, bare_set}
use Rattle.steal_pool.proofs.pool.link_pool.Goals as goal

pub loop-j-preserved : goal.loop-j-preserved
loop-j-preserved c =
    let inv = c.loop-j.invariant in
    let old : List Hand = c.loop-j.hands in
    let mid : List Hand = c.link_hands.new.hands in
    let j : ℕ = c.loop-j.j in
    let hand : Hand = c.set_links.new.self in
    let new : List Hand = set mid j hand in
    let told = c.in_ok-row.ensures in
    let row : LinkedHands old c.in_ok-row.row.items = told.0 in
    let left : AllLosePart old mid = told.1 in
    let len : length new ≡ length old = length-set mid j hand ∙ left.0 in
    let few : length c.args.hands.now ≤ 64 = c.requires.0 in
    let wide : length old ≡ length c.args.hands.now = c.loop-j.auto.hands in
    let inside' : j < length old = search rules in
    let inside : j < length mid = subst (λ (n : ℕ). j < n) (sym left.0) inside' in
    let put = c.set_links.ensures in
    let own : (k : ℕ) (d : Hand) → k < length old → (get_or new k d).own ≡ (get_or mid k d).own = λ k d h. own_at mid j hand c.index-hands-j.result inside put.own k d (subst (λ (n : ℕ). k < n) (sym left.0) h) in
    let same : (k : ℕ) (d : Hand) → k < length old → worker_deque (get_or new k d).own.worker ≡ worker_deque (get_or old k d).own.worker = λ k d h. ap (λ (o : OwnDeque). worker_deque o.worker) (own k d h) ∙ (left.1 k d h).deque in
    record {
      parts = λ k d h.
          let low : k < length old = subst (λ (n : ℕ). k < n) len h in
          let was = inv.parts k d low in
          let e : (worker_view (get_or new k d).own.worker).parts ≡ (worker_view (get_or old k d).own.worker).parts - 1 = ap (λ (o : OwnDeque). (worker_view o.worker).parts) (own k d low) ∙ ap (λ v. v.parts) (left.1 k d low).view in
          omega arith;
      bare = λ k d h.
          let low : k < length old = subst (λ (n : ℕ). k < n) len h in
          bare_set (get_or mid k d) (get_or new k d) (own k d low) (kept_at mid j hand c.index-hands-j.result inside put.left k d (subst (λ (n : ℕ). k < n) (sym left.0) low))
          (bare_less (get_or old k d) (get_or mid k d) (inv.bare k d low) (left.1 k d low));
      rows = λ i d h. dite (ℕ_discrete i j)
          (λ is. subst (λ l. LinkedHands new l) (sym (ap (λ (n : ℕ). (get_or new n d).links.items) is ∙ (ap (λ (z : Hand). z.links.items) (get_or-set_same mid j hand d inside) ∙ ap (λ v. v.items) put.links)))
          (still_linked old new c.in_ok-row.row.items len same row))
          (λ ne. let low : i < length old = omega arith in
          subst (λ l. LinkedHands new l) (sym (ap (λ (z : Hand). z.links.items) (get_or-set_other mid j i hand d ne) ∙ ap (λ v. v.items) (left.1 i d low).links))
          (still_linked old new (get_or old i d).links.items len same (inv.rows i d (omega arith))));
    }

pub loop-j-init : goal.loop-j-init
loop-j-init c = record {
  parts = λ k d h. (let n = c.requires.1 k d h in let e : (worker_view (get_or c.args.hands.now k d).own.worker).parts ≡ 65 = ap (λ v. v.parts) n.view in omega (arith, e));
  bare = λ k d h. bare_new (get_or c.args.hands.now k d) (c.requires.1 k d h);
  rows = λ i d h. absurd (omega arith);
}

pub returns : goal.returns
returns c =
    let inv = c.loop-j.invariant in
    let wide : length c.loop-j.hands ≡ length c.args.hands.now = c.loop-j.auto.hands in
    let all : c.loop-j.j ≡ length c.args.hands.now = search rules in record {
      count = wide;
      parts = λ k d h. (let p = inv.parts k d (omega arith) in omega (arith, p, all));
      bare = λ k d h. inv.bare k d (omega arith);
      links = λ j d h. inv.rows j d (omega arith);
    }
