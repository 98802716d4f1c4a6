-- Each move keeps the law of one deque.
use Rattle.std.proofs.Common.{◌≡◌, ◌≢◌, ℕ, zero, suc, ◌+◌, ◌<◌, true, List, [], ◌∷◌, ◌++◌, set, refl, sym, ap, ◌∙◌, subst, ⊎_elim, arith, append_assoc}
use mathlib.Core.Option.{some, some-injective, some-ne-none}
use lib.ListN.{get_elem?}
use Rattle.crossbeam_deque.specs.Tasks.{Pushes, Takes, Finds, Forks, Merges, Learns}
use Rattle.crossbeam_deque.proofs.Lists.{at_set, at_snoc}
use Rattle.steal_pool.specs.declared.rule.DequeView.{DequeView}
use Rattle.steal_pool.specs.Law.{weigh, weigh_all, IsSub, AllSub, total, parts_of, weigh_of, owner_view, guest_view, thief_view, left_view, joined_view, DequeLaw, Knows, IsAccounted, NoneLeft, TakesLeft}
use Rattle.steal_pool.proofs.Lists.{weigh-append, weigh_all-append, sub_more, sub_both, all_more, all_append, total_set, total_snoc, total_two, total_alone}

all_set : (P : ℕ → DequeView → Type 0) (vs : List DequeView) (id : ℕ) (w : DequeView) → P id w → ((j : ℕ) (u : DequeView) → j ≢ id → get_elem? vs j ≡ some u → P j u) → (j : ℕ) (u : DequeView) → get_elem? (set vs id w) j ≡ some u → P j u
all_set P vs id w mine others j u e = ⊎_elim (λ (t : (j ≡ id) × (w ≡ u)). subst (λ (x : ℕ × DequeView). P x.0 x.1) (λ i. (sym t.0 i, t.1 i)) mine)
    (λ (t : (j ≢ id) × (get_elem? vs j ≡ some u)). others j u t.0 t.1) (at_set vs id j w u e)

at_same : (vs : List DequeView) (j : ℕ) (v w : DequeView) → get_elem? vs j ≡ some v → get_elem? (set vs j w) j ≡ some w
at_same [] j v w e = absurd (some-ne-none v (sym e))
at_same (x ∷ vs) zero v w e = refl
at_same (x ∷ vs) (suc j) v w e = at_same vs j v w e

pub begins : IsAccounted [] (owner_view ∷ [])
begins = record {
  removed = [];
  owner = 0;
  whole = refl;
  balanced = λ h. refl;
  each = only;
}
  where
    only : (port : ℕ) (v : DequeView) → get_elem? (owner_view ∷ []) port ≡ some v → Knows [] [] 0 port v
    only zero v e = subst (Knows [] [] 0 0) (some-injective owner_view v e) record { owns = λ _. (refl, refl); taken = tt; joined = tt; idle = λ _. (refl, refl) }
    only (suc port) v e = absurd (some-ne-none v (sym e))

-- others know the same when the owner adds ids
knows_pushed : (removed items xs : List ℕ) (owner port : ℕ) (v : DequeView) → port ≢ owner → Knows removed items owner port v → Knows removed (items ++ xs) owner port v
knows_pushed removed items xs owner port v other k = record { owns = λ o. absurd (other (k.owns o).0); taken = k.taken; joined = k.joined; idle = k.idle }

pub puts : (port : ℕ) (v : DequeView) (xs : List ℕ) → v.owns ≡ true → 0 < v.parts → Pushes IsAccounted port v xs (λ w. w ≡ record v { put = v.put ++ xs })
puts port v xs owns some_part items views r at =
    let w : DequeView = record v { put = v.put ++ xs } in
    let k = r.each port v at in
    let mine = k.owns owns in (
      w,
      record {
        removed = r.removed;
        owner = r.owner;
        whole = (let t = total_set parts_of views port v w at in let a = r.whole in omega (arith, t));
        balanced = λ h. (let t = total_set (weigh_of h) views port v w at in let a = r.balanced h in omega (arith, t));
        each = all_set (λ j u. Knows r.removed (items ++ xs) r.owner j u) views port w
            (record { owns = λ _. (mine.0, ap (λ l. l ++ xs) mine.1 ∙ append_assoc r.removed items xs); taken = k.taken; joined = k.joined; idle = k.idle })
            (λ j u other e. knows_pushed r.removed items xs r.owner j u (λ same. other (same ∙ sym mine.0)) (r.each j u e));
      },
      refl,
    )

-- what a pass knows when ids leave at the front
knows_taken : (removed items xs : List ℕ) (owner port : ℕ) (v : DequeView) → Knows removed (xs ++ items) owner port v → Knows (removed ++ xs) items owner port v
knows_taken removed items xs owner port v k = record {
  owns = λ o. ((k.owns o).0, (k.owns o).1 ∙ sym (append_assoc removed xs items));
  taken = sub_more v.taken removed xs k.taken;
  joined = all_more v.joined removed xs k.joined;
  idle = k.idle;
}

-- the rule stays when ids leave at the front
taken_out : (port : ℕ) (v : DequeView) → 0 < v.parts → (xs items : List ℕ) (views : List DequeView) → IsAccounted (xs ++ items) views → get_elem? views port ≡ some v → IsAccounted items (set views port record v { taken = v.taken ++ xs })
taken_out port v some_part xs items views r at =
    let w : DequeView = record v { taken = v.taken ++ xs } in
    let k = r.each port v at in
    let after = knows_taken r.removed items xs r.owner port v k in record {
      removed = r.removed ++ xs;
      owner = r.owner;
      whole = (let t = total_set parts_of views port v w at in let a = r.whole in omega (arith, t));
      balanced = λ h. (let t = total_set (weigh_of h) views port v w at in let a = r.balanced h in let p = weigh-append h v.taken xs in let q = weigh-append h r.removed xs in omega (arith, t, p, q));
      each = all_set (λ j u. Knows (r.removed ++ xs) items r.owner j u) views port w
          (record { owns = after.owns; taken = sub_both v.taken r.removed xs k.taken; joined = after.joined; idle = λ z. absurd (omega arith) })
          (λ j u other e. knows_taken r.removed items xs r.owner j u (r.each j u e));
    }

pub takes : (port : ℕ) (v : DequeView) (most : ℕ) → 0 < v.parts → Takes IsAccounted port v most (λ xs w. w ≡ record v { taken = v.taken ++ xs })
takes port v most some_part xs items views _ _ r at = (record v { taken = v.taken ++ xs }, taken_out port v some_part xs items views r at, refl)

pub forks : (port : ℕ) (v : DequeView) → 1 < v.parts → Forks IsAccounted port v (left_view v) thief_view
forks port v two items views r at =
    let w : DequeView = left_view v in
    let k = r.each port v at in record {
      removed = r.removed;
      owner = r.owner;
      whole = (let t = total_set parts_of views port v w at in let p = total_snoc parts_of (set views port w) thief_view in let a = r.whole in omega (arith, t, p));
      balanced = λ h. (let t = total_set (weigh_of h) views port v w at in let p = total_snoc (weigh_of h) (set views port w) thief_view in let a = r.balanced h in omega (arith, t, p));
      each = λ j u e. ⊎_elim
          (λ (old : get_elem? (set views port w) j ≡ some u). all_set (λ j u. Knows r.removed items r.owner j u) views port w
          (record { owns = k.owns; taken = k.taken; joined = k.joined; idle = λ z. absurd (omega arith) }) (λ j u _ e. r.each j u e) j u old)
          (λ (new : thief_view ≡ u). subst (Knows r.removed items r.owner j) new record { owns = λ o. absurd (cc); taken = tt; joined = tt; idle = λ _. (refl, refl) })
          (at_snoc (set views port w) thief_view u j e);
    }

pub merges : (port : ℕ) (v : DequeView) (other : ℕ) (u : DequeView) → 0 < v.parts → Merges IsAccounted port v other u (joined_view v u) guest_view
merges port v other u some_part items views r at apart there =
    let both : DequeView = joined_view v u in
    let mid : List DequeView = set views port both in
    let k = r.each port v at in
    let was : get_elem? views other ≡ some u = ⊎_elim (λ (x : (other ≡ port) × (both ≡ u)). absurd (apart x.0)) (λ (x : (other ≢ port) × (get_elem? views other ≡ some u)). x.1) (at_set views port other both u there) in
    let k' = r.each other u was in record {
      removed = r.removed;
      owner = r.owner;
      whole = (let t = total_set parts_of views port v both at in let p = total_set parts_of mid other u guest_view there in let a = r.whole in omega (arith, t, p));
      balanced = λ h. (let t = total_set (weigh_of h) views port v both at in let p = total_set (weigh_of h) mid other u guest_view there in let q = weigh_all-append h u.joined v.joined in let a = r.balanced h in omega (arith, t, p, q));
      each = all_set (λ j y. Knows r.removed items r.owner j y) mid other guest_view
          (record { owns = λ o. absurd (cc); taken = tt; joined = tt; idle = λ _. (refl, refl) })
          (λ j y _ e. all_set (λ j y. Knows r.removed items r.owner j y) views port both
          (record { owns = k.owns; taken = k.taken; joined = (k'.taken, all_append u.joined v.joined r.removed k'.joined k.joined); idle = λ z. absurd (omega arith) })
          (λ j y _ e. r.each j y e) j y e);
    }

pub learns : (port : ℕ) (v : DequeView) → v.owns ≡ true → v.parts ≡ 65 → Learns IsAccounted port v (λ items. DequeLaw v.put v.taken v.joined items)
learns port v owns whole items views r at =
    let k = r.each port v at in
    let mine = k.owns owns in
    let others : (j : ℕ) (u : DequeView) → j ≢ port → get_elem? views j ≡ some u → u.parts ≡ 0 = λ j u ne e.
    (let t = total_two parts_of views j port u v ne e at in let a = r.whole in omega (arith, t)) in
    let alone : (h : ℕ → ℕ) → total (weigh_of h) views ≡ weigh_of h v = λ h. total_alone (weigh_of h) views port v at
    (λ j u ne e. (let i = (r.each j u e).idle (others j u ne e) in ap (λ l. weigh h l + weigh_all h u.joined) i.0 ∙ ap (λ l. 0 + weigh_all h l) i.1)) in (
      (λ h. (let a = alone h in let b = r.balanced h in let c = weigh-append h r.removed items in let d : weigh h v.put ≡ weigh h (r.removed ++ items) = ap (weigh h) mine.1 in omega (arith, a, b, c, d))),
      subst (IsSub v.taken) (sym mine.1) (sub_more v.taken r.removed items k.taken),
      subst (AllSub v.joined) (sym mine.1) (all_more v.joined r.removed items k.joined),
    )

pub finds_none : (port : ℕ) (v : DequeView) → v.owns ≡ true → v.parts ≡ 65 → Finds IsAccounted port v (NoneLeft v)
finds_none port v owns whole views r at = learns port v owns whole [] views r at

pub takes_left : (port : ℕ) (v : DequeView) → v.owns ≡ true → v.parts ≡ 65 → Takes IsAccounted port v 1 (TakesLeft v)
takes_left port v owns whole xs items views _ _ r at =
    let w : DequeView = record v { taken = v.taken ++ xs } in
    let after = taken_out port v (omega arith) xs items views r at in
    (w, after, (refl, (items, learns port w owns whole items (set views port w) after (at_same views port v w at))))
