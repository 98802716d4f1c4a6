-- Lists of views, and of calls.
use Rattle.std.proofs.Common.{◌≡◌, ◌≢◌, ◌⊎◌, ℕ, zero, suc, ◌+◌, ◌%◌, ◌<◌, ◌≤◌, eqb, ltb, cond, Bool, true, false, List, [], ◌∷◌, ◌++◌, length, set, refl, sym, ap, ◌∙◌, subst, inl, inr, ⊎_elim, arith, eq-eqb, ne_eqb}
use Rattle.std.proofs.lemmas.List.{append-nil, append_assoc}
use Rattle.std.proofs.Math.Nat.{mod-add-mod}
use mathlib.Core.Option.{some, some-injective, some-ne-none}
use mathlib.Core.List.{IsPrefix}
use lib.ListN.{get_elem?}
use Rattle.std.proofs.lemmas.Bool.{ltb-true}
use borrow.Author.Tests.{ltb-false}
use Rattle.book_lock.specs.Rule.{total, IsJoinedNumber, longer, shorter}
use Rattle.book_lock.specs.declared.views.JoinedSeat.{JoinedSeat}
use Rattle.book_lock.specs.History.{entry, calls_by, IsHistory, IsLegal}
use Rattle.book_lock.specs.declared.views.Entry.{Entry}

module _ {V : Type 0} where
  pub total_set : (f : V → ℕ) (vs : List V) (j : ℕ) (v w : V) → get_elem? vs j ≡ some v → total f (set vs j w) + f v ≡ total f vs + f w
  total_set f [] j v w e = absurd (some-ne-none v (sym e))
  total_set f (x ∷ vs) zero v w e = let same : f x ≡ f v = ap f (some-injective x v e) in omega arith
  total_set f (x ∷ vs) (suc j) v w e = let t = total_set f vs j v w e in omega (arith, t)

  pub total_snoc : (f : V → ℕ) (vs : List V) (w : V) → total f (vs ++ w ∷ []) ≡ total f vs + f w
  total_snoc f [] w = omega arith
  total_snoc f (x ∷ vs) w = let t = total_snoc f vs w in omega (arith, t)

  pub total_ge : (f : V → ℕ) (vs : List V) (j : ℕ) (v : V) → get_elem? vs j ≡ some v → f v ≤ total f vs
  total_ge f [] j v e = absurd (some-ne-none v (sym e))
  total_ge f (x ∷ vs) zero v e = let same : f x ≡ f v = ap f (some-injective x v e) in omega arith
  total_ge f (x ∷ vs) (suc j) v e = let t = total_ge f vs j v e in omega (arith, t)

  pub total_le : (f g : V → ℕ) (vs : List V) → ((j : ℕ) (v : V) → get_elem? vs j ≡ some v → f v ≤ g v) → total f vs ≤ total g vs
  total_le f g [] h = omega arith
  total_le f g (x ∷ vs) h = let a = h 0 x refl in let t = total_le f g vs (λ j v e. h (suc j) v e) in omega (arith, a, t)

  -- two different places
  pub total_two : (f : V → ℕ) (vs : List V) (i j : ℕ) (v w : V) → i ≢ j → get_elem? vs i ≡ some v → get_elem? vs j ≡ some w → f v + f w ≤ total f vs
  total_two f [] i j v w n a b = absurd (some-ne-none v (sym a))
  total_two f (x ∷ vs) zero zero v w n a b = absurd (n refl)
  total_two f (x ∷ vs) zero (suc j) v w n a b = let same : f x ≡ f v = ap f (some-injective x v a) in let t = total_ge f vs j w b in omega (arith, t)
  total_two f (x ∷ vs) (suc i) zero v w n a b = let same : f x ≡ f w = ap f (some-injective x w b) in let t = total_ge f vs i v a in omega (arith, t)
  total_two f (x ∷ vs) (suc i) (suc j) v w n a b = let t = total_two f vs i j v w (λ e. n (ap suc e)) a b in omega (arith, t)

  pub below_length : (l : List V) (i : ℕ) (a : V) → get_elem? l i ≡ some a → i < length l
  below_length [] i a e = absurd (some-ne-none a (sym e))
  below_length (x ∷ l) zero a e = omega arith
  below_length (x ∷ l) (suc i) a e = let t = below_length l i a e in omega (arith, t)

  pub at_front : (l m : List V) (i : ℕ) → i < length l → get_elem? (l ++ m) i ≡ get_elem? l i
  at_front [] m i h = absurd (omega arith)
  at_front (x ∷ l) m zero h = refl
  at_front (x ∷ l) m (suc i) h = at_front l m i (omega arith)

  -- the last place, or one before
  pub at_end : (l : List V) (a b : V) (j : ℕ) → get_elem? (l ++ a ∷ []) j ≡ some b → ((j < length l) × (get_elem? l j ≡ some b)) ⊎ ((j ≡ length l) × (a ≡ b))
  at_end [] a b zero e = inr (refl, some-injective a b e)
  at_end [] a b (suc j) e = absurd (some-ne-none b (sym e))
  at_end (x ∷ l) a b zero e = inl (omega arith, e)
  at_end (x ∷ l) a b (suc j) e = ⊎_elim (λ (t : (j < length l) × (get_elem? l j ≡ some b)). let h = t.0 in inl (omega arith, t.1)) (λ (t : (j ≡ length l) × (a ≡ b)). inr (ap suc t.0, t.1)) (at_end l a b j e)

  pub prefix_refl : (xs : List V) → IsPrefix xs xs
  prefix_refl xs = ([], append-nil xs)

  pub prefix_more : (xs ys zs : List V) → IsPrefix xs ys → IsPrefix xs (ys ++ zs)
  prefix_more xs ys zs p = (p.0 ++ zs, sym (append_assoc xs p.0 zs) ∙ ap (λ l. l ++ zs) p.1)

  pub prefix_trans : (xs ys zs : List V) → IsPrefix xs ys → IsPrefix ys zs → IsPrefix xs zs
  prefix_trans xs ys zs p q = (p.0 ++ q.0, sym (append_assoc xs p.0 q.0) ∙ (ap (λ l. l ++ q.0) p.1 ∙ q.1))

  -- of two beginnings of one list the shorter begins the longer
  pub prefix_both : (xs ys zs : List V) → IsPrefix xs zs → IsPrefix ys zs → length xs ≤ length ys → IsPrefix xs ys
  prefix_both [] ys zs p q h = (ys, refl)
  prefix_both (x ∷ xs) [] zs p q h = absurd (omega arith)
  prefix_both (x ∷ xs) (y ∷ ys) [] p q h = absurd (cc)
  prefix_both (x ∷ xs) (y ∷ ys) (z ∷ zs) p q h =
      let a : x ≡ z = cc (p.1) in let b : y ≡ z = cc (q.1) in
      let p' : xs ++ p.0 ≡ zs = cc (p.1) in let q' : ys ++ q.0 ≡ zs = cc (q.1) in
      let t = prefix_both xs ys zs (p.0, p') (q.0, q') (omega arith) in
      (t.0, λ i. (a ∙ sym b) i ∷ t.1 i)

module _ {C R : Type 0} where
  pub shorter_front : (xs ys log : List (Entry C R)) → IsPrefix xs log → IsPrefix ys log → IsPrefix (shorter xs ys) (longer xs ys)
  shorter_front xs ys log p q = one (ltb (length xs) (length ys)) refl
    where
      one : (b : Bool) → ltb (length xs) (length ys) ≡ b → IsPrefix (cond b xs ys) (cond b ys xs)
      one true e = let h = ltb-true (length xs) (length ys) e in prefix_both xs ys log p q (omega arith)
      one false e = prefix_both ys xs log q p (ltb-false (length xs) (length ys) e)

  pub longer_in : (xs ys log : List (Entry C R)) → IsPrefix xs log → IsPrefix ys log → IsPrefix (longer xs ys) log
  longer_in xs ys log p q = one (ltb (length xs) (length ys))
    where
      one : (b : Bool) → IsPrefix (cond b ys xs) log
      one true = q
      one false = p

  pub names_left : (n : ℕ) (ps qs : List (JoinedSeat C R)) → IsJoinedNumber n ps → IsJoinedNumber n (ps ++ qs)
  names_left n [] qs h = absurd h
  names_left n (p ∷ ps) qs h = ⊎_elim (λ (e : p.number ≡ n). inl e) (λ (t : IsJoinedNumber n ps). inr (names_left n ps qs t)) h

  pub names_right : (n : ℕ) (ps qs : List (JoinedSeat C R)) → IsJoinedNumber n qs → IsJoinedNumber n (ps ++ qs)
  names_right n [] qs h = h
  names_right n (p ∷ ps) qs h = inr (names_right n ps qs h)

  pub calls_by-append : (n : ℕ) (xs ys : List (Entry C R)) → calls_by n (xs ++ ys) ≡ calls_by n xs ++ calls_by n ys
  calls_by-append n [] ys = refl
  calls_by-append n (e ∷ xs) ys = one (eqb e.seat n) (calls_by-append n xs ys)
    where
      one : (b : Bool) → calls_by n (xs ++ ys) ≡ calls_by n xs ++ calls_by n ys → cond b (e ∷ calls_by n (xs ++ ys)) (calls_by n (xs ++ ys)) ≡ cond b (e ∷ calls_by n xs) (calls_by n xs) ++ calls_by n ys
      one true t = ap (λ l. e ∷ l) t
      one false t = t

  pub calls_by-mine : (n : ℕ) (xs : List (Entry C R)) (c : C) (r : R) → calls_by n (xs ++ entry n c r ∷ []) ≡ calls_by n xs ++ entry n c r ∷ []
  calls_by-mine n xs c r = calls_by-append n xs (entry n c r ∷ []) ∙ ap (λ b. calls_by n xs ++ cond b (entry n c r ∷ []) []) (eq-eqb n n refl)

  pub calls_by-other : (n m : ℕ) (xs : List (Entry C R)) (c : C) (r : R) → m ≢ n → calls_by n (xs ++ entry m c r ∷ []) ≡ calls_by n xs
  calls_by-other n m xs c r ne = calls_by-append n xs (entry m c r ∷ []) ∙ (ap (λ b. calls_by n xs ++ cond b (entry m c r ∷ []) []) (ne_eqb m n ne) ∙ append-nil (calls_by n xs))

  -- a seat with no calls in a history has none in its beginnings
  pub calls_front : (n : ℕ) (xs ys : List (Entry C R)) → IsPrefix xs ys → calls_by n ys ≡ [] → calls_by n xs ≡ []
  calls_front n xs ys p none = nothing (calls_by n xs) (calls_by n p.0) (sym (calls_by-append n xs p.0) ∙ (ap (calls_by n) p.1 ∙ none))
    where
      nothing : (a b : List (Entry C R)) → a ++ b ≡ [] → a ≡ []
      nothing [] b e = refl
      nothing (x ∷ a) b e = absurd (cc)

module _ {O C R : Type 0} (meets : O → C → Type 0) (steps : O → C → R → O → Type 0) where
  pub leaves_snoc : (b m : O) (xs : List (Entry C R)) (n : ℕ) (c : C) (r : R) (b' : O) → IsHistory meets steps b xs m → meets m c → steps m c r b' → IsHistory meets steps b (xs ++ entry n c r ∷ []) b'
  leaves_snoc b m [] n c r b' l h s = subst (λ (z : O). IsHistory meets steps z (entry n c r ∷ []) b') l (b', h, s, refl)
  leaves_snoc b m (e ∷ xs) n c r b' l h s = (l.0, l.1, l.2, leaves_snoc l.0 m xs n c r b' l.3 h s)

  -- a beginning of a legal history is legal
  pub legal_front : (b b' : O) (xs ys : List (Entry C R)) → IsHistory meets steps b (xs ++ ys) b' → IsLegal meets steps b xs
  legal_front b b' [] ys l = (b, refl)
  legal_front b b' (e ∷ xs) ys l = let t = legal_front l.0 b' xs ys l.3 in (t.0, (l.0, l.1, l.2, t.1))

  -- the last call of a legal history is a step of the object
  pub legal_last : (b : O) (xs : List (Entry C R)) (e : Entry C R) → IsLegal meets steps b (xs ++ e ∷ []) → (m : O) × (m' : O) × steps m e.call e.reply m'
  legal_last b [] e l = (b, l.1.0, l.1.2)
  legal_last b (x ∷ xs) e l = legal_last l.1.0 xs e (l.0, l.1.3)

  -- what a condition of the first object allows stays allowed
  pub still_meets : ((b : O) (c : C) (r : R) (b' : O) (d : C) → steps b c r b' → meets b d → meets b' d) → (b b' : O) (xs : List (Entry C R)) (d : C) → IsHistory meets steps b xs b' → meets b d → meets b' d
  still_meets law b b' [] d l h = subst (λ (z : O). meets z d) (sym l) h
  still_meets law b b' (e ∷ xs) d l h = still_meets law l.0 b' xs d l.3 (law b e.call e.reply l.0 d l.2 h)

pub next_mod : (a n : ℕ) → (a % n + 1) % n ≡ (a + 1) % n
next_mod a n = mod-add-mod a n 1
