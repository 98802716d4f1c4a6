-- Fractions that are equal by cross-multiplication.
use Rattle.std.proofs.Common.{◌≡◌, ℕ, ◌+◌, ◌*◌, ◌<◌, ◌≤◌, ℤ, pos, ◌+ℤ◌, ◌*ℤ◌, neg_ℤ, ◌≤ℤ◌, arith, ap, sym, refl, Bool, true, false, IsTrue, ◌⊎◌, inl, inr, le_of_mul-le-mul_right, mul-le-mul_right, le_antisymm, le_of_eq, ◌&&◌, true≢false}
use borrow.Author.Differences.{up, down, ints}
use lib.Signed.{le_z}
use Rattle.dyadic.specs.Fraction.{Fraction, IsFraction, sum_of, product_of, negated, at_most}
use Rattle.dyadic.proofs.Ring.{atom, natural, plus, minus, times, same, read, below, read_below}

infix 50 ◌≈◌
pub record ◌≈◌ (p q : Fraction) : Type 0 where
  pub same : p.num *ℤ pos q.den ≡ q.num *ℤ pos p.den

pub ≈_refl : (p : Fraction) → p ≈ p
≈_refl p = record { same = refl }

pub ≈_sym : {p q : Fraction} → p ≈ q → q ≈ p
≈_sym h = record { same = sym h.same }

-- a / b + c / d is a' / b' + c' / d'
sum_at : (a c a' c' : ℤ) (b d b' d' : ℕ) → a *ℤ pos b' ≡ a' *ℤ pos b → c *ℤ pos d' ≡ c' *ℤ pos d →
    ((a *ℤ pos d) +ℤ (c *ℤ pos b)) *ℤ pos (b' * d') ≡ ((a' *ℤ pos d') +ℤ (c' *ℤ pos b')) *ℤ pos (b * d)
sum_at a c a' c' b d b' d' h k =
    same (times (plus (times (atom a) (natural d)) (times (atom c) (natural b))) (natural (b' * d')))
    (times (plus (times (atom a') (natural d')) (times (atom c') (natural b'))) (natural (b * d)))
    (omega (
      arith,
      ap (λ x. x * (d * d')) (read (times (atom a) (natural b')) (times (atom a') (natural b)) h),
      ap (λ x. x * (b * b')) (read (times (atom c) (natural d')) (times (atom c') (natural d)) k),
    ))

pub sum_same : {p p' q q' : Fraction} → p ≈ p' → q ≈ q' → sum_of p q ≈ sum_of p' q'
unfolding sum_of
sum_same {p} {p'} {q} {q'} h k = record { same = sum_at p.num q.num p'.num q'.num p.den q.den p'.den q'.den h.same k.same }

product_at : (a c a' c' : ℤ) (b d b' d' : ℕ) → a *ℤ pos b' ≡ a' *ℤ pos b → c *ℤ pos d' ≡ c' *ℤ pos d →
    (a *ℤ c) *ℤ pos (b' * d') ≡ (a' *ℤ c') *ℤ pos (b * d)
product_at a c a' c' b d b' d' h k =
    let h' = read (times (atom a) (natural b')) (times (atom a') (natural b)) h in
    let k' = read (times (atom c) (natural d')) (times (atom c') (natural d)) k in
    same (times (times (atom a) (atom c)) (natural (b' * d'))) (times (times (atom a') (atom c')) (natural (b * d)))
    (omega (arith, ap (λ x. x * (up c * d')) h', ap (λ x. x * (down c * d')) h', ap (λ x. x * (up a' * b)) k', ap (λ x. x * (down a' * b)) k'))

pub product_same : {p p' q q' : Fraction} → p ≈ p' → q ≈ q' → product_of p q ≈ product_of p' q'
unfolding product_of
product_same {p} {p'} {q} {q'} h k = record { same = product_at p.num q.num p'.num q'.num p.den q.den p'.den q'.den h.same k.same }

negated_at : (a a' : ℤ) (b b' : ℕ) → a *ℤ pos b' ≡ a' *ℤ pos b → neg_ℤ a *ℤ pos b' ≡ neg_ℤ a' *ℤ pos b
negated_at a a' b b' h = same (times (minus (atom a)) (natural b')) (times (minus (atom a')) (natural b))
    (omega (arith, read (times (atom a) (natural b')) (times (atom a') (natural b)) h))

pub negated_same : {p p' : Fraction} → p ≈ p' → negated p ≈ negated p'
unfolding negated
negated_same {p} {p'} h = record { same = negated_at p.num p'.num p.den p'.den h.same }

cancel : (x y b : ℕ) → 0 < b → x * b ≤ y * b → x ≤ y
cancel x y b g h = le_of_mul-le-mul_right h g

-- a / b <= c / d and a / b = a' / b' give a' / b' <= c / d
le_at : (a a' c : ℤ) (b b' d : ℕ) → 0 < b → a *ℤ pos b' ≡ a' *ℤ pos b → (a *ℤ pos d) ≤ℤ (c *ℤ pos b) → (a' *ℤ pos d) ≤ℤ (c *ℤ pos b')
le_at a a' c b b' d g h k =
    let h' = read (times (atom a) (natural b')) (times (atom a') (natural b)) h in
    let k' = read_below (times (atom a) (natural d)) (times (atom c) (natural b)) k in
    below (times (atom a') (natural d)) (times (atom c) (natural b'))
    (omega (
      arith,
      cancel (up a' * d + down c * b') (up c * b' + down a' * d) b g
          (omega (arith, mul-le-mul_right b' k', ap (λ x. x * d) h')),
    ))

-- c / d <= a / b and a / b = a' / b' give c / d <= a' / b'
ge_at : (a a' c : ℤ) (b b' d : ℕ) → 0 < b → a *ℤ pos b' ≡ a' *ℤ pos b → (c *ℤ pos b) ≤ℤ (a *ℤ pos d) → (c *ℤ pos b') ≤ℤ (a' *ℤ pos d)
ge_at a a' c b b' d g h k =
    let h' = read (times (atom a) (natural b')) (times (atom a') (natural b)) h in
    let k' = read_below (times (atom c) (natural b)) (times (atom a) (natural d)) k in
    below (times (atom c) (natural b')) (times (atom a') (natural d))
    (omega (
      arith,
      cancel (up c * b' + down a' * d) (up a' * d + down c * b') b g
          (omega (arith, mul-le-mul_right b' k', ap (λ x. x * d) h')),
    ))

-- two tests that pass together are one
pub same_test : (x y : Bool) → (IsTrue x → IsTrue y) → (IsTrue y → IsTrue x) → x ≡ y
same_test true true f g = refl
same_test false false f g = refl
same_test true false f g = sym (f refl)
same_test false true f g = g refl

pub holds_le : (a b : ℤ) → IsTrue (le_z a b) → a ≤ℤ b
holds_le a b h = omega (arith, ints, h)

pub le_holds : (a b : ℤ) → a ≤ℤ b → IsTrue (le_z a b)
le_holds a b h = grind (arith, ints, h)

pub at_most_same : {p p' : Fraction} (q : Fraction) → IsFraction p → IsFraction p' → p ≈ p' → at_most p q ≡ at_most p' q
unfolding at_most
at_most_same {p} {p'} q f f' h = same_test (at_most p q) (at_most p' q)
    (λ k. le_holds _ _ (le_at p.num p'.num q.num p.den p'.den q.den f h.same (holds_le _ _ k)))
    (λ k. le_holds _ _ (le_at p'.num p.num q.num p'.den p.den q.den f' (sym h.same) (holds_le _ _ k)))

pub at_least_same : {p p' : Fraction} (q : Fraction) → IsFraction p → IsFraction p' → p ≈ p' → at_most q p ≡ at_most q p'
unfolding at_most
at_least_same {p} {p'} q f f' h = same_test (at_most q p) (at_most q p')
    (λ k. le_holds _ _ (ge_at p.num p'.num q.num p.den p'.den q.den f h.same (holds_le _ _ k)))
    (λ k. le_holds _ _ (ge_at p'.num p.num q.num p'.den p.den q.den f' (sym h.same) (holds_le _ _ k)))

pub cancel_equal : (x y b : ℕ) → 0 < b → x * b ≡ y * b → x ≡ y
cancel_equal x y b g h = le_antisymm (cancel x y b g (le_of_eq h)) (cancel y x b g (le_of_eq (sym h)))

trans_at : (a a' a'' : ℤ) (b b' b'' : ℕ) → 0 < b' → a *ℤ pos b' ≡ a' *ℤ pos b → a' *ℤ pos b'' ≡ a'' *ℤ pos b' → a *ℤ pos b'' ≡ a'' *ℤ pos b
trans_at a a' a'' b b' b'' g h k =
    let h' = read (times (atom a) (natural b')) (times (atom a') (natural b)) h in
    let k' = read (times (atom a') (natural b'')) (times (atom a'') (natural b')) k in
    same (times (atom a) (natural b'')) (times (atom a'') (natural b))
    (omega (
      arith,
      cancel_equal (up a * b'' + down a'' * b) (up a'' * b + down a * b'') b' g
          (omega (arith, ap (λ x. x * b'') h', ap (λ x. x * b) k')),
    ))

pub ≈_trans : {p q r : Fraction} → IsFraction q → p ≈ q → q ≈ r → p ≈ r
≈_trans {p} {q} {r} f h k = record { same = trans_at p.num q.num r.num p.den q.den r.den f h.same k.same }

through_at : (a a' a'' : ℤ) (b b' b'' : ℕ) → 0 < b' → (a *ℤ pos b') ≤ℤ (a' *ℤ pos b) → (a' *ℤ pos b'') ≤ℤ (a'' *ℤ pos b') → (a *ℤ pos b'') ≤ℤ (a'' *ℤ pos b)
through_at a a' a'' b b' b'' g h k =
    let h' = read_below (times (atom a) (natural b')) (times (atom a') (natural b)) h in
    let k' = read_below (times (atom a') (natural b'')) (times (atom a'') (natural b')) k in
    below (times (atom a) (natural b'')) (times (atom a'') (natural b))
    (omega (
      arith,
      cancel (up a * b'' + down a'' * b) (up a'' * b + down a * b'') b' g
          (omega (arith, mul-le-mul_right b'' h', mul-le-mul_right b k')),
    ))

pub through : (p q r : Fraction) → IsFraction q → IsTrue (at_most p q) → IsTrue (at_most q r) → IsTrue (at_most p r)
unfolding at_most
through p q r f h k = le_holds _ _ (through_at p.num q.num r.num p.den q.den r.den f (holds_le _ _ h) (holds_le _ _ k))

le-total : (a b : ℤ) → (a ≤ℤ b) ⊎ (b ≤ℤ a)
le-total a b = grind (arith, ints)

pub total : (p q : Fraction) → IsTrue (at_most p q) ⊎ IsTrue (at_most q p)
unfolding at_most
total p q = elim (le-total (p.num *ℤ pos q.den) (q.num *ℤ pos p.den)) [ inl h ↦ inl (le_holds _ _ h) | inr h ↦ inr (le_holds _ _ h) ]

-- both of two tests that pass together pass
pub both_true : (x y : Bool) → IsTrue (x && y) → IsTrue x × IsTrue y
both_true true y h = (refl, h)
both_true false y h = absurd (true≢false (sym h))

pub both_pass : (x y : Bool) → IsTrue x → IsTrue y → IsTrue (x && y)
both_pass true y h k = k
both_pass false y h k = h
