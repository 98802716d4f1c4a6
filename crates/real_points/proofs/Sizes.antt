-- Fractions whose size, or whose distance, is at most k over n + 1.
use Rattle.std.proofs.Common.{◌≡◌, ℕ, suc, negsuc, ◌+◌, ◌*◌, ◌<◌, ◌≤◌, IsTrue, refl, ap, ap₂, ◌∙◌, arith, ℤ, pos, ◌+ℤ◌, ◌*ℤ◌, neg_ℤ, ◌≤ℤ◌, nat_abs, mul-le-mul_right, mul-le-mul_left, le_of_mul-le-mul_right, lt_of_mul-lt-mul_right}
use Rattle.std.proofs.Math.IntN.{*ℤ_comm}
use Rattle.std.proofs.lemmas.Int.{ints}
use borrow.Author.Differences.{up, down}
use Rattle.dyadic.specs.Fraction.{Fraction, IsFraction, negated, sum_of, difference_of, product_of, at_most}
use Rattle.dyadic.proofs.Equal.{holds_le, le_holds}
use Rattle.dyadic.proofs.Ints.{nat_abs-neg}
use Rattle.script_model.proofs.Bounds.{product_is}
use Rattle.real_points.specs.Real.{IsWithin, part}
use Rattle.dyadic.proofs.Ring.{Is, atom, natural, plus, minus, times, same, below, read_below}

-- ---- sizes of whole numbers

size-sum : (a b : ℤ) → nat_abs (a +ℤ b) ≤ nat_abs a + nat_abs b
size-sum a b = omega (arith, ints)

pub size_product : (a b : ℤ) → nat_abs (a *ℤ b) ≡ nat_abs a * nat_abs b
size_product (pos m) (pos n) = refl
size_product (pos m) (negsuc n) = nat_abs-neg (pos (m * suc n))
size_product (negsuc m) (pos n) = nat_abs-neg (pos (suc m * n))
size_product (negsuc m) (negsuc n) = refl

-- of z = a k + b l
size-of-two : (z a b : ℤ) (k l : ℕ) → z ≡ (a *ℤ pos k) +ℤ (b *ℤ pos l) → nat_abs z ≤ nat_abs a * k + nat_abs b * l
size-of-two z a b k l e = rw e (omega (arith, size-sum (a *ℤ pos k) (b *ℤ pos l), size_product a (pos k), size_product b (pos l)))

pub products : (a b c d : ℕ) → a ≤ b → c ≤ d → a * c ≤ b * d
products a b c d h k = omega (arith, mul-le-mul_right c h, mul-le-mul_left b k)

-- ---- |q| <= k

pub record IsSized (k : ℕ) (q : Fraction) : Type 0 where
  pub sized : nat_abs q.num ≤ k * q.den

pub sized_constant : (q : Fraction) → IsFraction q → IsSized (nat_abs q.num) q
sized_constant q f = record { sized = omega (arith, mul-le-mul_left (nat_abs q.num) f) }

pub sized_negated : (k : ℕ) (q : Fraction) → IsSized k q → IsSized k (negated q)
unfolding negated
sized_negated k q h = record { sized = rw (nat_abs-neg q.num) h.sized }

sum-at : (s t b d j k : ℕ) → s ≤ j * b → t ≤ k * d → s * d + t * b ≤ (j + k) * (b * d)
sum-at s t b d j k h i = omega (arith, mul-le-mul_right d h, mul-le-mul_right b i)

pub sized_sum : (j k : ℕ) (p q : Fraction) → IsSized j p → IsSized k q → IsSized (j + k) (sum_of p q)
unfolding sum_of
sized_sum j k p q h i = record {
  sized = omega (arith, size-of-two ((p.num *ℤ pos q.den) +ℤ (q.num *ℤ pos p.den)) p.num q.num q.den p.den refl, sum-at (nat_abs p.num) (nat_abs q.num) p.den q.den j k h.sized i.sized);
}

pub sized_product : (j k : ℕ) (p q : Fraction) → IsSized j p → IsSized k q → IsSized (j * k) (product_of p q)
unfolding product_of
sized_product j k p q h i = record { sized = omega (arith, size_product p.num q.num, products (nat_abs p.num) (j * p.den) (nat_abs q.num) (k * q.den) h.sized i.sized) }

-- ---- |p - q| <= k / (n + 1)

pub record IsClose (k n : ℕ) (p q : Fraction) : Type 0 where
  pub close : nat_abs ((p.num *ℤ pos q.den) +ℤ (neg_ℤ q.num *ℤ pos p.den)) * suc n ≤ k * (p.den * q.den)

-- the numerator of a / b - c / d
abbrev gap : ℤ → ℤ → ℕ → ℕ → ℤ
gap a c b d = (a *ℤ pos d) +ℤ (neg_ℤ c *ℤ pos b)

-- the same as a product of differences, to compare by `same`
gap-sum : (a u a' u' : ℤ) (b v b' v' : ℕ) → gap ((a *ℤ pos v) +ℤ (u *ℤ pos b)) ((a' *ℤ pos v') +ℤ (u' *ℤ pos b')) (b * v) (b' * v') ≡
    (gap a a' b b' *ℤ pos (v * v')) +ℤ (gap u u' v v' *ℤ pos (b * b'))
gap-sum a u a' u' b v b' v' = same
    (plus (times (plus (times (atom a) (natural v)) (times (atom u) (natural b))) (natural (b' * v'))) (times (minus (plus (times (atom a') (natural v')) (times (atom u') (natural b')))) (natural (b * v))))
    (plus (times (plus (times (atom a) (natural b')) (times (minus (atom a')) (natural b))) (natural (v * v'))) (times (plus (times (atom u) (natural v')) (times (minus (atom u')) (natural v))) (natural (b * b'))))
    (omega arith)

gap-chain : (a a' a'' : ℤ) (b b' b'' : ℕ) → gap a a'' b b'' *ℤ pos b' ≡ (gap a a' b b' *ℤ pos b'') +ℤ (gap a' a'' b' b'' *ℤ pos b)
gap-chain a a' a'' b b' b'' = same
    (times (plus (times (atom a) (natural b'')) (times (minus (atom a'')) (natural b))) (natural b'))
    (plus (times (plus (times (atom a) (natural b')) (times (minus (atom a')) (natural b))) (natural b'')) (times (plus (times (atom a') (natural b'')) (times (minus (atom a'')) (natural b'))) (natural b)))
    (omega arith)

gap-scaled : (a u u' : ℤ) (b v v' : ℕ) → gap (a *ℤ u) (a *ℤ u') (b * v) (b * v') ≡ (a *ℤ gap u u' v v') *ℤ pos b
gap-scaled a u u' b v v' = same
    (plus (times (times (atom a) (atom u)) (natural (b * v'))) (times (minus (times (atom a) (atom u'))) (natural (b * v))))
    (times (times (atom a) (plus (times (atom u) (natural v')) (times (minus (atom u')) (natural v)))) (natural b))
    (omega arith)

gap-turned : (a c : ℤ) (b d : ℕ) → gap c a d b ≡ neg_ℤ (gap a c b d)
gap-turned a c b d = same
    (plus (times (atom c) (natural b)) (times (minus (atom a)) (natural d)))
    (minus (plus (times (atom a) (natural d)) (times (minus (atom c)) (natural b))))
    (omega arith)

gap-itself : (a : ℤ) (b : ℕ) → gap a a b b ≡ pos 0
gap-itself a b = same (plus (times (atom a) (natural b)) (times (minus (atom a)) (natural b))) (natural 0) (omega arith)

gap-negated : (a c : ℤ) (b d : ℕ) → gap (neg_ℤ a) (neg_ℤ c) b d ≡ neg_ℤ (gap a c b d)
gap-negated a c b d = same
    (plus (times (minus (atom a)) (natural d)) (times (minus (minus (atom c))) (natural b)))
    (minus (plus (times (atom a) (natural d)) (times (minus (atom c)) (natural b))))
    (omega arith)

pub close_itself : (k n : ℕ) (p : Fraction) → IsClose k n p p
close_itself k n p = record { close = rw (gap-itself p.num p.den) (omega arith) }

pub close_turned : (k n : ℕ) (p q : Fraction) → IsClose k n p q → IsClose k n q p
close_turned k n p q h = record { close = rw (gap-turned p.num q.num p.den q.den, nat_abs-neg (gap p.num q.num p.den q.den)) (omega (arith, h.close)) }

pub close_negated : (k n : ℕ) (p q : Fraction) → IsClose k n p q → IsClose k n (negated p) (negated q)
unfolding negated
close_negated k n p q h = record { close = rw (gap-negated p.num q.num p.den q.den, nat_abs-neg (gap p.num q.num p.den q.den)) h.close }

-- x <= s c' + t c where s N <= j b, t N <= k c
joined : (x s t c d N j k b e : ℕ) → x ≤ s * c + t * d → s * N ≤ j * b → t * N ≤ k * e → x * N ≤ j * (b * c) + k * (e * d)
joined x s t c d N j k b e h i l = omega (arith, mul-le-mul_right N h, mul-le-mul_right c i, mul-le-mul_right d l)

pub close_sum : (j k n : ℕ) (p q r s : Fraction) → IsClose j n p q → IsClose k n r s → IsClose (j + k) n (sum_of p r) (sum_of q s)
unfolding sum_of
close_sum j k n p q r s h i =
    let b = p.den * q.den in let v = r.den * s.den in
    let x = gap ((p.num *ℤ pos r.den) +ℤ (r.num *ℤ pos p.den)) ((q.num *ℤ pos s.den) +ℤ (s.num *ℤ pos q.den)) (p.den * r.den) (q.den * s.den) in
    let f = gap p.num q.num p.den q.den in let g = gap r.num s.num r.den s.den in
    let e : nat_abs x ≤ nat_abs f * v + nat_abs g * b = size-of-two x f g v b (gap-sum p.num r.num q.num s.num p.den r.den q.den s.den) in
    let l : nat_abs x * suc n ≤ j * (b * v) + k * (v * b) = joined (nat_abs x) (nat_abs f) (nat_abs g) v b (suc n) j k b v e h.close i.close in
    record { close = omega (arith, l) }

pub close_chain : (j k n : ℕ) (p q r : Fraction) → IsFraction q → IsClose j n p q → IsClose k n q r → IsClose (j + k) n p r
close_chain j k n p q r f h i =
    let x = gap p.num r.num p.den r.den in
    let d = gap p.num q.num p.den q.den in let g = gap q.num r.num q.den r.den in
    let e : nat_abs (x *ℤ pos q.den) ≤ nat_abs d * r.den + nat_abs g * p.den = size-of-two (x *ℤ pos q.den) d g r.den p.den (gap-chain p.num q.num r.num p.den q.den r.den) in
    let l : nat_abs (x *ℤ pos q.den) * suc n ≤ j * (p.den * q.den * r.den) + k * (q.den * r.den * p.den) = joined (nat_abs (x *ℤ pos q.den)) (nat_abs d) (nat_abs g) r.den p.den (suc n) j k (p.den * q.den) (q.den * r.den) e h.close i.close in
    let m : (nat_abs x * suc n) * q.den ≤ ((j + k) * (p.den * r.den)) * q.den = omega (arith, l, ap (λ y. y * suc n) (size_product x (pos q.den))) in
    record { close = le_of_mul-le-mul_right m f }

scaled-at : (s t b N V d v : ℕ) → s ≤ V * b → t * N ≤ d * v → (s * t * b) * N ≤ (V * d) * (b * b * v)
scaled-at s t b N V d v h k = omega (arith, mul-le-mul_right b (products s (V * b) (t * N) (d * v) h k))

pub close_scaled : (j k n : ℕ) (p r s : Fraction) → IsSized j p → IsClose k n r s → IsClose (j * k) n (product_of p r) (product_of p s)
unfolding product_of
close_scaled j k n p r s h i =
    let g = gap r.num s.num r.den s.den in
    let x = gap (p.num *ℤ r.num) (p.num *ℤ s.num) (p.den * r.den) (p.den * s.den) in
    let e : nat_abs x ≡ nat_abs p.num * nat_abs g * p.den = ap nat_abs (gap-scaled p.num r.num s.num p.den r.den s.den) ∙ size_product (p.num *ℤ g) (pos p.den) ∙ ap (λ y. y * p.den) (size_product p.num g) in
    let l : (nat_abs p.num * nat_abs g * p.den) * suc n ≤ (j * k) * (p.den * p.den * (r.den * s.den)) = scaled-at (nat_abs p.num) (nat_abs g) p.den (suc n) j k (r.den * s.den) h.sized i.close in
    record { close = rw e (omega (arith, l)) }

product-turned : (p q : Fraction) → product_of p q ≡ product_of q p
unfolding product_of
product-turned p q = ap₂ (λ (x : ℤ) (y : ℕ). record { num = x; den = y }) (*ℤ_comm p.num q.num) (omega arith)

-- |p r - q s| <= |p| |r - s| + |s| |p - q|
pub close_product : (j k l m n : ℕ) (p q r s : Fraction) → IsFraction p → IsFraction s → IsSized j p → IsSized k s → IsClose l n p q → IsClose m n r s →
    IsClose (j * m + k * l) n (product_of p r) (product_of q s)
close_product j k l m n p q r s f g h i c d =
    close_chain (j * m) (k * l) n (product_of p r) (product_of p s) (product_of q s) (product_is p s f g)
    (close_scaled j m n p r s h d)
    (rw (product-turned p s, product-turned q s) (close_scaled k l n s p q i c))

-- ---- from distances to orders and back

-- k over n + 1
abbrev pub ratio : ℕ → ℕ → Fraction
ratio k n = record { num = pos k; den = suc n }

size-view : (z : ℤ) (p n : ℕ) → Is z p n → (p ≤ n + nat_abs z) × (n ≤ p + nat_abs z)
size-view z p n h = (omega (arith, ints, h.is), omega (arith, ints, h.is))

gap-view : (a c : ℤ) (b d : ℕ) → (up a * d + down c * b ≤ down a * d + up c * b + nat_abs (gap a c b d)) × (down a * d + up c * b ≤ up a * d + down c * b + nat_abs (gap a c b d))
gap-view a c b d = let h = size-view (gap a c b d) _ _ (plus (times (atom a) (natural d)) (times (minus (atom c)) (natural b))) in (omega (arith, h.0), omega (arith, h.1))

above-at : (a c : ℤ) (b d k N : ℕ) → nat_abs (gap a c b d) * N ≤ k * (b * d) → (c *ℤ pos (b * N)) ≤ℤ (((a *ℤ pos N) +ℤ (pos k *ℤ pos b)) *ℤ pos d)
above-at a c b d k N h = below (times (atom c) (natural (b * N))) (times (plus (times (atom a) (natural N)) (times (natural k) (natural b))) (natural d))
    (omega (arith, h, mul-le-mul_right N (gap-view a c b d).1))

-- q <= p + k / (n + 1)
pub close_above : (k n : ℕ) (p q : Fraction) → IsClose k n p q → IsTrue (at_most q (sum_of p (ratio k n)))
unfolding at_most sum_of
close_above k n p q h = le_holds _ _ (above-at p.num q.num p.den q.den k (suc n) h.close)

below-at : (a c : ℤ) (b d k N : ℕ) → nat_abs (gap a c b d) * N ≤ k * (b * d) → (((a *ℤ pos N) +ℤ (neg_ℤ (pos k) *ℤ pos b)) *ℤ pos d) ≤ℤ (c *ℤ pos (b * N))
below-at a c b d k N h = below (times (plus (times (atom a) (natural N)) (times (minus (natural k)) (natural b))) (natural d)) (times (atom c) (natural (b * N)))
    (omega (arith, h, mul-le-mul_right N (gap-view a c b d).0))

-- p - k / (n + 1) <= q
pub close_below : (k n : ℕ) (p q : Fraction) → IsClose k n p q → IsTrue (at_most (difference_of p (ratio k n)) q)
unfolding at_most sum_of negated
close_below k n p q h = le_holds _ _ (below-at p.num q.num p.den q.den k (suc n) h.close)

size-below : (z : ℤ) (p n t : ℕ) → Is z p n → p ≤ n + t → n ≤ p + t → nat_abs z ≤ t
size-below z p n t h k l = omega (arith, ints, h.is)

-- a distance of at most x / y
within-at : (a c : ℤ) (b d x y : ℕ) → (gap a c b d *ℤ pos y) ≤ℤ (pos x *ℤ pos (b * d)) → (gap c a d b *ℤ pos y) ≤ℤ (pos x *ℤ pos (d * b)) → nat_abs (gap a c b d *ℤ pos y) ≤ x * (b * d)
within-at a c b d x y h k =
    let f = times (plus (times (atom a) (natural d)) (times (minus (atom c)) (natural b))) (natural y) in
    let g = times (plus (times (atom c) (natural b)) (times (minus (atom a)) (natural d))) (natural y) in
    size-below (gap a c b d *ℤ pos y) _ _ (x * (b * d)) f
    (omega (arith, read_below f (times (natural x) (natural (b * d))) h))
    (omega (arith, read_below g (times (natural x) (natural (d * b))) k))

pub within_sized : (x y : ℕ) (p q : Fraction) → IsWithin (record { num = pos x; den = y }) p q → nat_abs (gap p.num q.num p.den q.den) * y ≤ x * (p.den * q.den)
unfolding at_most sum_of negated
within_sized x y p q h =
    rw (← size_product (gap p.num q.num p.den q.den) (pos y)) (within-at p.num q.num p.den q.den x y (holds_le _ _ h.0) (holds_le _ _ h.1))

pub close_more : (j k n : ℕ) (p q : Fraction) → j ≤ k → IsClose j n p q → IsClose k n p q
close_more j k n p q l h = record { close = omega (arith, h.close, mul-le-mul_right (p.den * q.den) l) }

pub sized_more : (j k : ℕ) (p : Fraction) → j ≤ k → IsSized j p → IsSized k p
sized_more j k p l h = record { sized = omega (arith, h.sized, mul-le-mul_right p.den l) }

-- what is close to a sized fraction is sized
gap-other : (a c : ℤ) (b d : ℕ) → c *ℤ pos b ≡ (a *ℤ pos d) +ℤ (neg_ℤ (gap a c b d) *ℤ pos 1)
gap-other a c b d = same (times (atom c) (natural b))
    (plus (times (atom a) (natural d)) (times (minus (plus (times (atom a) (natural d)) (times (minus (atom c)) (natural b)))) (natural 1)))
    (omega arith)

apart-at : (a c : ℤ) (b d k N j : ℕ) → nat_abs (gap a c b d) * suc N ≤ k * (b * d) → nat_abs a ≤ j * b → nat_abs c * b ≤ ((j + k) * d) * b
apart-at a c b d k N j h s =
    let e : nat_abs (c *ℤ pos b) ≤ nat_abs a * d + nat_abs (neg_ℤ (gap a c b d)) * 1 = size-of-two (c *ℤ pos b) a (neg_ℤ (gap a c b d)) d 1 (gap-other a c b d) in
    let g : nat_abs (gap a c b d) ≤ k * (b * d) = omega (arith, h) in
    omega (arith, size_product c (pos b), e, g, nat_abs-neg (gap a c b d), mul-le-mul_right d s)

pub sized_beside : (j k n : ℕ) (p q : Fraction) → IsFraction p → IsSized j p → IsClose k n p q → IsSized (j + k) q
sized_beside j k n p q f h i = record { sized = le_of_mul-le-mul_right (apart-at p.num q.num p.den q.den k n j i.close h.sized) f }

from-at : (a c : ℤ) (b d k N : ℕ) → (c *ℤ pos (b * N)) ≤ℤ (((a *ℤ pos N) +ℤ (pos k *ℤ pos b)) *ℤ pos d) → (a *ℤ pos (d * N)) ≤ℤ (((c *ℤ pos N) +ℤ (pos k *ℤ pos d)) *ℤ pos b) →
    nat_abs (gap a c b d *ℤ pos N) ≤ k * (b * d)
from-at a c b d k N h i = size-below (gap a c b d *ℤ pos N) _ _ (k * (b * d)) (times (plus (times (atom a) (natural d)) (times (minus (atom c)) (natural b))) (natural N))
    (omega (arith, read_below (times (atom a) (natural (d * N))) (times (plus (times (atom c) (natural N)) (times (natural k) (natural d))) (natural b)) i))
    (omega (arith, read_below (times (atom c) (natural (b * N))) (times (plus (times (atom a) (natural N)) (times (natural k) (natural b))) (natural d)) h))

-- q <= p + k / (n + 1) and p <= q + k / (n + 1)
pub close_from : (k n : ℕ) (p q : Fraction) → IsTrue (at_most q (sum_of p (ratio k n))) → IsTrue (at_most p (sum_of q (ratio k n))) → IsClose k n p q
unfolding at_most sum_of
close_from k n p q h i = record { close = rw (← size_product (gap p.num q.num p.den q.den) (pos (suc n))) (from-at p.num q.num p.den q.den k (suc n) (holds_le _ _ h) (holds_le _ _ i)) }

grown-at : (a : ℤ) (b k N : ℕ) → (a *ℤ pos (b * N)) ≤ℤ (((a *ℤ pos N) +ℤ (pos k *ℤ pos b)) *ℤ pos b)
grown-at a b k N = below (times (atom a) (natural (b * N))) (times (plus (times (atom a) (natural N)) (times (natural k) (natural b))) (natural b)) (omega arith)

-- q <= q + k / (n + 1)
pub grown : (k n : ℕ) (q : Fraction) → IsTrue (at_most q (sum_of q (ratio k n)))
unfolding at_most sum_of
grown k n q = le_holds _ _ (grown-at q.num q.den k (suc n))

across-at : (a c : ℤ) (b d k N : ℕ) → (((a *ℤ pos N) +ℤ (neg_ℤ (pos k) *ℤ pos b)) *ℤ pos d) ≤ℤ (c *ℤ pos (b * N)) → (a *ℤ pos (d * N)) ≤ℤ (((c *ℤ pos N) +ℤ (pos k *ℤ pos d)) *ℤ pos b)
across-at a c b d k N h = below (times (atom a) (natural (d * N))) (times (plus (times (atom c) (natural N)) (times (natural k) (natural d))) (natural b))
    (omega (arith, read_below (times (plus (times (atom a) (natural N)) (times (minus (natural k)) (natural b))) (natural d)) (times (atom c) (natural (b * N))) h))

-- p - k / (n + 1) <= q gives p <= q + k / (n + 1)
pub across : (k n : ℕ) (p q : Fraction) → IsTrue (at_most (difference_of p (ratio k n)) q) → IsTrue (at_most p (sum_of q (ratio k n)))
unfolding at_most sum_of negated
across k n p q h = le_holds _ _ (across-at p.num q.num p.den q.den k (suc n) (holds_le _ _ h))

-- ---- what is so up to every 1 / (n + 1) is so

squeezed : (p q t : ℕ) → p * suc (2 * t) ≤ q * suc (2 * t) + 2 * t → p ≤ q
squeezed p q t h = let l : p * suc (2 * t) < suc q * suc (2 * t) = omega (arith, h) in let k : p < suc q = lt_of_mul-lt-mul_right (suc (2 * t)) l in omega (arith, k)

limit-at : (a c : ℤ) (b d : ℕ) → (c *ℤ pos (b * suc (2 * (b * d)))) ≤ℤ (((a *ℤ pos (suc (2 * (b * d)))) +ℤ (pos 2 *ℤ pos b)) *ℤ pos d) → (c *ℤ pos b) ≤ℤ (a *ℤ pos d)
limit-at a c b d h = below (times (atom c) (natural b)) (times (atom a) (natural d))
    (squeezed _ _ (b * d) (omega (arith, read_below (times (atom c) (natural (b * suc (2 * (b * d))))) (times (plus (times (atom a) (natural (suc (2 * (b * d))))) (times (natural 2) (natural b))) (natural d)) h)))

-- q <= p + 2 / (n + 1) for all n gives q <= p
pub limit : (p q : Fraction) → ((n : ℕ) → IsTrue (at_most q (sum_of p (ratio 2 n)))) → IsTrue (at_most q p)
unfolding at_most sum_of
limit p q h = le_holds _ _ (limit-at p.num q.num p.den q.den (holds_le _ _ (h (2 * (p.den * q.den)))))

-- q <= r + k / (n + 1), r <= p + k / (n + 1)
twice-at : (a e c : ℤ) (b f d N : ℕ) → 0 < f → (c *ℤ pos (f * N)) ≤ℤ (((e *ℤ pos N) +ℤ (pos 1 *ℤ pos f)) *ℤ pos d) → (e *ℤ pos (b * N)) ≤ℤ (((a *ℤ pos N) +ℤ (pos 1 *ℤ pos b)) *ℤ pos f) →
    (c *ℤ pos (b * N)) ≤ℤ (((a *ℤ pos N) +ℤ (pos 2 *ℤ pos b)) *ℤ pos d)
twice-at a e c b f d N g h i = below (times (atom c) (natural (b * N))) (times (plus (times (atom a) (natural N)) (times (natural 2) (natural b))) (natural d))
    (le_of_mul-le-mul_right {k = f} (omega (
      arith,
      mul-le-mul_right b (read_below (times (atom c) (natural (f * N))) (times (plus (times (atom e) (natural N)) (times (natural 1) (natural f))) (natural d)) h),
      mul-le-mul_right d (read_below (times (atom e) (natural (b * N))) (times (plus (times (atom a) (natural N)) (times (natural 1) (natural b))) (natural f)) i),
    )) g)

pub twice : (n : ℕ) (p r q : Fraction) → IsFraction r → IsTrue (at_most q (sum_of r (ratio 1 n))) → IsTrue (at_most r (sum_of p (ratio 1 n))) → IsTrue (at_most q (sum_of p (ratio 2 n)))
unfolding at_most sum_of
twice n p r q f h i = le_holds _ _ (twice-at p.num r.num q.num p.den r.den q.den (suc n) f (holds_le _ _ h) (holds_le _ _ i))

-- ---- steps of a loosening

added-at : (x p q c : ℤ) (y d f e : ℕ) → (((p *ℤ pos f) +ℤ (q *ℤ pos d)) *ℤ pos e) ≤ℤ (c *ℤ pos (d * f)) →
    (((((x *ℤ pos d) +ℤ (p *ℤ pos y)) *ℤ pos f) +ℤ (q *ℤ pos (y * d))) *ℤ pos (y * e)) ≤ℤ (((x *ℤ pos e) +ℤ (c *ℤ pos y)) *ℤ pos (y * d * f))
added-at x p q c y d f e h = below
    (times (plus (times (plus (times (atom x) (natural d)) (times (atom p) (natural y))) (natural f)) (times (atom q) (natural (y * d)))) (natural (y * e)))
    (times (plus (times (atom x) (natural e)) (times (atom c) (natural y))) (natural (y * d * f)))
    (omega (arith, mul-le-mul_right (y * y) (read_below (times (plus (times (atom p) (natural f)) (times (atom q) (natural d))) (natural e)) (times (atom c) (natural (d * f))) h)))

added : (m p q c : Fraction) → IsTrue (at_most (sum_of p q) c) → IsTrue (at_most (sum_of (sum_of m p) q) (sum_of m c))
unfolding at_most sum_of
added m p q c h = le_holds _ _ (added-at m.num p.num q.num c.num m.den p.den q.den c.den (holds_le _ _ h))

halves-at : (r k N : ℕ) → 2 * r * suc k ≤ N → (1 * N + r * suc (2 * k + 1)) * suc k ≤ 1 * (suc (2 * k + 1) * N)
halves-at r k N h = omega (arith, mul-le-mul_right (suc k) h)

halves : (r k n : ℕ) → 2 * r * suc k ≤ suc n → IsTrue (at_most (sum_of (part (2 * k + 1)) (ratio r n)) (part k))
unfolding at_most sum_of
halves r k n h = le_holds _ _ (below (natural ((1 * suc n + r * suc (2 * k + 1)) * suc k)) (natural (1 * (suc (2 * k + 1) * suc n))) (omega (arith, halves-at r k (suc n) h)))

-- m + 1 / (2 k + 2) + r / (n + 1) is at most m + 1 / (k + 1)
pub step_halves : (m : Fraction) (r k n : ℕ) → 2 * r * suc k ≤ suc n → IsTrue (at_most (sum_of (sum_of m (part (2 * k + 1))) (ratio r n)) (sum_of m (part k)))
step_halves m r k n h = added m (part (2 * k + 1)) (ratio r n) (part k) (halves r k n h)
