-- The order of fractions by their quotients and rests.
use Rattle.std.proofs.Common.{◌≡◌, ℕ, ◌+◌, ◌*◌, ◌/◌, ◌%◌, ◌<◌, ◌≤◌, arith, sym, ap, ◌∙◌, subst, ⊎_elim, mul-le-mul_right, mul-lt-mul_of_pos_right, mul-pos, pos, neg_ℤ, ◌*ℤ◌, ◌<ℤ◌, Bool, true, false}
use Rattle.std.proofs.Math.Nat.{mod-lt}
use Rattle.std.specs.Ordering.{nat_cmp, int_cmp, MatchOrdering}
use Rattle.std.specs.Cmp.{int_cmp_is, ranks}
use Rattle.std.specs.declared.cmp.Ordering.{Ordering}
use Rattle.std.specs.declared.cmp.Ordering.TheVariants.{Less, Equal, Greater}
use Rattle.dyadic.specs.declared.frac.Frac.{Frac}
use Rattle.dyadic.specs.Signed.{signed_of}
use Rattle.dyadic.proofs.SizePositive.{size_positive}
use Rattle.dyadic.proofs.FracSteps.{whole_size}
use Rattle.dyadic.proofs.Products.{signed_by}
use Rattle.std.specs.Int.RustNames.{unsigned_abs}
use Rattle.std.proofs.lemmas.Bool.Decides.{nat_tests}
use Rattle.std.proofs.lemmas.Bool.{cases_lt}
use Rattle.std.proofs.lemmas.Nat.{div-add-mod'}
use Rattle.std.proofs.lemmas.Int.{ints}

-- one order stands for another
pub cmp_same : (x y u v : ℕ) → (x < y → u < v) → (y < x → v < u) → (x ≡ y → u ≡ v) → nat_cmp x y ≡ nat_cmp u v
cmp_same x y u v one two three = grind (arith, nat_tests)

less_by_quotients : (n d m e : ℕ) → 0 < d → 0 < e → n / d < m / e → n * e < m * d
less_by_quotients n d m e p q h =
    let nd = div-add-mod' n d in
    let me = div-add-mod' m e in
    let r = mod-lt n p in
    let step : (n / d + 1) * (d * e) ≤ m / e * (d * e) = mul-le-mul_right (d * e) (let k : n / d + 1 ≤ m / e = omega (arith, h) in k) in
    omega (arith, ap (λ x. x * e) nd, ap (λ x. x * d) me, mul-lt-mul_of_pos_right r q, step)

pub cmp_by_quotients : (n d m e : ℕ) → 0 < d → 0 < e → ¬ (n / d ≡ m / e) → nat_cmp (n / d) (m / e) ≡ nat_cmp (n * e) (m * d)
cmp_by_quotients n d m e p q other =
    cmp_same _ _ _ _ (less_by_quotients n d m e p q) (λ h. less_by_quotients m e n d q p h) (λ same. absurd (other same))

-- with one quotient the rests tell
by_rests : (n d m e : ℕ) → n / d ≡ m / e → nat_cmp (n % d * e) (m % e * d) ≡ nat_cmp (n * e) (m * d)
by_rests n d m e same =
    let left : n * e ≡ n / d * d * e + n % d * e = ap (λ x. x * e) (sym (div-add-mod' n d)) ∙ omega arith in
    let right : m * d ≡ m / e * e * d + m % e * d = ap (λ x. x * d) (sym (div-add-mod' m e)) ∙ omega arith in
    let middle : n / d * d * e ≡ m / e * e * d = ap (λ x. x * d * e) same ∙ omega arith in
    cmp_same (n % d * e) (m % e * d) (n * e) (m * d) (λ h. omega (arith, h, left, right, middle)) (λ h. omega (arith, h, left, right, middle)) (λ h. omega (arith, h, left, right, middle))

-- where one rest is 0, the rests alone tell
less_rest : (r s d e : ℕ) → 0 < d → (0 < r → 0 < s → ⊥) → r < s → r * e < s * d
less_rest r s d e p none h =
    ⊎_elim
    (λ (zero : r < 1). let some : 0 < s * d = mul-pos (let k : 0 < s = omega (arith, h) in k) p in let r0 : r ≡ 0 = omega arith in omega (arith, some, ap (λ x. x * e) r0))
    (λ (some : 1 ≤ r). absurd (none some (omega arith)))
    (cases_lt r 1)

equal_rest : (r s d e : ℕ) → (0 < r → 0 < s → ⊥) → r ≡ s → r * e ≡ s * d
equal_rest r s d e none h =
    ⊎_elim
    (λ (zero : r < 1). let r0 : r ≡ 0 = omega arith in let s0 : s ≡ 0 = omega arith in omega (arith, ap (λ x. x * e) r0, ap (λ x. x * d) s0))
    (λ (some : 1 ≤ r). absurd (none some (omega arith)))
    (cases_lt r 1)

pub cmp_by_rests : (n d m e : ℕ) → 0 < d → 0 < e → n / d ≡ m / e → ((0 < n % d) → (0 < m % e) → ⊥) → nat_cmp (n % d) (m % e) ≡ nat_cmp (n * e) (m * d)
cmp_by_rests n d m e p q same none =
    cmp_same (n % d) (m % e) (n % d * e) (m % e * d) (less_rest (n % d) (m % e) d e p none) (less_rest (m % e) (n % d) e d q (λ a b. none b a)) (λ h. equal_rest (n % d) (m % e) d e none h)
    ∙ by_rests n d m e same

pub cmp_turned : (n d m e : ℕ) → n / d ≡ m / e → nat_cmp (e * (n % d)) (d * (m % e)) ≡ nat_cmp (n * e) (m * d)
cmp_turned n d m e same =
    (let l : e * (n % d) ≡ n % d * e = omega arith in let r : d * (m % e) ≡ m % e * d = omega arith in ap (λ x. nat_cmp x (d * (m % e))) l ∙ ap (λ x. nat_cmp (n % d * e) x) r) ∙ by_rests n d m e same

-- the order of numbers from that of their sizes
cmp_plus : (x y : ℕ) → nat_cmp x y ≡ int_cmp (pos x) (pos y)
cmp_plus x y = int_cmp_is (pos x) (pos y) (nat_cmp x y) (ranked_plus (nat_cmp x y) (ranks x y))
  where
    ranked_plus : (r : Ordering) → MatchOrdering r (x < y) (x ≡ y) (y < x) → MatchOrdering r (pos x <ℤ pos y) (pos x ≡ pos y) (pos y <ℤ pos x)
    ranked_plus Less h = omega (arith, ints)
    ranked_plus Equal h = ap pos h
    ranked_plus Greater h = omega (arith, ints)

cmp_minus : (x y : ℕ) → nat_cmp y x ≡ int_cmp (neg_ℤ (pos x)) (neg_ℤ (pos y))
cmp_minus x y = int_cmp_is (neg_ℤ (pos x)) (neg_ℤ (pos y)) (nat_cmp y x) (ranked_minus (nat_cmp y x) (ranks y x))
  where
    ranked_minus : (r : Ordering) → MatchOrdering r (y < x) (y ≡ x) (x < y) → MatchOrdering r (neg_ℤ (pos x) <ℤ neg_ℤ (pos y)) (neg_ℤ (pos x) ≡ neg_ℤ (pos y)) (neg_ℤ (pos y) <ℤ neg_ℤ (pos x))
    ranked_minus Less h = omega (arith, ints)
    ranked_minus Equal h = ap (λ z. neg_ℤ (pos z)) (sym h)
    ranked_minus Greater h = omega (arith, ints)

crossed : (a b : Frac) (s : Bool) → signed_of s (unsigned_abs a.n) ≡ a.n → signed_of s (unsigned_abs a.n * unsigned_abs b.d) ≡ a.n *ℤ b.d
crossed a b s e = signed_by s (unsigned_abs a.n) (unsigned_abs b.d) ∙ ap (λ z. z *ℤ pos (unsigned_abs b.d)) e ∙ ap (λ z. a.n *ℤ z) (whole_size b.d b.lowest.positive)

pub cmp_plus_plus : (a b : Frac) → signed_of false (unsigned_abs a.n) ≡ a.n → signed_of false (unsigned_abs b.n) ≡ b.n → nat_cmp (unsigned_abs a.n * unsigned_abs b.d) (unsigned_abs b.n * unsigned_abs a.d) ≡ int_cmp (a.n *ℤ b.d) (b.n *ℤ a.d)
cmp_plus_plus a b e f =
    let x = unsigned_abs a.n * unsigned_abs b.d in
    let y = unsigned_abs b.n * unsigned_abs a.d in
    cmp_plus x y ∙ ap (λ z. int_cmp z (pos y)) (crossed a b false e) ∙ ap (λ z. int_cmp (a.n *ℤ b.d) z) (crossed b a false f)

pub cmp_minus_minus : (a b : Frac) → signed_of true (unsigned_abs a.n) ≡ a.n → signed_of true (unsigned_abs b.n) ≡ b.n → nat_cmp (unsigned_abs b.n * unsigned_abs a.d) (unsigned_abs a.n * unsigned_abs b.d) ≡ int_cmp (a.n *ℤ b.d) (b.n *ℤ a.d)
cmp_minus_minus a b e f =
    let x = unsigned_abs a.n * unsigned_abs b.d in
    let y = unsigned_abs b.n * unsigned_abs a.d in
    cmp_minus x y ∙ ap (λ z. int_cmp z (neg_ℤ (pos y))) (crossed a b true e) ∙ ap (λ z. int_cmp (a.n *ℤ b.d) z) (crossed b a true f)

-- a minus on one side alone
pub cmp_minus_plus : (a b : Frac) → signed_of true (unsigned_abs a.n) ≡ a.n → 0 < unsigned_abs a.n → signed_of false (unsigned_abs b.n) ≡ b.n → Less ≡ int_cmp (a.n *ℤ b.d) (b.n *ℤ a.d)
cmp_minus_plus a b e p f =
    let some : 0 < unsigned_abs a.n * unsigned_abs b.d = mul-pos p (size_positive b.d b.lowest.positive) in
    let left : neg_ℤ (pos (unsigned_abs a.n * unsigned_abs b.d)) ≡ a.n *ℤ b.d = crossed a b true e in
    let right : pos (unsigned_abs b.n * unsigned_abs a.d) ≡ b.n *ℤ a.d = crossed b a false f in
    let less : (a.n *ℤ b.d) <ℤ (b.n *ℤ a.d) = subst (λ z. z <ℤ (b.n *ℤ a.d)) left (subst (λ z. neg_ℤ (pos (unsigned_abs a.n * unsigned_abs b.d)) <ℤ z) right (omega (arith, ints))) in
    int_cmp_is (a.n *ℤ b.d) (b.n *ℤ a.d) Less less

pub cmp_plus_minus : (a b : Frac) → signed_of false (unsigned_abs a.n) ≡ a.n → signed_of true (unsigned_abs b.n) ≡ b.n → 0 < unsigned_abs b.n → Greater ≡ int_cmp (a.n *ℤ b.d) (b.n *ℤ a.d)
cmp_plus_minus a b e f p =
    let some : 0 < unsigned_abs b.n * unsigned_abs a.d = mul-pos p (size_positive a.d a.lowest.positive) in
    let left : pos (unsigned_abs a.n * unsigned_abs b.d) ≡ a.n *ℤ b.d = crossed a b false e in
    let right : neg_ℤ (pos (unsigned_abs b.n * unsigned_abs a.d)) ≡ b.n *ℤ a.d = crossed b a true f in
    let less : (b.n *ℤ a.d) <ℤ (a.n *ℤ b.d) = subst (λ z. z <ℤ (a.n *ℤ b.d)) right (subst (λ z. neg_ℤ (pos (unsigned_abs b.n * unsigned_abs a.d)) <ℤ z) left (omega (arith, ints))) in
    int_cmp_is (a.n *ℤ b.d) (b.n *ℤ a.d) Greater less
