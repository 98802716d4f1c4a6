-- The sizes that the definitions round to are the nearest ones of the grid.
use Rattle.std.proofs.Common.{◌≡◌, ℕ, zero, suc, ◌+◌, ◌*◌, ◌-◌, ◌/◌, ◌%◌, ◌^◌, ◌<◌, ◌≤◌, arith, refl, ap, ◌∙◌, subst, ⊎_elim, Bool, true, false, cond, nat_le, div-add-mod', mod-lt}
use Rattle.std.proofs.Math.Nat.{le_of_mul-le-mul_right, lt_of_mul-lt-mul_right, div-lt_iff_lt-mul}
use Rattle.std.proofs.lemmas.Nat.{pow-add, pow_pos, div-mul-add}
use Rattle.std.proofs.lemmas.Bool.{cases_lt, cond_both, cond-true, cond-false, leb-true, leb-false, le-leb, lt-leb}
use Rattle.dyadic.specs.Rounding.{IsRepresentable, log_from, step_of, multiple_below, size_below, size_above, ceiling, root_from, whole_root, root_above}
use Rattle.dyadic.specs.Grid.{IsRoundedDown, IsRoundedUp, IsTight, IsTightRoot}
use Rattle.dyadic.proofs.Nearest.{pow_le, pow_split, representable_le, rounded_down, rounded_up}
use Rattle.dyadic.proofs.Tight.{tight_from}
use Rattle.dyadic.proofs.Roots.{tight_root}

-- ---- the binary logarithm

pub record IsLog (n k : ℕ) : Type 0 where
  pub least : 0 < k → 2 ^ k ≤ n
  pub above : n < 2 ^ (k + 1)

pub log_is : (j n acc : ℕ) → (0 < acc → 2 ^ acc ≤ n) → n < 2 ^ (acc + 2 ^ j) → IsLog n (log_from j n acc)
log_is zero n acc low high = record { least = low; above = high }
log_is (suc j) n acc low high = step (log_is j n (acc + 2 ^ j)) (log_is j n acc low) (nat_le (2 ^ (acc + 2 ^ j)) n) refl
  where
    double : 2 ^ suc j ≡ 2 ^ j + 2 ^ j
    double = let e : suc j ≡ j + 1 = omega arith in omega (arith, ap (λ i. 2 ^ i) e, pow-add 2 j 1)

    step : ((0 < acc + 2 ^ j → 2 ^ (acc + 2 ^ j) ≤ n) → n < 2 ^ (acc + 2 ^ j + 2 ^ j) → IsLog n (log_from j n (acc + 2 ^ j))) → (n < 2 ^ (acc + 2 ^ j) → IsLog n (log_from j n acc)) → (b : Bool) → nat_le (2 ^ (acc + 2 ^ j)) n ≡ b → IsLog n (log_from j n (cond b (acc + 2 ^ j) acc))
    step more less true e = more (λ _. leb-true (2 ^ (acc + 2 ^ j)) n e)
        (subst (λ i. n < 2 ^ i) (let k : acc + 2 ^ suc j ≡ acc + 2 ^ j + 2 ^ j = omega (arith, double) in k) high)
    step more less false e = less (leb-false (2 ^ (acc + 2 ^ j)) n e)

pub log_of : (n : ℕ) → n < 2 ^ 256 → IsLog n (log_from 8 n 0)
log_of n h = log_is 8 n 0 (λ p. absurd (omega (arith, p))) h

-- ---- representable products

-- few bits and in range, whatever the power
pub representable_product : (w p : ℕ) → w ≤ 2 ^ 62 → w * 2 ^ p ≤ 2 ^ 242 → IsRepresentable (w * 2 ^ p)
representable_product w p few range = ⊎_elim
    (λ (low : p < 181). record { whole = w; power = p; few_bits = few; in_range = omega arith; value = refl })
    (λ (high : 181 ≤ p).
    let split = pow_split 180 p (omega arith) in
    let same : w * 2 ^ p ≡ w * 2 ^ (p - 180) * 2 ^ 180 = omega (arith, ap (λ n. w * n) split) in
    let fewer : w * 2 ^ (p - 180) ≤ 2 ^ 62 = omega (arith, same, range) in
    record { whole = w * 2 ^ (p - 180); power = 180; few_bits = fewer; in_range = omega arith; value = same })
    (cases_lt p 181)

pub top_representable : IsRepresentable (2 ^ 242)
top_representable = record { whole = 2 ^ 62; power = 180; few_bits = omega arith; in_range = omega arith; value = refl }

-- ---- rounding a whole number of units

-- what a step leaves
many_digits : (n k : ℕ) → IsLog n k → 0 < k - 61 → 2 ^ 61 * 2 ^ (k - 61) ≤ n
many_digits n k l p =
    let e : k ≡ 61 + (k - 61) = omega arith in
    let low = l.least (omega arith) in
    omega (arith, low, ap (λ i. 2 ^ i) e, pow-add 2 61 (k - 61))

few_digits : (n k : ℕ) → IsLog n k → n < 2 ^ 62 * 2 ^ (k - 61)
few_digits n k l =
    let power : 2 ^ (k + 1) ≤ 2 ^ (62 + (k - 61)) = pow_le (k + 1) (62 + (k - 61)) (omega arith) in
    omega (arith, l.above, power, pow-add 2 62 (k - 61))

plain_shift : (m s : ℕ) → m * 2 ^ (0 + s) ≡ m * 2 ^ s
plain_shift m s = let e : 0 + s ≡ s = omega arith in ap (λ i. m * 2 ^ i) e

times_one : (n : ℕ) → n * 2 ^ 0 ≡ n
times_one n = omega arith

below_step : (n : ℕ) → n < 2 ^ 256 → IsRoundedDown n (multiple_below (step_of n) n)
below_step n h =
    let k = log_from 8 n 0 in
    let r = rounded_down n (k - 61) 0 (many_digits n k (log_of n h)) in
    subst (λ v. IsRoundedDown v (n / 2 ^ (k - 61) * 2 ^ (k - 61))) (times_one n)
    (subst (λ v. IsRoundedDown (n * 2 ^ 0) v) (plain_shift (n / 2 ^ (k - 61)) (k - 61)) r)

below_representable : (n : ℕ) → n < 2 ^ 242 → IsRepresentable (multiple_below (step_of n) n)
below_representable n h =
    let k = log_from 8 n 0 in
    let l = log_of n (omega (arith, h)) in
    let few : n / 2 ^ (k - 61) < 2 ^ 62 = (div-lt_iff_lt-mul {k = 2 ^ (k - 61)} {x = n} {y = 2 ^ 62} (pow_pos (k - 61))).1 (few_digits n k l) in
    representable_product (n / 2 ^ (k - 61)) (k - 61) (omega (arith, few)) (omega (arith, (below_step n (omega (arith, h))).at_most, h))

pub size_below_is : (n : ℕ) → IsRoundedDown n (size_below n) × IsRepresentable (size_below n)
size_below_is n = cond_both (nat_le (2 ^ 242) n) (2 ^ 242) (multiple_below (step_of n) n) (λ v. IsRoundedDown n v × IsRepresentable v)
    (λ e. (record { at_most = leb-true (2 ^ 242) n e; greatest = λ z r _. representable_le z r }, top_representable))
    (λ e. let h = leb-false (2 ^ 242) n e in (below_step n (omega (arith, h)), below_representable n h))

-- ---- quotients rounded up

pub ceiling_zero : (n d : ℕ) → 0 < d → n % d ≡ 0 → ceiling n d ≡ n / d
ceiling_zero n d p e =
    let split : n + (d - 1) ≡ n / d * d + (d - 1) = omega (arith, div-add-mod' n d, e) in
    ap (λ v. v / d) split ∙ div-mul-add (n / d) d (d - 1) (omega arith)

pub ceiling_some : (n d : ℕ) → 0 < d → 0 < n % d → ceiling n d ≡ n / d + 1
ceiling_some n d p some =
    let split : n + (d - 1) ≡ (n / d + 1) * d + (n % d - 1) = omega (arith, div-add-mod' n d, some) in
    ap (λ v. v / d) split ∙ div-mul-add (n / d + 1) d (n % d - 1) (omega (arith, mod-lt n p, some))

-- n over d, to a whole number of units below and above
pub quotient_tight : (n d : ℕ) → 0 < d → IsTight n d (n / d) (ceiling n d) 0
quotient_tight n d p =
    let split = div-add-mod' n d in
    tight_from n d (n / d) (ceiling n d) 0 (n % d) p (omega (arith, split)) (omega (arith, mod-lt n p))
    (λ _ none. absurd (omega (arith, none))) (ceiling_zero n d p) (ceiling_some n d p)

pub ceiling_enough : (n d : ℕ) → 0 < d → n ≤ ceiling n d * d
ceiling_enough n d p = omega (arith, (quotient_tight n d p).above)

pub ceiling_least : (n d : ℕ) → 0 < d → (t : ℕ) → n ≤ t * d → ceiling n d ≤ t
ceiling_least n d p t h = ⊎_elim
    (λ (none : n % d < 1).
    let e : n % d ≡ 0 = omega arith in
    let k : n / d * d ≤ t * d = omega (arith, div-add-mod' n d, e, h) in
    omega (arith, ceiling_zero n d p e, le_of_mul-le-mul_right k p))
    (λ (some : 1 ≤ n % d).
    let k : n / d * d < t * d = omega (arith, div-add-mod' n d, some, h) in
    omega (arith, ceiling_some n d p some, lt_of_mul-lt-mul_right d k))
    (cases_lt (n % d) 1)

pub size_above_is : (n : ℕ) → n < 2 ^ 256 → IsRoundedUp n (size_above n)
size_above_is n h =
    let k = log_from 8 n 0 in
    let p = pow_pos (k - 61) in
    let m = ceiling n (2 ^ (k - 61)) in
    let r = rounded_up n (k - 61) 0 m (many_digits n k (log_of n h)) (ceiling_enough n (2 ^ (k - 61)) p) (ceiling_least n (2 ^ (k - 61)) p) in
    subst (λ v. IsRoundedUp v (m * 2 ^ (k - 61))) (times_one n)
    (subst (λ v. IsRoundedUp (n * 2 ^ 0) v) (plain_shift m (k - 61)) r)

pub above_representable : (n : ℕ) → n ≤ 2 ^ 242 → IsRepresentable (size_above n)
above_representable n h =
    let k = log_from 8 n 0 in
    let p = pow_pos (k - 61) in
    let small : n < 2 ^ 256 = omega (arith, h) in
    let few : n ≤ 2 ^ 62 * 2 ^ (k - 61) = omega (arith, few_digits n k (log_of n small)) in
    representable_product (ceiling n (2 ^ (k - 61))) (k - 61) (ceiling_least n (2 ^ (k - 61)) p (2 ^ 62) few)
    ((size_above_is n small).least (2 ^ 242) top_representable h)

-- ---- whole roots

pub record IsWholeRoot (n r : ℕ) : Type 0 where
  pub at_most : r * r ≤ n
  pub next : n < (r + 1) * (r + 1)

pub root_is : (k n acc : ℕ) → acc * acc ≤ n → n < (acc + 2 ^ k) * (acc + 2 ^ k) → IsWholeRoot n (root_from k n acc)
root_is zero n acc low high = record { at_most = low; next = high }
root_is (suc k) n acc low high = step (root_is k n (acc + 2 ^ k)) (root_is k n acc low) (nat_le ((acc + 2 ^ k) * (acc + 2 ^ k)) n) refl
  where
    double : 2 ^ suc k ≡ 2 ^ k + 2 ^ k
    double = let e : suc k ≡ k + 1 = omega arith in omega (arith, ap (λ i. 2 ^ i) e, pow-add 2 k 1)

    step : ((acc + 2 ^ k) * (acc + 2 ^ k) ≤ n → n < (acc + 2 ^ k + 2 ^ k) * (acc + 2 ^ k + 2 ^ k) → IsWholeRoot n (root_from k n (acc + 2 ^ k))) → (n < (acc + 2 ^ k) * (acc + 2 ^ k) → IsWholeRoot n (root_from k n acc)) → (b : Bool) → nat_le ((acc + 2 ^ k) * (acc + 2 ^ k)) n ≡ b → IsWholeRoot n (root_from k n (cond b (acc + 2 ^ k) acc))
    step more less true e = more (leb-true ((acc + 2 ^ k) * (acc + 2 ^ k)) n e)
        (subst (λ i. n < i * i) (let s : acc + 2 ^ suc k ≡ acc + 2 ^ k + 2 ^ k = omega (arith, double) in s) high)
    step more less false e = less (leb-false ((acc + 2 ^ k) * (acc + 2 ^ k)) n e)

pub whole_root_is : (n : ℕ) → n < 2 ^ 384 → IsWholeRoot n (whole_root n)
whole_root_is n h = root_is 192 n 0 (omega arith) (omega (arith, h))

-- the root and the least number that is not below it
pub root_tight : (n : ℕ) → n < 2 ^ 384 → IsTightRoot n (whole_root n) (root_above n (whole_root n)) 0
root_tight n h =
    let r = whole_root n in
    let w = whole_root_is n h in
    let one : n * 2 ^ (2 * 0) ≡ n = omega arith in
    tight_root n n r (root_above n r) 0 one w.at_most w.next (λ p. absurd (omega (arith, p)))
    (λ e. cond-true (nat_le n (r * r)) r (suc r) (le-leb n (r * r) (omega (arith, e))))
    (λ l. cond-false (nat_le n (r * r)) r (suc r) (lt-leb n (r * r) l) ∙ omega arith)
