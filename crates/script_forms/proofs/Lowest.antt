-- A fraction in lowest terms is the same fraction.
use Rattle.std.proofs.Common.{◌≡◌, ℕ, suc, zero, ◌+◌, ◌*◌, ◌/◌, ◌%◌, ◌<◌, ap, subst, arith, ℤ, pos, negsuc, ◌*ℤ◌, nat_abs, ◌≤ℤ◌, IsTrue, mul-div_cancel, div-add-mod', mod-lt}
use lib.Signed.{quot_z, ≤ℤ_refl}
use Rattle.dyadic.specs.Fraction.{Fraction, IsFraction, at_most}
use Rattle.dyadic.specs.Lowest.{gcd_within, gcd, divided, reduced}
use Rattle.dyadic.proofs.Equal.{◌≈◌, le_holds}
use Rattle.dyadic.proofs.Ring.{atom, natural, minus, times, same}

pub record Divides (g n : ℕ) : Type 0 where
  pub times_of : ℕ
  pub is : n ≡ times_of * g

pub record DividesBoth (g a b : ℕ) : Type 0 where
  pub first : Divides g a
  pub second : Divides g b

step : (g a b : ℕ) → DividesBoth g (suc b) (a % suc b) → DividesBoth g a (suc b)
step g a b h = record {
  first = record { times_of = (a / suc b) * h.first.times_of + h.second.times_of; is = omega (arith, div-add-mod' a (suc b), ap (λ x. (a / suc b) * x) h.first.is, h.second.is) };
  second = h.first;
}

divides_within : (k a b : ℕ) → b < k → DividesBoth (gcd_within k a b) a b
divides_within zero a b h = absurd (omega arith)
divides_within (suc k) a zero h = record { first = record { times_of = 1; is = omega arith }; second = record { times_of = 0; is = omega arith } }
divides_within (suc k) a (suc b) h = step (gcd_within k (suc b) (a % suc b)) a b (divides_within k (suc b) (a % suc b) (omega (arith, mod-lt a {m = suc b} (omega arith))))

gcd_divides : (a b : ℕ) → DividesBoth (gcd a b) a b
gcd_divides a b = divides_within (suc b) a b (omega arith)

positive : (g c : ℕ) → 0 < c * g → (0 < g) × (0 < c)
positive zero c h = absurd (omega arith)
positive (suc g) zero h = absurd (omega arith)
positive (suc g) (suc c) h = (omega arith, omega arith)

quotient : (n d g : ℕ) → 0 < g → n ≡ d * g → n / g ≡ d
quotient n d g h e = rw e (mul-div_cancel d h)

same_quotient : (z : ℤ) (c d g : ℕ) → 0 < g → nat_abs z ≡ d * g → z *ℤ pos c ≡ quot_z z (pos g) *ℤ pos (c * g)
same_quotient (pos n) c d g h e = rw (quotient n d g h e) (ap pos (omega (arith, ap (λ x. x * c) e)))
same_quotient (negsuc n) c d g h e = rw (quotient (suc n) d g h e)
    (same (times (atom (negsuc n)) (natural c)) (times (minus (natural d)) (natural (c * g))) (omega (arith, ap (λ x. x * c) e)))

reduced_at : (q : Fraction) (g : ℕ) → 0 < q.den → DividesBoth g (nat_abs q.num) q.den → (0 < q.den / g) × (q ≈ divided q g)
reduced_at q g f h =
    let c : ℕ = h.second.times_of in
    let p : (0 < g) × (0 < c) = positive g c (subst (λ (n : ℕ). 0 < n) h.second.is f) in
    let e : q.den / g ≡ c = quotient q.den c g p.0 h.second.is in
    (rw e p.1, record { same = rw (e, h.second.is) (same_quotient q.num c h.first.times_of g p.0 h.first.is) })

pub reduced_same : (q : Fraction) → IsFraction q → IsFraction (reduced q) × (q ≈ reduced q)
reduced_same q f = reduced_at q (gcd (nat_abs q.num) q.den) f (gcd_divides (nat_abs q.num) q.den)

le-both : (a b : ℤ) → a ≡ b → (a ≤ℤ b) × (b ≤ℤ a)
le-both a b h = (subst (λ (x : ℤ). a ≤ℤ x) h (≤ℤ_refl a), subst (λ (x : ℤ). x ≤ℤ a) h (≤ℤ_refl a))

-- as tests
pub same_at_most : (p q : Fraction) → p ≈ q → IsTrue (at_most p q) × IsTrue (at_most q p)
unfolding at_most
same_at_most p q h = let k = le-both _ _ h.same in (le_holds _ _ k.0, le_holds _ _ k.1)

pub lowest_same : (q : Fraction) → IsFraction q → IsFraction (reduced q) × IsTrue (at_most q (reduced q)) × IsTrue (at_most (reduced q) q)
lowest_same q f = let h = reduced_same q f in let k = same_at_most q (reduced q) h.1 in (h.0, k.0, k.1)
