-- Equations between fractions.
use Rattle.std.proofs.Common.{◌≡◌, ℕ, ◌*◌, arith, ap, sym, subst, refl, ◌∙◌, ℤ, pos, ◌+ℤ◌, ◌*ℤ◌, neg_ℤ, lit<}
use Rattle.dyadic.specs.Fraction.{Fraction, IsFraction, difference_of, zero_fraction, sum_of, product_of, negated, at_most}
use Rattle.dyadic.specs.Rounding.{Dyadic, exact}
use Rattle.dyadic.proofs.Ring.{atom, natural, plus, minus, times, same}
use Rattle.dyadic.proofs.Equal.{◌≈◌, ≈_refl, ≈_sym, ≈_trans, sum_same, product_same, both_pass}
use Rattle.interval_model.proofs.Ends.{product_is_good}
use Rattle.interval_model.proofs.EndsProducts.{at_most_refl}
use Rattle.interval_model.proofs.EndsSums.{sum_is_good, negated_is_good}
use Rattle.interval_model.proofs.Holds.{Holds}
use Rattle.interval_model.proofs.Inverses.{sum_comm}
use Rattle.cover_model.specs.Combination.{only, nought_alone}

assoc-at : (a c e : ℤ) (b d f : ℕ) → (((a *ℤ pos d) +ℤ (c *ℤ pos b)) *ℤ pos f) +ℤ (e *ℤ pos (b * d)) ≡ (a *ℤ pos (d * f)) +ℤ (((c *ℤ pos f) +ℤ (e *ℤ pos d)) *ℤ pos b)
assoc-at a c e b d f = same (plus (times (plus (times (atom a) (natural d)) (times (atom c) (natural b))) (natural f)) (times (atom e) (natural (b * d))))
    (plus (times (atom a) (natural (d * f))) (times (plus (times (atom c) (natural f)) (times (atom e) (natural d))) (natural b))) (omega arith)

den-assoc : (b d f : ℕ) → (b * d) * f ≡ b * (d * f)
den-assoc b d f = omega arith

pub sum_assoc : (x y z : Fraction) → sum_of (sum_of x y) z ≡ sum_of x (sum_of y z)
unfolding sum_of
sum_assoc x y z = λ i. record { num = assoc-at x.num y.num z.num x.den y.den z.den i; den = den-assoc x.den y.den z.den i }

joins-at : (f y d a : ℤ) (f' y' d' a' : ℕ) → ((((f *ℤ pos (y' * d')) +ℤ ((y *ℤ d) *ℤ pos f')) *ℤ pos ((a' * y') * d')) +ℤ ((neg_ℤ (((a *ℤ pos y') +ℤ (y *ℤ pos a')) *ℤ d)) *ℤ pos (f' * (y' * d')))) *ℤ pos (f' * (a' * d')) ≡ ((f *ℤ pos (a' * d')) +ℤ ((neg_ℤ (a *ℤ d)) *ℤ pos f')) *ℤ pos ((f' * (y' * d')) * ((a' * y') * d'))
joins-at f y d a f' y' d' a' = same (times (plus (times (plus (times (atom f) (natural (y' * d'))) (times (times (atom y) (atom d)) (natural f'))) (natural ((a' * y') * d'))) (times (minus (times (plus (times (atom a) (natural y')) (times (atom y) (natural a'))) (atom d))) (natural (f' * (y' * d'))))) (natural (f' * (a' * d')))) (times (plus (times (atom f) (natural (a' * d'))) (times (minus (times (atom a) (atom d))) (natural f'))) (natural ((f' * (y' * d')) * ((a' * y') * d')))) (omega arith)

-- (f + y d) - (a + y) d is f - a d
pub joins : (f y d a : Fraction) → sum_of (sum_of f (product_of y d)) (negated (product_of (sum_of a y) d)) ≈ sum_of f (negated (product_of a d))
unfolding sum_of product_of negated
joins f y d a = record { same = joins-at f.num y.num d.num a.num f.den y.den d.den a.den }

taken-back-at : (f z : ℤ) (f' z' : ℕ) → ((((f *ℤ pos z') +ℤ ((neg_ℤ z) *ℤ pos f')) *ℤ pos z') +ℤ (z *ℤ pos (f' * z'))) *ℤ pos f' ≡ f *ℤ pos ((f' * z') * z')
taken-back-at f z f' z' = same (times (plus (times (plus (times (atom f) (natural z')) (times (minus (atom z)) (natural f'))) (natural z')) (times (atom z) (natural (f' * z')))) (natural f')) (times (atom f) (natural ((f' * z') * z'))) (omega arith)

-- (f - z) + z is f
pub taken_back : (f z : Fraction) → sum_of (sum_of f (negated z)) z ≈ f
unfolding sum_of product_of negated
taken_back f z = record { same = taken-back-at f.num z.num f.den z.den }

over-sum-at : (a x y : ℤ) (a' x' y' : ℕ) → (a *ℤ ((x *ℤ pos y') +ℤ (y *ℤ pos x'))) *ℤ pos ((a' * x') * (a' * y')) ≡ (((a *ℤ x) *ℤ pos (a' * y')) +ℤ ((a *ℤ y) *ℤ pos (a' * x'))) *ℤ pos (a' * (x' * y'))
over-sum-at a x y a' x' y' = same (times (times (atom a) (plus (times (atom x) (natural y')) (times (atom y) (natural x')))) (natural ((a' * x') * (a' * y')))) (times (plus (times (times (atom a) (atom x)) (natural (a' * y'))) (times (times (atom a) (atom y)) (natural (a' * x')))) (natural (a' * (x' * y')))) (omega arith)

-- a (x + y) is a x + a y
pub over_sum : (a x y : Fraction) → product_of a (sum_of x y) ≈ sum_of (product_of a x) (product_of a y)
unfolding sum_of product_of negated
over_sum a x y = record { same = over-sum-at a.num x.num y.num a.den x.den y.den }

of-negation-at : (a u v : ℤ) (a' u' v' : ℕ) → (a *ℤ (((neg_ℤ v) *ℤ pos u') +ℤ ((neg_ℤ (neg_ℤ u)) *ℤ pos v'))) *ℤ pos (a' * (v' * u')) ≡ ((neg_ℤ a) *ℤ ((v *ℤ pos u') +ℤ ((neg_ℤ u) *ℤ pos v'))) *ℤ pos (a' * (v' * u'))
of-negation-at a u v a' u' v' = same (times (times (atom a) (plus (times (minus (atom v)) (natural u')) (times (minus (minus (atom u))) (natural v')))) (natural (a' * (v' * u')))) (times (times (minus (atom a)) (plus (times (atom v) (natural u')) (times (minus (atom u)) (natural v')))) (natural (a' * (v' * u')))) (omega arith)

-- a (-v - -u) is -a (v - u)
pub of_negation : (a u v : Fraction) → product_of a (sum_of (negated v) (negated (negated u))) ≈ product_of (negated a) (sum_of v (negated u))
unfolding sum_of product_of negated
of_negation a u v = record { same = of-negation-at a.num u.num v.num a.den u.den v.den }

of-sum-at : (a u v s t : ℤ) (a' u' v' s' t' : ℕ) → (a *ℤ ((((v *ℤ pos t') +ℤ (t *ℤ pos v')) *ℤ pos (u' * s')) +ℤ ((neg_ℤ ((u *ℤ pos s') +ℤ (s *ℤ pos u'))) *ℤ pos (v' * t')))) *ℤ pos ((a' * (v' * u')) * (a' * (t' * s'))) ≡ (((a *ℤ ((v *ℤ pos u') +ℤ ((neg_ℤ u) *ℤ pos v'))) *ℤ pos (a' * (t' * s'))) +ℤ ((a *ℤ ((t *ℤ pos s') +ℤ ((neg_ℤ s) *ℤ pos t'))) *ℤ pos (a' * (v' * u')))) *ℤ pos (a' * ((v' * t') * (u' * s')))
of-sum-at a u v s t a' u' v' s' t' = same (times (times (atom a) (plus (times (plus (times (atom v) (natural t')) (times (atom t) (natural v'))) (natural (u' * s'))) (times (minus (plus (times (atom u) (natural s')) (times (atom s) (natural u')))) (natural (v' * t'))))) (natural ((a' * (v' * u')) * (a' * (t' * s'))))) (times (plus (times (times (atom a) (plus (times (atom v) (natural u')) (times (minus (atom u)) (natural v')))) (natural (a' * (t' * s')))) (times (times (atom a) (plus (times (atom t) (natural s')) (times (minus (atom s)) (natural t')))) (natural (a' * (v' * u'))))) (natural (a' * ((v' * t') * (u' * s'))))) (omega arith)

-- a ((v + t) - (u + s)) is a (v - u) + a (t - s)
pub of_sum : (a u v s t : Fraction) → product_of a (sum_of (sum_of v t) (negated (sum_of u s))) ≈ sum_of (product_of a (sum_of v (negated u))) (product_of a (sum_of t (negated s)))
unfolding sum_of product_of negated
of_sum a u v s t = record { same = of-sum-at a.num u.num v.num s.num t.num a.den u.den v.den s.den t.den }

first-off-at : (u v s t : ℤ) (u' v' s' t' : ℕ) → (((v *ℤ t) *ℤ pos (u' * s')) +ℤ ((neg_ℤ (u *ℤ s)) *ℤ pos (v' * t'))) *ℤ pos ((s' * (v' * u')) * (v' * (t' * s'))) ≡ (((s *ℤ ((v *ℤ pos u') +ℤ ((neg_ℤ u) *ℤ pos v'))) *ℤ pos (v' * (t' * s'))) +ℤ ((v *ℤ ((t *ℤ pos s') +ℤ ((neg_ℤ s) *ℤ pos t'))) *ℤ pos (s' * (v' * u')))) *ℤ pos ((v' * t') * (u' * s'))
first-off-at u v s t u' v' s' t' = same (times (plus (times (times (atom v) (atom t)) (natural (u' * s'))) (times (minus (times (atom u) (atom s))) (natural (v' * t')))) (natural ((s' * (v' * u')) * (v' * (t' * s'))))) (times (plus (times (times (atom s) (plus (times (atom v) (natural u')) (times (minus (atom u)) (natural v')))) (natural (v' * (t' * s')))) (times (times (atom v) (plus (times (atom t) (natural s')) (times (minus (atom s)) (natural t')))) (natural (s' * (v' * u'))))) (natural ((v' * t') * (u' * s')))) (omega arith)

-- v t - u s is s (v - u) + v (t - s)
pub first_off : (u v s t : Fraction) → sum_of (product_of v t) (negated (product_of u s)) ≈ sum_of (product_of s (sum_of v (negated u))) (product_of v (sum_of t (negated s)))
unfolding sum_of product_of negated
first_off u v s t = record { same = first-off-at u.num v.num s.num t.num u.den v.den s.den t.den }

second-off-at : (u v y : ℤ) (u' v' y' : ℕ) → (v *ℤ y) *ℤ pos ((u' * y') * ((v' * u') * y')) ≡ (((u *ℤ y) *ℤ pos ((v' * u') * y')) +ℤ ((((v *ℤ pos u') +ℤ ((neg_ℤ u) *ℤ pos v')) *ℤ y) *ℤ pos (u' * y'))) *ℤ pos (v' * y')
second-off-at u v y u' v' y' = same (times (times (atom v) (atom y)) (natural ((u' * y') * ((v' * u') * y')))) (times (plus (times (times (atom u) (atom y)) (natural ((v' * u') * y'))) (times (times (plus (times (atom v) (natural u')) (times (minus (atom u)) (natural v'))) (atom y)) (natural (u' * y')))) (natural (v' * y'))) (omega arith)

-- v y is u y + (v - u) y
pub second_off : (u v y : Fraction) → product_of v y ≈ sum_of (product_of u y) (product_of (sum_of v (negated u)) y)
unfolding sum_of product_of negated
second_off u v y = record { same = second-off-at u.num v.num y.num u.den v.den y.den }

regrouped-at : (a s x : ℤ) (a' s' x' : ℕ) → (a *ℤ (s *ℤ x)) *ℤ pos ((a' * s') * x') ≡ ((a *ℤ s) *ℤ x) *ℤ pos (a' * (s' * x'))
regrouped-at a s x a' s' x' = same (times (times (atom a) (times (atom s) (atom x))) (natural ((a' * s') * x'))) (times (times (times (atom a) (atom s)) (atom x)) (natural (a' * (s' * x')))) (omega arith)

-- a (s x) is (a s) x
pub regrouped : (a s x : Fraction) → product_of a (product_of s x) ≈ product_of (product_of a s) x
unfolding sum_of product_of negated
regrouped a s x = record { same = regrouped-at a.num s.num x.num a.den s.den x.den }

of-constant-at : (f a q : ℤ) (f' a' q' : ℕ) → ((f *ℤ pos (a' * (q' * q'))) +ℤ ((neg_ℤ (a *ℤ ((q *ℤ pos q') +ℤ ((neg_ℤ q) *ℤ pos q')))) *ℤ pos f')) *ℤ pos f' ≡ f *ℤ pos (f' * (a' * (q' * q')))
of-constant-at f a q f' a' q' = same (times (plus (times (atom f) (natural (a' * (q' * q')))) (times (minus (times (atom a) (plus (times (atom q) (natural q')) (times (minus (atom q)) (natural q'))))) (natural f'))) (natural f')) (times (atom f) (natural (f' * (a' * (q' * q'))))) (omega arith)

-- f - a (q - q) is f
pub of_constant : (f a q : Fraction) → sum_of f (negated (product_of a (sum_of q (negated q)))) ≈ f
unfolding sum_of product_of negated
of_constant f a q = record { same = of-constant-at f.num a.num q.num f.den a.den q.den }

whole-again-at : (a u v : ℤ) (a' u' v' : ℕ) → (((a *ℤ ((v *ℤ pos u') +ℤ ((neg_ℤ u) *ℤ pos v'))) *ℤ pos (a' * u')) +ℤ ((a *ℤ u) *ℤ pos (a' * (v' * u')))) *ℤ pos (a' * v') ≡ (a *ℤ v) *ℤ pos ((a' * (v' * u')) * (a' * u'))
whole-again-at a u v a' u' v' = same (times (plus (times (times (atom a) (plus (times (atom v) (natural u')) (times (minus (atom u)) (natural v')))) (natural (a' * u'))) (times (times (atom a) (atom u)) (natural (a' * (v' * u'))))) (natural (a' * v'))) (times (times (atom a) (atom v)) (natural ((a' * (v' * u')) * (a' * u')))) (omega arith)

-- a (v - u) + a u is a v
pub whole_again : (a u v : Fraction) → sum_of (product_of a (sum_of v (negated u))) (product_of a u) ≈ product_of a v
unfolding sum_of product_of negated
whole_again a u v = record { same = whole-again-at a.num u.num v.num a.den u.den v.den }

left-part-at : (f z : ℤ) (f' z' : ℕ) → ((f *ℤ pos (f' * z')) +ℤ ((neg_ℤ ((f *ℤ pos z') +ℤ ((neg_ℤ z) *ℤ pos f'))) *ℤ pos f')) *ℤ pos z' ≡ z *ℤ pos (f' * (f' * z'))
left-part-at f z f' z' = same (times (plus (times (atom f) (natural (f' * z'))) (times (minus (plus (times (atom f) (natural z')) (times (minus (atom z)) (natural f')))) (natural f'))) (natural z')) (times (atom z) (natural (f' * (f' * z')))) (omega arith)

-- f - (f - z) is z
pub left_part : (f z : Fraction) → sum_of f (negated (sum_of f (negated z))) ≈ z
unfolding sum_of product_of negated
left_part f z = record { same = left-part-at f.num z.num f.den z.den }

back-again-at : (u v : ℤ) (u' v' : ℕ) → ((u *ℤ pos (v' * u')) +ℤ (((v *ℤ pos u') +ℤ ((neg_ℤ u) *ℤ pos v')) *ℤ pos u')) *ℤ pos v' ≡ v *ℤ pos (u' * (v' * u'))
back-again-at u v u' v' = same (times (plus (times (atom u) (natural (v' * u'))) (times (plus (times (atom v) (natural u')) (times (minus (atom u)) (natural v'))) (natural u'))) (natural v')) (times (atom v) (natural (u' * (v' * u')))) (omega arith)

-- u + (v - u) is v
pub back_again : (u v : Fraction) → sum_of u (sum_of v (negated u)) ≈ v
unfolding sum_of product_of negated
back_again u v = record { same = back-again-at u.num v.num u.den v.den }

plus-nought-at : (f : ℤ) (f' : ℕ) → ((f *ℤ pos 1) +ℤ (pos 0 *ℤ pos f')) *ℤ pos f' ≡ f *ℤ pos (f' * 1)
plus-nought-at f f' = same (times (plus (times (atom f) (natural 1)) (times (natural 0) (natural f'))) (natural f')) (times (atom f) (natural (f' * 1))) (omega arith)

-- f + 0 is f
pub plus_nought : (f : Fraction) → sum_of f zero_fraction ≈ f
unfolding sum_of
plus_nought f = record { same = plus-nought-at f.num f.den }

minus-nought-at : (f : ℤ) (f' : ℕ) → ((f *ℤ pos 1) +ℤ (neg_ℤ (pos 0) *ℤ pos f')) *ℤ pos f' ≡ f *ℤ pos (f' * 1)
minus-nought-at f f' = same (times (plus (times (atom f) (natural 1)) (times (minus (natural 0)) (natural f'))) (natural f')) (times (atom f) (natural (f' * 1))) (omega arith)

-- f - 0 is f
pub minus_nought : (f : Fraction) → difference_of f zero_fraction ≈ f
unfolding sum_of negated
minus_nought f = record { same = minus-nought-at f.num f.den }

negated-sum-at : (y z : ℤ) (y' z' : ℕ) → (neg_ℤ y *ℤ pos z') +ℤ (neg_ℤ z *ℤ pos y') ≡ neg_ℤ ((y *ℤ pos z') +ℤ (z *ℤ pos y'))
negated-sum-at y z y' z' = same (plus (times (minus (atom y)) (natural z')) (times (minus (atom z)) (natural y'))) (minus (plus (times (atom y) (natural z')) (times (atom z) (natural y')))) (omega arith)

pub negated_sum : (y z : Fraction) → sum_of (negated y) (negated z) ≡ negated (sum_of y z)
unfolding sum_of negated
negated_sum y z = λ i. record { num = negated-sum-at y.num z.num y.den z.den i; den = y.den * z.den }

-- ---- by steps

pub off_good : (a b : Fraction) → IsFraction a → IsFraction b → IsFraction (difference_of a b)
off_good a b f g = sum_is_good a (negated b) f (negated_is_good b g)

-- (f - z) + s is f, where z is s
pub restored : (f z s : Fraction) → IsFraction f → IsFraction z → z ≈ s → sum_of (difference_of f z) s ≈ f
restored f z s i j e = ≈_trans (sum_is_good (difference_of f z) z (off_good f z i j) j) (sum_same (≈_refl (difference_of f z)) (≈_sym e)) (taken_back f z)

-- (f - z) + y is (f + y) - z
pub moved : (f y z : Fraction) → sum_of (difference_of f z) y ≡ difference_of (sum_of f y) z
moved f y z = sum_assoc f (negated z) y ∙ ap (sum_of f) (sum_comm (negated z) y) ∙ sym (sum_assoc f y (negated z))

-- v t - u s is s (v - u) + u (t - s) + (v - u) (t - s)
pub product_off : (u v s t : Fraction) → IsFraction u → IsFraction v → IsFraction s → IsFraction t →
    difference_of (product_of v t) (product_of u s) ≈ sum_of (sum_of (product_of s (difference_of v u)) (product_of u (difference_of t s))) (product_of (difference_of v u) (difference_of t s))
product_off u v s t gu gv gs gt =
    let x : Fraction = difference_of v u in let y : Fraction = difference_of t s in
    let gx : IsFraction x = off_good v u gv gu in let gy : IsFraction y = off_good t s gt gs in
    subst (λ (z : Fraction). difference_of (product_of v t) (product_of u s) ≈ z) (sym (sum_assoc (product_of s x) (product_of u y) (product_of x y)))
    (≈_trans (sum_is_good (product_of s x) (product_of v y) (product_is_good s x gs gx) (product_is_good v y gv gy)) (first_off u v s t) (sum_same (≈_refl (product_of s x)) (second_off u v y)))

-- a (v t - u s) is (a s) (v - u) + (a u) (t - s) + a (v - u) (t - s)
pub of_product : (a u v s t : Fraction) → IsFraction a → IsFraction u → IsFraction v → IsFraction s → IsFraction t →
    product_of a (difference_of (product_of v t) (product_of u s)) ≈ sum_of (sum_of (product_of (product_of a s) (difference_of v u)) (product_of (product_of a u) (difference_of t s))) (product_of a (product_of (difference_of v u) (difference_of t s)))
of_product a u v s t ga gu gv gs gt =
    let x : Fraction = difference_of v u in let y : Fraction = difference_of t s in
    let gx : IsFraction x = off_good v u gv gu in let gy : IsFraction y = off_good t s gt gs in
    let sx : Fraction = product_of s x in let uy : Fraction = product_of u y in let xy : Fraction = product_of x y in
    let gsx : IsFraction sx = product_is_good s x gs gx in let guy : IsFraction uy = product_is_good u y gu gy in let gxy : IsFraction xy = product_is_good x y gx gy in
    let gl : IsFraction (sum_of sx uy) = sum_is_good sx uy gsx guy in
    ≈_trans (product_is_good a (sum_of (sum_of sx uy) xy) ga (sum_is_good (sum_of sx uy) xy gl gxy)) (product_same (≈_refl a) (product_off u v s t gu gv gs gt))
    (≈_trans (sum_is_good (product_of a (sum_of sx uy)) (product_of a xy) (product_is_good a (sum_of sx uy) ga gl) (product_is_good a xy ga gxy)) (over_sum a (sum_of sx uy) xy)
    (sum_same
    (≈_trans (sum_is_good (product_of a sx) (product_of a uy) (product_is_good a sx ga gsx) (product_is_good a uy ga guy)) (over_sum a sx uy) (sum_same (regrouped a s x) (regrouped a u y)))
    (≈_refl (product_of a xy))))

-- ---- intervals of one number

pub exact_good : (d : Dyadic) → IsFraction (exact d)
exact_good d = lit< tt

pub only_holds : (d : Dyadic) → Holds (only d) (exact d)
only_holds d = both_pass (at_most (exact d) (exact d)) (at_most (exact d) (exact d)) (at_most_refl (exact d)) (at_most_refl (exact d))

pub nought_holds : Holds nought_alone zero_fraction
unfolding at_most
nought_holds = refl
