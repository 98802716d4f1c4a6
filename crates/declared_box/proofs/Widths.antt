-- Whether an end is too wide does not depend on how its number is spelled, and one that is not is a bound of problems.
use Rattle.std.proofs.Common.{◌≡◌, ◌^◌, Bool, true, false, not, ◌&&◌, inl, inr, IsTrue, refl, ap, ap₂, sym, ◌∙◌, arith, ℤ, pos, negsuc, neg_ℤ, ◌≤ℤ◌, ◌<ℤ◌, nat_abs}
use borrow.Author.Differences.{ints}
use lib.Signed.{lt_z, lt_z_yes}
use Rattle.std.specs.Bool.{passes}
use Rattle.dyadic.specs.Fraction.{Fraction, IsFraction, whole, at_most, negated}
use Rattle.dyadic.specs.Rounding.{exact, Ext, below_all, finite, above_all, IsDown, IsUp, down, up, ext_at_most}
use Rattle.dyadic.proofs.Equal.{through, at_most_same, same_test}
use Rattle.dyadic.proofs.Rounds.{down_is, up_is, down_from}
use Rattle.script_model.specs.Declared.{is_exactly, is_kept, is_far, too_wide_end}
use Rattle.poly_graph.specs.Problem.{size_of, IsKeptFraction, IsBound}
use Rattle.script_forms.proofs.Kept.{same_number, same_size}
use Rattle.declared_box.specs.Same.{SameNumber}

-- ---- the size

far-same : (p q : Fraction) → SameNumber p q → is_far p ≡ is_far q
far-same p q h = ap not (at_most_same (whole (pos (2 ^ 32))) h.first h.second (same_size p q h.first h.second (same_number p q h.below h.above)))

-- the size of a fraction below 0 is its opposite
below-nought : (n : ℤ) → n <ℤ pos 0 → neg_ℤ n ≡ pos (nat_abs n)
below-nought (pos n) h = absurd (omega (arith, ints, h))
below-nought (negsuc n) h = refl

pub below_from_test : (n : ℤ) → lt_z n (pos 0) ≡ true → n <ℤ pos 0
below_from_test n h = lt_z_yes {a = n} {b = pos 0} (passes _ h)

pub size_below : (q r : Fraction) → r ≡ negated q → q.num <ℤ pos 0 → r ≡ size_of q
unfolding negated
size_below q r e h = e ∙ ap (λ (z : ℤ). record { num = z; den = q.den }) (below-nought q.num h)

not-below : (n : ℤ) → pos 0 ≤ℤ n → n ≡ pos (nat_abs n)
not-below (pos n) h = refl
not-below (negsuc n) h = absurd (omega (arith, ints, h))

pub size_above : (q : Fraction) → pos 0 ≤ℤ q.num → q ≡ size_of q
size_above q h = ap (λ (z : ℤ). record { num = z; den = q.den }) (not-below q.num h)

-- ---- numbers that are kept

exact-is : (d : Rattle.dyadic.specs.Rounding.Dyadic) → IsFraction (exact d)
exact-is d = omega arith

down-moves : (p q : Fraction) (e : Ext) → SameNumber p q → IsDown p e → IsDown q e
down-moves p q (finite d) h r = (r.0, through (exact d) p q h.first r.1 h.below, λ s g k. r.2 s g (through (exact s) q p h.second k h.above))
down-moves p q below_all h r = λ s g k. r s g (through (exact s) q p h.second k h.above)
down-moves p q above_all h r = r

exactly-same : (p q : Fraction) (e : Ext) → SameNumber p q → is_exactly p e ≡ is_exactly q e
exactly-same p q (finite d) h = same_test (at_most p (exact d)) (at_most q (exact d)) (λ k. through q p (exact d) h.first h.above k) (λ k. through p q (exact d) h.second h.below k)
exactly-same p q below_all h = refl
exactly-same p q above_all h = refl

kept-same : (p q : Fraction) → SameNumber p q → is_kept p ≡ is_kept q
kept-same p q h = exactly-same p q (down p) h ∙ ap (is_exactly q) (down_from q (down p) h.second (down-moves p q (down p) h (down_is p h.first)))

pub too_wide_same : (p q : Fraction) → SameNumber p q → too_wide_end p ≡ too_wide_end q
too_wide_same p q h = ap₂ (λ (x y : Bool). not x && y) (kept-same p q h) (far-same p q h)

not-true : (b : Bool) → (IsTrue b → ⊥) → b ≡ false
not-true true h = absurd (h refl)
not-true false h = refl

kept-test : (q : Fraction) (u d : Ext) → IsFraction q → IsUp q u → IsDown q d → ext_at_most u d ≡ is_exactly q d
kept-test q (finite u) (finite d) f i j = same_test (at_most (exact u) (exact d)) (at_most q (exact d)) (λ k. through q (exact u) (exact d) (exact-is u) i.1 k) (λ k. i.2 d j.0 k)
kept-test q (finite u) below_all f i j = refl
kept-test q above_all (finite d) f i j = sym (not-true (at_most q (exact d)) (λ k. i d j.0 k))
kept-test q above_all below_all f i j = refl
kept-test q below_all d f i j = elim i [ ]
kept-test q (finite u) above_all f i j = elim j [ ]
kept-test q above_all above_all f i j = elim j [ ]

-- a fraction is kept where its rounding up is at most its rounding down
pub kept_by_rounding : (q : Fraction) → IsFraction q → ext_at_most (up q) (down q) ≡ is_kept q
kept_by_rounding q f = kept-test q (up q) (down q) f (up_is q f) (down_is q f)

-- ---- bounds of problems

kept-bound : (q : Fraction) (e : Ext) → IsDown q e → is_exactly q e ≡ true → IsKeptFraction q
kept-bound q (finite d) r x = (d, r.0, r.1, x)
kept-bound q below_all r x = cc
kept-bound q above_all r x = cc

not-far : (b : Bool) → not b ≡ false → b ≡ true
not-far true h = refl
not-far false h = cc

bound-by : (q : Fraction) (kept far : Bool) → is_kept q ≡ kept → is_far q ≡ far → not kept && far ≡ false → IsFraction q → IsBound q
bound-by q true far x y e f = (f, inl (kept-bound q (down q) (down_is q f) x))
bound-by q false false x y e f = (f, inr (not-far _ y))
bound-by q false true x y e f = cc

pub bound_of_end : (q : Fraction) → IsFraction q → too_wide_end q ≡ false → IsBound q
bound_of_end q f e = bound-by q (is_kept q) (is_far q) refl refl e f
