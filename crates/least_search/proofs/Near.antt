-- The order of ends, lower bounds of some values, and bounds that are near to each other.
use Rattle.std.proofs.Common.{◌≡◌, inl, inr, ℕ, Bool, true, false, not, ◌&&◌, IsTrue, refl, ap, ap₂, sym, ◌∙◌, subst, true≢false}
use Rattle.std.proofs.lemmas.Nat.{pow_pos}
use Rattle.dyadic.specs.Fraction.{Fraction, IsFraction, sum_of}
use Rattle.dyadic.specs.Rounding.{Dyadic, Ext, IsExtOnGrid, finite, below_all, above_all, End, minus_infinity, at, plus_infinity, exact, end_of, end_at_most, ext_at_most, down, two_to_minus}
use Rattle.dyadic.proofs.Equal.{both_pass, both_true, through, total}
use Rattle.dyadic.proofs.Rounds.{down_exact, down_isotone, down_side, exact_self}
use Rattle.interval_model.specs.Interval.{Interval, between, nothing, within}
use Rattle.interval_model.proofs.EndsSums.{sum_is_good}
use Rattle.cert_model.specs.Least.{lower_end, not_below}
use Rattle.goal_limit.specs.Lows.{low_of}
use Rattle.goal_limit.specs.Tries.{Span, is_between}

below-infinity : (h : Ext) → ext_at_most h above_all ≡ true
below-infinity below_all = refl
below-infinity (finite d) = refl
below-infinity above_all = refl

pub at_most_itself : (e : Ext) → ext_at_most e e ≡ true
at_most_itself below_all = refl
at_most_itself (finite d) = exact_self d
at_most_itself above_all = refl

pub at_most_otherwise : (e f : Ext) → ext_at_most e f ≡ false → ext_at_most f e ≡ true
at_most_otherwise below_all f h = absurd (true≢false h)
at_most_otherwise (finite d) below_all h = refl
at_most_otherwise (finite d) (finite c) h = elim (total (exact d) (exact c)) [ inl k ↦ absurd (true≢false (sym k ∙ h)) | inr k ↦ k ]
at_most_otherwise (finite d) above_all h = absurd (true≢false h)
at_most_otherwise above_all below_all h = refl
at_most_otherwise above_all (finite c) h = refl
at_most_otherwise above_all above_all h = absurd (true≢false h)

pub at_most_through : (e f g : Ext) → ext_at_most e f ≡ true → ext_at_most f g ≡ true → ext_at_most e g ≡ true
at_most_through below_all f g h k = refl
at_most_through (finite d) f above_all h k = refl
at_most_through above_all f above_all h k = refl
at_most_through (finite d) (finite c) (finite b) h k = through (exact d) (exact c) (exact b) (pow_pos 120) h k
at_most_through (finite d) below_all g h k = absurd (true≢false (sym h))
at_most_through (finite d) (finite c) below_all h k = absurd (true≢false (sym k))
at_most_through (finite d) above_all below_all h k = absurd (true≢false (sym k))
at_most_through (finite d) above_all (finite b) h k = absurd (true≢false (sym k))
at_most_through above_all below_all g h k = absurd (true≢false (sym h))
at_most_through above_all (finite c) g h k = absurd (true≢false (sym h))
at_most_through above_all above_all below_all h k = absurd (true≢false (sym k))
at_most_through above_all above_all (finite b) h k = absurd (true≢false (sym k))

-- values are not below their lower end, where that is a number
pub within_low : (i : Interval) → within i (not_below (low_of i)) ≡ true
within_low nothing = refl
within_low (between below_all h) = below-infinity h
within_low (between (finite d) h) = ap₂ (λ a b. a && b) (exact_self d) (below-infinity h)
within_low (between above_all h) = below-infinity h

-- ---- spans

is-false : (b : Bool) → not b ≡ true → b ≡ false
is-false false h = refl
is-false true h = absurd (true≢false (sym h))

not-most : (e f g : Ext) → ext_at_most g f ≡ true → ext_at_most e f ≡ false → (b : Bool) → ext_at_most e g ≡ b → not b ≡ true
not-most e f g h k true is = absurd (true≢false (sym (at_most_through e g f is h) ∙ k))
not-most e f g h k false is = refl

not-least : (e f g : Ext) → ext_at_most f g ≡ true → ext_at_most f e ≡ false → (b : Bool) → ext_at_most g e ≡ b → not b ≡ true
not-least e f g h k true is = absurd (true≢false (sym (at_most_through f g e h is) ∙ k))
not-least e f g h k false is = refl

-- what lies between some bounds lies between bounds that are no nearer
pub between_wider : (s t : Span) (e : Ext) → ext_at_most (lower_end t.low) (lower_end s.low) ≡ true → ext_at_most s.high t.high ≡ true → is_between s e ≡ true → is_between t e ≡ true
between_wider s t e low high h =
    let both = both_true (not (ext_at_most e (lower_end s.low))) (not (ext_at_most s.high e)) h in
    both_pass (not (ext_at_most e (lower_end t.low))) (not (ext_at_most t.high e))
    (not-most e (lower_end s.low) (lower_end t.low) low (is-false _ both.0) (ext_at_most e (lower_end t.low)) refl)
    (not-least e s.high t.high high (is-false _ both.1) (ext_at_most t.high e) refl)

-- and above the lower one
pub between_above : (s : Span) (e : Ext) → is_between s e ≡ true → ext_at_most (lower_end s.low) e ≡ true
between_above s e h = at_most_otherwise e (lower_end s.low) (is-false _ (both_true (not (ext_at_most e (lower_end s.low))) (not (ext_at_most s.high e)) h).0)

-- ---- bounds that are near

end-through : (e : End) (d : Ext) (q : Fraction) → end_at_most e (end_of d) ≡ true → end_at_most (end_of d) (at q) ≡ true → end_at_most e (at q) ≡ true
end-through minus_infinity d q h k = refl
end-through (at p) below_all q h k = absurd (true≢false (sym h))
end-through (at p) (finite d) q h k = through p (exact d) q (pow_pos 120) h k
end-through (at p) above_all q h k = absurd (true≢false (sym k))
end-through plus_infinity below_all q h k = absurd (true≢false (sym h))
end-through plus_infinity (finite d) q h k = absurd (true≢false (sym h))
end-through plus_infinity above_all q h k = k

-- what is at most the bound and the gap rounded down is at most their sum
pub settled : (gap : ℕ) (low t : Dyadic) (s upper : Ext) → t ≡ two_to_minus gap → s ≡ down (sum_of (exact low) (exact t)) → ext_at_most upper s ≡ true →
    IsTrue (end_at_most (end_of upper) (at (sum_of (exact low) (exact (two_to_minus gap)))))
settled gap low t s upper e f h =
    let q : Fraction = sum_of (exact low) (exact (two_to_minus gap)) in
    let is : s ≡ down q = f ∙ ap (λ (d : Dyadic). down (sum_of (exact low) (exact d))) e in
    end-through (end_of upper) (down q) q (subst (λ (x : Ext). ext_at_most upper x ≡ true) is h)
    (down_side q (sum_is_good (exact low) (exact (two_to_minus gap)) (pow_pos 120) (pow_pos 120)))

-- and what is at most their sum is at most that rounded down, since it is kept itself
pub settled_down : (gap : ℕ) (low t : Dyadic) (s upper : Ext) → IsExtOnGrid upper → t ≡ two_to_minus gap → s ≡ down (sum_of (exact low) (exact t)) →
    IsTrue (end_at_most (end_of upper) (at (sum_of (exact low) (exact (two_to_minus gap))))) → ext_at_most upper s ≡ true
settled_down gap low t s upper grid e f h =
    let q : Fraction = sum_of (exact low) (exact (two_to_minus gap)) in
    let is : s ≡ down q = f ∙ ap (λ (d : Dyadic). down (sum_of (exact low) (exact d))) e in
    subst (λ (x : Ext). ext_at_most upper x ≡ true) (sym is) (kept-below upper q grid (sum_is_good (exact low) (exact (two_to_minus gap)) (pow_pos 120) (pow_pos 120)) h)
  where
    kept-below : (u : Ext) (q : Fraction) → IsExtOnGrid u → IsFraction q → IsTrue (end_at_most (end_of u) (at q)) → ext_at_most u (down q) ≡ true
    kept-below below_all q g good k = refl
    kept-below (finite d) q g good k = subst (λ (x : Ext). ext_at_most x (down q) ≡ true) (down_exact d g) (down_isotone (exact d) q (pow_pos 120) good k)
    kept-below above_all q g good k = absurd (true≢false (sym k))
