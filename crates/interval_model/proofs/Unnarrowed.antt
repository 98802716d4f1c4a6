-- What an interval that is an operation's own result leaves to an operand: all of it.
use Rattle.std.proofs.Common.{◌≡◌, ℕ, ℤ, pos, ◌+ℤ◌, ◌-ℤ◌, ◌≤ℤ◌, ◌*ℤ◌, neg_ℤ, Bool, true, false, IsTrue, refl, sym, ◌∙◌, subst, arith, true≢false, lit<}
use Rattle.std.proofs.lemmas.Int.{ints}
use Rattle.dyadic.specs.Fraction.{Fraction, IsFraction, negated}
use Rattle.dyadic.specs.Rounding.{Dyadic, exact, at, Ext, below_all, finite, above_all, end_of, end_at_most, ext_at_most}
use Rattle.interval_model.specs.Interval.{Interval, nothing, between, IsProper, interval_sum, interval_negated, interval_product, interval_square, inverse_sum, inverse_product, inverse_square, within}
use Rattle.dyadic.proofs.Ring.{atom, natural, minus, times, same}
use Rattle.dyadic.proofs.Equal.{◌≈◌, both_true, both_pass}
use Rattle.dyadic.proofs.Rounds.{exact_from, exact_read, exact_self}
use Rattle.interval_model.proofs.Ends.{product_comm}
use Rattle.interval_model.proofs.EndsSums.{negated_is_good}
use Rattle.interval_model.proofs.Holds.{Holds, same_holds, sum_holds, negated_holds, product_holds, square_holds}
use Rattle.interval_model.proofs.HoldsGrid.{square_kept}
use Rattle.interval_model.proofs.Inverses.{inverse_sum_holds, inverse_product_holds, sum_comm}
use Rattle.interval_model.proofs.InversesSquares.{inverse_square_holds}
use Rattle.interval_model.proofs.Isotone.{Member, member_of}

-- ---- an interval whose every fraction another one holds lies within it

abbrev number : ℤ → Dyadic
number z = record { units = z }

-- a number below two others
below-both : (d e : Dyadic) → (z : ℤ) × IsTrue (ext_at_most (finite (number z)) (finite e)) × (IsTrue (ext_at_most (finite d) (finite (number z))) → ⊥)
below-both d e = go (ext_at_most (finite d) (finite e)) refl
  where
    go : (t : Bool) → ext_at_most (finite d) (finite e) ≡ t → (z : ℤ) × IsTrue (ext_at_most (finite (number z)) (finite e)) × (IsTrue (ext_at_most (finite d) (finite (number z))) → ⊥)
    go true h = let a : d.units ≤ℤ e.units = exact_read d e h in
        (d.units -ℤ pos 1, exact_from (number (d.units -ℤ pos 1)) e (omega (arith, ints, a)), λ k. let b = exact_read d (number (d.units -ℤ pos 1)) k in absurd (omega (arith, ints, b)))
    go false h = (e.units, exact_self e, λ k. true≢false (sym k ∙ h))

-- a number above two others
above-both : (d e : Dyadic) → (z : ℤ) × IsTrue (ext_at_most (finite e) (finite (number z))) × (IsTrue (ext_at_most (finite (number z)) (finite d)) → ⊥)
above-both d e = go (ext_at_most (finite e) (finite d)) refl
  where
    go : (t : Bool) → ext_at_most (finite e) (finite d) ≡ t → (z : ℤ) × IsTrue (ext_at_most (finite e) (finite (number z))) × (IsTrue (ext_at_most (finite (number z)) (finite d)) → ⊥)
    go true h = let a : e.units ≤ℤ d.units = exact_read e d h in
        (d.units +ℤ pos 1, exact_from e (number (d.units +ℤ pos 1)) (omega (arith, ints, a)), λ k. let b = exact_read (number (d.units +ℤ pos 1)) d k in absurd (omega (arith, ints, b)))
    go false h = (e.units, exact_self e, λ k. true≢false (sym k ∙ h))

module _ (l h l' h' : Ext) (p : IsProper (between l h)) (f : (v : Fraction) → IsFraction v → Holds (between l h) v → Holds (between l' h') v) where
  ends : (v : Fraction) → IsFraction v → Holds (between l h) v → IsTrue (end_at_most (end_of l') (at v)) × IsTrue (end_at_most (at v) (end_of h'))
  ends v g k = both_true (end_at_most (end_of l') (at v)) (end_at_most (at v) (end_of h')) (f v g k)

  at-number : (d : Dyadic) → IsTrue (ext_at_most l (finite d)) → IsTrue (ext_at_most (finite d) h) → IsTrue (ext_at_most l' (finite d)) × IsTrue (ext_at_most (finite d) h')
  at-number d a b = ends (exact d) (lit< tt) (both_pass (end_at_most (end_of l) (at (exact d))) (end_at_most (at (exact d)) (end_of h)) a b)

low-within : (l h l' h' : Ext) → IsProper (between l h) → ((v : Fraction) → IsFraction v → Holds (between l h) v → Holds (between l' h') v) → IsTrue (ext_at_most l' l)
low-within (finite d) h l' h' p f = (at-number (finite d) h l' h' p f d (exact_self d) p.0).0
low-within below_all h below_all h' p f = refl
low-within below_all h above_all h' p f = let m = member_of below_all h p in absurd (true≢false (sym (ends below_all h above_all h' p f m.member m.is_fraction m.inside).0))
low-within below_all (finite e) (finite d) h' p f = let z = below-both d e in absurd (z.2 (at-number below_all (finite e) (finite d) h' p f (number z.0) refl z.1).0)
low-within below_all above_all (finite d) h' p f = let z = below-both d d in absurd (z.2 (at-number below_all above_all (finite d) h' p f (number z.0) refl refl).0)
low-within below_all below_all (finite d) h' p f = absurd p.2
low-within above_all h l' h' p f = absurd p.1

high-within : (l h l' h' : Ext) → IsProper (between l h) → ((v : Fraction) → IsFraction v → Holds (between l h) v → Holds (between l' h') v) → IsTrue (ext_at_most h h')
high-within l (finite d) l' h' p f = (at-number l (finite d) l' h' p f d p.0 (exact_self d)).1
high-within l above_all l' above_all p f = refl
high-within l above_all l' below_all p f = let m = member_of l above_all p in absurd (true≢false (sym (ends l above_all l' below_all p f m.member m.is_fraction m.inside).1))
high-within (finite e) above_all l' (finite d) p f = let z = above-both d e in absurd (z.2 (at-number (finite e) above_all l' (finite d) p f (number z.0) z.1 refl).1)
high-within below_all above_all l' (finite d) p f = let z = above-both d d in absurd (z.2 (at-number below_all above_all l' (finite d) p f (number z.0) refl refl).1)
high-within above_all above_all l' (finite d) p f = absurd p.1
high-within l below_all l' h' p f = absurd p.2

pub holds_within : (i j : Interval) → IsProper i → ((v : Fraction) → IsFraction v → Holds i v → Holds j v) → IsTrue (within i j)
holds_within nothing j p f = refl
holds_within (between l h) nothing p f = let m = member_of l h p in absurd (true≢false (sym (f m.member m.is_fraction m.inside)))
holds_within (between l h) (between l' h') p f = both_pass (ext_at_most l' l) (ext_at_most h h') (low-within l h l' h' p f) (high-within l h l' h' p f)

-- ---- an operand lies in what the operation's own result leaves to it

pub member_in : (i : Interval) → IsProper i → (i ≡ nothing → ⊥) → Member i
member_in nothing p n = absurd (n refl)
member_in (between l h) p n = member_of l h p

twice-negated : (a : ℤ) (d : ℕ) → neg_ℤ (neg_ℤ a) *ℤ pos d ≡ a *ℤ pos d
twice-negated a d = same (times (minus (minus (atom a))) (natural d)) (times (atom a) (natural d)) (omega arith)

negated-back : (x : Fraction) → negated (negated x) ≈ x
unfolding negated
negated-back x = record { same = twice-negated x.num x.den }

pub negated_left : (a : Interval) (x : Fraction) → IsFraction x → Holds a x → Holds (interval_negated (interval_negated a)) x
negated_left a x f h =
    same_holds (interval_negated (interval_negated a)) (negated (negated x)) x (negated_is_good (negated x) (negated_is_good x f)) f (negated-back x)
    (negated_holds (interval_negated a) (negated x) (negated_holds a x h))

pub sum_left_first : (a b : Interval) (x : Fraction) → Member b → IsFraction x → Holds a x → Holds (inverse_sum (interval_sum a b) b) x
sum_left_first a b x m f h = inverse_sum_holds (interval_sum a b) b x m.member f m.is_fraction (sum_holds a b x m.member h m.inside) m.inside

pub sum_left_second : (a b : Interval) (x : Fraction) → Member a → IsFraction x → Holds b x → Holds (inverse_sum (interval_sum a b) a) x
sum_left_second a b x m f h =
    inverse_sum_holds (interval_sum a b) a x m.member f m.is_fraction (subst (Holds (interval_sum a b)) (sum_comm m.member x) (sum_holds a b m.member x m.inside h)) m.inside

pub product_left_first : (a b : Interval) (x : Fraction) → Member b → IsFraction x → Holds a x → Holds (inverse_product (interval_product a b) b) x
product_left_first a b x m f h = inverse_product_holds (interval_product a b) b x m.member f m.is_fraction (product_holds a b x m.member f m.is_fraction h m.inside) m.inside

pub product_left_second : (a b : Interval) (x : Fraction) → Member a → IsFraction x → Holds b x → Holds (inverse_product (interval_product a b) a) x
product_left_second a b x m f h =
    inverse_product_holds (interval_product a b) a x m.member f m.is_fraction (subst (Holds (interval_product a b)) (product_comm m.member x) (product_holds a b m.member x m.is_fraction f m.inside h)) m.inside

pub square_left : (a : Interval) (x : Fraction) → IsFraction x → Holds a x → Holds (inverse_square a (interval_square a)) x
square_left a x f h = inverse_square_holds a (interval_square a) x (square_kept a) f h (square_holds a x f h)
