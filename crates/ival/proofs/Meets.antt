-- Meets may be taken in any order.
use Rattle.std.proofs.Common.{◌≡◌, Bool, true, false, cond, IsTrue, refl, ap, ap₂, sym, ◌∙◌, subst, arith, ℤ, true≢false}
use Rattle.std.proofs.lemmas.Int.{ints}
use Rattle.dyadic.specs.Rounding.{Dyadic, Ext, below_all, finite, above_all, ext_at_most}
use Rattle.interval_model.specs.Interval.{Interval, nothing, between, everything, IsProper, met, within}
use Rattle.dyadic.specs.End.{lesser_ext, greater_ext}
use Rattle.dyadic.proofs.Rounds.{exact_read}
use Rattle.dyadic.proofs.Equal.{both_true}
use Rattle.interval_model.proofs.Isotone.{within_refl, within_trans, within_everything, met_within_first, met_within_second, met_isotone, within_met}

pub equal_numbers : (a b : Dyadic) → IsTrue (ext_at_most (finite a) (finite b)) → IsTrue (ext_at_most (finite b) (finite a)) → a ≡ b
equal_numbers a b h k = let p = exact_read a b h in let q = exact_read b a k in let e : a.units ≡ b.units = omega (arith, ints, p, q) in ap (λ (z : ℤ). record { units = z }) e

equal-ends : (e f : Ext) → IsTrue (ext_at_most e f) → IsTrue (ext_at_most f e) → e ≡ f
equal-ends below_all below_all h k = refl
equal-ends below_all (finite b) h k = absurd (true≢false (sym k))
equal-ends below_all above_all h k = absurd (true≢false (sym k))
equal-ends (finite a) below_all h k = absurd (true≢false (sym h))
equal-ends (finite a) (finite b) h k = ap finite (equal_numbers a b h k)
equal-ends (finite a) above_all h k = absurd (true≢false (sym k))
equal-ends above_all below_all h k = absurd (true≢false (sym h))
equal-ends above_all (finite b) h k = absurd (true≢false (sym h))
equal-ends above_all above_all h k = refl

-- two intervals of which each lies within the other
pub within_both : (i j : Interval) → IsTrue (within i j) → IsTrue (within j i) → i ≡ j
within_both nothing nothing h k = refl
within_both nothing (between l h) a b = absurd (true≢false (sym b))
within_both (between l h) nothing a b = absurd (true≢false (sym a))
within_both (between l h) (between l' h') a b =
    let p = both_true (ext_at_most l' l) (ext_at_most h h') a in let q = both_true (ext_at_most l l') (ext_at_most h' h) b in
    ap₂ between (equal-ends l l' q.0 p.0) (equal-ends h h' p.1 q.1)

same-both : (t : Bool) (e : Ext) → cond t e e ≡ e
same-both true e = refl
same-both false e = refl

met-twice : (l h : Ext) (t : Bool) → ext_at_most l h ≡ t → met (cond t (between l h) nothing) (cond t (between l h) nothing) ≡ cond t (between l h) nothing
met-twice l h false e = refl
met-twice l h true e =
    ap₂ (λ (x y : Ext). cond (ext_at_most x y) (between x y) nothing) (same-both (ext_at_most l l) l) (same-both (ext_at_most h h) h)
    ∙ ap (λ (t : Bool). cond t (between l h) nothing) e

pub met_met : (i j : Interval) → met (met i j) (met i j) ≡ met i j
met_met nothing j = refl
met_met (between l h) nothing = refl
met_met (between l h) (between l' h') = met-twice (greater_ext l l') (lesser_ext h h') (ext_at_most (greater_ext l l') (lesser_ext h h')) refl

-- a meet that lies within both lies within their meet
within-met : (i j k m : Interval) → IsTrue (within (met i j) k) → IsTrue (within (met i j) m) → IsTrue (within (met i j) (met k m))
within-met i j k m a b = subst (λ (x : Interval). IsTrue (within x (met k m))) (met_met i j) (met_isotone (met i j) (met i j) k m a b)

pub met_comm : (i j : Interval) → met i j ≡ met j i
met_comm i j = within_both (met i j) (met j i)
    (within-met i j j i (met_within_second i j) (met_within_first i j))
    (within-met j i i j (met_within_second j i) (met_within_first j i))

pub met_assoc : (i j k : Interval) → met (met i j) k ≡ met i (met j k)
met_assoc i j k =
    let l : Interval = met (met i j) k in let r : Interval = met i (met j k) in
    let in-first : IsTrue (within l (met i j)) = met_within_first (met i j) k in
    let in-second : IsTrue (within r (met j k)) = met_within_second i (met j k) in
    within_both l r
    (within-met (met i j) k i (met j k) (within_trans l (met i j) i in-first (met_within_first i j))
    (within-met (met i j) k j k (within_trans l (met i j) j in-first (met_within_second i j)) (met_within_second (met i j) k)))
    (within-met i (met j k) (met i j) k
    (within-met i (met j k) i j (met_within_first i (met j k)) (within_trans r (met j k) j in-second (met_within_first j k)))
    (within_trans r (met j k) k in-second (met_within_second j k)))

-- all numbers leave a meet as it is
pub met_everything : (i j : Interval) → met (met i j) everything ≡ met i j
met_everything i j = within_both (met (met i j) everything) (met i j) (met_within_first (met i j) everything)
    (within-met i j (met i j) everything (within_refl (met i j)) (within_everything (met i j)))

-- what lies within another is what both have
pub met_inside : (i j : Interval) → IsProper i → IsTrue (within i j) → met i j ≡ i
met_inside i j p h = within_both (met i j) i (met_within_first i j) (within_met i i j p (within_refl i) h)
