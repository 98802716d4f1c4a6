-- The ends of the operations' intervals are ends.
use Rattle.std.proofs.Common.{◌≡◌, Bool, true, false, cond, ◌&&◌, ◌∙◌, ap, IsTrue, refl, sym, subst, true≢false, inl}
use Rattle.dyadic.specs.Rounding.{Ext, below_all, finite, above_all, end_of, ext_at_most}
use Rattle.interval_model.specs.Interval.{Interval, nothing, between, IsProper, IsLow, IsHigh}
use Rattle.dyadic.specs.End.{lesser_ext, greater_ext}
use Rattle.dyadic.specs.Calls.{AreAddable}
use Rattle.dyadic.proofs.Equal.{both_true, both_pass}
use Rattle.interval_model.proofs.Holds.{lesser_ext_below, greater_ext_above}
use Rattle.ival.specs.Proper.{is_low, is_high, are_ends}

low-is : (e : Ext) → IsTrue (is_low e) → IsLow e
low-is below_all h = tt
low-is (finite d) h = tt
low-is above_all h = absurd (true≢false (sym h))

high-is : (e : Ext) → IsTrue (is_high e) → IsHigh e
high-is below_all h = absurd (true≢false (sym h))
high-is (finite d) h = tt
high-is above_all h = tt

low-test : (e : Ext) → IsLow e → IsTrue (is_low e)
low-test below_all h = refl
low-test (finite d) h = refl
low-test above_all h = absurd h

high-test : (e : Ext) → IsHigh e → IsTrue (is_high e)
high-test below_all h = absurd h
high-test (finite d) h = refl
high-test above_all h = refl

pub proper_of : (l h : Ext) → IsTrue (are_ends l h) → IsProper (between l h)
proper_of l h p =
    let a = both_true (ext_at_most l h) (is_low l && is_high h) p in let b = both_true (is_low l) (is_high h) a.1 in
    (a.0, low-is l b.0, high-is h b.1)

pub ends_of : (l h : Ext) → IsProper (between l h) → IsTrue (are_ends l h)
ends_of l h p = both_pass (ext_at_most l h) (is_low l && is_high h) p.0 (both_pass (is_low l) (is_high h) (low-test l p.1) (high-test h p.2))

-- ends of an interval that is proper
pub ends_from : (l h : Ext) (i : Interval) → between l h ≡ i → IsProper i → IsTrue (are_ends l h)
ends_from l h i e p = ends_of l h (subst IsProper (sym e) p)

pub low_of : (l h : Ext) → IsTrue (are_ends l h) → IsTrue (is_low l)
low_of l h p = (both_true (is_low l) (is_high h) (both_true (ext_at_most l h) (is_low l && is_high h) p).1).0

pub high_of : (l h : Ext) → IsTrue (are_ends l h) → IsTrue (is_high h)
high_of l h p = (both_true (is_low l) (is_high h) (both_true (ext_at_most l h) (is_low l && is_high h) p).1).1

pub ordered : (l h : Ext) → IsTrue (are_ends l h) → IsTrue (ext_at_most l h)
ordered l h p = (both_true (ext_at_most l h) (is_low l && is_high h) p).0

-- ---- sums

pub low_addable : (e f : Ext) → IsTrue (is_low e) → IsTrue (is_low f) → AreAddable e f
low_addable below_all below_all i j = tt
low_addable below_all (finite d) i j = tt
low_addable (finite d) f i j = tt
low_addable below_all above_all i j = absurd (true≢false (sym j))
low_addable above_all f i j = absurd (true≢false (sym i))

pub high_addable : (e f : Ext) → IsTrue (is_high e) → IsTrue (is_high f) → AreAddable e f
high_addable above_all above_all i j = tt
high_addable above_all (finite d) i j = tt
high_addable (finite d) f i j = tt
high_addable above_all below_all i j = absurd (true≢false (sym j))
high_addable below_all f i j = absurd (true≢false (sym i))

-- ---- hull

pub hull_proper : (l h m k : Ext) → IsProper (between l h) → IsProper (between m k) → IsProper (between (lesser_ext l m) (greater_ext h k))
hull_proper l h m k p q = (
  lesser_ext_below l m (end_of (greater_ext h k)) (inl (greater_ext_above h k (end_of l) (inl p.0))),
  low (ext_at_most l m),
  high (ext_at_most h k),
)
  where
    low : (t : Bool) → IsLow (cond t l m)
    low true = p.1
    low false = q.1

    high : (t : Bool) → IsHigh (cond t k h)
    high true = q.2
    high false = p.2

-- what lies between ends that are those of a proper interval
pub new_is : (l h : Ext) (i : Interval) → between l h ≡ i → IsProper i → cond (ext_at_most l h) (between l h) nothing ≡ i
new_is l h i e p = ap (λ (t : Bool). cond t (between l h) nothing) (ordered l h (ends_from l h i e p)) ∙ e
