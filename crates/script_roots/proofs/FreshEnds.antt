-- The value of each root and quotient of the table lies between the ends of its constant.
use Rattle.std.proofs.Common.{◌≡◌, ℕ, suc, ◌+◌, ◌*◌, ◌^◌, ◌<◌, ◌≤◌, List, [], ◌∷◌, ◌++◌, length, Bool, true, false, cond, ◌||◌, Option, Some, None, IsTrue, refl, sym, ◌∙◌, subst, arith, true≢false, pos}
use Rattle.std.specs.List.{AllByRecursion}
use Rattle.dyadic.specs.Fraction.{Fraction, IsFraction, at_most, whole, zero_fraction}
use Rattle.dyadic.specs.Point.{real_sort, at_fraction}
use Rattle.dyadic.specs.Rounding.{exact, IsExtOnGrid, at as end_at, Ext, below_all, finite, above_all, end_of, end_at_most}
use Rattle.dyadic.proofs.Equal.{through, both_true, le_holds}
use Rattle.dyadic.proofs.Nearest.{representable_le}
use Rattle.dyadic.proofs.Ring
use Rattle.dyadic.proofs.Ring.{natural, times}
use Rattle.interval_model.specs.Interval.{Interval, nothing, between, IsKept}
use Rattle.interval_model.proofs.Holds.{Holds}
use Rattle.script_model.specs.Sexp.{Place}
use Rattle.script_model.specs.Meaning.{Value, fraction_of}
use Rattle.script_model.specs.Script.{Constant}
use Rattle.script_model.specs.Declared.{DeclaredInterval, InDeclared, BoundFault, too_wide_end, ends_fault, axis_fault, or_later, bound_fault_from}
use Rattle.script_roots.specs.Tree.{Tree, atomic, applied, root, quotient, formless}
use Rattle.script_roots.specs.Ranges.{Ranges, enclosed, root_bound, up_to_whole, whole_ext, quotient_range}
use Rattle.script_roots.specs.Fresh.{Table}
use Rattle.script_roots.specs.Rewritten.{number_at, low_at, high_at, whole_or_too_wide}
use Rattle.script_roots.proofs.Enclosed.{Within}
use Rattle.script_roots.proofs.Ends.{end_value, LiesBetween, EndsHold}
use Rattle.script_roots.proofs.Table.{IsFresh}
use Rattle.script_roots.proofs.Constants.{table_constants}
use Rattle.script_roots.proofs.FreshBounds.{interval_low, interval_high}
use Rattle.script_roots.proofs.Axes.{interval_of, HasEnds, EachHasEnds}
use Rattle.script_roots.proofs.WrittenEnds.{number_value, low_written, high_written, none_is_too_wide, no_low_is_too_wide}

-- ---- bounds without a fault

no-fault : (b : Bool) (f : BoundFault) → cond b (Some f) None ≡ None → b ≡ false
no-fault false f h = refl
no-fault true f h = cc

neither : (x y : Bool) → x || y ≡ false → (x ≡ false) × (y ≡ false)
neither false y h = (refl, h)
neither true y h = absurd (true≢false h)

-- both ends are kept or near
abbrev pub AreNear : Fraction → Fraction → Type 0
AreNear l h = (too_wide_end l ≡ false) × (too_wide_end h ≡ false)

near-from : (l h : Fraction) → ends_fault (Some l) (Some h) ≡ None → AreNear l h
near-from l h e = neither (too_wide_end l) (too_wide_end h) (no-fault (too_wide_end l || too_wide_end h) _ e)

-- ---- roots

zero-zero : IsTrue (at_most zero_fraction (exact (record { units = pos 0 })))
unfolding at_most
zero-zero = refl

zero-low : (q : Fraction) → IsTrue (at_most (exact (record { units = pos 0 })) q) → IsTrue (at_most zero_fraction q)
zero-low q h = through zero_fraction (exact (record { units = pos 0 })) q (omega arith) zero-zero h

whole-units : (n : ℕ) → IsTrue (at_most (exact (record { units = pos (n * 2 ^ 120) })) (whole (pos n)))
unfolding at_most
whole-units n = le_holds _ _ (Ring.below (times (natural (n * 2 ^ 120)) (natural 1)) (times (natural n) (natural (2 ^ 120))) (omega arith))

few-digits : (n : ℕ) → n * 2 ^ 120 ≤ 2 ^ 242 → n < 10 ^ 64
few-digits n h = omega (arith, h)

root-lies : (p : Place) (o : Option ℕ) (q : Fraction) → too_wide_end (end_value (whole_or_too_wide p o)) ≡ false → Holds (up_to_whole o) q → IsKept (up_to_whole o) →
    IsTrue (at_most zero_fraction q) × IsTrue (at_most q (end_value (whole_or_too_wide p o)))
root-lies p None q near h g = absurd (true≢false (sym (none_is_too_wide p) ∙ near))
root-lies p (Some n) q near h g =
    let b = both_true (end_at_most (end_of (whole_ext 0)) (end_at q)) (end_at_most (end_at q) (end_of (whole_ext n))) h in (
      zero-low q b.0,
      subst (λ (x : Fraction). IsTrue (at_most q x)) (sym (number_value p n (few-digits n (representable_le (n * 2 ^ 120) g.1))))
          (through q (exact (record { units = pos (n * 2 ^ 120) })) (whole (pos n)) (omega arith) b.1 (whole-units n)),
    )

-- ---- quotients

low-lies : (p : Place) (l : Ext) (q : Fraction) → too_wide_end (end_value (low_at p l)) ≡ false → IsExtOnGrid l → IsTrue (end_at_most (end_of l) (end_at q)) → IsTrue (at_most (end_value (low_at p l)) q)
low-lies p below_all q near g h = absurd (true≢false (sym (no_low_is_too_wide p) ∙ near))
low-lies p (finite d) q near g h = through (end_value (low_at p (finite d))) (exact d) q (omega arith) (low_written p d g) h
low-lies p above_all q near g h = absurd (true≢false (sym h))

high-lies : (p : Place) (l : Ext) (q : Fraction) → too_wide_end (end_value (high_at p l)) ≡ false → IsExtOnGrid l → IsTrue (end_at_most (end_at q) (end_of l)) → IsTrue (at_most q (end_value (high_at p l)))
high-lies p above_all q near g h = absurd (true≢false (sym (none_is_too_wide p) ∙ near))
high-lies p (finite d) q near g h = through q (exact d) (end_value (high_at p (finite d))) (omega arith) h (high_written p d g)
high-lies p below_all q near g h = absurd (true≢false (sym h))

-- ---- entries

-- the value lies between the entry's ends, and in the interval
abbrev Lies : Ranges → DeclaredInterval → Tree → Fraction → Type 0
Lies ranges i t q = EndsHold ranges q t × InDeclared i real_sort (at_fraction q)

quotient-lies : (bound : Option ℕ) (p : Place) (j : Interval) (q : Fraction) → let i = interval_of bound (interval_low p j) (interval_high p j) in
    ends_fault i.low i.high ≡ None → IsFraction q → Holds j q → IsKept j → LiesBetween p q j × InDeclared i real_sort (at_fraction q)
quotient-lies bound p nothing q e f h g = absurd (true≢false (sym h))
quotient-lies bound p (between l k) q e f h g =
    let near = near-from (end_value (low_at p l)) (end_value (high_at p k)) e in
    let b = both_true (end_at_most (end_of l) (end_at q)) (end_at_most (end_at q) (end_of k)) h in
    let low = low-lies p l q near.0 g.0 b.0 in
    let high = high-lies p k q near.1 g.1 b.1 in
    ((low, high), (f, low, high))

entry-lies-at : (bound : Option ℕ) (ranges : Ranges) (t : Tree) (v : Value) → IsFresh ranges t → Within (enclosed ranges t) v → (i : DeclaredInterval) → HasEnds bound ranges i t → axis_fault real_sort i ≡ None →
    Lies ranges i t (fraction_of v)
entry-lies-at bound ranges (root p t) v f w i h e =
    let o = root_bound (enclosed ranges t) in
    let near = near-from (end_value (number_at p 0)) (end_value (whole_or_too_wide p o)) (subst (λ (x : DeclaredInterval). axis_fault real_sort x ≡ None) h e) in
    let k = root-lies p o (fraction_of v) near.1 w.inside w.kept in (
      k,
      subst (λ (x : DeclaredInterval). InDeclared x real_sort (at_fraction (fraction_of v))) (sym h)
          (w.fraction, subst (λ (x : Fraction). IsTrue (at_most x (fraction_of v))) (sym (number_value p 0 (omega arith))) k.0, k.1),
    )
entry-lies-at bound ranges (quotient p t d) v f w i h e =
    let k = quotient-lies bound p (quotient_range (enclosed ranges t) (enclosed ranges d)) (fraction_of v) (subst (λ (x : DeclaredInterval). axis_fault real_sort x ≡ None) h e) w.fraction w.inside w.kept in
    (k.0, subst (λ (x : DeclaredInterval). InDeclared x real_sort (at_fraction (fraction_of v))) (sym h) k.1)
entry-lies-at bound ranges (atomic p l) v f w i h e = elim f [ ]
entry-lies-at bound ranges (applied p x ts) v f w i h e = elim f [ ]
entry-lies-at bound ranges (formless p) v f w i h e = elim f [ ]

-- from this axis on
abbrev pub EachLies : Ranges → (ℕ → DeclaredInterval) → (Tree → Value) → ℕ → Table → Type 0
EachLies ranges box value axis [] = Unit {0}
EachLies ranges box value axis (entry ∷ rest) = (EndsHold ranges (fraction_of (value entry.1)) entry.1 × InDeclared (box axis) real_sort (at_fraction (fraction_of (value entry.1)))) × EachLies ranges box value (suc axis) rest

none-later : (c : Constant) (x : Option BoundFault) (y : Option (Constant × BoundFault)) → or_later c x y ≡ None → (x ≡ None) × (y ≡ None)
none-later c None y h = (refl, h)
none-later c (Some f) y h = cc

-- no axis of the later constants has a fault
pub later_faults : (box : ℕ → DeclaredInterval) (axis m : ℕ) (cs ds : List Constant) → m ≡ axis + length cs → bound_fault_from box axis (cs ++ ds) ≡ None → bound_fault_from box m ds ≡ None
later_faults box axis m [] ds e h = subst (λ (k : ℕ). bound_fault_from box k ds ≡ None) (let f : axis ≡ m = omega arith in f) h
later_faults box axis m (c ∷ cs) ds e h = later_faults box (suc axis) m cs ds (omega arith) (none-later c (axis_fault c.sort (box axis)) (bound_fault_from box (suc axis) (cs ++ ds)) h).1

pub each_lies : (bound : Option ℕ) (ranges : Ranges) (box : ℕ → DeclaredInterval) (value : Tree → Value) (axis : ℕ) (part : Table) →
    AllByRecursion (λ (entry : List ℕ × Tree). IsFresh ranges entry.1) part → AllByRecursion (λ (entry : List ℕ × Tree). Within (enclosed ranges entry.1) (value entry.1)) part →
    EachHasEnds bound ranges box axis part → bound_fault_from box axis (table_constants part) ≡ None → EachLies ranges box value axis part
each_lies bound ranges box value axis [] f w h e = tt
each_lies bound ranges box value axis (entry ∷ rest) f w h e =
    let k = none-later _ (axis_fault real_sort (box axis)) (bound_fault_from box (suc axis) (table_constants rest)) e in
    (entry-lies-at bound ranges entry.1 (value entry.1) f.0 w.0 (box axis) h.0 k.0, each_lies bound ranges box value (suc axis) rest f.1 w.1 h.1 k.1)

pub ends_of_each : (ranges : Ranges) (box : ℕ → DeclaredInterval) (value : Tree → Value) (axis : ℕ) (part : Table) → EachLies ranges box value axis part →
    AllByRecursion (λ (entry : List ℕ × Tree). EndsHold ranges (fraction_of (value entry.1)) entry.1) part
ends_of_each ranges box value axis [] h = tt
ends_of_each ranges box value axis (entry ∷ rest) h = (h.0.0, ends_of_each ranges box value (suc axis) rest h.1)
