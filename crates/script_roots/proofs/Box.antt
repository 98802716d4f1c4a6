-- At a point of the declared box, with the values of roots and quotients behind it, the rewritten script's declared box has the point.
use Rattle.std.proofs.Common.{◌≡◌, ◌⊎◌, inl, inr, ℕ, suc, ◌+◌, ◌<◌, ◌≤◌, List, [], ◌∷◌, ◌++◌, map, length, Bool, true, false, not, ◌&&◌, ◌||◌, Option, None, IsTrue, refl, ap, sym, ◌∙◌, subst, arith, true≢false}
use Rattle.std.proofs.lemmas.List.{append-nil}
use Rattle.std.specs.List.{AllByRecursion}
use Rattle.dyadic.specs.Fraction.{Fraction}
use Rattle.dyadic.specs.Point.{Sort, Coordinate}
use Rattle.dyadic.proofs.Equal.{both_true}
use Rattle.script_model.specs.Reading.{Names}
use Rattle.script_model.specs.Meaning.{Value, fraction_of}
use Rattle.script_model.specs.Script.{Command, Constant, constants_of, sort_of_constant}
use Rattle.script_model.specs.Declared.{Bound, DeclaredInterval, declared_interval, script_bounds, InDeclared, InBox, InDeclaredBox, bound_fault, bound_fault_from}
use Rattle.script_roots.specs.Tree.{Tree, atomic, applied, root, quotient, formless, is_number, holds_choice, holds_root}
use Rattle.script_roots.specs.Ranges.{Ranges, avoids_nought, enclosed}
use Rattle.script_roots.specs.Fresh.{Table, stands_alone, left_out}
use Rattle.script_roots.specs.TreeBounds.{declared_ranges}
use Rattle.script_roots.specs.Rewritten.{rewritten_by, unless_empty, script_table, rewritten}
use Rattle.script_roots.specs.Laws.{constants_at, value_at, HasRoots, fresh_value, extended, are_distinct, IsRewritable, BoxIsExtended}
use Rattle.script_roots.proofs.Operations.{IsNotNought, missed_is_not_nought}
use Rattle.script_roots.proofs.Enclosed.{tree_value, RootsHold, Within}
use Rattle.script_roots.proofs.Ends.{EndsHold}
use Rattle.script_roots.proofs.Constants.{table_constants, rewritten_constants, own_distinct}
use Rattle.script_roots.proofs.Table.{IsFresh, table_roots, table_fresh}
use Rattle.script_roots.proofs.FreshBounds.{fresh_bounds}
use Rattle.script_roots.proofs.Axes.{script_axes, interval_from, own_interval, each_has_ends}
use Rattle.script_roots.proofs.RewrittenBounds.{sorts_more, rewritten_bounds}
use Rattle.script_roots.proofs.DeclaredRanges.{enclosed_holds}
use Rattle.script_roots.proofs.FreshEnds.{EachLies, each_lies, ends_of_each, later_faults}

-- ---- boxes

-- a point of the first axes' box and one of the later axes' box
box-join : (box : ℕ → DeclaredInterval) (axis m : ℕ) (ss us : List Sort) (xs ys : List Coordinate) → m ≡ axis + length ss → InBox box axis ss xs → InBox box m us ys → InBox box axis (ss ++ us) (xs ++ ys)
box-join box axis m [] us [] ys e h k = subst (λ (n : ℕ). InBox box n us ys) (let f : m ≡ axis = omega arith in f) k
box-join box axis m (s ∷ ss) us (x ∷ xs) ys e h k = (h.0, box-join box (suc axis) m ss us xs ys (omega arith) h.1 k)
box-join box axis m [] us (x ∷ xs) ys e h k = elim h [ ]
box-join box axis m (s ∷ ss) us [] ys e h k = elim h [ ]

-- the box of intervals that are the same on the axes before the n-th
box-same : (box other : ℕ → DeclaredInterval) (n : ℕ) → ((k : ℕ) → k < n → box k ≡ other k) → (axis : ℕ) (ss : List Sort) (xs : List Coordinate) → axis + length ss ≤ n → InBox other axis ss xs → InBox box axis ss xs
box-same box other n e axis [] [] h k = tt
box-same box other n e axis (s ∷ ss) (x ∷ xs) h k =
    (subst (λ (i : DeclaredInterval). InDeclared i s x) (sym (e axis (omega arith))) k.0, box-same box other n e (suc axis) ss xs (omega arith) k.1)
box-same box other n e axis [] (x ∷ xs) h k = elim k [ ]
box-same box other n e axis (s ∷ ss) [] h k = elim k [ ]

fresh-box : (ranges : Ranges) (box : ℕ → DeclaredInterval) (f : Fraction → Fraction) (script : List Command) (point : List Coordinate) (axis : ℕ) (part : Table) →
    EachLies ranges box (tree_value f (constants_at [] (constants_of script) point)) axis part → InBox box axis (map sort_of_constant (table_constants part)) (map (fresh_value f script point) part)
fresh-box ranges box f script point axis [] h = tt
fresh-box ranges box f script point axis (entry ∷ rest) h = (h.0.1, fresh-box ranges box f script point (suc axis) rest h.1)

length-sorts : (cs : List Constant) → length (map sort_of_constant cs) ≡ length cs
length-sorts [] = refl
length-sorts (c ∷ cs) = ap suc (length-sorts cs)

-- ---- the table

is-not : (b : Bool) → IsTrue (not b) → b ≡ false
is-not false h = refl
is-not true h = absurd (true≢false (sym h))

either-false : (a b : Bool) → a ≡ false → b ≡ false → a || b ≡ false
either-false false b h k = k
either-false true b h k = absurd (true≢false h)

-- what it is that a constant stands for a quotient
record IsQuotient (ranges : Ranges) (t d : Tree) : Type 0 where
  pub no_choice : holds_choice t ≡ false
  pub no_choice_below : holds_choice d ≡ false
  pub misses : IsTrue (avoids_nought (enclosed ranges d))

quotient-is : (ranges : Ranges) (t d : Tree) → IsTrue (stands_alone ranges t d) → IsQuotient ranges t d
quotient-is ranges t d h =
    let a = both_true (not (is_number d) && not (holds_choice t) && not (holds_choice d) && not (holds_root d)) (avoids_nought (enclosed ranges d)) h in
    let b = both_true (not (is_number d) && not (holds_choice t) && not (holds_choice d)) (not (holds_root d)) a.0 in
    let c = both_true (not (is_number d) && not (holds_choice t)) (not (holds_choice d)) b.0 in
    let e = both_true (not (is_number d)) (not (holds_choice t)) c.0 in
    record { no_choice = is-not (holds_choice t) e.1; no_choice_below = is-not (holds_choice d) c.1; misses = a.1 }

-- the values of an entry's parts lie in their intervals, and that of a divisor is not 0
abbrev pub PartsHold : Ranges → (Tree → Value) → Tree → Type 0
PartsHold ranges value (root at t) = Within (enclosed ranges t) (value t)
PartsHold ranges value (quotient at t d) = Within (enclosed ranges t) (value t) × Within (enclosed ranges d) (value d) × IsNotNought (fraction_of (value d))
PartsHold ranges value t = Unit {0}

module _ (bound : Option ℕ) (script : List Command) (own : IsTrue (are_distinct (constants_of script))) (f : Fraction → Fraction) (point : List Coordinate) (inside : InDeclaredBox bound script point) where
  abbrev Box : Ranges
  Box = declared_ranges bound script

  abbrev Known : Names Value
  Known = constants_at [] (constants_of script) point

  abbrev ValueOf : Tree → Value
  ValueOf t = tree_value f Known t

  entry-within : (t : Tree) → IsFresh Box t → RootsHold f Known t → Within (enclosed Box t) (ValueOf t)
  entry-within (root at t) h r = enclosed_holds bound script own point inside f (root at t) h r
  entry-within (quotient at t d) h r =
      let q = quotient-is Box t d h in enclosed_holds bound script own point inside f (quotient at t d) (either-false (holds_choice t) (holds_choice d) q.no_choice q.no_choice_below) r
  entry-within (atomic at l) h r = elim h [ ]
  entry-within (applied at x ts) h r = elim h [ ]
  entry-within (formless at) h r = elim h [ ]

  entry-parts : (t : Tree) → IsFresh Box t → RootsHold f Known t → PartsHold Box ValueOf t
  entry-parts (root at t) h r = enclosed_holds bound script own point inside f t h r.0
  entry-parts (quotient at t d) h r =
      let q = quotient-is Box t d h in
      let w = enclosed_holds bound script own point inside f d q.no_choice_below r.1 in
      (enclosed_holds bound script own point inside f t q.no_choice r.0, w, missed_is_not_nought (enclosed Box d) (fraction_of (ValueOf d)) w.fraction w.inside q.misses)
  entry-parts (atomic at l) h r = elim h [ ]
  entry-parts (applied at x ts) h r = elim h [ ]
  entry-parts (formless at) h r = elim h [ ]

  each-entry : (P : Tree → Type 0) → ((t : Tree) → IsFresh Box t → RootsHold f Known t → P t) → (part : Table) → AllByRecursion (λ (entry : List ℕ × Tree). IsFresh Box entry.1) part →
      AllByRecursion (λ (entry : List ℕ × Tree). RootsHold f Known entry.1) part → AllByRecursion (λ (entry : List ℕ × Tree). P entry.1) part
  each-entry P g [] h r = tt
  each-entry P g (entry ∷ rest) h r = (g entry.1 h.0 r.0, each-entry P g rest h.1 r.1)

  module _ (left : left_out script ≡ None) (roots : HasRoots f bound script point) where
    table-within : AllByRecursion (λ (entry : List ℕ × Tree). Within (enclosed Box entry.1) (ValueOf entry.1)) (script_table bound script)
    table-within = each-entry (λ t. Within (enclosed Box t) (ValueOf t)) entry-within (script_table bound script) (table_fresh bound script left) (table_roots f bound script point roots)

    pub parts_hold : AllByRecursion (λ (entry : List ℕ × Tree). PartsHold (declared_ranges bound script) (tree_value f (constants_at [] (constants_of script) point)) entry.1) (script_table bound script)
    parts_hold = each-entry (PartsHold Box ValueOf) entry-parts (script_table bound script) (table_fresh bound script left) (table_roots f bound script point roots)

    -- ---- the rewritten script

    abbrev Entries : Table
    Entries = script_table bound script

    abbrev Written : List Command
    Written = rewritten_by Box Entries script

    abbrev Count : ℕ
    Count = length (constants_of script)

    abbrev Bounds : List Bound
    Bounds = fresh_bounds Box Count Entries ++ script_bounds script

    module _ (distinct : IsTrue (are_distinct (constants_of Written))) (fault : bound_fault bound Written ≡ None) where
      intervals-are : interval_from bound (script_bounds Written) ≡ interval_from bound Bounds
      intervals-are = ap (interval_from bound) (rewritten_bounds Box script
          (subst (λ (cs : List Constant). IsTrue (are_distinct cs)) (rewritten_constants Box Entries script) distinct) (table_fresh bound script left))

      no-faults : bound_fault_from (interval_from bound Bounds) Count (table_constants Entries) ≡ None
      no-faults = later_faults (interval_from bound Bounds) 0 Count (constants_of script) (table_constants Entries) (omega arith)
          (subst (λ (box : ℕ → DeclaredInterval). bound_fault_from box 0 (constants_of script ++ table_constants Entries) ≡ None) intervals-are
          (subst (λ (cs : List Constant). bound_fault_from (interval_from bound (script_bounds Written)) 0 cs ≡ None) (rewritten_constants Box Entries script) fault))

      entries-lie : EachLies Box (interval_from bound Bounds) ValueOf Count Entries
      entries-lie = each_lies bound Box (interval_from bound Bounds) ValueOf Count Entries (table_fresh bound script left) table-within
          (each_has_ends bound Box (script_bounds script) [] Count Entries tt (script_axes script)) no-faults

      ends-hold : AllByRecursion (λ (entry : List ℕ × Tree). EndsHold Box (value_at f script point entry.1) entry.1) Entries
      ends-hold = ends_of_each Box (interval_from bound Bounds) ValueOf Count Entries entries-lie

      in-bounds : InBox (interval_from bound Bounds) 0 (map sort_of_constant (constants_of script) ++ map sort_of_constant (table_constants Entries)) (extended f bound script point)
      in-bounds = box-join (interval_from bound Bounds) 0 Count (map sort_of_constant (constants_of script)) (map sort_of_constant (table_constants Entries)) point (map (fresh_value f script point) Entries)
          (let e = length-sorts (constants_of script) in omega arith)
          (box-same (interval_from bound Bounds) (declared_interval bound script) Count (λ k l. own_interval bound Box Count Entries (script_bounds script) k l) 0 (map sort_of_constant (constants_of script)) point
          (let e = length-sorts (constants_of script) in omega arith) inside)
          (fresh-box Box (interval_from bound Bounds) f script point Count Entries entries-lie)

      in-box : InDeclaredBox bound Written (extended f bound script point)
      in-box = subst (λ (cs : List Constant). InBox (declared_interval bound Written) 0 (map sort_of_constant cs) (extended f bound script point)) (sym (rewritten_constants Box Entries script))
          (subst (λ (ss : List Sort). InBox (declared_interval bound Written) 0 ss (extended f bound script point)) (sym (sorts_more (constants_of script) (table_constants Entries)))
          (subst (λ (box : ℕ → DeclaredInterval). InBox box 0 (map sort_of_constant (constants_of script) ++ map sort_of_constant (table_constants Entries)) (extended f bound script point)) (sym intervals-are) in-bounds))

-- ---- the laws

either-way : (table : Table) (xs ys : List Command) → ((table ≡ []) × (unless_empty table xs ys ≡ xs)) ⊎ (unless_empty table xs ys ≡ ys)
either-way [] xs ys = inl (refl, refl)
either-way (entry ∷ rest) xs ys = inr refl

module _ (bound : Option ℕ) (script : List Command) (w : IsRewritable bound script) (f : Fraction → Fraction) (point : List Coordinate) (inside : InDeclaredBox bound script point) (roots : HasRoots f bound script point) where
  abbrev Ways : Type 0
  Ways = ((script_table bound script ≡ []) × (rewritten bound script ≡ script)) ⊎ (rewritten bound script ≡ rewritten_by (declared_ranges bound script) (script_table bound script) script)

  ways : Ways
  ways = either-way (script_table bound script) script (rewritten_by (declared_ranges bound script) (script_table bound script) script)

  distinct-in : {r : List Command} → rewritten bound script ≡ r → IsTrue (are_distinct (constants_of r))
  distinct-in e = subst (λ (r : List Command). IsTrue (are_distinct (constants_of r))) e w.distinct

  bounded-in : {r : List Command} → rewritten bound script ≡ r → bound_fault bound r ≡ None
  bounded-in e = subst (λ (r : List Command). bound_fault bound r ≡ None) e w.bounded

  -- the value of each root and quotient lies between the ends of its constant
  pub ends_hold : AllByRecursion (λ (entry : List ℕ × Tree). EndsHold (declared_ranges bound script) (value_at f script point entry.1) entry.1) (script_table bound script)
  ends_hold = elim ways [
    | inl k ↦ subst (AllByRecursion (λ (entry : List ℕ × Tree). EndsHold (declared_ranges bound script) (value_at f script point entry.1) entry.1)) (sym k.0) tt
    | inr k ↦ ends-hold bound script (own_distinct bound script w) f point inside w.nothing_left_out roots (distinct-in k) (bounded-in k)
  ]

  nothing-behind : script_table bound script ≡ [] → extended f bound script point ≡ point
  nothing-behind e = ap (λ (table : Table). point ++ map (fresh_value f script point) table) e ∙ append-nil point

  is-extended : InDeclaredBox bound (rewritten bound script) (extended f bound script point)
  is-extended = elim ways [
    | inl k ↦ subst (λ (r : List Command). InDeclaredBox bound r (extended f bound script point)) (sym k.1) (subst (InDeclaredBox bound script) (sym (nothing-behind k.0)) inside)
    | inr k ↦ subst (λ (r : List Command). InDeclaredBox bound r (extended f bound script point)) (sym k) (in-box bound script (own_distinct bound script w) f point inside w.nothing_left_out roots (distinct-in k) (bounded-in k))
  ]

pub box_is_extended : BoxIsExtended
box_is_extended bound script w f point inside roots = is-extended bound script w f point inside roots
