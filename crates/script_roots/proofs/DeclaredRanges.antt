-- At a point of the declared box each constant lies in its range.
use Rattle.std.proofs.Common.{◌≡◌, ℕ, suc, List, [], ◌∷◌, ◌++◌, map, Bool, true, false, cond, ◌&&◌, ◌||◌, Option, Some, None, IsTrue, nat_eq, bytes_eq, refl, ap₂, sym, subst, arith, true≢false}
use Rattle.dyadic.specs.Fraction.{Fraction, IsFraction, zero_fraction, at_most}
use Rattle.dyadic.specs.Point.{Sort, real_sort, bool_sort, Coordinate, at_fraction, at_bool}
use Rattle.dyadic.specs.Rounding.{at as end_at, Ext, IsExtOnGrid, end_of, end_at_most, ext_at_most, down, up}
use Rattle.dyadic.specs.End.{lesser_ext, greater_ext}
use Rattle.dyadic.proofs.Equal.{both_true, both_pass}
use Rattle.dyadic.proofs.Rounds.{down_side, up_side, down_on_grid, up_on_grid}
use Rattle.interval_model.specs.Interval.{Interval, nothing, between, is_nothing}
use Rattle.interval_model.proofs.Ends.{end_trans, other_way}
use Rattle.script_model.specs.Sexp.{Place, Leaf, numeral, decimal, symbol}
use Rattle.script_model.specs.Reading.{Operator, conjunction, equality, choice, minus, plus, times, divide, at_most_op, below_op, at_least_op, above_op, operators, found, Names, Named, value, function, name_meaning, leaf_meaning, application, value_named, bare_named, call_named}
use Rattle.script_model.specs.Meaning.{Value, real, fraction_of, operation, neighbours, from_left, first_and_rest, coordinate_value}
use Rattle.script_model.specs.Script.{Command, Constant, constants_of, sort_of_constant}
use Rattle.script_model.specs.Declared.{Side, lower, upper, Bound, Bounding, known, constant_of, other, bounds, at_most_bounds, at_least_bounds, equal_bounds, concat, bounds_in, all_known, with_first, computed, alone, arm_bounding, choice_bounding, bounding_operation, bounding, constant_bounding, numbered, script_bounds, is_side, values_on, greatest, least, tightest_end, default_low, default_high, declared_interval, IfBelow, IfAbove, InDeclared, InBox, InDeclaredBox}
use Rattle.script_model.proofs.Bounds.{IfFraction}
use Rattle.script_model.proofs.Related.{Each}
use Rattle.script_roots.specs.Tree.{Tree, atomic, applied, root, quotient, formless, Trees, no_trees, more_trees, is_choice, holds_choice, theory_names}
use Rattle.script_roots.specs.Ranges.{Ranges, operator_range, enclosed}
use Rattle.script_roots.specs.Fresh.{Asserted, asserted}
use Rattle.script_roots.specs.TreeBounds.{EndBound, TreeBounding, known_in, axis_alone, bounded, Axes, constant_axis, axes_from, end_on, at_most_ends, at_least_ends, equal_ends, all_ends, ends_in, first_in, all_known_in, computed_in, alone_in, operation_in, or_no_end, symbol_in, leaf_in, applied_in, tree_in, trees_in, claim_ends, script_ends, ends_on, low_end, high_end, between_or_nothing, range_of, ranges_from, is_empty_from, in_box, declared_ranges}
use Rattle.script_roots.specs.Laws.{tree_meaning, trees_meaning, constants_at, are_distinct}
use Rattle.script_roots.proofs.Enclosed.{Within, EachWithin, operator_within, literal_within, truth_anywhere, InRanges, RootsHold, tree_value, tree_within}
use Rattle.script_roots.proofs.Plain.{assertion_means, goal_means, claims_mean}
use Rattle.script_roots.proofs.Transparent.{bounding_transparent}
use Rattle.script_roots.proofs.Constants.{named, distinct_known}
use Rattle.script_roots.proofs.FreshBounds.{bounds_of}
use Rattle.script_roots.proofs.RewrittenBounds.{theory_as, as_many}
use Rattle.script_roots.proofs.Unknown.{no_root}

-- ---- ends of exact bounds

abbrev IsBeyond : Side → Ext → Fraction → Type 0
IsBeyond lower e q = IsTrue (end_at_most (end_of e) (end_at q))
IsBeyond upper e q = IsTrue (end_at_most (end_at q) (end_of e))

-- a kept end of a range, and a fraction that is not outside it
record IsOuter (s : Side) (e : Ext) (q : Fraction) : Type 0 where
  kept : IsExtOnGrid e
  fraction : IsFraction q
  outside : IsBeyond s e q

-- the tree's bound is of the same axis and side as the exact one, and no tighter
record IsAround (e : EndBound) (b : Bound) : Type 0 where
  axis : e.axis ≡ b.axis
  side : e.side ≡ b.side
  outer : IsOuter b.side e.end b.value

abbrev AreAround : List EndBound → List Bound → Type 0
AreAround es bs = Each IsAround es bs

abbrev AreOuter : Side → List Ext → List Fraction → Type 0
AreOuter s es qs = Each (IsOuter s) es qs

join : (es fs : List EndBound) (bs cs : List Bound) → AreAround es bs → AreAround fs cs → AreAround (es ++ fs) (bs ++ cs)
join [] fs [] cs h k = k
join (e ∷ es) fs (b ∷ bs) cs h k = (h.0, join es fs bs cs h.1 k)
join [] fs (b ∷ bs) cs h k = elim h [ ]
join (e ∷ es) fs [] cs h k = elim h [ ]

-- ---- what trees are to the ranges, and to the declared box

abbrev Fits : TreeBounding → Bounding → Type 0
Fits (known_in i) (known q) = Within i (real q)
Fits (axis_alone n) (constant_of m) = n ≡ m
Fits (bounded es) (bounds bs) = AreAround es bs
Fits (bounded es) other = AreAround es []
Fits _ _ = ⊥

abbrev EachFits : List TreeBounding → List Bounding → Type 0
EachFits bs cs = Each Fits bs cs

end-outer : (s : Side) (i : Interval) (q : Fraction) → Within i (real q) → IsOuter s (end_on s i) q
end-outer s nothing q w = absurd (true≢false (sym w.inside))
end-outer lower (between l h) q w =
    let b = both_true (end_at_most (end_of l) (end_at q)) (end_at_most (end_at q) (end_of h)) w.inside in
    record { kept = w.kept.0; fraction = w.fraction; outside = b.0 }
end-outer upper (between l h) q w =
    let b = both_true (end_at_most (end_of l) (end_at q)) (end_at_most (end_at q) (end_of h)) w.inside in
    record { kept = w.kept.1; fraction = w.fraction; outside = b.1 }

known-first : (i : Interval) (q : Fraction) → Within i (real q) → (b : TreeBounding) (c : Bounding) → Fits b c → AreAround (at_most_ends (known_in i) b) (at_most_bounds (known q) c)
known-first i q w (axis_alone n) (constant_of m) h = (record { axis = h; side = refl; outer = end-outer lower i q w }, tt)
known-first i q w (axis_alone n) c h = elim h [ ]
known-first i q w (known_in j) (constant_of m) h = elim h [ ]
known-first i q w (bounded es) (constant_of m) h = elim h [ ]
known-first i q w _ _ h = tt

constant-first : (n m : ℕ) → n ≡ m → (b : TreeBounding) (c : Bounding) → Fits b c → AreAround (at_most_ends (axis_alone n) b) (at_most_bounds (constant_of m) c)
constant-first n m e (known_in i) (known q) w = (record { axis = e; side = refl; outer = end-outer upper i q w }, tt)
constant-first n m e (known_in i) c w = elim w [ ]
constant-first n m e (axis_alone k) (known q) w = elim w [ ]
constant-first n m e (bounded es) (known q) w = elim w [ ]
constant-first n m e _ _ w = tt

at-most-around : (a : TreeBounding) (x : Bounding) (b : TreeBounding) (y : Bounding) → Fits a x → Fits b y → AreAround (at_most_ends a b) (at_most_bounds x y)
at-most-around (known_in i) (known q) b y h k = known-first i q h b y k
at-most-around (axis_alone n) (constant_of m) b y h k = constant-first n m h b y k
at-most-around (bounded es) (bounds bs) b y h k = tt
at-most-around (bounded es) other b y h k = tt
at-most-around a x b y h k = elim h [ ]

abbrev KeepsAround : (TreeBounding → TreeBounding → List EndBound) → (Bounding → Bounding → List Bound) → Type 0
KeepsAround f g = (a : TreeBounding) (x : Bounding) (b : TreeBounding) (y : Bounding) → Fits a x → Fits b y → AreAround (f a b) (g x y)

at-least-around : KeepsAround at_least_ends at_least_bounds
at-least-around a x b y h k = at-most-around b y a x k h

equal-around : KeepsAround equal_ends equal_bounds
equal-around a x b y h k = join (at_most_ends a b) (at_most_ends b a) (at_most_bounds x y) (at_most_bounds y x) (at-most-around a x b y h k) (at-most-around b y a x k h)

chain-around : (f : TreeBounding → TreeBounding → List EndBound) (g : Bounding → Bounding → List Bound) → KeepsAround f g → (bs : List TreeBounding) (cs : List Bounding) → EachFits bs cs →
    AreAround (all_ends (neighbours f bs)) (concat (neighbours g cs))
chain-around f g r [] [] h = tt
chain-around f g r (b ∷ []) (c ∷ []) h = tt
chain-around f g r (b ∷ b' ∷ bs) (c ∷ c' ∷ cs) h =
    join (f b b') (all_ends (neighbours f (b' ∷ bs))) (g c c') (concat (neighbours g (c' ∷ cs))) (r b c b' c' h.0 h.1.0) (chain-around f g r (b' ∷ bs) (c' ∷ cs) h.1)
chain-around f g r [] (c ∷ cs) h = elim h [ ]
chain-around f g r (b ∷ bs) [] h = elim h [ ]
chain-around f g r (b ∷ []) (c ∷ c' ∷ cs) h = elim h.1 [ ]
chain-around f g r (b ∷ b' ∷ bs) (c ∷ []) h = elim h.1 [ ]

in-around : (b : TreeBounding) (c : Bounding) → Fits b c → AreAround (ends_in b) (bounds_in c)
in-around (known_in i) (known q) h = tt
in-around (axis_alone n) (constant_of m) h = tt
in-around (bounded es) (bounds bs) h = h
in-around (bounded es) other h = h
in-around b c h = elim h [ ]

all-around : (bs : List TreeBounding) (cs : List Bounding) → EachFits bs cs → AreAround (all_ends (map ends_in bs)) (bounds_of cs)
all-around [] [] h = tt
all-around (b ∷ bs) (c ∷ cs) h = join (ends_in b) (all_ends (map ends_in bs)) (bounds_in c) (bounds_of cs) (in-around b c h.0) (all-around bs cs h.1)
all-around [] (c ∷ cs) h = elim h [ ]
all-around (b ∷ bs) [] h = elim h [ ]

abbrev AreKnownIn : Option (List Interval) → Option (List Value) → Type 0
AreKnownIn None None = Unit {0}
AreKnownIn (Some is) (Some vs) = EachWithin is vs
AreKnownIn _ _ = ⊥

first-known : (i : Interval) (q : Fraction) → Within i (real q) → (o : Option (List Interval)) (p : Option (List Value)) → AreKnownIn o p → AreKnownIn (first_in i o) (with_first q p)
first-known i q w None None h = tt
first-known i q w (Some is) (Some vs) h = (w, h)
first-known i q w None (Some vs) h = elim h [ ]
first-known i q w (Some is) None h = elim h [ ]

all-known : (bs : List TreeBounding) (cs : List Bounding) → EachFits bs cs → AreKnownIn (all_known_in bs) (all_known cs)
all-known [] [] h = tt
all-known (known_in i ∷ bs) (known q ∷ cs) h = first-known i q h.0 (all_known_in bs) (all_known cs) (all-known bs cs h.1)
all-known (axis_alone n ∷ bs) (constant_of m ∷ cs) h = tt
all-known (bounded es ∷ bs) (bounds ds ∷ cs) h = tt
all-known (bounded es ∷ bs) (other ∷ cs) h = tt
all-known (b ∷ bs) (c ∷ cs) h = elim h.0 [ ]
all-known [] (c ∷ cs) h = elim h [ ]
all-known (b ∷ bs) [] h = elim h [ ]

value-fits : (i : Interval) (v : Value) → Within i v → Within i (real (fraction_of v))
value-fits i v w = record { plain = tt; fraction = w.fraction; inside = w.inside; kept = w.kept }

computed-fits : (op : Operator) → is_choice (Some op) ≡ false → (o : Option (List Interval)) (p : Option (List Value)) → AreKnownIn o p → Fits (computed_in op o) (computed op p)
computed-fits op n None None h = tt
computed-fits op n (Some is) (Some vs) h = value-fits (operator_range (Some op) is) (operation zero_fraction op vs) (operator_within op is vs n h)
computed-fits op n None (Some vs) h = elim h [ ]
computed-fits op n (Some is) None h = elim h [ ]

alone-fits : (op : Operator) → is_choice (Some op) ≡ false → (bs : List TreeBounding) (cs : List Bounding) → EachFits bs cs → Fits (alone_in op bs) (alone op cs)
alone-fits op n [] [] h = computed-fits op n (Some []) (Some []) tt
alone-fits op n (b ∷ []) (c ∷ []) h = h.0
alone-fits op n (b ∷ b' ∷ bs) (c ∷ c' ∷ cs) h = computed-fits op n (all_known_in (b ∷ b' ∷ bs)) (all_known (c ∷ c' ∷ cs)) (all-known (b ∷ b' ∷ bs) (c ∷ c' ∷ cs) h)
alone-fits op n [] (c ∷ cs) h = elim h [ ]
alone-fits op n (b ∷ bs) [] h = elim h [ ]
alone-fits op n (b ∷ []) (c ∷ c' ∷ cs) h = elim h.1 [ ]
alone-fits op n (b ∷ b' ∷ bs) (c ∷ []) h = elim h.1 [ ]

arm-fits : (c : Bounding) → Fits (bounded []) (arm_bounding c)
arm-fits (bounds bs) = tt
arm-fits (known q) = tt
arm-fits (constant_of m) = tt
arm-fits other = tt

choice-fits : (cs : List Bounding) → Fits (bounded []) (choice_bounding cs)
choice-fits [] = tt
choice-fits (c ∷ []) = tt
choice-fits (c ∷ a ∷ []) = tt
choice-fits (c ∷ a ∷ b ∷ rest) = arm-fits a

operation-fits : (op : Operator) (bs : List TreeBounding) (cs : List Bounding) → EachFits bs cs → Fits (operation_in op bs) (bounding_operation op cs)
operation-fits conjunction bs cs h = all-around bs cs h
operation-fits at_most_op bs cs h = chain-around at_most_ends at_most_bounds at-most-around bs cs h
operation-fits below_op bs cs h = chain-around at_most_ends at_most_bounds at-most-around bs cs h
operation-fits at_least_op bs cs h = chain-around at_least_ends at_least_bounds at-least-around bs cs h
operation-fits above_op bs cs h = chain-around at_least_ends at_least_bounds at-least-around bs cs h
operation-fits equality bs cs h = chain-around equal_ends equal_bounds equal-around bs cs h
operation-fits choice bs cs h = choice-fits cs
operation-fits plus bs cs h = alone-fits plus refl bs cs h
operation-fits times bs cs h = alone-fits times refl bs cs h
operation-fits minus bs cs h = computed-fits minus refl (all_known_in bs) (all_known cs) (all-known bs cs h)
operation-fits divide bs cs h = computed-fits divide refl (all_known_in bs) (all_known cs) (all-known bs cs h)
operation-fits op bs cs h = tt

-- ---- names

abbrev NamedFits : TreeBounding → Named Bounding → Type 0
NamedFits b (value c) = Fits b c
NamedFits b (function f) = ⊥

-- the same names
abbrev NamesFit : Axes → Names Bounding → Type 0
NamesFit [] [] = Unit {0}
NamesFit (a ∷ axes) (n ∷ names) = (a.0 ≡ n.0) × NamedFits a.1 n.1 × NamesFit axes names
NamesFit _ _ = ⊥

abbrev FoundFits : Option TreeBounding → Option (Named Bounding) → Type 0
FoundFits None None = Unit {0}
FoundFits (Some b) (Some n) = NamedFits b n
FoundFits _ _ = ⊥

found-step : (t : Bool) (b : TreeBounding) (n : Named Bounding) (x : Option TreeBounding) (y : Option (Named Bounding)) → NamedFits b n → FoundFits x y → FoundFits (cond t (Some b) x) (cond t (Some n) y)
found-step true b n x y h k = h
found-step false b n x y h k = k

found-fits : (name : List ℕ) (axes : Axes) (names : Names Bounding) → NamesFit axes names → FoundFits (found name axes) (found name names)
found-fits name [] [] h = tt
found-fits name (a ∷ axes) (n ∷ names) h = rw (← h.0) (found-step (bytes_eq name a.0) a.1 n.1 (found name axes) (found name names) h.1 (found-fits name axes names h.2))
found-fits name [] (n ∷ names) h = elim h [ ]
found-fits name (a ∷ axes) [] h = elim h [ ]

value-fits-named : (at : Place) (name : List ℕ) (x : Option TreeBounding) (y : Option (Named Bounding)) → FoundFits x y → Fits (or_no_end x) (value_named bounding at name y)
value-fits-named at name None None h = tt
value-fits-named at name (Some b) (Some (value c)) h = h
value-fits-named at name (Some b) (Some (function f)) h = elim h [ ]
value-fits-named at name None (Some n) h = elim h [ ]
value-fits-named at name (Some b) None h = elim h [ ]

bare-fits : (at : Place) (name : List ℕ) (y : Option (Named Bounding)) → Fits (bounded []) (bare_named bounding at name y)
bare-fits at name None = tt
bare-fits at name (Some n) = tt

call-fits : (at : Place) (name : List ℕ) (x : Option TreeBounding) (y : Option (Named Bounding)) (cs : List Bounding) → FoundFits x y → Fits (bounded []) (call_named bounding at name y cs)
call-fits at name None None cs h = tt
call-fits at name (Some b) (Some (value c)) cs h = tt
call-fits at name (Some b) (Some (function f)) cs h = elim h [ ]
call-fits at name None (Some n) cs h = elim h [ ]
call-fits at name (Some b) None cs h = elim h [ ]

-- ---- trees

module _ (axes : Axes) (names : Names Bounding) (same : NamesFit axes names) where
  symbol-fits : (at : Place) (name : List ℕ) (op : Option Operator) → Fits (symbol_in op (found name axes)) (name_meaning bounding names at name op)
  symbol-fits at name (Some op) = operation-fits op [] [] tt
  symbol-fits at name None = value-fits-named at name (found name axes) (found name names) (found-fits name axes names same)

  leaf-fits : (at : Place) (l : Leaf) → Fits (leaf_in axes l) (leaf_meaning bounding names at l)
  leaf-fits at (numeral digits) = literal_within digits []
  leaf-fits at (decimal digits decimals) = literal_within digits decimals
  leaf-fits at (symbol name) = symbol-fits at name (found name operators)
  leaf-fits at _ = tt

  applied-fits : (at : Place) (name : List ℕ) (op : Option Operator) (bs : List TreeBounding) (cs : List Bounding) → EachFits bs cs → Fits (applied_in op bs) (application bounding names at name op cs)
  applied-fits at name (Some op) [] [] h = tt
  applied-fits at name (Some op) (b ∷ bs) (c ∷ cs) h = operation-fits op (b ∷ bs) (c ∷ cs) h
  applied-fits at name None [] [] h = bare-fits at name (found name names)
  applied-fits at name None (b ∷ bs) (c ∷ cs) h = call-fits at name (found name axes) (found name names) (c ∷ cs) (found-fits name axes names same)
  applied-fits at name op [] (c ∷ cs) h = elim h [ ]
  applied-fits at name op (b ∷ bs) [] h = elim h [ ]

  mutual
    tree-fits : (t : Tree) → Fits (tree_in axes t) (tree_meaning bounding no_root names t)
    tree-fits (atomic at l) = leaf-fits at l
    tree-fits (applied at name ts) = applied-fits at name (found name operators) (trees_in axes ts) (trees_meaning bounding no_root names ts) (trees-fit ts)
    tree-fits (root at t) = tt
    tree-fits (quotient at t d) =
        operation-fits divide (tree_in axes t ∷ tree_in axes d ∷ []) (tree_meaning bounding no_root names t ∷ tree_meaning bounding no_root names d ∷ []) (tree-fits t, (tree-fits d, tt))
    tree-fits (formless at) = tt

    trees-fit : (ts : Trees) → EachFits (trees_in axes ts) (trees_meaning bounding no_root names ts)
    trees-fit no_trees = tt
    trees-fit (more_trees t ts) = (tree-fits t, trees-fit ts)

  one-claim : (at : Place) (goal : Bool) (b : TreeBounding) (c : Bounding) → Fits b c → AreAround (cond goal [] (ends_in b)) (bounds_in (cond goal (goal_means bounding at c) c))
  one-claim at true b c h = tt
  one-claim at false b c h = in-around b c h

  claims-around : (claims : List Asserted) → AreAround (all_ends (map (claim_ends axes) claims)) (bounds_of (map (assertion_means bounding bounding_transparent no_root names) claims))
  claims-around [] = tt
  claims-around (a ∷ claims) = join (claim_ends axes a) (all_ends (map (claim_ends axes) claims))
      (bounds_in (assertion_means bounding bounding_transparent no_root names a)) (bounds_of (map (assertion_means bounding bounding_transparent no_root names) claims))
      (one-claim a.at a.is_goal (tree_in axes a.tree) (tree_meaning bounding no_root names a.tree) (tree-fits a.tree)) (claims-around claims)

-- ---- scripts

constant-fits : (axis : ℕ) (s : Sort) → Fits (constant_axis axis s) (constant_bounding axis s)
constant-fits axis real_sort = refl
constant-fits axis bool_sort = tt

axes-fit : (axis : ℕ) (axes : Axes) (names : Names Bounding) → NamesFit axes names → (constants : List Constant) →
    NamesFit (axes_from axis axes constants) (named names constants (numbered constant_bounding axis (map sort_of_constant constants)))
axes-fit axis axes names h [] = h
axes-fit axis axes names h (c ∷ constants) =
    axes-fit (suc axis) ((c.name, constant_axis axis c.sort) ∷ axes) ((c.name, value (constant_bounding axis c.sort)) ∷ names) (refl, constant-fits axis c.sort, h) constants

module _ (script : List Command) (distinct : IsTrue (are_distinct (constants_of script))) where
  abbrev Own : List Bounding
  Own = numbered constant_bounding 0 (map sort_of_constant (constants_of script))

  abbrev OwnNames : Names Bounding
  OwnNames = named [] (constants_of script) Own

  -- each bound of the trees is one of the script's, and no tighter
  script-around : AreAround (script_ends script) (script_bounds script)
  script-around = subst (λ (bs : List Bounding). AreAround (script_ends script) (bounds_of bs))
      (sym (claims_mean bounding bounding_transparent no_root OwnNames [] theory_names (theory_as OwnNames) Own script
      (distinct_known [] (constants_of script) Own distinct (as_many 0 (constants_of script)))))
      (claims-around (axes_from 0 [] (constants_of script)) OwnNames (axes-fit 0 [] [] tt (constants_of script)) (asserted script))

-- ---- ranges

side-is : (s s' : Side) (t : Bool) (e : Ext) (q : Fraction) → is_side s s' && t ≡ true → IsOuter s' e q → IsOuter s e q
side-is lower lower t e q h k = k
side-is upper upper t e q h k = k
side-is lower upper t e q h k = absurd (true≢false (sym h))
side-is upper lower t e q h k = absurd (true≢false (sym h))

on-step : (s : Side) (e : Ext) (q : Fraction) (es : List Ext) (qs : List Fraction) (x y : Bool) → x ≡ y → (y ≡ true → IsOuter s e q) → AreOuter s es qs →
    AreOuter s (cond x (e ∷ []) [] ++ es) (cond y (q ∷ []) [] ++ qs)
on-step s e q es qs true true h f k = (f refl, k)
on-step s e q es qs false false h f k = k
on-step s e q es qs true false h f k = absurd (true≢false h)
on-step s e q es qs false true h f k = absurd (true≢false (sym h))

ends-outer : (s : Side) (axis : ℕ) (es : List EndBound) (bs : List Bound) → AreAround es bs → AreOuter s (ends_on s axis es) (values_on s axis bs)
ends-outer s axis [] [] h = tt
ends-outer s axis (e ∷ es) (b ∷ bs) h =
    on-step s e.end b.value (ends_on s axis es) (values_on s axis bs) (is_side s e.side && nat_eq axis e.axis) (is_side s b.side && nat_eq axis b.axis)
    (ap₂ (λ (x : Side) (n : ℕ). is_side s x && nat_eq axis n) h.0.side h.0.axis)
    (λ k. side-is s b.side (nat_eq axis b.axis) e.end b.value k h.0.outer) (ends-outer s axis es bs h.1)
ends-outer s axis [] (b ∷ bs) h = elim h [ ]
ends-outer s axis (e ∷ es) [] h = elim h [ ]

greater-outer : (e f : Ext) (p r : Fraction) (t u : Bool) → at_most p r ≡ u → IsOuter lower e p → IsOuter lower f r → IsOuter lower (cond t f e) (cond u r p)
greater-outer e f p r true true g h k = k
greater-outer e f p r false false g h k = h
greater-outer e f p r true false g h k = record { kept = k.kept; fraction = h.fraction; outside = end_trans (end_of f) (end_at r) (end_at p) k.fraction k.outside (other_way (end_at p) (end_at r) g) }
greater-outer e f p r false true g h k = record { kept = h.kept; fraction = k.fraction; outside = end_trans (end_of e) (end_at p) (end_at r) h.fraction h.outside g }

lesser-outer : (e f : Ext) (p r : Fraction) (t u : Bool) → at_most r p ≡ u → IsOuter upper e p → IsOuter upper f r → IsOuter upper (cond t e f) (cond u r p)
lesser-outer e f p r false true g h k = k
lesser-outer e f p r true false g h k = h
lesser-outer e f p r true true g h k = record { kept = h.kept; fraction = k.fraction; outside = end_trans (end_at r) (end_at p) (end_of e) h.fraction g h.outside }
lesser-outer e f p r false false g h k = record { kept = k.kept; fraction = h.fraction; outside = end_trans (end_at p) (end_at r) (end_of f) k.fraction (other_way (end_at r) (end_at p) g) k.outside }

greatest-outer : (e : Ext) (p : Fraction) (es : List Ext) (qs : List Fraction) → IsOuter lower e p → AreOuter lower es qs → IsOuter lower (from_left greater_ext e es) (greatest p qs)
greatest-outer e p [] [] h k = h
greatest-outer e p (f ∷ es) (r ∷ qs) h k =
    greatest-outer (greater_ext e f) (cond (at_most p r) r p) es qs (greater-outer e f p r (ext_at_most e f) (at_most p r) refl h k.0) k.1
greatest-outer e p [] (r ∷ qs) h k = elim k [ ]
greatest-outer e p (f ∷ es) [] h k = elim k [ ]

least-outer : (e : Ext) (p : Fraction) (es : List Ext) (qs : List Fraction) → IsOuter upper e p → AreOuter upper es qs → IsOuter upper (from_left lesser_ext e es) (least p qs)
least-outer e p [] [] h k = h
least-outer e p (f ∷ es) (r ∷ qs) h k =
    least-outer (lesser_ext e f) (cond (at_most r p) r p) es qs (lesser-outer e f p r (ext_at_most e f) (at_most r p) refl h k.0) k.1
least-outer e p [] (r ∷ qs) h k = elim k [ ]
least-outer e p (f ∷ es) [] h k = elim k [ ]

low-within : (d : Option Fraction) → IfFraction d → (es : List Ext) (qs : List Fraction) → AreOuter lower es qs → (v : Fraction) → IsFraction v → IfBelow (tightest_end greatest d qs) v →
    IsOuter lower (first_and_rest greater_ext (low_end d) es) v
low-within None f [] [] h v g k = elim k [ ]
low-within (Some q) f [] [] h v g k = record { kept = down_on_grid q f; fraction = g; outside = end_trans (end_of (down q)) (end_at q) (end_at v) f (down_side q f) k }
low-within d f (e ∷ es) (p ∷ qs) h v g k =
    let o = greatest-outer e p es qs h.0 h.1 in
    record { kept = o.kept; fraction = g; outside = end_trans (end_of (from_left greater_ext e es)) (end_at (greatest p qs)) (end_at v) o.fraction o.outside k }
low-within d f [] (p ∷ qs) h v g k = elim h [ ]
low-within d f (e ∷ es) [] h v g k = elim h [ ]

high-within : (d : Option Fraction) → IfFraction d → (es : List Ext) (qs : List Fraction) → AreOuter upper es qs → (v : Fraction) → IsFraction v → IfAbove (tightest_end least d qs) v →
    IsOuter upper (first_and_rest lesser_ext (high_end d) es) v
high-within None f [] [] h v g k = elim k [ ]
high-within (Some q) f [] [] h v g k = record { kept = up_on_grid q f; fraction = g; outside = end_trans (end_at v) (end_at q) (end_of (up q)) f k (up_side q f) }
high-within d f (e ∷ es) (p ∷ qs) h v g k =
    let o = least-outer e p es qs h.0 h.1 in
    record { kept = o.kept; fraction = g; outside = end_trans (end_at v) (end_at (least p qs)) (end_of (from_left lesser_ext e es)) o.fraction k o.outside }
high-within d f [] (p ∷ qs) h v g k = elim h [ ]
high-within d f (e ∷ es) [] h v g k = elim h [ ]

low-default : (bound : Option ℕ) → IfFraction (default_low bound)
low-default None = tt
low-default (Some n) = omega arith

high-default : (bound : Option ℕ) → IfFraction (default_high bound)
high-default None = tt
high-default (Some n) = omega arith

-- a fraction that is outside neither end lies between them, and they do not cross
between-within : (l h : Ext) (q : Fraction) → IsOuter lower l q → IsOuter upper h q → Within (between_or_nothing l h) (real q)
between-within l h q low high = subst (λ (t : Bool). Within (cond t (between l h) nothing) (real q))
    (sym (end_trans (end_of l) (end_at q) (end_of h) low.fraction low.outside high.outside))
    (record {
      plain = tt;
      fraction = low.fraction;
      inside = both_pass (end_at_most (end_of l) (end_at q)) (end_at_most (end_at q) (end_of h)) low.outside high.outside;
      kept = (low.kept, high.kept);
    })

module _ (bound : Option ℕ) (script : List Command) (distinct : IsTrue (are_distinct (constants_of script))) where
  abbrev Ends : List EndBound
  Ends = script_ends script

  coordinate-within : (axis : ℕ) (s : Sort) (c : Coordinate) → InDeclared (declared_interval bound script axis) s c → Within (range_of bound Ends axis s) (coordinate_value c)
  coordinate-within axis real_sort (at_fraction q) k =
      between-within (first_and_rest greater_ext (low_end (default_low bound)) (ends_on lower axis Ends)) (first_and_rest lesser_ext (high_end (default_high bound)) (ends_on upper axis Ends)) q
      (low-within (default_low bound) (low-default bound) (ends_on lower axis Ends) (values_on lower axis (script_bounds script))
      (ends-outer lower axis Ends (script_bounds script) (script-around script distinct)) q k.0 k.1)
      (high-within (default_high bound) (high-default bound) (ends_on upper axis Ends) (values_on upper axis (script_bounds script))
      (ends-outer upper axis Ends (script_bounds script) (script-around script distinct)) q k.0 k.2)
  coordinate-within axis bool_sort (at_bool c) k = truth_anywhere _
  coordinate-within axis real_sort (at_bool c) k = elim k [ ]
  coordinate-within axis bool_sort (at_fraction q) k = elim k [ ]

  -- a range in which a value lies is not empty
  some-lies : (i : Interval) (v : Value) → Within i v → is_nothing i ≡ false
  some-lies nothing v w = absurd (true≢false (sym w.inside))
  some-lies (between l h) v w = refl

  none-empty : (x y : Bool) → x ≡ false → y ≡ false → x || y ≡ false
  none-empty false y h k = k
  none-empty true y h k = absurd (true≢false h)

  not-empty : (axis : ℕ) (constants : List Constant) (point : List Coordinate) → InBox (declared_interval bound script) axis (map sort_of_constant constants) point →
      is_empty_from (range_of bound Ends) axis constants ≡ false
  not-empty axis [] point k = refl
  not-empty axis (c ∷ constants) (x ∷ point) k =
      none-empty (is_nothing (range_of bound Ends axis c.sort)) (is_empty_from (range_of bound Ends) (suc axis) constants)
      (some-lies (range_of bound Ends axis c.sort) (coordinate_value x) (coordinate-within axis c.sort x k.0)) (not-empty (suc axis) constants point k.1)
  not-empty axis (c ∷ constants) [] k = elim k [ ]

  names-within : (e : Bool) → e ≡ false → (axis : ℕ) (ranges : Ranges) (names : Names Value) → InRanges ranges names → (constants : List Constant) (point : List Coordinate) →
      InBox (declared_interval bound script) axis (map sort_of_constant constants) point → InRanges (ranges_from (in_box e (range_of bound Ends)) axis ranges constants) (constants_at names constants point)
  names-within e is axis ranges names h [] [] k = h
  names-within e is axis ranges names h (c ∷ constants) (x ∷ point) k =
      names-within e is (suc axis) ((c.name, in_box e (range_of bound Ends) axis c.sort) ∷ ranges) ((c.name, value (coordinate_value x)) ∷ names)
      (refl, subst (λ (t : Bool). Within (cond t nothing (range_of bound Ends axis c.sort)) (coordinate_value x)) (sym is) (coordinate-within axis c.sort x k.0), h) constants point k.1
  names-within e is axis ranges names h [] (x ∷ point) k = elim k [ ]
  names-within e is axis ranges names h (c ∷ constants) [] k = elim k [ ]

  -- at a point of the declared box each constant lies in its range
  pub constants_in_ranges : (point : List Coordinate) → InDeclaredBox bound script point → InRanges (declared_ranges bound script) (constants_at [] (constants_of script) point)
  constants_in_ranges point h =
      names-within (is_empty_from (range_of bound Ends) 0 (constants_of script)) (not-empty 0 (constants_of script) point h) 0 [] [] tt (constants_of script) point h

  -- and a tree's value lies in the tree's interval, where f gives the roots in it and no `ite` stands in it
  pub enclosed_holds : (point : List Coordinate) → InDeclaredBox bound script point → (f : Fraction → Fraction) (t : Tree) → holds_choice t ≡ false →
      RootsHold f (constants_at [] (constants_of script) point) t → Within (enclosed (declared_ranges bound script) t) (tree_value f (constants_at [] (constants_of script) point) t)
  enclosed_holds point h f t n r = tree_within (declared_ranges bound script) (constants_at [] (constants_of script) point) f (constants_in_ranges point h) t n r
