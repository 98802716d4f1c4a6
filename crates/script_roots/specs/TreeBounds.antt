-- The ranges of the declared constants, by intervals: from the bounds that the assertions' trees give.
use Rattle.std.specs.Prelude.{ℕ, suc, List, [], ◌∷◌, ◌++◌, map, Bool, false, cond, nat_eq, ◌&&◌, ◌||◌, Option, Some, None}
use Rattle.dyadic.specs.Fraction.{Fraction}
use Rattle.dyadic.specs.Point.{Sort, real_sort, bool_sort}
use Rattle.dyadic.specs.Rounding.{Ext, below_all, above_all, ext_at_most, down, up}
use Rattle.dyadic.specs.End.{lesser_ext, greater_ext}
use Rattle.interval_model.specs.Interval.{Interval, nothing, between, everything, is_nothing}
use Rattle.script_model.specs.Sexp.{Leaf, numeral, decimal, symbol}
use Rattle.script_model.specs.Reading.{Operator, conjunction, equality, minus, plus, times, divide, at_most_op, below_op, at_least_op, above_op, operators, found}
use Rattle.script_model.specs.Meaning.{neighbours, first_and_rest}
use Rattle.script_model.specs.Script.{Command, Constant, constants_of}
use Rattle.script_model.specs.Declared.{Side, lower, upper, is_side, default_low, default_high}
use Rattle.script_roots.specs.Tree.{Tree, atomic, applied, root, quotient, formless, Trees, no_trees, more_trees}
use Rattle.script_roots.specs.Ranges.{Ranges, operator_range, leaf_range}
use Rattle.script_roots.specs.Fresh.{Asserted, asserted}

-- ---- what a tree is to the ranges

-- the constant of this number is at least, or at most, a value of which this is an outer end
pub record EndBound : Type 0 where
  pub axis : ℕ
  pub side : Side
  pub end : Ext

-- as `Bounding` of an expression, with an interval for a value
pub data TreeBounding : Type 0 where
  -- literals and arithmetic alone, with an interval in which the value lies: `enclosed` of the tree
  known_in : Interval → TreeBounding
  -- a Real constant alone
  axis_alone : ℕ → TreeBounding
  -- another tree: the bounds that are its conjuncts
  bounded : List EndBound → TreeBounding

-- what each declared constant is, the nearest first
abbrev pub Axes : Type 0
Axes = List (List ℕ × TreeBounding)

abbrev pub constant_axis : ℕ → Sort → TreeBounding
constant_axis axis real_sort = axis_alone axis
constant_axis axis bool_sort = bounded []

-- from this axis on
abbrev pub axes_from : ℕ → Axes → List Constant → Axes
axes_from axis axes [] = axes
axes_from axis axes (c ∷ constants) = axes_from (suc axis) ((c.name, constant_axis axis c.sort) ∷ axes) constants

-- ---- comparisons

abbrev pub end_on : Side → Interval → Ext
end_on lower (between l h) = l
end_on upper (between l h) = h
end_on lower nothing = below_all
end_on upper nothing = above_all

abbrev pub one_end : Side → ℕ → Interval → List EndBound
one_end s axis i = record { axis = axis; side = s; end = end_on s i } ∷ []

-- what `a <= b` gives
abbrev pub at_most_ends : TreeBounding → TreeBounding → List EndBound
at_most_ends (axis_alone axis) (known_in i) = one_end upper axis i
at_most_ends (known_in i) (axis_alone axis) = one_end lower axis i
at_most_ends _ _ = []

abbrev pub at_least_ends : TreeBounding → TreeBounding → List EndBound
at_least_ends a b = at_most_ends b a

abbrev pub equal_ends : TreeBounding → TreeBounding → List EndBound
equal_ends a b = at_most_ends a b ++ at_most_ends b a

abbrev pub all_ends : List (List EndBound) → List EndBound
all_ends [] = []
all_ends (es ∷ rest) = es ++ all_ends rest

abbrev pub ends_in : TreeBounding → List EndBound
ends_in (bounded es) = es
ends_in _ = []

-- ---- operators

abbrev pub first_in : Interval → Option (List Interval) → Option (List Interval)
first_in i None = None
first_in i (Some is) = Some (i ∷ is)

-- the intervals, where all are known
abbrev pub all_known_in : List TreeBounding → Option (List Interval)
all_known_in [] = Some []
all_known_in (known_in i ∷ rest) = first_in i (all_known_in rest)
all_known_in (_ ∷ rest) = None

abbrev pub computed_in : Operator → Option (List Interval) → TreeBounding
computed_in op None = bounded []
computed_in op (Some is) = known_in (operator_range (Some op) is)

-- `+` and `*` of one argument are that argument
abbrev pub alone_in : Operator → List TreeBounding → TreeBounding
alone_in op (b ∷ []) = b
alone_in op bs = computed_in op (all_known_in bs)

-- bounds come from comparisons under conjunctions alone
abbrev pub operation_in : Operator → List TreeBounding → TreeBounding
operation_in conjunction bs = bounded (all_ends (map ends_in bs))
operation_in at_most_op bs = bounded (all_ends (neighbours at_most_ends bs))
operation_in below_op bs = bounded (all_ends (neighbours at_most_ends bs))
operation_in at_least_op bs = bounded (all_ends (neighbours at_least_ends bs))
operation_in above_op bs = bounded (all_ends (neighbours at_least_ends bs))
operation_in equality bs = bounded (all_ends (neighbours equal_ends bs))
operation_in plus bs = alone_in plus bs
operation_in times bs = alone_in times bs
operation_in minus bs = computed_in minus (all_known_in bs)
operation_in divide bs = computed_in divide (all_known_in bs)
operation_in op bs = bounded []

-- ---- trees

abbrev pub or_no_end : Option TreeBounding → TreeBounding
or_no_end None = bounded []
or_no_end (Some b) = b

abbrev pub symbol_in : Option Operator → Option TreeBounding → TreeBounding
symbol_in (Some op) b = operation_in op []
symbol_in None b = or_no_end b

abbrev pub leaf_in : Axes → Leaf → TreeBounding
leaf_in axes (numeral digits) = known_in (leaf_range [] (numeral digits))
leaf_in axes (decimal digits decimals) = known_in (leaf_range [] (decimal digits decimals))
leaf_in axes (symbol name) = symbol_in (found name operators) (found name axes)
leaf_in axes l = bounded []

abbrev pub applied_in : Option Operator → List TreeBounding → TreeBounding
applied_in (Some op) (b ∷ bs) = operation_in op (b ∷ bs)
applied_in op bs = bounded []

abbrev mutual
  pub tree_in : Axes → Tree → TreeBounding
  tree_in axes (atomic at l) = leaf_in axes l
  tree_in axes (applied at name ts) = applied_in (found name operators) (trees_in axes ts)
  tree_in axes (root at t) = bounded []
  tree_in axes (quotient at t d) = operation_in divide (tree_in axes t ∷ tree_in axes d ∷ [])
  tree_in axes (formless at) = bounded []

  pub trees_in : Axes → Trees → List TreeBounding
  trees_in axes no_trees = []
  trees_in axes (more_trees t ts) = tree_in axes t ∷ trees_in axes ts

-- ---- scripts

-- a goal gives none
abbrev pub claim_ends : Axes → Asserted → List EndBound
claim_ends axes a = cond a.is_goal [] (ends_in (tree_in axes a.tree))

-- All bounds that the trees of the script's assertions give. They are those of the declared box one for one: were one left out, the words' bound could
-- stand in its place, and be tighter.
abbrev pub script_ends : List Command → List EndBound
script_ends script = all_ends (map (claim_ends (axes_from 0 [] (constants_of script))) (asserted script))

-- the bounds of an axis on a side
abbrev pub ends_on : Side → ℕ → List EndBound → List Ext
ends_on s axis [] = []
ends_on s axis (e ∷ rest) = cond (is_side s e.side && nat_eq axis e.axis) (e.end ∷ []) [] ++ ends_on s axis rest

abbrev pub low_end : Option Fraction → Ext
low_end None = below_all
low_end (Some q) = down q

abbrev pub high_end : Option Fraction → Ext
high_end None = above_all
high_end (Some q) = up q

-- what lies between two ends: nothing where they cross
abbrev pub between_or_nothing : Ext → Ext → Interval
between_or_nothing l h = cond (ext_at_most l h) (between l h) nothing

-- from the greatest lower end to the least upper one; where there is none on a side, that of the words
abbrev pub range_of : Option ℕ → List EndBound → ℕ → Sort → Interval
range_of bound ends axis real_sort = between_or_nothing
    (first_and_rest greater_ext (low_end (default_low bound)) (ends_on lower axis ends))
    (first_and_rest lesser_ext (high_end (default_high bound)) (ends_on upper axis ends))
range_of bound ends axis bool_sort = everything

-- from this axis on, the nearest first
abbrev pub ranges_from : (ℕ → Sort → Interval) → ℕ → Ranges → List Constant → Ranges
ranges_from range axis ranges [] = ranges
ranges_from range axis ranges (c ∷ constants) = ranges_from range (suc axis) ((c.name, range axis c.sort) ∷ ranges) constants

-- a constant's range is empty, from this axis on
abbrev pub is_empty_from : (ℕ → Sort → Interval) → ℕ → List Constant → Bool
is_empty_from range axis [] = false
is_empty_from range axis (c ∷ constants) = is_nothing (range axis c.sort) || is_empty_from range (suc axis) constants

-- the range on an axis of a box that is empty or not: each of an empty box is empty
abbrev pub in_box : Bool → (ℕ → Sort → Interval) → ℕ → Sort → Interval
in_box empty range axis sort = cond empty nothing (range axis sort)

abbrev pub box_ranges : (ℕ → Sort → Interval) → List Constant → Ranges
box_ranges range constants = ranges_from (in_box (is_empty_from range 0 constants) range) 0 [] constants

-- The ranges of a script's constants hold its declared box. A root, and what is said of it, gives no bound.
abbrev pub declared_ranges : Option ℕ → List Command → Ranges
declared_ranges bound script = box_ranges (range_of bound (script_ends script)) (constants_of script)
