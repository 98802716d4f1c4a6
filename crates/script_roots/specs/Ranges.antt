-- In what a tree's value lies where constants lie in ranges, and the ends of the constants that stand for roots and quotients.
use Rattle.std.specs.Prelude.{ℕ, ◌*◌, ◌^◌, List, [], ◌∷◌, Bool, cond, ◌||◌, Option, Some, None, pos}
use Rattle.dyadic.specs.End.{end_quotient}
use Rattle.dyadic.specs.Rounding.{Ext, below_all, finite, above_all, down, up, ceiling, not_negative, root_up}
use Rattle.interval_model.specs.Interval.{Interval, nothing, between, everything, interval_sum, interval_negated, interval_product, of_four, is_nothing, misses_nought}
use Rattle.script_model.specs.Sexp.{Leaf, numeral, decimal, symbol}
use Rattle.script_model.specs.Reading.{Operator, plus, minus, times, divide, operators, found, literal_value}
use Rattle.script_model.specs.Meaning.{from_left, first_and_rest}
use Rattle.script_roots.specs.Tree.{Tree, atomic, applied, root, quotient, formless, Trees, no_trees, more_trees}

-- in what declared constants lie
abbrev pub Ranges : Type 0
Ranges = List (List ℕ × Interval)

abbrev pub or_everything : Option Interval → Interval
or_everything None = everything
or_everything (Some i) = i

-- ---- roots

-- the least whole number that is neither below e nor below 0, where there is one
abbrev pub whole_above : Ext → Option ℕ
whole_above below_all = Some 0
whole_above (finite d) = Some (ceiling (not_negative d.units) (2 ^ 120))
whole_above above_all = None

abbrev pub root_above : Ext → Ext
root_above (finite d) = root_up d
root_above e = e

-- a whole number that no root of a value in the interval is above, where there is one
abbrev pub root_bound : Interval → Option ℕ
root_bound nothing = Some 0
root_bound (between l h) = whole_above (root_above h)

abbrev pub whole_ext : ℕ → Ext
whole_ext n = finite (record { units = pos (n * 2 ^ 120) })

abbrev pub up_to_whole : Option ℕ → Interval
up_to_whole None = between (whole_ext 0) above_all
up_to_whole (Some n) = between (whole_ext 0) (whole_ext n)

abbrev pub root_range : Interval → Interval
root_range i = up_to_whole (root_bound i)

-- ---- quotients

-- 0 does not lie in it
abbrev pub avoids_nought : Interval → Bool
avoids_nought i = is_nothing i || misses_nought i

abbrev pub quotient_range : Interval → Interval → Interval
quotient_range i j = cond (avoids_nought j) (of_four end_quotient i j) everything

-- ---- operators

abbrev pub difference_range : Interval → Interval → Interval
difference_range i j = interval_sum i (interval_negated j)

abbrev pub minus_range : List Interval → Interval
minus_range [] = everything
minus_range (i ∷ []) = interval_negated i
minus_range (i ∷ is) = from_left difference_range i is

abbrev pub operator_range : Option Operator → List Interval → Interval
operator_range (Some plus) is = first_and_rest interval_sum everything is
operator_range (Some minus) is = minus_range is
operator_range (Some times) is = first_and_rest interval_product everything is
operator_range (Some divide) is = first_and_rest quotient_range everything is
operator_range op is = everything

abbrev pub symbol_range : Option Operator → Option Interval → Interval
symbol_range (Some op) i = everything
symbol_range None i = or_everything i

abbrev pub leaf_range : Ranges → Leaf → Interval
leaf_range ranges (numeral digits) = between (down (literal_value digits [])) (up (literal_value digits []))
leaf_range ranges (decimal digits decimals) = between (down (literal_value digits decimals)) (up (literal_value digits decimals))
leaf_range ranges (symbol name) = symbol_range (found name operators) (found name ranges)
leaf_range ranges l = everything

abbrev mutual
  -- an interval in which the tree's value lies wherever the constants lie in theirs
  pub enclosed : Ranges → Tree → Interval
  enclosed ranges (atomic at l) = leaf_range ranges l
  enclosed ranges (applied at name ts) = operator_range (found name operators) (all_enclosed ranges ts)
  enclosed ranges (root at t) = root_range (enclosed ranges t)
  enclosed ranges (quotient at t d) = quotient_range (enclosed ranges t) (enclosed ranges d)
  enclosed ranges (formless at) = everything

  pub all_enclosed : Ranges → Trees → List Interval
  all_enclosed ranges no_trees = []
  all_enclosed ranges (more_trees t ts) = enclosed ranges t ∷ all_enclosed ranges ts
