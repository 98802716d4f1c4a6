-- The script in which constants stand for roots and quotients.
use Rattle.std.specs.Prelude.{ℕ, ◌/◌, ◌^◌, List, [], ◌∷◌, ◌++◌, map, cond, Option, Some, None, ℤ, pos, negsuc, suc, codes}
use Rattle.std.specs.Fmt.{decimal as digits_of}
use Rattle.dyadic.specs.Point.{real_sort}
use Rattle.dyadic.specs.Rounding.{Ext, finite, ceiling}
use Rattle.interval_model.specs.Interval.{Interval, nothing, between}
use Rattle.script_model.specs.Sexp.{Place, numeral, symbol, Sexp, leaf, group, Sexps, none, more}
use Rattle.script_model.specs.Script.{Command, declare, claim, minimize}
use Rattle.script_roots.specs.Tree.{Tree, atomic, applied, root, quotient, formless, Trees, no_trees, more_trees}
use Rattle.script_roots.specs.Ranges.{Ranges, enclosed, root_bound, quotient_range}
use Rattle.script_roots.specs.Fresh.{Asserted, asserted, Table, table_of, name_for}
use Rattle.script_roots.specs.TreeBounds.{declared_ranges}

-- ---- expressions

abbrev pub two_of : Place → List ℕ → Sexp → Sexp → Sexp
two_of at name a b = group at (more (leaf at (symbol name)) (more a (more b none)))

abbrev pub number_at : Place → ℕ → Sexp
number_at at n = leaf at (numeral (digits_of n))

-- The constant where a root or quotient stood. It is multiplied by 1, so that what is compared with it gives it no bound.
abbrev pub constant_in_place : Place → List ℕ → Sexp
constant_in_place at name = two_of at (codes "*") (leaf at (symbol name)) (number_at at 1)

abbrev pub constant_or : Place → Option (List ℕ) → Sexp → Sexp
constant_or at (Some name) e = constant_in_place at name
constant_or at None e = e

abbrev mutual
  -- a tree as an expression, where constants stand for the trees of the table
  pub spelled : Table → Tree → Sexp
  spelled table (atomic at l) = leaf at l
  spelled table (applied at name ts) = group at (more (leaf at (symbol name)) (all_spelled table ts))
  spelled table (root at t) = constant_or at (name_for table (root at t)) (group at none)
  spelled table (quotient at t d) = constant_or at (name_for table (quotient at t d)) (two_of at (codes "/") (spelled table t) (spelled table d))
  spelled table (formless at) = group at none

  pub all_spelled : Table → Trees → Sexps
  all_spelled table no_trees = none
  all_spelled table (more_trees t ts) = more (spelled table t) (all_spelled table ts)

-- ---- what is asserted of a constant

-- so many 2^20ths
abbrev pub parts_at : Place → ℕ → Sexp
parts_at at n = two_of at (codes "/") (number_at at n) (number_at at (2 ^ 20))

abbrev pub negative_parts_at : Place → ℕ → Sexp
negative_parts_at at n = group at (more (leaf at (symbol (codes "-"))) (more (parts_at at n) none))

-- rounded down to 2^20ths, and up; 2^62 + 1, which is too wide a bound, where there is no end
abbrev pub too_wide : ℕ
too_wide = suc (2 ^ 62)

abbrev pub parts_below : Place → ℤ → Sexp
parts_below at (pos n) = parts_at at (n / 2 ^ 100)
parts_below at (negsuc n) = negative_parts_at at (ceiling (suc n) (2 ^ 100))

abbrev pub parts_above : Place → ℤ → Sexp
parts_above at (pos n) = parts_at at (ceiling n (2 ^ 100))
parts_above at (negsuc n) = negative_parts_at at (suc n / 2 ^ 100)

abbrev pub low_at : Place → Ext → Sexp
low_at at (finite d) = parts_below at d.units
low_at at _ = group at (more (leaf at (symbol (codes "-"))) (more (number_at at too_wide) none))

abbrev pub high_at : Place → Ext → Sexp
high_at at (finite d) = parts_above at d.units
high_at at _ = number_at at too_wide

-- It is between the ends of the interval. One that is empty is so in a declared box that is empty, where 0 serves as any number.
abbrev pub between_ends : Place → Sexp → Interval → List Command
between_ends at c nothing = claim at (two_of at (codes ">=") c (number_at at 0)) ∷ claim at (two_of at (codes "<=") c (number_at at 0)) ∷ []
between_ends at c (between l h) = claim at (two_of at (codes ">=") c (low_at at l)) ∷ claim at (two_of at (codes "<=") c (high_at at h)) ∷ []

abbrev pub whole_or_too_wide : Place → Option ℕ → Sexp
whole_or_too_wide at (Some n) = number_at at n
whole_or_too_wide at None = number_at at too_wide

abbrev pub is_product : Place → Sexp → Sexp → Sexp → Command
is_product at a b c = claim at (two_of at (codes "=") (two_of at (codes "*") a b) c)

-- A root is from 0 to a bound, and its square is the argument. A quotient is in its interval, and times the divisor it is the dividend.
abbrev pub claims_of : Ranges → Table → List ℕ → Tree → List Command
claims_of ranges table name (root at t) = let c = leaf at (symbol name) in
    claim at (two_of at (codes ">=") c (number_at at 0)) ∷ claim at (two_of at (codes "<=") c (whole_or_too_wide at (root_bound (enclosed ranges t)))) ∷
    is_product at c c (spelled table t) ∷ []
claims_of ranges table name (quotient at t d) = let c = leaf at (symbol name) in
    between_ends at c (quotient_range (enclosed ranges t) (enclosed ranges d)) ++ is_product at c (spelled table d) (spelled table t) ∷ []
claims_of ranges table name t = []

abbrev pub claims_of_all : Ranges → Table → Table → List Command
claims_of_all ranges table [] = []
claims_of_all ranges table (entry ∷ rest) = claims_of ranges table entry.0 entry.1 ++ claims_of_all ranges table rest

-- ---- the script

abbrev pub declarations : List Command → List Command
declarations [] = []
declarations (declare at x sort ∷ rest) = declare at x sort ∷ declarations rest
declarations (_ ∷ rest) = declarations rest

abbrev pub place_of_tree : Tree → Place
place_of_tree (atomic at l) = at
place_of_tree (applied at name ts) = at
place_of_tree (root at t) = at
place_of_tree (quotient at t d) = at
place_of_tree (formless at) = at

abbrev pub declaration : List ℕ × Tree → Command
declaration entry = declare (place_of_tree entry.1) entry.0 real_sort

abbrev pub assertion : Table → Asserted → Command
assertion table a = cond a.is_goal (minimize a.at (spelled table a.tree)) (claim a.at (spelled table a.tree))

abbrev pub rewritten_by : Ranges → Table → List Command → List Command
rewritten_by ranges table script =
    declarations script ++ map declaration table ++ claims_of_all ranges table table ++ map (assertion table) (asserted script)

abbrev pub unless_empty : Table → List Command → List Command → List Command
unless_empty [] script other = script
unless_empty (entry ∷ rest) script other = other

abbrev pub script_table : Option ℕ → List Command → Table
script_table bound script = table_of (declared_ranges bound script) (asserted script)

-- A script with neither stays as it is. Else its constants come first, then those that stand for roots and quotients, then what is asserted of these,
-- and then the assertions, in which each `let` and each call of a definition is unfolded.
abbrev pub rewritten : Option ℕ → List Command → List Command
rewritten bound script = unless_empty (script_table bound script) script (rewritten_by (declared_ranges bound script) (script_table bound script) script)
