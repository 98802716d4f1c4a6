-- What is handed to nodes, in rows that stand for adjoints.
use Rattle.std.specs.Prelude.{◌≡◌, ℕ, List}
use Rattle.dyadic.specs.declared.dy.Dy.{Dy}
use Rattle.dyadic.specs.Rounding.{two_to_minus}
use Rattle.dyadic.specs.Views.{dyadic_of}
use Rattle.interval_model.specs.Interval.{Interval, interval_sum, interval_product}
use Rattle.poly_graph.specs.declared.node.Node.{Node}
use Rattle.poly_graph.specs.Problem.{atom_at}
use Rattle.poly_graph.specs.Term
use Rattle.poly_graph.specs.ProblemViews.{Parts, problem_of}
use Rattle.poly_graph.specs.Views.{node_of}
use Rattle.cover_model.specs.NodeEnclosure.{row}
use Rattle.cover_model.specs.Combination.{Adjoints, only, handed, squares_down, root_adjoints, central_range, allowed_range, marked_range}
use Rattle.cover_model.specs.CombinationConstants.{is_constant_at, handed_unless, handed_on}
use Rattle.cover_model.specs.Views.{multipliers_of}
use Rattle.ival.specs.declared.ends.Ival.{Ival}
use Rattle.ival.specs.declared.row_parts.Rows.{Rows}
use Rattle.ival.specs.Options.{option_at}
use Rattle.ival.specs.RowViews.{rows_of}
use Rattle.ival.specs.Views.{interval_of}
use Rattle.combine.specs.declared.combination.Combination.{Combination}

-- the rows stand for these adjoints
abbrev pub StandsFor : Rows → Adjoints → Type 0
StandsFor rows os = (k : ℕ) → option_at rows k ≡ os k

-- node a has been handed one more coefficient, from the old rows to the new ones
abbrev pub IsHanded : ℕ → Interval → Rows → Rows → Type 0
IsHanded a i old new = StandsFor new (handed a i (option_at old))

-- node a has been handed this coefficient, unless it is a constant
abbrev pub IsHandedUnless : List Term.Node → ℕ → Interval → Rows → Rows → Type 0
IsHandedUnless nodes a i old new = StandsFor new (handed_unless (is_constant_at nodes a) a i (option_at old))

-- the children of a node with this coefficient have been handed theirs, where the first rows are the centre's
abbrev pub IsHandedDown : List Term.Node → Rows → Ival → Node → Rows → Rows → Type 0
IsHandedDown nodes centre_rows w n old new = StandsFor new (handed_on nodes (rows_of centre_rows) (interval_of w) (node_of n) (option_at old))

abbrev pub IsSquareHanded : Ival → Node → Rows → Rows → Type 0
IsSquareHanded w n old new = StandsFor new (squares_down (interval_of w) (node_of n) (option_at old))

-- ---- roots

-- the root of atom j has been handed a multiplier
abbrev pub IsRootHanded : Parts → ℕ → Dy → Rows → Rows → Type 0
IsRootHanded p j m old new = IsHanded (atom_at (problem_of p) j).0 (only (dyadic_of m)) old new

-- the range with that of the atom's term at the centre, times the multiplier
abbrev pub central_with : Combination → Rows → ℕ → Dy → Ival → Interval
central_with c centre_rows j m i = interval_sum (interval_of i) (interval_product (only (dyadic_of m)) (row (rows_of centre_rows) (atom_at (problem_of c.problem.now) j).0))

-- where the atom's value lies by its mark
abbrev pub range_by_mark : Combination → ℕ → Interval
range_by_mark c = marked_range (problem_of c.problem.now) (two_to_minus c.loosen) c.lits.now

abbrev pub allowed_with : Combination → ℕ → Dy → Ival → Interval
allowed_with c j m i = interval_sum (interval_of i) (interval_product (only (dyadic_of m)) (range_by_mark c j))

abbrev pub adjoints_of : Combination → Adjoints
adjoints_of c = root_adjoints (problem_of c.problem.now) (multipliers_of c.multipliers.now)

abbrev pub central_of : Combination → Rows → Interval
central_of c centre_rows = central_range (problem_of c.problem.now) (rows_of centre_rows) (multipliers_of c.multipliers.now)

abbrev pub allowed_of : Combination → Interval
allowed_of c = allowed_range (range_by_mark c) (multipliers_of c.multipliers.now)
