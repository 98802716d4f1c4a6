-- What the calls answer, in values of the code.
use Rattle.std.specs.Prelude.{◌≡◌, ℕ, List, [], Bool, false, Option, Some, length}
use Rattle.dyadic.specs.declared.dy.Dy.{Dy}
use Rattle.dyadic.specs.Rounding.{two_to_minus}
use Rattle.interval_model.specs.Interval.{Interval, interval_product, is_nothing}
use Rattle.interval_model.specs.Space as model
use Rattle.poly_graph.specs.Marks.{Mark}
use Rattle.poly_graph.specs.ProblemViews.{Parts, problem_of}
use Rattle.poly_graph.specs.Term.{Node}
use Rattle.poly_graph.specs.Views.{node_of}
use Rattle.poly_graph.specs.declared.node.Node as code_node
use Rattle.cover_model.specs.AxisStep.{axis_step}
use Rattle.cover_model.specs.Combination as model_part
use Rattle.cover_model.specs.Combination.{Adjoints, allowed_range, both_left, both_range, central_range, combined, completed, completed_left, left_to, marked_range, off_centre, part_range, root_adjoints, squares_down, swept}
use Rattle.cover_model.specs.CombinationConstants.{handed_on, handed_unless, is_constant_at}
use Rattle.cover_model.specs.Narrowed.{enclosures}
use Rattle.cover_model.specs.NodeEnclosure.{row}
use Rattle.cover_model.specs.Views.{multipliers_of}
use Rattle.ival.specs.declared.ends.Ival.{Ival}
use Rattle.ival.specs.declared.narrowed.Narrowed.{Narrowed}
use Rattle.ival.specs.declared.row_parts.Rows.{Rows}
use Rattle.ival.specs.declared.space.Space.{Space}
use Rattle.ival.specs.Narrows.{IsNarrowed}
use Rattle.ival.specs.Options.{option_at, option_of}
use Rattle.ival.specs.RowViews.{rows_of}
use Rattle.ival.specs.SpaceViews.{space_of}
use Rattle.ival.specs.Views.{interval_of}
use Rattle.plain_eval.specs.Parts.{before_sum, behind_range, expansion_on, left_to_part, option_part, part_of, part_of_node, range_on, setting}
use Rattle.plain_eval.specs.Passes.{AreBehind, HaveRanges, IsLeft, IsPutUnlessEmpty}
use Rattle.plain_eval.specs.Rest.{IsNothingOver, expansion_with, with_node, with_product, with_square}
use Rattle.plain_eval.specs.declared.part.Part.{Part}
use Rattle.plain_eval.specs.declared.room.Coefficients.{Coefficients}

-- ---- multiples of a number and of its square

abbrev pub completed_of : Ival → Ival → Ival → Interval
completed_of linear square number = completed (interval_of linear) (interval_of square) (interval_of number)

abbrev pub completed_left_of : Ival → Ival → Ival → Ival → Interval
completed_left_of share linear square number = completed_left (interval_of share) (interval_of linear) (interval_of square) (interval_of number)

-- where both are there
abbrev pub both_range_of : Ival → Ival → Ival → Interval
both_range_of linear square number = both_range (Some (interval_of linear)) (Some (interval_of square)) (interval_of number)

abbrev pub both_left_of : Ival → Ival → Ival → Ival → Interval
both_left_of share linear square number = both_left (interval_of share) (Some (interval_of linear)) (Some (interval_of square)) (interval_of number)

-- where that of the square may be missing
abbrev pub sum_range_of : Ival → Option Ival → Ival → Interval
sum_range_of linear square number = both_range (Some (interval_of linear)) (option_of square) (interval_of number)

abbrev pub sum_left_of : Ival → Ival → Option Ival → Ival → Interval
sum_left_of share linear square number = both_left (interval_of share) (Some (interval_of linear)) (option_of square) (interval_of number)

-- ---- where a sweep begins

abbrev pub range_by_mark : Parts → ℕ → List Mark → ℕ → Interval
range_by_mark p loosen marks j = marked_range (problem_of p) (two_to_minus loosen) marks j

abbrev pub adjoints_of : Parts → List (ℕ × Dy) → Adjoints
adjoints_of p ms = root_adjoints (problem_of p) (multipliers_of ms)

abbrev pub central_of : Parts → Rows → List (ℕ × Dy) → Interval
central_of p centre_rows ms = central_range (problem_of p) (rows_of centre_rows) (multipliers_of ms)

-- the range that the marked atoms leave to the combination
abbrev pub allowed_by : Parts → ℕ → List Mark → List (ℕ × Dy) → Interval
allowed_by p loosen marks ms = allowed_range (marked_range (problem_of p) (two_to_minus loosen) marks) (multipliers_of ms)

-- ---- what a node gives to its children

-- of a sum, to a node of it
abbrev pub given_part : List Node → ℕ → Ival → Rows → Adjoints
given_part nodes k more linear = handed_unless (is_constant_at nodes k) k (interval_of more) (option_at linear)

-- of a product, to a node of it, where the other factor is this
abbrev pub given_factor : List Node → ℕ → Ival → Ival → Rows → Adjoints
given_factor nodes k coefficient other linear = handed_unless (is_constant_at nodes k) k (interval_product (interval_of coefficient) (interval_of other)) (option_at linear)

abbrev pub given : List Node → code_node.Node → Ival → Rows → Rows → Adjoints
given nodes n coefficient centre_rows linear = handed_on nodes (rows_of centre_rows) (interval_of coefficient) (node_of n) (option_at linear)

-- for the square of the child's difference
abbrev pub given_square : code_node.Node → Ival → Rows → Adjoints
given_square n coefficient square = squares_down (interval_of coefficient) (node_of n) (option_at square)

-- ---- the sweep, where the rows are the enclosures over the space and at its centre

-- node n has a value, at the centre too
abbrev pub IsSomewhere : Rows → Rows → ℕ → Type 0
IsSomewhere rows centre_rows n = is_nothing (off_centre (rows_of rows) (rows_of centre_rows) n) ≡ false

-- nothing is left over of a product of these nodes with this coefficient
abbrev pub IsExact : Rows → Rows → ℕ → ℕ → Ival → Type 0
IsExact rows centre_rows a b linear = IsNothingOver (rows_of rows) (rows_of centre_rows) a b (interval_of linear)

abbrev pub rest_with_product : Rows → Rows → ℕ → ℕ → Ival → Ival → Interval
rest_with_product rows centre_rows a b linear rest = with_product (rows_of rows) (rows_of centre_rows) a b (interval_of linear) (interval_of rest)

abbrev pub rest_with_square : Rows → Rows → ℕ → Option Ival → Ival → Interval
rest_with_square rows centre_rows n square rest = with_square (rows_of rows) (rows_of centre_rows) n (option_of square) (interval_of rest)

abbrev pub rest_with_node : Rows → Rows → ℕ → Ival → Option Ival → code_node.Node → Ival → Interval
rest_with_node rows centre_rows n linear square node rest =
    with_node (rows_of rows) (rows_of centre_rows) n (interval_of linear) (option_of square) (node_of node) (interval_of rest)

-- the coefficients of roots, swept with this rest, where es and cs are the enclosures over the space and at its centre
abbrev pub IsSwept : List Node → List Interval → List Interval → Interval → Coefficients → Coefficients → Interval → Type 0
IsSwept nodes es cs rest old new result =
    swept nodes es cs (length nodes) (option_at old.linear) (option_at old.square) (expansion_with [] rest) ≡ expansion_on nodes (option_at new.linear) (option_at new.square) 0 result

abbrev pub Sweeps : List Node → Rows → Rows → Ival → Coefficients → Coefficients → Ival → Type 0
Sweeps nodes rows centre_rows rest old new result = IsSwept nodes (rows_of rows) (rows_of centre_rows) (interval_of rest) old new (interval_of result)

-- ---- the parts, over a space and its centre

abbrev pub part_range_of : Space → Space → Part → Interval
part_range_of space centre x = part_range (space_of space) (space_of centre) (part_of x)

-- where the others have this range
abbrev pub part_left_of : Space → Space → Ival → Ival → Part → Interval
part_left_of space centre allowed others x = left_to (space_of space) (space_of centre) (interval_of allowed) (interval_of others) (part_of x)

abbrev pub IsPartOfNode : List Node → Coefficients → ℕ → Option Part → Type 0
IsPartOfNode nodes c n x = option_part x ≡ part_of_node nodes (option_at c.linear) (option_at c.square) n

abbrev pub sum_before : Space → Space → Option Part → Ival → Interval
sum_before space centre x sum = before_sum (space_of space) (space_of centre) (option_part x) (interval_of sum)

abbrev pub sum_behind : Option Part → Ival → Ival → Interval
sum_behind x range sum = behind_range (option_part x) (interval_of range) (interval_of sum)

-- the part has this range, if there is a part
abbrev pub HasRange : Space → Space → Option Part → Interval → Type 0
HasRange space centre x range = (m : model_part.Part) → option_part x ≡ Some m → range ≡ part_range (space_of space) (space_of centre) m

-- of all
abbrev pub range_of_parts : List Node → Coefficients → Space → Space → Interval
range_of_parts nodes c space centre = range_on (setting nodes c space centre) 0

-- the row of each node with a part has the part's range
abbrev pub HaveRangesOver : List Node → Coefficients → Space → Space → Rows → Type 0
HaveRangesOver nodes c space centre rows = HaveRanges (setting nodes c space centre) (rows_of rows)

-- the row of each node with a part has the range of the parts behind it
abbrev pub HaveBehind : List Node → Coefficients → Space → Space → Rows → Type 0
HaveBehind nodes c space centre rows = AreBehind (setting nodes c space centre) (rows_of rows)

-- what is left to a part is put into the row of its place, which has the range of the parts behind it, unless it is nothing
abbrev pub PutsLeft : Option Part → ℕ → Space → Space → Ival → Ival → Rows → Rows → Bool → Type 0
PutsLeft x place space centre allowed before old new result =
    IsPutUnlessEmpty place (left_to_part (space_of space) (space_of centre) (interval_of allowed) (interval_of before) (row (rows_of old) place) (option_part x)) old new result

-- the same of all parts
abbrev pub Leaves : List Node → Coefficients → Space → Space → Ival → Ival → Rows → Bool → Type 0
Leaves nodes c space centre allowed rest new result = IsLeft (setting nodes c space centre) (interval_of allowed) (interval_of rest) new result

-- the space with this interval as the axis of a node that is a variable
abbrev pub with_variable : code_node.Node → Ival → Space → model.Space
with_variable n interval space = axis_step (node_of n) (Some (interval_of interval)) (space_of space)

-- ---- the rule

abbrev pub AreEnclosures : List Node → Space → Rows → Type 0
AreEnclosures nodes space rows = rows_of rows ≡ enclosures (space_of space) nodes

-- the new space is what the combination of marked atoms, loosened by 2 to the power of minus `loosen`, leaves of the old one
abbrev pub IsCombined : Parts → ℕ → List Mark → List (ℕ × Dy) → Space → Space → Narrowed → Type 0
IsCombined p loosen marks ms old new =
    IsNarrowed (space_of old) (space_of new) (combined (problem_of p) (two_to_minus loosen) marks (space_of old) (multipliers_of ms))
