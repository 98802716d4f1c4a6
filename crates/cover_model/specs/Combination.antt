-- A combination of atoms is the sum of their terms, each times its multiplier. One backward sweep over the graph expands it at
-- the centre of a space; its range there is met with the range that the atoms leave to it. (With one atom it is the mean value
-- form: Moore, Interval Analysis, 1966, without derivatives; with several, Farkas' lemma on the linear parts.)
use Rattle.std.specs.Prelude.{ℕ, zero, suc, List, [], ◌∷◌, length, Bool, true, false, cond, Option, Some, None, pos, nat_eq, slice_get}
use Rattle.dyadic.specs.Rounding.{Dyadic, finite}
pub use Rattle.cover_line.specs.Line.{Multipliers}
pub use Rattle.square_model.specs.Polynomial.{only, nought_alone}
pub use Rattle.square_model.specs.Positive.{allowed_range}
pub use Rattle.square_model.specs.Range.{interval_difference, apart_range}
use Rattle.interval_model.specs.Interval.{Interval, between, interval_negated, interval_sum, interval_product, interval_square, inverse_product, inverse_square, misses_nought, met, is_nothing, nothing, everything}
use Rattle.poly_graph.specs.Term.{Node, variable_node, negate_node, add_node, multiply_node, square_node}
use Rattle.interval_model.specs.Space.{Space, axis_interval, middle}
use Rattle.poly_graph.specs.Problem.{Problem, atom_at}
use Rattle.poly_graph.specs.Marks.{Mark, is_no, mark_at}
use Rattle.cover_model.specs.Space.{range}
use Rattle.cover_model.specs.OffRange.{off_range}
use Rattle.cover_model.specs.Narrowed.{enclosures, set_axis}
use Rattle.cover_model.specs.NodeEnclosure.{row}

-- ---- adjoints: for each node the coefficient of its difference to its value at the centre, none where it has none

abbrev pub Adjoints : Type 0
Adjoints = ℕ → Option Interval

abbrev pub no_adjoints : Adjoints
no_adjoints k = None

abbrev pub joined : Option Interval → Interval → Interval
joined None i = i
joined (Some w) i = interval_sum w i

-- i more for node a
abbrev pub handed : ℕ → Interval → Adjoints → Adjoints
handed a i os k = cond (nat_eq k a) (Some (joined (os k) i)) (os k)

-- ---- the sweep: es and cs are the enclosures over the space and at its centre

-- by how much node k may differ from its value at the centre
abbrev pub off_centre : List Interval → List Interval → ℕ → Interval
off_centre es cs k = interval_difference (row es k) (row cs k)

-- what node k, whose adjoint is w, hands to its children
abbrev pub handed_down : List Interval → Interval → Node → Adjoints → Adjoints
handed_down cs w (negate_node a) os = handed a (interval_negated w) os
handed_down cs w (add_node a b) os = handed b w (handed a w os)
handed_down cs w (multiply_node a b) os = handed b (interval_product w (row cs a)) (handed a (interval_product w (row cs b)) os)
handed_down cs w (square_node a) os = handed a (interval_product w (row cs a)) (handed a (interval_product w (row cs a)) os)
handed_down cs w n os = os

-- and for the square of the child's difference
abbrev pub squares_down : Interval → Node → Adjoints → Adjoints
squares_down w (square_node a) qs = handed a w qs
squares_down w n qs = qs

-- a variable's part: the coefficients of its difference and of that's square
pub record Part : Type 0 where
  pub axis : ℕ
  pub linear : Option Interval
  pub square : Option Interval

-- the parts of variables, and the range of the rest
pub record Expansion : Type 0 where
  pub parts : List Part
  pub rest : Interval

abbrev pub with_part : ℕ → Option Interval → Option Interval → Expansion → Expansion
with_part axis None None e = e
with_part axis o q e = record { parts = record { axis = axis; linear = o; square = q } ∷ e.parts; rest = e.rest }

abbrev pub with_rest : Interval → Expansion → Expansion
with_rest i e = record { parts = e.parts; rest = interval_sum e.rest i }

-- what a node that is no variable adds to the rest: the square of its difference, and of a product what is left over
abbrev pub squared_rest : List Interval → List Interval → ℕ → Option Interval → Expansion → Expansion
squared_rest es cs k None e = e
squared_rest es cs k (Some q) e = with_rest (interval_product q (interval_square (off_centre es cs k))) e

abbrev pub product_rest : List Interval → List Interval → Option Interval → Node → Expansion → Expansion
product_rest es cs (Some w) (multiply_node a b) e = with_rest (interval_product w (interval_product (off_centre es cs a) (off_centre es cs b))) e
product_rest es cs _ n e = e

abbrev pub expanded : List Interval → List Interval → ℕ → Option Interval → Option Interval → Node → Expansion → Expansion
expanded es cs k o q (variable_node axis) e = with_part axis o q e
expanded es cs k o q n e = product_rest es cs o n (squared_rest es cs k q e)

abbrev pub next_adjoints : List Interval → Option Interval → Option Node → Adjoints → Adjoints
next_adjoints cs (Some w) (Some n) os = handed_down cs w n os
next_adjoints cs _ _ os = os

abbrev pub next_squares : Option Interval → Option Node → Adjoints → Adjoints
next_squares (Some w) (Some n) qs = squares_down w n qs
next_squares _ _ qs = qs

abbrev pub next_expansion : List Interval → List Interval → ℕ → Option Interval → Option Interval → Option Node → Expansion → Expansion
next_expansion es cs k o q None e = e
next_expansion es cs k o q (Some n) e = expanded es cs k o q n e

-- the nodes below this number, the highest first
abbrev pub swept : List Node → List Interval → List Interval → ℕ → Adjoints → Adjoints → Expansion → Expansion
swept nodes es cs zero os qs e = e
swept nodes es cs (suc k) os qs e = swept nodes es cs k (next_adjoints cs (os k) (slice_get nodes k) os) (next_squares (os k) (slice_get nodes k) qs) (next_expansion es cs k (os k) (qs k) (slice_get nodes k) e)

-- ---- a combination

-- each root's adjoint is the sum of its multipliers
abbrev pub root_adjoints : Problem → Multipliers → Adjoints
root_adjoints p [] = no_adjoints
root_adjoints p ((j, m) ∷ rest) = handed (atom_at p j).0 (only m) (root_adjoints p rest)

-- the combination's range at the centre
abbrev pub central_range : Problem → List Interval → Multipliers → Interval
central_range p cs [] = nought_alone
central_range p cs ((j, m) ∷ rest) = interval_sum (central_range p cs rest) (interval_product (only m) (row cs (atom_at p j).0))

-- expanded over the space, at a centre
abbrev pub expansion : Problem → Space → Space → Multipliers → Expansion
expansion p space centre ms = let es = enclosures space p.nodes in let cs = enclosures centre p.nodes in
    swept p.nodes es cs (length p.nodes) (root_adjoints p ms) no_adjoints (record { parts = []; rest = central_range p cs ms })

-- ---- the range of an expansion

-- half the quotient of the coefficients: of a linear one in w and a quadratic one in q
abbrev pub half_quotient : Interval → Interval → Interval
half_quotient w q = inverse_product w (interval_sum q q)

-- a d + k d^2 is k ((d + h)^2 - h^2)
abbrev pub completed : Interval → Interval → Interval → Interval
completed w q d = let h = half_quotient w q in interval_product q (interval_difference (interval_square (interval_sum d h)) (interval_square h))

abbrev pub met_if : Bool → Interval → Interval → Interval
met_if true i j = met i j
met_if false i j = i

abbrev pub both_range : Option Interval → Option Interval → Interval → Interval
both_range None None d = nought_alone
both_range (Some w) None d = interval_product w d
both_range None (Some q) d = interval_product q (interval_square d)
both_range (Some w) (Some q) d = met_if (misses_nought (interval_sum q q)) (interval_sum (interval_product w d) (interval_product q (interval_square d))) (completed w q d)

abbrev pub part_range : Space → Space → Part → Interval
part_range space centre x = both_range x.linear x.square (apart_range space centre x.axis)

abbrev pub parts_range : Space → Space → List Part → Interval
parts_range space centre [] = nought_alone
parts_range space centre (x ∷ rest) = interval_sum (part_range space centre x) (parts_range space centre rest)

abbrev pub range_of : Space → Space → Expansion → Interval
range_of space centre e = interval_sum e.rest (parts_range space centre e.parts)

-- ---- narrowing: what the allowed range leaves to each part, less the range of the others

-- x in own, where x^2 lies in v: the square is not below 0, and no more than own allows
abbrev pub root_left : Interval → Interval → Interval
root_left own v = inverse_square own (met v (interval_square own))

-- d, where a d + k d^2 lies in s
abbrev pub completed_left : Interval → Interval → Interval → Interval → Interval
completed_left s w q d = let h = half_quotient w q in let v = interval_sum (inverse_product s q) (interval_square h) in
    interval_difference (root_left (interval_sum d h) v) h

abbrev pub both_left : Interval → Option Interval → Option Interval → Interval → Interval
both_left s (Some w) None d = inverse_product s w
both_left s None (Some q) d = root_left d (inverse_product s q)
both_left s (Some w) (Some q) d = met_if (misses_nought (interval_sum q q)) (inverse_product (interval_difference s (interval_product q (interval_square d))) w) (completed_left s w q d)
both_left s None None d = everything

-- of a variable, where the others have this range
abbrev pub left_to : Space → Space → Interval → Interval → Part → Interval
left_to space centre allowed others x =
    met (axis_interval space x.axis) (interval_sum (axis_interval centre x.axis) (both_left (interval_difference allowed others) x.linear x.square (apart_range space centre x.axis)))

-- the rest and the parts before have the range before
abbrev pub tightened : Space → Space → Interval → Interval → List Part → List (ℕ × Interval)
tightened space centre allowed before [] = []
tightened space centre allowed before (x ∷ after) =
    (x.axis, left_to space centre allowed (interval_sum before (parts_range space centre after)) x) ∷ tightened space centre allowed (interval_sum before (part_range space centre x)) after

abbrev pub with_axis : ℕ → Interval → Option Space → Option Space
with_axis axis nothing o = None
with_axis axis (between l h) None = None
with_axis axis (between l h) (Some space) = Some (set_axis axis (between l h) space)

-- each axis at its interval, none where one is empty
abbrev pub with_intervals : List (ℕ × Interval) → Space → Option Space
with_intervals [] space = Some space
with_intervals ((axis, i) ∷ rest) space = with_axis axis i (with_intervals rest space)

-- what the allowed range leaves of the space
abbrev pub left_of_space : Space → Space → Interval → Expansion → Option Space
left_of_space space centre allowed e = cond (is_nothing (met (range_of space centre e) allowed)) None (with_intervals (tightened space centre allowed e.rest e.parts) space)

-- what the combination, expanded at a centre, leaves of the space, where these are the ranges of its atoms' values
abbrev pub combined_about : Problem → (ℕ → Interval) → Space → Space → Multipliers → Option Space
combined_about p ranges space centre ms = left_of_space space centre (allowed_range ranges ms) (expansion p space centre ms)

-- where the value of a marked atom's term lies at the points of a state with these marks, loosened by m: in its range, or
-- where it is marked no in its off-range
abbrev pub marked_range : Problem → Dyadic → List Mark → ℕ → Interval
marked_range p m marks j = cond (is_no (mark_at marks j)) (off_range m (atom_at p j).1) (range m (atom_at p j).1)

-- what a combination of marked atoms, expanded at the middle of the space, leaves of it, none where nothing is left
abbrev pub combined : Problem → Dyadic → List Mark → Space → Multipliers → Option Space
combined p m marks space ms = combined_about p (marked_range p m marks) space (middle space) ms
