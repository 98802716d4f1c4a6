-- The least width that a problem needs, so that no atom can be left undecided there.
use Rattle.std.specs.Prelude.{◌≡◌, ◌<◌, ◌≤◌, ◌-◌, ℕ, length, Bool, true, false, not, Option, Some, None, IsTrue, pos}
use Rattle.dyadic.specs.Calls.{power_of_two}
use Rattle.dyadic.specs.Fraction.{Fraction, at_most, difference_of}
use Rattle.dyadic.specs.Rounding.{Ext, finite, at, end_of, end_at_most, ext_at_most, exact, two_to_minus}
use Rattle.interval_model.specs.Interval.{Interval, nothing, between}
use Rattle.interval_model.specs.Space.{Space, axis_interval}
use Rattle.poly_graph.specs.Problem.{Problem, term_of, first_crossed}
use Rattle.cover_model.specs.Root.{root_space}
use Rattle.width_plan.specs.Width.{interval_size, width}

-- delta minus margin
abbrev pub gap : ℕ → ℕ → Fraction
gap delta_bits margin_bits = difference_of (exact (two_to_minus delta_bits)) (exact (two_to_minus margin_bits))

-- a width is below delta minus margin
abbrev pub is_below_gap : ℕ → ℕ → Ext → Bool
is_below_gap delta_bits margin_bits w = not (end_at_most (at (gap delta_bits margin_bits)) (end_of w))

-- an interval is narrower than delta minus margin
abbrev pub is_narrower : ℕ → ℕ → Interval → Bool
is_narrower delta_bits margin_bits nothing = true
is_narrower delta_bits margin_bits (between (finite l) (finite h)) = not (at_most (gap delta_bits margin_bits) (difference_of (exact h) (exact l)))
is_narrower delta_bits margin_bits _ = false

-- sides of at most 2^-bits make the atom's enclosure narrower than delta minus margin
abbrev pub fits : Problem → ℕ → ℕ → ℕ → ℕ → Bool
fits p delta_bits margin_bits bits j = is_below_gap delta_bits margin_bits (width (root_space p) bits (term_of p j))

-- an end has a size above 2^(61 - bits), where the numbers stand too far apart to halve a side down to 2^-bits
abbrev pub reaches_far : ℕ → Interval → Bool
reaches_far bits i = not (ext_at_most (interval_size i) (finite (power_of_two (pos (61 - bits)))))

-- the axis does
abbrev pub is_far : Space → ℕ → ℕ → Bool
is_far box bits axis = reaches_far bits (axis_interval box axis)

-- ---- the plan

-- the least number of bits, from 0 to 60, that fits all atoms
pub record IsLeast (p : Problem) (delta_bits margin_bits bits : ℕ) : Type 0 where
  pub most : bits ≤ 60
  pub fit : (j : ℕ) → j < length p.atoms → IsTrue (fits p delta_bits margin_bits bits j)
  pub least : (fewer : ℕ) → fewer < bits → (j : ℕ) × (j < length p.atoms) × IsTrue (not (fits p delta_bits margin_bits fewer j))

-- no number of bits fits all atoms, and atom j is the first that 60 bits do not fit
pub record NoneFits (p : Problem) (delta_bits margin_bits j : ℕ) : Type 0 where
  pub none : (bits : ℕ) → bits ≤ 60 → (i : ℕ) × (i < length p.atoms) × IsTrue (not (fits p delta_bits margin_bits bits i))
  pub is_atom : j < length p.atoms
  pub misfit : IsTrue (not (fits p delta_bits margin_bits 60 j))
  pub first : (i : ℕ) → i < j → IsTrue (fits p delta_bits margin_bits 60 i)

-- the axis is the first one whose numbers stand too far apart
pub record IsFirstFar (p : Problem) (bits axis : ℕ) : Type 0 where
  pub far : IsTrue (is_far (root_space p) bits axis)
  pub first : (i : ℕ) → i < axis → IsTrue (not (is_far (root_space p) bits i))

pub data Answer : Type 0 where
  -- boxes with sides of at most 2^-bits leave no atom undecided
  least_bits : ℕ → Answer
  -- no width of 60 bits or fewer is sure to decide this atom
  no_atom : ℕ → Answer
  -- this axis reaches so far that its sides can not be halved to the least width
  no_axis : ℕ → Answer

-- the answer, by the first axis whose declared bounds cross: an empty box needs no bits
abbrev pub IsPlanBy : Option ℕ → Problem → ℕ → ℕ → Answer → Type 0
IsPlanBy (Some axis) p delta_bits margin_bits answer = answer ≡ least_bits 0
IsPlanBy None p delta_bits margin_bits (least_bits bits) = IsLeast p delta_bits margin_bits bits × ((i : ℕ) → IsTrue (not (is_far (root_space p) bits i)))
IsPlanBy None p delta_bits margin_bits (no_atom j) = NoneFits p delta_bits margin_bits j
IsPlanBy None p delta_bits margin_bits (no_axis axis) = (bits : ℕ) × IsLeast p delta_bits margin_bits bits × IsFirstFar p bits axis

abbrev pub IsPlan : Problem → ℕ → ℕ → Answer → Type 0
IsPlan p delta_bits margin_bits answer = IsPlanBy (first_crossed p) p delta_bits margin_bits answer
