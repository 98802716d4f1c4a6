-- What a line of squares is tested with at a state.
use Rattle.std.specs.Prelude.{ℕ, List, Bool}
use Rattle.interval_model.specs.Interval.{Interval}
use Rattle.interval_model.specs.Space.{middle}
use Rattle.poly_graph.specs.Problem.{Problem}
use Rattle.square_model.specs.Positive.{is_positive}
use Rattle.cover_model.specs.Combination.{Multipliers, marked_range}
use Rattle.cover_model.specs.Rules.{Block}
use Rattle.cover_model.specs.State.{State, Loosenings, margin_of}

-- where the value of atom j's term lies, by its mark
abbrev pub range_at : Problem → Loosenings → State → ℕ → Interval
range_at p s S j = marked_range p (margin_of s) S.marks j

-- the combination without the blocks is above what the atoms allow
abbrev pub is_positive_at : Problem → Loosenings → State → Multipliers → List Block → Bool
is_positive_at p s S ms bs = is_positive p (range_at p s S) S.space (middle S.space) ms bs
