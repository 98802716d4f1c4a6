-- What the calls answer, in values of the code.
use Rattle.std.specs.Prelude.{ℕ, Option}
use Rattle.interval_model.specs.Space.{Space}
use Rattle.poly_graph.specs.ProblemViews.{Parts, problem_of}
use Rattle.cover_model.specs.State.{State}
use Rattle.cover_model.specs.Rules.{narrowing, narrowing_off}
use Rattle.cover_data.specs.declared.margins.Margins.{Margins}
use Rattle.cover_data.specs.Margins.{loosenings_of}

-- what narrowing by atom j leaves of the state's space
abbrev pub narrowing_at : Parts → Margins → State → ℕ → Option Space
narrowing_at p m S j = narrowing (problem_of p) (loosenings_of m) S j

-- the same by the off-range of atom j
abbrev pub narrowing_off_at : Parts → Margins → State → ℕ → Option Space
narrowing_off_at p m S j = narrowing_off (problem_of p) (loosenings_of m) S j
