-- When a state may be parted, and where.
use Rattle.std.specs.Prelude.{ℕ, Bool, ◌&&◌}
use Rattle.dyadic.specs.Views.{dyadic_of}
use Rattle.ival.specs.declared.domain.Range.{Range}
use Rattle.interval_model.specs.Space.{Space}
use Rattle.poly_graph.specs.ProblemViews.{Parts, problem_of}
use Rattle.cover_model.specs.State.{State}
use Rattle.cover_model.specs.Honest.{not_shown, settled}
use Rattle.cover_data.specs.declared.margins.Margins.{Margins}
use Rattle.cover_data.specs.Margins.{loosenings_of}
use Rattle.cover_rule.specs.Refusals.{CutsAt}

-- the form may hold and is not sure at the middle, and no step is left to do
abbrev pub is_due_at : Parts → Margins → State → Bool
is_due_at p m S = not_shown (problem_of p) (loosenings_of m) S && settled (problem_of p) (loosenings_of m) S

-- the axis is a Real one with this range, and can be halved
abbrev pub HasHalves : Space → ℕ → Range → Type 0
HasHalves space axis r = CutsAt space axis (dyadic_of r.low) (dyadic_of r.high)
