-- A goal, what is asked of its least value, and what its enclosure over the declared box shows.
use Rattle.std.specs.Prelude.{◌≡◌, ◌<◌, ◌≤◌, ℕ, Option, false, length}
use Rattle.dyadic.specs.Rounding.{Dyadic}
use Rattle.poly_graph.specs.Problem.{Problem}
use Rattle.poly_graph.specs.ProblemViews.{IsWhole}
use Rattle.ival.specs.RowViews.{rows_of}
use Rattle.cert_model.specs.Due.{is_crossed_box}
use Rattle.goal_limit.specs.Lows.{root_low}
use Rattle.cover_book.specs.Limits.{IsWithinLimits}
use Rattle.least_search.specs.declared.aim.Aim.{Aim}

-- the goal's atom is there, problem and options are within limits, the gap has few bits, and there are as many rows as nodes
pub record IsReady (a : Aim) : Type 0 where
  pub whole : IsWhole a.problem.now
  pub goal : a.goal < length a.problem.now.atoms
  pub gap : a.gap_bits ≤ 30
  pub limits : IsWithinLimits a.problem.now a.options.now
  pub rows : length (rows_of a.rows) ≡ length a.problem.now.nodes

-- nothing but the rows changed
pub record IsSameAim (old new : Aim) : Type 0 where
  pub problem : new.problem ≡ old.problem
  pub goal : new.goal ≡ old.goal
  pub gap : new.gap_bits ≡ old.gap_bits
  pub options : new.options ≡ old.options

-- where the declared box is not empty, the bound is the lower end of the goal's enclosure over it
abbrev pub IsRootBound : Problem → ℕ → Option Dyadic → Type 0
IsRootBound p g low = is_crossed_box p ≡ false → low ≡ root_low p g
