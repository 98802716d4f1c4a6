-- What a checker of a script with a goal knows.
use Rattle.std.specs.Prelude.{ℕ, Option, Some}
use Rattle.poly_graph.specs.ProblemViews.{Parts}
use Rattle.cert_model.specs.Accepted.{reached}
use Rattle.cert_model.specs.Least.{GoalCourse}
use Rattle.cert_least.specs.Aims.{Aim, goal_start}

-- where the lines so far led; nowhere after memory ran out
pub record GoalChecked : Type 0 where
  pub aim : Aim
  pub course : Option GoalCourse

abbrev pub aim_at : Parts → ℕ → Option ℕ → Aim
aim_at p g bound = record { problem = p; goal = g; bound = bound }

-- no line was taken yet
abbrev pub fresh : Aim → GoalChecked
fresh a = record { aim = a; course = Some (reached goal_start 0) }

abbrev pub fresh_checker : Parts → ℕ → Option ℕ → GoalChecked
fresh_checker p g bound = fresh (aim_at p g bound)
