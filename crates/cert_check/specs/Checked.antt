-- What a checker knows.
use Rattle.std.specs.Prelude.{ℕ, [], Option, Some}
use Rattle.poly_graph.specs.ProblemViews.{Parts}
use Rattle.cert_model.specs.Accepted.{reached}
use Rattle.cert_check.specs.Work.{Checks, WorkCourse, started}

-- where the lines so far led; nowhere after memory ran out
pub record Checked : Type 0 where
  pub checks : Checks
  pub course : Option WorkCourse

-- the only check
abbrev pub one_check : Parts → Option ℕ → Checks
one_check p bound = record { problem = p; later = []; bound = bound }

-- no line was taken yet
abbrev pub fresh : Checks → Checked
fresh c = record { checks = c; course = Some (reached (started c.later) 0) }

abbrev pub fresh_checker : Parts → Option ℕ → Checked
fresh_checker p bound = fresh (one_check p bound)
