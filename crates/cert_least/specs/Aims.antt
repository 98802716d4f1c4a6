-- What a checker of a script with a goal is to check, and where the lines of its certificates lead.
use Rattle.std.specs.Prelude.{ℕ, List, [], Option}
use Rattle.poly_graph.specs.ProblemViews.{Parts, problem_of}
use Rattle.cert_read.specs.CertLine.{CertLine, Parsed}
use Rattle.cert_model.specs.Due.{version_due}
use Rattle.goal_limit.specs.Limits.{has_room}
use Rattle.cert_model.specs.Least.{LeastDue, header_due, in_cover_due, covered_due, in_point_due, shown_due, GoalDue, plain_due, least_due, GoalNext, goal_next, goal_step, GoalCourse, goal_course, GoalVerdict, goal_verdict}
use Rattle.cert_check.specs.Dues.{lean}

-- the problem of the only check, the atom whose term is the goal, and the bound of the words
pub record Aim : Type 0 where
  pub problem : Parts
  pub goal : ℕ
  pub bound : Option ℕ

abbrev pub aim_next : Aim → GoalDue → CertLine → GoalNext
aim_next a d l = goal_next (problem_of a.problem) a.goal (has_room (problem_of a.problem)) a.bound d l

abbrev pub aim_step : Aim → GoalDue → Parsed → GoalNext
aim_step a d l = goal_step (problem_of a.problem) a.goal (has_room (problem_of a.problem)) a.bound d l

-- the first line is due
abbrev pub goal_start : GoalDue
goal_start = plain_due version_due

abbrev pub aim_course : Aim → List (List ℕ) → GoalCourse
aim_course a ls = goal_course (problem_of a.problem) a.goal (has_room (problem_of a.problem)) a.bound ls

-- what bytes are to it
abbrev pub aim_verdict : Aim → List ℕ → GoalVerdict
aim_verdict a bytes = goal_verdict (problem_of a.problem) a.goal (has_room (problem_of a.problem)) a.bound bytes

-- ---- without what the code does not keep: the states that stay, and the leaves that are over

abbrev pub lean_least : LeastDue → LeastDue
lean_least (header_due d) = header_due (lean d)
lean_least (in_cover_due e k d) = in_cover_due e k (lean d)
lean_least (covered_due s e left) = covered_due s e []
lean_least (in_point_due e left d) = in_point_due e [] (lean d)
lean_least (shown_due s x) = shown_due s (record { lower = x.lower; over = []; point = x.point })
lean_least d = d

abbrev pub lean_goal : GoalDue → GoalDue
lean_goal (plain_due d) = plain_due (lean d)
lean_goal (least_due d) = least_due (lean_least d)
