-- What is due in a certificate of one check or of several, and where its lines lead.
use Rattle.std.specs.Prelude.{ℕ, List, [], ◌∷◌, Bool, true, Option, map}
use Rattle.poly_graph.specs.ProblemViews.{Parts, problem_of}
use Rattle.problem_session.specs.Session.{problems_of}
use Rattle.cert_read.specs.CertLine.{CertLine, Parsed}
use Rattle.cert_model.specs.Due.{Value, at_point, left_open, Due, version_due, NextOf}
use Rattle.cert_model.specs.Accepted.{CourseOf, stopped, reached, next, parsed_by, course_by, ended_by, at_end}
use Rattle.cert_model.specs.Session.{Part, SessionDue, header_due, checks_due, part_due, keep_due, first_due, inside_due, all_done, session_next, session_start, SessionVerdict, one_verdict, session_at_end, session_verdict}
use Rattle.cert_check.specs.Dues.{lean, lean_left, next_map}

pub data Work : Type 0 where
  -- of one check
  alone : Due → Work
  -- of several
  together : SessionDue → Work

-- the problem of the first check, those of the others, each with whether all commands of the check before are in force at it, and the
-- bound of the words
pub record Checks : Type 0 where
  pub problem : Parts
  pub later : List (Parts × Bool)
  pub bound : Option ℕ

abbrev pub WorkCourse : Type 0
WorkCourse = CourseOf Work

abbrev pub course_map : {D E : Type 0} → (D → E) → CourseOf D → CourseOf E
course_map f (stopped g n) = stopped g n
course_map f (reached d n) = reached (f d) n

-- ---- lines

abbrev pub work_next : Checks → Work → CertLine → NextOf Work
work_next c (alone d) l = next_map (λ (e : Due). alone e) (next (problem_of c.problem) c.bound d l)
work_next c (together d) l = next_map (λ (e : SessionDue). together e) (session_next (problem_of c.problem) (problems_of c.later) c.bound d l)

abbrev pub work_step : Checks → Work → Parsed → NextOf Work
work_step c w l = parsed_by (work_next c w) l

-- what is due at first, where these are the checks behind the first one
abbrev pub started : List (Parts × Bool) → Work
started [] = alone version_due
started (c ∷ later) = together session_start

abbrev pub work_course : Checks → List (List ℕ) → WorkCourse
work_course c ls = course_by (work_step c) 0 (started c.later) ls

-- ---- verdicts

abbrev pub work_at_end : Work → ℕ → SessionVerdict
work_at_end (alone d) n = one_verdict (at_end d n)
work_at_end (together d) n = session_at_end d n

abbrev pub work_ended : WorkCourse → SessionVerdict
work_ended c = ended_by work_at_end c

-- what bytes are to these checks
abbrev pub work_verdict : Checks → List ℕ → SessionVerdict
work_verdict c bytes = session_verdict ((problem_of c.problem, true) ∷ problems_of c.later) c.bound bytes

-- ---- without what the code does not keep: the states that stay, of a value its point, and of a part what it has kept

abbrev pub brief : Value → Value
brief (at_point space) = at_point []
brief (left_open left) = left_open (lean_left left)

abbrev pub lean_part : Part → Part
lean_part t = record t { values = map brief t.values }

-- behind `keep`, or in a point
abbrev pub spent : Part → Part
spent t = record t { may_keep = []; values = map brief t.values }

abbrev pub lean_session : SessionDue → SessionDue
lean_session (header_due d) = header_due (lean d)
lean_session (checks_due s) = checks_due s
lean_session (part_due s t) = part_due s (lean_part t)
lean_session (keep_due s k t) = keep_due s k (lean_part t)
lean_session (first_due s k kept t) = first_due s k kept (spent t)
lean_session (inside_due t d) = inside_due (spent t) (lean d)
lean_session (all_done s values) = all_done s (map brief values)

abbrev pub lean_work : Work → Work
lean_work (alone d) = alone (lean d)
lean_work (together d) = together (lean_session d)
