-- How far a certificate of a script with a goal is, over what is due to the checker of its check.
use Rattle.std.specs.Prelude.{◌≡◌, ℕ, [], Bool, true, false, cond, nat_le, Option, Some, None, option_map, IsSomeAnd, IsTrue}
use Rattle.interval_model.specs.Space.{Space}
use Rattle.poly_graph.specs.Problem.{Problem}
use Rattle.poly_graph.specs.ProblemViews.{Parts, problem_of}
use Rattle.dyadic.specs.Rounding.{Dyadic}
use Rattle.dyadic.specs.Views.{dyadic_of}
use Rattle.cover_model.specs.State.{Loosenings, root_state}
use Rattle.cover_model.specs.Rules.{has_version_5}
use Rattle.cert_model.specs.Due.{at_point, left_open, Due, version_due, margin_due, delta_due, bound_due, kind_due, next_due, axis_due, yes_due, no_due, lemma_due, root_due, tree_due, coordinate_due, end_due, nothing_due, is_version, is_crossed_box}
use Rattle.cert_model.specs.Accepted.{reached, is_header}
use Rattle.cert_model.specs.Least.{LeastDue, header_due, lower_due, cover_due, in_cover_due, covered_due, in_point_due, shown_due, GoalDue, plain_due, least_due, GoalCourse, searched}
use Rattle.cert_check.specs.declared.fault.CertFault.{CertFault}
use Rattle.cert_check.specs.States.{loosenings_of}
use Rattle.cert_check.specs.Checked.{Checked, one_check}
use Rattle.cert_check.specs.Courses.{Stand, elsewhere, at_root, at_state}
use Rattle.cert_check.specs.Work.{WorkCourse, alone}
use Rattle.cert_least.specs.declared.phase.Phase.{Phase}
use Rattle.cert_least.specs.declared.phase.Phase.TheVariants as phase
use Rattle.cert_least.specs.declared.phase.Scope.{Scope}
use Rattle.cert_least.specs.declared.phase.Told.{Told}
use Rattle.cert_least.specs.Aims.{Aim}
use Rattle.cert_least.specs.Courses as goal

-- ---- what the code keeps of a header

abbrev pub told_of : Told → Loosenings
told_of t = record { margin_bits = t.margin; delta_bits = t.delta; version = t.version }

abbrev pub lower_of : Scope → Option Dyadic
lower_of w = option_map dyadic_of w.lower

-- ---- what is due, by what is due to the checker of the check

abbrev pub header_at : Due → LeastDue
header_at (kind_due s) = lower_due s
header_at d = header_due d

-- in a header, by whether `lower` alone tells that it is one of a least value
abbrev pub headed : Bool → Due → GoalDue
headed true d = plain_due d
headed false d = least_due (header_at d)

abbrev pub tells_later : Told → Bool
tells_later t = has_version_5 (told_of t)

abbrev pub cover_at : Option Dyadic → Option ℕ → Due → LeastDue
cover_at e k (kind_due s) = cover_due s e k
cover_at e k d = in_cover_due e k d

abbrev pub in_cover_at : Option Dyadic → Option ℕ → Due → LeastDue
in_cover_at e k (nothing_due s lemmas (left_open left)) = covered_due s e []
in_cover_at e k d = in_cover_due e k d

abbrev pub in_point_at : Option Dyadic → Due → LeastDue
in_point_at e (nothing_due s lemmas (at_point space)) = shown_due s (record { lower = e; over = []; point = Some space })
in_point_at e d = in_point_due e [] d

abbrev pub goal_due : Phase → Due → GoalDue
goal_due phase.Version d = plain_due d
goal_due phase.Plain d = plain_due d
goal_due (phase.Header t) d = headed (tells_later t) d
goal_due (phase.Lower t) d = headed (tells_later t) d
goal_due (phase.Cover t w) d = least_due (cover_at (lower_of w) w.bits d)
goal_due (phase.InCover w) d = least_due (in_cover_at (lower_of w) w.bits d)
goal_due (phase.InPoint s e) d = least_due (in_point_at (option_map dyadic_of e) d)
goal_due (phase.Stopped f) d = plain_due d

-- the header of a cover that is whole, and a point that is
abbrev pub cover_value : Due → Option Loosenings
cover_value (nothing_due s lemmas (left_open left)) = Some s
cover_value d = None

abbrev pub point_value : Due → Option Space
point_value (nothing_due s lemmas (at_point space)) = Some space
point_value d = None

-- ---- where each phase may be

-- in a certificate of the check, behind its first line: in its header of a version before 5, in which no `lower` follows
abbrev pub IsPlainDue : Due → Type 0
IsPlainDue version_due = ⊥
IsPlainDue (margin_due v) = nat_le 5 v ≡ false
IsPlainDue (delta_due v m) = nat_le 5 v ≡ false
IsPlainDue (bound_due s) = has_version_5 s ≡ false
IsPlainDue (kind_due s) = has_version_5 s ≡ false
IsPlainDue d = Unit {0}

-- in a header that told so much of these loosenings, none of it a fault
abbrev pub IsHeaderDue : Loosenings → Due → Type 0
IsHeaderDue s (margin_due v) = (v ≡ s.version) × IsTrue (is_version s.version)
IsHeaderDue s (delta_due v m) = (v ≡ s.version) × (m ≡ s.margin_bits) × IsTrue (is_version s.version)
IsHeaderDue s (bound_due s') = (s' ≡ s) × IsTrue (is_header s)
IsHeaderDue s d = ⊥

abbrev pub IsKindDue : Loosenings → Due → Type 0
IsKindDue s (kind_due s') = (s' ≡ s) × IsTrue (is_header s)
IsKindDue s d = ⊥

-- the loosenings of what is due, once the header has told them
abbrev pub loosenings_in : Due → Option Loosenings
loosenings_in (bound_due s) = Some s
loosenings_in (kind_due s) = Some s
loosenings_in (next_due s k lemmas) = Some s
loosenings_in (axis_due s k lemmas a axes space) = Some s
loosenings_in (yes_due s k lemmas space) = Some s
loosenings_in (no_due s k lemmas space js) = Some s
loosenings_in (lemma_due s k lemmas L S pending) = Some s
loosenings_in (root_due s lemmas) = Some s
loosenings_in (tree_due s lemmas S pending done) = Some s
loosenings_in (coordinate_due s a axes space) = Some s
loosenings_in (end_due s lemmas v) = Some s
loosenings_in (nothing_due s lemmas v) = Some s
loosenings_in d = None

-- it has told them, and no line of it has a fault
abbrev pub HasHeader : Due → Type 0
HasHeader d = IsSomeAnd (loosenings_in d) (λ s. IsTrue (is_header s))

-- in a point with these loosenings
abbrev pub IsPointDue : Loosenings → Due → Type 0
IsPointDue s (coordinate_due s' a axes space) = s' ≡ s
IsPointDue s (end_due s' lemmas (at_point space)) = s' ≡ s
IsPointDue s (nothing_due s' lemmas (at_point space)) = s' ≡ s
IsPointDue s d = ⊥

abbrev pub IsDueIn : Phase → Due → Type 0
IsDueIn phase.Version d = d ≡ version_due
IsDueIn phase.Plain d = IsPlainDue d
IsDueIn (phase.Header t) d = IsHeaderDue (told_of t) d
IsDueIn (phase.Lower t) d = IsKindDue (told_of t) d
IsDueIn (phase.Cover t w) d = IsKindDue (told_of t) d
IsDueIn (phase.InCover w) d = HasHeader d
IsDueIn (phase.InPoint s e) d = IsPointDue (loosenings_of s) d
IsDueIn (phase.Stopped f) d = ⊥

-- ---- the checker of the check

-- of a certificate of one check
abbrev pub due_in : Option WorkCourse → Option Due
due_in (Some (reached (alone d) n)) = Some d
due_in c = None

-- a checker of the problem's check where this is due
pub record IsDueTo (p : Problem) (bound : Option ℕ) (d : Due) (c : Checked) : Type 0 where
  pub parts : Parts
  pub problem : problem_of parts ≡ p
  pub checks : c.checks ≡ one_check parts bound
  pub due : due_in c.course ≡ Some d

-- the problem of a cover
abbrev pub searched_by : Aim → Scope → Problem
searched_by a w = searched (problem_of a.problem) a.goal (lower_of w) w.bits

-- the problem whose checker takes the lines
abbrev pub problem_in : Aim → Phase → Problem
problem_in a (phase.Cover t w) = searched_by a w
problem_in a (phase.InCover w) = searched_by a w
problem_in a x = problem_of a.problem

-- the box where a line of the main tree is due
abbrev pub stand_space : Problem → Stand → Option Space
stand_space p elsewhere = None
stand_space p at_root = cond (is_crossed_box p) None (Some (root_state p).space)
stand_space p (at_state S) = Some S.space

-- ---- where a checker stands

abbrev pub course_of : Phase → Option WorkCourse → ℕ → Option GoalCourse
course_of (phase.Stopped f) c n = goal.stops_at f
course_of x c n = option_map (λ d. reached (goal_due x d) n) (due_in c)

-- the fault that is answered for good
abbrev pub IsFaultIn : Phase → Option CertFault → Type 0
IsFaultIn (phase.Stopped f) o = o ≡ Some f
IsFaultIn x o = o ≡ None

-- something is due that may be in this phase
pub record IsPlaced (a : Aim) (x : Phase) (c : Checked) : Type 0 where
  pub due : Due
  pub is_due : IsDueTo (problem_in a x) a.bound due c
  pub fits : IsDueIn x due

abbrev pub IsSoundPhase : Aim → Phase → Checked → Type 0
IsSoundPhase a (phase.Stopped f) c = Unit {0}
IsSoundPhase a x c = IsPlaced a x c
