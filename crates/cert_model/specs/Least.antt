-- Certificates of least values: a lower bound of a goal, and a cover whose leaves are closed or not below the bound.
--
-- The goal is the term of an atom of the problem. Behind the header stands `lower`, with the bound; then a cover, each leaf of whose
-- tree leaves nothing or is `over`: the goal's enclosure there is not below the bound. Behind the cover may stand a point. So each
-- point of the declared box that meets the form at the margin has a value of the goal that is not below the bound.
--
-- A line `goal` before the cover says that the cover is one of the problem with the bound as a limit of the goal: what it leaves out has a
-- value above the bound.
use Rattle.std.specs.Prelude.{◌≡◌, ℕ, suc, List, Bool, true, false, cond, ◌&&◌, ◌||◌, Option, Some, None, IsTrue, nat_eq, nat_le, length}
use Rattle.dyadic.specs.Fraction.{sum_of}
use Rattle.dyadic.specs.Rounding.{Dyadic, Ext, below_all, finite, above_all, at, end_of, end_at_most, exact, two_to_minus}
use Rattle.interval_model.specs.Interval.{Interval, nothing, between, within}
use Rattle.interval_model.specs.Space.{Space}
use Rattle.poly_graph.specs.Problem.{Problem}
use Rattle.cover_line.specs.Words.{word_of}
use Rattle.cert_read.specs.CertLine.{CertLine, version, lower, goal, cover, point_word, rule_line, over, Parsed}
use Rattle.cover_model.specs.State.{Loosenings, atom_enclosure, root_state}
use Rattle.cover_model.specs.Rules.{has_version_5, Line, open_line, stay_by}
use Rattle.cert_model.specs.Due.{Standing, CertFault, BadHeader, RuleFails, OverFails, Missing, Extra, Value, at_point, left_open, Due, version_due, margin_due, kind_due, root_due, tree_due, nothing_due, NextOf, Next, on, faulty, names_well, is_crossed_box}
use Rattle.cert_model.specs.Limited.{is_limit, limited}
use Rattle.cert_model.specs.Accepted.{next, ruled_line, parsed_by, CourseOf, course_by, VerdictOf, accepted, refused, at_end, ended_by, most_bytes, verdict_of}

-- ---- the goal's enclosure

-- a lower bound as an end; none is minus infinity
abbrev pub lower_end : Option Dyadic → Ext
lower_end None = below_all
lower_end (Some d) = finite d

-- the values that are not below the bound
abbrev pub not_below : Option Dyadic → Interval
not_below low = between (lower_end low) above_all

-- over the space the enclosure of the goal, the term of atom g, is not below the bound
abbrev pub is_over : Problem → ℕ → Option Dyadic → Space → Bool
is_over p g low space = within (atom_enclosure p space g) (not_below low)

abbrev pub upper_end : Interval → Ext
upper_end nothing = below_all
upper_end (between l h) = h

-- at a point: the upper end of the goal's enclosure over it
abbrev pub upper_at : Problem → ℕ → Space → Ext
upper_at p g space = upper_end (atom_enclosure p space g)

-- ---- what is due

-- what an accepted one stands for: its bound, the leaves that are over, and its point
pub record Least : Type 0 where
  pub lower : Option Dyadic
  pub over : List Standing
  pub point : Option Space

pub data LeastDue : Type 0 where
  -- the header up to the bound of the words, behind its version: that of a certificate of one check
  header_due : Due → LeastDue
  lower_due : Loosenings → LeastDue
  -- `cover`, with the number of lemmas; before it may stand `goal`, whose bits are here behind it
  cover_due : Loosenings → Option Dyadic → Option ℕ → LeastDue
  -- a later line of the cover
  in_cover_due : Option Dyadic → Option ℕ → Due → LeastDue
  -- behind the cover: `point`, or nothing
  covered_due : Loosenings → Option Dyadic → List Standing → LeastDue
  -- a line of the point
  in_point_due : Option Dyadic → List Standing → Due → LeastDue
  -- after the last line
  shown_due : Loosenings → Least → LeastDue

abbrev pub LeastNext : Type 0
LeastNext = NextOf LeastDue

abbrev pub in_header : Next → LeastNext
in_header (on (kind_due s)) = on (lower_due s)
in_header (on d) = on (header_due d)
in_header (faulty f) = faulty f

-- in the cover, where `nothing_due` is its end
abbrev pub in_cover : Option Dyadic → Option ℕ → Next → LeastNext
in_cover low bits (on (nothing_due s lemmas (left_open left))) = on (covered_due s low left)
in_cover low bits (on d) = on (in_cover_due low bits d)
in_cover low bits (faulty f) = faulty f

-- in the point
abbrev pub in_point : Option Dyadic → List Standing → Next → LeastNext
in_point low left (on (nothing_due s lemmas (at_point space))) = on (shown_due s (record { lower = low; over = left; point = Some space }))
in_point low left (on d) = on (in_point_due low left d)
in_point low left (faulty f) = faulty f

-- ---- the limit

-- the problem of the cover: with these bits that with the bound as a limit of the goal
abbrev pub searched : Problem → ℕ → Option Dyadic → Option ℕ → Problem
searched p g (Some d) (Some k) = limited p g k d
searched p g low bits = p

-- the bound can be a limit in these bits, where there is room for one
abbrev pub can_limit : Problem → Bool → Option Dyadic → ℕ → Bool
can_limit p room None k = false
can_limit p room (Some d) k = room && is_limit p k d

abbrev pub goal_line : Problem → Bool → Loosenings → Option Dyadic → ℕ → LeastNext
goal_line p room s low k = cond (can_limit p room low k) (on (cover_due s low (Some k))) (faulty BadHeader)

-- ---- lines of the tree

-- the space where a line of the main tree is due
abbrev pub tree_space : Problem → Due → Option Space
tree_space p (root_due s lemmas) = cond (is_crossed_box p) None (Some (root_state p).space)
tree_space p (tree_due s lemmas S pending done) = Some S.space
tree_space p d = None

-- `over` leaves its state, as `open` does in a certificate of one check, where the goal's enclosure is not below the bound
abbrev pub over_line : Problem → Option ℕ → ℕ → Option Dyadic → Option ℕ → Due → Option Space → LeastNext
over_line p b g low bits d None = in_cover low bits (next p b d over)
over_line p b g low bits d (Some space) = cond (is_over p g low space) (in_cover low bits (next p b d (rule_line open_line))) (faulty OverFails)

-- a line that leaves its own state open or stuck
abbrev pub leaves_open : Line → Bool
leaves_open (stay_by t) = true
leaves_open l = false

-- no leaf of the main tree is left open or stuck
abbrev pub leaf_line : Problem → Option ℕ → Option Dyadic → Option ℕ → Due → Line → Option Space → LeastNext
leaf_line p b low bits d l None = in_cover low bits (next p b d (rule_line l))
leaf_line p b low bits d l (Some space) = in_cover low bits (ruled_line (names_well p l) (faulty (RuleFails (word_of l))))

abbrev pub tree_rule : Problem → Option ℕ → Option Dyadic → Option ℕ → Due → Line → LeastNext
tree_rule p b low bits d l = cond (leaves_open l) (leaf_line p b low bits d l (tree_space p d)) (in_cover low bits (next p b d (rule_line l)))

-- a line in the cover of the problem p
abbrev pub cover_line : Problem → ℕ → Option ℕ → Option Dyadic → Option ℕ → Due → CertLine → LeastNext
cover_line p g b low bits d over = over_line p b g low bits d (tree_space p d)
cover_line p g b low bits d (rule_line l) = tree_rule p b low bits d l
cover_line p g b low bits d l = in_cover low bits (next p b d l)

-- ---- one line

-- of the problem p, whose goal is the term of atom g, where the words give the bound b, and whether there is room for a limit
abbrev pub least_next : Problem → ℕ → Bool → Option ℕ → LeastDue → CertLine → LeastNext
least_next p g room b (header_due d) l = in_header (next p b d l)
least_next p g room b (lower_due s) (lower low) = on (cover_due s low None)
least_next p g room b (lower_due s) l = faulty BadHeader
least_next p g room b (cover_due s low None) (goal k) = goal_line p room s low k
least_next p g room b (cover_due s low bits) (cover n) = in_cover low bits (next (searched p g low bits) b (kind_due s) (cover n))
least_next p g room b (cover_due s low bits) l = faulty BadHeader
least_next p g room b (in_cover_due low bits d) l = cover_line (searched p g low bits) g b low bits d l
least_next p g room b (covered_due s low left) point_word = in_point low left (next p b (kind_due s) point_word)
least_next p g room b (covered_due s low left) l = faulty Extra
least_next p g room b (in_point_due low left d) l = in_point low left (next p b d l)
least_next p g room b (shown_due s x) l = faulty Extra

-- ---- certificates of a script with a goal and one check: of its check, or of its least value

-- the lines of a least value are those of such a version
abbrev pub is_lines_version : ℕ → Bool
is_lines_version v = nat_eq v 2 || nat_eq v 5

-- a version of the format for least values
abbrev pub is_least_version : ℕ → Bool
is_least_version v = nat_eq v 4

pub data GoalDue : Type 0 where
  plain_due : Due → GoalDue
  least_due : LeastDue → GoalDue

pub data GoalValue : Type 0 where
  plain : Value → GoalValue
  least : Least → GoalValue

abbrev pub GoalNext : Type 0
GoalNext = NextOf GoalDue

abbrev pub as_plain : Next → GoalNext
as_plain (on d) = on (plain_due d)
as_plain (faulty f) = faulty f

abbrev pub as_least : LeastNext → GoalNext
as_least (on d) = on (least_due d)
as_least (faulty f) = faulty f

-- Version 4 tells that it is one of the least value; the lines that version 2 has are read as there. In version 5 the line `lower` behind the
-- header tells so.
abbrev pub version_next : Problem → Option ℕ → ℕ → GoalNext
version_next p b v = cond (is_least_version v) (on (least_due (header_due (margin_due 2)))) (as_plain (next p b version_due (version v)))

abbrev pub lower_next : Problem → Option ℕ → Loosenings → Option Dyadic → GoalNext
lower_next p b s low = cond (has_version_5 s) (on (least_due (cover_due s low None))) (as_plain (next p b (kind_due s) (lower low)))

abbrev pub goal_next : Problem → ℕ → Bool → Option ℕ → GoalDue → CertLine → GoalNext
goal_next p g room b (plain_due version_due) (version v) = version_next p b v
goal_next p g room b (plain_due (kind_due s)) (lower low) = lower_next p b s low
goal_next p g room b (plain_due d) l = as_plain (next p b d l)
goal_next p g room b (least_due d) l = as_least (least_next p g room b d l)

abbrev pub goal_step : Problem → ℕ → Bool → Option ℕ → GoalDue → Parsed → GoalNext
goal_step p g room b d l = parsed_by (goal_next p g room b d) l

-- ---- all lines

abbrev pub GoalCourse : Type 0
GoalCourse = CourseOf GoalDue

abbrev pub goal_course : Problem → ℕ → Bool → Option ℕ → List (List ℕ) → GoalCourse
goal_course p g room b ls = course_by (goal_step p g room b) 0 (plain_due version_due) ls

abbrev pub GoalVerdict : Type 0
GoalVerdict = VerdictOf GoalValue

-- the input ends where this is due
abbrev pub missing_in_least : LeastDue → CertFault
missing_in_least (header_due d) = BadHeader
missing_in_least (lower_due s) = BadHeader
missing_in_least (cover_due s low bits) = BadHeader
missing_in_least d = Missing

abbrev pub least_at_end : LeastDue → ℕ → GoalVerdict
least_at_end (covered_due s low left) n = accepted s (least (record { lower = low; over = left; point = None }))
least_at_end (shown_due s x) n = accepted s (least x)
least_at_end d n = refused (missing_in_least d) (suc n)

abbrev pub plain_verdict : VerdictOf Value → GoalVerdict
plain_verdict (accepted s v) = accepted s (plain v)
plain_verdict (refused f n) = refused f n

abbrev pub goal_at_end : GoalDue → ℕ → GoalVerdict
goal_at_end (plain_due d) n = plain_verdict (at_end d n)
goal_at_end (least_due d) n = least_at_end d n

abbrev pub goal_ended : GoalCourse → GoalVerdict
goal_ended c = ended_by goal_at_end c

-- what bytes are to the problem of a script's only check, whose goal is the term of atom g, and whether there is room for a limit
abbrev pub goal_verdict : Problem → ℕ → Bool → Option ℕ → List ℕ → GoalVerdict
goal_verdict p g room b bytes = verdict_of (goal_course p g room b) goal_ended (nat_le (length bytes) most_bytes) bytes

-- the bytes are accepted, with the margin and delta of their header, and this value
abbrev pub IsGoalAccepted : Problem → ℕ → Bool → Option ℕ → List ℕ → Loosenings → GoalValue → Type 0
IsGoalAccepted p g room b bytes s v = goal_verdict p g room b bytes ≡ accepted s v

-- ---- bounds that are near

-- the lower bound and 2^-gap are together not below the upper one
abbrev pub IsSettled : ℕ → Option Dyadic → Ext → Type 0
IsSettled gap None upper = ⊥
IsSettled gap (Some d) upper = IsTrue (end_at_most (end_of upper) (at (sum_of (exact d) (exact (two_to_minus gap)))))
