-- Certificates of scripts with several checks: a header, and a part for each check, which may keep lemmas of the part before.
--
-- A part is read as what follows the header of a certificate of one check, but that `keep` stands behind the number of its lemmas: so
-- many lemmas of the part before are its first ones, under the same numbers. It may keep them where the part before is a cover, all
-- commands of the check before are in force at its own, and neither declared box is empty. With one check a session's certificate is
-- that check's own.
use Rattle.std.specs.Prelude.{◌≡◌, ℕ, suc, List, [], ◌∷◌, ◌++◌, Bool, not, ◌&&◌, ◌||◌, cond, Option, nat_eq, nat_le, length, take, map, All, IsTrue}
use Rattle.cert_read.specs.CertLine.{CertLine, version, checks, cover, keep, point_word, Parsed}
use Rattle.cert_read.specs.Lines.{lines_of}
use Rattle.poly_graph.specs.Problem.{Problem}
use Rattle.cover_model.specs.Carried.{carried}
use Rattle.cover_model.specs.State.{State, Loosenings}
use Rattle.cover_model.specs.Honest.{is_honest}
use Rattle.cert_model.specs.Due.{CertFault, BadHeader, KeepFails, Missing, Extra, Value, Due, version_due, margin_due, kind_due, next_due, nothing_due, NextOf, Next, on, faulty, given, is_crossed_box}
use Rattle.cert_model.specs.Accepted.{next, most_lemmas, parsed_by, CourseOf, course_by, VerdictOf, Verdict, accepted, refused, ended_by, most_bytes, verdict, verdict_of}
use Rattle.cert_model.specs.Standing.{Stands, stands_at, standing_by, standing, branches_of}

-- ---- what is due

-- A part on its way: the problem of its check, the lemmas that it may keep, the problems of the checks behind it, each with whether all
-- commands of the check before are in force at it, and the values of the parts before.
pub record Part : Type 0 where
  pub problem : Problem
  pub may_keep : List State
  pub later : List (Problem × Bool)
  pub values : List Value

pub data SessionDue : Type 0 where
  -- the header up to the bound, which is that of a certificate of one check but for the version
  header_due : Due → SessionDue
  checks_due : Loosenings → SessionDue
  -- the first line of a part
  part_due : Loosenings → Part → SessionDue
  -- behind the number of its lemmas
  keep_due : Loosenings → ℕ → Part → SessionDue
  -- behind `keep`: the number of lemmas, and the states of those that are kept
  first_due : Loosenings → ℕ → List State → Part → SessionDue
  -- a later line of a part
  inside_due : Part → Due → SessionDue
  -- after the last line
  all_done : Loosenings → List Value → SessionDue

abbrev pub SessionNext : Type 0
SessionNext = NextOf SessionDue

-- the lemmas of a cover of p that a cover of q, the problem of the next check, may keep, as states of q; e says whether all commands of
-- the check are in force at the next one
abbrev pub kept_by : Bool → Problem → List State → Problem → List State
kept_by e p lemmas q = cond (e && not (is_crossed_box p) && not (is_crossed_box q)) (map (carried q) lemmas) []

-- ---- one line

-- a version of the format for several checks
abbrev pub is_session_version : ℕ → Bool
is_session_version v = nat_eq v 3 || nat_eq v 5

abbrev pub first_part : Problem → List (Problem × Bool) → Part
first_part p later = record { problem = p; may_keep = []; later = later; values = [] }

-- behind a part of p
abbrev pub next_part : Loosenings → Problem → List State → List Value → List (Problem × Bool) → SessionDue
next_part s p lemmas values [] = all_done s values
next_part s p lemmas values ((q, e) ∷ later) = part_due s (record { problem = q; may_keep = kept_by e p lemmas q; later = later; values = values })

-- in the header
abbrev pub in_header : Next → SessionNext
in_header (on (kind_due s)) = on (checks_due s)
in_header (on d) = on (header_due d)
in_header (faulty f) = faulty f

-- in a part, where `nothing_due` is its end; a point has no lemmas
abbrev pub inside : Part → Due → SessionDue
inside t (nothing_due s lemmas v) = next_part s t.problem lemmas (t.values ++ (v ∷ [])) t.later
inside t d = inside_due t d

abbrev pub in_part : Part → Next → SessionNext
in_part t (on d) = on (inside t d)
in_part t (faulty f) = faulty f

-- no tree of the part is complete yet
abbrev pub none_complete : Next → Next
none_complete (faulty Extra) = faulty Missing
none_complete x = x

-- of the checks p and those behind it, where the words give the bound b
abbrev pub session_next : Problem → List (Problem × Bool) → Option ℕ → SessionDue → CertLine → SessionNext
session_next p later b (header_due version_due) (version n) = given (is_session_version n) (header_due (margin_due n)) BadHeader
session_next p later b (header_due version_due) l = faulty BadHeader
session_next p later b (header_due d) l = in_header (next p b d l)
session_next p later b (checks_due s) (checks c) = given (nat_eq c (suc (length later))) (part_due s (first_part p later)) BadHeader
session_next p later b (checks_due s) l = faulty BadHeader
session_next p later b (part_due s t) (cover k) = given (nat_le k most_lemmas) (keep_due s k t) BadHeader
session_next p later b (part_due s t) point_word = in_part t (next t.problem b (kind_due s) point_word)
session_next p later b (part_due s t) l = faulty Missing
session_next p later b (keep_due s k t) (keep q) = given (nat_le q k && nat_le q (length t.may_keep)) (first_due s k (take q t.may_keep) t) KeepFails
session_next p later b (keep_due s k t) l = faulty Missing
session_next p later b (first_due s k kept t) l = in_part t (none_complete (next t.problem b (next_due s k kept) l))
session_next p later b (inside_due t d) l = in_part t (next t.problem b d l)
session_next p later b (all_done s values) l = faulty Extra

abbrev pub session_step : Problem → List (Problem × Bool) → Option ℕ → SessionDue → Parsed → SessionNext
session_step p later b d l = parsed_by (session_next p later b d) l

-- ---- all lines

abbrev pub SessionCourse : Type 0
SessionCourse = CourseOf SessionDue

abbrev pub session_start : SessionDue
session_start = header_due version_due

abbrev pub session_course : Problem → List (Problem × Bool) → Option ℕ → List (List ℕ) → SessionCourse
session_course p later b ls = course_by (session_step p later b) 0 session_start ls

abbrev pub SessionVerdict : Type 0
SessionVerdict = VerdictOf (List Value)

-- the input ends where this is due
abbrev pub missing_in_session : SessionDue → CertFault
missing_in_session (header_due d) = BadHeader
missing_in_session (checks_due s) = BadHeader
missing_in_session d = Missing

abbrev pub session_at_end : SessionDue → ℕ → SessionVerdict
session_at_end (all_done s values) n = accepted s values
session_at_end d n = refused (missing_in_session d) (suc n)

abbrev pub session_ended : SessionCourse → SessionVerdict
session_ended c = ended_by session_at_end c

-- the only value of a certificate of one check
abbrev pub one_verdict : Verdict → SessionVerdict
one_verdict (accepted s v) = accepted s (v ∷ [])
one_verdict (refused f n) = refused f n

-- of several checks: p, and those behind it
abbrev pub verdict_of_several : Problem → List (Problem × Bool) → Option ℕ → List ℕ → SessionVerdict
verdict_of_several p later b bytes = verdict_of (session_course p later b) session_ended (nat_le (length bytes) most_bytes) bytes

-- What bytes are to the problems of a script's checks, of which there is one at least: accepted, with the value of each part, or their
-- first fault with its line.
abbrev pub session_verdict : List (Problem × Bool) → Option ℕ → List ℕ → SessionVerdict
session_verdict [] b bytes = refused Missing 0
session_verdict ((p, e) ∷ []) b bytes = one_verdict (verdict p b bytes)
session_verdict ((p, e) ∷ later) b bytes = verdict_of_several p later b bytes

-- the bytes are accepted, with the margin and delta of their header, and these values, one for each check
abbrev pub AreAccepted : List (Problem × Bool) → Option ℕ → List ℕ → Loosenings → List Value → Type 0
AreAccepted ps b bytes s values = session_verdict ps b bytes ≡ accepted s values

-- ---- the lines of the main trees with their states

-- a line of the main tree of part k, where such a one is due
abbrev pub stands_in : ℕ → SessionDue → Parsed → List Stands
stands_in k (inside_due t d) l = cond (nat_eq (length t.values) k) (stands_at t.problem d l) []
stands_in k d l = []

-- the lines of the main tree of part k, from 0, in order, each where it stands
abbrev pub session_standing : List (Problem × Bool) → Option ℕ → List ℕ → ℕ → List Stands
session_standing [] b bytes k = []
session_standing ((p, e) ∷ []) b bytes k = cond (nat_eq k 0) (standing p b bytes) []
session_standing ((p, e) ∷ later) b bytes k = standing_by (session_step p later b) (stands_in k) session_start (lines_of bytes)

-- each line of the main tree of part k, which is one of p, is honest, where w is the number of bits of the least width
abbrev pub IsHonestPart : List (Problem × Bool) → Option ℕ → ℕ → List ℕ → ℕ → Problem → Type 0
IsHonestPart ps b w bytes k p = All (λ (x : Stands). IsTrue (is_honest p w x.loosenings x.line.state x.line.does)) (session_standing ps b bytes k)

-- the number of branch lines of part k
abbrev pub part_branches : List (Problem × Bool) → Option ℕ → List ℕ → ℕ → ℕ
part_branches ps b bytes k = branches_of (session_standing ps b bytes k)
