-- The parts of the code as the definitions see them.
use Rattle.std.specs.Prelude.{◌≡◌, ℕ, suc, List, [], Bool, Option, Some, None, Result, Ok, Err, map, drop, slice_get, slice_index_or, length}
use Rattle.std.specs.Borrow.{Bor}
use Rattle.cover_model.specs.State.{State}
use Rattle.poly_graph.specs.ProblemViews.{Parts, problem_of}
use Rattle.problem_session.specs.Session.{problems_of}
use Rattle.cert_read.specs.CertLine.{CertLine}
use Rattle.cert_model.specs.Due.{Value, at_point, left_open, NextOf, Next, on}
use Rattle.cert_model.specs.Session as model
use Rattle.cert_model.specs.Session.{header_due, checks_due, part_due, keep_due, first_due, inside_due, all_done, inside, next_part, in_header, none_complete, SessionDue}
use Rattle.cert_model.specs.SessionLaws.{IsSession}
use Rattle.cert_check.specs.declared.part.Outcome.{Outcome}
use Rattle.cert_check.specs.declared.part.Outcome.TheVariants.{Point, Left}
use Rattle.cert_check.specs.declared.part.Part.{Part}
use Rattle.cert_check.specs.declared.due.Due.{Due}
use Rattle.cert_check.specs.declared.due.Due.TheVariants as due-variant
use Rattle.cert_check.specs.declared.loosenings.Loosenings.{Loosenings}
use Rattle.cert_check.specs.declared.work.Work as held
use Rattle.cert_check.specs.declared.work.Work.TheVariants as work
use Rattle.cert_check.specs.declared.refusal.Refusal.{Refusal}
use Rattle.cert_check.specs.States.{loosenings_of}
use Rattle.cert_check.specs.Dues.{blanks, next_map, due_of, AllFit, IsSound}
use Rattle.cert_check.specs.Serving.{Serves}
use Rattle.cert_check.specs.Faults.{IsRefused}
use Rattle.cert_check.specs.Work.{Work, alone, together, Checks, lean_work, work_next}

-- ---- views

abbrev pub outcome_value : Outcome → Value
outcome_value Point = at_point []
outcome_value (Left n) = left_open (blanks n)

abbrev pub values_of : List Outcome → List Value
values_of os = map outcome_value os

-- the checks from the one of this number on; there is none behind the only one
abbrev pub checks_from : Option (Bor (List (Parts × Bool))) → ℕ → List (Parts × Bool)
checks_from None n = []
checks_from (Some s) n = drop n s.now

-- the problem of the first check, where this is the only one or one of a session
abbrev pub first_of : Option (Bor (List (Parts × Bool))) → Parts → Parts
first_of None p = p
first_of (Some s) p = slice_index_or (map (λ (q : Parts × Bool). q.0) s.now) 0 p

abbrev pub checks_of : Part → Option ℕ → Checks
checks_of t bound = record { problem = first_of t.session t.problem; later = checks_from t.session 1; bound = bound }

abbrev pub part_of : Part → model.Part
part_of t = record {
  problem = problem_of t.problem;
  may_keep = t.may_keep;
  later = problems_of (checks_from t.session (suc t.number));
  values = values_of t.values.items;
}

-- behind `keep`, or in a point
abbrev pub spent_part_of : Part → model.Part
spent_part_of t = record (part_of t) { may_keep = [] }

abbrev pub work_of : Part → held.Work → Work
work_of t (work.Alone d) = alone (due_of t.problem d)
work_of t (work.Header d) = together (header_due (due_of t.problem d))
work_of t (work.Checks s) = together (checks_due (loosenings_of s))
work_of t (work.Part s) = together (part_due (loosenings_of s) (part_of t))
work_of t (work.Keep s k) = together (keep_due (loosenings_of s) k (part_of t))
work_of t (work.First c) = together (first_due (loosenings_of c.loosenings) c.count c.lemmas (spent_part_of t))
work_of t (work.Inside d) = together (inside_due (spent_part_of t) (due_of t.problem d))
work_of t (work.Done s) = together (all_done (loosenings_of s) (values_of t.values.items))

-- ---- what holds of a part in work

-- the problem is that of the check of this number, in a session whose problems go on one from the other
abbrev pub IsPlace : Option (Bor (List (Parts × Bool))) → ℕ → Parts → Type 0
IsPlace None n p = Unit {0}
IsPlace (Some s) n p = (slice_get (map (λ (q : Parts × Bool). q.0) s.now) n ≡ Some p) × IsSession (problems_of s.now)

pub record IsPart (t : Part) : Type 0 where
  pub serves : Serves t.problem t.tools
  pub place : IsPlace t.session t.number t.problem

-- the first check
pub record IsFirst (t : Part) : Type 0 where
  pub number : t.number ≡ 0
  pub may_keep : t.may_keep ≡ []
  pub values : t.values.items ≡ []

abbrev pub IsSoundWork : Part → held.Work → Type 0
IsSoundWork t (work.Alone d) = (t.number ≡ 0) × IsSound t.problem d
IsSoundWork t (work.Header d) = IsFirst t × IsSound t.problem d
IsSoundWork t (work.Checks s) = IsFirst t
IsSoundWork t (work.Part s) = AllFit t.problem t.may_keep
IsSoundWork t (work.Keep s k) = AllFit t.problem t.may_keep
IsSoundWork t (work.First c) = AllFit t.problem c.lemmas
IsSoundWork t (work.Inside d) = IsSound t.problem d
IsSoundWork t (work.Done s) = Unit {0}

-- ---- what comes of a line

-- the outcome of a line: what is due next, in this part, or its fault
abbrev pub IsWorkOutcome : Part → Result held.Work Refusal → NextOf Work → Type 0
IsWorkOutcome t (Ok w) x = next_map lean_work x ≡ on (work_of t w)
IsWorkOutcome t (Err r) x = IsRefused r x

-- the outcome of a line where this is due in the old part
abbrev pub IsWorkNext : Part → Option ℕ → held.Work → CertLine → Part → Result held.Work Refusal → Type 0
IsWorkNext old bound w line new r = IsWorkOutcome new r (work_next (checks_of old bound) (work_of old w) line)

-- the same checks, of which another part may be in work
abbrev pub AreSameChecks : Part → Part → Type 0
AreSameChecks old new = (bound : Option ℕ) → checks_of new bound ≡ checks_of old bound

-- where this is due in the old part, in the new one this work is: behind its end that of the next part
abbrev pub IsInside : Part → Due → Part → held.Work → Type 0
IsInside old d new w = lean_work (together (inside (spent_part_of old) (due_of old.problem d))) ≡ work_of new w

-- the same where the old part had these lemmas and its value stands among the others
abbrev pub IsBehind : Part → Loosenings → List State → Part → held.Work → Type 0
IsBehind old s Ls new w =
    lean_work (together (next_part (loosenings_of s) (problem_of old.problem) Ls (values_of old.values.items) (problems_of (checks_from old.session (suc old.number))))) ≡ work_of new w

-- ---- changes of a part in work

-- nothing but the tools changed
pub record IsTooled (old new : Part) : Type 0 where
  pub session : new.session ≡ old.session
  pub number : new.number ≡ old.number
  pub problem : new.problem ≡ old.problem
  pub may_keep : new.may_keep ≡ old.may_keep
  pub values : new.values ≡ old.values

-- the lemmas of the part before are gone
pub record IsSpent (old new : Part) : Type 0 where
  pub session : new.session ≡ old.session
  pub number : new.number ≡ old.number
  pub problem : new.problem ≡ old.problem
  pub tools : new.tools ≡ old.tools
  pub may_keep : new.may_keep ≡ []
  pub values : new.values ≡ old.values

-- in a header this is due where that is in the header of a certificate of one check
abbrev pub IsInHeader : Due → held.Work → Type 0
IsInHeader d w = (t : Part) → next_map (λ (e : SessionDue). together e) (in_header (on (due_of t.problem d))) ≡ on (work_of t w)

-- the fault of the first line behind `keep`
abbrev pub IsNoneComplete : Refusal → Refusal → Type 0
IsNoneComplete r r' = (x : Next) → IsRefused r x → IsRefused r' (none_complete x)

-- a line behind the version
abbrev pub IsNoVersion : Due → Type 0
IsNoVersion due-variant.Version = ⊥
IsNoVersion d = Unit {0}
