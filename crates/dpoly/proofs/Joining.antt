-- From certificates that were joined to the end of a run.
use Rattle.std.proofs.Common.{◌≡◌, ◌⊎◌, inl, inr, ℕ, List, [], ◌∷◌, ◌++◌, Option, Some, None, Result, Ok, Err, IfOk, MatchResult, Vec, Global, codes, take, length, refl, ap, sym, ◌∙◌, subst}
use Rattle.std.proofs.lemmas.Option.{none-some}
use Rattle.std.specs.declared.alloc.AllocError.{AllocError}
use Rattle.desk.specs.declared.desk.Port.TheVariants.{Answer}
use Rattle.desk.specs.Draft.{IsDrafted}
use Rattle.desk.specs.Sight.{Sight, SideFailed}
use Rattle.command_line.specs.Words.{Join, join}
use Rattle.poly_graph.specs.Problem.{Problem}
use Rattle.poly_graph.specs.ProblemViews.{Parts, problem_of}
use Rattle.cover_model.specs.State.{Loosenings}
use Rattle.cert_model.specs.Due as due
use Rattle.cert_model.specs.Due.{Value}
use Rattle.cert_model.specs.Accepted.{Verdict, accepted, refused, stopped, verdict}
use Rattle.cert_model.specs.AnswerText.{check_text, verdict_text}
use Rattle.cert_check.specs.declared.checker.Verdict as told
use Rattle.cover_line.specs.Views.{rule_word}
use Rattle.cert_check.specs.declared.fault.CertFault.{CertFault}
use Rattle.cert_check.specs.declared.fault.CertFault.TheVariants as numbered
use Rattle.cert_check.specs.declared.feed.Feed.{Feed}
use Rattle.cert_check.specs.Courses.{IsVerdict, verdict_of}
use Rattle.cert_check.specs.Faults.{stop_of}
use Rattle.cert_check.specs.Feeding.{IsRefusalOrMemory, IsVerdictOfTaken, IsVerdictOrMemory}
use Rattle.cert_join.specs.Drafting.{IsDraftFailed, IsReadFailed, IsSomeDrafted, IsUnwritten, IsWhole}
use Rattle.cert_join.specs.Joining.{IsJoinText}
use Rattle.cert_join.specs.declared.stop.Stop.TheVariants as stop
use Rattle.cert_joined.specs.Covers.{AreTextsOf, Cover, JoinsTexts}
use Rattle.cert_parting.specs.Calls.{IsPartingOn}
use Rattle.cert_parting.specs.Parting.{AreAgreed, IsFirstApart}
use Rattle.cert_parting.specs.declared.parting.Place.{Place}
use Rattle.script_fault.specs.declared.fault.ScriptFault.{ScriptFault}
use Rattle.script_reading.specs.Faults.{script_fault}
use Rattle.script_reading.specs.Reader.{HasProblem}
use Rattle.check_run.specs.declared.both.Unread.{Unread}
use Rattle.check_run.specs.declared.both.Unread.TheVariants as unread
use Rattle.check_run.specs.declared.script.Halt.{Halt}
use Rattle.check_run.specs.declared.script.Halt.TheVariants as halt
use Rattle.check_run.specs.declared.status.Status.{Status}
use Rattle.check_run.specs.declared.status.Status.TheVariants.{Answered, CertRefused, ScriptRefused, Usage, InFailed, OutFailed, NoMemory}
use Rattle.check_run.specs.Both.{IsScriptHeld, status_of}
use Rattle.check_run.specs.Can.{Can, CanBy, OfProblem}
use Rattle.check_run.specs.Course.{Course, Quiet, RunEnds, Ends, at_its_end, out_failed, no_memory, StartedEnds, Stopped, appended, draft_fails, goes_on, in_fails, no_memory_left, says}
use Rattle.check_run.specs.Joined.{AreAllAccepted, CanJoin, HasJoinedFault, IsNotJoined, IsUnjoined, apart_text, join_starts, joins, keeps, lemmas_line, not_joined_line, one_refused, part_line, refused_part_text, refuses}
use Rattle.check_run.specs.Joined as together
use Rattle.check_run.specs.Run.{HasCause, JoinHasCause, run_of}
use Rattle.check_run.specs.Script.{HaltEnds, IsHaltOfFault, IsTooLong}
use Rattle.check_run.specs.Several.{CanJoinOn, EndsKept, FetchesSeveral, IsHalted, TellsPart}
use Rattle.check_run.specs.Stops.{stop_text}
use Rattle.check_run.proofs.Ending.{appended-nil}
use Rattle.check_run.proofs.RunParts.{join_draft, run_started}
use Rattle.check_run.proofs.Running.{told as told_script}
use Rattle.dpoly.specs.declared.join.Joint.{Joint}
use Rattle.dpoly.specs.declared.join.Joint.TheVariants.{Whole, Dropped, Crowded, Refused}
use Rattle.dpoly.specs.Join.{AreCrowdedOrUnlike, EndsAccepted, EndsApart, EndsOnJoin, EndsOnJoint, EndsRefused, HaltsJoining, IsDraftedJoint, IsFirstFault, IsFirstFaultOn, IsJointOf, IsJointText, IsRefusalWith, IsToldJoint, IsUnread, fault_line}
use Rattle.dpoly.proofs.Halting.{by_text, long_halt}
use Rattle.dpoly.proofs.Joinable.{are_joinable}

-- ---- nothing written

-- the same starts and texts
quiet-same : (old new : Sight) → new.starts ≡ old.starts → new.cert_out ≡ old.cert_out → new.answer ≡ old.answer → Quiet [] old new
quiet-same old new starts cert answer = record { starts_made = 0; starts_are = starts ∙ sym (appended-nil old.starts); cert = cert; answer = answer }

drafted-quiet : (old new : Sight) (text : List ℕ) → IsDrafted old text new → Quiet [] old new
drafted-quiet old new text e = quiet-same old new (ap (λ (d : Sight). d.starts) e) (ap (λ (d : Sight). d.cert_out) e) (ap (λ (d : Sight). d.answer) e)

-- behind what was drafted
quiet-behind : (old mid new : Sight) (text : List ℕ) → IsDrafted old text mid → new.starts ≡ mid.starts → new.cert_out ≡ mid.cert_out → new.answer ≡ mid.answer → Quiet [] old new
quiet-behind old mid new text e starts cert answer = quiet-same old new (starts ∙ ap (λ (d : Sight). d.starts) e) (cert ∙ ap (λ (d : Sight). d.cert_out) e) (answer ∙ ap (λ (d : Sight). d.answer) e)

-- ---- the merge

pub read_failed : (old new : Sight) → IsReadFailed old new → HaltsJoining InFailed old new
read_failed old new h = record {
  halted = (h.side, quiet-same old new (ap (λ (d : Sight). d.starts) h.same) (ap (λ (d : Sight). d.cert_out) h.same) (ap (λ (d : Sight). d.answer) h.same));
  script = ap (λ (d : Sight). d.script) h.same;
}

pub draft_failed : (old new : Sight) → IsDraftFailed old new → HaltsJoining OutFailed old new
draft_failed old new h = record {
  halted = (h.side, quiet-same old new (ap (λ (d : Sight). d.starts) h.same) (ap (λ (d : Sight). d.cert_out) h.same) (ap (λ (d : Sight). d.answer) h.same));
  script = ap (λ (d : Sight). d.script) h.same;
}

pub memory_halts : (old new : Sight) → IsSomeDrafted old new → HaltsJoining NoMemory old new
memory_halts old new h = record { halted = drafted-quiet old new h.0 h.1; script = ap (λ (d : Sight). d.script) h.1 }

pub same_halts : (old new : Sight) → new ≡ old → HaltsJoining NoMemory old new
same_halts old new e = record { halted = quiet-same old new (ap (λ (d : Sight). d.starts) e) (ap (λ (d : Sight). d.cert_out) e) (ap (λ (d : Sight). d.answer) e); script = ap (λ (d : Sight). d.script) e }

-- what comes of it, or out of memory
abbrev pub EndsJoint : Problem → Option ℕ → ℕ → Sight → Sight → Result Joint Status → Type 0
EndsJoint p b count old new x = MatchResult x (λ joint. IsDraftedJoint p b count joint old new) (λ status. HaltsJoining status old new)

told-of : (p : Problem) (b : Option ℕ) (text : List ℕ) (r : Result told.Verdict CertFault) (joint : Joint) → IsVerdictOrMemory (verdict p b text) r → IsToldJoint r (Ok joint) → IsJointOf p b text joint
told-of p b text r (Whole w) h e = subst (λ (x : Result told.Verdict CertFault). IsVerdictOrMemory (verdict p b text) x) e h
told-of p b text r (Dropped w) h e = subst (λ (x : Result told.Verdict CertFault). IsVerdictOrMemory (verdict p b text) x) e h
told-of p b text r Crowded h e = absurd e
told-of p b text r (Refused line) h e = tt

-- ---- the line of a fault

some-same : (m n : ℕ) → Some m ≡ Some n → m ≡ n
some-same m n e = cc

-- it is the one where the certificate stops
stops-at : (fault : CertFault) (n : ℕ) → fault_line fault ≡ Some n → (f : due.CertFault) × (stop_of fault ≡ Some (stopped f n))
stops-at (numbered.BadHeader m) n e = (due.BadHeader, ap (λ (k : ℕ). Some (stopped due.BadHeader k)) (some-same m n e))
stops-at (numbered.BadNumber m) n e = (due.BadNumber, ap (λ (k : ℕ). Some (stopped due.BadNumber k)) (some-same m n e))
stops-at (numbered.RuleFails w m) n e = (due.RuleFails (rule_word w), ap (λ (k : ℕ). Some (stopped (due.RuleFails (rule_word w)) k)) (some-same m n e))
stops-at (numbered.KeepFails m) n e = (due.KeepFails, ap (λ (k : ℕ). Some (stopped due.KeepFails k)) (some-same m n e))
stops-at (numbered.OverFails m) n e = (due.OverFails, ap (λ (k : ℕ). Some (stopped due.OverFails k)) (some-same m n e))
stops-at (numbered.Missing m) n e = (due.Missing, ap (λ (k : ℕ). Some (stopped due.Missing k)) (some-same m n e))
stops-at (numbered.Extra m) n e = (due.Extra, ap (λ (k : ℕ). Some (stopped due.Extra k)) (some-same m n e))
stops-at (numbered.WrongBound m) n e = (due.WrongBound, ap (λ (k : ℕ). Some (stopped due.WrongBound k)) (some-same m n e))
stops-at (numbered.NotShown m) n e = (due.NotShown, ap (λ (k : ℕ). Some (stopped due.NotShown k)) (some-same m n e))
stops-at (numbered.BadLine m) n e = (due.BadLine, ap (λ (k : ℕ). Some (stopped due.BadLine k)) (some-same m n e))
stops-at (numbered.LineTooLong m) n e = (due.LineTooLong, ap (λ (k : ℕ). Some (stopped due.LineTooLong k)) (some-same m n e))
stops-at (numbered.TooLong m) n e = (due.TooLong, ap (λ (k : ℕ). Some (stopped due.TooLong k)) (some-same m n e))
stops-at numbered.Memory n e = absurd (let none : None ≡ Some n = e in cc)

refused-by : (v : Verdict) (fault : CertFault) (f : due.CertFault) (n : ℕ) → IsRefusalOrMemory v fault → stop_of fault ≡ Some (stopped f n) → v ≡ refused f n
refused-by v fault f n (inl m) e = absurd (let none : None ≡ Some (stopped f n) = sym (ap stop_of m) ∙ e in cc)
refused-by (accepted s x) fault f n (inr h) e = absurd h
refused-by (refused g m) fault f n (inr h) e = let same : Some (stopped g m) ≡ Some (stopped f n) = h ∙ e in cc

-- a text that joins covers has it
has-fault : (p : Problem) (b : Option ℕ) (parts : List (List ℕ)) (fault : CertFault) (f : due.CertFault) (n : ℕ) → stop_of fault ≡ Some (stopped f n) →
    ((first : Cover) (others : List Cover) → AreTextsOf (first ∷ others) parts → (text : List ℕ) × IsJoinText (first ∷ others) text × IsRefusalOrMemory (verdict p b text) fault) →
    HasJoinedFault p b parts f n
has-fault p b parts fault f n e h first others texts =
    let x = h first others texts in
    (x.1.0, x.1.1, ap (verdict p b) (sym x.1.2) ∙ refused-by (verdict p b x.0) fault f n x.2 e)

joins-told : (p : Problem) (b : Option ℕ) (parts : List (List ℕ)) (text : List ℕ) (r : Result told.Verdict CertFault) (joint : Joint) → IsVerdictOrMemory (verdict p b text) r → IsToldJoint r (Ok joint) → JoinsTexts parts text →
    IsJointText p b parts text joint
joins-told p b parts text r (Whole w) tells e h = h
joins-told p b parts text r (Dropped w) tells e h = h
joins-told p b parts text r Crowded tells e h = absurd e
joins-told p b parts text r (Refused line) tells e h =
    let at = stops-at e.0 line e.2 in
    let refusal : IsRefusalOrMemory (verdict p b text) e.0 = subst (λ (x : Result told.Verdict CertFault). IsVerdictOrMemory (verdict p b text) x) e.1 tells in
    (at.0, has-fault p b parts e.0 at.0 line at.1 (λ first others texts. (text, h first others texts, refusal)))

pub joint_told : (p : Parts) (b : Option ℕ) (count : ℕ) (old new : Sight) (f : Feed) (r : Result told.Verdict CertFault) (x : Result Joint Status) → IsWhole old p b count [] new f → IsVerdictOfTaken f r → IsToldJoint r x → EndsJoint (problem_of p) b count old new x
joint_told p b count old new f r (Ok joint) way tells is = record {
  text = way.text;
  drafted = way.by_now.drafted;
  of = told-of (problem_of p) b way.text r joint (tells p b way.text way.by_now.taken) is;
  joins = λ parts e n. joins-told (problem_of p) b parts way.text r joint (tells p b way.text way.by_now.taken) is (way.joins parts e n);
}
joint_told p b count old new f r (Err status) way tells is = subst (λ (s : Status). HaltsJoining s old new) (sym is) (memory_halts old new (way.text, way.by_now.drafted))

not-said : (fault : CertFault) (joint : Joint) (p : Problem) (b : Option ℕ) (text : List ℕ) → IsToldJoint (Err fault) (Ok joint) → IsJointOf p b text joint
not-said fault (Whole w) p b text e = cc
not-said fault (Dropped w) p b text e = cc
not-said fault Crowded p b text e = absurd e
not-said fault (Refused line) p b text e = tt

err-same : (f g : CertFault) → ◌≡◌ {A = Result told.Verdict CertFault} (Err f) (Err g) → f ≡ g
err-same f g e = cc

-- where the checker refused it on the way
not-joined : (p : Problem) (b : Option ℕ) (fault : CertFault) (joint : Joint) (parts : List (List ℕ)) (text : List ℕ) → IsToldJoint (Err fault) (Ok joint) →
    ((first : Cover) (others : List Cover) → AreTextsOf (first ∷ others) parts → (text : List ℕ) × IsJoinText (first ∷ others) text × IsRefusalOrMemory (verdict p b text) fault) → IsJointText p b parts text joint
not-joined p b fault (Whole w) parts text e h = cc
not-joined p b fault (Dropped w) parts text e h = cc
not-joined p b fault Crowded parts text e h = absurd e
not-joined p b fault (Refused line) parts text e h =
    let at = stops-at fault line (ap fault_line (err-same fault e.0 e.1) ∙ e.2) in (at.0, has-fault p b parts fault at.0 line at.1 h)

pub joint_refused : (p : Parts) (b : Option ℕ) (count : ℕ) (old new : Sight) (fault : CertFault) (x : Result Joint Status) → IsUnwritten old p b count [] (stop.Refused fault) new → IsToldJoint (Err fault) x →
    EndsJoint (problem_of p) b count old new x
joint_refused p b count old new fault (Ok joint) h is = record {
  text = h.stopped.0;
  drafted = h.stopped.1;
  of = not-said fault joint (problem_of p) b h.stopped.0 is;
  joins = λ parts e n. not-joined (problem_of p) b fault joint parts h.stopped.0 is (λ first others texts. h.reason parts first others e n texts);
}
joint_refused p b count old new fault (Err status) h is = subst (λ (s : Status). HaltsJoining s old new) (sym is) (memory_halts old new h.stopped)

-- the joiner stopped
pub joint_unlike : (p : Parts) (b : Option ℕ) (count : ℕ) (old new : Sight) → IsUnwritten old p b count [] stop.Unlike new → IsDraftedJoint (problem_of p) b count Crowded old new
joint_unlike p b count old new h = record { text = h.stopped.0; drafted = h.stopped.1; of = tt; joins = λ parts e n first others texts j. absurd (h.reason parts first others e n texts j) }

pub joint_crowded : (p : Parts) (b : Option ℕ) (count : ℕ) (old new : Sight) → IsUnwritten old p b count [] stop.Crowded new → IsDraftedJoint (problem_of p) b count Crowded old new
joint_crowded p b count old new h = record { text = h.stopped.0; drafted = h.stopped.1; of = tt; joins = λ parts e n first others texts j. h.reason parts first others e n texts }

-- ---- causes

pub cause_halts : (words : Join) (status : Status) (old new : Sight) → IsHalted [] status old new → HasCause (run_of (Some (join words)) old new status)
cause_halts words InFailed old new h = (tt, h.0)
cause_halts words OutFailed old new h = h.0
cause_halts words NoMemory old new h = tt
cause_halts words Answered old new h = absurd h
cause_halts words CertRefused old new h = absurd h
cause_halts words ScriptRefused old new h = absurd h
cause_halts words Usage old new h = absurd h

-- from a sight that failed as often
pub cause_from : (old mid new : Sight) (status : Status) → mid.in_faults ≡ old.in_faults → mid.out_faults ≡ old.out_faults → JoinHasCause mid new status → JoinHasCause old new status
cause_from old mid new status ins outs h words = by status (h words) where
  by : (s : Status) → HasCause (run_of (Some (join words)) mid new s) → HasCause (run_of (Some (join words)) old new s)
  by Answered h = h
  by CertRefused h = h
  by ScriptRefused h = h
  by Usage h = h
  by InFailed h = (h.0, subst (λ (n : ℕ). SideFailed n new.in_faults) ins h.1)
  by OutFailed h = subst (λ (n : ℕ). SideFailed n new.out_faults) outs h
  by NoMemory h = h

pub cause_drafted : (old mid new : Sight) (text : List ℕ) (status : Status) → IsDrafted old text mid → JoinHasCause mid new status → JoinHasCause old new status
cause_drafted old mid new text status e h = cause_from old mid new status (ap (λ (d : Sight). d.in_faults) e) (ap (λ (d : Sight). d.out_faults) e) h

pub cause_same : (old mid new : Sight) (status : Status) → mid ≡ old → JoinHasCause mid new status → JoinHasCause old new status
cause_same old mid new status e h = cause_from old mid new status (ap (λ (d : Sight). d.in_faults) e) (ap (λ (d : Sight). d.out_faults) e) h

pub cause_unread : (e : Unread) (old new : Sight) → IsUnread e old new → JoinHasCause old new (status_of e)
cause_unread unread.Failed old new h words = (tt, h.side)
cause_unread unread.Memory old new h words = tt

pub unread_script : (e : Unread) (old new : Sight) → IsUnread e old new → new.script ≡ old.script
unread_script unread.Failed old new h = ap (λ (d : Sight). d.script) h.same
unread_script unread.Memory old new h = ap (λ (d : Sight). d.script) h

-- ---- ends

pub widen : (some cant : Course → Type 0) (old new : Sight) (status : Status) → ((course : Course) → some course → cant course) → StartedEnds some old new status → StartedEnds cant old new status
widen some cant old new status f (goes_on course can ends) = goes_on course (f course can) ends
widen some cant old new status f (in_fails is side quiet) = in_fails is side quiet
widen some cant old new status f (draft_fails is side quiet) = draft_fails is side quiet
widen some cant old new status f (no_memory_left is quiet) = no_memory_left is quiet

pub unread_ends : (can : Course → Type 0) (e : Unread) (old mid new : Sight) (text : List ℕ) → IsDrafted old text mid → IsUnread e mid new → StartedEnds can old new (status_of e)
unread_ends can unread.Failed old mid new text drafts h =
    in_fails refl (subst (λ (d : Sight). SideFailed d.in_faults new.in_faults) drafts h.side) (quiet-behind old mid new text drafts (ap (λ (d : Sight). d.starts) h.same) (ap (λ (d : Sight). d.cert_out) h.same) (ap (λ (d : Sight). d.answer) h.same))
unread_ends can unread.Memory old mid new text drafts h =
    no_memory_left refl (quiet-behind old mid new text drafts (ap (λ (d : Sight). d.starts) h) (ap (λ (d : Sight). d.cert_out) h) (ap (λ (d : Sight). d.answer) h))

pub halts_end : (can : Course → Type 0) (status : Status) (old new : Sight) → IsHalted [] status old new → StartedEnds can old new status
halts_end can InFailed old new h = in_fails refl h.0 h.1
halts_end can OutFailed old new h = draft_fails refl h.0 h.1
halts_end can NoMemory old new h = no_memory_left refl h
halts_end can Answered old new h = absurd h
halts_end can CertRefused old new h = absurd h
halts_end can ScriptRefused old new h = absurd h
halts_end can Usage old new h = absurd h

-- a course that writes no certificate, behind what was drafted
module _ (old mid new : Sight) (text : List ℕ) (status : Status) (said : List ℕ) (drafts : IsDrafted old text mid) where
  said-stopped : Stopped (says CertRefused said) mid new → Stopped (says CertRefused said) old new
  said-stopped broke = record {
    starts_made = broke.starts_made;
    cert_bytes = broke.cert_bytes;
    answer_bytes = broke.answer_bytes;
    starts = broke.starts ∙ ap (λ (d : Sight). appended d.starts (take broke.starts_made ((Answer, codes "-") ∷ []))) drafts;
    cert = broke.cert ∙ ap (λ (d : Sight). appended d.cert_out (take broke.cert_bytes [])) drafts;
    answer = broke.answer ∙ ap (λ (d : Sight). appended d.answer (take broke.answer_bytes said)) drafts;
    order = broke.order;
  }

  pub said_ends : Ends (says CertRefused said) mid new status → Ends (says CertRefused said) old new status
  said_ends (at_its_end is went) = at_its_end is (record {
    starts = went.starts ∙ ap (λ (d : Sight). appended d.starts ((Answer, codes "-") ∷ [])) drafts;
    cert = went.cert ∙ ap (λ (d : Sight). appended d.cert_out []) drafts;
    answer = went.answer ∙ ap (λ (d : Sight). appended d.answer said) drafts;
    in_faults = went.in_faults ∙ ap (λ (d : Sight). d.in_faults) drafts;
    out_faults = went.out_faults ∙ ap (λ (d : Sight). d.out_faults) drafts;
  })
  said_ends (out_failed is side broke) = out_failed is (subst (λ (d : Sight). SideFailed d.out_faults new.out_faults) drafts side) (said-stopped broke)
  said_ends (no_memory is broke) = no_memory is (said-stopped broke)

pub refused_ends : (text : Vec ℕ Global) (bytes : List ℕ) (mid new : Sight) (status : Status) → bytes ≡ text.items → Ends (says CertRefused bytes) mid new status → (old : Sight) (t : List ℕ) → IsDrafted old t mid →
    StartedEnds (IsRefusalWith (Ok text)) old new status
refused_ends text bytes mid new status e ends old t drafts =
    goes_on (says CertRefused text.items) refl (said_ends old mid new t status text.items drafts (subst (λ (l : List ℕ). Ends (says CertRefused l) mid new status) e ends))

pub unsaid_ends : (e : AllocError) (mid new : Sight) → new ≡ mid → (old : Sight) (t : List ℕ) → IsDrafted old t mid → StartedEnds (IsRefusalWith (Err e)) old new NoMemory
unsaid_ends e mid new same old t drafts = no_memory_left refl (drafted-quiet old new t (same ∙ drafts))

-- ---- what is answered of certificates that are all accepted

value-of : (p : Problem) (b : Option ℕ) (text : List ℕ) (w : told.Verdict) (v : Verdict) → verdict p b text ≡ v → IsVerdict v (Ok w) → (s : Loosenings) × (x : Value) × (verdict p b text ≡ accepted s x) × (w ≡ verdict_of s x)
value-of p b text w (accepted s x) e h = (s, x, e, h)
value-of p b text w (refused g n) e h = absurd h

-- whether lines were dropped or not
pub verdict_in : (p : Problem) (b : Option ℕ) (text : List ℕ) (joint : Joint) (w : told.Verdict) → (joint ≡ Whole w) ⊎ (joint ≡ Dropped w) → IsJointOf p b text joint → IsVerdict (verdict p b text) (Ok w)
verdict_in p b text joint w (inl e) of = subst (λ (j : Joint). IsJointOf p b text j) e of
verdict_in p b text joint w (inr e) of = subst (λ (j : Joint). IsJointOf p b text j) e of

pub joins_in : (p : Problem) (b : Option ℕ) (parts : List (List ℕ)) (text : List ℕ) (joint : Joint) (w : told.Verdict) → (joint ≡ Whole w) ⊎ (joint ≡ Dropped w) → IsJointText p b parts text joint → JoinsTexts parts text
joins_in p b parts text joint w (inl e) h = subst (λ (j : Joint). IsJointText p b parts text j) e h
joins_in p b parts text joint w (inr e) h = subst (λ (j : Joint). IsJointText p b parts text j) e h

-- why certificates that agree are not joined
pub crowded_why : (p : Problem) (b : Option ℕ) (parts : List (List ℕ)) (text : List ℕ) (joint : Joint) → joint ≡ Crowded → AreAllAccepted p b parts → IsJointText p b parts text joint → AreAgreed parts → IsUnjoined p b parts lemmas_line
crowded_why p b parts text joint e all so agreed =
    let h : AreCrowdedOrUnlike parts = subst (λ (j : Joint). IsJointText p b parts text j) e so in
    inl (refl, λ first others texts. h first others texts (are_joinable p b (first ∷ others) parts texts all agreed))

pub refused_why : (p : Problem) (b : Option ℕ) (parts : List (List ℕ)) (text : List ℕ) (joint : Joint) (line : ℕ) → joint ≡ Refused line → IsJointText p b parts text joint → IsUnjoined p b parts line
refused_why p b parts text joint line e so = inr (subst (λ (j : Joint). IsJointText p b parts text j) e so)

pub kept_joins : (p : Problem) (b : Option ℕ) (parts : List (List ℕ)) (w : told.Verdict) (mid new : Sight) (status : Status) → EndsKept w mid new status → (old : Sight) (text : List ℕ) → IsDrafted old text mid → IsVerdict (verdict p b text) (Ok w) →
    JoinsTexts parts text → StartedEnds (CanJoin p b parts) old new status
kept_joins p b parts w mid new status ends old text drafts is so =
    let x = value-of p b text w (verdict p b text) refl is in
    widen (λ course. course ≡ keeps text (check_text x.0 x.1)) (CanJoin p b parts) old new status (λ course e. joins text x.0 x.1 x.2 so e) (ends old text x.0 x.1 drafts x.3)

refuses-with : (p : Problem) (b : Option ℕ) (parts : List (List ℕ)) (r : Result (Vec ℕ Global) AllocError) (course : Course) → IfOk r (λ text. IsNotJoined p b parts text.items) → IsRefusalWith r course → CanJoin p b parts course
refuses-with p b parts (Ok text) course reason e = refuses text.items reason e
refuses-with p b parts (Err e) course reason h = absurd h

pub refused_joins : (p : Problem) (b : Option ℕ) (parts : List (List ℕ)) (r : Result (Vec ℕ Global) AllocError) (old new : Sight) (status : Status) → IfOk r (λ text. IsNotJoined p b parts text.items) → StartedEnds (IsRefusalWith r) old new status →
    StartedEnds (CanJoin p b parts) old new status
refused_joins p b parts r old new status reason ends = widen (IsRefusalWith r) (CanJoin p b parts) old new status (λ course h. refuses-with p b parts r course reason h) ends

pub apart_reason : (p : Problem) (b : Option ℕ) (parts : List (List ℕ)) (r : Result (Vec ℕ Global) AllocError) (k n : ℕ) → AreAllAccepted p b parts → IsFirstApart parts k n → IfOk r (λ text. text.items ≡ apart_text k n) → IfOk r (λ text. IsNotJoined p b parts text.items)
apart_reason p b parts (Ok text) k n all first e = together.apart k n all first e
apart_reason p b parts (Err e) k n all first h = tt

pub joined_reason : (p : Problem) (b : Option ℕ) (parts : List (List ℕ)) (r : Result (Vec ℕ Global) AllocError) (n : ℕ) → AreAllAccepted p b parts → AreAgreed parts → IsUnjoined p b parts n → IfOk r (λ text. text.items ≡ not_joined_line n) → IfOk r (λ text. IsNotJoined p b parts text.items)
joined_reason p b parts (Ok text) n all agreed why e = together.joined_refused n all agreed why e
joined_reason p b parts (Err e) n all agreed why h = tt

-- the certificates of a desk, behind what was drafted
module _ (count : ℕ) (mid read new : Sight) (same : read ≡ mid) (status : Status) (r : Result (Vec ℕ Global) AllocError) (ends : EndsRefused r read new status) where
  pub parted_ends : (place : Place) → IsPartingOn count mid (Some place) → IfOk r (λ text. text.items ≡ apart_text place.number place.line) → (line : ℕ) → EndsApart count line mid new status
  parted_ends place first tells line = λ p b parts old text drafts e n all why.
      refused_joins p b parts r old new status (apart_reason p b parts r place.number place.line all (first parts (ap (λ (d : Sight). d.parts) drafts ∙ e) n) tells) (ends old text (same ∙ drafts))

  pub agreed_ends : (line : ℕ) → IsPartingOn count mid None → IfOk r (λ text. text.items ≡ not_joined_line line) → EndsApart count line mid new status
  agreed_ends line agreed tells = λ p b parts old text drafts e n all why.
      let all-agree = agreed parts (ap (λ (d : Sight). d.parts) drafts ∙ e) n in
      refused_joins p b parts r old new status (joined_reason p b parts r line all all-agree (why all-agree) tells) (ends old text (same ∙ drafts))

pub unread_apart : (count line : ℕ) (e : Unread) (mid new : Sight) → IsUnread e mid new → EndsApart count line mid new (status_of e)
unread_apart count line e mid new h = λ p b parts old text drafts f n all why. unread_ends (CanJoin p b parts) e old mid new text drafts h

-- one is refused
part-reason : (p : Problem) (b : Option ℕ) (parts : List (List ℕ)) (k : ℕ) (f : CertFault) (text : List ℕ) → IsFirstFault p b parts (Some (k, f)) → TellsPart k f text → IsNotJoined p b parts text
part-reason p b parts k f text (inl m) tells = absurd (none-some tells.said (sym (ap (λ (x : CertFault). stop_text (stop_of x)) m) ∙ tells.fault_is))
part-reason p b parts k f text (inr (g, n, first, stops)) tells =
    let same : ◌≡◌ {A = Option (List ℕ)} (Some (verdict_text (refused g n))) (Some tells.said) = ap stop_text stops ∙ tells.fault_is in
    let said : verdict_text (refused g n) ≡ tells.said = cc in
    one_refused k g n first (tells.text_is ∙ ap (λ (l : List ℕ). part_line k ++ l) (sym said))

pub first_reason : (p : Problem) (b : Option ℕ) (parts : List (List ℕ)) (k : ℕ) (f : CertFault) (r : Result (Vec ℕ Global) AllocError) → IsFirstFault p b parts (Some (k, f)) → IfOk r (λ text. TellsPart k f text.items) → IfOk r (λ text. IsNotJoined p b parts text.items)
first_reason p b parts k f (Ok text) first tells = part-reason p b parts k f text.items first tells
first_reason p b parts k f (Err e) first tells = tt

-- ---- each certificate by itself

module _ (p : Problem) (b : Option ℕ) (count : ℕ) (joint : Joint) (mid : Sight) where
  pub alone_refused : (k : ℕ) (f : CertFault) (r : Result (Vec ℕ Global) AllocError) (read new : Sight) (status : Status) → IsFirstFaultOn p b count mid (Some (k, f)) → read ≡ mid → IfOk r (λ text. TellsPart k f text.items) → EndsRefused r read new status →
      EndsOnJoint p b count joint mid new status
  alone_refused k f r read new status first same tells ends = λ old text parts drafts of e n so.
      refused_joins p b parts r old new status (first_reason p b parts k f r (first parts (ap (λ (d : Sight). d.parts) drafts ∙ e) n) tells) (ends old text (same ∙ drafts))

  pub alone_accepted : (read new : Sight) (status : Status) → IsFirstFaultOn p b count mid None → read ≡ mid → EndsAccepted count joint read new status → EndsOnJoint p b count joint mid new status
  alone_accepted read new status first same ends = λ old text parts drafts of e n so. ends p b parts old text (same ∙ drafts) of so e n (first parts (ap (λ (d : Sight). d.parts) drafts ∙ e) n)

  pub alone_unread : (e : Unread) (new : Sight) → IsUnread e mid new → EndsOnJoint p b count joint mid new (status_of e)
  alone_unread e new h = λ old text parts drafts of f n so. unread_ends (CanJoin p b parts) e old mid new text drafts h

-- ---- what was drafted

module _ (p : Problem) (b : Option ℕ) (count : ℕ) (old : Sight) where
  pub whole_ends : (w : told.Verdict) (mid new : Sight) (status : Status) → IsDraftedJoint p b count (Whole w) old mid → EndsKept w mid new status → EndsOnJoin p b count old new status
  whole_ends w mid new status d ends = λ parts e n. kept_joins p b parts w mid new status ends old d.text d.drafted d.of (d.joins parts e n)

  pub joint_ends : (joint : Joint) (mid new : Sight) (status : Status) → IsDraftedJoint p b count joint old mid → EndsOnJoint p b count joint mid new status → EndsOnJoin p b count old new status
  joint_ends joint mid new status d ends = λ parts e n. ends old d.text parts d.drafted d.of e n (d.joins parts e n)

  pub halted_ends : (new : Sight) (status : Status) → HaltsJoining status old new → EndsOnJoin p b count old new status
  halted_ends new status h = λ parts e n. halts_end (CanJoin p b parts) status old new h.halted

-- ---- behind the script

halt-ends : (f : Option ScriptFault) (goes : Course → Type 0) (h : Halt) (old new : Sight) (status : Status) → IsHaltOfFault f h → HaltEnds h old new status → StartedEnds (CanBy f goes) old new status
halt-ends f goes (halt.Refused text) old new status is ends = goes_on (says ScriptRefused text.items) (by_text f text.items goes is) ends
halt-ends f goes halt.Failed old new status is ends = absurd is
halt-ends f goes halt.Memory old new status is ends = no_memory_left ends.0 (quiet-same old new (ap (λ (d : Sight). d.starts) ends.1) (ap (λ (d : Sight). d.cert_out) ends.1) (ap (λ (d : Sight). d.answer) ends.1))

module _ (b : Option ℕ) (script : List ℕ) (parts : List (List ℕ)) where
  abbrev Goes : Course → Type 0
  Goes course = OfProblem b script (λ p. CanJoin p b parts) course

  pub long_ends : (o : Option (Vec ℕ Global)) (h : Halt) (old new : Sight) (status : Status) → o ≡ None → IsScriptHeld o script → IsTooLong h → HaltEnds h old new status → StartedEnds (CanJoinOn b script parts) old new status
  long_ends o h old new status e held is ends =
      halt-ends (script_fault b script) Goes h old new status (long_halt b script h (subst (λ (x : Option (Vec ℕ Global)). IsScriptHeld x script) e held) is) ends

  pub faulty_ends : (h : Halt) (old new : Sight) (status : Status) → IsHaltOfFault (script_fault b script) h → HaltEnds h old new status → StartedEnds (CanJoinOn b script parts) old new status
  faulty_ends h old new status is ends = halt-ends (script_fault b script) Goes h old new status is ends

  goes-course : (p : Problem) → HasProblem b p script → (course : Course) → CanJoin p b parts course → CanJoinOn b script parts course
  goes-course p has course can = subst (λ (f : Option ScriptFault). CanBy f Goes course) (sym has.clean) (p, has.built, can)

  pub problem_ends : (p : Problem) (old new : Sight) (status : Status) → HasProblem b p script → StartedEnds (CanJoin p b parts) old new status → StartedEnds (CanJoinOn b script parts) old new status
  problem_ends p old new status has ends = widen (CanJoin p b parts) (CanJoinOn b script parts) old new status (λ course can. goes-course p has course can) ends

-- a run behind its script and the starts of its certificates
pub run_several : (words : Join) (script cert_in : List ℕ) (parts : List (List ℕ)) (x : Option (Vec ℕ Global)) (count : ℕ) (old mid new : Sight) (status : Status) → FetchesSeveral words x old mid → old.script ≡ Some script → old.parts ≡ Some parts →
    length parts ≡ length words.certs → count ≡ length words.certs →
    ((text : List ℕ) (shown : List (List ℕ)) → IsScriptHeld x text → mid.parts ≡ Some shown → length shown ≡ count → StartedEnds (CanJoinOn words.bound text shown) mid new status) →
    RunEnds (Can (Some (join words)) script cert_in parts) (join_starts words) old new status
run_several words script cert_in parts x count old mid new status fetched e f n k ends =
    run_started (join_starts words) (CanJoinOn words.bound script parts) (Can (Some (join words)) script cert_in parts) old mid new status (join_draft words) fetched.after (λ tail can. (tail, can, refl))
    (ends script parts (told_script (IsScriptHeld x) old.script script e fetched.script_is) (fetched.parts ∙ f) (n ∙ sym k))
