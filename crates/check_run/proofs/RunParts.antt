-- A run from its script and several certificates on.
use Rattle.std.proofs.Common.{◌≡◌, ◌≤◌, inl, inr, ℕ, List, [], ◌∷◌, Option, Some, length, refl, subst, ◌∙◌, append-nil}
use Rattle.std.specs.Prelude.{◌≢◌}
use Rattle.std.specs.declared.vec.Vec.{Vec}
use Rattle.std.specs.declared.alloc.Global.{Global}
use Rattle.desk.specs.Sight.{Sight, SideFailed}
use Rattle.command_line.specs.Words.{Join, join}
use Rattle.script_reading.specs.Faults.{most_bytes}
use Rattle.check_run.specs.declared.status.Status.{Status}
use Rattle.check_run.specs.declared.status.Status.TheVariants.{Answered, CertRefused, ScriptRefused, Usage, InFailed, OutFailed, NoMemory}
use Rattle.check_run.specs.Both.{IsScriptHeld}
use Rattle.check_run.specs.Course.{Start, Course, HasDraft, Quiet, RunEnds, StartedEnds, behind, draft_fails, draft_failed, goes_on, in_failed, in_fails, no_memory_left, no_memory_yet, on_course}
use Rattle.check_run.specs.Joined.{join_starts, several_starts}
use Rattle.check_run.specs.Parts.{After}
use Rattle.check_run.specs.Run.{HasCause, ScriptIsRead, run_of}
use Rattle.check_run.specs.Several.{FetchesSeveral, HaltsSeveral, IsHalted}
use Rattle.check_run.proofs.Ending.{ends_behind, quiet_behind}
use Rattle.check_run.proofs.Running.{told}
use Rattle.check_run.proofs.Starting.{held_some}

-- ---- the ends of a run behind its starts

has-some : (starts : List Start) → HasDraft starts → starts ≢ []
has-some [] h = absurd h
has-some (s ∷ starts) h = λ e. cc

module _ (starts : List Start) (some cant : Course → Type 0) (old mid new : Sight) (status : Status) (drafts : HasDraft starts) (after : After starts old mid) where
  quiet-started : Quiet [] mid new → Quiet starts old new
  quiet-started quiet = subst (λ (l : List Start). Quiet l old new) (append-nil starts) (quiet_behind starts [] old mid new after quiet)

  pub run_started : ((tail : Course) → some tail → cant (behind starts tail)) → StartedEnds some mid new status → RunEnds cant starts old new status
  run_started lift (goes_on tail can ends) = on_course (behind starts tail) (lift tail can) (ends_behind starts tail old mid new status after ends)
  run_started lift (in_fails is side quiet) = in_failed is (has-some starts drafts) (subst (λ (n : ℕ). SideFailed n new.in_faults) after.in_faults side) (quiet-started quiet)
  run_started lift (draft_fails is side quiet) = draft_failed is drafts (subst (λ (n : ℕ). SideFailed n new.out_faults) after.out_faults side) (quiet-started quiet)
  run_started lift (no_memory_left is quiet) = no_memory_yet is (quiet-started quiet)

-- a draft is among the starts of `join`
several-draft : (names : List (List ℕ)) (out : List ℕ) → HasDraft (several_starts names out)
several-draft [] out = inl tt
several-draft (name ∷ names) out = inr (several-draft names out)

pub join_draft : (words : Join) → HasDraft (join_starts words)
join_draft words = inr (several-draft words.certs words.out)

-- before its courses
pub run_halted : (cant : Course → Type 0) (starts : List Start) (status : Status) (old new : Sight) → HasDraft starts → IsHalted starts status old new → RunEnds cant starts old new status
run_halted cant starts InFailed old new drafts h = in_failed refl (has-some starts drafts) h.0 h.1
run_halted cant starts OutFailed old new drafts h = draft_failed refl drafts h.0 h.1
run_halted cant starts NoMemory old new drafts h = no_memory_yet refl h
run_halted cant starts Answered old new drafts h = absurd h
run_halted cant starts CertRefused old new drafts h = absurd h
run_halted cant starts ScriptRefused old new drafts h = absurd h
run_halted cant starts Usage old new drafts h = absurd h

-- ---- causes

pub cause_halted : (words : Join) (starts : List Start) (status : Status) (old new : Sight) → IsHalted starts status old new → HasCause (run_of (Some (join words)) old new status)
cause_halted words starts InFailed old new h = (tt, h.0)
cause_halted words starts OutFailed old new h = h.0
cause_halted words starts NoMemory old new h = tt
cause_halted words starts Answered old new h = absurd h
cause_halted words starts CertRefused old new h = absurd h
cause_halted words starts ScriptRefused old new h = absurd h
cause_halted words starts Usage old new h = absurd h

-- ---- that the script was read

pub read_several : (words : Join) (x : Option (Vec ℕ Global)) (old mid new : Sight) (status : Status) → FetchesSeveral words x old mid → new.script ≡ mid.script → ScriptIsRead (run_of (Some (join words)) old new status)
read_several words x old mid new status fetched same reads script e short failed memory =
    let held = told (IsScriptHeld x) old.script script e fetched.script_is in
    same ∙ told (λ (s : List ℕ). mid.script ≡ Some []) old.script script e (fetched.script_read (held_some x script held short))

pub halted_script : (words : Join) (status : Status) (old new : Sight) → HaltsSeveral words status old new → ScriptIsRead (run_of (Some (join words)) old new status)
halted_script words InFailed old new h reads script e short failed memory = absurd (failed refl)
halted_script words OutFailed old new h reads script e short failed memory = told (λ (s : List ℕ). length s ≤ most_bytes → new.script ≡ Some []) old.script script e (h.read refl) short
halted_script words NoMemory old new h reads script e short failed memory = absurd (memory refl)
halted_script words Answered old new h reads script e short failed memory = absurd h.halted
halted_script words CertRefused old new h reads script e short failed memory = absurd h.halted
halted_script words ScriptRefused old new h reads script e short failed memory = absurd h.halted
halted_script words Usage old new h reads script e short failed memory = absurd h.halted
