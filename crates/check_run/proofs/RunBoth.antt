-- A run from its script and its certificate on, which are both read first.
use Rattle.std.proofs.Common.{◌≡◌, ◌≤◌, ◌<◌, ℕ, List, [], Option, Some, None, length, refl, subst, ◌∙◌, arith}
use Rattle.std.specs.Prelude.{IsSome}
use Rattle.std.specs.declared.vec.Vec.{Vec}
use Rattle.std.specs.declared.alloc.Global.{Global}
use Rattle.desk.specs.Sight.{Sight}
use Rattle.command_line.specs.Words.{Resume, resume}
use Rattle.script_reading.specs.Faults.{most_bytes}
use Rattle.check_run.specs.declared.both.Inputs.{Inputs}
use Rattle.check_run.specs.declared.both.Unread.{Unread}
use Rattle.check_run.specs.declared.both.Unread.TheVariants as unread
use Rattle.check_run.specs.declared.status.Status.{Status}
use Rattle.check_run.specs.Both.{CanGoOn, FetchesBoth, HaltsBoth, IsScriptHeld, status_of}
use Rattle.check_run.specs.Can.{Can, both_starts}
use Rattle.check_run.specs.Course.{behind, RunEnds, on_course, in_failed, draft_failed, no_memory_yet}
use Rattle.check_run.specs.Parts.{After}
use Rattle.check_run.specs.Run.{CertIsRead, HasCause, SameIn, ScriptIsRead, run_of}
use Rattle.check_run.proofs.Ending.{ends_behind, quiet_behind}
use Rattle.check_run.proofs.Running.{told}

-- a part of a run that reads nothing more, behind the starts of both ports
behind_both : (words : Resume) (script cert_in : List ℕ) (parts : List (List ℕ)) (old mid new : Sight) (status : Status) → After (both_starts words.script words.cert) old mid →
    RunEnds (CanGoOn words script cert_in) [] mid new status → RunEnds (Can (Some (resume words)) script cert_in parts) (both_starts words.script words.cert) old new status
behind_both words script cert_in parts old mid new status after (on_course tail can ends) =
    on_course (behind (both_starts words.script words.cert) tail) (tail, can, refl) (ends_behind (both_starts words.script words.cert) tail old mid new status after ends)
behind_both words script cert_in parts old mid new status after (in_failed is any side quiet) = absurd (any refl)
behind_both words script cert_in parts old mid new status after (draft_failed is drafts side quiet) = absurd drafts
behind_both words script cert_in parts old mid new status after (no_memory_yet is quiet) = no_memory_yet is (quiet_behind (both_starts words.script words.cert) [] old mid new after quiet)

pub run_both : (words : Resume) (script cert_in : List ℕ) (parts : List (List ℕ)) (x : Inputs) (old mid new : Sight) (status : Status) → FetchesBoth words.script words.cert x old mid → old.script ≡ Some script → old.cert_in ≡ Some cert_in →
    ((s : List ℕ) → IsScriptHeld x.script s → RunEnds (CanGoOn words s x.cert.items) [] mid new status) → RunEnds (Can (Some (resume words)) script cert_in parts) (both_starts words.script words.cert) old new status
run_both words script cert_in parts x old mid new status fetched e f ends =
    let held = told (IsScriptHeld x.script) old.script script e fetched.script_is in
    let same = told (λ (c : List ℕ). x.cert.items ≡ c) old.cert_in cert_in f fetched.cert_is in
    behind_both words script cert_in parts old mid new status fetched.after (subst (λ (c : List ℕ). RunEnds (CanGoOn words script c) [] mid new status) same (ends script held))

pub run_unread : (words : Resume) (script cert_in : List ℕ) (parts : List (List ℕ)) (e : Unread) (old new : Sight) → HaltsBoth words.script words.cert e old new →
    RunEnds (Can (Some (resume words)) script cert_in parts) (both_starts words.script words.cert) old new (status_of e)
run_unread words script cert_in parts unread.Failed old new h = in_failed refl (λ x. cc) h.0 h.1
run_unread words script cert_in parts unread.Memory old new h = no_memory_yet refl h

-- ---- causes

pub cause_unread : (words : Resume) (e : Unread) (old new : Sight) → HaltsBoth words.script words.cert e old new → HasCause (run_of (Some (resume words)) old new (status_of e))
cause_unread words unread.Failed old new h = (tt, h.0)
cause_unread words unread.Memory old new h = tt

-- ---- that both were read

over-none : (o : Option (Vec ℕ Global)) (script : List ℕ) → IsScriptHeld o script → length script ≤ most_bytes → IsSome o
over-none None script h short = absurd (let l : most_bytes < length script = h in omega (arith, l, short))
over-none (Some held) script h short = refl

pub read_both : (words : Resume) (x : Inputs) (old mid new : Sight) (status : Status) → FetchesBoth words.script words.cert x old mid → SameIn mid new → ScriptIsRead (run_of (Some (resume words)) old new status)
read_both words x old mid new status fetched same reads script e short failed memory =
    let held = told (IsScriptHeld x.script) old.script script e fetched.script_is in
    same.script ∙ told (λ (s : List ℕ). mid.script ≡ Some []) old.script script e (fetched.script_read (over-none x.script script held short))

pub cert_read_both : (words : Resume) (x : Inputs) (old mid new : Sight) (status : Status) → FetchesBoth words.script words.cert x old mid → SameIn mid new → CertIsRead (run_of (Some (resume words)) old new status)
cert_read_both words x old mid new status fetched same reads answered = same.cert_in ∙ fetched.cert_read

pub unread_script : (words : Resume) (e : Unread) (old new : Sight) → ScriptIsRead (run_of (Some (resume words)) old new (status_of e))
unread_script words unread.Failed old new reads script f short failed memory = absurd (failed refl)
unread_script words unread.Memory old new reads script f short failed memory = absurd (memory refl)

pub unread_cert : (words : Resume) (e : Unread) (old new : Sight) → CertIsRead (run_of (Some (resume words)) old new (status_of e))
unread_cert words unread.Failed old new reads answered = cc
unread_cert words unread.Memory old new reads answered = cc
