-- The ends of a run of `resume` behind what it read.
use Rattle.std.proofs.Common.{◌≡◌, ◌<◌, ℕ, List, [], Option, None, length, ap, sym, subst, ◌∙◌}
use Rattle.std.specs.declared.vec.Vec.{Vec}
use Rattle.std.specs.declared.alloc.Global.{Global}
use Rattle.desk.specs.Sight.{Sight}
use Rattle.command_line.specs.Words.{Resume}
use Rattle.poly_graph.specs.Problem.{Problem}
use Rattle.script_fault.specs.declared.fault.ScriptFault.{ScriptFault}
use Rattle.script_reading.specs.Faults.{most_bytes, script_fault}
use Rattle.script_reading.specs.Reader.{HasProblem}
use Rattle.check_run.specs.declared.script.Halt.{Halt}
use Rattle.check_run.specs.declared.script.Halt.TheVariants as halt
use Rattle.check_run.specs.declared.status.Status.{Status}
use Rattle.check_run.specs.declared.status.Status.TheVariants.{ScriptRefused}
use Rattle.check_run.specs.Both.{CanGoOn, IsScriptHeld}
use Rattle.check_run.specs.Can.{CanBy, OfProblem}
use Rattle.check_run.specs.Course.{Course, Quiet, RunEnds, says, on_course, no_memory_yet}
use Rattle.check_run.specs.Resumed.{CanResume}
use Rattle.check_run.specs.Script.{HaltEnds, IsHaltOfFault, IsTooLong}
use Rattle.check_run.proofs.Ending.{appended-nil, widen}
use Rattle.dpoly.proofs.Halting.{by_text, long_halt}

-- nothing was done
nothing-done : (old new : Sight) → new ≡ old → Quiet [] old new
nothing-done old new e = record {
  starts_made = 0;
  starts_are = ap (λ (d : Sight). d.starts) e ∙ sym (appended-nil old.starts);
  cert = ap (λ (d : Sight). d.cert_out) e;
  answer = ap (λ (d : Sight). d.answer) e;
}

halt-ends : (f : Option ScriptFault) (goes : Course → Type 0) (h : Halt) (old new : Sight) (status : Status) → IsHaltOfFault f h → HaltEnds h old new status → RunEnds (CanBy f goes) [] old new status
halt-ends f goes (halt.Refused text) old new status is ends = on_course (says ScriptRefused text.items) (by_text f text.items goes is) ends
halt-ends f goes halt.Failed old new status is ends = absurd is
halt-ends f goes halt.Memory old new status is ends = no_memory_yet ends.0 (nothing-done old new ends.1)

module _ (words : Resume) (cert : List ℕ) (old new : Sight) (status : Status) where
  pub long-ends : (o : Option (Vec ℕ Global)) (script : List ℕ) (h : Halt) → o ≡ None → IsScriptHeld o script → IsTooLong h → HaltEnds h old new status → RunEnds (CanGoOn words script cert) [] old new status
  long-ends o script h e held is ends =
      let long : most_bytes < length script = subst (λ (x : Option (Vec ℕ Global)). IsScriptHeld x script) e held in
      halt-ends (script_fault words.bound script) (OfProblem words.bound script (λ p. CanResume p words.bound words cert)) h old new status (long_halt words.bound script h long is) ends

  pub unasked-ends : (script : List ℕ) (h : Halt) → IsHaltOfFault (script_fault words.bound script) h → HaltEnds h old new status → RunEnds (CanGoOn words script cert) [] old new status
  unasked-ends script h is ends = halt-ends (script_fault words.bound script) (OfProblem words.bound script (λ p. CanResume p words.bound words cert)) h old new status is ends

  asked-course : (script : List ℕ) (p : Problem) → HasProblem words.bound p script → (course : Course) → CanResume p words.bound words cert course → CanGoOn words script cert course
  asked-course script p has course can =
      let goes = OfProblem words.bound script (λ p. CanResume p words.bound words cert) in
      subst (λ (f : Option ScriptFault). CanBy f goes course) (sym has.clean) (p, has.built, can)

  pub asked-ends : (script : List ℕ) (p : Problem) → HasProblem words.bound p script → RunEnds (CanResume p words.bound words cert) [] old new status → RunEnds (CanGoOn words script cert) [] old new status
  asked-ends script p has ends = widen (CanResume p words.bound words cert) (CanGoOn words script cert) [] old new status (λ course can. asked-course script p has course can) ends
