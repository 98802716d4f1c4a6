-- A run from its script on.
use Rattle.std.proofs.Common.{◌≡◌, ℕ, List, [], ◌∷◌, Bool, Option, Some, None, refl, ap, sym, subst, ◌∙◌, min, IfSome}
use Rattle.std.specs.Prelude.{option_map}
use Rattle.desk.specs.declared.desk.Port.TheVariants.{Script}
use Rattle.desk.specs.Sight.{Sight, SideFailed}
use Rattle.command_line.specs.Words.{Demo, Command, demo}
use Rattle.gen_script.specs.Demo.{demo_script}
use Rattle.poly_graph.specs.Problem.{Problem}
use Rattle.script_fault.specs.declared.fault.ScriptFault.{ScriptFault}
use Rattle.check_run.specs.ScriptFaults.{fault_text}
use Rattle.script_reading.specs.Faults.{script_fault, session_fault}
use Rattle.check_run.specs.declared.status.Status.{Status}
use Rattle.check_run.specs.declared.status.Status.TheVariants.{Answered, CertRefused, ScriptRefused, Usage, InFailed, OutFailed, NoMemory}
use Rattle.check_run.specs.declared.script.Halt.{Halt}
use Rattle.check_run.specs.declared.script.Halt.TheVariants as halt
use Rattle.check_run.specs.Course.{Start, Course, says, behind, appended, Quiet, RunEnds, on_course, in_failed, no_memory_yet}
use Rattle.check_run.specs.Can.{CanDemo, CanBy, CanFrom, OfProblem, OfSession, Can}
use Rattle.check_run.specs.Run.{HasCause, run_of}
use Rattle.check_run.specs.Parts.{After}
use Rattle.script_reading.specs.Reader.{HasProblem}
use Rattle.script_reading.specs.Session.{HasSession}
use Rattle.check_run.specs.Script.{HasFaultText, script_start, Fetches, Halts, HaltEnds}
use Rattle.check_run.proofs.Ending.{take_first, ends_behind, run_behind, widen}

-- ---- what a course is behind its script

by_session : (bound : Option ℕ) (script : List ℕ) (ps : List (Problem × Bool)) (goes : List (Problem × Bool) → Course → Type 0) → HasSession bound ps script → (course : Course) → goes ps course →
    CanBy (session_fault bound script) (OfSession bound script goes) course
by_session bound script ps goes has course can =
    let P : Option ScriptFault → Type 0 = λ f. CanBy f (OfSession bound script goes) course in
    subst P (sym has.clean) (ps, has, can)

by_problem : (bound : Option ℕ) (script : List ℕ) (p : Problem) (goes : Problem → Course → Type 0) → HasProblem bound p script → (course : Course) → goes p course → CanBy (script_fault bound script) (OfProblem bound script goes) course
by_problem bound script p goes has course can = let P : Option ScriptFault → Type 0 = λ f. CanBy f (OfProblem bound script goes) course in subst P (sym has.clean) (p, has.built, can)

by_text : (f : Option ScriptFault) (text : List ℕ) (goes : Course → Type 0) → option_map fault_text f ≡ Some text → CanBy f goes (says ScriptRefused text)
by_text None text goes e = cc
by_text (Some f) text goes e = let same : text ≡ fault_text f = cc in ap (λ t. says ScriptRefused t) same

-- what is told of what a port held
pub told : (P : List ℕ → Type 0) (o : Option (List ℕ)) (script : List ℕ) → o ≡ Some script → IfSome o P → P script
told P o script e h = let Q : Option (List ℕ) → Type 0 = λ x. IfSome x P in subst Q e h

-- ---- the ends of a run behind its script

-- a script of which this holds was read, with which the run goes on
pub run_fetched : (Has : List ℕ → Type 0) (goes cant : Course → Type 0) (name script : List ℕ) (ins : List Start) (old mid new : Sight) (status : Status) → Fetches name Has old mid → old.script ≡ Some script →
    (Has script → (tail : Course) → goes tail → cant (behind ((Script, name) ∷ []) tail)) → RunEnds goes ins mid new status → RunEnds cant ((Script, name) ∷ ins) old new status
run_fetched Has goes cant name script ins old mid new status fetched e on ends =
    run_behind goes cant (Script, name) ins old mid new status fetched.after (on (told Has old.script script e fetched.has)) ends

-- a script has a fault, where this is the first fault of each script
module _ (first : List ℕ → Option ScriptFault) (name script : List ℕ) (goes : Course → Type 0) (ins : List Start) (old mid new : Sight) (status : Status) where
  quiet_more : Quiet (script_start name) old new → Quiet ((Script, name) ∷ ins) old new
  quiet_more quiet = record {
    starts_made = min quiet.starts_made 1;
    starts_are = quiet.starts_are ∙ ap (λ l. appended old.starts l) (take_first quiet.starts_made ((Script, name) ∷ []) ins);
    cert = quiet.cert;
    answer = quiet.answer;
  }

  pub run_halted : (h : Halt) → Halts first name h old mid → old.script ≡ Some script → HaltEnds h mid new status → RunEnds (CanFrom name (first script) goes) ((Script, name) ∷ ins) old new status
  run_halted (halt.Refused text) fetched e ends =
      let has = told (λ s. HasFaultText (first s) text.items) old.script script e fetched.has in
      on_course (behind (script_start name) (says ScriptRefused text.items)) (says ScriptRefused text.items, by_text (first script) text.items goes has, refl)
      (ends_behind (script_start name) (says ScriptRefused text.items) old mid new status fetched.after ends)
  run_halted halt.Failed halted e ends =
      let S : Sight → Type 0 = λ d. SideFailed old.in_faults d.in_faults in let Q : Sight → Type 0 = λ d. Quiet (script_start name) old d in
      in_failed ends.0 (λ x. cc) (subst S (sym ends.1) halted.0) (quiet_more (subst Q (sym ends.1) halted.1))
  run_halted halt.Memory halted e ends =
      let Q : Sight → Type 0 = λ d. Quiet (script_start name) old d in no_memory_yet ends.0 (quiet_more (subst Q (sym ends.1) halted))

-- of a script with any number of checks
module _ (bound : Option ℕ) (name script : List ℕ) (goes : List (Problem × Bool) → Course → Type 0) (ins : List Start) (old mid new : Sight) (status : Status) where
  pub run_session : (ps : List (Problem × Bool)) → Fetches name (HasSession bound ps) old mid → old.script ≡ Some script → RunEnds (goes ps) ins mid new status →
      RunEnds (CanFrom name (session_fault bound script) (OfSession bound script goes)) ((Script, name) ∷ ins) old new status
  run_session ps fetched e ends =
      run_fetched (HasSession bound ps) (goes ps) (CanFrom name (session_fault bound script) (OfSession bound script goes)) name script ins old mid new status fetched e
      (λ has tail can. (tail, by_session bound script ps goes has tail can, refl)) ends

-- of a script with one
module _ (bound : Option ℕ) (name script : List ℕ) (goes : Problem → Course → Type 0) (ins : List Start) (old mid new : Sight) (status : Status) where
  pub run_problem : (p : Problem) → Fetches name (HasProblem bound p) old mid → old.script ≡ Some script → RunEnds (goes p) ins mid new status →
      RunEnds (CanFrom name (script_fault bound script) (OfProblem bound script goes)) ((Script, name) ∷ ins) old new status
  run_problem p fetched e ends =
      run_fetched (HasProblem bound p) (goes p) (CanFrom name (script_fault bound script) (OfProblem bound script goes)) name script ins old mid new status fetched e
      (λ has tail can. (tail, by_problem bound script p goes has tail can, refl)) ends

-- ---- the ends of a demonstration

pub demo_problem : (words : Demo) (bytes : List ℕ) (p : Problem) (old new : Sight) (status : Status) → HasProblem words.options.bound p bytes → bytes ≡ demo_script words.seed words.size →
    RunEnds (CanDemo p words.options words.cert bytes) [] old new status → (script cert_in : List ℕ) (parts : List (List ℕ)) → RunEnds (Can (Some (demo words)) script cert_in parts) [] old new status
demo_problem words bytes p old new status has made ends script cert_in parts =
    let made_by : List ℕ = demo_script words.seed words.size in
    let H : List ℕ → Type 0 = λ b. HasProblem words.options.bound p b in
    let R : List ℕ → Type 0 = λ b. RunEnds (CanDemo p words.options words.cert b) [] old new status in
    widen (CanDemo p words.options words.cert made_by) (Can (Some (demo words)) script cert_in parts) [] old new status
    (λ course can. (p, (subst H made has).built, can)) (subst R made ends)

-- ---- causes

pub cause_behind : (command : Option Command) (starts : List Start) (old mid new : Sight) (status : Status) → After starts old mid → HasCause (run_of command mid new status) → HasCause (run_of command old new status)
cause_behind command starts old mid new Answered after h = h
cause_behind command starts old mid new CertRefused after h = h
cause_behind command starts old mid new ScriptRefused after h = h
cause_behind command starts old mid new Usage after h = h
cause_behind command starts old mid new InFailed after h = let P : ℕ → Type 0 = λ n. SideFailed n new.in_faults in (h.0, subst P after.in_faults h.1)
cause_behind command starts old mid new OutFailed after h = let P : ℕ → Type 0 = λ n. SideFailed n new.out_faults in subst P after.out_faults h
cause_behind command starts old mid new NoMemory after h = h
