-- What each status shows, of a run that ends on one of its courses.
use Rattle.std.proofs.Common.{◌≡◌, inl, inr, ℕ, List, [], ◌∷◌, Bool, Option, Some, None, sym, subst, ◌∙◌}
use Rattle.desk.specs.Sight.{Sight}
use Rattle.command_line.specs.declared.request.Options.{Options}
use Rattle.command_line.specs.Words.{Command, Minimize, Resume, solve, minimize, check, demo, upgrade, plan, resume, join}
use Rattle.gen_script.specs.Demo.{demo_script}
use Rattle.poly_graph.specs.Problem.{Problem}
use Rattle.cert_model.specs.Accepted.{Verdict, accepted, refused, verdict}
use Rattle.cert_model.specs.Least.{GoalVerdict, plain, least, goal_verdict}
use Rattle.cert_model.specs.Session.{SessionVerdict, session_verdict}
use Rattle.script_fault.specs.declared.fault.ScriptFault.{ScriptFault}
use Rattle.script_reading.specs.Faults.{script_fault, session_fault}
use Rattle.script_forms.specs.Atoms.{goal_atom}
use Rattle.script_reading.specs.Goals.{goal_in}
use Rattle.script_reading.specs.Reader.{commands_of}
use Rattle.goal_limit.specs.Limits.{has_room}
use Rattle.check_run.specs.declared.status.Status.{Status}
use Rattle.check_run.specs.declared.status.Status.TheVariants.{Answered, CertRefused, ScriptRefused, Usage, InFailed, OutFailed, NoMemory}
use Rattle.check_run.specs.Course.{Course, Went, Ends, at_its_end, out_failed, no_memory, RunEnds, on_course, in_failed, draft_failed, no_memory_yet}
use Rattle.check_run.specs.Can.{CanSolve, CanCheck, CanUpgrade, CanUpgradeBy, CanUpgradeFor, CanUpgradeOfGoal, CanDemo, CanPlan, CanBy, OfProblem, OfSession, Can, in_starts, check_course, goal_course, verdict_course}
use Rattle.check_run.specs.Minimized.{CanMinimize, CanTellLeast}
use Rattle.check_run.specs.Joined.{CanJoin, joins, refuses}
use Rattle.check_run.specs.Resumed.{CanResume, CanResumeBy}
use Rattle.check_run.specs.Run.{Run, HasCourse, IsShown, IsDue, run_of, StatusIsDue, StatusIsShown}

-- a status that is told by an answer
abbrev IsSaid : Status → Type 0
IsSaid Answered = Unit {0}
IsSaid CertRefused = Unit {0}
IsSaid ScriptRefused = Unit {0}
IsSaid Usage = Unit {0}
IsSaid InFailed = ⊥
IsSaid OutFailed = ⊥
IsSaid NoMemory = ⊥

said-same : (a b : Course) → a ≡ b → IsSaid b.status → IsSaid a.status
said-same a b e h = let P : Course → Type 0 = λ c. IsSaid c.status in subst P (sym e) h

said-solve : (ps : List (Problem × Bool)) (o : Options) (name : List ℕ) (course : Course) → CanSolve ps o name course → IsSaid course.status
said-solve ps o name course can = said-same course _ can.3 tt

said-demo : (p : Problem) (o : Options) (name bytes : List ℕ) (course : Course) → CanDemo p o name bytes course → IsSaid course.status
said-demo p o name bytes course can = said-same course _ can.3 tt

said-verdict : (v : SessionVerdict) → IsSaid (verdict_course v).status
said-verdict (accepted s values) = tt
said-verdict (refused f n) = tt

said-goal : (p : Problem) (g : ℕ) (v : GoalVerdict) → IsSaid (goal_course p g v).status
said-goal p g (accepted s (plain v)) = tt
said-goal p g (accepted s (least x)) = tt
said-goal p g (refused f n) = tt

said-check : (goal : Option ℕ) (ps : List (Problem × Bool)) (bound : Option ℕ) (cert_in : List ℕ) → IsSaid (check_course goal ps bound cert_in).status
said-check None ps bound cert_in = said-verdict (session_verdict ps bound cert_in)
said-check (Some g) [] bound cert_in = said-verdict (session_verdict [] bound cert_in)
said-check (Some g) (p ∷ []) bound cert_in = said-goal p.0 g (goal_verdict p.0 g (has_room p.0) bound cert_in)
said-check (Some g) (p ∷ q ∷ ps) bound cert_in = said-verdict (session_verdict (p ∷ q ∷ ps) bound cert_in)

said-upgrade-by : (v : SessionVerdict) (ps : List (Problem × Bool)) (bound : Option ℕ) (out cert_in : List ℕ) (course : Course) → CanUpgradeBy v ps bound out cert_in course → IsSaid course.status
said-upgrade-by (accepted s values) ps bound out cert_in course can = said-same course _ can.1 tt
said-upgrade-by (refused f n) ps bound out cert_in course can = said-same course _ can tt

said-upgrade-goal : (v : GoalVerdict) (p : Problem) (g : ℕ) (bound : Option ℕ) (out cert_in : List ℕ) (course : Course) → CanUpgradeOfGoal v p g bound out cert_in course → IsSaid course.status
said-upgrade-goal (accepted s v) p g bound out cert_in course can = said-same course _ can.1 tt
said-upgrade-goal (refused f n) p g bound out cert_in course can = said-same course _ can tt

said-upgrade-for : (goal : Option ℕ) (ps : List (Problem × Bool)) (bound : Option ℕ) (out cert_in : List ℕ) (course : Course) → CanUpgradeFor goal ps bound out cert_in course → IsSaid course.status
said-upgrade-for None ps bound out cert_in course can = said-upgrade-by (session_verdict ps bound cert_in) ps bound out cert_in course can
said-upgrade-for (Some g) [] bound out cert_in course can = said-upgrade-by (session_verdict [] bound cert_in) [] bound out cert_in course can
said-upgrade-for (Some g) ((p, e) ∷ []) bound out cert_in course can = said-upgrade-goal (goal_verdict p g (has_room p) bound cert_in) p g bound out cert_in course can
said-upgrade-for (Some g) (p ∷ q ∷ ps) bound out cert_in course can = said-upgrade-by (session_verdict (p ∷ q ∷ ps) bound cert_in) (p ∷ q ∷ ps) bound out cert_in course can

said-upgrade : (goal : Option ℕ) (ps : List (Problem × Bool)) (bound : Option ℕ) (name out cert_in : List ℕ) (course : Course) → CanUpgrade goal ps bound name out cert_in course → IsSaid course.status
said-upgrade goal ps bound name out cert_in course can = said-same course _ can.2 (said-upgrade-for goal ps bound out cert_in can.0 can.1)

said-resume-by : (v : Verdict) (p : Problem) (b : Option ℕ) (words : Resume) (cert_in : List ℕ) (course : Course) → CanResumeBy v p b words cert_in course → IsSaid course.status
said-resume-by (accepted s w) p b words cert_in course can = said-same course _ can.3 tt
said-resume-by (refused f n) p b words cert_in course can = said-same course _ can tt

said-resume : (words : Resume) (script cert_in : List ℕ) (f : Option ScriptFault) (course : Course) → CanBy f (OfProblem words.bound script (λ p. CanResume p words.bound words cert_in)) course → IsSaid course.status
said-resume words script cert_in (Some f) course can = said-same course _ can tt
said-resume words script cert_in None course can = said-resume-by (verdict can.0 words.bound cert_in) can.0 words.bound words cert_in course can.2

said-join-by : (p : Problem) (b : Option ℕ) (parts : List (List ℕ)) (course : Course) → CanJoin p b parts course → IsSaid course.status
said-join-by p b parts course (joins cert s v accepts together e) = said-same course _ e tt
said-join-by p b parts course (refuses text reason e) = said-same course _ e tt

said-join : (b : Option ℕ) (script : List ℕ) (parts : List (List ℕ)) (f : Option ScriptFault) (course : Course) → CanBy f (OfProblem b script (λ p. CanJoin p b parts)) course → IsSaid course.status
said-join b script parts (Some f) course can = said-same course _ can tt
said-join b script parts None course can = said-join-by can.0 b parts course can.2

said-by : (bound : Option ℕ) (script : List ℕ) (goes : List (Problem × Bool) → Course → Type 0) → ((ps : List (Problem × Bool)) (course : Course) → goes ps course → IsSaid course.status) →
    (f : Option ScriptFault) (course : Course) → CanBy f (OfSession bound script goes) course → IsSaid course.status
said-by bound script goes said (Some f) course can = said-same course _ can tt
said-by bound script goes said None course can = said can.0 course can.2

said-least : (p : Problem) (g : ℕ) (words : Minimize) (course : Course) → CanTellLeast p g words course → IsSaid course.status
said-least p g words course (inl can) = said-same course _ can.3 tt
said-least p g words course (inr can) = said-same course _ can.4 tt

said-sought : (goal : Option ℕ) (p : Problem) (words : Minimize) (course : Course) → CanMinimize goal p words course → IsSaid course.status
said-sought None p words course can = said-same course _ can tt
said-sought (Some g) p words course can = said-least p g words course can

said-minimize : (words : Minimize) (script : List ℕ) (f : Option ScriptFault) (course : Course) → CanBy f (OfProblem words.options.bound script (λ p. CanMinimize (goal_atom (commands_of words.options.bound script)) p words)) course → IsSaid course.status
said-minimize words script (Some f) course can = said-same course _ can tt
said-minimize words script None course can = said-sought (goal_atom (commands_of words.options.bound script)) can.0 words course can.2

-- each course of a run ends in a status that is told
said : (command : Option Command) (script cert_in : List ℕ) (parts : List (List ℕ)) (course : Course) → Can command script cert_in parts course → IsSaid course.status
said None script cert_in parts course can = said-same course _ can tt
said (Some (solve words)) script cert_in parts course can = said-same course _ can.2
    (said-by words.options.bound script (λ ps. CanSolve ps words.options words.cert) (λ ps c h. said-solve ps words.options words.cert c h) (session_fault words.options.bound script) can.0 can.1)
said (Some (minimize words)) script cert_in parts course can = said-same course _ can.2 (said-minimize words script (script_fault words.options.bound script) can.0 can.1)
said (Some (check words)) script cert_in parts course can = said-same course _ can.2
    (said-by words.bound script (λ ps. CanCheck (goal_in words.bound script) ps words.bound words.cert cert_in) (λ ps c h. said-same c _ h (said-check (goal_in words.bound script) ps words.bound cert_in)) (session_fault words.bound script) can.0 can.1)
said (Some (upgrade words)) script cert_in parts course can = said-same course _ can.2
    (said-by words.bound script (λ ps. CanUpgrade (goal_in words.bound script) ps words.bound words.cert words.out cert_in)
    (λ ps c h. said-upgrade (goal_in words.bound script) ps words.bound words.cert words.out cert_in c h) (session_fault words.bound script) can.0 can.1)
said (Some (plan words)) script cert_in parts course can = said-same course _ can.2
    (said-by words.bound script (λ ps. CanPlan ps words.delta_bits words.margin_bits) (λ ps c h. said-same c _ h.2 tt) (session_fault words.bound script) can.0 can.1)
said (Some (resume words)) script cert_in parts course can = said-same course _ can.2 (said-resume words script cert_in (script_fault words.bound script) can.0 can.1)
said (Some (join words)) script cert_in parts course can = said-same course _ can.2 (said-join words.bound script parts (script_fault words.bound script) can.0 can.1)
said (Some (demo words)) script cert_in parts course can = said-demo can.0 words.options words.cert (demo_script words.seed words.size) course can.2

module _ (command : Option Command) (script cert_in : List ℕ) (parts : List (List ℕ)) (old new : Sight) where
  at-end : (status : Status) (course : Course) → Can command script cert_in parts course → IsSaid course.status → status ≡ course.status → Went course old new → IsShown command script cert_in parts old new status
  at-end Answered course can is e went = (course, can, sym e, went)
  at-end CertRefused course can is e went = (course, can, sym e, went)
  at-end ScriptRefused course can is e went = (course, can, sym e, went)
  at-end Usage course can is e went = (course, can, sym e, went)
  at-end InFailed course can is e went = absurd (subst IsSaid (sym e) is)
  at-end OutFailed course can is e went = absurd (subst IsSaid (sym e) is)
  at-end NoMemory course can is e went = absurd (subst IsSaid (sym e) is)

  shows-ends : (course : Course) (status : Status) → Can command script cert_in parts course → Ends course old new status → IsShown command script cert_in parts old new status
  shows-ends course status can (at_its_end e went) = at-end status course can (said command script cert_in parts course can) e went
  shows-ends course status can (out_failed e side stopped) = let P : Status → Type 0 = λ s. IsShown command script cert_in parts old new s in let here : P OutFailed = (side, inr (course, can, stopped)) in subst P (sym e) here
  shows-ends course status can (no_memory e stopped) = let P : Status → Type 0 = λ s. IsShown command script cert_in parts old new s in let here : P NoMemory = inr (course, can, stopped) in subst P (sym e) here

  shows-run : (status : Status) → RunEnds (Can command script cert_in parts) (in_starts command) old new status → IsShown command script cert_in parts old new status
  shows-run status (on_course course can ends) = shows-ends course status can ends
  shows-run status (in_failed e any side quiet) = let P : Status → Type 0 = λ s. IsShown command script cert_in parts old new s in let here : P InFailed = (any, side, quiet) in subst P (sym e) here
  shows-run status (draft_failed e drafts side quiet) = let P : Status → Type 0 = λ s. IsShown command script cert_in parts old new s in let here : P OutFailed = (side, inl (drafts, quiet)) in subst P (sym e) here
  shows-run status (no_memory_yet e quiet) = let P : Status → Type 0 = λ s. IsShown command script cert_in parts old new s in let here : P NoMemory = inl quiet in subst P (sym e) here

  due-run : (status : Status) → RunEnds (Can command script cert_in parts) (in_starts command) old new status → IsDue (run_of command old new status) script cert_in parts
  due-run status (on_course course can (at_its_end e went)) due all ins outs = inl (e ∙ all course can)
  due-run status (on_course course can (out_failed e side stopped)) due all ins outs = absurd (outs side)
  due-run status (on_course course can (no_memory e stopped)) due all ins outs = inr e
  due-run status (in_failed e any side quiet) due all ins outs = absurd (ins side)
  due-run status (draft_failed e drafts side quiet) due all ins outs = absurd (outs side)
  due-run status (no_memory_yet e quiet) due all ins outs = inr e

-- ---- of whole runs

pub status_is_shown : (r : Run) → HasCourse r → StatusIsShown r
status_is_shown r course script cert_in parts tells = shows-run r.command script cert_in parts r.old r.new r.status (course script cert_in parts tells)

pub status_is_due : (r : Run) → HasCourse r → StatusIsDue r
status_is_due r course script cert_in parts tells = due-run r.command script cert_in parts r.old r.new r.status (course script cert_in parts tells)
