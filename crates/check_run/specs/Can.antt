-- The courses that a run may take.
use Rattle.std.specs.Prelude.{◌≡◌, ℕ, List, [], ◌∷◌, ◌++◌, Bool, Option, Some, None, codes, length}
use Rattle.desk.specs.declared.desk.Port.TheVariants.{Script, CertIn}
use Rattle.command_line.specs.declared.request.Options.{Options}
use Rattle.command_line.specs.Words.{Command, Join, solve, minimize, check, demo, upgrade, plan, resume, join}
use Rattle.gen_script.specs.Demo.{demo_script}
use Rattle.poly_graph.specs.Problem.{Problem}
use Rattle.cover_model.specs.State.{Loosenings, in_version}
use Rattle.width_plan.specs.Plan as width
use Rattle.width_plan.specs.Plan.{IsPlan, least_bits, no_atom, no_axis}
use Rattle.cert_model.specs.Due.{Value}
use Rattle.cert_model.specs.Accepted.{accepted, refused}
use Rattle.cert_model.specs.AnswerText.{check_text, goal_text, solve_text, verdict_text}
use Rattle.cert_model.specs.Least.{GoalVerdict, goal_verdict, IsGoalAccepted}
use Rattle.goal_limit.specs.Limits.{has_room}
use Rattle.cert_model.specs.Session.{SessionVerdict, AreAccepted, session_verdict}
use Rattle.cert_upgrade.specs.Upgraded.{upgraded}
use Rattle.check_run.specs.declared.status.Status.TheVariants.{Answered, CertRefused, ScriptRefused, Usage}
use Rattle.script_fault.specs.declared.fault.ScriptFault.{ScriptFault}
use Rattle.check_run.specs.Plans.{least_bits_text, no_atom_text, no_axis_text}
use Rattle.check_run.specs.ScriptFaults.{fault_text}
use Rattle.script_reading.specs.Faults.{script_fault, session_fault}
use Rattle.script_reading.specs.Goals.{goal_in}
use Rattle.script_forms.specs.Atoms.{goal_atom}
use Rattle.script_reading.specs.Reader.{IsBuilt, commands_of}
use Rattle.script_reading.specs.Session.{HasSession}
use Rattle.check_run.specs.Answer.{demo_text, loosenings_of, solve_texts, AreAnswers, IsAnswer}
use Rattle.check_run.specs.Course.{Start, Course, says, gives, behind}
use Rattle.check_run.specs.Minimized.{CanMinimize}
use Rattle.check_run.specs.Joined.{CanJoin, join_starts}
use Rattle.check_run.specs.Resumed.{CanResume}

abbrev pub usage_text : List ℕ
usage_text = codes "usage fault\n"

-- `solve`: any certificate that answers the problems, with the texts of its values
abbrev pub CanSolve : List (Problem × Bool) → Options → List ℕ → Course → Type 0
CanSolve ps options name course =
    (cert : List ℕ) × (values : List Value) × AreAnswers ps options cert values
    × (course ≡ gives name cert (solve_texts options.budget (loosenings_of options) ps values))

-- the answers of check, one after the other
abbrev pub check_texts : Loosenings → List Value → List ℕ
check_texts s [] = []
check_texts s (v ∷ values) = check_text s v ++ check_texts s values

-- a certificate is confirmed, or refused at its first fault
abbrev pub verdict_course : SessionVerdict → Course
verdict_course (accepted s values) = says Answered (check_texts s values)
verdict_course (refused fault line) = says CertRefused (verdict_text (refused fault line))

-- The same of a script with one check, whose goal is the term of atom g: of its check, or of its least value.
abbrev pub goal_course : Problem → ℕ → GoalVerdict → Course
goal_course p g (accepted s v) = says Answered (goal_text p g s v)
goal_course p g (refused fault line) = says CertRefused (verdict_text (refused fault line))

-- by the atom of the goal, where there is one
abbrev pub check_course : Option ℕ → List (Problem × Bool) → Option ℕ → List ℕ → Course
check_course None ps bound cert_in = verdict_course (session_verdict ps bound cert_in)
check_course (Some g) ((p, e) ∷ []) bound cert_in = goal_course p g (goal_verdict p g (has_room p) bound cert_in)
check_course (Some g) ps bound cert_in = verdict_course (session_verdict ps bound cert_in)

-- `check`: the verdict of what CertIn held
abbrev pub CanCheck : Option ℕ → List (Problem × Bool) → Option ℕ → List ℕ → List ℕ → Course → Type 0
CanCheck goal ps bound name cert_in course = course ≡ behind ((CertIn, name) ∷ []) (check_course goal ps bound cert_in)

abbrev pub upgraded_text : List ℕ
upgraded_text = codes "upgraded\n"

-- A certificate that is accepted is written in the newest version, in which it is accepted with the same values. Another is refused at its
-- first fault, and none is written.
abbrev pub CanUpgradeBy : SessionVerdict → List (Problem × Bool) → Option ℕ → List ℕ → List ℕ → Course → Type 0
CanUpgradeBy (accepted s values) ps bound out cert_in course =
    AreAccepted ps bound (upgraded cert_in) (in_version 5 s) values × (course ≡ gives out (upgraded cert_in) upgraded_text)
CanUpgradeBy (refused fault line) ps bound out cert_in course = course ≡ verdict_course (refused fault line)

-- the same of a script with one check, whose goal is the term of atom g
abbrev pub CanUpgradeOfGoal : GoalVerdict → Problem → ℕ → Option ℕ → List ℕ → List ℕ → Course → Type 0
CanUpgradeOfGoal (accepted s v) p g bound out cert_in course =
    IsGoalAccepted p g (has_room p) bound (upgraded cert_in) (in_version 5 s) v × (course ≡ gives out (upgraded cert_in) upgraded_text)
CanUpgradeOfGoal (refused fault line) p g bound out cert_in course = course ≡ goal_course p g (refused fault line)

-- by the atom of the goal, where there is one
abbrev pub CanUpgradeFor : Option ℕ → List (Problem × Bool) → Option ℕ → List ℕ → List ℕ → Course → Type 0
CanUpgradeFor None ps bound out cert_in course = CanUpgradeBy (session_verdict ps bound cert_in) ps bound out cert_in course
CanUpgradeFor (Some g) ((p, e) ∷ []) bound out cert_in course = CanUpgradeOfGoal (goal_verdict p g (has_room p) bound cert_in) p g bound out cert_in course
CanUpgradeFor (Some g) ps bound out cert_in course = CanUpgradeBy (session_verdict ps bound cert_in) ps bound out cert_in course

-- `upgrade`: so by the verdict of what CertIn held
abbrev pub CanUpgrade : Option ℕ → List (Problem × Bool) → Option ℕ → List ℕ → List ℕ → List ℕ → Course → Type 0
CanUpgrade goal ps bound name out cert_in course =
    (tail : Course) × CanUpgradeFor goal ps bound out cert_in tail × (course ≡ behind ((CertIn, name) ∷ []) tail)

-- `demo`: any certificate that answers the problem, with a line on the script, which has no fault, and on the certificate's value
abbrev pub CanDemo : Problem → Options → List ℕ → List ℕ → Course → Type 0
CanDemo p options name bytes course =
    (cert : List ℕ) × (value : Value) × IsAnswer p options cert value
    × (course ≡ gives name cert (demo_text (length bytes) (length p.atoms) (solve_text p options.budget (loosenings_of options) value)))

abbrev pub plan_text : width.Answer → List ℕ
plan_text (least_bits bits) = least_bits_text bits
plan_text (no_atom atom) = no_atom_text atom
plan_text (no_axis axis) = no_axis_text axis

-- the plans of these problems for this delta and margin
abbrev pub ArePlans : List (Problem × Bool) → ℕ → ℕ → List width.Answer → Type 0
ArePlans [] delta_bits margin_bits [] = Unit {0}
ArePlans ((p, e) ∷ ps) delta_bits margin_bits (answer ∷ answers) = IsPlan p delta_bits margin_bits answer × ArePlans ps delta_bits margin_bits answers
ArePlans _ delta_bits margin_bits _ = ⊥

-- their texts, one after the other
abbrev pub plan_texts : List width.Answer → List ℕ
plan_texts [] = []
plan_texts (answer ∷ answers) = plan_text answer ++ plan_texts answers

-- `plan`: the texts of the problems' plans for this delta and margin
abbrev pub CanPlan : List (Problem × Bool) → ℕ → ℕ → Course → Type 0
CanPlan ps delta_bits margin_bits course =
    (answers : List width.Answer) × ArePlans ps delta_bits margin_bits answers × (course ≡ says Answered (plan_texts answers))

-- a script with a fault is refused, one without goes on
abbrev pub CanBy : Option ScriptFault → (Course → Type 0) → Course → Type 0
CanBy (Some fault) goes_on course = course ≡ says ScriptRefused (fault_text fault)
CanBy None goes_on course = goes_on course

-- the same behind the start of the script's port
abbrev pub CanFrom : List ℕ → Option ScriptFault → (Course → Type 0) → Course → Type 0
CanFrom name fault goes_on course = (tail : Course) × CanBy fault goes_on tail × (course ≡ behind ((Script, name) ∷ []) tail)

-- what is done with the problem of a script
abbrev pub OfProblem : Option ℕ → List ℕ → (Problem → Course → Type 0) → Course → Type 0
OfProblem bound script goes_on course = (p : Problem) × IsBuilt bound script p × goes_on p course

-- what is done with the problems of a script's checks
abbrev pub OfSession : Option ℕ → List ℕ → (List (Problem × Bool) → Course → Type 0) → Course → Type 0
OfSession bound script goes_on course = (ps : List (Problem × Bool)) × HasSession bound ps script × goes_on ps course

-- the starts of a script's and a certificate's port, which are both read first
abbrev pub both_starts : List ℕ → List ℕ → List Start
both_starts script cert = (Script, script) ∷ (CertIn, cert) ∷ []

-- the same behind the starts of both ports
abbrev pub CanFromBoth : List ℕ → List ℕ → Option ScriptFault → (Course → Type 0) → Course → Type 0
CanFromBoth script cert fault goes_on course = (tail : Course) × CanBy fault goes_on tail × (course ≡ behind (both_starts script cert) tail)

-- the same behind the starts of the script's port, of those of several certificates, and of the draft
abbrev pub CanFromParts : Join → Option ScriptFault → (Course → Type 0) → Course → Type 0
CanFromParts words fault goes_on course = (tail : Course) × CanBy fault goes_on tail × (course ≡ behind (join_starts words) tail)

-- the courses of a run on what the ports of the script, of the certificate, and of several certificates held
abbrev pub Can : Option Command → List ℕ → List ℕ → List (List ℕ) → Course → Type 0
Can None script cert_in parts course = course ≡ says Usage usage_text
Can (Some (solve words)) script cert_in parts course =
    CanFrom words.script (session_fault words.options.bound script)
    (OfSession words.options.bound script (λ ps. CanSolve ps words.options words.cert)) course
Can (Some (minimize words)) script cert_in parts course =
    CanFrom words.script (script_fault words.options.bound script)
    (OfProblem words.options.bound script (λ p. CanMinimize (goal_atom (commands_of words.options.bound script)) p words)) course
Can (Some (check words)) script cert_in parts course =
    CanFrom words.script (session_fault words.bound script)
    (OfSession words.bound script (λ ps. CanCheck (goal_in words.bound script) ps words.bound words.cert cert_in)) course
Can (Some (upgrade words)) script cert_in parts course =
    CanFrom words.script (session_fault words.bound script)
    (OfSession words.bound script (λ ps. CanUpgrade (goal_in words.bound script) ps words.bound words.cert words.out cert_in)) course
Can (Some (plan words)) script cert_in parts course =
    CanFrom words.script (session_fault words.bound script)
    (OfSession words.bound script (λ ps. CanPlan ps words.delta_bits words.margin_bits)) course
Can (Some (resume words)) script cert_in parts course =
    CanFromBoth words.script words.cert (script_fault words.bound script)
    (OfProblem words.bound script (λ p. CanResume p words.bound words cert_in)) course
Can (Some (join words)) script cert_in parts course =
    CanFromParts words (script_fault words.bound script) (OfProblem words.bound script (λ p. CanJoin p words.bound parts)) course
Can (Some (demo words)) script cert_in parts course =
    OfProblem words.options.bound (demo_script words.seed words.size) (λ p. CanDemo p words.options words.cert (demo_script words.seed words.size)) course

-- the starts of the in ports, in their order
abbrev pub in_starts : Option Command → List Start
in_starts None = []
in_starts (Some (solve words)) = (Script, words.script) ∷ []
in_starts (Some (minimize words)) = (Script, words.script) ∷ []
in_starts (Some (check words)) = (Script, words.script) ∷ (CertIn, words.cert) ∷ []
in_starts (Some (upgrade words)) = (Script, words.script) ∷ (CertIn, words.cert) ∷ []
in_starts (Some (plan words)) = (Script, words.script) ∷ []
in_starts (Some (resume words)) = both_starts words.script words.cert
in_starts (Some (join words)) = join_starts words
in_starts (Some (demo words)) = []
