-- What the answers of a run say of its script.
use Rattle.std.specs.Prelude.{◌≡◌, ◌++◌, ◌⊎◌, ℕ, suc, List, [], ◌∷◌, Bool, Option, Some, None, IsSomeAnd, IsTrue, codes, length, slice_get}
use Rattle.desk.specs.Sight.{Sight}
use Rattle.command_line.specs.declared.request.Options.{Options}
use Rattle.command_line.specs.Words.{Command, Minimize, Plan, Resume, Solve, solve, minimize, check, demo, upgrade, plan, resume, join}
use Rattle.gen_script.specs.Demo.{demo_script}
use Rattle.dyadic.specs.Rounding.{exact}
use Rattle.script_model.specs.Script as script_model
use Rattle.script_model.specs.Script.{Satisfies}
use Rattle.poly_graph.specs.Problem.{Problem}
use Rattle.interval_model.specs.Space.{Space}
use Rattle.width_plan.specs.Plan as width
use Rattle.width_plan.specs.Plan.{least_bits}
use Rattle.cover_model.specs.State.{Loosenings, in_version, margin_of, delta_of}
use Rattle.cert_model.specs.Due.{CertFault, Standing, Value, at_point, left_open, coordinates}
use Rattle.cert_model.specs.Accepted.{IsAccepted, refused, verdict}
use Rattle.cert_model.specs.AnswerText.{text_line, unsat_text, delta_sat_text, check_text, least_text, solve_text, verdict_text}
use Rattle.cert_model.specs.Least.{Least, least, upper_at, is_lines_version, IsGoalAccepted, goal_verdict}
use Rattle.goal_limit.specs.Limits.{has_room}
use Rattle.cert_model.specs.Session.{AreAccepted, session_verdict}
use Rattle.cert_upgrade.specs.Upgraded.{upgraded}
use Rattle.headline.specs.Laws.{HasNoPoint}
use Rattle.headline.specs.Least.{HasLowerBound, IsGoalAtMost}
use Rattle.headline.specs.Near.{IsNearDeclaredBox}
use Rattle.script_forms.specs.Atoms.{goal_atom}
use Rattle.smt_script.specs.Levels.{Asked, checks_of}
use Rattle.script_reading.specs.Goals.{goal_in}
use Rattle.script_reading.specs.Reader.{commands_of, HasProblem, IsBuilt}
use Rattle.script_reading.specs.Session.{HasSession, asked_in, steps_of_text}
use Rattle.check_run.specs.Answer.{demo_text, loosenings_of, solve_texts, AreAnswers, IsAnswer}
use Rattle.check_run.specs.declared.status.Status.TheVariants.{Answered, CertRefused}
use Rattle.check_run.specs.Course.{Course, appended}
use Rattle.check_run.specs.Can.{Can, ArePlans, check_texts, plan_texts}
use Rattle.cert_joined.specs.Covers.{JoinsTexts}
use Rattle.check_run.specs.Minimized.{Cause, IsLeastAnswer, minimize_text}
use Rattle.check_run.specs.Joined.{IsNotJoined}
use Rattle.check_run.specs.Resumed.{IsMore}
use Rattle.check_run.specs.Run.{Run, OnInput}

-- ---- any number of checks

-- The point satisfies the commands, each atom loosened by delta, and lies within delta of their declared box.
pub record IsDeltaSat (bound : Option ℕ) (commands : List script_model.Command) (s : Loosenings) (space : Space) : Type 0 where
  pub satisfies : Satisfies (exact (delta_of s)) (coordinates space) commands
  pub near : IsNearDeclaredBox (exact (delta_of s)) bound commands (coordinates space)

-- What a value says of the commands in force at its check: that they hold nowhere in their declared box, each atom loosened by the margin,
-- or that the point is one of theirs. Where something is left it says nothing.
abbrev pub IsTrueValue : Option ℕ → Loosenings → List script_model.Command → Value → Type 0
IsTrueValue bound s commands (at_point space) = IsDeltaSat bound commands s space
IsTrueValue bound s commands (left_open []) = HasNoPoint bound commands (exact (margin_of s))
IsTrueValue bound s commands (left_open (x ∷ left)) = Unit {0}

-- so each of these values, one for each check
abbrev pub AreTrueValues : Option ℕ → Loosenings → List Asked → List Value → Type 0
AreTrueValues bound s [] [] = Unit {0}
AreTrueValues bound s (a ∷ asked) (v ∷ values) = IsTrueValue bound s a.script v × AreTrueValues bound s asked values
AreTrueValues bound s _ _ = ⊥

-- What was written as certificate answers the problems of the script's checks, the answer is the texts of its values, one after the other,
-- and what each says of its check is so.
pub record IsSolved (options : Options) (script : List ℕ) (old new : Sight) : Type 0 where
  pub problems : List (Problem × Bool)
  pub session : HasSession options.bound problems script
  pub cert : List ℕ
  pub values : List Value
  pub written : new.cert_out ≡ appended old.cert_out cert
  pub answers : AreAnswers problems options cert values
  pub answer : new.answer ≡ appended old.answer (solve_texts options.budget (loosenings_of options) problems values)
  pub say : AreTrueValues options.bound (loosenings_of options) (asked_in options.bound script) values

-- The certificate is accepted for the problems of the script's checks, the answer is the texts of its values, one after the other, and what
-- each says of its check is so.
pub record IsConfirmed (bound : Option ℕ) (script cert_in : List ℕ) (old new : Sight) : Type 0 where
  pub problems : List (Problem × Bool)
  pub session : HasSession bound problems script
  pub loosenings : Loosenings
  pub values : List Value
  pub accepted : AreAccepted problems bound cert_in loosenings values
  pub answer : new.answer ≡ appended old.answer (check_texts loosenings values)
  pub say : AreTrueValues bound loosenings (asked_in bound script) values

-- The certificate is accepted for the problem of the script's only check with a lower bound of its goal, and the answer is its text. The
-- bound is one at each point of the declared box that satisfies the script, each atom loosened by the margin; where the certificate has a
-- point, it satisfies the script at delta, lies within delta of the declared box, and the goal's value there is at most the upper bound.
pub record IsConfirmedLeast (bound : Option ℕ) (script cert_in : List ℕ) (old new : Sight) : Type 0 where
  pub problem : Problem
  pub built : IsBuilt bound script problem
  pub goal : ℕ
  pub is_goal : goal_in bound script ≡ Some goal
  pub loosenings : Loosenings
  pub value : Least
  pub accepted : IsGoalAccepted problem goal (has_room problem) bound cert_in loosenings (least value)
  pub answer : new.answer ≡ appended old.answer (least_text problem goal value)
  pub lower : HasLowerBound bound (commands_of bound script) (exact (margin_of loosenings)) value.lower
  pub upper : (space : Space) → value.point ≡ Some space →
      IsDeltaSat bound (commands_of bound script) loosenings space × IsGoalAtMost (commands_of bound script) (coordinates space) (upper_at problem goal space)

-- What was written as certificate is accepted for the problem of the script's only check with a lower bound of its goal, and the answer is its
-- text. The bound is one at each point of the declared box that satisfies the script, each atom loosened by the margin; the point satisfies it
-- at delta, lies within delta of the declared box, and the goal's value there is at most the upper bound. `minimum` is said exactly where the
-- bounds are within the gap of the words.
pub record IsLeast (words : Minimize) (script : List ℕ) (old new : Sight) : Type 0 where
  pub problem : Problem
  pub has : HasProblem words.options.bound problem script
  pub goal : ℕ
  pub is_goal : goal_atom (commands_of words.options.bound script) ≡ Some goal
  pub cert : List ℕ
  pub cause : Cause
  pub value : Least
  pub answers : IsLeastAnswer problem goal words cert cause value
  pub written : new.cert_out ≡ appended old.cert_out cert
  pub answer : new.answer ≡ appended old.answer (minimize_text problem goal words.options.budget cause value)
  pub lower : HasLowerBound words.options.bound (commands_of words.options.bound script) (exact (margin_of (loosenings_of words.options))) value.lower
  pub point : IsDeltaSat words.options.bound (commands_of words.options.bound script) (loosenings_of words.options) answers.point
  pub upper : IsGoalAtMost (commands_of words.options.bound script) (coordinates answers.point) (upper_at problem goal answers.point)

-- No point was found: what was written as certificate is an honest cover for the problem of the script's only check, the answer is the text of what
-- it leaves, and what that says of the check is so.
pub record IsNoLeast (words : Minimize) (script : List ℕ) (old new : Sight) : Type 0 where
  pub problem : Problem
  pub has : HasProblem words.options.bound problem script
  pub cert : List ℕ
  pub left : List Standing
  pub answers : IsAnswer problem words.options cert (left_open left)
  pub written : new.cert_out ≡ appended old.cert_out cert
  pub answer : new.answer ≡ appended old.answer (solve_text problem words.options.budget (loosenings_of words.options) (left_open left))
  pub say : IsTrueValue words.options.bound (loosenings_of words.options) (commands_of words.options.bound script) (left_open left)

-- What was written as certificate goes on from the one that was read, which is accepted for the problem of the script's only check; the answer tells of
-- what is left, and what its value says of the check is so.
pub record IsResumed (words : Resume) (script cert_in : List ℕ) (old new : Sight) : Type 0 where
  pub problem : Problem
  pub has : HasProblem words.bound problem script
  pub loosenings : Loosenings
  pub read : Value
  pub accepted : IsAccepted problem words.bound cert_in loosenings read
  pub cert : List ℕ
  pub text : List ℕ
  pub written : new.cert_out ≡ appended old.cert_out cert
  pub more : IsMore problem words.bound words cert_in loosenings read cert text
  pub answer : new.answer ≡ appended old.answer text
  pub say : IsTrueValue words.bound (in_version more.version loosenings) (commands_of words.bound script) more.value

-- What was written as certificate is accepted for the problem of the script's only check; it joins the covers of the certificates; the answer is the
-- text of its value, and what that says of the check is so.
pub record IsJoined (bound : Option ℕ) (script : List ℕ) (parts : List (List ℕ)) (old new : Sight) : Type 0 where
  pub problem : Problem
  pub has : HasProblem bound problem script
  pub cert : List ℕ
  pub loosenings : Loosenings
  pub value : Value
  pub written : new.cert_out ≡ appended old.cert_out cert
  pub accepted : IsAccepted problem bound cert loosenings value
  pub joins : JoinsTexts parts cert
  pub answer : new.answer ≡ appended old.answer (check_text loosenings value)
  pub say : IsTrueValue bound loosenings (commands_of bound script) value

-- What was written as certificate answers the problem of the demo's script, the answer is a line on the script and on the certificate's value, and
-- what that says of the script is so.
pub record IsDemonstrated (options : Options) (script : List ℕ) (old new : Sight) : Type 0 where
  pub problem : Problem
  pub built : IsBuilt options.bound script problem
  pub cert : List ℕ
  pub value : Value
  pub written : new.cert_out ≡ appended old.cert_out cert
  pub answers : IsAnswer problem options cert value
  pub answer : new.answer ≡ appended old.answer (demo_text (length script) (length problem.atoms) (solve_text problem options.budget (loosenings_of options) value))
  pub say : IsTrueValue options.bound (loosenings_of options) (commands_of options.bound script) value

-- `solve`, `minimize`, `check`, `resume`, `join` and `demo` answer where that is so.
abbrev pub IsTrueAnswer : Option Command → List ℕ → List ℕ → List (List ℕ) → Sight → Sight → Type 0
IsTrueAnswer (Some (solve words)) script cert_in parts old new = IsSolved words.options script old new
IsTrueAnswer (Some (minimize words)) script cert_in parts old new = IsLeast words script old new ⊎ IsNoLeast words script old new
IsTrueAnswer (Some (check words)) script cert_in parts old new =
    IsConfirmed words.bound script cert_in old new ⊎ IsConfirmedLeast words.bound script cert_in old new
IsTrueAnswer (Some (resume words)) script cert_in parts old new = IsResumed words script cert_in old new
IsTrueAnswer (Some (join words)) script cert_in parts old new = IsJoined words.bound script parts old new
IsTrueAnswer (Some (demo words)) script cert_in parts old new = IsDemonstrated words.options (demo_script words.seed words.size) old new
IsTrueAnswer _ script cert_in parts old new = Unit {0}

-- ---- one check

abbrev pub HasOneCheck : List ℕ → Type 0
HasOneCheck script = (a : Asked) × (checks_of (steps_of_text script) ≡ a ∷ [])

-- this text was written as answer, where the desk shows the answer's bytes
abbrev pub IsWritten : List ℕ → Sight → Sight → Type 0
IsWritten text old new = IsSomeAnd old.answer (λ before. new.answer ≡ Some (before ++ text))

-- The script holds nowhere in its declared box, each atom loosened by the margin; and what was written as certificate is
-- accepted, in version 2 or 5, as a cover that leaves nothing.
pub record IsUnsat (options : Options) (script : List ℕ) (old new : Sight) : Type 0 where
  pub no_point : HasNoPoint options.bound (commands_of options.bound script) (exact (margin_of (loosenings_of options)))
  pub problem : Problem
  pub built : IsBuilt options.bound script problem
  pub cert : List ℕ
  pub written : new.cert_out ≡ appended old.cert_out cert
  pub version : ℕ
  pub is_version : IsTrue (is_lines_version version)
  pub accepted : IsAccepted problem options.bound cert (in_version version (loosenings_of options)) (left_open [])

-- The certificate is accepted as a cover that leaves nothing, so the script holds nowhere in its declared box, each atom loosened by the margin.
pub record IsConfirmedUnsat (bound : Option ℕ) (script cert_in : List ℕ) (s : Loosenings) : Type 0 where
  pub no_point : HasNoPoint bound (commands_of bound script) (exact (margin_of s))
  pub problem : Problem
  pub built : IsBuilt bound script problem
  pub accepted : IsAccepted problem bound cert_in s (left_open [])

-- What was written as certificate is accepted as a cover that leaves nothing, so the script holds nowhere in its declared box, each atom loosened by the margin.
pub record IsWrittenUnsat (bound : Option ℕ) (script : List ℕ) (s : Loosenings) (old new : Sight) : Type 0 where
  pub no_point : HasNoPoint bound (commands_of bound script) (exact (margin_of s))
  pub problem : Problem
  pub built : IsBuilt bound script problem
  pub cert : List ℕ
  pub written : new.cert_out ≡ appended old.cert_out cert
  pub accepted : IsAccepted problem bound cert s (left_open [])

abbrev pub unsat_word : List ℕ
unsat_word = text_line (codes "unsat")

abbrev pub confirmed_unsat_word : List ℕ
confirmed_unsat_word = text_line (codes "confirmed unsat")

-- The answer is `unsat` at the margin of the words, or at that of the certificate that was read, or confirms it at some margin: so it is, of a script with one check.
abbrev pub IsTrueUnsat : Option Command → List ℕ → List ℕ → List (List ℕ) → Sight → Sight → Type 0
IsTrueUnsat (Some (solve words)) script cert_in parts old new =
    HasOneCheck script → IsWritten (unsat_text (loosenings_of words.options)) old new → IsUnsat words.options script old new
IsTrueUnsat (Some (minimize words)) script cert_in parts old new =
    (rest : List ℕ) → IsWritten (unsat_word ++ rest) old new → IsUnsat words.options script old new
IsTrueUnsat (Some (check words)) script cert_in parts old new =
    HasOneCheck script → (rest : List ℕ) → IsWritten (confirmed_unsat_word ++ rest) old new →
    (s : Loosenings) × IsWritten (check_text s (left_open [])) old new × IsConfirmedUnsat words.bound script cert_in s
IsTrueUnsat (Some (demo words)) script cert_in parts old new =
    (bytes atoms : ℕ) → IsWritten (demo_text bytes atoms unsat_word) old new → IsUnsat words.options (demo_script words.seed words.size) old new
IsTrueUnsat (Some (upgrade words)) script cert_in parts old new = Unit {0}
IsTrueUnsat (Some (plan words)) script cert_in parts old new = Unit {0}
IsTrueUnsat (Some (resume words)) script cert_in parts old new =
    (rest : List ℕ) → IsWritten (unsat_word ++ rest) old new →
    (s : Loosenings) × IsWritten (unsat_text s) old new × IsWrittenUnsat words.bound script s old new
IsTrueUnsat (Some (join words)) script cert_in parts old new =
    (rest : List ℕ) → IsWritten (confirmed_unsat_word ++ rest) old new →
    (s : Loosenings) × IsWritten (check_text s (left_open [])) old new × IsWrittenUnsat words.bound script s old new
IsTrueUnsat None script cert_in parts old new = Unit {0}

-- The certificate is accepted as this point, which is one of the script.
pub record IsConfirmedPoint (bound : Option ℕ) (script cert_in : List ℕ) (s : Loosenings) (space : Space) : Type 0 where
  pub point : IsDeltaSat bound (commands_of bound script) s space
  pub problem : Problem
  pub built : IsBuilt bound script problem
  pub accepted : IsAccepted problem bound cert_in s (at_point space)

-- What was written as certificate is accepted as this point, which is one of the script.
pub record IsWrittenPoint (bound : Option ℕ) (script : List ℕ) (s : Loosenings) (space : Space) (old new : Sight) : Type 0 where
  pub point : IsDeltaSat bound (commands_of bound script) s space
  pub problem : Problem
  pub built : IsBuilt bound script problem
  pub cert : List ℕ
  pub written : new.cert_out ≡ appended old.cert_out cert
  pub accepted : IsAccepted problem bound cert s (at_point space)

abbrev pub delta_sat_word : List ℕ
delta_sat_word = text_line (codes "delta-sat")

abbrev pub confirmed_delta_sat_word : List ℕ
confirmed_delta_sat_word = text_line (codes "confirmed delta-sat")

-- The answer is `delta-sat`, or confirms it: the certificate's point is one of the script, which has one check.
abbrev pub IsTrueDeltaSat : Option Command → List ℕ → List ℕ → List (List ℕ) → Sight → Sight → Type 0
IsTrueDeltaSat (Some (solve words)) script cert_in parts old new =
    HasOneCheck script → (rest : List ℕ) → IsWritten (delta_sat_word ++ rest) old new →
    (p : Problem) × (space : Space) × IsBuilt words.options.bound script p × IsWritten (delta_sat_text p (loosenings_of words.options) space) old new
    × IsDeltaSat words.options.bound (commands_of words.options.bound script) (loosenings_of words.options) space
IsTrueDeltaSat (Some (check words)) script cert_in parts old new =
    HasOneCheck script → (rest : List ℕ) → IsWritten (confirmed_delta_sat_word ++ rest) old new →
    (s : Loosenings) × (space : Space) × IsWritten (check_text s (at_point space)) old new × IsConfirmedPoint words.bound script cert_in s space
IsTrueDeltaSat (Some (resume words)) script cert_in parts old new =
    (rest : List ℕ) → IsWritten (delta_sat_word ++ rest) old new →
    (p : Problem) × (s : Loosenings) × (space : Space) × IsBuilt words.bound script p × IsWritten (delta_sat_text p s space) old new
    × IsDeltaSat words.bound (commands_of words.bound script) s space
IsTrueDeltaSat (Some (join words)) script cert_in parts old new =
    (rest : List ℕ) → IsWritten (confirmed_delta_sat_word ++ rest) old new →
    (s : Loosenings) × (space : Space) × IsWritten (check_text s (at_point space)) old new × IsWrittenPoint words.bound script s space old new
IsTrueDeltaSat (Some (demo words)) script cert_in parts old new =
    (bytes atoms : ℕ) → IsWritten (demo_text bytes atoms delta_sat_word) old new →
    (space : Space) × (v : ℕ) × IsTrue (is_lines_version v)
    × IsWrittenPoint words.options.bound (demo_script words.seed words.size) (in_version v (loosenings_of words.options)) space old new
IsTrueDeltaSat _ script cert_in parts old new = Unit {0}

-- ---- certificates that are refused, or written again

-- The certificate has this fault at this line, by the problems of the script's checks, and the answer says it.
pub record IsRefusedCert (bound : Option ℕ) (script cert_in : List ℕ) (old new : Sight) : Type 0 where
  pub problems : List (Problem × Bool)
  pub session : HasSession bound problems script
  pub fault : CertFault
  pub line : ℕ
  pub refuses : session_verdict problems bound cert_in ≡ refused fault line
  pub written : new.answer ≡ appended old.answer (verdict_text (refused fault line))

-- The same by the problem of its only check, whose goal is the term of an atom.
pub record IsRefusedForGoal (bound : Option ℕ) (script cert_in : List ℕ) (old new : Sight) : Type 0 where
  pub problem : Problem
  pub built : IsBuilt bound script problem
  pub goal : ℕ
  pub is_goal : goal_in bound script ≡ Some goal
  pub fault : CertFault
  pub line : ℕ
  pub refuses : goal_verdict problem goal (has_room problem) bound cert_in ≡ refused fault line
  pub written : new.answer ≡ appended old.answer (verdict_text (refused fault line))

-- The same by the verdict on its only check.
pub record IsRefusedToResume (bound : Option ℕ) (script cert_in : List ℕ) (old new : Sight) : Type 0 where
  pub problem : Problem
  pub has : HasProblem bound problem script
  pub fault : CertFault
  pub line : ℕ
  pub refuses : verdict problem bound cert_in ≡ refused fault line
  pub written : new.answer ≡ appended old.answer (verdict_text (refused fault line))

-- By the problem of its only check, one of several certificates is refused, or each is accepted and they do not go together, as the answer says.
pub record AreNotJoined (bound : Option ℕ) (script : List ℕ) (parts : List (List ℕ)) (old new : Sight) : Type 0 where
  pub problem : Problem
  pub has : HasProblem bound problem script
  pub text : List ℕ
  pub reason : IsNotJoined problem bound parts text
  pub written : new.answer ≡ appended old.answer text

-- A certificate that is refused has a fault; `upgrade`, `resume` and `join` write none then.
abbrev pub IsTrueRefusal : Option Command → List ℕ → List ℕ → List (List ℕ) → Sight → Sight → Type 0
IsTrueRefusal (Some (check words)) script cert_in parts old new =
    IsRefusedCert words.bound script cert_in old new ⊎ IsRefusedForGoal words.bound script cert_in old new
IsTrueRefusal (Some (upgrade words)) script cert_in parts old new =
    (IsRefusedCert words.bound script cert_in old new ⊎ IsRefusedForGoal words.bound script cert_in old new) × (new.cert_out ≡ appended old.cert_out [])
IsTrueRefusal (Some (resume words)) script cert_in parts old new =
    IsRefusedToResume words.bound script cert_in old new × (new.cert_out ≡ appended old.cert_out [])
IsTrueRefusal (Some (join words)) script cert_in parts old new =
    AreNotJoined words.bound script parts old new × (new.cert_out ≡ appended old.cert_out [])
IsTrueRefusal _ script cert_in parts old new = Unit {0}

-- The certificate is accepted, and what was written is accepted in the newest version, with the same values: the same lines behind the first.
pub record IsUpgraded (bound : Option ℕ) (script cert_in : List ℕ) (old new : Sight) : Type 0 where
  pub problems : List (Problem × Bool)
  pub session : HasSession bound problems script
  pub loosenings : Loosenings
  pub values : List Value
  pub accepted : AreAccepted problems bound cert_in loosenings values
  pub written : new.cert_out ≡ appended old.cert_out (upgraded cert_in)
  pub again : AreAccepted problems bound (upgraded cert_in) (in_version 5 loosenings) values

-- The same of a certificate of the least value of the script's goal.
pub record IsUpgradedLeast (bound : Option ℕ) (script cert_in : List ℕ) (old new : Sight) : Type 0 where
  pub problem : Problem
  pub built : IsBuilt bound script problem
  pub goal : ℕ
  pub is_goal : goal_in bound script ≡ Some goal
  pub loosenings : Loosenings
  pub value : Least
  pub accepted : IsGoalAccepted problem goal (has_room problem) bound cert_in loosenings (least value)
  pub written : new.cert_out ≡ appended old.cert_out (upgraded cert_in)
  pub again : IsGoalAccepted problem goal (has_room problem) bound (upgraded cert_in) (in_version 5 loosenings) (least value)

-- `upgrade` answers where that is so.
abbrev pub IsTrueUpgrade : Option Command → List ℕ → List ℕ → List (List ℕ) → Sight → Sight → Type 0
IsTrueUpgrade (Some (upgrade words)) script cert_in parts old new =
    IsUpgraded words.bound script cert_in old new ⊎ IsUpgradedLeast words.bound script cert_in old new
IsTrueUpgrade _ script cert_in parts old new = Unit {0}

-- ---- plans

-- The options of `solve` are those of the plan, with this least width.
pub record AreOptionsAt (words : Plan) (bits : ℕ) (options : Options) : Type 0 where
  pub delta : options.delta_bits ≡ words.delta_bits
  pub margin : options.margin_bits ≡ words.margin_bits
  pub bound : options.bound ≡ words.bound
  pub least : options.least_bits ≡ bits

abbrev pub unknown_width_word : List ℕ
unknown_width_word = text_line (codes "unknown width")

-- With them no course of `solve` on the script, which has one check, answers `unknown width`, whatever the budget and the workers.
abbrev pub NeverUnknownWidth : Plan → ℕ → List ℕ → Type 0
NeverUnknownWidth words bits script =
    HasOneCheck script → (asked : Solve) → AreOptionsAt words bits asked.options → (cert_in : List ℕ) (parts : List (List ℕ)) (course : Course) → Can (Some (solve asked)) script cert_in parts course →
    (rest : List ℕ) → course.answer ≡ unknown_width_word ++ rest → ⊥

-- With them no certificate that answers the script has, for check k, a value that is told as `unknown width`.
abbrev pub NeverUnknownWidthAt : Plan → ℕ → List ℕ → ℕ → Type 0
NeverUnknownWidthAt words bits script k =
    (options : Options) → AreOptionsAt words bits options → (problems : List (Problem × Bool)) → HasSession options.bound problems script → (cert : List ℕ) (values : List Value) →
    AreAnswers problems options cert values → (p : Problem) (e : Bool) (v : Value) → slice_get problems k ≡ Some (p, e) → slice_get values k ≡ Some v →
    (rest : List ℕ) → solve_text p options.budget (loosenings_of options) v ≡ unknown_width_word ++ rest → ⊥

abbrev pub IsEnoughAt : Plan → List ℕ → ℕ → width.Answer → Type 0
IsEnoughAt words script k (least_bits bits) = NeverUnknownWidthAt words bits script k × NeverUnknownWidth words bits script
IsEnoughAt words script k _ = Unit {0}

-- so for each check from k on
abbrev pub AreEnoughFrom : Plan → List ℕ → ℕ → List width.Answer → Type 0
AreEnoughFrom words script k [] = Unit {0}
AreEnoughFrom words script k (answer ∷ answers) = IsEnoughAt words script k answer × AreEnoughFrom words script (suc k) answers

-- The answer is the plans of the problems of the script's checks, for the delta and the margin of the words. The width that each names is enough.
pub record IsPlanned (words : Plan) (script : List ℕ) (old new : Sight) : Type 0 where
  pub problems : List (Problem × Bool)
  pub session : HasSession words.bound problems script
  pub answers : List width.Answer
  pub plans : ArePlans problems words.delta_bits words.margin_bits answers
  pub written : new.answer ≡ appended old.answer (plan_texts answers)
  pub enough : AreEnoughFrom words script 0 answers

-- `plan` answers where that is so.
abbrev pub IsTruePlan : Option Command → List ℕ → List ℕ → List (List ℕ) → Sight → Sight → Type 0
IsTruePlan (Some (plan words)) script cert_in parts old new = IsPlanned words script old new
IsTruePlan _ script cert_in parts old new = Unit {0}

-- ---- runs

-- where `solve`, `check`, `join` or `demo` answers, the answer tells of a certificate's values, and what each says of its check is so
abbrev pub AnswersAreTrue : Run → Type 0
AnswersAreTrue r = OnInput r (λ script cert_in parts. r.status ≡ Answered → IsTrueAnswer r.command script cert_in parts r.old r.new)

-- where the run answers `unsat`, or confirms it, the script holds nowhere in its declared box
abbrev pub UnsatIsTrue : Run → Type 0
UnsatIsTrue r = OnInput r (λ script cert_in parts. r.status ≡ Answered → IsTrueUnsat r.command script cert_in parts r.old r.new)

-- where it answers `delta-sat`, or confirms it, the point satisfies the script and lies near its declared box, both within delta
abbrev pub DeltaSatIsTrue : Run → Type 0
DeltaSatIsTrue r = OnInput r (λ script cert_in parts. r.status ≡ Answered → IsTrueDeltaSat r.command script cert_in parts r.old r.new)

-- where it refuses a certificate, that has the fault; where it joins none of several that are accepted, they are
abbrev pub RefusalIsTrue : Run → Type 0
RefusalIsTrue r = OnInput r (λ script cert_in parts. r.status ≡ CertRefused → IsTrueRefusal r.command script cert_in parts r.old r.new)

-- where `upgrade` answers, the certificate is accepted, and so is what was written, with the same values
abbrev pub UpgradeIsTrue : Run → Type 0
UpgradeIsTrue r = OnInput r (λ script cert_in parts. r.status ≡ Answered → IsTrueUpgrade r.command script cert_in parts r.old r.new)

-- where `plan` answers, it is the plans of the problems of the script's checks, and with the width that one names `solve` never answers
-- `unknown width` of its check
abbrev pub PlanIsTrue : Run → Type 0
PlanIsTrue r = OnInput r (λ script cert_in parts. r.status ≡ Answered → IsTruePlan r.command script cert_in parts r.old r.new)
