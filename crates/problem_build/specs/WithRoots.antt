-- What a script without fault is where constants stand for its roots and quotients.
use Rattle.std.specs.Prelude.{◌≡◌, ℕ, List, ◌++◌, map, Bool, Option, None, Result, Ok, Err}
use Rattle.poly_graph.specs.Problem.{Problem}
use Rattle.poly_graph.specs.ProblemViews.{Parts, problem_of}
use Rattle.problem_session.specs.Changes.{AreChanges, IsChange, changed, no_parts, problems_from}
use Rattle.problem_session.specs.Session.{problems_of}
use Rattle.problem_session.specs.declared.change.Change.{Change}
use Rattle.problem_session.specs.declared.change.Checked.{Checked}
use Rattle.script_fault.specs.Answers.{IsFaultOrMemory}
use Rattle.script_fault.specs.declared.fault.ReadError.{ReadError}
use Rattle.script_fault.specs.declared.fault.ReadError.TheVariants.{Memory}
use Rattle.script_fault.specs.declared.fault.ScriptFault.{ScriptFault}
use Rattle.script_forms.specs.Atoms.{goal_atom}
use Rattle.script_forms.specs.Walk.{building_fault}
use Rattle.script_model.specs.Script.{Command}
use Rattle.script_reading.specs.Built.{IsBuiltOf}
use Rattle.script_reading.specs.Faults.{first_of, in_building, in_each_rewritten, in_rewriting, rooted_script_fault, rooted_session_fault}
use Rattle.script_reading.specs.Goals.{goal_of_checks}
use Rattle.script_reading.specs.Reader.{or_none}
use Rattle.script_reading.specs.Session.{AreBuilt, not_carried, rewritten_at, steps_of_text}
use Rattle.script_roots.specs.Rewritten.{rewritten}
use Rattle.smt_script.specs.Levels.{Asked, Levels, Step, asked_from, checks_of, only_script}
use Rattle.sort_check.specs.Single.{Stacks}
use Rattle.sort_check.specs.SortAnswers.{finding_fault}
use Rattle.sort_check.specs.Sorts.{sort_fault}
use Rattle.sort_check.specs.declared.force.Force.{Force}

-- ---- of a text

-- these checks, where constants stand for roots and quotients
abbrev pub rewritten_checks : Option ℕ → List Asked → List Asked
rewritten_checks bound asked = map (rewritten_at bound) asked

abbrev pub rooted_checks : Option ℕ → List ℕ → List Asked
rooted_checks bound text = rewritten_checks bound (checks_of (steps_of_text text))

-- the commands of a script with one check
abbrev pub rooted_commands : Option ℕ → List ℕ → List Command
rooted_commands bound text = or_none (only_script (rooted_checks bound text))

-- the atom of the goal at its only check
abbrev pub rooted_goal_in : Option ℕ → List ℕ → Option ℕ
rooted_goal_in bound text = goal_of_checks (rooted_checks bound text)

-- it has no fault where it is read with roots, and this is its problem
pub record HasRootedProblem (bound : Option ℕ) (p : Problem) (text : List ℕ) : Type 0 where
  pub clean : rooted_script_fault bound text ≡ None
  pub built : IsBuiltOf bound (rooted_commands bound text) p

-- it has no fault where it is read with roots, and these are the problems of its checks
pub record HasRootedSession (bound : Option ℕ) (problems : List (Problem × Bool)) (text : List ℕ) : Type 0 where
  pub clean : rooted_session_fault bound text ≡ None
  pub built : AreBuilt bound (rooted_checks bound text) (map not_carried (checks_of (steps_of_text text))) problems

-- the atom of its goal, or memory
abbrev pub IsRootedGoal : Option ℕ → List ℕ → Result (Option ℕ) ReadError → Type 0
IsRootedGoal bound text (Ok goal) = goal ≡ rooted_goal_in bound text
IsRootedGoal bound text (Err e) = e ≡ Memory

-- ---- of commands

-- the fault of their names and sorts, and then of their building
abbrev pub in_sorted : Option ℕ → List Command → Option ScriptFault
in_sorted bound script = first_of (finding_fault (sort_fault script)) (in_building (building_fault bound script))

-- their problem and the atom of their goal, or their fault
abbrev pub IsSortedProblem : Option ℕ → List Command → Result (Parts × Option ℕ) ReadError → Type 0
IsSortedProblem bound script (Ok r) = (in_sorted bound script ≡ None) × IsBuiltOf bound script (problem_of r.0) × (r.1 ≡ goal_atom script)
IsSortedProblem bound script (Err e) = IsFaultOrMemory e (in_sorted bound script)

-- the same of the commands in which constants stand for the roots and quotients of these
abbrev pub IsRewrittenProblem : Option ℕ → List Command → Result (Parts × Option ℕ) ReadError → Type 0
IsRewrittenProblem bound script (Ok r) =
    (in_rewriting bound script ≡ None) × IsBuiltOf bound (rewritten bound script) (problem_of r.0) × (r.1 ≡ goal_atom (rewritten bound script))
IsRewrittenProblem bound script (Err e) = IsFaultOrMemory e (in_rewriting bound script)

-- of whatever problem was before, the change makes the problem of these commands
abbrev pub Makes : Option ℕ → List Command → Change → Type 0
Makes bound script c = (p : Parts) → IsChange p c × IsBuiltOf bound script (problem_of (changed p c))

abbrev pub IsSortedChange : Option ℕ → List Command → Result Change ReadError → Type 0
IsSortedChange bound script (Ok c) = (in_sorted bound script ≡ None) × Makes bound script c
IsSortedChange bound script (Err e) = IsFaultOrMemory e (in_sorted bound script)

abbrev pub IsRewrittenChange : Option ℕ → List Command → Result Change ReadError → Type 0
IsRewrittenChange bound script (Ok c) = (in_rewriting bound script ≡ None) × Makes bound (rewritten bound script) c
IsRewrittenChange bound script (Err e) = IsFaultOrMemory e (in_rewriting bound script)

-- ---- step by step

-- of these steps those are left, and all others are done
pub record GoesWithRoots (bound : Option ℕ) (steps : List Step) (force : Force) (checks : List Checked) (left : List Step) : Type 0 where
  pub open_levels : Levels
  pub stacks : Stacks force.script.sexps.now force.script.commands.items force.marks.items open_levels
  pub done : List Asked
  pub asked : checks_of steps ≡ done ++ asked_from open_levels left
  pub built : AreBuilt bound (rewritten_checks bound done) (map not_carried done) (problems_of (problems_from no_parts checks))
  pub clean : in_each_rewritten bound (checks_of steps) ≡ in_each_rewritten bound (asked_from open_levels left)
  pub changes : AreChanges no_parts checks

-- these steps are left behind a step, or this is the first fault, or memory
abbrev pub GoesOnWithRoots : Option ℕ → List Step → List Step → Force → Force → List Checked → Result (Unit {0}) ReadError → Type 0
GoesOnWithRoots bound steps left old new checks (Ok u) = GoesWithRoots bound steps new checks left × (new.script.sexps.now ≡ old.script.sexps.now)
GoesOnWithRoots bound steps left old new checks (Err e) = IsFaultOrMemory e (in_each_rewritten bound (checks_of steps))

-- the problems of the checks of these steps, or the first fault of one
abbrev pub IsRootedAnswer : Option ℕ → List Step → Result (List (Parts × Bool)) ReadError → Type 0
IsRootedAnswer bound steps (Ok session) =
    (in_each_rewritten bound (checks_of steps) ≡ None) × AreBuilt bound (rewritten_checks bound (checks_of steps)) (map not_carried (checks_of steps)) (problems_of session)
IsRootedAnswer bound steps (Err e) = IsFaultOrMemory e (in_each_rewritten bound (checks_of steps))
