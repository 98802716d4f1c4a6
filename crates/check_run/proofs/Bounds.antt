-- What is told of a least value, and the ends of a run of `minimize` behind its script.
use Rattle.std.proofs.Common.{◌≡◌, ◌<◌, ℕ, List, [], ◌∷◌, ◌++◌, Option, Some, None, IfSome, length, ap, sym, subst, ◌∙◌, append_assoc, codes}
use Rattle.desk.specs.declared.desk.Port.TheVariants.{Script}
use Rattle.desk.specs.Sight.{Sight}
use Rattle.command_line.specs.Words.{Minimize}
use Rattle.dyadic.specs.Rounding.{Dyadic, Ext}
use Rattle.interval_model.specs.Space.{Space}
use Rattle.poly_graph.specs.Problem.{Problem}
use Rattle.poly_graph.specs.ProblemViews.{Parts}
use Rattle.cert_read.specs.LineText.{lower_text}
use Rattle.cert_model.specs.AnswerText.{text_line, axes_text, end_text, upper_line, value_text}
use Rattle.script_forms.specs.Atoms.{goal_atom}
use Rattle.script_reading.specs.Faults.{script_fault}
use Rattle.script_reading.specs.Reader.{HasProblem, commands_of}
use Rattle.check_run.specs.declared.status.Status.{Status}
use Rattle.check_run.specs.Bounds.{IsMinimizeText, IsNoGoal, bound_lines}
use Rattle.check_run.specs.Can.{CanFrom, OfProblem}
use Rattle.check_run.specs.Course.{RunEnds}
use Rattle.check_run.specs.Minimized.{CanMinimize, CanTellLeast, Cause, cause_text, point_lines}
use Rattle.check_run.specs.Script.{Fetches, IsAtomOf}
use Rattle.check_run.proofs.Running.{run_problem, told}

-- ---- texts

-- three lists behind one
grouped-four : (a b c d : List ℕ) → (a ++ (b ++ c)) ++ d ≡ a ++ (b ++ (c ++ d))
grouped-four a b c d = append_assoc a (b ++ c) d ∙ ap (λ (t : List ℕ). a ++ t) (append_assoc b c d)

-- the lines were written in their order
pub bounds_told : (p : Problem) (budget : ℕ) (cause : Cause) (lower : Option Dyadic) (upper : Ext) (point : Space) (first more text : List ℕ) → first ≡ cause_text budget cause → more ≡ first ++ bound_lines lower upper →
    text ≡ more ++ axes_text value_text p.axes point → IsMinimizeText p budget cause lower upper point text
bounds_told p budget cause lower upper point first more text begun two all g x low at end =
    let C : List ℕ = cause_text budget cause in
    let L : Option Dyadic → List ℕ = λ l. text_line (codes "lower " ++ lower_text l) in
    let U : Ext → List ℕ = λ e. text_line (codes "upper " ++ end_text e) in
    let A : List ℕ = axes_text value_text p.axes point in
    let rest : Option Space → List ℕ = λ o. upper_line p g o ++ point_lines p o in
    all ∙ ap (λ (t : List ℕ). t ++ A) (two ∙ ap (λ (t : List ℕ). t ++ bound_lines lower upper) begun) ∙ grouped-four C (L lower) (U upper) A
    ∙ ap (λ (e : Ext). C ++ (L lower ++ (U e ++ A))) end ∙ ap (λ (o : Option Space). C ++ (L lower ++ rest o)) (sym at) ∙ ap (λ (l : Option Dyadic). C ++ (L l ++ rest x.point)) (sym low)

-- ---- the ends of a run behind its problem

module _ (p : Problem) (goal : Option ℕ) (words : Minimize) (old new : Sight) (status : Status) where
  -- of a script with a goal
  pub minimize_ends : (g : ℕ) → goal ≡ Some g → RunEnds (CanTellLeast p g words) [] old new status → RunEnds (CanMinimize goal p words) [] old new status
  minimize_ends g some ends = subst (λ (o : Option ℕ). RunEnds (CanMinimize o p words) [] old new status) (sym some) ends

  -- of one without
  pub no_goal_ends : goal ≡ None → RunEnds IsNoGoal [] old new status → RunEnds (CanMinimize goal p words) [] old new status
  no_goal_ends none ends = subst (λ (o : Option ℕ). RunEnds (CanMinimize o p words) [] old new status) (sym none) ends

-- the atom of the goal is one of the problem
pub goal_within : (goal : Option ℕ) (g : ℕ) (p : Parts) → goal ≡ Some g → IsAtomOf goal p → g < length p.atoms
goal_within goal g p some is = subst (λ (o : Option ℕ). IsAtomOf o p) some is

-- ---- the end of a run behind its script

-- of a script that was read with its goal
pub run_minimize : (bound : Option ℕ) (name script : List ℕ) (words : Minimize) (old mid new : Sight) (status : Status) (p : Problem) (goal : Option ℕ) → Fetches name (HasProblem bound p) old mid → old.script ≡ Some script →
    IfSome old.script (λ (text : List ℕ). goal ≡ goal_atom (commands_of bound text)) → RunEnds (CanMinimize goal p words) [] mid new status →
    RunEnds (CanFrom name (script_fault bound script) (OfProblem bound script (λ p. CanMinimize (goal_atom (commands_of bound script)) p words))) ((Script, name) ∷ []) old new status
run_minimize bound name script words old mid new status p goal fetched e says ends =
    let is : goal ≡ goal_atom (commands_of bound script) = told (λ (text : List ℕ). goal ≡ goal_atom (commands_of bound text)) old.script script e says in
    run_problem bound name script (λ p. CanMinimize (goal_atom (commands_of bound script)) p words) [] old mid new status p fetched e
    (subst (λ (o : Option ℕ). RunEnds (CanMinimize o p words) [] mid new status) is ends)
