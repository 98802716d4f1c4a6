-- A script with one check has one problem, and its certificates one value.
use Rattle.std.proofs.Common.{◌≡◌, ◌<◌, length, ℕ, List, [], ◌∷◌, Bool, Option, Some, None, map, refl, ap, sym, ◌∙◌, subst}
use Rattle.poly_graph.specs.Problem.{Problem}
use Rattle.poly_graph.specs.ProblemViews.{Parts, problem_of}
use Rattle.problem_session.specs.Session.{problems_of}
use Rattle.cover_model.specs.State.{Loosenings}
use Rattle.cert_model.specs.Due.{Value}
use Rattle.cert_model.specs.Accepted.{accepted, refused, Verdict, IsAccepted, verdict}
use Rattle.cert_model.specs.Session.{AreAccepted, one_verdict}
use Rattle.script_model.specs.Script.{Command}
use Rattle.script_forms.specs.Atoms.{goal_atom}
use Rattle.script_forms.proofs.Goals.{goal_of_problem}
use Rattle.smt_script.specs.Levels.{Asked, Step, checks_of, only_script}
use Rattle.script_reading.specs.Goals.{goal_in, goal_of_checks}
use Rattle.script_reading.specs.Built.{IsBuiltOf}
use Rattle.script_fault.specs.declared.fault.ScriptFault.{ScriptFault}
use Rattle.script_reading.specs.Faults.{plain_session_fault}
use Rattle.script_reading.specs.Reader.{HasProblem, IsBuilt, commands_of, or_none}
use Rattle.script_reading.specs.Session.{AreBuilt, HasSession, asked_by, asked_in, carried_in, rewritten_at, steps_of_text}
use Rattle.check_run.specs.Check.{IsGoalOf}
use Rattle.check_run.specs.Headline.{HasOneCheck}
use Rattle.check_run.specs.Script.{IsAtomOf}

-- ---- the script

-- the commands of the script are those in force at its check
commands_are : (bound : Option ℕ) (script : List ℕ) (a : Asked) → asked_in bound script ≡ a ∷ [] → commands_of bound script ≡ a.script
commands_are bound script a e = ap (λ (asked : List Asked). or_none (only_script asked)) e

one-asked : (bound : Option ℕ) (steps : List Step) (fault : Option ScriptFault) (a : Asked) → checks_of steps ≡ a ∷ [] → (b : Asked) × (asked_by bound steps fault ≡ b ∷ [])
one-asked bound steps None a e = (a, e)
one-asked bound steps (Some x) a e = (rewritten_at bound a, ap (map (rewritten_at bound)) e)

-- it has one check, with roots or without
asked_once : (bound : Option ℕ) (script : List ℕ) → HasOneCheck script → (b : Asked) × (asked_in bound script ≡ b ∷ [])
asked_once bound script single = one-asked bound (steps_of_text script) (plain_session_fault bound script) single.0 single.1

one-checked : (bound : Option ℕ) (asked : List Asked) (b : Asked) → map (rewritten_at bound) asked ≡ b ∷ [] → (a : Asked) × (asked ≡ a ∷ [])
one-checked bound [] b e = cc
one-checked bound (a ∷ []) b e = (a, refl)
one-checked bound (a ∷ c ∷ later) b e = cc

once-asked : (bound : Option ℕ) (steps : List Step) (fault : Option ScriptFault) (b : Asked) → asked_by bound steps fault ≡ b ∷ [] → (a : Asked) × (checks_of steps ≡ a ∷ [])
once-asked bound steps None b e = (b, e)
once-asked bound steps (Some x) b e = one-checked bound (checks_of steps) b e

-- ---- its goal

goal-of-one : (asked : List Asked) (g : ℕ) → goal_of_checks asked ≡ Some g → (a : Asked) × (asked ≡ a ∷ []) × (goal_atom a.script ≡ Some g)
goal-of-one [] g e = cc
goal-of-one (a ∷ []) g e = (a, refl, e)
goal-of-one (a ∷ b ∷ later) g e = cc

-- a script with a goal has one check
pub goal_has_one : (bound : Option ℕ) (script : List ℕ) (g : ℕ) → goal_in bound script ≡ Some g → HasOneCheck script
goal_has_one bound script g e =
    let x = goal-of-one (asked_in bound script) g e in
    once-asked bound (steps_of_text script) (plain_session_fault bound script) x.0 x.1

-- of the commands in force at it
pub goal_is : (bound : Option ℕ) (script : List ℕ) (g : ℕ) → goal_in bound script ≡ Some g → goal_atom (commands_of bound script) ≡ Some g
goal_is bound script g e = let x = goal-of-one (asked_in bound script) g e in ap goal_atom (commands_are bound script x.0 x.1) ∙ x.2

-- ---- its problem

pub record OneProblem (bound : Option ℕ) (script : List ℕ) (ps : List (Problem × Bool)) : Type 0 where
  pub problem : Problem
  pub extends : Bool
  pub only : ps ≡ (problem, extends) ∷ []
  pub built : IsBuilt bound script problem

one-of : (bound : Option ℕ) (script : List ℕ) (a : Asked) → commands_of bound script ≡ a.script → (said : List Bool) (ps : List (Problem × Bool)) → AreBuilt bound (a ∷ []) said ps → OneProblem bound script ps
one-of bound script a e (x ∷ []) ((p, y) ∷ []) h = record { problem = p; extends = y; only = refl; built = subst (λ (cs : List Command). IsBuiltOf bound cs p) (sym e) h.0 }
one-of bound script a e [] ps h = absurd h
one-of bound script a e (x ∷ said) [] h = absurd h
one-of bound script a e (x ∷ y ∷ said) (p ∷ ps) h = absurd h.2
one-of bound script a e (x ∷ []) (p ∷ q ∷ ps) h = absurd h.2

pub one_problem : (bound : Option ℕ) (script : List ℕ) → HasOneCheck script → (ps : List (Problem × Bool)) → HasSession bound ps script → OneProblem bound script ps
one_problem bound script single ps has =
    let once = asked_once bound script single in
    one-of bound script once.0 (commands_are bound script once.0 once.1) (carried_in bound script) ps
    (subst (λ (asked : List Asked). AreBuilt bound asked (carried_in bound script) ps) once.1 has.built)

-- ---- its value

pub record OneValue (p : Problem) (bound : Option ℕ) (cert : List ℕ) (s : Loosenings) (values : List Value) : Type 0 where
  pub value : Value
  pub only : values ≡ value ∷ []
  pub accepts : IsAccepted p bound cert s value

one-by : (p : Problem) (bound : Option ℕ) (cert : List ℕ) (s : Loosenings) (values : List Value) (w : Verdict) → verdict p bound cert ≡ w → one_verdict w ≡ accepted s values → OneValue p bound cert s values
one-by p bound cert s values (accepted s' v) e h =
    let same : s' ≡ s = cc in let only : v ∷ [] ≡ values = cc in
    record { value = v; only = sym only; accepts = e ∙ ap (λ (x : Loosenings). accepted x v) same }
one-by p bound cert s values (refused f n) e h = cc

pub one_value : (p : Problem) (x : Bool) (bound : Option ℕ) (cert : List ℕ) (s : Loosenings) (values : List Value) → AreAccepted ((p, x) ∷ []) bound cert s values → OneValue p bound cert s values
one_value p x bound cert s values e = one-by p bound cert s values (verdict p bound cert) refl e

-- ---- its goal's atom

atoms-of-first : List (Problem × Bool) → ℕ
atoms-of-first [] = 0
atoms-of-first ((p, e) ∷ rest) = length p.atoms

atom-by : (session : List (Parts × Bool)) (p : Problem) (e : Bool) → problems_of session ≡ (p, e) ∷ [] → (g : ℕ) → g < length p.atoms → IsGoalOf (Some g) session
unfolding atoms-of-first
atom-by [] p e h g few = cc
atom-by ((q, x) ∷ []) p e h g few = subst (λ (n : ℕ). g < n) (sym (ap atoms-of-first h)) few
atom-by (q ∷ r ∷ rest) p e h g few = cc

atom-of : (bound : Option ℕ) (script : List ℕ) (session : List (Parts × Bool)) → HasSession bound (problems_of session) script → (g : ℕ) → goal_in bound script ≡ Some g → IsGoalOf (Some g) session
atom-of bound script session has g is =
    let x = one_problem bound script (goal_has_one bound script g is) (problems_of session) has in
    atom-by session x.problem x.extends x.only g (goal_of_problem bound (commands_of bound script) x.problem x.built.problem g (goal_is bound script g is)).0

-- the goal's atom is one of the problem of the only check
pub goal_of_session : (bound : Option ℕ) (script : List ℕ) (session : List (Parts × Bool)) → HasSession bound (problems_of session) script → (goal : Option ℕ) → goal ≡ goal_in bound script → IsGoalOf goal session
goal_of_session bound script session has None is = tt
goal_of_session bound script session has (Some g) is = atom-of bound script session has g (sym is)

-- so of the problem of a script that may have one check
pub goal_of_script : (bound : Option ℕ) (script : List ℕ) (p : Parts) → HasProblem bound (problem_of p) script → (goal : Option ℕ) → goal ≡ goal_atom (commands_of bound script) → IsAtomOf goal p
goal_of_script bound script p has None is = tt
goal_of_script bound script p has (Some g) is = (goal_of_problem bound (commands_of bound script) (problem_of p) has.built.problem g (sym is)).0
