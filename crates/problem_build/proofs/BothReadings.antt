-- The problem of a script that has a fault as it is written, and none where it is read with roots.
use Rattle.std.proofs.Common.{◌≡◌, ◌∙◌, ℕ, List, Option, Some, None, ap, sym, subst}
use Rattle.poly_graph.specs.Problem.{Problem}
use Rattle.script_model.specs.Script.{Command}
use Rattle.script_fault.specs.Answers.{IsFaultOrMemory}
use Rattle.script_fault.specs.declared.fault.ReadError.{ReadError}
use Rattle.script_fault.specs.declared.fault.ReadError.TheVariants.{Fault}
use Rattle.script_fault.specs.declared.fault.ScriptFault.{ScriptFault}
use Rattle.script_forms.specs.Atoms.{goal_atom}
use Rattle.smt_script.specs.Levels.{only_script}
use Rattle.script_reading.specs.Built.{IsBuiltOf}
use Rattle.script_reading.specs.Faults.{plain_script_fault, rooted_script_fault, unless_plain}
use Rattle.script_reading.specs.Reader.{HasProblem, commands_of, or_none}
use Rattle.script_reading.specs.Session.{asked_by, steps_of_text}
use Rattle.script_reading.proofs.Accepted.{rooted_in_session}
use Rattle.problem_build.specs.WithRoots.{HasRootedProblem, rooted_commands}

-- the fault that an error has, which is one
pub fault_is : {e : ReadError} {x : ScriptFault} {o : Option ScriptFault} → e ≡ Fault x → IsFaultOrMemory e o → o ≡ Some x
fault_is {e} {x} {o} is h = subst (λ (e : ReadError). IsFaultOrMemory e o) is h

module _ (bound : Option ℕ) (text : List ℕ) (x : ScriptFault) (h : plain_script_fault bound text ≡ Some x) where
  commands_are : rooted_script_fault bound text ≡ None → rooted_commands bound text ≡ commands_of bound text
  commands_are e =
      let y = rooted_in_session bound text x h e in
      sym (ap (λ o. or_none (only_script (asked_by bound (steps_of_text text) o))) y.1)

  pub goal_had : (p : Problem) (g : Option ℕ) → HasRootedProblem bound p text × (g ≡ goal_atom (rooted_commands bound text)) →
      HasProblem bound p text × (g ≡ goal_atom (commands_of bound text))
  goal_had p g r =
      let e = commands_are r.0.clean in (
        record {
          clean = ap (λ o. unless_plain o (rooted_script_fault bound text)) h ∙ ap (unless_plain (Some x)) r.0.clean;
          built = subst (λ (cs : List Command). IsBuiltOf bound cs p) e r.0.built;
        },
        r.1 ∙ ap goal_atom e,
      )
