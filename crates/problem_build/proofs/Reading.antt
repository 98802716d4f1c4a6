-- The first fault of a script as it is written, by the phase that met it, and the problem of a script without one.
use Rattle.std.proofs.Common.{◌≡◌, ◌≤◌, ◌∷◌, [], ℕ, suc, List, Bool, cond, Option, Some, None, length, refl, ap, sym, ◌∙◌, subst}
use Rattle.std.specs.Prelude.{All, MatchResult, Result, Ok, Err}
use Rattle.std.proofs.lemmas.Bool.{le-leb}
use Rattle.script_model.specs.Sexp.{Sexp}
use Rattle.script_model.specs.Script.{Command, Constant, constants_of}
use Rattle.script_model.specs.Declared.{DeclaredInterval, declared_interval}
use Rattle.script_fault.specs.Answers.{IsFaultOrMemory}
use Rattle.script_fault.specs.declared.fault.ReadError.{ReadError}
use Rattle.script_fault.specs.declared.fault.ReadError.TheVariants.{Fault, Memory}
use Rattle.script_fault.specs.declared.fault.ScriptFault.{ScriptFault}
use Rattle.smt_sexp.specs.Lexicon.{TextRead, whole, read}
use Rattle.smt_sexp.specs.TextAnswers.{bytes_fault}
use Rattle.smt_script.specs.Commands.{CommandsRead, steps, steps_of, accepted, of_read}
use Rattle.smt_script.specs.Levels.{Asked, Step, checks_of, only_script}
use Rattle.smt_script.specs.CommandAnswers.{commands_fault}
use Rattle.smt_script.specs.Views.{commands_in, steps_in}
use Rattle.smt_script.specs.declared.command.Course.{Course}
use Rattle.smt_script.specs.declared.command.Script.{Script}
use Rattle.sort_check.specs.Sorts.{Finding, sort_fault}
use Rattle.sort_check.specs.SortAnswers.{finding_fault}
use Rattle.sort_check.specs.Levels.{course_fault}
use Rattle.sort_check.specs.Single.{asked_fault}
use Rattle.script_forms.specs.ProblemOf.{AreAxes, IsProblemOf}
use Rattle.script_forms.specs.Walk.{building_fault}
use Rattle.poly_graph.specs.Problem.{Axis}
use Rattle.poly_graph.specs.ProblemViews.{Parts, problem_of, IsWhole}
use Rattle.problem_build.specs.BuildAnswers.{IsBuildingError, IsLean}
use Rattle.problem_build.proofs.Few.{few_constants}
use Rattle.script_reading.specs.Faults.{by_bytes, by_text, by_commands, by_sorts, in_checks, in_each_check, in_building, most_bytes, plain_script_fault, plain_session_fault}
use Rattle.script_reading.proofs.Parts.{bytes_first, commands_first, sorts_first, checks_first}
use Rattle.script_reading.specs.Built.{AreLowest, IsBuiltOf, IsInWalkOrder}
use Rattle.script_reading.specs.Reader.{too_many_bytes, or_none}
use Rattle.script_reading.specs.Session.{AreBuilt, carried_of, or_no_steps, steps_of_text}
use Rattle.problem_session.specs.Session.{problems_of}
use Rattle.problem_build.specs.Plain.{HasPlainProblem, HasPlainSession, plain_commands}
use Rattle.problem_build.specs.Session.{IsSessionAnswer}

-- ---- a fault of one phase

pub lifted : (e : ReadError) (o p : Option ScriptFault) → ((x : ScriptFault) → o ≡ Some x → p ≡ Some x) → IsFaultOrMemory e o → IsFaultOrMemory e p
lifted (Fault f) o p g h = g f h
lifted Memory o p g h = tt

-- the fault of the building of the only script
in_only : (bound : Option ℕ) (asked : List Asked) (cs : List Command) → only_script asked ≡ Some cs → in_checks bound asked ≡ in_building (building_fault bound cs)
in_only bound [] cs e = cc
in_only bound (a ∷ []) cs e = ap (λ (o : Option (List Command)). in_building (building_fault bound (or_none o))) e
in_only bound (a ∷ b ∷ later) cs e = cc

-- where these find the fault of names and sorts, and that of the checks
module _ (sorts : List Step → Finding) (last : List Asked → Option ScriptFault) (text : List ℕ) (e : ReadError) where
  pub bytes_refused : IsFaultOrMemory e (bytes_fault text) → IsFaultOrMemory e (by_bytes sorts last text)
  bytes_refused h = lifted e (bytes_fault text) (by_bytes sorts last text) (bytes_first sorts last text) h

  module _ (few : length text ≤ most_bytes) where
    in-bytes : by_bytes sorts last text ≡ by_text sorts last (read text)
    in-bytes = ap (λ (b : Bool). cond b (by_text sorts last (read text)) (Some too_many_bytes)) (le-leb (length text) most_bytes few)

    module _ (es : List Sexp) (whole_is : read text ≡ whole es) where
      pub commands_refused : IsFaultOrMemory e (commands_fault (steps_of es)) → IsFaultOrMemory e (by_bytes sorts last text)
      commands_refused h = lifted e (commands_fault (steps_of es)) (by_bytes sorts last text)
          (λ x t. in-bytes ∙ ap (by_text sorts last) whole_is ∙ commands_first sorts last (steps_of es) x t) h

      module _ (course : Course) (commands_are : steps_of es ≡ steps (steps_in course)) where
        pub sorts_refused : IsFaultOrMemory e (finding_fault (sorts (steps_in course))) → IsFaultOrMemory e (by_bytes sorts last text)
        sorts_refused h = lifted e (finding_fault (sorts (steps_in course))) (by_bytes sorts last text)
            (λ x t. in-bytes ∙ ap (by_text sorts last) whole_is ∙ ap (by_commands sorts last) commands_are ∙ sorts_first sorts last (steps_in course) (sorts (steps_in course)) x t) h

        module _ (sorted : sorts (steps_in course) ≡ None) where
          pub in_asked : by_bytes sorts last text ≡ last (checks_of (steps_in course))
          in_asked = in-bytes ∙ ap (by_text sorts last) whole_is ∙ ap (by_commands sorts last) commands_are ∙ ap (by_sorts last (steps_in course)) sorted

          pub asked_refused : IsFaultOrMemory e (last (checks_of (steps_in course))) → IsFaultOrMemory e (by_bytes sorts last text)
          asked_refused h = lifted e (last (checks_of (steps_in course))) (by_bytes sorts last text) (λ x t. in_asked ∙ t) h

module _ (bound : Option ℕ) (text : List ℕ) (e : ReadError) (few : length text ≤ most_bytes) (es : List Sexp) (whole_is : read text ≡ whole es) (course : Course) (commands_are : steps_of es ≡ steps (steps_in course))
    (typed : Course) (same : typed ≡ course) (sorted : course_fault (steps_in course) ≡ None) where
  in-typed : plain_script_fault bound text ≡ in_checks bound (checks_of (steps_in typed))
  in-typed = in_asked course_fault (in_checks bound) text e few es whole_is course commands_are sorted ∙ ap (λ (t : Course). in_checks bound (checks_of (steps_in t))) (sym same)

  pub checks_refused : IsFaultOrMemory e (asked_fault (checks_of (steps_in typed))) → IsFaultOrMemory e (plain_script_fault bound text)
  checks_refused h = lifted e (asked_fault (checks_of (steps_in typed))) (plain_script_fault bound text) (λ x t. in-typed ∙ checks_first bound (checks_of (steps_in typed)) x t) h

  module _ (only : Script) (only_is : only_script (checks_of (steps_in typed)) ≡ Some (commands_in only)) where
    pub building_refused : IsBuildingError e (building_fault bound (commands_in only)) → IsFaultOrMemory e (plain_script_fault bound text)
    building_refused h = lifted e (in_building (building_fault bound (commands_in only))) (plain_script_fault bound text)
        (λ x t. in-typed ∙ in_only bound (checks_of (steps_in typed)) (commands_in only) only_is ∙ t) h

-- ---- a script without a fault

pub steps_are : (text : List ℕ) (es : List Sexp) (ss : List Step) → read text ≡ whole es → steps_of es ≡ steps ss → steps_of_text text ≡ ss
steps_are text es ss e e' = ap (λ (r : TextRead). or_no_steps (of_read r)) e ∙ ap (λ (r : CommandsRead). or_no_steps (accepted r)) e'

axes-length : (box : ℕ → DeclaredInterval) (axis : ℕ) (constants : List Constant) (axes : List Axis) → AreAxes box axis constants axes → length axes ≡ length constants
axes-length box axis [] [] h = refl
axes-length box axis (c ∷ constants) (a ∷ axes) h = ap suc (axes-length box (suc axis) constants axes h.2)
axes-length box axis [] (a ∷ axes) h = absurd h
axes-length box axis (c ∷ constants) [] h = absurd h

-- what is built of well-sorted commands
pub whole_built : (bound : Option ℕ) (cs : List Command) → sort_fault cs ≡ None → (p : Parts) → IsWhole p → IsLean p → IsInWalkOrder cs p.nodes → All (λ (a : Axis). AreLowest a.declared) p.axes →
    IsProblemOf bound cs (problem_of p) → IsBuiltOf bound cs (problem_of p)
whole_built bound cs sorted p w l n g built = record {
  whole = w.problem;
  problem = built;
  ends = g;
  nodes = l.nodes;
  order = n;
  axes = subst (λ (n : ℕ). n ≤ 1024) (sym (axes-length (declared_interval bound cs) 0 (constants_of cs) p.axes built.axes)) (few_constants cs sorted);
  atoms = l.atoms;
}

module _ (bound : Option ℕ) (text : List ℕ) (es : List Sexp) (course typed : Course) (only : Script) (few : length text ≤ most_bytes) (whole_is : read text ≡ whole es)
    (commands_are : steps_of es ≡ steps (steps_in course)) (same : typed ≡ course) (sorted : course_fault (steps_in course) ≡ None)
    (only_is : only_script (checks_of (steps_in typed)) ≡ Some (commands_in only)) (only_sorted : sort_fault (commands_in only) ≡ None) where
  pub script_is : commands_in only ≡ plain_commands text
  script_is = sym (ap (λ (ss : List Step). or_none (only_script (checks_of ss))) (steps_are text es (steps_in course) whole_is commands_are) ∙
      ap (λ (t : Course). or_none (only_script (checks_of (steps_in t)))) (sym same) ∙ ap or_none only_is)

  pub problem_had : (p : Parts) → IsWhole p → IsLean p → IsInWalkOrder (commands_in only) p.nodes → All (λ (a : Axis). AreLowest a.declared) p.axes →
      (building_fault bound (commands_in only) ≡ None) × IsProblemOf bound (commands_in only) (problem_of p) → HasPlainProblem bound (problem_of p) text
  problem_had p w l n g built =
      let cs : List Command = commands_in only in
      record {
        clean = in-typed bound text Memory few es whole_is course commands_are typed same sorted ∙ in_only bound (checks_of (steps_in typed)) cs only_is ∙ ap in_building built.0;
        built = subst (λ (c : List Command). IsBuiltOf bound c (problem_of p)) script_is (whole_built bound cs only_sorted p w l n g built.1);
      }

-- ---- a script with any number of checks

module _ (bound : Option ℕ) (text : List ℕ) (es : List Sexp) (course typed : Course) (few : length text ≤ most_bytes) (whole_is : read text ≡ whole es)
    (commands_are : steps_of es ≡ steps (steps_in course)) (same : typed ≡ course) (sorted : course_fault (steps_in course) ≡ None) where
  pub session_had : (session : List (Parts × Bool)) → IsSessionAnswer bound (steps_in typed) (Ok session) → HasPlainSession bound (problems_of session) text
  session_had session h =
      let are : steps_in typed ≡ steps_of_text text = ap steps_in same ∙ sym (steps_are text es (steps_in course) whole_is commands_are) in
      record {
        clean = in_asked course_fault (in_each_check bound) text Memory few es whole_is course commands_are sorted ∙ ap (λ (t : Course). in_each_check bound (checks_of (steps_in t))) (sym same) ∙ h.0;
        built = subst (λ (ss : List Step). AreBuilt bound (checks_of ss) (carried_of ss) (problems_of session)) are h.1;
      }

  pub session_answer : (r : Result (List (Parts × Bool)) ReadError) → IsSessionAnswer bound (steps_in typed) r →
      MatchResult r (λ session. HasPlainSession bound (problems_of session) text) (λ e. IsFaultOrMemory e (plain_session_fault bound text))
  session_answer (Ok session) h = session_had session h
  session_answer (Err e) h = asked_refused course_fault (in_each_check bound) text e few es whole_is course commands_are sorted
      (subst (λ (t : Course). IsFaultOrMemory e (in_each_check bound (checks_of (steps_in t)))) same h)
