-- The problem of commands in which constants stand for roots and quotients, and of the text of a script that is read with roots.
use Rattle.std.proofs.Common.{◌≡◌, ◌≤◌, ℕ, List, [], ◌∷◌, ◌++◌, Bool, Option, Some, None, length, map, refl, ap, sym, ◌∙◌, subst}
use Rattle.std.specs.Prelude.{MatchResult, Result, Ok, Err}
use Rattle.script_model.specs.Sexp.{Sexp}
use Rattle.script_model.specs.Script.{Command}
use Rattle.script_fault.specs.Answers.{IsFaultOrMemory}
use Rattle.script_fault.specs.declared.fault.ReadError.{ReadError}
use Rattle.script_fault.specs.declared.fault.ReadError.TheVariants.{Memory}
use Rattle.script_fault.specs.declared.fault.ScriptFault.{ScriptFault}
use Rattle.script_forms.specs.Atoms.{goal_atom}
use Rattle.script_forms.specs.Walk.{building_fault}
use Rattle.script_roots.specs.Rewritten.{rewritten}
use Rattle.smt_sexp.specs.Lexicon.{whole, read}
use Rattle.smt_script.specs.Commands.{steps, steps_of}
use Rattle.smt_script.specs.Levels.{Asked, Step, checks_of, only_script}
use Rattle.smt_script.specs.Views.{steps_in}
use Rattle.smt_script.specs.declared.command.Course.{Course}
use Rattle.sort_check.specs.Levels.{course_fault_with_roots}
use Rattle.sort_check.specs.SortAnswers.{finding_fault}
use Rattle.sort_check.specs.Sorts.{sort_fault}
use Rattle.poly_graph.specs.ProblemViews.{Parts, problem_of}
use Rattle.problem_session.specs.Changes.{no_parts}
use Rattle.problem_session.specs.Session.{problems_of}
use Rattle.problem_session.specs.declared.change.Change.{Change}
use Rattle.script_reading.specs.Built.{IsBuiltOf}
use Rattle.script_reading.specs.Faults.{first_of, in_building, in_each_rewritten, in_rewriting, in_rewritten, most_bytes, rooted_script_fault, rooted_session_fault}
use Rattle.script_reading.specs.Reader.{or_none}
use Rattle.script_reading.specs.Session.{AreBuilt, not_carried}
use Rattle.term_build.specs.Built.{BuilderModel}
use Rattle.problem_build.specs.BuildAnswers.{IsBuildingError}
use Rattle.problem_build.specs.Changes.{IsChangeAnswer, Starts}
use Rattle.problem_build.specs.WithRoots.{HasRootedProblem, HasRootedSession, IsRewrittenProblem, IsRootedAnswer, IsSortedChange, in_sorted, rewritten_checks, rooted_commands}
use Rattle.problem_build.proofs.Reading.{asked_refused, in_asked, steps_are}

-- ---- names and sorts, and then the building

module _ (bound : Option ℕ) (script : List Command) where
  module _ (sorted : sort_fault script ≡ None) where
    in-building : in_sorted bound script ≡ in_building (building_fault bound script)
    in-building = ap (λ x. first_of (finding_fault x) (in_building (building_fault bound script))) sorted

    build-refused : (e : ReadError) → IsBuildingError e (building_fault bound script) → IsFaultOrMemory e (in_sorted bound script)
    build-refused e h = subst (λ (o : Option ScriptFault). IsFaultOrMemory e o) (sym in-building) h

    pub clean_sorted : building_fault bound script ≡ None → in_sorted bound script ≡ None
    clean_sorted e = in-building ∙ ap in_building e

    pub change_sorted : (m : BuilderModel) (r : Result Change ReadError) → ((p : Parts) → IsChangeAnswer bound script p m r) → IsSortedChange bound script r
    change_sorted m (Ok c) h = (clean_sorted (h no_parts).clean, λ p. ((h p).change, (h p).built))
    change_sorted m (Err e) h = build-refused e (h no_parts)

-- ---- what begins no problem begins each

nothing-first : {A : Type 0} (xs ys : List A) → [] ≡ xs ++ ys → xs ≡ []
nothing-first [] ys e = refl
nothing-first (x ∷ xs) ys e = cc

pub starts_any : (m : BuilderModel) → Starts no_parts m → (p : Parts) → Starts p m
starts_any m s p = record {
  nodes = (p.nodes, sym (ap (λ xs. xs ++ p.nodes) (nothing-first m.nodes s.nodes.0 s.nodes.1)));
  atoms = (p.atoms, sym (ap (λ xs. xs ++ p.atoms) (nothing-first m.atoms s.atoms.0 s.atoms.1)));
  forms = (p.forms, sym (ap (λ xs. xs ++ p.forms) (nothing-first m.forms s.forms.0 s.forms.1)));
}

-- ---- the only check

in-only : (bound : Option ℕ) (asked : List Asked) (cs : List Command) → only_script asked ≡ Some cs → in_rewritten bound asked ≡ in_rewriting bound cs
in-only bound [] cs e = cc
in-only bound (a ∷ []) cs e = ap (λ (o : Option (List Command)). in_rewriting bound (or_none o)) e
in-only bound (a ∷ b ∷ later) cs e = cc

only-rewritten : (bound : Option ℕ) (asked : List Asked) (cs : List Command) → only_script asked ≡ Some cs → or_none (only_script (rewritten_checks bound asked)) ≡ rewritten bound cs
only-rewritten bound [] cs e = cc
only-rewritten bound (a ∷ []) cs e = ap (λ (o : Option (List Command)). rewritten bound (or_none o)) e
only-rewritten bound (a ∷ b ∷ later) cs e = cc

-- ---- a text

module _ (bound : Option ℕ) (text : List ℕ) (es : List Sexp) (course : Course) (few : length text ≤ most_bytes) (whole_is : read text ≡ whole es)
    (commands_are : steps_of es ≡ steps (steps_in course)) (sorted : course_fault_with_roots (steps_in course) ≡ None) where
  module _ (only : List Command) (only_is : only_script (checks_of (steps_in course)) ≡ Some only) where
    fault-is : rooted_script_fault bound text ≡ in_rewriting bound only
    fault-is = in_asked course_fault_with_roots (in_rewritten bound) text Memory few es whole_is course commands_are sorted ∙ in-only bound (checks_of (steps_in course)) only only_is

    commands-are : rewritten bound only ≡ rooted_commands bound text
    commands-are = sym (ap (λ (ss : List Step). or_none (only_script (rewritten_checks bound (checks_of ss)))) (steps_are text es (steps_in course) whole_is commands_are)
        ∙ only-rewritten bound (checks_of (steps_in course)) only only_is)

    pub problem_answer : (r : Result (Parts × Option ℕ) ReadError) → IsRewrittenProblem bound only r →
        MatchResult r (λ r. HasRootedProblem bound (problem_of r.0) text × (r.1 ≡ goal_atom (rooted_commands bound text))) (λ e. IsFaultOrMemory e (rooted_script_fault bound text))
    problem_answer (Ok r) h = (
      record { clean = fault-is ∙ h.0; built = subst (λ (cs : List Command). IsBuiltOf bound cs (problem_of r.0)) commands-are h.1 },
      h.2 ∙ ap goal_atom commands-are,
    )
    problem_answer (Err e) h = subst (λ (o : Option ScriptFault). IsFaultOrMemory e o) (sym fault-is) h

  pub rooted_session_answer : (r : Result (List (Parts × Bool)) ReadError) → IsRootedAnswer bound (steps_in course) r →
      MatchResult r (λ session. HasRootedSession bound (problems_of session) text) (λ e. IsFaultOrMemory e (rooted_session_fault bound text))
  rooted_session_answer (Ok session) h = record {
    clean = in_asked course_fault_with_roots (in_each_rewritten bound) text Memory few es whole_is course commands_are sorted ∙ h.0;
    built = subst (λ (ss : List Step). AreBuilt bound (rewritten_checks bound (checks_of ss)) (map not_carried (checks_of ss)) (problems_of session))
        (sym (steps_are text es (steps_in course) whole_is commands_are)) h.1;
  }
  rooted_session_answer (Err e) h = asked_refused course_fault_with_roots (in_each_rewritten bound) text e few es whole_is course commands_are sorted h
