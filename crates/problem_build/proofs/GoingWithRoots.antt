-- The steps of a script that is read with roots, one after the other.
use Rattle.std.proofs.Common.{◌≡◌, ℕ, List, [], ◌∷◌, ◌++◌, Bool, false, Option, Some, None, map, refl, ap, sym, ◌∙◌, subst, append_assoc, append-nil}
use Rattle.std.specs.Prelude.{reverse}
use Rattle.std.proofs.lemmas.List.{map-append}
use Rattle.poly_graph.specs.Problem.{Problem}
use Rattle.poly_graph.specs.ProblemViews.{problem_of}
use Rattle.script_model.specs.Script.{Command, check}
use Rattle.script_fault.specs.Answers.{IsFaultOrMemory}
use Rattle.script_fault.specs.declared.fault.ReadError.{ReadError}
use Rattle.script_fault.specs.declared.place.Place.{Place}
use Rattle.script_reading.specs.Built.{IsBuiltOf}
use Rattle.script_reading.specs.Faults.{first_of, in_each_rewritten, in_rewriting}
use Rattle.script_reading.specs.Session.{AreBuilt, not_carried, rewritten_at}
use Rattle.script_roots.specs.Rewritten.{rewritten}
use Rattle.smt_sexp.specs.Views.{place_of}
use Rattle.smt_sexp.specs.declared.sexps.Sexps.{Sexps}
use Rattle.smt_script.specs.Levels.{Asked, Step, command, after_step, asked_from, checks_of, no_levels}
use Rattle.smt_script.specs.Views.{command_of, step_of}
use Rattle.smt_script.specs.declared.command.Step as code_step
use Rattle.sort_check.specs.Single.{AreLengths, IsNothing, Stacks, check_place}
use Rattle.sort_check.specs.declared.force.Force.{Force}
use Rattle.sort_check.proofs.Lengths.{check_is, nothing_held}
use Rattle.problem_session.specs.Changes.{AreChanges, changed, no_parts, problems_from}
use Rattle.problem_session.specs.Session.{checked_of, problems_of}
use Rattle.problem_session.specs.declared.change.Checked.{Checked}
use Rattle.problem_build.specs.Changes.{last_parts}
use Rattle.problem_build.specs.Session.{Stays, script_at}
use Rattle.problem_build.specs.WithRoots.{GoesWithRoots, Makes, rewritten_checks}
use Rattle.problem_build.proofs.Changed.{changes_more, problems_more}
use Rattle.problem_build.proofs.Going.{asked_behind, next_left, one_more}
use Rattle.problem_build.proofs.Reading.{lifted}

-- ---- a step that is no check

pub rooted_behind : (bound : Option ℕ) (steps left : List Step) (old new : Force) (checks : List Checked) (st : Step) → check_place st ≡ None → (h : GoesWithRoots bound steps old checks (st ∷ left)) →
    Stacks new.script.sexps.now new.script.commands.items new.marks.items (after_step h.open_levels st) → GoesWithRoots bound steps new checks left
rooted_behind bound steps left old new checks st none h stacks =
    let behind = asked_behind h.open_levels st left none in record {
      open_levels = after_step h.open_levels st;
      stacks = stacks;
      done = h.done;
      asked = h.asked ∙ ap (λ xs. h.done ++ xs) behind;
      built = h.built;
      clean = h.clean ∙ ap (in_each_rewritten bound) behind;
      changes = h.changes;
    }

-- ---- a check

built-same : (bound : Option ℕ) (asked bs : List Asked) (said told : List Bool) (ps qs : List (Problem × Bool)) → asked ≡ bs → said ≡ told → ps ≡ qs → AreBuilt bound asked said ps → AreBuilt bound bs told qs
built-same bound asked bs said told ps qs e f g h =
    subst (λ (xs : List Asked). AreBuilt bound xs told qs) e (subst (λ (xs : List Bool). AreBuilt bound asked xs qs) f (subst (λ (xs : List (Problem × Bool)). AreBuilt bound asked said xs) g h))

module _ (bound : Option ℕ) (steps left : List Step) (old : Force) (checks : List Checked) (st : Step) (at : Place) (is : check_place st ≡ Some (place_of at))
    (h : GoesWithRoots bound steps old checks (st ∷ left)) where
  here : GoesWithRoots bound steps old checks (command (check (place_of at)) ∷ left)
  here = subst (λ (x : Step). GoesWithRoots bound steps old checks (x ∷ left)) (check_is st (place_of at) is) h

  script-is : script_at old at ≡ here.open_levels.inner ++ check (place_of at) ∷ []
  script-is = ap (λ xs. xs ++ check (place_of at) ∷ []) here.stacks.inner

  pub rooted_refused : (e : ReadError) → IsFaultOrMemory e (in_rewriting bound (script_at old at)) → IsFaultOrMemory e (in_each_rewritten bound (checks_of steps))
  rooted_refused e bad = lifted e (in_rewriting bound (script_at old at)) (in_each_rewritten bound (checks_of steps))
      (λ x t. here.clean ∙ ap (λ o. first_of o (in_each_rewritten bound (asked_from here.open_levels left))) (ap (in_rewriting bound) (sym script-is) ∙ t)) bad

  pub rooted_check : (new : Force) (c : Checked) (more : List Checked) → c.extends ≡ false → in_rewriting bound (script_at old at) ≡ None → Makes bound (rewritten bound (script_at old at)) c.change →
      Stays old new → more ≡ checks ++ c ∷ [] → GoesWithRoots bound steps new more left
  rooted_check new c more apart clean makes stays is-more =
      let l = here.open_levels in
      let a : Asked = record { at = place_of at; script = l.inner ++ check (place_of at) ∷ [] } in
      let p = changed (last_parts no_parts checks) c.change in
      let made = makes (last_parts no_parts checks) in
      let inner : map (command_of new.script.sexps.now) new.script.commands.items ≡ l.inner =
      ap (λ xs. map (command_of new.script.sexps.now) xs) stays.commands ∙ ap (λ s. map (command_of s) old.script.commands.items) stays.sexps ∙ here.stacks.inner in
      record {
        open_levels = l;
        stacks = record { inner = inner; outer = subst (λ (ms : List ℕ). AreLengths (reverse ms) l.inner l.outer) (sym stays.marks) here.stacks.outer };
        done = here.done ++ a ∷ [];
        asked = here.asked ∙ sym (append_assoc here.done (a ∷ []) (asked_from l left));
        built = built-same bound (rewritten_checks bound here.done ++ rewritten_at bound a ∷ []) (rewritten_checks bound (here.done ++ a ∷ [])) (map not_carried here.done ++ false ∷ []) (map not_carried (here.done ++ a ∷ []))
            (problems_of (problems_from no_parts checks) ++ (problem_of p, c.extends) ∷ []) (problems_of (problems_from no_parts more))
            (sym (map-append (rewritten_at bound) here.done (a ∷ []))) (sym (map-append not_carried here.done (a ∷ [])))
            (sym (ap (λ cs. problems_of (problems_from no_parts cs)) is-more ∙ ap problems_of (problems_more no_parts checks c) ∙ map-append checked_of (problems_from no_parts checks) ((p, c.extends) ∷ [])))
            (one_more bound (rewritten_checks bound here.done) (map not_carried here.done) (problems_of (problems_from no_parts checks)) (rewritten_at bound a) false (problem_of p, c.extends) here.built
            (subst (λ (cs : List Command). IsBuiltOf bound (rewritten bound cs) (problem_of p)) script-is made.1) apart);
        clean = here.clean ∙ ap (λ o. first_of o (in_each_rewritten bound (asked_from l left))) (ap (in_rewriting bound) (sym script-is) ∙ clean);
        changes = subst (λ (cs : List Checked). AreChanges no_parts cs) (sym is-more) (changes_more no_parts checks c here.changes made.0);
      }

-- ---- the first step and the last

pub rooted_begun : (bound : Option ℕ) (steps : List Step) (f : Force) (checks : List Checked) → IsNothing f → checks ≡ [] → GoesWithRoots bound steps f checks steps
rooted_begun bound steps f checks b none = record {
  open_levels = no_levels;
  stacks = nothing_held f.script.sexps.now f.script.commands.items f.marks.items b.commands b.marks;
  done = [];
  asked = refl;
  built = subst (λ (cs : List Checked). AreBuilt bound [] [] (problems_of (problems_from no_parts cs))) (sym none) tt;
  clean = refl;
  changes = subst (λ (cs : List Checked). AreChanges no_parts cs) (sym none) tt;
}

pub rooted_finished : (bound : Option ℕ) (steps : List Step) (f : Force) (checks : List Checked) → GoesWithRoots bound steps f checks [] →
    (in_each_rewritten bound (checks_of steps) ≡ None) × AreBuilt bound (rewritten_checks bound (checks_of steps)) (map not_carried (checks_of steps)) (problems_of (problems_from no_parts checks))
rooted_finished bound steps f checks h = (
  h.clean,
  subst (λ (asked : List Asked). AreBuilt bound (rewritten_checks bound asked) (map not_carried asked) (problems_of (problems_from no_parts checks))) (sym (h.asked ∙ append-nil h.done)) h.built,
)

pub rooted_taken : (bound : Option ℕ) (steps : List Step) (f : Force) (checks : List Checked) (s : Sexps) (old new : List code_step.Step) (x : code_step.Step) → f.script.sexps.now ≡ s → old ≡ new ++ x ∷ [] →
    GoesWithRoots bound steps f checks (map (step_of s) (reverse old)) → GoesWithRoots bound steps f checks (step_of f.script.sexps.now x ∷ map (step_of s) (reverse new))
rooted_taken bound steps f checks s old new x same is h = subst (λ (k : Sexps). GoesWithRoots bound steps f checks (step_of k x ∷ map (step_of s) (reverse new))) (sym same)
    (subst (λ (xs : List Step). GoesWithRoots bound steps f checks xs) (next_left s old new x is) h)
