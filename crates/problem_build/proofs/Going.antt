-- The steps of a script with any number of checks, one after the other.
use Rattle.std.proofs.Common.{◌≡◌, ℕ, List, [], ◌∷◌, ◌++◌, Bool, true, false, ◌&&◌, cond, nat_le, is_some, Option, Some, None, map, length, refl, ap, sym, ◌∙◌, ◌≤◌, take, take-take, arith, subst, append_assoc, append-nil, length-append}
use Rattle.std.specs.Prelude.{reverse}
use Rattle.std.specs.List.{AllByRecursion}
use Rattle.std.proofs.lemmas.List.{map-append, length-map, reverse-append, take-append-le}
use Rattle.std.specs.Prelude.{min}
use Rattle.poly_graph.specs.Problem.{Problem}
use Rattle.poly_graph.specs.ProblemViews.{Parts, problem_of}
use Rattle.script_model.specs.Script.{Command, check}
use Rattle.script_fault.specs.Answers.{IsFaultOrMemory}
use Rattle.script_fault.specs.declared.fault.ReadError.{ReadError}
use Rattle.script_fault.specs.declared.place.Place.{Place}
use Rattle.script_forms.specs.Walk.{building_fault}
use Rattle.script_reading.specs.Faults.{first_of, in_building, in_each_check}
use Rattle.script_reading.specs.Built.{IsBuiltOf}
use Rattle.script_reading.specs.Session.{AreBuilt, carried_from, carried_of, stay_in_force}
use Rattle.smt_sexp.specs.Views.{place_of}
use Rattle.smt_sexp.specs.declared.sexps.Sexps.{Sexps}
use Rattle.smt_script.specs.Levels.{Asked, Levels, Step, command, after_step, asked_from, checks_of, no_levels}
use Rattle.smt_script.specs.Views.{command_of, commands_in, step_of}
use Rattle.smt_script.specs.declared.command.Command as code
use Rattle.smt_script.specs.declared.command.Command.TheVariants as commands
use Rattle.smt_script.specs.declared.command.Step as code_step
use Rattle.sort_check.specs.Single.{AreLengths, Stacks, check_place}
use Rattle.sort_check.specs.Levels.{course_fault}
use Rattle.sort_check.specs.Sorts.{sort_fault}
use Rattle.sort_check.specs.declared.force.Force.{Force}
use Rattle.sort_check.proofs.Following.{asked_sorted}
use Rattle.sort_check.proofs.Lengths.{asks_nothing, check_is, nothing_held}
use Rattle.problem_build.specs.BuildAnswers.{IsBuildingError}
use Rattle.problem_session.specs.Session.{checked_of, problems_of}
use Rattle.problem_build.specs.Session.{Begins, Goes, Stays, WellSorted, script_at}
use Rattle.problem_session.specs.Changes.{AreChanges, changed, no_parts, problems_from}
use Rattle.problem_build.specs.Changes.{Changes, Starts, last_parts}
use Rattle.problem_build.proofs.Changed.{changes_more, last_more, problems_more}
use Rattle.problem_session.specs.declared.change.Checked.{Checked}
use Rattle.problem_build.specs.declared.session.Going.{Going}
use Rattle.script_reading.proofs.Carried.{Stacked, step_first}
use Rattle.problem_build.specs.Progress.{IsBuiltBy, IsKept}
use Rattle.problem_build.specs.declared.progress.Progress.{Progress}
use Rattle.problem_build.proofs.Reading.{lifted}

-- ---- one problem more

pub one_more : (bound : Option ℕ) (asked : List Asked) (said : List Bool) (ps : List (Problem × Bool)) (a : Asked) (b : Bool) (p : Problem × Bool) →
    AreBuilt bound asked said ps → IsBuiltOf bound a.script p.0 → p.1 ≡ b → AreBuilt bound (asked ++ a ∷ []) (said ++ b ∷ []) (ps ++ p ∷ [])
one_more bound [] [] [] a b p h built same = (built, same, tt)
one_more bound (x ∷ asked) (y ∷ said) (q ∷ ps) a b p h built same = (h.0, h.1, one_more bound asked said ps a b p h.2 built same)
one_more bound [] [] (q ∷ ps) a b p h built same = absurd h
one_more bound [] (y ∷ said) [] a b p h built same = absurd h
one_more bound [] (y ∷ said) (q ∷ ps) a b p h built same = absurd h
one_more bound (x ∷ asked) [] [] a b p h built same = absurd h
one_more bound (x ∷ asked) [] (q ∷ ps) a b p h built same = absurd h
one_more bound (x ∷ asked) (y ∷ said) [] a b p h built same = absurd h

and_true : (a : Bool) → a ≡ (a && true)
and_true true = refl
and_true false = refl

and_also : (a b c : Bool) → (a && (b && c)) ≡ ((a && b) && c)
and_also true b c = refl
and_also false b c = refl

-- ---- a step that is no check

module _ (l : Levels) (st : Step) (left : List Step) (none : check_place st ≡ None) where
  pub asked_behind : asked_from l (st ∷ left) ≡ asked_from (after_step l st) left
  asked_behind = ap (λ xs. xs ++ asked_from (after_step l st) left) (asks_nothing l st none)

  carried_behind : (b : Bool) → carried_from b l (st ∷ left) ≡ carried_from b (after_step l st) left
  carried_behind b = ap (λ o. cond (is_some o) (b ∷ carried_from (stay_in_force (length l.inner) l left) l left) (carried_from b (after_step l st) left)) none

  stay_behind : (n : ℕ) → stay_in_force n l (st ∷ left) ≡ (nat_le n (length (after_step l st).inner) && stay_in_force n (after_step l st) left)
  stay_behind n = ap (λ o. cond (is_some o) true (nat_le n (length (after_step l st).inner) && stay_in_force n (after_step l st) left)) none

-- ---- what stays of what is built

kept-less : (k n : ℕ) (commands : List Command) (p : Progress) → n ≤ k → IsKept k commands p → IsKept n commands p
kept-less k n commands p less h = record {
  script = h.script;
  built = h.built;
  few = omega (arith, less, h.few);
  within = omega (arith, less, h.within);
  same = sym (take-take n k h.script less) ∙ ap (take n) h.same ∙ take-take n k commands less;
}

kept-step : (n : ℕ) (l : Levels) (st : Step) (p : Progress) → Stacked l → n ≤ length (after_step l st).inner → IsKept n l.inner p → IsKept n (after_step l st).inner p
kept-step n l st p stacked few h = record {
  script = h.script;
  built = h.built;
  few = h.few;
  within = few;
  same = h.same ∙ sym (step_first n l st stacked h.within few);
}

kept-check : (commands : List Command) (at : Command) (p : Progress) → IsBuiltBy (commands ++ at ∷ []) p → IsKept (length commands) commands p
kept-check commands at p h = record {
  script = commands ++ at ∷ [];
  built = h;
  few = omega (arith, length-append commands (at ∷ []));
  within = omega arith;
  same = take-append-le (length commands) commands (at ∷ []) (omega arith);
}

pub step_behind : (bound : Option ℕ) (steps left : List Step) (old new : Going) (st : Step) → check_place st ≡ None → (h : Goes bound steps old (st ∷ left)) →
    Stacks new.force.script.sexps.now new.force.script.commands.items new.force.marks.items (after_step h.open_levels st) → new.checks.items ≡ old.checks.items → new.before ≡ old.before →
    new.extends ≡ (old.extends && nat_le old.before (length new.force.script.commands.items)) →
    new.progress ≡ old.progress → new.kept ≡ min old.kept (length new.force.script.commands.items) → Goes bound steps new left
step_behind bound steps left old new st none h stacks problems before extends progress kept =
    let l = h.open_levels in
    let next = after_step l st in
    let many : length new.force.script.commands.items ≡ length next.inner = sym (length-map new.force.script.commands.items (command_of new.force.script.sexps.now)) ∙ ap length stacks.inner in
    let still : (old.extends && stay_in_force old.before l (st ∷ left)) ≡ (new.extends && stay_in_force new.before next left) =
    ap (λ b. old.extends && b) (stay_behind l st left none old.before) ∙
    and_also old.extends (nat_le old.before (length next.inner)) (stay_in_force old.before next left) ∙
    ap (λ n. (old.extends && nat_le old.before n) && stay_in_force old.before next left) (sym many) ∙
    ap (λ b. b && stay_in_force old.before next left) (sym extends) ∙
    ap (λ n. new.extends && stay_in_force n next left) (sym before) in
    record {
      open_levels = next;
      stacks = stacks;
      done = h.done;
      said = h.said;
      built = subst (λ (cs : List Checked). AreBuilt bound h.done h.said (problems_of (problems_from no_parts cs))) (sym problems) h.built;
      changes = subst (λ (cs : List Checked). AreChanges no_parts cs) (sym problems) h.changes;
      last = subst (λ (p : Progress). Starts (last_parts no_parts new.checks.items) p.maker.made) (sym progress) (subst (λ (cs : List Checked). Starts (last_parts no_parts cs) old.progress.maker.made) (sym problems) h.last);
      asked = h.asked ∙ ap (λ xs. h.done ++ xs) (asked_behind l st left none);
      carried = h.carried ∙ ap (λ xs. h.said ++ xs) (carried_behind l st left none (old.extends && stay_in_force old.before l (st ∷ left)) ∙ ap (λ b. carried_from b next left) still);
      clean = h.clean ∙ ap (in_each_check bound) (asked_behind l st left none);
      sorted = subst (AllByRecursion WellSorted) (asked_behind l st left none) h.sorted;
      kept = subst (λ (p : Progress). IsKept new.kept next.inner p) (sym progress)
          (kept-step new.kept l st old.progress (reverse old.force.marks.items, h.stacks.outer) (omega (arith, kept, many)) (kept-less old.kept new.kept l.inner old.progress (omega (arith, kept)) h.kept));
    }

-- ---- a check

module _ (bound : Option ℕ) (steps left : List Step) (old : Going) (st : Step) (at : Place) (is : check_place st ≡ Some (place_of at)) (h : Goes bound steps old (st ∷ left)) where
  here : Goes bound steps old (command (check (place_of at)) ∷ left)
  here = subst (λ (x : Step). Goes bound steps old (x ∷ left)) (check_is st (place_of at) is) h

  script_is : script_at old.force at ≡ here.open_levels.inner ++ check (place_of at) ∷ []
  script_is = ap (λ xs. xs ++ check (place_of at) ∷ []) here.stacks.inner

  pub sorted_here : sort_fault (script_at old.force at) ≡ None
  sorted_here = ap sort_fault script_is ∙ here.sorted.0

  pub refused_here : (e : ReadError) → IsBuildingError e (building_fault bound (script_at old.force at)) → IsFaultOrMemory e (in_each_check bound (checks_of steps))
  refused_here e bad = lifted e (in_building (building_fault bound (script_at old.force at))) (in_each_check bound (checks_of steps))
      (λ x t. here.clean ∙ ap (λ o. first_of o (in_each_check bound (asked_from here.open_levels left))) (ap (λ cs. in_building (building_fault bound cs)) (sym script_is) ∙ t)) bad

  pub check_behind : (new : Going) (c : Checked) → Changes bound (script_at old.force at) (last_parts no_parts old.checks.items) new.progress.maker.made c.change → c.extends ≡ old.extends →
      Stays old.force new.force → new.checks.items ≡ old.checks.items ++ c ∷ [] → new.before ≡ length new.force.script.commands.items → new.extends ≡ true →
      IsBuiltBy (script_at old.force at) new.progress → new.kept ≡ new.before → Goes bound steps new left
  check_behind new c made same stays problems before extends progress kept =
      let l = here.open_levels in
      let a : Asked = record { at = place_of at; script = l.inner ++ check (place_of at) ∷ [] } in
      let b : Bool = old.extends && true in
      let inner : map (command_of new.force.script.sexps.now) new.force.script.commands.items ≡ l.inner =
      ap (λ xs. map (command_of new.force.script.sexps.now) xs) stays.commands ∙ ap (λ s. map (command_of s) old.force.script.commands.items) stays.sexps ∙ here.stacks.inner in
      let many : new.before ≡ length l.inner = before ∙ sym (length-map new.force.script.commands.items (command_of new.force.script.sexps.now)) ∙ ap length inner in
      let still : stay_in_force (length l.inner) l left ≡ (new.extends && stay_in_force new.before l left) =
      ap (λ x. x && stay_in_force (length l.inner) l left) (sym extends) ∙ ap (λ n. new.extends && stay_in_force n l left) (sym many) in
      record {
        open_levels = l;
        stacks = record { inner = inner; outer = subst (λ (ms : List ℕ). AreLengths (reverse ms) l.inner l.outer) (sym stays.marks) here.stacks.outer };
        done = here.done ++ a ∷ [];
        said = here.said ++ b ∷ [];
        built = subst (λ (ps : List (Problem × Bool)). AreBuilt bound (here.done ++ a ∷ []) (here.said ++ b ∷ []) ps)
            (sym (ap (λ cs. problems_of (problems_from no_parts cs)) problems ∙ ap problems_of (problems_more no_parts old.checks.items c) ∙
            map-append checked_of (problems_from no_parts old.checks.items) ((changed (last_parts no_parts old.checks.items) c.change, c.extends) ∷ [])))
            (one_more bound here.done here.said (problems_of (problems_from no_parts old.checks.items)) a b (problem_of (changed (last_parts no_parts old.checks.items) c.change), c.extends) here.built
            (subst (λ cs. IsBuiltOf bound cs (problem_of (changed (last_parts no_parts old.checks.items) c.change))) script_is made.built) (same ∙ and_true old.extends));
        changes = subst (λ (cs : List Checked). AreChanges no_parts cs) (sym problems) (changes_more no_parts old.checks.items c here.changes made.change);
        last = subst (λ (p : Parts). Starts p new.progress.maker.made) (sym (ap (last_parts no_parts) problems ∙ last_more no_parts old.checks.items c)) made.starts;
        asked = here.asked ∙ sym (append_assoc here.done (a ∷ []) (asked_from l left));
        carried = here.carried ∙ sym (append_assoc here.said (b ∷ []) (carried_from (stay_in_force (length l.inner) l left) l left)) ∙ ap (λ x. (here.said ++ b ∷ []) ++ carried_from x l left) still;
        clean = here.clean ∙ ap (λ cs. first_of (in_building (building_fault bound cs)) (in_each_check bound (asked_from l left))) (sym script_is) ∙
            ap (λ o. first_of (in_building o) (in_each_check bound (asked_from l left))) made.clean;
        sorted = here.sorted.1;
        kept = subst (λ (n : ℕ). IsKept n l.inner new.progress) (sym (kept ∙ many)) (kept-check l.inner (check (place_of at)) new.progress (subst (λ (cs : List Command). IsBuiltBy cs new.progress) script_is progress));
      }

  pub kept_here : IsKept old.kept (commands_in old.force.script) old.progress
  kept_here = subst (λ (cs : List Command). IsKept old.kept cs old.progress) (sym here.stacks.inner) here.kept

-- ---- the first step and the last

pub begun : (bound : Option ℕ) (steps : List Step) (g : Going) → Begins g → course_fault steps ≡ None → Goes bound steps g steps
begun bound steps g b sorted = record {
  open_levels = no_levels;
  stacks = nothing_held g.force.script.sexps.now g.force.script.commands.items g.force.marks.items b.nothing.commands b.nothing.marks;
  done = [];
  said = [];
  built = subst (λ (cs : List Checked). AreBuilt bound [] [] (problems_of (problems_from no_parts cs))) (sym b.checks) tt;
  changes = subst (λ (cs : List Checked). AreChanges no_parts cs) (sym b.checks) tt;
  last = subst (λ (cs : List Checked). Starts (last_parts no_parts cs) g.progress.maker.made) (sym b.checks) b.starts;
  asked = refl;
  carried = ap (λ x. carried_from (x && stay_in_force g.before no_levels steps) no_levels steps) (sym b.extends);
  clean = refl;
  sorted = asked_sorted no_levels steps sorted;
  kept = subst (λ (n : ℕ). IsKept n [] g.progress) (sym b.kept) (record { script = []; built = b.progress; few = omega arith; within = omega arith; same = refl });
}

pub finished : (bound : Option ℕ) (steps : List Step) (g : Going) → Goes bound steps g [] →
    (in_each_check bound (checks_of steps) ≡ None) × AreBuilt bound (checks_of steps) (carried_of steps) (problems_of (problems_from no_parts g.checks.items))
finished bound steps g h = (
  h.clean,
  subst (λ (asked : List Asked). AreBuilt bound asked (carried_of steps) (problems_of (problems_from no_parts g.checks.items))) (sym (h.asked ∙ append-nil h.done))
      (subst (λ (said : List Bool). AreBuilt bound h.done said (problems_of (problems_from no_parts g.checks.items))) (sym (h.carried ∙ append-nil h.said)) h.built),
)

pub next_left : (s : Sexps) (old new : List code_step.Step) (x : code_step.Step) → old ≡ new ++ x ∷ [] → map (step_of s) (reverse old) ≡ step_of s x ∷ map (step_of s) (reverse new)
next_left s old new x is = ap (λ xs. map (step_of s) (reverse xs)) is ∙ ap (map (step_of s)) (reverse-append new (x ∷ []))

pub taken : (bound : Option ℕ) (steps : List Step) (g : Going) (s : Sexps) (old new : List code_step.Step) (x : code_step.Step) → g.force.script.sexps.now ≡ s → old ≡ new ++ x ∷ [] →
    Goes bound steps g (map (step_of s) (reverse old)) → Goes bound steps g (step_of g.force.script.sexps.now x ∷ map (step_of s) (reverse new))
taken bound steps g s old new x same is h = subst (λ (k : Sexps). Goes bound steps g (step_of k x ∷ map (step_of s) (reverse new))) (sym same)
    (subst (λ (xs : List Step). Goes bound steps g xs) (next_left s old new x is) h)

-- what is asked, as the code has it
pub pushed_is : (force : Force) (items : List code.Command) (at : Place) → items ≡ force.script.commands.items ++ commands.Check at ∷ [] →
    map (command_of force.script.sexps.now) items ≡ script_at force at
pushed_is force items at is = ap (map (command_of force.script.sexps.now)) is ∙ map-append (command_of force.script.sexps.now) force.script.commands.items (commands.Check at ∷ [])
