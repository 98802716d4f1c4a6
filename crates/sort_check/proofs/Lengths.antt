-- Levels that are opened and closed by lengths, and the steps up to the first check.
use Rattle.std.proofs.Common.{◌≡◌, ℕ, List, [], ◌∷◌, ◌++◌, true, false, Option, Some, None, map, take, length, refl, ap, sym, ◌∙◌, subst, arith}
use Rattle.std.specs.Prelude.{reverse}
use Rattle.std.proofs.Math.Seq.{take-length}
use Rattle.std.proofs.lemmas.List.{map-append, reverse-append, take-map, length-map, length-append, take-append-le}
use Rattle.script_model.specs.Sexp as sexp
use Rattle.script_model.specs.Script as script
use Rattle.script_model.specs.Script.{check}
use Rattle.smt_sexp.specs.Views.{place_of}
use Rattle.smt_sexp.specs.declared.sexps.Sexps.{Sexps}
use Rattle.script_fault.specs.declared.place.Place.{Place}
use Rattle.smt_script.specs.Levels as levels
use Rattle.smt_script.specs.Levels.{Asked, Levels, after_step, asked_from, asked_here, checks_of, closed, command, no_levels, opened, with_command}
use Rattle.sort_check.specs.Scopes.{stays}
use Rattle.sort_check.proofs.Marks.{with_stays, without_stays}
use Rattle.smt_script.specs.Views.{command_of, step_of}
use Rattle.smt_script.specs.declared.command.Command.{Command}
use Rattle.smt_script.specs.declared.command.Command.TheVariants as commands
use Rattle.smt_script.specs.declared.command.Step.{Step}
use Rattle.sort_check.specs.Single.{AreLengths, Stacks, check_place, first_script}

pub lengthened : (s : Sexps) (force : List Command) (ns : List ℕ) (n : ℕ) (l : Levels) → n ≡ length force → Stacks s force ns l → Stacks s force (ns ++ n ∷ []) (opened 1 l)
lengthened s force ns n l is h =
    let whole : take n l.inner ≡ l.inner =
    ap (λ k. take k l.inner) (is ∙ sym (length-map force (command_of s)) ∙ ap length h.inner) ∙ take-length l.inner in
    record {
      inner = h.inner;
      outer = subst (λ xs. AreLengths xs l.inner (l.inner ∷ l.outer)) (sym (reverse-append ns (n ∷ []))) (omega (arith, length-map force (command_of s), ap length h.inner, is), sym whole, h.outer);
    }

pub lengthened_by : (s : Sexps) (force : List Command) (ns ns' : List ℕ) (n : ℕ) (l : Levels) → n ≡ length force → ns' ≡ ns ++ n ∷ [] → Stacks s force ns l → Stacks s force ns' (opened 1 l)
lengthened_by s force ns ns' n l is more h = subst (λ (xs : List ℕ). Stacks s force xs (opened 1 l)) (sym more) (lengthened s force ns n l is h)

shortened_here : (n : ℕ) (ns : List ℕ) (inner : List script.Command) (outer : List (List script.Command)) → AreLengths (n ∷ ns) inner outer →
    (left : List (List script.Command)) × (closed 1 (record { inner = inner; outer = outer }) ≡ record { inner = take n inner; outer = left }) × AreLengths ns (take n inner) left
shortened_here n ns inner [] h = absurd h
shortened_here n ns inner (cs ∷ outer) h =
    (outer, ap (λ (xs : List script.Command). let l : Levels = record { inner = xs; outer = outer } in l) h.1, subst (λ xs. AreLengths ns xs outer) h.1 h.2)

pub shortened : (s : Sexps) (force force' : List Command) (old new : List ℕ) (n : ℕ) (l : Levels) → old ≡ new ++ n ∷ [] → force' ≡ take n force → Stacks s force old l → Stacks s force' new (closed 1 l)
shortened s force force' old new n l is cut h =
    let x = shortened_here n (reverse new) l.inner l.outer (subst (λ xs. AreLengths xs l.inner l.outer) (ap reverse is ∙ reverse-append new (n ∷ [])) h.outer) in
    subst (λ (k : Levels). Stacks s force' new k) (sym x.1) (record {
      inner = ap (map (command_of s)) cut ∙ sym (take-map (command_of s) n force) ∙ ap (take n) h.inner;
      outer = x.2;
    })

pub lengths_longer : (ns : List ℕ) (inner : List script.Command) (c : script.Command) (outer : List (List script.Command)) → AreLengths ns inner outer → AreLengths ns (inner ++ c ∷ []) outer
lengths_longer [] inner c [] h = tt
lengths_longer [] inner c (cs ∷ outer) h = absurd h
lengths_longer (n ∷ ns) inner c [] h = absurd h
lengths_longer (n ∷ ns) inner c (cs ∷ outer) h =
    (omega (arith, h.0, length-append inner (c ∷ [])), h.1 ∙ sym (take-append-le n inner (c ∷ []) h.0), h.2)

-- one command more, which holds until its level is closed
pub one_held : (s : Sexps) (force force' : List Command) (ns : List ℕ) (c : Command) (l : Levels) → force' ≡ force ++ c ∷ [] → stays (command_of s c) ≡ true →
    Stacks s force ns l → Stacks s force' ns (with_command l (command_of s c))
one_held s force force' ns c l is kept h =
    subst (λ (k : Levels). Stacks s force' ns k) (sym (with_stays l (command_of s c) kept)) (record {
      inner = ap (map (command_of s)) is ∙ map-append (command_of s) force (c ∷ []) ∙ ap (λ xs. xs ++ command_of s c ∷ []) h.inner;
      outer = lengths_longer (reverse ns) l.inner (command_of s c) l.outer h.outer;
    })

unopened_here : (inner : List script.Command) (outer : List (List script.Command)) → AreLengths [] inner outer → closed 1 (record { inner = inner; outer = outer }) ≡ record { inner = inner; outer = outer }
unopened_here inner [] h = refl
unopened_here inner (cs ∷ outer) h = absurd h

pub unopened : (s : Sexps) (force : List Command) (ns : List ℕ) (l : Levels) → ns ≡ [] → Stacks s force ns l → Stacks s force ns (closed 1 l)
unopened s force ns l is h = subst (λ (k : Levels). Stacks s force ns k) (sym (unopened_here l.inner l.outer (subst (λ xs. AreLengths xs l.inner l.outer) (ap reverse is) h.outer))) h

pub emptied : (s : Sexps) (force : List Command) (ns ns' : List ℕ) (l : Levels) → ns ≡ [] → ns' ≡ [] → Stacks s force ns l → Stacks s force ns' (closed 1 l)
emptied s force ns ns' l none none' h = subst (λ (xs : List ℕ). Stacks s force xs (closed 1 l)) (none ∙ sym none') (unopened s force ns l none h)

pub no_items : {A : Type 0} (n : ℕ) (xs : List A) → n ≡ length xs → n ≡ 0 → xs ≡ []
no_items n [] e z = refl
no_items n (x ∷ xs) e z = absurd (omega (arith, e, z))

-- nothing is in force
pub nothing_held : (s : Sexps) (force : List Command) (ns : List ℕ) → force ≡ [] → ns ≡ [] → Stacks s force ns no_levels
nothing_held s force ns f n = record {
  inner = ap (map (command_of s)) f;
  outer = subst (λ (xs : List ℕ). AreLengths (reverse xs) [] []) (sym n) tt;
}

-- a command that does not hold changes nothing
pub none_held : (s : Sexps) (force : List Command) (ns : List ℕ) (c : Command) (l : Levels) → stays (command_of s c) ≡ false → Stacks s force ns l → Stacks s force ns (with_command l (command_of s c))
none_held s force ns c l kept h = subst (λ (k : Levels). Stacks s force ns k) (sym (without_stays l (command_of s c) kept)) h

-- ---- steps that are done

-- the checks of all steps are those of the steps that are left, where these levels are open
abbrev pub Left : Sexps → List Step → Levels → List Step → Type 0
Left s all l left = checks_of (map (step_of s) all) ≡ asked_from l (map (step_of s) (reverse left))

pub first_left : (s : Sexps) (all old new : List Step) (x : Step) (l : Levels) → old ≡ new ++ x ∷ [] → Left s all l old →
    checks_of (map (step_of s) all) ≡ asked_from l (step_of s x ∷ map (step_of s) (reverse new))
first_left s all old new x l is h = h ∙ ap (λ xs. asked_from l (map (step_of s) (reverse xs))) is ∙ ap (λ xs. asked_from l (map (step_of s) xs)) (reverse-append new (x ∷ []))

pub step_left : (s : Sexps) (all old new : List Step) (x : Step) (l : Levels) → old ≡ new ++ x ∷ [] → asked_here l (step_of s x) ≡ [] → Left s all l old → Left s all (after_step l (step_of s x)) new
step_left s all old new x l is none h =
    first_left s all old new x l is h ∙ ap (λ first. first ++ asked_from (after_step l (step_of s x)) (map (step_of s) (reverse new))) none

abbrev or_place : Option sexp.Place → sexp.Place → sexp.Place
or_place None at = at
or_place (Some p) at = p

-- the place tells the check
pub check_is : (x : levels.Step) (at : sexp.Place) → check_place x ≡ Some at → x ≡ command (check at)
check_is (command (check p)) at e = ap (λ o. command (check (or_place o p))) e
check_is (command (script.declare p f t)) at e = cc
check_is (command (script.define p f params t body)) at e = cc
check_is (command (script.claim p e')) at e = cc
check_is (command (script.minimize p e')) at e = cc
check_is (command (script.ineffective p)) at e = cc
check_is (levels.opens p n) at e = cc
check_is (levels.closes p n) at e = cc
check_is (levels.resets p) at e = cc
check_is (levels.asks_values p es) at e = cc

pub check_left : (s : Sexps) (all old new : List Step) (x : Step) (at : Place) (force force' : List Command) (ns : List ℕ) (l : Levels) → old ≡ new ++ x ∷ [] → check_place (step_of s x) ≡ Some (place_of at) →
    force' ≡ force ++ commands.Check at ∷ [] → Stacks s force ns l → Left s all l old → Some (map (command_of s) force') ≡ first_script (checks_of (map (step_of s) all))
check_left s all old new x at force force' ns l is here more h left =
    ap (λ cs. Some (map (command_of s) cs)) more ∙ ap Some (map-append (command_of s) force (commands.Check at ∷ [])) ∙ ap (λ xs. Some (xs ++ check (place_of at) ∷ [])) h.inner ∙
    sym (ap first_script (first_left s all old new x l is left ∙ ap (λ y. asked_from l (y ∷ map (step_of s) (reverse new))) (check_is (step_of s x) (place_of at) here)))

-- a step that is no check asks nothing
pub asks_nothing : (l : Levels) (x : levels.Step) → check_place x ≡ None → asked_here l x ≡ []
asks_nothing l (command (check p)) e = cc
asks_nothing l (command (script.declare p f t)) e = refl
asks_nothing l (command (script.define p f params t body)) e = refl
asks_nothing l (command (script.claim p e')) e = refl
asks_nothing l (command (script.minimize p e')) e = refl
asks_nothing l (command (script.ineffective p)) e = refl
asks_nothing l (levels.opens p n) e = refl
asks_nothing l (levels.closes p n) e = refl
asks_nothing l (levels.resets p) e = refl
asks_nothing l (levels.asks_values p es) e = refl
