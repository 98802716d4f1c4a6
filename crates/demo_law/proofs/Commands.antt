-- The demo's commands, their sorts, and what is in force at their check.
use Rattle.std.proofs.Common.{◌≡◌, ℕ, zero, suc, List, [], ◌∷◌, ◌++◌, map, true, false, None, refl, ap, ◌∙◌, append_assoc, codes}
use Rattle.std.specs.Prelude.{decimal}
use Rattle.dyadic.specs.Point.{real_sort}
use Rattle.script_model.specs.Sexp.{Place}
use Rattle.script_model.specs.Script.{Command}
use Rattle.script_model.specs.Reading.{Names, value}
use Rattle.smt_script.specs.Levels.{Asked, command, asked_from}
use Rattle.smt_script.specs.Commands.{Before, steps, steps_from, joined, says, one_step}
use Rattle.sort_check.specs.Sorts.{Sorted, of_sort, sort_fault_from}
use Rattle.gen_script.specs.Demo.{next_number, coefficient}
use Rattle.demo_law.proofs.Shape.{atom_claims, atom_claimed, atom_commands, atom_written, check_place, behind_line}

abbrev pub open_script : Before
open_script = record { logic = true; goal = false; checks = 0; levels = 0; ended = false }

pub commands_are : (number left : ℕ) (p : Place) → steps_from open_script (atom_claims p number left) ≡ steps (map command (atom_written p number left))
unfolding atom_claims atom_written
commands_are number zero p = refl
commands_are number (suc left) p = ap (joined p (says open_script (one_step (command (atom_claimed p number)))))
    (commands_are (next_number number) left (behind_line p (decimal (coefficient (next_number number)))))

abbrev axes : Names Sorted
axes = (codes "y", value (of_sort real_sort)) ∷ (codes "x", value (of_sort real_sort)) ∷ []

pub sorts_fit : (number left : ℕ) (p : Place) → sort_fault_from 2 axes (atom_written p number left) ≡ None
unfolding atom_written
sorts_fit number zero p = refl
sorts_fit number (suc left) p = sorts_fit (next_number number) left (behind_line p (decimal (coefficient (next_number number))))

abbrev with_script : Place → List Command → List Asked
with_script at cs = record { at = at; script = cs } ∷ []

pub asked_are : (number left : ℕ) (p : Place) (cs : List Command) →
    asked_from (record { inner = cs; outer = [] }) (map command (atom_written p number left)) ≡ record { at = check_place p number left; script = cs ++ atom_commands p number left } ∷ []
unfolding atom_written atom_commands check_place
asked_are number zero p cs = refl
asked_are number (suc left) p cs =
    let p' = behind_line p (decimal (coefficient (next_number number))) in
    asked_are (next_number number) left p' (cs ++ (atom_claimed p number ∷ [])) ∙
    ap (with_script (check_place p' (next_number number) left)) (append_assoc cs (atom_claimed p number ∷ []) (atom_commands p' (next_number number) left))
