-- What well-sorted scripts unfold to.
use Rattle.std.specs.Prelude.{◌≡◌, List, Option, Some, None}
use Rattle.std.specs.List.{AllByRecursion}
use Rattle.script_model.specs.Script.{Command}
use Rattle.script_forms.specs.Terms.{Fault, ill_formed, Unfolded, term, formula, refused, either}
use Rattle.script_forms.specs.Atoms.{trees, unfolding_fault}
use Rattle.sort_check.specs.Sorts.{sort_fault}

-- a fault that well-sorted scripts may meet
abbrev pub IsSound : Fault → Type 0
IsSound (ill_formed at) = ⊥
IsSound x = Unit {0}

abbrev pub IfSound : Option Fault → Type 0
IfSound None = Unit {0}
IfSound (Some x) = IsSound x

-- an assertion's tree: a formula, or such a fault
abbrev pub IsClaim : Unfolded → Type 0
IsClaim (formula p n) = Unit {0}
IsClaim (refused x) = IsSound x
IsClaim (term t) = ⊥
IsClaim (either c d a b) = ⊥

-- Each assertion of a well-sorted script, goals among them, unfolds to a formula or to a fault of a constant step or a division,
-- and so does the whole script.
abbrev pub SortedUnfolds : Type 0
SortedUnfolds = (script : List Command) → sort_fault script ≡ None → AllByRecursion IsClaim (trees script) × IfSound (unfolding_fault script)
