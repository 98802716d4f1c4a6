-- Commands, one after the other.
use Rattle.std.specs.Prelude.{◌≡◌, ℕ, suc, ◌≤◌, List, ◌∷◌, Some, None, Result, Ok, Err}
use Rattle.std.specs.Borrow.{Bor}
use Rattle.std.specs.HashMap.{HashMap}
use Rattle.script_model.specs.Reading.{Names, value}
use Rattle.script_model.specs.Script.{Command, declare, define}
use Rattle.smt_sexp.specs.Views.{place_of}
use Rattle.sort_check.specs.Sorts.{Sorted, of_sort, signature, Finding, sort_fault_from}
use Rattle.sort_check.specs.Views.{fault_of, Knows}
use Rattle.sort_check.specs.declared.names.Known.{Known}
use Rattle.sort_check.specs.declared.stop.Stop.{Stop}
use Rattle.sort_check.specs.declared.stop.Stop.TheVariants as stops

-- no fault, or this one, or memory
abbrev pub FindsFault : Result (Unit {0}) Stop → Finding → Type 0
FindsFault (Ok u) found = found ≡ None
FindsFault (Err (stops.Fault at f)) found = found ≡ Some (place_of at, fault_of f)
FindsFault (Err stops.Memory) found = Unit {0}

-- the names that are known behind a command
abbrev pub named_after : Command → Names Sorted → Names Sorted
named_after (declare at x s) names = (x, value (of_sort s)) ∷ names
named_after (define at f params s body) names = (f, signature params s) ∷ names
named_after _ names = names

-- how many constants are declared behind a command
abbrev pub count_after : Command → ℕ → ℕ
count_after (declare at x s) n = suc n
count_after _ n = n

-- the commands behind one go on with its names and the constants so far, or the first fault is its own
abbrev pub Steps : {S : Type 0} → HashMap (Bor (List ℕ)) Known S → ℕ → Names Sorted → Command → Result ℕ Stop → Type 0
Steps top n names c (Ok m) =
    Knows top (named_after c names) × (m ≡ count_after c n) × ((rest : List Command) → sort_fault_from n names (c ∷ rest) ≡ sort_fault_from (count_after c n) (named_after c names) rest) × (m ≤ 1024)
Steps top n names c (Err (stops.Fault at f)) = (rest : List Command) → sort_fault_from n names (c ∷ rest) ≡ Some (place_of at, fault_of f)
Steps top n names c (Err stops.Memory) = Unit {0}
