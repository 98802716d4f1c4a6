-- What a script's session says of its problems.
use Rattle.std.specs.Prelude.{◌≡◌, ℕ, List, Bool, Option, None}
use Rattle.poly_graph.specs.Problem.{Problem}
use Rattle.cover_model.specs.Carried.{GoesOnFrom}
use Rattle.cert_model.specs.SessionLaws.{IsSession}
use Rattle.smt_script.specs.Levels.{Asked}
use Rattle.script_forms.specs.Walk.{building_fault}
use Rattle.script_reading.specs.Built.{IsBuiltOf}
use Rattle.script_reading.specs.Session.{BeginsNext, HasSession}

-- The problem of a check goes on from that of the check before, where all commands of the one before are in force at it.
abbrev pub BegunGoesOn : Type 0
BegunGoesOn = (bound : Option ℕ) (a next : Asked) (p q : Problem) → BeginsNext a next → building_fault bound next.script ≡ None →
    IsBuiltOf bound a.script p → IsBuiltOf bound next.script q → GoesOnFrom p q

-- There is a check, and each problem goes on from the one before where all commands of that one's check are in force.
abbrev pub SessionGoesOn : Type 0
SessionGoesOn = (bound : Option ℕ) (text : List ℕ) (problems : List (Problem × Bool)) → HasSession bound problems text → IsSession problems
