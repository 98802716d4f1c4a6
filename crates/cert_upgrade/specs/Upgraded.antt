-- A certificate in the newest version of its format, and that it is accepted where the certificate is.
use Rattle.std.specs.Prelude.{◌≤◌, ℕ, List, [], ◌∷◌, Bool, Option, codes, length}
use Rattle.poly_graph.specs.Problem.{Problem}
use Rattle.cover_model.specs.State.{Loosenings, in_version}
use Rattle.cert_read.specs.Lines.{lines_of}
use Rattle.cert_read.specs.LineText.{text_of_lines}
use Rattle.cert_model.specs.Due.{Value}
use Rattle.cert_model.specs.Accepted.{most_bytes}
use Rattle.cert_model.specs.Session.{AreAccepted}
use Rattle.cert_model.specs.Least.{GoalValue, IsGoalAccepted}

-- the first line of a certificate in the newest version
abbrev pub newest_line : List ℕ
newest_line = codes "dpoly 5"

abbrev pub behind_first : List (List ℕ) → List (List ℕ)
behind_first [] = []
behind_first (l ∷ ls) = ls

-- the same lines behind the first line of the newest version, each ended by LF
abbrev pub upgraded : List ℕ → List ℕ
upgraded bytes = text_of_lines (newest_line ∷ behind_first (lines_of bytes))

-- What is accepted of any number of checks, under any version, is accepted in the newest one, with the same values.
abbrev pub UpgradedIsAccepted : Type 0
UpgradedIsAccepted = (ps : List (Problem × Bool)) (bound : Option ℕ) (bytes : List ℕ) (s : Loosenings) (values : List Value) → AreAccepted ps bound bytes s values →
    length (upgraded bytes) ≤ most_bytes → AreAccepted ps bound (upgraded bytes) (in_version 5 s) values

-- The same of the only check of a script with a goal: what is accepted of its check stays so, and what is accepted of its least value.
abbrev pub UpgradedIsAcceptedOfGoal : Type 0
UpgradedIsAcceptedOfGoal = (p : Problem) (g : ℕ) (room : Bool) (bound : Option ℕ) (bytes : List ℕ) (s : Loosenings) (v : GoalValue) → IsGoalAccepted p g room bound bytes s v →
    length (upgraded bytes) ≤ most_bytes → IsGoalAccepted p g room bound (upgraded bytes) (in_version 5 s) v
