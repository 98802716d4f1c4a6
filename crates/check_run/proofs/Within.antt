-- The problems of a script's checks are within the limits of a search.
use Rattle.std.proofs.Common.{ℕ, List, [], ◌∷◌, Bool, Option}
use Rattle.poly_graph.specs.ProblemViews.{Parts, problem_of}
use Rattle.problem_session.specs.Session.{problems_of}
use Rattle.smt_script.specs.Levels.{Asked, checks_of}
use Rattle.script_reading.specs.Reader.{HasProblem}
use Rattle.script_reading.specs.Session.{AreBuilt, HasSession, asked_in, carried_in}
use Rattle.check_run.specs.Script.{AreWithin, IsWithin}

all-within : (bound : Option ℕ) (asked : List Asked) (said : List Bool) (session : List (Parts × Bool)) → AreBuilt bound asked said (problems_of session) → AreWithin session
all-within bound asked said [] h = tt
all-within bound (a ∷ asked) (x ∷ said) (p ∷ session) h = (record { axes = h.0.axes; atoms = h.0.atoms }, all-within bound asked said session h.2)
all-within bound [] [] (p ∷ session) h = absurd h
all-within bound [] (x ∷ said) (p ∷ session) h = absurd h
all-within bound (a ∷ asked) [] (p ∷ session) h = absurd h

pub session_within : (bound : Option ℕ) (text : List ℕ) (session : List (Parts × Bool)) → HasSession bound (problems_of session) text → AreWithin session
session_within bound text session h = all-within bound (asked_in bound text) (carried_in bound text) session h.built

-- so is that of a script that may have one
pub problem_within : (bound : Option ℕ) (text : List ℕ) (p : Parts) → HasProblem bound (problem_of p) text → IsWithin p
problem_within bound text p h = record { axes = h.built.axes; atoms = h.built.atoms }
