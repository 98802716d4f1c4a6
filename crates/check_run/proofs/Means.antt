-- What the values of a certificate say of a script's checks.
use Rattle.std.proofs.Common.{ℕ, List, [], ◌∷◌, Bool, Option}
use Rattle.dyadic.specs.Rounding.{exact}
use Rattle.script_model.specs.Script.{Command}
use Rattle.poly_graph.specs.Problem.{Problem}
use Rattle.cover_model.specs.State.{Loosenings, delta_of, margin_of}
use Rattle.cert_model.specs.Due.{Value, at_point, left_open, coordinates}
use Rattle.cert_model.specs.Session.{AreAccepted}
use Rattle.cert_model.specs.SessionLaws.{ValueHolds, ValuesHold}
use Rattle.cert_model.proofs.SessionMeans.{session_means}
use Rattle.script_forms.specs.ProblemOf.{IsProblemOf}
use Rattle.script_forms.proofs.Box.{box_declared, problem_means}
use Rattle.headline.proofs.Headline.{near_is}
use Rattle.smt_script.specs.Levels.{Asked}
use Rattle.script_reading.specs.Session.{AreBuilt, HasSession, asked_in, carried_in}
use Rattle.script_reading.proofs.Pairs.{session_goes_on}
use Rattle.check_run.specs.Headline.{AreTrueValues, IsTrueValue}

value-true : (bound : Option ℕ) (script : List Command) (p : Problem) → IsProblemOf bound script p → (s : Loosenings) (v : Value) → ValueHolds s p v → IsTrueValue bound s script v
value-true bound script p t s (left_open []) h = λ point b m.
    let i = (box_declared bound script p t point).0 b in
    elim (h point i.0 i.1 ((problem_means bound script p t (exact (margin_of s)) point i.0).1 m)) [ ]
value-true bound script p t s (left_open (x ∷ left)) h = tt
value-true bound script p t s (at_point space) h = record {
  satisfies = (problem_means bound script p t (exact (delta_of s)) (coordinates space) h.0).0 h.1;
  near = near_is bound script p t (delta_of s) (coordinates space) h.0 h.2;
}

all-true : (bound : Option ℕ) (asked : List Asked) (said : List Bool) (s : Loosenings) (ps : List (Problem × Bool)) (values : List Value) → AreBuilt bound asked said ps → ValuesHold s ps values → AreTrueValues bound s asked values
all-true bound [] [] s [] [] b h = tt
all-true bound (a ∷ asked) (x ∷ said) s ((p, e) ∷ ps) (v ∷ values) b h = (value-true bound a.script p b.0.problem s v h.0, all-true bound asked said s ps values b.2 h.1)
all-true bound [] [] s [] (v ∷ values) b h = absurd h
all-true bound (a ∷ asked) (x ∷ said) s ((p, e) ∷ ps) [] b h = absurd h
all-true bound _ _ s _ values b h = absurd b

-- the values of accepted bytes say what is so
pub values_true : (bound : Option ℕ) (script : List ℕ) (ps : List (Problem × Bool)) → HasSession bound ps script → (bytes : List ℕ) (s : Loosenings) (values : List Value) → AreAccepted ps bound bytes s values →
    AreTrueValues bound s (asked_in bound script) values
values_true bound script ps has bytes s values e =
    all-true bound (asked_in bound script) (carried_in bound script) s ps values has.built
    (session_means ps (session_goes_on bound script ps has) bound bytes s values e)
