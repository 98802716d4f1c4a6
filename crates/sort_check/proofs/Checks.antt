-- The places of checks, and the first of them.
use Rattle.std.proofs.Common.{◌≡◌, List, [], ◌∷◌, Bool, true, false, Option, Some, None, refl, ap, ◌∙◌}
use Rattle.script_model.specs.Sexp.{Place}
use Rattle.script_model.specs.Script.{declare, define, claim, minimize, check, ineffective}
use Rattle.smt_script.specs.Levels.{Asked, Levels, Step, command, opens, closes, resets, asks_values, asked_from, checks_of, no_levels}
use Rattle.sort_check.specs.Single.{check_place, second_place}

-- the places of the checks among steps, whatever is in force
abbrev pub with_place : Option Place → List Place → List Place
with_place None ps = ps
with_place (Some at) ps = at ∷ ps

abbrev pub places_in : List Step → List Place
places_in [] = []
places_in (s ∷ rest) = with_place (check_place s) (places_in rest)

abbrev pub asked_places : List Asked → List Place
asked_places [] = []
asked_places (a ∷ rest) = a.at ∷ asked_places rest

places_are : (l : Levels) (steps : List Step) → asked_places (asked_from l steps) ≡ places_in steps
places_are l [] = refl
places_are l (command (check at) ∷ rest) = ap (λ ps. at ∷ ps) (places_are l rest)
places_are l (command (declare at x s) ∷ rest) = places_are _ rest
places_are l (command (define at f params s body) ∷ rest) = places_are _ rest
places_are l (command (claim at e) ∷ rest) = places_are _ rest
places_are l (command (minimize at t) ∷ rest) = places_are _ rest
places_are l (command (ineffective at) ∷ rest) = places_are _ rest
places_are l (opens at n ∷ rest) = places_are _ rest
places_are l (closes at n ∷ rest) = places_are _ rest
places_are l (resets at ∷ rest) = places_are _ rest
places_are l (asks_values at es ∷ rest) = places_are _ rest

abbrev pub first_at : List Place → Option Place
first_at [] = None
first_at (at ∷ rest) = Some at

-- the second place, or the first one where one is behind
abbrev pub second_left : Bool → List Place → Option Place
second_left true ps = first_at ps
second_left false [] = None
second_left false (at ∷ rest) = first_at rest

second_of : (asked : List Asked) → second_place asked ≡ second_left false (asked_places asked)
second_of [] = refl
second_of (a ∷ []) = refl
second_of (a ∷ b ∷ later) = refl

pub second_is : (steps : List Step) → second_place (checks_of steps) ≡ second_left false (places_in steps)
second_is steps = second_of (checks_of steps) ∙ ap (second_left false) (places_are no_levels steps)

-- the first step is a check behind another, the first check, or none
pub second_here : (b : Bool) (s : Step) (rest : List Step) (at : Place) → b ≡ true → check_place s ≡ Some at → second_left b (places_in (s ∷ rest)) ≡ Some at
second_here b s rest at e is = ap (λ c. second_left c (places_in (s ∷ rest))) e ∙ ap (λ o. first_at (with_place o (places_in rest))) is

pub first_here : (b : Bool) (s : Step) (rest : List Step) (at : Place) → b ≡ false → check_place s ≡ Some at → second_left b (places_in (s ∷ rest)) ≡ second_left true (places_in rest)
first_here b s rest at e is = ap (λ c. second_left c (places_in (s ∷ rest))) e ∙ ap (λ o. second_left false (with_place o (places_in rest))) is

pub none_here : (b : Bool) (s : Step) (rest : List Step) → check_place s ≡ None → second_left b (places_in (s ∷ rest)) ≡ second_left b (places_in rest)
none_here b s rest is = ap (λ o. second_left b (with_place o (places_in rest))) is

pub none_left : (b : Bool) → second_left b [] ≡ None
none_left true = refl
none_left false = refl
