-- How a walk over the commands of a script stands.
use Rattle.std.specs.Prelude.{◌≡◌, ℕ, List, [], ◌∷◌, ◌++◌, map, length, Result, Ok, Err}
use Rattle.dyadic.specs.Point.{Sort}
use Rattle.script_model.specs.Script.{Command, claims, sorts_of}
use Rattle.script_model.specs.Declared.{Bounding, bounding, constant_bounding, numbered}
use Rattle.script_forms.specs.Terms.{Unfolded}
use Rattle.script_forms.specs.Work.{Work, as_work, outcome_of, assertion_events}
use Rattle.script_forms.specs.Walk.{Walked, stands, stops, unfolds_not, nothing_made, constant_work, works, claim_places, after_assertions}
use Rattle.smt_sexp.specs.declared.sexps.Sexps as arena
use Rattle.script_reading.specs.WellSorted.{IsSound}
use Rattle.term_build.specs.Built.{stand_of}
use Rattle.term_build.specs.Settled.{Extends}
use Rattle.term_build.specs.Steps.{Emits}
use Rattle.term_build.specs.declared.stop.Stop.{Stop}
use Rattle.value_build.specs.Making.{Making, MoreLists}
use Rattle.value_build.specs.Values.{IsClaim}
use Rattle.problem_build.specs.Names.{work_names, bound_names_of, TopFits}
use Rattle.problem_build.specs.BuildAnswers.{IsBuildingError, found_by}
use Rattle.script_fault.specs.declared.fault.ReadError.{ReadError}
use Rattle.problem_build.specs.declared.top.Top.{Top}

-- an assertion's form is made, and what was made stays
pub record IsAsserted (old new : Making) (w : Work) (b : Bounding) (made : ℕ × ℕ) : Type 0 where
  pub stand : Extends (stand_of old.made) (stand_of new.made)
  pub lists : MoreLists old.bounds new.bounds
  pub claim : IsClaim new w.outcome b made

abbrev pub Asserts : Making → Making → Work → Bounding → Result (ℕ × ℕ) Stop → Type 0
Asserts old new w b r = Emits old.made new.made (assertion_events w) r (IsAsserted old new w b)

-- the forms and the lists of bounds of several assertions
abbrev pub AreClaims : Making → List Unfolded → List Bounding → List (ℕ × ℕ) → Type 0
AreClaims m [] [] [] = Unit {0}
AreClaims m (u ∷ us) (b ∷ bs) (c ∷ cs) = IsClaim m u b c × AreClaims m us bs cs
AreClaims m _ _ _ = ⊥

-- the works and the bounds of the assertions that are left, after so many constants
abbrev pub left_works : arena.Sexps → List Top → ℕ → List Command → List Work
left_works s top axis rest = claims as_work (work_names s top (length top)) (numbered constant_work axis (sorts_of rest)) rest

abbrev pub left_bounds : arena.Sexps → List Top → ℕ → List Command → List Bounding
left_bounds s top axis rest = claims bounding (bound_names_of s top (length top)) (numbered constant_bounding axis (sorts_of rest)) rest

-- the bounds of the assertions of a script
abbrev pub boundings : List Command → List Bounding
boundings script = claims bounding [] (numbered constant_bounding 0 (sorts_of script)) script

-- the walk over the assertions of a script
abbrev pub walk_of : List Command → Walked
walk_of script = after_assertions nothing_made (claim_places script) (works script)

-- the walk did not stop at an expression without a sort
abbrev pub MeetsSorts : Walked → Type 0
MeetsSorts (stops at (unfolds_not x)) = IsSound x
MeetsSorts w = Unit {0}

-- these names of the top are what the commands of a script bind, and what follows sees them
pub record IsTopOf (s : arena.Sexps) (script : List Command) (top : List Top) : Type 0 where
  pub works : (rest : List Command) → works (script ++ rest) ≡ works script ++ left_works s top (length (sorts_of script)) rest
  pub bounds : (rest : List Command) → boundings (script ++ rest) ≡ boundings script ++ left_bounds s top (length (sorts_of script)) rest
  pub fits : TopFits (sorts_of script) top

-- the same, with the number of its constants
pub record IsNamed (s : arena.Sexps) (script : List Command) (top : List Top) (axis : ℕ) : Type 0 where
  pub names : IsTopOf s script top
  pub counted : length (sorts_of script) ≡ axis

-- all assertions of a script are done
pub record IsDone (script : List Command) (m : Making) (made : List (ℕ × ℕ)) : Type 0 where
  pub walk : walk_of script ≡ stands (stand_of m.made)
  pub claims : AreClaims m (map outcome_of (works script)) (boundings script) made
  pub sorts : m.made.sorts ≡ sorts_of script

-- what was made stays, under its number, and no sketch is begun
pub record Adds (old new : Making) (made made1 : List (ℕ × ℕ)) : Type 0 where
  pub stand : Extends (stand_of old.made) (stand_of new.made)
  pub lists : MoreLists old.bounds new.bounds
  pub sorts : (more : List Sort) × (new.made.sorts ≡ old.made.sorts ++ more)
  pub claims : (more : List (ℕ × ℕ)) × (made1 ≡ made ++ more)
  pub drawn : old.drawn ≡ [] → new.drawn ≡ []

-- behind one command more, of whatever script: it is done, or the script has this fault
abbrev pub Makes : List Command → Command → Making → Making → List (ℕ × ℕ) → List (ℕ × ℕ) → Result (Unit {0}) ReadError → Type 0
Makes script c old new made made1 (Ok u) = IsDone (script ++ (c ∷ [])) new made1 × Adds old new made made1
Makes script c old new made made1 (Err e) = (rest : List Command) → IsBuildingError e (found_by (walk_of (script ++ (c ∷ rest))))
