-- What comes of the line of an axis, in a lemma's state and in a point.
use Rattle.std.specs.Prelude.{◌≡◌, ℕ, List, [], ◌∷◌, ◌++◌, Result, Ok, Err}
use Rattle.cert_read.specs.CertLine.{CertLine}
use Rattle.poly_graph.specs.Problem.{Declared, Axis, Problem}
use Rattle.interval_model.specs.Space.{Space}
use Rattle.cover_model.specs.State.{State, Loosenings}
use Rattle.ival.specs.declared.domain.Domain as code
use Rattle.ival.specs.SpaceViews.{domain_of}
use Rattle.cert_model.specs.Due.{on, axis_next, coordinate_next}
use Rattle.cert_model.specs.Accepted.{axis_line, coordinate_line}
use Rattle.cert_check.specs.declared.refusal.Refusal.{Refusal}
use Rattle.cert_check.specs.Faults.{IsLineRefusal}

-- the domain, with which the state goes on, or the line's fault
abbrev pub IsAxis : Declared → CertLine → Result code.Domain Refusal → Type 0
IsAxis a l (Ok d) = (p : Problem) (s : Loosenings) (k : ℕ) (lemmas : List State) (axes : List Axis) (space : Space) →
    axis_line p s k lemmas a axes space l ≡ on (axis_next s k lemmas axes (space ++ (domain_of d ∷ [])))
IsAxis a l (Err r) = (p : Problem) (s : Loosenings) (k : ℕ) (lemmas : List State) (axes : List Axis) (space : Space) →
    IsLineRefusal r (axis_line p s k lemmas a axes space l)

-- the same of a point
abbrev pub IsCoordinate : Declared → CertLine → Result code.Domain Refusal → Type 0
IsCoordinate a l (Ok d) = (s : Loosenings) (axes : List Axis) (space : Space) →
    coordinate_line s a axes space l ≡ on (coordinate_next s axes (space ++ (domain_of d ∷ [])))
IsCoordinate a l (Err r) = (s : Loosenings) (axes : List Axis) (space : Space) → IsLineRefusal r (coordinate_line s a axes space l)
