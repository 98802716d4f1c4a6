-- A problem that goes on from another one, and the states of the first in the second.
use Rattle.std.specs.Prelude.{◌≡◌, ℕ, ◌-◌, List, ◌++◌, drop, length, replicate}
use Rattle.dyadic.specs.Point.{Sort}
use Rattle.poly_graph.specs.Form.{Forms, no_forms, more_forms, all_form}
use Rattle.poly_graph.specs.Marks.{unmarked}
use Rattle.poly_graph.specs.Problem.{Problem, IsProblem, sorts_of_problem}
use Rattle.poly_graph.specs.Term.{Node, Kind}
use Rattle.cover_model.specs.Root.{root_space}
use Rattle.cover_model.specs.State.{State, Loosenings, IsLemma}
use Rattle.cover_model.specs.Fits.{FitsProblem}

-- the first forms, and behind them the others
abbrev pub forms_then : Forms ℕ → Forms ℕ → Forms ℕ
forms_then no_forms gs = gs
forms_then (more_forms f fs) gs = more_forms f (forms_then fs gs)

-- The sorts, the nodes and the atoms of p begin those of q, and q asks for all that p asks for, and for more behind it. The
-- declared bounds may be others.
pub record GoesOnFrom (p q : Problem) : Type 0 where
  pub new_sorts : List Sort
  pub sorts : sorts_of_problem q ≡ sorts_of_problem p ++ new_sorts
  pub new_nodes : List Node
  pub nodes : q.nodes ≡ p.nodes ++ new_nodes
  pub new_atoms : List (ℕ × Kind)
  pub atoms : q.atoms ≡ p.atoms ++ new_atoms
  pub parts : Forms ℕ
  pub new_parts : Forms ℕ
  pub form : p.form ≡ all_form parts
  pub later_form : q.form ≡ all_form (forms_then parts new_parts)

-- a state in the later problem: a new axis has its whole domain there, a new atom no mark
abbrev pub carried : Problem → State → State
carried q S = record {
  space = S.space ++ drop (length S.space) (root_space q);
  marks = S.marks ++ replicate (length q.atoms - length S.marks) unmarked;
}

-- Where no point of a state meets the form of p, none of the same state in q meets that of q: a lemma outlasts what is asked besides.
abbrev pub CarriedLemmaHolds : Type 0
CarriedLemmaHolds = (p q : Problem) → IsProblem p → GoesOnFrom p q → (s : Loosenings) (L : State) → FitsProblem p L → IsLemma p s L → IsLemma q s (carried q L)
