-- The row of an atom.
use Rattle.std.proofs.Common.{◌≡◌, ℕ, ◌<◌, List, length, get_or, map, ap, sym, ◌∙◌, arith}
use Rattle.std.proofs.lemmas.List.{get_or-map, length-map}
use Rattle.interval_model.specs.Space.{Space}
use Rattle.poly_graph.specs.declared.node.Atom.{Atom}
use Rattle.poly_graph.specs.Term.{Kind}
use Rattle.poly_graph.specs.Views.{atom_of}
use Rattle.poly_graph.specs.Problem.{atom_at, no_place}
use Rattle.poly_graph.specs.ProblemViews.{Parts, problem_of, IsWhole}
use Rattle.cover_model.specs.Narrowed.{enclosures}
use Rattle.cover_model.specs.NodeEnclosure.{row}
use Rattle.cover_model.specs.State.{atom_enclosure}
use Rattle.cover_model.proofs.NodeEnclosures.{row_of_term}

-- an atom's node is there
pub atom_place : (p : Parts) → IsWhole p → (j : ℕ) → j < length p.atoms → (atom_at (problem_of p) j).0 < length p.nodes
atom_place p w j h = w.problem.atoms j no_place h

-- an atom of the code is the one of its number
pub same_atom : (p : Parts) (items : List Atom) (d : Atom) (j : ℕ) → map atom_of items ≡ p.atoms → j < length p.atoms → atom_of (get_or items j d) ≡ atom_at (problem_of p) j
same_atom p items d j e h =
    sym (get_or-map atom_of items j d no_place (omega (arith, length-map items atom_of, ap length e)))
    ∙ ap (λ (xs : List (ℕ × Kind)). get_or xs j no_place) e

-- the row of its node is its enclosure
pub row_of_atom : (p : Parts) (space : Space) (j k : ℕ) → k < length p.nodes → k ≡ (atom_at (problem_of p) j).0 → row (enclosures space p.nodes) k ≡ atom_enclosure (problem_of p) space j
row_of_atom p space j k l e = ap (λ (i : ℕ). row (enclosures space p.nodes) i) e ∙ row_of_term space p.nodes (atom_at (problem_of p) j).0 (omega (arith, l, e))
