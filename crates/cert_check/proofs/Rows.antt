-- The rows of a problem's atoms.
use Rattle.std.proofs.Common.{◌≡◌, ℕ, ◌<◌, List, length, get_or, map, ap, sym, ◌∙◌, arith}
use Rattle.std.proofs.lemmas.List.{get_or-map, length-map}
use Rattle.dyadic.specs.Rounding.{two_to_minus}
use Rattle.interval_model.specs.Interval.{Interval, met, is_nothing}
use Rattle.poly_graph.specs.declared.node.Atom.{Atom}
use Rattle.poly_graph.specs.Term.{Kind}
use Rattle.poly_graph.specs.Views.{atom_of}
use Rattle.interval_model.specs.Space.{Space}
use Rattle.cover_model.specs.Narrowed.{enclosures}
use Rattle.cover_model.specs.NodeEnclosure.{row}
use Rattle.poly_graph.specs.Problem.{atom_at, no_place}
use Rattle.cover_model.specs.State.{atom_enclosure}
use Rattle.poly_graph.specs.ProblemViews.{Parts, problem_of, IsWhole}
use Rattle.cover_model.proofs.NodeEnclosures.{row_of_term}
use Rattle.form_truth.specs.Truth.{HasRows}
use Rattle.cover_model.specs.Space.{range}
use Rattle.cert_check.specs.declared.judged.Judged.{Judged}
use Rattle.cert_check.specs.Judged.{AreJudged, AreJudgedOver}

-- an atom's node is there
pub atom_place : (p : Parts) → IsWhole p → (j : ℕ) → j < length p.atoms → (atom_at (problem_of p) j).0 < length p.nodes
atom_place p w j h = w.problem.atoms j no_place h

-- rows that are the enclosures in each place serve
pub has_rows : (p : Parts) (space : Space) (es : List Interval) → IsWhole p → length es ≡ length p.nodes →
    ((k : ℕ) → k < length p.nodes → row es k ≡ row (enclosures space p.nodes) k) → HasRows p space es
has_rows p space es w l f = record {
  count = l;
  rows = λ j h. let place = atom_place p w j h in f (atom_at (problem_of p) j).0 place ∙ row_of_term space p.nodes (atom_at (problem_of p) j).0 place;
}

-- an atom of the code is the one of its number
pub same_atom : (p : Parts) (items : List Atom) (d : Atom) (j : ℕ) → map atom_of items ≡ p.atoms → j < length p.atoms → atom_of (get_or items j d) ≡ atom_at (problem_of p) j
same_atom p items d j e h =
    sym (get_or-map atom_of items j d no_place (omega (arith, length-map items atom_of, ap length e)))
    ∙ ap (λ (xs : List (ℕ × Kind)). get_or xs j no_place) e

pub row_of_atom : (p : Parts) (space : Space) (j k : ℕ) → k < length p.nodes → k ≡ (atom_at (problem_of p) j).0 → row (enclosures space p.nodes) k ≡ atom_enclosure (problem_of p) space j
row_of_atom p space j k l e = ap (λ (i : ℕ). row (enclosures space p.nodes) i) e ∙ row_of_term space p.nodes (atom_at (problem_of p) j).0 (omega (arith, l, e))

-- atoms that are judged by rows which serve are judged by their enclosures
pub judged_over : (p : Parts) (space : Space) (es : List Interval) (g : Judged) → HasRows p space es → AreJudged p es g → AreJudgedOver p space g
judged_over p space es g h a = record {
  count = a.count;
  each = λ j l. a.each j l ∙ ap (λ (i : Interval). is_nothing (met i (range (two_to_minus g.margin) (atom_at (problem_of p) j).1))) (h.rows j l);
}
