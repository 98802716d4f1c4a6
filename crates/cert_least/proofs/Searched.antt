-- The problem of a cover: where it has a limit of the goal, the goal has the same enclosures.
use Rattle.std.proofs.Common.{◌≡◌, ℕ, ◌<◌, ◌+◌, List, [], ◌∷◌, ◌++◌, length, Option, Some, None, refl, ap, sym, ◌∙◌, arith, length-append}
use Rattle.std.proofs.Math.ListN.{get_or-append}
use Rattle.dyadic.specs.Fraction.{zero_fraction}
use Rattle.dyadic.specs.Rounding.{Dyadic}
use Rattle.interval_model.specs.Space.{Space}
use Rattle.poly_graph.specs.Problem.{Problem, atom_at, no_place, term_of}
use Rattle.poly_graph.specs.Term.{Term, constant, Node, Kind, le, node_term, terms_after, graph_terms}
use Rattle.poly_graph.proofs.Graphs.{term_at, length_terms}
use Rattle.cover_model.specs.Space.{enclosure}
use Rattle.cover_model.specs.State.{atom_enclosure}
use Rattle.cert_model.specs.Limited.{scale_of, offset_of, limit_nodes, limited}
use Rattle.cert_model.specs.Least.{searched}

-- ---- the first nodes

terms-split : (ns more : List Node) (done : List Term) → terms_after done (ns ++ more) ≡ terms_after (terms_after done ns) more
terms-split [] more done = refl
terms-split (n ∷ ns) more done = terms-split ns more (done ++ (node_term done n ∷ []))

terms-stay : (ns : List Node) (done : List Term) (k : ℕ) → k < length done → term_at (terms_after done ns) k ≡ term_at done k
terms-stay [] done k h = refl
terms-stay (n ∷ ns) done k h =
    terms-stay ns (done ++ (node_term done n ∷ [])) k (omega (arith, h, length-append done (node_term done n ∷ []))) ∙ get_or-append done (node_term done n ∷ []) (constant zero_fraction) k h

terms-begin : (ns more : List Node) (k : ℕ) → k < length ns → term_at (graph_terms (ns ++ more)) k ≡ term_at (graph_terms ns) k
terms-begin ns more k h = ap (λ (ts : List Term). term_at ts k) (terms-split ns more []) ∙ terms-stay more (graph_terms ns) k (omega (arith, length_terms ns, h))

-- ---- the goal

module _ (p : Problem) (g : ℕ) (here : g < length p.atoms) (place : (atom_at p g).0 < length p.nodes) (space : Space) where
  limited-term : (k : ℕ) (d : Dyadic) → term_of (limited p g k d) g ≡ term_of p g
  limited-term k d =
      let more : List Node = limit_nodes (length p.nodes) (atom_at p g).0 (scale_of k) (offset_of k d) in
      ap (λ (a : ℕ × Kind). term_at (graph_terms (p.nodes ++ more)) a.0) (get_or-append p.atoms ((length p.nodes + 3, le) ∷ []) no_place g here)
      ∙ terms-begin p.nodes more (atom_at p g).0 place

  pub same_enclosure : (low : Option Dyadic) (bits : Option ℕ) → atom_enclosure p space g ≡ atom_enclosure (searched p g low bits) space g
  same_enclosure None bits = refl
  same_enclosure (Some d) None = refl
  same_enclosure (Some d) (Some k) = ap (enclosure space) (sym (limited-term k d))
