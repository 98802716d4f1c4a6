-- What the search finds of atoms.
use Rattle.std.proofs.Common.{◌≡◌, ◌<◌, ◌∙◌, ℕ, List, map, length, get_or, ap, sym, arith, not, None}
use Rattle.std.proofs.lemmas.List.{get_or-map, length-map}
use Rattle.dyadic.specs.declared.dy.Ext.{Ext as CodeExt}
use Rattle.dyadic.specs.Rounding.{Ext, above_all, at, end_of, end_at_most, ext_at_most}
use Rattle.dyadic.specs.Views.{ext_of}
use Rattle.interval_model.specs.Space.{Space}
use Rattle.poly_graph.specs.declared.node.Atom.{Atom}
use Rattle.poly_graph.specs.Problem.{Problem, IsProblem, atom_at, no_place, term_of}
use Rattle.poly_graph.specs.ProblemViews.{Parts, problem_of, IsWhole}
use Rattle.poly_graph.specs.Term.{Kind, graph_terms}
use Rattle.poly_graph.specs.Views.{atom_of}
use Rattle.poly_graph.proofs.Graphs.{term_at}
use Rattle.cover_model.specs.Root.{root_space}
use Rattle.width_plan.specs.Width.{width}
use Rattle.width_plan.specs.NodeWidth.{graph_widths, width_at}
use Rattle.width_plan.specs.Plan.{gap, fits, Answer, least_bits, no_atom, no_axis, IsPlanBy}
use Rattle.width_plan.specs.Laws.{IsNarrowBy}
use Rattle.width_plan.specs.Search.{IsGap}
use Rattle.width_plan.proofs.Fills.{width_of_term, length_widths}
use Rattle.width_plan.proofs.Stuck.{enclosure_is_narrow}

module _ (p : Parts) (items : List Atom) (e : map atom_of items ≡ p.atoms) (k : ℕ) (l : k < length items) (d : Atom) where
  pub atom_is : atom_of (get_or items k d) ≡ atom_at (problem_of p) k
  atom_is = sym (get_or-map atom_of items k d no_place l) ∙ ap (λ (xs : List (ℕ × Kind)). get_or xs k no_place) e

  pub is_atom : k < length p.atoms
  is_atom = omega (arith, length-map items atom_of, ap length e, l)

  pub term_inside : IsWhole p → (get_or items k d).term < length p.nodes
  term_inside w = let h = w.problem.atoms k no_place is_atom in omega (arith, h, ap (λ (a : ℕ × Kind). a.0) atom_is)

pub length_of : (box : Space) (bits : ℕ) (p : Parts) (ws : List CodeExt) → map ext_of ws ≡ graph_widths box bits p.nodes → length ws ≡ length p.nodes
length_of box bits p ws f = sym (length-map ws ext_of) ∙ ap length f ∙ length_widths box bits p.nodes

-- the test says whether the bits fit the atom
pub fits_is : (p : Parts) (delta margin bits k : ℕ) (box : Space) → box ≡ root_space (problem_of p) → (ws : List CodeExt) → map ext_of ws ≡ graph_widths box bits p.nodes →
    (g : Ext) → IsGap delta margin g → (t : ℕ) → t ≡ (atom_at (problem_of p) k).0 → t < length p.nodes → (v : CodeExt) → v ≡ get_or ws t v →
    fits (problem_of p) delta margin bits k ≡ not (ext_at_most g (ext_of v))
fits_is p delta margin bits k box root ws f g gap-is t term inside v at-t = ap not (ap (λ (w : Ext). end_at_most (at (gap delta margin)) (end_of w)) (sym is) ∙ sym (gap-is (ext_of v)))
  where
    is : ext_of v ≡ width (root_space (problem_of p)) bits (term_of (problem_of p) k)
    is = ap ext_of at-t ∙ sym (get_or-map ext_of ws t v above_all (omega (arith, inside, length_of box bits p ws f))) ∙ ap (λ (xs : List Ext). width_at xs t) f
        ∙ width_of_term box bits p.nodes t inside ∙ ap (λ (s : Space). width s bits (term_at (graph_terms p.nodes) t)) root
        ∙ ap (λ (i : ℕ). width (root_space (problem_of p)) bits (term_at (graph_terms p.nodes) i)) term

-- with the bits of a plan the enclosures are narrow
pub narrow_by : (p : Problem) → IsProblem p → (delta margin : ℕ) (answer : Answer) → IsPlanBy None p delta margin answer → IsNarrowBy p delta margin answer
narrow_by p g delta margin (least_bits bits) q = λ crossed space u w f j l. enclosure_is_narrow p g delta margin bits space u w f j (q.0.fit j l)
narrow_by p g delta margin (no_atom j) q = tt
narrow_by p g delta margin (no_axis axis) q = tt
