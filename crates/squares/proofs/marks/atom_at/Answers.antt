use Rattle.std.proofs.Common.{◌≡◌, ℕ, List, length, get_or, ap, sym, ◌∙◌, arith}
use Rattle.std.proofs.lemmas.List.{get_or-map, length-map}
use Rattle.poly_graph.specs.declared.node.Atom.{Atom}
use Rattle.poly_graph.specs.declared.node.Kind.TheVariants.{Le}
use Rattle.poly_graph.specs.Problem.{atom_at, no_place}
use Rattle.poly_graph.specs.ProblemViews.{problem_of}
use Rattle.poly_graph.specs.Term.{Kind}
use Rattle.poly_graph.specs.Views.{atom_of}
use Rattle.squares.proofs.marks.atom_at.Goals as goal

pub returns : goal.returns
returns c =
    let j = c.args.j in let p = c.args.problem.now in let items = c.atoms-atoms.result.now in let d : Atom = record { term = 0; kind = Le } in
    let e : atom_of (get_or items j d) ≡ atom_at (problem_of p) j =
    sym (get_or-map atom_of items j d no_place (omega (arith, length-map items atom_of, ap length c.atoms-atoms.ensures.atoms, c.requires)))
    ∙ ap (λ (xs : List (ℕ × Kind)). get_or xs j no_place) c.atoms-atoms.ensures.atoms in
    let h = c.atoms-atoms.ensures.whole.problem.atoms j no_place c.requires in
    record { atom = e; place = omega (arith, h, ap (λ (a : ℕ × Kind). a.0) e) }
