use Rattle.std.proofs.Common.{ℕ, ◌<◌, List, length, get_or, ap, arith}
use Rattle.std.proofs.lemmas.List.{get_or-map, length-map}
use Rattle.poly_graph.specs.declared.node.Atom.{Atom}
use Rattle.poly_graph.specs.declared.node.Kind.TheVariants.{Le}
use Rattle.poly_graph.specs.Term.{Kind}
use Rattle.poly_graph.specs.Views.{atom_of}
use Rattle.cover_rule.proofs.narrowing.narrow_by.Goals as goal

pub narrow-requires-clause-place : goal.narrow-requires-clause-place
narrow-requires-clause-place c =
    let items = c.atoms.result.now in let j = c.args.j in let p = c.args.problem.now in
    let d : Atom = record { term = 0; kind = Le } in
    let inside : j < length items = omega (arith, length-map items atom_of, ap length c.atoms.ensures.atoms, c.requires.atom) in
    let h = c.atoms.ensures.whole.problem.atoms j (atom_of d) c.requires.atom in
    let e = ap (λ (a : ℕ × Kind). a.0) (get_or-map atom_of items j d (atom_of d) inside) in
    let f = ap (λ (xs : List (ℕ × Kind)). (get_or xs j (atom_of d)).0) c.atoms.ensures.atoms in
    omega (arith, h, e, f, ap length c.graph.ensures.graph)
