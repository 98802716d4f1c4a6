use Rattle.std.proofs.Common.{ℕ, ◌<◌, List, length, get_or, ap, arith}
use Rattle.std.proofs.lemmas.List.{get_or-map, length-map}
use Rattle.poly_graph.specs.declared.node.Atom.{Atom}
use Rattle.poly_graph.specs.declared.node.Kind.TheVariants.{Le}
use Rattle.poly_graph.specs.Term.{Kind}
use Rattle.poly_graph.specs.Views.{atom_of}
use Rattle.form_truth.proofs.atoms.may_atom.Goals as goal

pub get-requires : goal.get-requires
get-requires c =
    let items = c.atoms-atoms.result.now in let j = c.args.j in let p = c.args.problem.now in
    let d : Atom = record { term = 0; kind = Le } in
    let inside : j < length items = omega (arith, c.if-j-atoms.false) in
    let l : j < length p.atoms = omega (arith, length-map items atom_of, ap length c.atoms-atoms.ensures.atoms, inside) in
    let h = c.atoms-atoms.ensures.whole.problem.atoms j (atom_of d) l in
    let e = ap (λ (a : ℕ × Kind). a.0) (get_or-map atom_of items j d (atom_of d) inside) in
    let f = ap (λ (xs : List (ℕ × Kind)). (get_or xs j (atom_of d)).0) c.atoms-atoms.ensures.atoms in
    omega (arith, h, e, f, c.requires.rows.count)
