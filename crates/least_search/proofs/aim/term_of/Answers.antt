use Rattle.std.proofs.Common.{ap, arith}
use Rattle.poly_graph.specs.declared.node.Kind.TheVariants.{Le}
use Rattle.least_search.proofs.Rows.{atom_place, same_atom}
use Rattle.least_search.proofs.aim.term_of.Goals as goal

pub returns : goal.returns
returns c =
    let j = c.args.atom in let p = c.args.problem.now in
    let e = same_atom p c.atoms-atoms.result.now (record { term = 0; kind = Le }) j c.atoms-atoms.ensures.atoms c.requires in
    let h = atom_place p c.atoms-atoms.ensures.whole j c.requires in
    record { term = ap (λ a. a.0) e; place = omega (arith, h, ap (λ a. a.0) e) }
