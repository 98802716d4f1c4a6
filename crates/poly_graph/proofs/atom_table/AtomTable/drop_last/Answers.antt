use Rattle.poly_graph.proofs.Cuts.{atoms_cut}
use Rattle.poly_graph.proofs.atom_table.AtomTable.drop_last.Goals as goal

pub invariant_of-self : goal.invariant_of-self
invariant_of-self c = atoms_cut c.self.inside.atoms.items c.pop.new.self.items c.in-Some.atom c.self.inside.numbers c.remove.new.self c.in-Some.ensures.items c.self.invariant c.remove.ensures.updates
