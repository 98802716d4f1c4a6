use Rattle.std.proofs.Common.{subst}
use Rattle.poly_graph.specs.AtomTable.{AreAtoms}
use Rattle.poly_graph.proofs.Atoms.{table_atoms}
use Rattle.poly_graph.proofs.atom_table.AtomTable.atoms.Goals as goal

pub returns-clause-atoms : goal.returns-clause-atoms
returns-clause-atoms c = subst AreAtoms c.self.view_is (table_atoms c.self.inside.atoms.items c.self.inside.numbers c.self.invariant)
