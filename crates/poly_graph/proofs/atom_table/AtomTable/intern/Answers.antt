use Rattle.std.proofs.Common.{arith}
use Rattle.poly_graph.proofs.Atoms.{AtomAdded, atom_added}
use Rattle.poly_graph.proofs.Shared.{on_ok}
use Rattle.poly_graph.proofs.atom_table.AtomTable.intern.Goals as goal
use Rattle.poly_graph.specs.Views.{atom_of}

now-added : (c : goal.Else-is_err) → AtomAdded c.args.self.now c.add.new.atoms.items c.add.new.numbers (atom_of c.args.atom) c.len-n.result
now-added c = atom_added c.self.inside.atoms.items c.add.new.atoms.items c.self.inside.numbers c.add.new.numbers c.args.atom c.len-n.result c.args.self.now c.self.view_is c.self.invariant
    (omega arith) c.if-n-ge-MOST_ATOMS.false c.in_default.ensures.value (on_ok c.add.result _ c.if-is_err.ensures.value c.add.ensures.items) (on_ok c.add.result _ c.if-is_err.ensures.value c.add.ensures.numbers)

pub invariant_of-self-2 : goal.invariant_of-self-2
invariant_of-self-2 c = (now-added c).kept

pub returns : goal.returns
returns c = (now-added c).interned
