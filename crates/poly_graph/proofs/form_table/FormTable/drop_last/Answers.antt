use Rattle.std.proofs.Common.{arith}
use Rattle.poly_graph.proofs.Cuts.{cut_within, size_within}
use Rattle.poly_graph.proofs.form_table.FormTable.drop_last.Goals as goal

pub invariant_of-self-2 : goal.invariant_of-self-2
invariant_of-self-2 c = cut_within c.self.inside.nodes.items c.pop.new.self.items c.in-Some.node c.self.inside.numbers c.remove.new.self c.self.inside.size c.size_of.result c.in-Some.ensures.items c.self.invariant c.remove.ensures.updates c.size_of.ensures

pub overflow_sub-self : goal.overflow_sub-self
overflow_sub-self c = let whole = size_within c.self.inside.nodes.items c.pop.new.self.items c.in-Some.node c.self.inside.numbers c.self.inside.size c.in-Some.ensures.items c.self.invariant in omega (arith, whole, c.size_of.ensures)
