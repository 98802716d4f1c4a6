use Rattle.std.proofs.Common.{◌≡◌, ℕ, ◌+◌, IsTrue, length, subst, arith}
use Rattle.poly_graph.specs.Term.{comes_after}
use Rattle.poly_graph.specs.Views.{node_of}
use Rattle.poly_graph.proofs.Graphs.{in_order_at}
use Rattle.squares.proofs.Marking.{comes_later}
use Rattle.squares.proofs.marks.visit.Goals as goal

pub mark_children-requires : goal.mark_children-requires
mark_children-requires c =
    let n = c.args.n in let node = node_of c.node-node.result in let zero-on : 0 + n ≡ n = omega arith in
    comes_later n (length c.args.marks.now) node (omega (arith, c.requires.node, c.requires.count))
    (subst (λ (k : ℕ). IsTrue (comes_after k node)) zero-on (in_order_at 0 c.args.graph.now c.requires.order n node c.node-node.ensures).0)
