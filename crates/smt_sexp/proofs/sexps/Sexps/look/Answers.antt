use Rattle.std.proofs.Common.{arith}
use Rattle.smt_sexp.proofs.Beads.{items_past, items_shut, items_leaf, items_open}
use Rattle.smt_sexp.proofs.sexps.Sexps.look.Goals as goal

pub returns-then-at-len : goal.returns-then-at-len
returns-then-at-len c = items_past c.args.self.now.nodes.items c.args.at (omega (arith, c.len.ensures, c.args.self.now.nodes.ok.0))

pub returns-in-Close : goal.returns-in-Close
returns-in-Close c = items_shut c.args.self.now.nodes.items c.args.at _ (omega (arith, c.len.ensures, c.args.self.now.nodes.ok.0)) c.index.ensures c.in-Close.is

pub returns-in-Leaf : goal.returns-in-Leaf
returns-in-Leaf c =
    (items_leaf c.args.self.now.nodes.items c.args.at _ _ _ (omega (arith, c.len.ensures, c.args.self.now.nodes.ok.0)) c.index.ensures c.in-Leaf.is, omega arith, omega (arith, c.len.ensures, c.args.self.now.nodes.ok.0))

pub returns-in-Open : goal.returns-in-Open
returns-in-Open c = (
  items_open c.args.self.now.nodes.items c.args.at _ _ _ (omega (arith, c.len.ensures, c.args.self.now.nodes.ok.0)) c.index.ensures c.in-Open.is,
  omega arith,
  omega arith,
  omega (arith, c.len.ensures, c.args.self.now.nodes.ok.0),
)
