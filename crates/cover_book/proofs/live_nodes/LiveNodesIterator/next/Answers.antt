-- The next live node is the first of those that are left.
use Rattle.std.proofs.Common.{sym, rules}
use Rattle.cover_book.proofs.Lookups.{next_number, no_number}
use Rattle.cover_book.proofs.live_nodes.LiveNodesIterator.next.Goals as goal

pub returns-in-Some-clause-steps : goal.returns-in-Some-clause-steps
returns-in-Some-clause-steps c = next_number c.args.self.now.book.now c.args.self.now.next c.in-Some.node (sym c.in-Some.ensures.first)

pub returns-in-Some-clause-goes : goal.returns-in-Some-clause-goes
returns-in-Some-clause-goes c = let e = next_number c.args.self.now.book.now c.args.self.now.next c.in-Some.node (sym c.in-Some.ensures.first) in search (rules, e)

pub returns-in-None-clause-steps : goal.returns-in-None-clause-steps
returns-in-None-clause-steps c = let e = no_number c.args.self.now.book.now c.args.self.now.next (sym c.in-None.ensures.first) in (e, e)
