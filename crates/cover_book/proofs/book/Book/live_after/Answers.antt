-- The first live node that is met is the first one behind the place.
use Rattle.std.proofs.Common.{◌≤◌, length, ap, sym, ◌∙◌, arith}
use Rattle.cover_book.specs.declared.node.Node.{Node}
use Rattle.cover_book.specs.Model.{BookModel}
use Rattle.cover_book.specs.Verdict.{is_live, live_after}
use Rattle.cover_book.specs.Views.{node_of}
use Rattle.cover_book.proofs.Lookups.{live_here, none_live_past, live_of_book}
use Rattle.cover_book.proofs.book.Book.live_after.Goals as goal

pub returns-in-Live-clause-first : goal.returns-in-Live-clause-first
returns-in-Live-clause-first c =
    sym (live_here c.self.inside.nodes.items c.loop-node.node c.index.result.now (omega (arith, c.loop-node-test.true, c.len-node-end.ensures)) c.index.ensures (ap (λ (x : Node). is_live (node_of x)) c.in-Live.is))
    ∙ c.loop-node.invariant ∙ live_of_book c.self.inside.nodes.items c.args.from ∙ ap (λ (b : BookModel). live_after b c.args.from) c.self.view_is

pub returns-clause-first : goal.returns-clause-first
returns-clause-first c =
    let past : length c.self.inside.nodes.items ≤ c.loop-node.node = omega (arith, c.loop-node-test.false, c.len-node-end.ensures) in
    sym (none_live_past c.self.inside.nodes.items c.loop-node.node past)
    ∙ c.loop-node.invariant ∙ live_of_book c.self.inside.nodes.items c.args.from ∙ ap (λ (b : BookModel). live_after b c.args.from) c.self.view_is
