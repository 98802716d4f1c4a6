use Rattle.std.proofs.Common.{sym, subst}
use Rattle.script_roots.specs.Tree.{Tree}
use Rattle.root_rewriting.specs.Nodes.{trees_in}
use Rattle.root_rewriting.specs.Walking.{Turns}
use Rattle.root_rewriting.proofs.Growth as growth
use Rattle.root_rewriting.proofs.Waiting as waiting
use Rattle.root_rewriting.proofs.Reckoned as reckoned
use Rattle.root_rewriting.proofs.unfold.frames.call_on.Goals as goal

pub returns-in_ok-scope-in-Some-clause-walks : goal.returns-in_ok-scope-in-Some-clause-walks
returns-in_ok-scope-in-Some-clause-walks c = λ t h.
    let m = trees_in c.args.trees.now in
    (growth.grows_none m, waiting.call_next m c.args.source.now.sexps.now c.args.source.now.top.now c.args.call t h c.in-Some.after c.in_ok-scope-in-Some.scope c.in-Some.ensures.0 c.in_ok-scope-in-Some.ensures)

pub returns-in-None-clause-walks : goal.returns-in-None-clause-walks
returns-in-None-clause-walks c = λ t h.
    let s = c.args.source.now.sexps.now in
    let top = c.args.source.now.top.now in
    let m = trees_in c.args.trees.now in
    subst (λ (u : Tree). Turns m (trees_in c.called.new.trees) s top u c.called.result) (sym (waiting.call_last m s top c.args.call t h c.in-None.ensures)) (c.called.ensures.walks h.done h.parts)

pub returns-in_ok-scope-in-Some-clause-counts : goal.returns-in_ok-scope-in-Some-clause-counts
returns-in_ok-scope-in-Some-clause-counts c =
    reckoned.call_next c.args.source.now.sexps.now c.args.source.now.top.now c.args.call c.in-Some.after c.in_ok-scope-in-Some.scope c.in-Some.ensures.0 c.in_ok-scope-in-Some.ensures

pub returns-in-None-clause-counts : goal.returns-in-None-clause-counts
returns-in-None-clause-counts c =
    let s = c.args.source.now.sexps.now in
    let top = c.args.source.now.top.now in
    reckoned.goes_same s top _ _ c.called.result (reckoned.call_last s top c.args.call c.in-None.ensures) c.called.ensures.counts
