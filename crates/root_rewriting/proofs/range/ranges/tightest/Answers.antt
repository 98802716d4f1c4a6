use Rattle.std.proofs.Common.{List, take, sym, subst}
use Rattle.script_roots.specs.TreeBounds.{EndBound}
use Rattle.root_rewriting.specs.Bounds.{AreTightest}
use Rattle.root_rewriting.specs.Ends.{ends_of_all}
use Rattle.root_rewriting.proofs.Tightest.{ends_more}
use Rattle.root_rewriting.proofs.range.ranges.tightest.Goals as goal

pub loop-end-preserved : goal.loop-end-preserved
loop-end-preserved c = let es = c.args.ends.now in let i = c.loop-end.end-index in
    subst (λ (xs : List EndBound). AreTightest xs c.args.axes c.tighten.new.bounds.items) (sym (ends_more es i c.end-item.result c.loop-end-test.true c.end-item.is))
    (c.tighten.ensures (ends_of_all (take i es)) c.args.axes c.loop-end.invariant)
