use Rattle.std.proofs.Common.{◌∙◌, below_more, subst, sym}
use Rattle.root_rewriting.specs.Nodes.{trees_in}
use Rattle.root_rewriting.specs.Plain.{IsPlain}
use Rattle.root_rewriting.proofs.Alike.{shown}
use Rattle.root_rewriting.proofs.Rootless.{plain_node}
use Rattle.root_rewriting.proofs.plain.holds_fresh.Goals as goal

pub loop-k-preserved : goal.loop-k-preserved
loop-k-preserved c =
    let ts = trees_in c.args.trees.now in
    let k = c.loop-k.k in
    below_more _ _ c.loop-k.invariant
    (subst IsPlain (sym (shown ts k c.look.result.now c.look.ensures)) (plain_node ts k c.look.result.now (sym c.is_fresh.ensures ∙ c.if-is_fresh.false) c.look.ensures.1 c.loop-k.invariant))
