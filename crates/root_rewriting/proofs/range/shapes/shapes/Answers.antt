use Rattle.std.proofs.Common.{◌∙◌, ap, arith, length, map, sym, subst}
use Rattle.std.proofs.lemmas.List.{length-append}
use Rattle.root_rewriting.specs.Nodes.{IsBelow, trees_in}
use Rattle.root_rewriting.proofs.Arena.{nodes_length}
use Rattle.script_roots.specs.TreeBounds.{tree_in}
use Rattle.root_rewriting.specs.Shapes.{node_in, shape_of, without_ends}
use Rattle.root_rewriting.proofs.RangeLists.{all_done}
use Rattle.root_rewriting.proofs.Shaped.{shape_done}
use Rattle.root_rewriting.proofs.range.shapes.shapes.Goals as goal

pub node_shape-requires : goal.node_shape-requires
node_shape-requires c = subst (λ n. IsBelow n c.look.result.now) (sym (ap length c.as_slice.ensures.value ∙ c.loop-k.invariant.0)) c.look.ensures.1

pub loop-k-preserved : goal.loop-k-preserved
loop-k-preserved c = let ts = trees_in c.args.trees.now in (
  ap length c.in_ok-push.ensures.items ∙ length-append c.loop-k.done.items _ ∙ omega (arith, c.loop-k.invariant.0),
  λ A knows. ap (map shape_of) c.in_ok-push.ensures.items ∙ shape_done A ts c.loop-k.done.items c.loop-k.k c.look.result.now c.in_ok-next.next c.look.ensures (c.loop-k.invariant.1 A knows)
      (c.in_ok-next.ensures A knows ∙ ap (λ ss. without_ends (node_in A (map shape_of ss) c.look.result.now)) c.as_slice.ensures.value),
)

pub returns : goal.returns
returns c = λ A knows. all_done (λ t. without_ends (tree_in A t)) (trees_in c.args.trees.now) _ c.loop-k.k c.len-k-end.result (c.loop-k.invariant.1 A knows) (c.len-k-end.ensures ∙ sym (nodes_length c.args.trees.now)) (omega (arith, c.loop-k-test.false))
