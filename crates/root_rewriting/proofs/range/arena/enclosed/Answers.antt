use Rattle.std.proofs.Common.{◌∙◌, ap, arith, length, map, sym, subst}
use Rattle.std.proofs.lemmas.List.{length-append}
use Rattle.ival.specs.Views.{interval_of}
use Rattle.root_rewriting.specs.Nodes.{IsBelow, trees_in}
use Rattle.root_rewriting.proofs.Arena.{nodes_length}
use Rattle.script_roots.specs.Ranges.{enclosed}
use Rattle.root_rewriting.specs.Enclosures.{node_range}
use Rattle.root_rewriting.proofs.Enclosed.{range_done}
use Rattle.root_rewriting.proofs.RangeLists.{all_done}
use Rattle.root_rewriting.proofs.range.arena.enclosed.Goals as goal

pub enclosure-requires : goal.enclosure-requires
enclosure-requires c = subst (λ n. IsBelow n c.look.result.now) (sym (ap length c.as_slice.ensures.value ∙ c.loop-k.invariant.0)) c.look.ensures.1

pub loop-k-preserved : goal.loop-k-preserved
loop-k-preserved c = let ts = trees_in c.args.trees.now in (
  ap length c.in_ok-push.ensures.items ∙ length-append c.loop-k.done.items _ ∙ omega (arith, c.loop-k.invariant.0),
  λ R knows. ap (map interval_of) c.in_ok-push.ensures.items ∙ range_done R ts c.loop-k.done.items c.loop-k.k c.look.result.now c.in_ok-range.range c.look.ensures (c.loop-k.invariant.1 R knows)
      (c.in_ok-range.ensures R knows ∙ ap (λ is. node_range R (map interval_of is) c.look.result.now) c.as_slice.ensures.value),
)

pub returns : goal.returns
returns c = λ R knows. all_done (enclosed R) (trees_in c.args.trees.now) _ c.loop-k.k c.len-k-end.result (c.loop-k.invariant.1 R knows) (c.len-k-end.ensures ∙ sym (nodes_length c.args.trees.now)) (omega (arith, c.loop-k-test.false))
