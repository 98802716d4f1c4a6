use Rattle.std.proofs.Common.{◌++◌, true, false, arith, ap, sym, ◌∙◌, append-nil, Vec}
use Rattle.std.specs.Global.{Global}
use Rattle.root_rewriting.specs.declared.range.end_bound.EndBound.{EndBound}
use Rattle.root_rewriting.specs.Nodes.{trees_in}
use Rattle.root_rewriting.proofs.Arena.{nodes_length, tree_got}
use Rattle.root_rewriting.specs.Ends.{ends_of_all}
use Rattle.root_rewriting.specs.Sweep.{tree_ends}
use Rattle.root_rewriting.proofs.Marks.{marked_more}
use Rattle.root_rewriting.proofs.Shaped.{own_are}
use Rattle.root_rewriting.proofs.range.sweep.marked_ends.Goals.{then-marks-k+in_ok-push_node, else-marks-k}
use Rattle.root_rewriting.proofs.range.sweep.marked_ends.Goals as goal

pub loop-k-preserved : goal.loop-k-preserved
loop-k-preserved c = λ A shapes. let ts = trees_in c.args.trees.now in let k = c.loop-k.k in let es = ends_of_all c.loop-k.ends.items in
    elim c.if-marks-k.branch [
      | then-marks-k+in_ok-push_node w ↦ marked_more A c.args.marks.now ts k _ true es (ends_of_all c.if-marks-k.ends.items) (omega arith)
          (omega (arith, c.loop-k-test.true, c.len-k-end.ensures, c.requires.marks)) (omega (arith, c.loop-k-test.true, c.len-k-end.ensures, nodes_length c.args.trees.now)) w.if-marks-k.true (c.loop-k.invariant A shapes)
          (ap (λ (v : Vec EndBound Global). ends_of_all v.items) w.ends-is ∙ w.in_ok-push_node.ensures ∙ ap (λ xs. es ++ xs) (own_are A ts c.args.shapes.now w.look.result.now shapes ∙ ap (tree_ends A) (sym (tree_got ts k _ w.look.ensures.0))))
      | else-marks-k w ↦ marked_more A c.args.marks.now ts k _ false es (ends_of_all c.if-marks-k.ends.items) (omega arith)
          (omega (arith, c.loop-k-test.true, c.len-k-end.ensures, c.requires.marks)) (omega (arith, c.loop-k-test.true, c.len-k-end.ensures, nodes_length c.args.trees.now)) w.if-marks-k.false (c.loop-k.invariant A shapes)
          (ap (λ (v : Vec EndBound Global). ends_of_all v.items) w.ends-is ∙ sym (append-nil es))
    ]
