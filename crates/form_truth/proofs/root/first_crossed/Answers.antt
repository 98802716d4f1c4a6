use Rattle.std.proofs.Common.{◌<◌, ◌∙◌, length, arith, sym}
use Rattle.form_truth.proofs.Roots.{crossed_here, crossed_later}
use Rattle.form_truth.proofs.root.first_crossed.Goals as goal

pub returns-then-is_crossed : goal.returns-then-is_crossed
returns-then-is_crossed c =
    let i = c.loop-axis.axis in let axes = c.args.axes.now in
    let inside : i < length axes = omega (arith, c.loop-axis-test.true) in
    sym (c.loop-axis.invariant ∙ crossed_here i i axes c.index-axes-axis.result inside (sym c.is_crossed.ensures ∙ c.if-is_crossed.true))

pub loop-axis-preserved : goal.loop-axis-preserved
loop-axis-preserved c =
    let i = c.loop-axis.axis in let axes = c.args.axes.now in
    let inside : i < length axes = omega (arith, c.loop-axis-test.true) in
    c.loop-axis.invariant ∙ crossed_later i i axes c.index-axes-axis.result inside (sym c.is_crossed.ensures ∙ c.if-is_crossed.false)
