use Rattle.std.proofs.Common.{◌<◌, length, map, sym, subst, arith}
use Rattle.std.proofs.lemmas.List.{length-map}
use Rattle.poly_graph.specs.ProblemViews.{axis_of}
use Rattle.declared_box.specs.Table.{all_of}
use Rattle.declared_box.specs.Views.{interval_of}
use Rattle.declared_box.specs.Axes.{constant_of, IsAxesAnswer}
use Rattle.declared_box.proofs.Boxes.{found_box, next_interval, push_axis, refused, answered, handed_on}
use Rattle.declared_box.proofs.axes.declare.Goals as goal

pub returns-in_err-axis-clause-answers : goal.returns-in_err-axis-clause-answers
returns-in_err-axis-clause-answers c = λ bs h. let t = c.in_ok-intervals.ensures in let found = all_of c.args.table.now c.args.roots.now in let is = c.in_ok-intervals.intervals.items in
    let inside : c.loop-k.k < length is = omega (arith, length-map is interval_of, c.in_ok-intervals.ensures.0, c.loop-k-test.true) in
    subst (IsAxesAnswer c.args.bound bs (map constant_of c.args.constants.now)) (sym (handed_on c.from_residual-in_err-axis.result c.in_err-axis.field-0.0 c.from_residual-in_err-axis.ensures))
    (refused c.args.bound found bs c.args.constants.now is c.loop-k.k (map axis_of c.loop-k.axes.items) c.index-constants-k.result (interval_of c.ended.result) c.in_err-axis.field-0.0 h t c.loop-k.invariant c.loop-k-test.true c.index-constants-k.is
    (next_interval c.args.bound is c.loop-k.k c.index.result.now c.ended.result inside c.index.ensures c.ended.ensures) c.in_err-axis.ensures)

pub loop-k-preserved : goal.loop-k-preserved
loop-k-preserved c = let is = c.in_ok-intervals.intervals.items in let inside : c.loop-k.k < length is = omega (arith, length-map is interval_of, c.in_ok-intervals.ensures.0, c.loop-k-test.true) in
    push_axis (found_box c.args.bound is) c.args.constants.now c.loop-k.k c.loop-k.axes.items c.push.new.self.items c.index-constants-k.result c.in_ok-axis.field-0 (interval_of c.ended.result) c.loop-k.invariant c.loop-k-test.true c.index-constants-k.is
    (next_interval c.args.bound is c.loop-k.k c.index.result.now c.ended.result inside c.index.ensures c.ended.ensures) c.in_ok-axis.ensures c.in_ok-push.ensures.items

pub returns-clause-answers : goal.returns-clause-answers
returns-clause-answers c = λ bs h. answered c.args.bound (all_of c.args.table.now c.args.roots.now) bs c.args.constants.now c.in_ok-intervals.intervals.items c.loop-k.k (map axis_of c.loop-k.axes.items) h c.in_ok-intervals.ensures c.loop-k-test.false c.loop-k.invariant
