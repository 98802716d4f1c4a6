use Rattle.root_rewriting.specs.Shapes.{shape_of}
use Rattle.root_rewriting.proofs.Counted.{axis_more}
use Rattle.root_rewriting.proofs.RangeNames.{knows_none}
use Rattle.root_rewriting.proofs.range.constants.axes.Goals as goal

pub loop-axis-init : goal.loop-axis-init
loop-axis-init c = knows_none shape_of c.new-axes.result c.new-axes.ensures.empty

pub loop-axis-preserved : goal.loop-axis-preserved
loop-axis-preserved c = axis_more c.args.constants.now c.loop-axis.axis c.index-constants-axis.result c.loop-axis-test.true c.index-constants-axis.is
    c.loop-axis.axes c.insert.new.self c.as_slice.result.now c.constant_shape.result c.loop-axis.invariant c.as_slice.ensures c.in_ok-insert.ensures.updates c.constant_shape.ensures
