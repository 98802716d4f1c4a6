use Rattle.std.proofs.Common.{map}
use Rattle.term_build.specs.Shapes.{sketch_of}
use Rattle.value_build.proofs.Operating.{crowd_ended, crowd_joined}
use Rattle.value_build.proofs.operate.many_distinct.Goals as goal

pub returns-in_err-connect_with : goal.returns-in_err-connect_with
returns-in_err-connect_with c = crowd_ended (map sketch_of c.args.sketch.now.items) (map sketch_of c.connect_with.new.sketch.items) c.args.first c.args.later.now c.new-links.result.items c.connect_with.new.made.items c.connect_with.result c.from_residual.result c.from_residual.ensures.0 c.new-links.ensures.items c.connect_with.ensures

pub returns : goal.returns
returns c = crowd_joined (map sketch_of c.args.sketch.now.items) (map sketch_of c.connect_with.new.sketch.items) (map sketch_of c.crowd.new.sketch.items) c.args.first c.args.later.now c.new-links.result.items c.connect_with.new.made.items c.deref.result.now c.in_ok-connect_with.field-0 c.crowd.result
    c.new-links.ensures.items c.deref.ensures.value c.requires c.in_ok-connect_with.ensures c.crowd.ensures
