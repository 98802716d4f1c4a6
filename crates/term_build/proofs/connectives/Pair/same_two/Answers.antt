use Rattle.std.proofs.Common.{map}
use Rattle.term_build.specs.Shapes.{sketch_of}
use Rattle.term_build.proofs.Pairs.{same_done, same_stopped}
use Rattle.term_build.proofs.connectives.Pair.same_two.Goals as goal

pub returns-in_err-apart : goal.returns-in_err-apart
returns-in_err-apart c = same_stopped (map sketch_of c.args.sketch.now.items) (map sketch_of c.exclusive_two.new.sketch.items) c.args.first c.args.second c.in_err-apart.field-0.0 c.from_residual.result c.from_residual.ensures.0 c.in_err-apart.ensures

pub returns : goal.returns
returns c = same_done (map sketch_of c.args.sketch.now.items) (map sketch_of c.exclusive_two.new.sketch.items) c.args.first c.args.second c.in_ok-apart.apart c.not.result c.not.ensures.value c.in_ok-apart.ensures
