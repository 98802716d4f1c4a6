use Rattle.std.proofs.Common.{map}
use Rattle.term_build.specs.Shapes.{sketch_of}
use Rattle.term_build.proofs.Pairs.{four_first, four_second, four_last}
use Rattle.term_build.proofs.connectives.four.Goals as goal

pub returns-in_err-first : goal.returns-in_err-first
returns-in_err-first c = four_first (map sketch_of c.args.sketch.now.items) (map sketch_of c.both.new.sketch.items) c.args.a.0 c.args.a.1 c.args.b.0 c.args.b.1 c.in_err-first.field-0.0 c.from_residual.result c.from_residual.ensures.0 c.in_err-first.ensures

pub returns-in_err-second : goal.returns-in_err-second
returns-in_err-second c = four_second (map sketch_of c.args.sketch.now.items) (map sketch_of c.both.new.sketch.items) (map sketch_of c.both-2.new.sketch.items) c.args.a.0 c.args.a.1 c.args.b.0 c.args.b.1 c.in_ok-first.first c.in_err-second.field-0.0 c.from_residual-in_err-second.result c.from_residual-in_err-second.ensures.0
    c.in_ok-first.ensures c.in_err-second.ensures

pub returns : goal.returns
returns c = four_last (map sketch_of c.args.sketch.now.items) (map sketch_of c.both.new.sketch.items) (map sketch_of c.both-2.new.sketch.items) (map sketch_of c.either.new.sketch.items) c.args.a.0 c.args.a.1 c.args.b.0 c.args.b.1 c.in_ok-first.first c.in_ok-second.second c.either.result c.in_ok-first.ensures c.in_ok-second.ensures c.either.ensures
