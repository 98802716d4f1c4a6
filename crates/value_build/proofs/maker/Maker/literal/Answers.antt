use Rattle.std.proofs.Common.{length, arith}
use native.Mathlib.Nat.{one-le-pow}
use Rattle.dyadic.specs.Views.{fraction_of_frac}
use Rattle.script_model.specs.Reading.{literal_value}
use Rattle.value_build.proofs.Leaf.{literal_made}
use Rattle.value_build.proofs.maker.Maker.literal.Goals as goal

pub returns-clause-does : goal.returns-clause-does
returns-clause-does c = literal_made c.args.self.now c.number.new.maker (literal_value c.args.digits.now c.args.decimals.now) (fraction_of_frac c.in-Some.q) c.number.result c.in-Some.ensures
    (one-le-pow (length c.args.decimals.now) 10 (omega arith)) c.number.ensures.does
