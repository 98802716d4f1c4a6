use Rattle.dyadic.proofs.MarginTests.{low_from}
use Rattle.dyadic.proofs.margin.is_low.Goals as goal

pub returns : goal.returns
returns c =
    low_from c.args.f c.args.v c.args.bits c.requires.few c.has_minus.result c.above.result c.below.result c.is_under.result c.above.ensures c.below.ensures.same c.has_minus.ensures.sign c.is_under.ensures
