use Rattle.ival.specs.Views.{interval_of}
use Rattle.squares.specs.Views.{terms_of}
use Rattle.squares.proofs.Deciding.{not_above, then_above}
use Rattle.squares.proofs.positive.is_above_allowed.Goals as goal

pub returns-then-not-take_range : goal.returns-then-not-take_range
returns-then-not-take_range c = not_above c.args.combination.now (terms_of c.args.rest.now) c.args.space.now c.args.centre.now c.args.budget.now _ c.len.ensures c.if-not-take_range.ensures

pub returns : goal.returns
returns c = then_above c.args.combination.now (terms_of c.args.rest.now) c.args.space.now c.args.centre.now c.args.budget.now _ _ c.len.ensures c.if-not-take_range.ensures
    (interval_of c.polynomial_range.result) (interval_of c.sum_of_ranges-allowed.result) c.is_above.result c.polynomial_range.ensures c.sum_of_ranges-allowed.ensures c.is_above.ensures
