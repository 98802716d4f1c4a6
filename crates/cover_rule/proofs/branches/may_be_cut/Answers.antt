use Rattle.std.proofs.Common.{◌∙◌, sym}
use Rattle.cover_data.specs.Margins.{loosenings_of}
use Rattle.cover_rule.proofs.Cuts.{not_where_small, always_in_5, widest_before_5}
use Rattle.cover_rule.proofs.branches.may_be_cut.Goals as goal

pub returns-then-has_small_side : goal.returns-then-has_small_side
returns-then-has_small_side c = not_where_small c.args.margins.now.least_bits (loosenings_of c.args.margins.now) c.requires.range (sym c.has_small_side.ensures ∙ c.if-has_small_side.true)

pub returns-then-margins-ge5 : goal.returns-then-margins-ge5
returns-then-margins-ge5 c = always_in_5 c.args.margins.now.least_bits (loosenings_of c.args.margins.now) c.requires.range (sym c.has_small_side.ensures ∙ c.if-has_small_side.false) c.if-margins-ge5.true

pub returns : goal.returns
returns c = c.is_widest.ensures ∙ widest_before_5 c.args.margins.now.least_bits (loosenings_of c.args.margins.now) c.requires.range (sym c.has_small_side.ensures ∙ c.if-has_small_side.false) c.if-margins-ge5.false
