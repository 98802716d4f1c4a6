use Rattle.std.proofs.Common.{◌^◌, ◌/◌, ◌∙◌, cond, ap, sym}
use Rattle.dyadic.specs.Rounding.{ceiling}
use Rattle.dyadic.specs.Size.{units}
use Rattle.dyadic.specs.Views.{units_of}
use Rattle.root_rewriting.specs.Whole.{number_of}
use Rattle.root_rewriting.proofs.Roundings.{some_size, above_is}
use Rattle.root_rewriting.proofs.parts.parts_above.Goals as goal

pub returns-then-parts : goal.returns-then-parts
returns-then-parts c =
    above_is c.parts-parts.result.negative (units c.parts-parts.result.size) (number_of c.size_below-count.result) (units_of c.args.number) c.parts-parts.ensures (λ e. some_size c.parts-parts.result.size.odd c.parts-parts.result.size.shift (c.parts-parts.result.one_zero e))
    (c.size_below-count.ensures ∙ ap (λ b. cond b (units c.parts-parts.result.size / 2 ^ 100) (ceiling (units c.parts-parts.result.size) (2 ^ 100))) (sym c.if-parts.true))
