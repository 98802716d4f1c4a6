use Rattle.std.proofs.Common.{ap, ◌∙◌, sym}
use Rattle.std.specs.Str.Parse.{digits_value_after}
use Rattle.ival.specs.Views.{around}
use Rattle.smt_sexp.proofs.Numbers.{digits_value_after-append}
use Rattle.root_rewriting.proofs.Powers.{literal_is}
use Rattle.root_rewriting.proofs.RangeRoundings.{literal_around}
use Rattle.root_rewriting.proofs.range.literal.literal_range.Goals as goal

pub returns : goal.returns
returns c = c.around.ensures ∙ ap around (c.new.ensures ∙ literal_is c.in_ok-number.number c.power_of_ten-below.result c.args.digits.now c.args.decimals.now
    (c.in_ok-number.ensures.value ∙ ap (λ w. digits_value_after 10 w c.args.decimals.now) c.in_ok-whole.ensures.value ∙ sym (digits_value_after-append 0 c.args.digits.now c.args.decimals.now))
    c.power_of_ten-below.ensures.value c.in_ok-number.ensures.narrow c.power_of_ten-below.ensures.few) ∙ literal_around c.args.digits.now c.args.decimals.now
