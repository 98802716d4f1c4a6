use Rattle.std.proofs.Common.{ap, ap₂, ◌++◌, ◌∙◌, sym, arith}
use Rattle.root_rewriting.proofs.Decimals.{five_more}
use Rattle.root_rewriting.proofs.digits.long_digits.Goals as goal

pub returns : goal.returns
returns c =
    c.in_ok-extend_from_slice.ensures.items ∙ ap₂ (λ xs ys. xs ++ ys) c.in_ok-digits.ensures c.last_five.ensures ∙
    sym (five_more c.args.high c.args.low c.requires.some c.requires.low (omega (arith, c.ranges.high.fits, c.requires.low)))
