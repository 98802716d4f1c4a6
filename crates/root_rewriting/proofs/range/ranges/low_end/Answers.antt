use Rattle.std.proofs.Common.{◌∙◌, ap, sym, pos}
use Rattle.dyadic.specs.Fraction.{negated, whole}
use Rattle.dyadic.specs.Rounding.{down}
use Rattle.script_model.specs.Declared.{default_low}
use Rattle.script_roots.specs.TreeBounds.{low_end}
use Rattle.root_rewriting.proofs.RangeRoundings.{down_negated}
use Rattle.root_rewriting.proofs.range.ranges.low_end.Goals as goal

pub returns-in-Some-clause-end : goal.returns-in-Some-clause-end
returns-in-Some-clause-end c = c.down_frac.ensures ∙ ap down (c.neg.ensures ∙ ap negated (c.whole.ensures ∙ ap (λ n. whole (pos n)) c.from.ensures)) ∙ down_negated c.in-Some.number ∙
    ap (λ b. low_end (default_low b)) (sym c.in-Some.is)
