use Rattle.std.proofs.Common.{◌∙◌, ap, sym, pos}
use Rattle.dyadic.specs.Fraction.{whole}
use Rattle.declared_box.specs.Interval.{ended}
use Rattle.declared_box.specs.Views.{interval_of}
use Rattle.declared_box.proofs.Ends.{ended_some, two_ends}
use Rattle.declared_box.proofs.interval.Interval.ended.Goals as goal

pub returns : goal.returns
returns c = two_ends _ _ _ _ c.unwrap_or.ensures c.unwrap_or-2.ensures
    ∙ ended_some c.args.self.low c.args.self.high c.in-Some.bound c.neg.result c.whole-high.result c.neg.ensures (c.whole-high.ensures ∙ ap (λ n. whole (pos n)) c.from.ensures)
    ∙ ap (λ b. ended b (interval_of c.args.self)) (sym c.in-Some.is)
