use Rattle.std.proofs.Common.{◌∙◌, sym, true≢false}
use Rattle.ival.proofs.Equality.{same_number, spelled_so}
use Rattle.cover_data.proofs.stored.is_same_range.Goals as goal

pub returns-then-eq : goal.returns-then-eq
returns-then-eq c =
    let a = c.args.range in let b = c.args.other in (
      λ h. (same_number a.low b.low (sym c.eq.ensures ∙ c.if-eq.true), same_number a.high b.high (sym c.eq-then-eq.ensures ∙ h)),
      λ e. c.eq-then-eq.ensures ∙ spelled_so a.high b.high e.1,
    )

pub returns-else-eq : goal.returns-else-eq
returns-else-eq c = (
  λ h. absurd (true≢false (sym h ∙ c.if-eq.false)),
  λ e. c.eq.ensures ∙ spelled_so c.args.range.low c.args.other.low e.0,
)
