use Rattle.std.proofs.Common.{◌≡◌, ◌*◌, ◌^◌, ◌%◌, arith}
use Rattle.std.proofs.Math.Nat.{mod-eq_of_lt}
use Rattle.dyadic.proofs.Division.{tight_short}
use Rattle.dyadic.proofs.quotient.short_bracket.Goals as goal
use Rattle.dyadic.proofs.quotient.short_bracket.Goals.{then-quotient-d, else-quotient-d}

pub returns-clause-tight : goal.returns-clause-tight
returns-clause-tight c =
    let up = c.bits_up-up.result in
    let whole : c.args.n * 2 ^ up % 2 ^ 128 ≡ c.args.n * 2 ^ up = mod-eq_of_lt (omega (arith, c.bits_up-up.ensures.room)) in
    elim c.if-quotient-d.branch [
      | then-quotient-d w ↦ tight_short c.args.n c.args.d up c.args.digits _ _ c.requires.positive c.bits_up-up.ensures.within whole c.bits_up-up.ensures.many
          (λ _. w.result-is) (λ less. absurd (omega arith))
      | else-quotient-d w ↦ tight_short c.args.n c.args.d up c.args.digits _ _ c.requires.positive c.bits_up-up.ensures.within whole c.bits_up-up.ensures.many
          (λ same. absurd (omega arith)) (λ _. w.result-is)
    ]
