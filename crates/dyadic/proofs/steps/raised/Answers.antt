use Rattle.std.proofs.Common.{◌-◌, ◌^◌, ◌∙◌, ◌*ℤ◌, pos, arith, ap}
use Rattle.std.specs.Int.{w64}
use Rattle.std.proofs.lemmas.Int.{to_z-of_z}
use Rattle.dyadic.proofs.Mantissas.{moved_back}
use Rattle.dyadic.proofs.Sums.{word}
use Rattle.dyadic.proofs.steps.raised.Goals as goal

pub returns-clause-same : goal.returns-clause-same
returns-clause-same c =
    let up = c.spare_bits-up.result in
    let h = c.requires in
    let e = word c.args.count (omega (arith, h)) in
    ap (λ z. z *ℤ pos (2 ^ (c.args.shift - up))) (to_z-of_z w64 c.moved_up.result (record { sfits = c.moved_up.type_inv }) ∙ c.moved_up.ensures ∙ ap (λ z. z *ℤ pos (2 ^ up)) e)
    ∙ moved_back c.args.count c.args.shift up c.spare_bits-up.ensures.within
