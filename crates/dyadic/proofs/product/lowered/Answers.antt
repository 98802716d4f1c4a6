use Rattle.std.proofs.Common.{◌^◌, ◌∙◌, to_z, of_z, ap}
use Rattle.std.specs.Int.{w64}
use Rattle.std.specs.Int.Signed.{shr_z}
use Rattle.std.proofs.lemmas.Nat.{pow_pos}
use Rattle.dyadic.proofs.Shifts.{shifted_wide, shr_room}
use Rattle.dyadic.proofs.Sums.{word}
use Rattle.dyadic.proofs.product.lowered.Goals as goal

pub returns-clause-value : goal.returns-clause-value
returns-clause-value c =
    let m = c.args.product in
    let k = 2 ^ c.args.by in
    ap (λ z. to_z w64 (of_z w64 z)) (shifted_wide m k c.ranges.product)
    ∙ word (shr_z m k) (shr_room m k (2 ^ 63) (pow_pos c.args.by) c.requires.few)
