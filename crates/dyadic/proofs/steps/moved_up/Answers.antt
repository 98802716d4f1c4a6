use Rattle.std.proofs.Common.{to_z, of_z, ◌^◌, ◌∙◌, ◌*ℤ◌, pos, sym, subst, ap}
use Rattle.std.specs.Int.{w64}
use Rattle.std.specs.Int.RustNames.{FitsSigned}
use Rattle.std.proofs.lemmas.Int.{to_z-of_z}
use Rattle.dyadic.proofs.Shifts.{moved_value, moved_fits}
use Rattle.dyadic.proofs.steps.moved_up.Goals as goal

pub overflow_mul-result : goal.overflow_mul-result
overflow_mul-result c =
    let m = c.args.count in
    subst (FitsSigned w64) (sym (moved_value m c.args.up (let h = c.ranges.count in h.sfits) c.requires.short)) (moved_fits m c.args.up c.requires.few)

pub returns : goal.returns
returns c =
    let m = c.args.count in
    ap (λ z. to_z w64 (of_z w64 z)) (moved_value m c.args.up (let h = c.ranges.count in h.sfits) c.requires.short)
    ∙ to_z-of_z w64 (m *ℤ pos (2 ^ c.args.up)) (moved_fits m c.args.up c.requires.few)
