use Rattle.std.proofs.Common.{◌-◌, ◌^◌, arith}
use Rattle.std.proofs.lemmas.Bool.{le-leb, leb-true}
use Rattle.dyadic.specs.Size.{units}
use Rattle.dyadic.proofs.Margins.{under_by, fine_margin, fine_above, fine_below, fine_size, always, both, le_result, ge_result}
use Rattle.dyadic.proofs.margin.is_under_fine.Goals as goal

pub returns-then-size-margin : goal.returns-then-size-margin
returns-then-size-margin c =
    let v = units c.args.v in
    let s = c.in_steps-steps.result in
    under_by _ _ _ _ c.args.n c.args.d v (2 ^ (120 - c.args.bits)) _ c.in-true-true.is-0 c.in-true-true.is-1
    (always _ (le-leb s.size s.margin c.if-size-margin.true) (fine_below c.args.n c.args.d v (2 ^ (120 - c.args.bits)) s.size s.margin s.shift c.in_steps-steps.ensures c.if-size-margin.true))

pub returns-else-size-margin : goal.returns-else-size-margin
returns-else-size-margin c =
    let v = units c.args.v in
    let s = c.in_steps-steps.result in
    under_by _ _ _ _ c.args.n c.args.d v (2 ^ (120 - c.args.bits)) _ c.in-true-true.is-0 c.in-true-true.is-1
    (both (ge_result _ _ _ _ c.is_ge.ensures c.cmp_steps.ensures) (fine_size c.args.n c.args.d v (2 ^ (120 - c.args.bits)) s.size s.margin s.shift c.in_steps-steps.ensures (let l = c.if-size-margin.false in omega (arith, l))))

pub returns-then-size-margin-2 : goal.returns-then-size-margin-2
returns-then-size-margin-2 c =
    let v = units c.args.v in
    let s = c.in_steps-steps.result in
    under_by _ _ _ _ c.args.n c.args.d v (2 ^ (120 - c.args.bits)) _ c.in-false-true.is-0 c.in-false-true.is-1
    (both (le_result _ _ _ _ c.is_le.ensures c.cmp_steps-then-size-margin-2.ensures) (fine_margin c.args.n c.args.d v (2 ^ (120 - c.args.bits)) s.size s.margin s.shift c.in_steps-steps.ensures c.if-size-margin-2.true))

pub returns-else-size-margin-2 : goal.returns-else-size-margin-2
returns-else-size-margin-2 c =
    let v = units c.args.v in
    let s = c.in_steps-steps.result in
    let less = c.if-size-margin-2.false in
    under_by _ _ _ _ c.args.n c.args.d v (2 ^ (120 - c.args.bits)) _ c.in-false-true.is-0 c.in-false-true.is-1 (
      λ h. absurd (let k = leb-true s.size s.margin h in omega (arith, less, k)),
      λ k. absurd (fine_above c.args.n c.args.d v (2 ^ (120 - c.args.bits)) s.size s.margin s.shift c.in_steps-steps.ensures c.requires.positive less k),
    )
