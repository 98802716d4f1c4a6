use Rattle.std.proofs.Common.{◌≡◌, ◌+◌, ◌*◌, ◌≤◌, ◌++◌, ◌∙◌, length, min, take, ap, ap₂, arith}
use Rattle.std.specs.Arc.{arc_value}
use Rattle.interval_model.specs.Space.{Space as AxisDomains}
use Rattle.ival.specs.SpaceViews.{space_of}
use Rattle.cover_data.proofs.Pieces.{joined_more, next_axes}
use Rattle.cover_data.proofs.stored.pieces_of.Goals as goal

pub loop-k-preserved : goal.loop-k-preserved
loop-k-preserved c =
    let k = c.loop-k.k in let to = c.min-to.result in let space : AxisDomains = space_of c.args.space.now in
    let e : to ≡ min (k * 16 + 16) (length space) = omega (arith, c.min-to.ensures, c.len-in-loop-k.ensures) in
    let h : k * 16 ≤ to = omega (arith, e, c.loop-k-test.true, c.div_ceil-count.ensures, c.len.ensures) in
    let next : k * 16 + 16 ≡ (k + 1) * 16 = omega arith in
    joined_more arc_value c.loop-k.pieces.items c.push.new.self.items c.in_ok-shared.field-0 c.in_ok-push.ensures.items
    ∙ ap₂ (λ xs ys. xs ++ ys) c.loop-k.invariant (c.in_ok-shared.ensures ∙ c.in_ok-part.ensures) ∙ next_axes space (k * 16) 16 to e h ∙ ap (λ n. take n space) next
