use Rattle.std.proofs.Common.{◌≡◌, ◌+◌, ◌∙◌, ℕ, get_or, length, take, ap, sym, subst, true≢false, arith}
use Rattle.std.specs.Arc.{arc_value}
use Rattle.interval_model.specs.Space.{Space as AxisDomains}
use Rattle.ival.specs.SpaceViews.{space_of}
use Rattle.cover_data.specs.Stored.{StandsAt}
use Rattle.cover_data.proofs.Pieces.{stands_next, stands_if, there_fits}
use Rattle.cover_data.proofs.stored.are_pieces.Goals as goal

pub returns-then-not-stands_at : goal.returns-then-not-stands_at
returns-then-not-stands_at c =
    let xs = c.args.pieces.now in let s : AxisDomains = space_of c.args.space.now in let i = c.loop-piece.piece-index in let x = c.piece-item.result in
    let piece : AxisDomains = space_of (arc_value (get_or xs i x)) in
    let e : space_of c.deref.result.now ≡ piece = ap space_of (c.deref.ensures ∙ ap arc_value c.piece-item.is) in (
      λ h. absurd (true≢false (sym h)),
      λ h. let there : StandsAt s c.loop-piece.from piece = stands_if arc_value xs s i c.loop-piece.from x c.loop-piece.invariant.same c.loop-piece-test.true c.loop-piece.invariant.within h in
          absurd (true≢false (sym (c.stands_at.ensures.1 (subst (StandsAt s c.loop-piece.from) (sym e) there)) ∙ c.if-not-stands_at.true)),
    )

pub loop-piece-preserved : goal.loop-piece-preserved
loop-piece-preserved c =
    let xs = c.args.pieces.now in let s : AxisDomains = space_of c.args.space.now in let i = c.loop-piece.piece-index in let x = c.piece-item.result in
    let from : ℕ = c.loop-piece.from in let piece : AxisDomains = space_of (arc_value (get_or xs i x)) in
    let e : space_of c.deref.result.now ≡ piece = ap space_of (c.deref.ensures ∙ ap arc_value c.piece-item.is) in
    let there : StandsAt s from piece = subst (StandsAt s from) e (c.stands_at.ensures.0 c.if-not-stands_at.false) in
    let count : c.len-from.result ≡ length piece = c.len-from.ensures ∙ ap (λ y. length (space_of y)) (c.deref-in-loop-piece.ensures ∙ ap arc_value c.piece-item.is) in
    record {
      same = stands_next arc_value xs s i from x c.loop-piece.invariant.same c.loop-piece-test.true there ∙ ap (λ n. take (from + n) s) (sym count);
      within = let h = there_fits s piece from c.loop-piece.invariant.within there in omega (arith, h, count);
    }
