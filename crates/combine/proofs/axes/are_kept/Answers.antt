use Rattle.std.proofs.Common.{◌≡◌, ◌+◌, ◌∷◌, drop, ap, subst, sym, ◌∙◌, true≢false}
use Rattle.std.proofs.lemmas.List.{drop_more}
use Rattle.interval_model.specs.Space.{axis_interval}
use Rattle.ival.specs.SpaceViews.{space_of}
use Rattle.ival.specs.Views.{interval_of}
use Rattle.ival.proofs.Equality.{same_interval}
use Rattle.combine.specs.declared.part.Part.{Part}
use Rattle.combine.specs.Parts.{AreKept}
use Rattle.combine.proofs.Keeping.{spelled_interval}
use Rattle.combine.proofs.axes.are_kept.Goals as goal

pub returns-then-not-is_same-clause-changed : goal.returns-then-not-is_same-clause-changed
returns-then-not-is_same-clause-changed c e kept =
    let ps = c.args.parts.now in let k = c.loop-part.part-index in let part = c.part-item.result in
    let next : drop k ps ≡ part ∷ drop (k + 1) ps = drop_more ps k part c.loop-part-test.true ∙ ap (λ (y : Part). y ∷ drop (k + 1) ps) (sym c.part-item.is) in
    let here = subst (AreKept (space_of c.args.space.now)) next (c.loop-part.invariant.on kept) in
    true≢false (sym (spelled_interval c.interval.result part.own (c.interval.ensures ∙ here.0)) ∙ sym c.eq-is_same.ensures ∙ c.if-not-is_same.true)

pub loop-part-preserved : goal.loop-part-preserved
loop-part-preserved c =
    let s = space_of c.args.space.now in let ps = c.args.parts.now in let k = c.loop-part.part-index in let part = c.part-item.result in
    let next : drop k ps ≡ part ∷ drop (k + 1) ps = drop_more ps k part c.loop-part-test.true ∙ ap (λ (y : Part). y ∷ drop (k + 1) ps) (sym c.part-item.is) in
    let here : axis_interval s part.axis ≡ interval_of part.own = sym c.interval.ensures ∙ same_interval c.interval.result part.own (sym c.eq-is_same.ensures ∙ c.if-not-is_same.false) in
    record {
      back = λ later. c.loop-part.invariant.back (subst (AreKept s) (sym next) (here, later));
      on = λ kept. (subst (AreKept s) next (c.loop-part.invariant.on kept)).1;
    }
