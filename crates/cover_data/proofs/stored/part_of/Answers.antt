use Rattle.std.proofs.Common.{◌-◌, ◌∙◌, map, take, drop, ap, sym}
use Rattle.std.proofs.lemmas.List.{take-map, drop-map}
use Rattle.ival.specs.SpaceViews.{domain_of}
use Rattle.cover_data.proofs.stored.part_of.Goals as goal

pub returns : goal.returns
returns c =
    let from = c.args.from in let count = c.args.to - c.args.from in let axes = c.deref.result.now in
    ap (map domain_of) c.in_ok-axes.ensures.items ∙ sym (take-map domain_of count (drop from axes)) ∙ ap (take count) (sym (drop-map domain_of from axes)) ∙ ap (λ xs. take count (drop from (map domain_of xs))) c.deref.ensures.value
