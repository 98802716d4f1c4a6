use Rattle.std.proofs.Common.{◌≡◌, ◌∙◌, ap, sym, set, get_or}
use Rattle.std.proofs.lemmas.List.{set-get_or}
use Rattle.interval_model.specs.Space.{Space}
use Rattle.cover_model.specs.State.{with_space}
use Rattle.ival.specs.SpaceViews.{domain_of}
use Rattle.cover_rule.proofs.narrowing.set_axis.Goals as goal

pub returns-then-is_same-clause-state : goal.returns-then-is_same-clause-state
returns-then-is_same-clause-state c =
    let S = c.args.state.now in let i = c.args.axis in let d = domain_of c.get.result in
    let e : set S.space i (domain_of c.args.domain) ≡ S.space =
    ap (set S.space i) (sym (c.is_same.ensures c.if-is_same.true) ∙ c.get.ensures ∙ ap (λ (s : Space). get_or s i d) c.space.ensures) ∙ set-get_or S.space i d in
    ap (with_space S) (sym e)
