use Rattle.std.proofs.Common.{length, ap, sym, ◌∙◌}
use Rattle.interval_model.specs.Space.{space_within}
use Rattle.ival.specs.SpaceViews.{space_of}
use Rattle.cert_check.proofs.Carried.{none_left}
use Rattle.cert_check.proofs.lemmas.within.Goals as goal

pub returns-then-len : goal.returns-then-len
returns-then-len c =
    let space = space_of c.args.space.now in let outer = space_of c.args.outer.now in
    c.within.ensures ∙ ap (space_within space) (none_left space outer (space_of c.args.beyond.now) c.requires (sym c.len.ensures ∙ c.if-len.true ∙ c.len-2.ensures))

pub within-requires-2 : goal.within-requires-2
within-requires-2 c = c.requires ∙ ap length (sym c.in_ok-whole.ensures)

pub returns : goal.returns
returns c = c.within-2.ensures ∙ ap (space_within (space_of c.args.space.now)) c.in_ok-whole.ensures
