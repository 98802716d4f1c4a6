use Rattle.std.proofs.lemmas.Result.{on_ok_weaker}
use Rattle.ival.specs.SpaceViews.{space_of}
use Rattle.cert_text.proofs.Wholes.{whole_point_appended}
use Rattle.cert_text.proofs.point.append_whole_point.Goals as goal

pub returns : goal.returns
returns c = on_ok_weaker c.append_plain-2.result
    (λ e. whole_point_appended (space_of c.args.space.now) _ _ _ _ c.in_ok-append_plain.ensures c.in_ok-append_point.ensures e)
    c.append_plain-2.ensures
