use Rattle.std.proofs.lemmas.Result.{on_ok_weaker}
use Rattle.ival.specs.SpaceViews.{space_of}
use Rattle.cert_text.proofs.SessionTexts.{point_part}
use Rattle.cert_text.proofs.session.append_part.Goals as goal

pub returns-in-Some : goal.returns-in-Some
returns-in-Some c = on_ok_weaker c.append_whole_point.result
    (λ e. point_part c.args.book.now c.in-Some.point.now (space_of c.space.result.now) c.args.text.now.items c.append_whole_point.new.text.items c.in-Some.ensures c.space.ensures e)
    c.append_whole_point.ensures
