use Rattle.std.proofs.Common.{List, length, ap}
use Rattle.std.proofs.lemmas.Result.{on_ok_weaker}
use Rattle.cover_model.specs.State.{State}
use Rattle.cert_text.proofs.SessionTexts.{cover_part}
use Rattle.cert_text.proofs.session.append_cover_part.Goals as goal

pub returns : goal.returns
returns c = on_ok_weaker c.append_body.result
    (λ e. cover_part c.args.book.now c.requires c.lemma_count.result (length c.kept.result.now) c.args.text.now.items c.append_counted.new.text.items c.append_counted-2.new.text.items c.append_body.new.text.items
    c.lemma_count.ensures.count (ap (λ (xs : List State). length xs) c.kept.ensures.kept) c.in_ok-append_counted.ensures c.in_ok-append_counted-2.ensures e)
    c.append_body.ensures
