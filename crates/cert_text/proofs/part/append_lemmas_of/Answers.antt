use Rattle.std.proofs.Common.{List, length, ap}
use Rattle.std.proofs.lemmas.Result.{on_ok_weaker}
use Rattle.cover_model.specs.State.{State}
use Rattle.cert_text.proofs.Wholes.{lemmas_of_appended, lemmas_short}
use Rattle.cert_text.proofs.part.append_lemmas_of.Goals as goal

pub append_lemmas-requires-clause-short : goal.append_lemmas-requires-clause-short
append_lemmas-requires-clause-short c = lemmas_short c.args.book.now c.lemmas.ensures.book c.lemmas.result.now c.lemmas.ensures.lemmas

pub returns : goal.returns
returns c = on_ok_weaker c.append_lemmas.result
    (λ a. lemmas_of_appended c.args.book.now c.lemmas.result.now (length c.kept.result.now) c.args.text.now.items c.append_lemmas.new.text.items
    c.lemmas.ensures.lemmas (ap (λ (xs : List State). length xs) c.kept.ensures.kept) a)
    c.append_lemmas.ensures
