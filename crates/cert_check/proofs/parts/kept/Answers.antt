use Rattle.std.proofs.Common.{ap, take, ◌∙◌, arith}
use Rattle.cert_check.specs.States.{loosenings_of}
use Rattle.cert_check.proofs.PartLines.{keep_goes, kept_fit}
use Rattle.cert_check.proofs.parts.kept.Goals as goal

pub returns-clause-comes : goal.returns-clause-comes
returns-clause-comes c b =
    let t = c.args.part.now in let mid = c.take_lemmas-lemmas.new.self in
    keep_goes t mid (loosenings_of c.args.s) c.args.count c.args.keep b c.truncate.new.self (omega (arith, c.if-keep-count.false)) (omega (arith, c.if-keep-len.false, c.len.ensures)) c.take_lemmas-lemmas.ensures.same
    (c.truncate.ensures ∙ ap (take c.args.keep) c.take_lemmas-lemmas.ensures.lemmas)

pub returns-clause-sound : goal.returns-clause-sound
returns-clause-sound c =
    let t = c.args.part.now in let mid = c.take_lemmas-lemmas.new.self in
    kept_fit mid.problem t.problem c.args.keep t.may_keep c.truncate.new.self (c.truncate.ensures ∙ ap (take c.args.keep) c.take_lemmas-lemmas.ensures.lemmas) c.take_lemmas-lemmas.ensures.same.problem c.requires.sound
