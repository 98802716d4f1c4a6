use Rattle.std.proofs.Common.{refl, sym}
use Rattle.cover_rule.specs.Refusals.{ban_refusal, banned_by}
use Rattle.box_worker.proofs.Open.{still_open, among_more}
use Rattle.box_worker.proofs.step.ban.Goals as goal

pub returns : goal.returns
returns c =
    let P = c.args.patch.now in let lemmas = c.args.lemmas.now in let L = c.index-lemmas-place.result in let u = c.requires.open in
    still_open (ban_refusal P.kept c.args.j L) P (banned_by P c.args.j L) c.ban-answer.new.self c.ban-answer.result c.ban-answer.ensures P.problem P.margins lemmas P.kept.first
    (λ k. record { problem = k.problem; margins = k.margins; first = k.first; among = among_more lemmas P.kept.quoted L (c.args.place, c.requires.place, sym c.index-lemmas-place.is) k.among; open_end = k.open_end })
    (record { problem = refl; margins = refl; first = refl; among = u.among; open_end = u.open_end })
