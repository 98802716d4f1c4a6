use Rattle.std.proofs.Common.{sym, ◌∙◌}
use Rattle.cert_check.specs.States.{state_of}
use Rattle.cert_check.proofs.OneMark.{ban_one}
use Rattle.cert_check.proofs.moves.ban.Goals as goal

pub returns : goal.returns
returns c s =
    ban_one c.args.lemmas.now (state_of c.args.state) c.args.j c.args.i c.set-2.new.self c.set.new.self
    (sym c.undecided.ensures ∙ c.if-not-undecided.false) c.set.ensures (sym c.if-not-branch.false ∙ c.in_ok-lemma_covers.ensures) c.set-2.ensures
