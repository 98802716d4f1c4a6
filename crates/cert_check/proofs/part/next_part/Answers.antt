use Rattle.std.proofs.Common.{arith}
use Rattle.cert_check.proofs.PartEnds.{last_part, next_comes, next_goes_on}
use Rattle.cert_check.proofs.part.next_part.Goals as goal

pub to_keep-requires-clause-goes_on : goal.to_keep-requires-clause-goes_on
to_keep-requires-clause-goes_on c e =
    next_goes_on c.args.s c.args.part.now c.args.session c.requires.session c.in_ok-problem.problem c.extends-extends.result c.requires.part.place c.in_ok-problem.ensures c.extends-extends.ensures e

pub returns-then-number-checks-clause-comes : goal.returns-then-number-checks-clause-comes
returns-then-number-checks-clause-comes c =
    last_part c.args.s c.args.part.now c.args.session c.requires.session c.args.lemmas (omega (arith, c.if-number-checks.true, c.len-checks.ensures))

pub returns-clause-comes : goal.returns-clause-comes
returns-clause-comes c =
    next_comes c.args.s c.args.part.now c.args.session c.requires.session c.args.lemmas c.in_ok-problem.problem c.replace.new.dest c.extends-extends.result c.replace-2.new.dest
    c.in_ok-kept.kept c.replace-3.new.dest c.in_ok-problem.ensures c.extends-extends.ensures c.in_ok-kept.ensures.states c.replace.ensures.after c.replace-3.ensures.after
