use Rattle.std.proofs.Common.{Option, ap, sym, ◌∙◌, subst}
use Rattle.cover_model.specs.Rules.{Left}
use Rattle.cover_line.specs.Views.{line_of as rule_of}
use Rattle.cert_check.specs.declared.left.Left as code
use Rattle.cert_check.specs.States.{state_of, loosenings_of}
use Rattle.cert_check.specs.Steps.{lefts}
use Rattle.cert_check.specs.Waiting.{FitsLeft}
use Rattle.cert_check.proofs.RuleFits.{rule_fits}
use Rattle.cert_check.proofs.tree.main_rule.Goals as goal

pub returns-in-Some-clause-sound : goal.returns-in-Some-clause-sound
returns-in-Some-clause-sound c =
    let p = c.args.problem.now in
    let same = sym (ap (λ (o : Option code.Left). lefts o) c.in-Some.is) ∙ c.in_ok-rule.ensures.rule in
    let fits = subst (λ (o : Option Left). FitsLeft p o) (sym same)
    (rule_fits p (loosenings_of c.args.cover.loosenings) c.args.cover.lemmas (state_of c.args.tree.state) (rule_of c.args.step.now) c.requires.sound.1.state) in
    c.main_left.ensures.sound p c.requires.sound.0 c.requires.sound.1.pending fits
