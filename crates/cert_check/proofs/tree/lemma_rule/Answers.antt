use Rattle.std.proofs.Common.{◌≡◌, Bool, Option, Some, ap, sym, ◌∙◌, subst}
use Rattle.cover_line.specs.Words.{RuleWord, word_of}
use Rattle.cover_line.specs.Views.{line_of as rule_of}
use Rattle.cover_model.specs.Rules.{Left, rule}
use Rattle.poly_graph.specs.ProblemViews.{problem_of}
use Rattle.cert_model.specs.Due.{RuleFails, Next, after_lemma_rule, lemma_goes_on}
use Rattle.cert_model.specs.Accepted.{ruled_line}
use Rattle.cert_check.specs.declared.left.Left as code
use Rattle.cert_check.specs.States.{state_of, lemma_of, loosenings_of}
use Rattle.cert_check.specs.Steps.{left_of, lefts}
use Rattle.cert_check.specs.Behind.{pending_of}
use Rattle.cert_check.specs.Dues.{IsOutcome, after_rule_of_lemma}
use Rattle.cert_check.specs.Waiting.{FitsLeft}
use Rattle.cert_check.proofs.Carried.{all_like}
use Rattle.cert_check.proofs.RuleFits.{rule_fits}
use Rattle.cert_check.proofs.tree.lemma_rule.Goals as goal

pub lemma_left-requires : goal.lemma_left-requires
lemma_left-requires c = all_like c.args.problem.now (lemma_of c.args.lemma) c.args.cover.lemmas c.requires.sound.1 c.requires.sound.0

pub returns-in-Some-clause-comes : goal.returns-in-Some-clause-comes
returns-in-Some-clause-comes c bound =
    let p = c.args.problem.now in
    let P = problem_of p in
    let s = loosenings_of c.args.cover.loosenings in
    let lemmas = c.args.cover.lemmas in
    let S = state_of c.args.tree.state in
    let l = rule_of c.args.step.now in
    let pending = pending_of c.args.tree.pending in
    let k = lemma_goes_on s c.args.cover.count lemmas (lemma_of c.args.lemma) in
    let left : rule P s lemmas S l ≡ Some (left_of c.in-Some.left) =
    sym c.in_ok-rule.ensures.rule ∙ ap (λ (o : Option code.Left). lefts o) c.in-Some.is in
    subst (λ (x : Next). IsOutcome p c.lemma_left.result x)
    (sym (ap (λ (t : Bool). ruled_line t (after_lemma_rule (rule P s lemmas S l) (RuleFails (word_of l)) pending k)) c.requires.names ∙ ap (λ (o : Option Left). after_lemma_rule o (RuleFails (word_of l)) pending k) left))
    (subst (λ (v : RuleWord). IsOutcome p c.lemma_left.result (after_rule_of_lemma c.args.cover c.args.lemma c.args.tree.pending (left_of c.in-Some.left) (RuleFails v))) c.word-in-Some.ensures (c.lemma_left.ensures.comes p))

pub returns-in-Some-clause-sound : goal.returns-in-Some-clause-sound
returns-in-Some-clause-sound c =
    let p = c.args.problem.now in
    let same = sym (ap (λ (o : Option code.Left). lefts o) c.in-Some.is) ∙ c.in_ok-rule.ensures.rule in
    let fits = subst (λ (o : Option Left). FitsLeft p o) (sym same)
    (rule_fits p (loosenings_of c.args.cover.loosenings) c.args.cover.lemmas (state_of c.args.tree.state) (rule_of c.args.step.now) c.requires.sound.2.state) in
    c.lemma_left.ensures.sound p c.requires.sound.0 c.requires.sound.1 c.requires.sound.2.pending fits
