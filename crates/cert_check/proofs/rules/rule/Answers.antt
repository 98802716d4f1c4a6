use Rattle.std.proofs.Common.{◌≡◌, sym, ap, ◌∙◌, subst, IfOk}
use Rattle.cover_line.specs.declared.rule.Branching.TheVariants as branching
use Rattle.cover_line.specs.declared.rule.Rule.{Rule}
use Rattle.cover_line.specs.declared.rule.Rule.TheVariants as line
use Rattle.cover_line.specs.Views.{line_of as rule_of}
use Rattle.cert_check.specs.States.{loosenings_of}
use Rattle.cert_check.specs.Steps.{IsLeftBy}
use Rattle.cert_check.proofs.Results.{if_ok}
use Rattle.cert_check.proofs.rules.rule.Goals as goal

pub returns-in-Branch-Cut-clause-rule : goal.returns-in-Branch-Cut-clause-rule
returns-in-Branch-Cut-clause-rule c =
    let of : c.in-Branch-Cut.field-0 ≡ branching.Cut c.in-Branch-Cut.axis c.in-Branch-Cut.place = rw c.in-Branch-Cut.is at c.in-Branch-Cut.field-0-is in
    let e : c.args.step.now ≡ line.Branch (branching.Cut c.in-Branch-Cut.axis c.in-Branch-Cut.place) = c.in-Branch-Cut.is ∙ ap line.Branch of in
    subst (λ (x : Rule). IfOk c.cut.result (IsLeftBy (rule_of x) c.args.problem.now (loosenings_of c.args.s) c.args.lemmas.now c.args.state)) (sym e)
    (if_ok c.cut.result (λ o h. h c.args.problem.now (loosenings_of c.args.s)) c.cut.ensures)

pub returns-in-Branch-Flip-clause-rule : goal.returns-in-Branch-Flip-clause-rule
returns-in-Branch-Flip-clause-rule c =
    let of : c.in-Branch-Flip.field-0 ≡ branching.Flip c.in-Branch-Flip.axis = rw c.in-Branch-Flip.is at c.in-Branch-Flip.field-0-is in
    let e : c.args.step.now ≡ line.Branch (branching.Flip c.in-Branch-Flip.axis) = c.in-Branch-Flip.is ∙ ap line.Branch of in
    subst (λ (x : Rule). IfOk c.flip.result (IsLeftBy (rule_of x) c.args.problem.now (loosenings_of c.args.s) c.args.lemmas.now c.args.state)) (sym e)
    (if_ok c.flip.result (λ o h. h c.args.problem.now (loosenings_of c.args.s)) c.flip.ensures)

pub returns-in-Branch-Case-clause-rule : goal.returns-in-Branch-Case-clause-rule
returns-in-Branch-Case-clause-rule c =
    let of : c.in-Branch-Case.field-0 ≡ branching.Case c.in-Branch-Case.j = rw c.in-Branch-Case.is at c.in-Branch-Case.field-0-is in
    let e : c.args.step.now ≡ line.Branch (branching.Case c.in-Branch-Case.j) = c.in-Branch-Case.is ∙ ap line.Branch of in
    subst (λ (x : Rule). IfOk c.case.result (IsLeftBy (rule_of x) c.args.problem.now (loosenings_of c.args.s) c.args.lemmas.now c.args.state)) (sym e)
    (if_ok c.case.result (λ o h. h c.args.problem.now (loosenings_of c.args.s)) c.case.ensures)
