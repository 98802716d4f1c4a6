use Rattle.std.proofs.Common.{◌≡◌, List, get_or, length, ap, ◌∙◌, arith}
use Rattle.std.proofs.lemmas.Result.{on_ok_weaker}
use Rattle.cover_data.specs.declared.step.Step.{Step}
use Rattle.cover_data.specs.Views.{step_line, end_line}
use Rattle.cert_read.specs.CertLine.{rule_line}
use Rattle.cert_text.proofs.Items.{item_appended, items_appended, kept_appended}
use Rattle.cert_text.proofs.parts.append_lines.Goals as goal

pub loop-step-preserved : goal.loop-step-preserved
loop-step-preserved c =
    let xs : List Step = c.args.lines.now.steps.items in let i = c.loop-step.step-index in let x = c.step-item.result in
    let same : c.deref-step-items.result.now ≡ xs = c.deref-step-items.ensures.value in
    let here : x ≡ get_or xs i x = c.step-item.is ∙ ap (λ (ys : List Step). get_or ys i x) same in
    item_appended (λ (s : Step). rule_line (step_line s)) xs c.args.text.now.items c.loop-step.text.items c.append_step.new.text.items i x
    (omega (arith, c.loop-step-test.true, ap length same)) here c.loop-step.invariant c.in_ok-append_step.ensures

pub returns : goal.returns
returns c =
    let xs : List Step = c.args.lines.now.steps.items in
    let same : c.deref-step-items.result.now ≡ xs = c.deref-step-items.ensures.value in
    on_ok_weaker c.append_end.result
    (λ e. kept_appended xs (end_line c.args.lines.now.end) c.args.text.now.items c.loop-step.text.items c.append_end.new.text.items
    (items_appended (λ (s : Step). rule_line (step_line s)) xs c.args.text.now.items c.loop-step.text.items c.loop-step.step-index (omega (arith, c.loop-step-test.false, ap length same)) c.loop-step.invariant) e)
    c.append_end.ensures
