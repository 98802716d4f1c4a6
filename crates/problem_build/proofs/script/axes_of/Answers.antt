use Rattle.std.proofs.Common.{ℕ, List, map, ap, ◌∙◌, subst}
use Rattle.script_model.specs.Script.{constants_of}
use Rattle.script_model.specs.Declared.{Bound}
use Rattle.smt_script.specs.Views.{command_of, commands_in}
use Rattle.declared_box.specs.Axes.{constant_of}
use Rattle.declared_box.specs.Calls.{AnswersBy}
use Rattle.problem_build.proofs.Finishing.{axes_answer}
use Rattle.problem_build.proofs.script.axes_of.Goals as goal

pub returns : goal.returns
returns c =
    let s = c.args.script.now.sexps.now in
    let constants = c.as_slice-3.result.now in
    axes_answer c.args.bound (commands_in c.args.script.now) c.args.maker.now.bounds (map (λ p. p.1) c.args.made.now) constants c.declare.result
    (ap (map constant_of) c.as_slice-3.ensures.value ∙ c.in_ok-constants.ensures s ∙ ap (λ xs. constants_of (map (command_of s) xs)) c.as_slice.ensures.value)
    (subst (λ (lists : List (List Bound)). AnswersBy lists (map (λ p. p.1) c.args.made.now) c.args.bound constants c.declare.result) c.table.ensures
    (subst (λ (ks : List ℕ). AnswersBy c.table.result.now ks c.args.bound constants c.declare.result) (c.as_slice-2.ensures.value ∙ c.in_ok-lists.ensures) c.declare.ensures.answers))
    c.declare.ensures.bounds c.declare.ensures.sorts
