use Rattle.std.proofs.Common.{◌∙◌, List, ap}
use Rattle.poly_graph.specs.Marks.{Mark, marked_no, unmarked}
use Rattle.cover_model.specs.State.{State, with_mark, state_of}
use Rattle.cover_rule.proofs.RunSteps.{mark_taken_back}
use Rattle.cover_rule.proofs.steps.may_without.Goals as goal

pub returns-clause-state : goal.returns-clause-state
returns-clause-state c =
    let S = c.args.state.now in let j = c.args.j in
    c.set_mark-2.ensures ∙ ap (λ (T : State). with_mark T j unmarked) c.set_mark.ensures ∙ ap (λ (ms : List Mark). state_of S.space ms) (mark_taken_back S.marks j marked_no c.requires.atom)
