use Rattle.std.proofs.lemmas.Result.{IfOk-weaker}
use Rattle.ival.specs.SpaceViews.{space_of}
use Rattle.dpoly.proofs.SearchAnswers.{says_width, width_as}
use Rattle.dpoly.proofs.answers.width_text.Goals as goal

pub returns : goal.returns
returns c =
    IfOk-weaker _ _ _
    (λ text e. says_width c.args.book.now _ c.problem-problem.ensures.book c.requires c.in-Some.found.atom c.in-Some.found.state.now (rw c.in-Some.is at c.in_ok-found.ensures)
    (width_as c.args.book.now c.problem-problem.result.now c.problem-problem.ensures.problem (space_of c.space.result.now) c.in-Some.found.state.now c.in-Some.found.atom c.space.ensures _ e))
    c.width.ensures
