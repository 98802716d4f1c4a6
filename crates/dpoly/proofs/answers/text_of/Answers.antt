use Rattle.std.proofs.Common.{ℕ}
use Rattle.std.specs.Prelude.{Vec}
use Rattle.std.specs.declared.alloc.Global.{Global}
use Rattle.std.proofs.lemmas.Result.{IfOk-weaker}
use Rattle.ival.specs.SpaceViews.{space_of}
use Rattle.dpoly.proofs.SearchAnswers.{says_point}
use Rattle.dpoly.proofs.SessionAnswers.{says_kept, says_left}
use Rattle.dpoly.proofs.answers.text_of.Goals as goal

pub returns-in-Some : goal.returns-in-Some
returns-in-Some c = IfOk-weaker _ _ _ (λ (text : Vec ℕ Global) e. says_kept c.args.book.now c.args.options.now c.in-Some.point.now c.in-Some.ensures text.items
    (says_point c.args.book.now c.book_is_sound.ensures c.args.options.now c.requires c.in-Some.point.now c.in-Some.ensures c.problem-problem.result.now c.problem-problem.ensures.problem (space_of c.space.result.now) c.space.ensures text.items e))
    c.delta_sat.ensures

pub returns-in-None : goal.returns-in-None
returns-in-None c = IfOk-weaker _ _ _ (λ (text : Vec ℕ Global) e. says_left c.args.book.now c.book_is_sound.ensures c.args.options.now c.in-None.ensures text.items e) c.left_text.ensures
