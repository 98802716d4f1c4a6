use Rattle.cert_model.specs.Due.{at_point}
use Rattle.ival.specs.SpaceViews.{space_of}
use Rattle.dpoly.proofs.SearchAnswers.{point_answers, says_point}
use Rattle.dpoly.proofs.answers.tell_point.Goals as goal

pub returns : goal.returns
returns c = record {
  value = at_point c.args.point.now;
  answer = point_answers c.args.book.now c.options.ensures.book c.args.options.now c.requires.left c.args.point.now c.requires.kept c.problem-problem.result.now c.problem-problem.ensures.problem
      c.options.result.now c.options.ensures.options c.in_ok-cert.cert.items c.in_ok-cert.ensures.accepted;
  text = says_point c.args.book.now c.options.ensures.book c.args.options.now c.requires.left c.args.point.now c.requires.kept c.problem-problem.result.now c.problem-problem.ensures.problem
      (space_of c.space.result.now) c.space.ensures c.in_ok-text.text.items c.in_ok-text.ensures;
}
