use Rattle.cert_read.specs.Views.{line_of}
use Rattle.poly_graph.specs.ProblemViews.{problem_of}
use Rattle.cert_model.specs.Accepted.{next}
use Rattle.cert_model.specs.Session.{none_complete}
use Rattle.cert_check.specs.declared.due.Due.TheVariants.{Next}
use Rattle.cert_check.specs.Dues.{due_of}
use Rattle.cert_check.specs.Works.{spent_part_of}
use Rattle.cert_check.proofs.PartLines.{none_goes, part_goes, part_refused, spent_again}
use Rattle.cert_check.proofs.parts.first_line.Goals as goal

pub returns-in_ok-inside-in-Ok-clause-comes : goal.returns-in_ok-inside-in-Ok-clause-comes
returns-in_ok-inside-in-Ok-clause-comes c b =
    let t = c.args.part.now in let x = next (problem_of t.problem) b (due_of t.problem (Next c.args.cover)) (line_of c.args.line.now) in
    part_goes (spent_part_of t) t c.inside.new.part (none_complete x) c.in-Ok.due c.in_ok-inside-in-Ok.field-0 (spent_again t) (none_goes x (due_of t.problem c.in-Ok.due) (c.in-Ok.ensures.comes b)) c.in_ok-inside-in-Ok.ensures.comes

pub returns-in-Err-clause-comes : goal.returns-in-Err-clause-comes
returns-in-Err-clause-comes c b =
    let t = c.args.part.now in let x = next (problem_of t.problem) b (due_of t.problem (Next c.args.cover)) (line_of c.args.line.now) in
    part_refused (spent_part_of t) c.none_complete.result (none_complete x) (c.none_complete.ensures x (c.in-Err.ensures.comes b))
