use Rattle.cover_line.specs.Views.{line_of}
use Rattle.std.proofs.Common.{map}
use Rattle.cert_resume.specs.Going.{CanBeResumed}
use Rattle.cert_resume.specs.Request.{share_of}
use Rattle.cert_resume.proofs.Walked.{Walked}
use Rattle.dpoly.proofs.walk.walk.Given as goal

abbrev pub invariant-loop-rule : goal.invariant-loop-rule
invariant-loop-rule g l =
    (can : CanBeResumed l.task.problem.now l.task.options l.fn.going.lemmas.items (map line_of l.main) l.left) →
    Walked l.task.problem.now l.task.options (share_of l.task.share) l.fn.going.lemmas.items l.main l.left can l.rule-index l.place l.going
