use Rattle.std.proofs.Common.{subst}
use Rattle.poly_graph.specs.ProblemViews.{problem_of}
use Rattle.cert_read.specs.Views.{line_of}
use Rattle.cert_model.specs.Accepted.{next}
use Rattle.cert_least.specs.declared.phase.Phase.{Phase}
use Rattle.cert_least.specs.Steps.{IsGone}
use Rattle.cert_least.proofs.Lines.{header_on}
use Rattle.cert_least.proofs.header.header_line.Goals as goal

pub returns : goal.returns
returns c a d h e =
    let l = line_of c.args.line.now in let p = problem_of a.problem in
    header_on a c.args.told l d e c.give.new.checker c.give.result
    (subst (λ (x : Phase). IsGone p a.bound (next p a.bound d l) x c.give.new.checker c.give.result) c.behind_header.ensures (c.give.ensures p a.bound d h))
