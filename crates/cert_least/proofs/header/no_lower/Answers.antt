use Rattle.std.proofs.Common.{refl, sym, ◌∙◌}
use Rattle.poly_graph.specs.ProblemViews.{problem_of}
use Rattle.cert_read.specs.Views.{line_of}
use Rattle.cert_check.specs.declared.fault.CertFault.TheVariants.{BadHeader}
use Rattle.cert_least.proofs.Lines.{check_on, lower_missing}
use Rattle.cert_least.proofs.header.no_lower.Goals as goal

pub returns-then-tells_later : goal.returns-then-tells_later
returns-then-tells_later c a d h e =
    check_on a c.args.told (sym c.tells_later.ensures ∙ c.if-tells_later.true) (line_of c.args.line.now) c.requires d e c.give.new.checker c.give.result (c.give.ensures (problem_of a.problem) a.bound d h)

pub returns : goal.returns
returns c a d h e = lower_missing a c.args.told (sym c.tells_later.ensures ∙ c.if-tells_later.false) (line_of c.args.line.now) c.requires d e (BadHeader 0) (record { line = 0; told = refl })
