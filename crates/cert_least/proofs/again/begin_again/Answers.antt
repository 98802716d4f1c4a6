use Rattle.std.proofs.Common.{sym, ◌∙◌, subst, refl}
use Rattle.poly_graph.specs.ProblemViews.{problem_of}
use Rattle.cert_model.specs.Due.{version_due, kind_due}
use Rattle.cert_check.specs.declared.fault.CertFault.TheVariants.{Memory}
use Rattle.cert_check.specs.Checked.{Checked}
use Rattle.cert_least.specs.Phases.{told_of, IsDueTo}
use Rattle.cert_least.proofs.HeaderLines.{handed_on}
use Rattle.cert_least.proofs.again.begin_again.Goals as goal

pub returns : goal.returns
returns c e =
    let q = c.args.problem.now in let p = problem_of q in
    c.take_header.ensures p e (subst (λ (x : Checked). IsDueTo p c.args.bound version_due x) (sym (c.put.ensures ∙ c.in_ok-fresh.ensures)) (record { parts = q; problem = refl; checks = refl; due = refl }))

pub returns-in_err-fresh : goal.returns-in_err-fresh
returns-in_err-fresh c e =
    handed_on (problem_of c.args.problem.now) c.args.bound c.args.checker.now c.from_residual.result Memory c.from_residual.ensures refl (kind_due (told_of c.args.told))
