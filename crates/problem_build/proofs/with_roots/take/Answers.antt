use Rattle.std.proofs.Common.{false, refl, subst, sym}
use Rattle.std.proofs.lemmas.Result.{err_from_is_err_and}
use Rattle.smt_script.specs.Levels.{after_step}
use Rattle.smt_script.specs.Views.{step_of}
use Rattle.smt_sexp.specs.declared.sexps.Sexps.{Sexps}
use Rattle.sort_check.specs.Single.{Stacks}
use Rattle.problem_session.specs.declared.change.Checked.{Checked}
use Rattle.problem_build.proofs.GoingWithRoots.{rooted_behind, rooted_check, rooted_refused}
use Rattle.problem_build.proofs.with_roots.take.Goals as goal

pub returns-in-Some : goal.returns-in-Some
returns-in-Some c = λ steps left h.
    let old = c.args.force.now in
    let s = old.script.sexps.now in
    let made = c.in_ok-change.ensures in
    let p : Checked = record { change = c.in_ok-change.change; extends = false } in (
      rooted_check c.args.bound steps left old c.args.checks.now.items (step_of s c.args.step) c.in-Some.place (sym (c.in-Some.ensures s)) h c.change_here.new.force p c.push.new.self.items refl made.changes.0 made.changes.1
          made.stays c.in_ok-push.ensures.items,
      made.stays.sexps,
    )

pub returns-in_err-change : goal.returns-in_err-change
returns-in_err-change c = λ steps left h.
    let old = c.args.force.now in
    let p = err_from_is_err_and c.from_residual.result c.from_residual.ensures.1 in
    rw (p.1, p.2) (rooted_refused c.args.bound steps left old c.args.checks.now.items (step_of old.script.sexps.now c.args.step) c.in-Some.place (sym (c.in-Some.ensures old.script.sexps.now)) h
    c.in_err-change.field-0.0 c.in_err-change.ensures.changes)

pub returns : goal.returns
returns c = λ steps left h.
    let old = c.args.force.now in
    let s = old.script.sexps.now in
    let new = c.take.new.self in (
      rooted_behind c.args.bound steps left old new c.args.checks.now.items (step_of s c.args.step) (sym (c.in_default.ensures s)) h
          (subst (λ (k : Sexps). Stacks k new.script.commands.items new.marks.items (after_step h.open_levels (step_of s c.args.step))) (sym c.in_ok-take.ensures.sexps)
          (c.in_ok-take.ensures.takes s h.open_levels h.stacks)),
      c.in_ok-take.ensures.sexps,
    )
