use Rattle.std.proofs.Common.{◌≡◌, ◌&&◌, ap, length, nat_le, refl, subst, sym, ◌∙◌}
use Rattle.std.specs.Prelude.{min}
use Rattle.smt_script.specs.Levels.{after_step}
use Rattle.smt_script.specs.Views.{step_of}
use Rattle.smt_sexp.specs.declared.sexps.Sexps.{Sexps}
use Rattle.sort_check.specs.Single.{Stacks}
use Rattle.problem_session.specs.Changes.{no_parts}
use Rattle.problem_build.specs.Changes.{last_parts}
use Rattle.problem_session.specs.declared.change.Checked.{Checked}
use Rattle.std.proofs.lemmas.Result.{err_from_is_err_and}
use Rattle.problem_build.proofs.Going.{check_behind, refused_here, step_behind}
use Rattle.problem_build.proofs.session.take.Goals as goal
use Rattle.problem_build.proofs.session.take.Goals.{then-going, else-going}

pub returns-in-Some : goal.returns-in-Some
returns-in-Some c =
    let old = c.args.going.now in
    let s = old.force.script.sexps.now in
    let made = c.in_ok-change.ensures in
    let p : Checked = record { change = c.in_ok-change.change; extends = old.extends } in record {
      goes = λ steps left h. (
        check_behind c.args.bound steps left old (step_of s c.args.step) c.in-Some.place (sym (c.in-Some.ensures s)) h _ p (made.changes (last_parts no_parts old.checks.items) h.last) refl made.stays c.in_ok-push.ensures.items
            (c.len-going.ensures ∙ c.change_here.new.force.script.commands.ok.0) refl made.built refl,
        made.stays.sexps,
      );
    }

pub returns-in_err-change : goal.returns-in_err-change
returns-in_err-change c =
    let old = c.args.going.now in
    let s = old.force.script.sexps.now in
    let p = err_from_is_err_and c.from_residual.result c.from_residual.ensures.1 in record {
      goes = λ steps left h.
          rw (p.1, p.2) (refused_here c.args.bound steps left old (step_of s c.args.step) c.in-Some.place (sym (c.in-Some.ensures s)) h c.in_err-change.field-0.0
          (c.in_err-change.ensures.changes (last_parts no_parts old.checks.items) h.last));
    }

pub returns : goal.returns
returns c =
    let old = c.args.going.now in
    let s = old.force.script.sexps.now in
    let new = c.take.new.self in
    let many = length new.script.commands.items in
    let still : c.if-going.going ≡ (old.extends && nat_le old.before many) = elim c.if-going.branch [
      | then-going w ↦ w.going-is ∙ ap (nat_le old.before) (w.len.ensures ∙ new.script.commands.ok.0) ∙ ap (λ b. b && nat_le old.before many) (sym w.if-going.true)
      | else-going w ↦ w.going-is ∙ w.if-going.false ∙ ap (λ b. b && nat_le old.before many) (sym w.if-going.false)
    ] in
    let kept : c.min-going.result ≡ min old.kept many = c.min-going.ensures ∙ ap (min old.kept) (c.len-2.ensures ∙ new.script.commands.ok.0) in record {
      goes = λ steps left h. (
        step_behind c.args.bound steps left old _ (step_of s c.args.step) (sym (c.in_default.ensures s)) h
            (subst (λ (k : Sexps). Stacks k new.script.commands.items new.marks.items (after_step h.open_levels (step_of s c.args.step))) (sym c.in_ok-take.ensures.sexps)
            (c.in_ok-take.ensures.takes s h.open_levels h.stacks)) refl refl still refl kept,
        c.in_ok-take.ensures.sexps,
      );
    }
