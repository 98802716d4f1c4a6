use Rattle.std.proofs.Common.{◌∙◌}
use Rattle.std.proofs.lemmas.Result.{err_from_is_err_and}
use Rattle.smt_script.specs.Views.{command_of}
use Rattle.problem_build.specs.declared.progress.Before.{Before}
use Rattle.problem_build.proofs.Past as past
use Rattle.problem_build.proofs.progress.Progress.add.Goals as goal

pub returns : goal.returns
returns c = λ script names h.
    let p = c.args.self.now in
    let x : Before = record { mark = c.mark.result; claims = c.len.result } in
    let made = c.in_ok-make.ensures script names (past.built_state script p h).done in (
      past.one_went script (command_of c.args.sexps.now c.args.command.now) p.before.items c.push.new.self.items x p.maker c.make.new.maker p.claims.items c.make.new.claims.items h
          c.in_ok-push.ensures.items c.mark.ensures.counts (c.len.ensures ∙ p.claims.ok.0) made.0 made.1 c.mark-2.ensures.made,
      past.one_starts script p.before.items x p.maker c.make.new.maker p.claims.items c.make.new.claims.items h c.mark.ensures.counts made.1 c.mark-2.ensures.made,
    )

pub returns-in_err-make : goal.returns-in_err-make
returns-in_err-make c = λ script names h.
    let p = err_from_is_err_and c.from_residual-in_err-make.result c.from_residual-in_err-make.ensures.1 in
    rw (p.1, p.2) (c.in_err-make.ensures script names (past.built_state script c.args.self.now h).done)
