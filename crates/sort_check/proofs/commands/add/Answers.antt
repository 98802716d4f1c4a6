use Rattle.std.proofs.Common.{refl, sym}
use Rattle.std.proofs.lemmas.Result.{err_from_is_err_and}
use Rattle.sort_check.specs.Levels.{names_of}
use Rattle.sort_check.specs.declared.scope.Scope.{Scope}
use Rattle.sort_check.proofs.Held.{adds, fails, knows_inner, skips}
use Rattle.sort_check.proofs.commands.add.Goals as goal

pub returns-in_err-scope : goal.returns-in_err-scope
returns-in_err-scope c = λ theory l h.
    let s = c.args.sexps.now in let old = c.args.scope.now in
    let new : Scope = record old { top = c.step.new.top } in
    let p = err_from_is_err_and c.from_residual.result c.from_residual.ensures.1 in
    rw (p.1, p.2) (fails theory s old new c.args.command l h c.in_err-scope.field-0.0 (c.in_err-scope.ensures (names_of theory l.inner) (knows_inner theory s old new c.args.command l h)))

pub returns-then-not-stays : goal.returns-then-not-stays
returns-then-not-stays c = λ theory l h.
    let s = c.args.sexps.now in let old = c.args.scope.now in
    let new : Scope = record old { top = c.step.new.top; constants = c.in_ok-scope.field-0 } in
    skips theory s old new c.args.command l h (sym (c.if-not-stays.ensures s)) refl refl (c.in_ok-scope.ensures (names_of theory l.inner) (knows_inner theory s old new c.args.command l h))

pub returns : goal.returns
returns c = λ theory l h.
    let s = c.args.sexps.now in let old = c.args.scope.now in
    let new : Scope = record old { top = c.step.new.top; constants = c.in_ok-scope.field-0; force = c.push.new.self } in
    adds theory s old new c.args.command l h (sym (c.if-not-stays.ensures s)) c.in_ok-push.ensures.items refl (c.in_ok-scope.ensures (names_of theory l.inner) (knows_inner theory s old new c.args.command l h))
