use Rattle.std.proofs.Common.{subst, sym, ℕ, Result}
use Rattle.term_build.specs.declared.stop.Stop.{Stop}
use Rattle.term_build.proofs.Emits.{err_is}
use Rattle.value_build.specs.Claiming.{ClaimsReal}
use Rattle.value_build.proofs.Claimed.{real_claimed, real_stopped}
use Rattle.value_build.proofs.claim.claim_real.Goals as goal

pub returns-in_err-form-clause-does : goal.returns-in_err-form-clause-does
returns-in_err-form-clause-does c = subst (λ (r : Result (ℕ × ℕ) Stop). ClaimsReal c.args.builder.now c.form.new.self c.args.bounds.now c.args.bounds.now r) (sym (err_is c.from_residual.result c.in_err-form.field-0.0 c.from_residual.ensures))
    (real_stopped c.args.builder.now c.form.new.self c.args.bounds.now c.args.bounds.now c.in_err-form.field-0.0 c.in_err-form.ensures.does)

pub returns-clause-does : goal.returns-clause-does
returns-clause-does c = real_claimed c.args.builder.now c.form.new.self c.args.bounds.now c.no_bounds.new.bounds c.in_ok-form.form c.in_ok-list.list c.in_ok-form.ensures.does c.in_ok-list.ensures
