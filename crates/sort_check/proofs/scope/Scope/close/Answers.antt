use Rattle.std.proofs.Common.{◌≡◌, sym, subst, arith}
use Rattle.smt_script.specs.Levels.{Levels, closed}
use Rattle.sort_check.specs.Scopes.{InForce}
use Rattle.sort_check.proofs.Scopes.{closed_next}
use Rattle.sort_check.proofs.scope.Scope.close.Goals as goal

pub loop-level-preserved : goal.loop-level-preserved
loop-level-preserved c = λ theory s l h.
    let i = c.loop-level._level in
    subst (λ (k : Levels). InForce theory s c.close_one.new.self k) (sym (closed_next i l)) (c.close_one.ensures theory s (closed i l) (c.loop-level.invariant theory s l h))

pub returns : goal.returns
returns c = λ theory s l h.
    let all : c.loop-level._level ≡ c.args.count = omega (arith, c.loop-level-test.false, c.loop-level.auto._level-end) in
    subst (λ n. InForce theory s c.loop-level.self (closed n l)) all (c.loop-level.invariant theory s l h)
