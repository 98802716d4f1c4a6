use Rattle.std.proofs.Common.{◌≡◌, ◌∙◌, refl, sym, subst, arith}
use Rattle.smt_script.specs.Levels.{Levels, opened}
use Rattle.sort_check.specs.Scopes.{InForce}
use Rattle.sort_check.specs.declared.scope.Scope.{Scope}
use Rattle.sort_check.proofs.Held.{opens_one}
use Rattle.sort_check.proofs.Scopes.{opened_next}
use Rattle.sort_check.proofs.scope.Scope.open.Goals as goal

pub loop-level-preserved : goal.loop-level-preserved
loop-level-preserved c = λ theory s l h.
    let i = c.loop-level._level in
    let new : Scope = record c.loop-level.self { marks = c.push.new.self } in
    subst (λ (k : Levels). InForce theory s new k) (sym (opened_next i l))
    (opens_one theory s c.loop-level.self new (opened i l) (record { commands = c.len.result; constants = c.loop-level.self.constants }) refl refl refl c.in_ok-push.ensures.items
    (c.len.ensures ∙ c.loop-level.self.force.ok.0) refl (c.loop-level.invariant theory s l h))

pub returns : goal.returns
returns c = λ theory s l h.
    let all : c.loop-level._level ≡ c.args.count = omega (arith, c.loop-level-test.false, c.loop-level.auto._level-end) in
    subst (λ n. InForce theory s c.loop-level.self (opened n l)) all (c.loop-level.invariant theory s l h)
