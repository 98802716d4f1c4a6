use Rattle.std.proofs.Common.{◌≡◌, sym, subst, arith}
use Rattle.smt_script.specs.Levels.{Levels, opened}
use Rattle.sort_check.specs.Single.{Stacks}
use Rattle.sort_check.proofs.Lengths.{lengthened_by}
use Rattle.sort_check.proofs.Scopes.{opened_next}
use Rattle.sort_check.proofs.force.open.Goals as goal

pub loop-level-preserved : goal.loop-level-preserved
loop-level-preserved c = λ force n s l h.
    let i = c.loop-level._level in
    subst (λ (k : Levels). Stacks s force c.push.new.self.items k) (sym (opened_next i l))
    (lengthened_by s force c.loop-level.marks.items c.push.new.self.items c.args.before (opened i l) n c.in_ok-push.ensures.items (c.loop-level.invariant force n s l h))

pub returns : goal.returns
returns c = λ force n s l h.
    let all : c.loop-level._level ≡ c.args.count = omega (arith, c.loop-level-test.false, c.loop-level.auto._level-end) in
    subst (λ k. Stacks s force c.loop-level.marks.items (opened k l)) all (c.loop-level.invariant force n s l h)
