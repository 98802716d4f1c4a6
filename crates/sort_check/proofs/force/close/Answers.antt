use Rattle.std.proofs.Common.{◌≡◌, sym, subst, arith}
use Rattle.smt_script.specs.Levels.{Levels, closed}
use Rattle.sort_check.specs.Single.{Stacks}
use Rattle.sort_check.proofs.Lengths.{emptied, no_items, shortened}
use Rattle.sort_check.proofs.Scopes.{closed_next}
use Rattle.sort_check.proofs.force.close.Goals as goal
use Rattle.sort_check.proofs.force.close.Goals.{in-Some, in_default}

pub loop-level-preserved : goal.loop-level-preserved
loop-level-preserved c = λ s l h.
    let i = c.loop-level._level in let old = c.loop-level.marks in let force = c.loop-level.force.items in let new = c.pop.new.self in
    let before : Stacks s force old.items (closed i l) = c.loop-level.invariant s l h in
    subst (λ (k : Levels). Stacks s c.match-pop.force.items new.items k) (sym (closed_next i l))
    (elim c.match-pop.branch [
      | in-Some w ↦ rw w.force-is (shortened s force w.truncate.new.self.items old.items new.items w.in-Some.before (closed i l) w.in-Some.ensures.items w.truncate.ensures.items before)
      | in_default w ↦ rw w.force-is (emptied s force old.items new.items (closed i l) (no_items old.len old.items old.ok.0 w.in_default.ensures.cases.0) (no_items new.len new.items new.ok.0 w.in_default.ensures.cases.1) before)
    ])

pub returns : goal.returns
returns c = λ s l h.
    let all : c.loop-level._level ≡ c.args.count = omega (arith, c.loop-level-test.false, c.loop-level.auto._level-end) in
    subst (λ k. Stacks s c.loop-level.force.items c.loop-level.marks.items (closed k l)) all (c.loop-level.invariant s l h)
