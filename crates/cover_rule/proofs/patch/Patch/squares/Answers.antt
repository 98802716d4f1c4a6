use Rattle.std.proofs.Common.{ap, subst}
use Rattle.cover_line.specs.Views.{blocks_of, multipliers_of}
use Rattle.cover_model.specs.State.{State}
use Rattle.cover_rule.specs.Models.{PatchModel}
use Rattle.cover_rule.specs.Refusals.{SquaresEnd}
use Rattle.cover_rule.specs.Held.{patch_of}
use Rattle.cover_rule.proofs.Helds.{held_with, still_ready, run_squared}
use Rattle.cover_rule.proofs.patch.Patch.squares.Goals as goal

pub invariant_of-self : goal.invariant_of-self
invariant_of-self c =
    let i = c.self.inside in let h = c.self.invariant in let p = i.problem.now in let k = i.kept in let k' = c.squares.new.kept in
    let P : PatchModel = patch_of p i.margins k in let Q : PatchModel = patch_of p i.margins k' in
    held_with p i.margins k k' i.work c.squares.new.work h
    (run_squared P h.whole h.run (multipliers_of c.args.pairs.items) (blocks_of c.args.blocks.items) Q c.squares.result c.squares.ensures.answer)
    (still_ready p i.margins k k' c.squares.new.work (ap (λ (S : State). S.space) c.squares.ensures.reached) c.squares.ensures.ready)

pub returns : goal.returns
returns c =
    let i = c.self.inside in
    subst (λ (X : PatchModel). SquaresEnd X (multipliers_of c.args.pairs.items) (blocks_of c.args.blocks.items) (patch_of i.problem.now i.margins c.squares.new.kept) c.squares.result) c.self.view_is c.squares.ensures.answer
