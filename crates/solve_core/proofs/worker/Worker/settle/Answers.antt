use Rattle.book_lock.specs.Shared.{first_of}
use Rattle.solve_core.proofs.Together.{patch_kept, parts_lie}
use Rattle.solve_core.proofs.worker.Worker.settle.Goals as goal

pub commit-requires-clause-parts : goal.commit-requires-clause-parts
commit-requires-clause-parts g c =
    let b = first_of c.args.task.now.shared.now in
    let k = patch_kept b c.args.node c.args.worked c.in-Patch.patch c.in-Patch.is c.requires.work in
    parts_lie b c.args.node c.in-Patch.patch c.requires.worker.book k.0 k.1 c.parts_of-parts.result c.parts_of-parts.ensures
