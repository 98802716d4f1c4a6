use Rattle.std.proofs.Common.{[]}
use Rattle.box_worker.proofs.Open.{begun_is_open}
use Rattle.box_worker.proofs.lessons.repeat.Goals as goal

pub returns : goal.returns
returns c =
    let P = c.args.patch.now in
    (c.repeat_steps.new.patch, c.repeat_steps.ensures P.problem P.margins [] P.kept.first (begun_is_open [] P c.requires.quoted c.requires.open), c.in_ok-repeat_end.ensures)
