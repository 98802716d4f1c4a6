use Rattle.std.proofs.Common.{◌∙◌}
use Rattle.cover_data.specs.Views.{kept_of}
use Rattle.thread_rows.proofs.TriedBookLock.{is_run_for}
use Rattle.thread_rows.proofs.swapped.cutting.Goals as goal

pub returns-then-is_some-clause-run : goal.returns-then-is_some-clause-run
returns-then-is_some-clause-run c =
    let problem = c.ends_in_cut.ensures.problem ∙ c.in-Ok.ensures.problem in
    let margins = c.ends_in_cut.ensures.margins ∙ c.in-Ok.ensures.margins in
    is_run_for c.args.problem.now c.args.margins.now c.ends_in_cut.new.patch (kept_of c.into_kept-kept.result.0) problem margins c.into_kept-kept.ensures.kept c.into_kept-kept.ensures.run
