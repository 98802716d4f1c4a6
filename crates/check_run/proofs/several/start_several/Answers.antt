use Rattle.std.proofs.Common.{[], ◌∷◌}
use Rattle.desk.specs.declared.desk.Port.TheVariants.{Draft}
use Rattle.command_line.specs.Seen.{texts_behind}
use Rattle.check_run.specs.Joined.{part_starts}
use Rattle.check_run.proofs.Starting.{draft_then, halted_more}
use Rattle.check_run.proofs.several.start_several.Goals as goal

pub returns-in-Ok-clause-starts : goal.returns-in-Ok-clause-starts
returns-in-Ok-clause-starts g c = draft_then (texts_behind c.args.names.now) c.args.out.now _ _ _ c.start_draft.result c.in-Ok.ensures.starts c.start_draft.ensures.starts

pub returns-in-Err-clause-starts : goal.returns-in-Err-clause-starts
returns-in-Err-clause-starts g c = halted_more (part_starts (texts_behind c.args.names.now)) ((Draft, c.args.out.now) ∷ []) c.in-Err.status _ _ c.in-Err.ensures.starts
