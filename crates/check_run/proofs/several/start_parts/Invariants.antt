use Rattle.std.proofs.Common.{drop}
use Rattle.command_line.specs.Seen.{texts_behind}
use Rattle.check_run.specs.Joined.{part_starts}
use Rattle.check_run.proofs.Starting.{StartedSoFar}
use Rattle.check_run.proofs.several.start_parts.Given as goal

-- the ports of the certificates behind the index are not started
abbrev pub invariant-loop-name : goal.invariant-loop-name
invariant-loop-name g l = StartedSoFar (part_starts (texts_behind (drop l.name-index l.names))) (part_starts (texts_behind l.names)) (g.D.Desk.sight l.fn.desk) (g.D.Desk.sight l.desk)
