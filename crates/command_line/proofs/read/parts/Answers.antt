use Rattle.std.proofs.Common.{rules}
use Rattle.command_line.proofs.Shares.{split_is}
use Rattle.command_line.proofs.read.parts.Goals as goal

pub returns : goal.returns
returns c = search (rules, split_is)
