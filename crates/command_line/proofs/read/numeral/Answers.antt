use Rattle.std.proofs.Common.{rules}
use Rattle.command_line.proofs.Numbers.{parsed_number}
use Rattle.command_line.proofs.read.numeral.Goals as goal

pub returns : goal.returns
returns c = search (rules, parsed_number)
