use Rattle.std.proofs.Common.{◌≡◌, IfOk, List, Option, Some, Ok, Err, Result}
use Rattle.std.specs.Prelude.{option_and_then}
use Rattle.clap.specs.Words.{Row, Text, subcommand_rows_of}
use Rattle.command_line.specs.declared.read.Refused.{Refused}
use Rattle.command_line.specs.declared.request.Request.{Request}
use Rattle.command_line.specs.Seen.{seen}
use Rattle.command_line.specs.Words.{IsInRange, chosen}
use Rattle.command_line.proofs.Ranges.{entered_in_range}
use Rattle.command_line.proofs.read.read_words.Goals as goal

in_range : (entered : Option (Text × List Row)) (r : Result Request Refused) → IfOk r (λ asked. option_and_then chosen entered ≡ Some (seen asked)) → IfOk r (λ asked. IsInRange (seen asked))
in_range entered (Ok asked) h = entered_in_range entered (seen asked) h
in_range entered (Err refused) h = tt

pub returns-in-Ok-clause-range : goal.returns-in-Ok-clause-range
returns-in-Ok-clause-range c = in_range (subcommand_rows_of c.in-Ok.matches) c.asked_in.result c.asked_in.ensures.ok
