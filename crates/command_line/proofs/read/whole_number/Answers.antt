use Rattle.std.proofs.Common.{◌∙◌, ap, Option}
use Rattle.std.specs.Prelude.{option_and_then}
use Rattle.std.specs.Str.Parse.{ParsesUnsigned, ExplainsUnsignedError, HasUnsignedDigitsIfOk}
use Rattle.clap.specs.Words.{Text, found_of}
use Rattle.clap.proofs.WalkLemmas.{one_text-rows}
use Rattle.command_line.specs.Words.{number_of}
use Rattle.command_line.proofs.Numbers.{reads_option}
use Rattle.command_line.proofs.read.whole_number.Goals as goal

pub returns : goal.returns
returns c =
    reads_option 32 _ _ (λ bs r. ParsesUnsigned 32 10 bs r × ExplainsUnsignedError 10 bs r × HasUnsignedDigitsIfOk bs r) (λ bs x g. g.0)
    c.get_one.ensures.none c.get_one.ensures.value
    ∙ ap (λ (o : Option Text). option_and_then (number_of 32) o) (one_text-rows (found_of c.args.matches.now) c.args.id.now)
