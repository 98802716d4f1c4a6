use Rattle.std.proofs.Common.{ap, ap₂, sym, ◌∙◌, ◌≡◌, refl, Err, Result}
use Rattle.clap.specs.declared.parser.matches.ArgMatches.{ArgMatches}
use Rattle.command_line.specs.declared.read.Refused.{Refused}
use Rattle.command_line.specs.declared.read.Refused.TheVariants.{Usage}
use Rattle.clap.specs.Words.{app_of, is_simple, is_simple_and_free, fault_of, subcommand_of}
use Rattle.command_line.specs.Program.{program}
use Rattle.command_line.proofs.ProgramLemmas.{program_is_simple, program_is_free, has_fault}
use Rattle.command_line.proofs.read.parse.Goals as goal

pub returns-in-Ok-try_get_matches_from-clause-ok : goal.returns-in-Ok-try_get_matches_from-clause-ok
returns-in-Ok-try_get_matches_from-clause-ok c =
    let is : app_of c.in-Ok.command ≡ program = c.in-Ok.ensures.app in (
      ap₂ fault_of (sym is) refl ∙ c.in-Ok-try_get_matches_from.ensures.kinds (ap is_simple_and_free is ∙ program_is_free),
      (c.in-Ok-try_get_matches_from.ensures.matches (ap is_simple is ∙ program_is_simple)).1 ∙ ap₂ subcommand_of is refl,
    )

pub returns-in-Err-clause-usage : goal.returns-in-Err-clause-usage
returns-in-Err-clause-usage c e none =
    let is : app_of c.in-Ok.command ≡ program = c.in-Ok.ensures.app in
    let same : ◌≡◌ {A = Result ArgMatches Refused} (Err c.refusal.result) (Err Usage) = e in
    let usage : c.refusal.result ≡ Usage = cc in
    has_fault _ _ (c.in-Err.ensures.kinds (ap is_simple_and_free is ∙ program_is_free)) (c.refusal.ensures.usage usage) (ap₂ fault_of is refl ∙ none)
