use Rattle.std.proofs.Common.{◌≡◌, ◌∙◌, IfOk, [], ◌∷◌, true, ap, subst}
use Rattle.clap.specs.Words.{App, app_of}
use Rattle.clap.specs.Simple.{app_of_fields}
use Rattle.command_line.specs.declared.program.Name.TheVariants.{Solve, Minimize, Check, Demo, Upgrade, Plan, Resume, Join}
use Rattle.command_line.specs.Program.{new_program, program, with_commands}
use Rattle.command_line.proofs.program.program_command.Goals as goal

pub returns-clause-app : goal.returns-clause-app
unfolding program
returns-clause-app c =
    let first : app_of c.subcommand_required-command.result ≡ new_program =
    ap app_of_fields c.subcommand_required-command.ensures ∙ ap (λ (a : App). record a { top = record a.top { subcommand_required = true } }) c.described.ensures.app in
    subst (λ (a : App). IfOk c.with_commands.result (λ x. app_of x ≡ with_commands a (Solve ∷ Minimize ∷ Check ∷ Demo ∷ Upgrade ∷ Plan ∷ Resume ∷ Join ∷ []))) first c.with_commands.ensures.app
