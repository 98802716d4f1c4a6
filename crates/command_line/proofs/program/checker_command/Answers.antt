use Rattle.std.proofs.Common.{◌≡◌, IfOk, [], ◌∷◌, subst}
use Rattle.clap.specs.Words.{App, app_of}
use Rattle.command_line.specs.declared.program.Part.TheVariants.{Script, Cert, Bound}
use Rattle.command_line.specs.Program.{checker, with_parts}
use Rattle.command_line.proofs.program.checker_command.Goals as goal

pub returns-clause-app : goal.returns-clause-app
unfolding checker
returns-clause-app c = subst (λ (a : App). IfOk c.with_parts.result (λ x. app_of x ≡ with_parts a (Script ∷ Cert ∷ Bound ∷ []))) c.described-command.ensures.app c.with_parts.ensures.app
