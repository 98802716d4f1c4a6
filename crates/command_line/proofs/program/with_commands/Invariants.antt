use Rattle.std.proofs.Common.{◌≡◌, false, drop}
use Rattle.clap.specs.Words.{app_of}
use Rattle.clap.specs.declared.builder.command.Command.TheViews.{out-Command as fields_of}
use Rattle.command_line.specs.Program.{with_commands}
use Rattle.command_line.proofs.program.with_commands.Given as goal

abbrev pub invariant-loop-name : goal.invariant-loop-name
invariant-loop-name l = record {
  app : with_commands (app_of l.command) (drop l.name-index l.names) ≡ with_commands (app_of l.initial.command) l.names;
  local : (fields_of l.command).has_globals ≡ false;
}
