use Rattle.std.proofs.Common.{◌≡◌, false, drop}
use Rattle.clap.specs.Words.{app_of}
use Rattle.clap.specs.declared.builder.command.Command.TheViews.{out-Command as fields_of}
use Rattle.command_line.specs.Program.{with_parts}
use Rattle.command_line.proofs.program.with_parts.Given as goal

abbrev pub invariant-loop-part : goal.invariant-loop-part
invariant-loop-part l = record {
  app : with_parts (app_of l.command) (drop l.part-index l.parts) ≡ with_parts (app_of l.initial.command) l.parts;
  local : (fields_of l.command).has_globals ≡ false;
}
