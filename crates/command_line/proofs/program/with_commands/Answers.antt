use Rattle.std.proofs.Common.{rules, ◌∙◌, ◌+◌, ◌||◌, Bool, List, drop, ap, ap₂, sym}
use Rattle.std.proofs.lemmas.List.{at_drop_more}
use Rattle.clap.specs.Words.{App, app_of, with_subcommand}
use Rattle.command_line.specs.declared.program.Name.{Name}
use Rattle.command_line.specs.Program.{with_commands}
use Rattle.command_line.proofs.program.with_commands.Goals as goal

pub loop-name-preserved : goal.loop-name-preserved
loop-name-preserved c =
    let names : List Name = c.args.names.now in
    let n = c.loop-name.name-index in
    let app = app_of c.loop-name.command in
    let added = c.in_ok-command.ensures.shape c.in_ok-subcommand_of.ensures.local ∙ ap (λ (a : App). with_subcommand app a.top) c.in_ok-subcommand_of.ensures.app in
    record {
      app = ap (λ (a : App). with_commands a (drop (n + 1) names)) added ∙ (sym (at_drop_more (λ (l : List Name). with_commands app l) names n _ (search rules)) ∙ c.loop-name.invariant.app);
      local = c.in_ok-command.ensures.globals ∙ ap₂ (λ (x y : Bool). x || y) c.loop-name.invariant.local c.in_ok-subcommand_of.ensures.local;
    }
