use Rattle.std.proofs.Common.{◌≡◌, ◌∙◌, ◌++◌, List, [], map, ap, ap₂}
use Rattle.script_model.specs.Script.{Command}
use Rattle.smt_script.specs.Views.{command_of}
use Rattle.root_rewriting.specs.Placing.{placed_command}
use Rattle.root_rewriting.specs.Rewriting.{declared_command, introduced_command}
use Rattle.root_rewriting.proofs.script.Rewriting.script.Goals as goal

pub returns : goal.returns
returns c =
    let s = c.args.self.now.sexps in
    let C = command_of s in
    let none : map C c.new-commands.result.items ≡ [] = ap (map C) c.new-commands.ensures.items in
    let one : map C c.push_declared.new.commands.items ≡ map declared_command c.args.self.now.declared.items =
    c.in_ok-push_declared.ensures s ∙ ap₂ (λ us vs. us ++ map declared_command vs) none c.as_slice.ensures.value in
    let two = c.in_ok-push_introduced.ensures s ∙ ap₂ (λ us vs. us ++ map introduced_command vs) one c.as_slice-2.ensures.value in
    c.in_ok-push_placed.ensures s ∙ ap₂ (λ us vs. us ++ map (placed_command s) vs) two c.as_slice-3.ensures.value
