use Rattle.std.proofs.Common.{◌≡◌, map, refl, arith}
use Rattle.smt_script.specs.Views.{command_of}
use Rattle.root_rewriting.specs.Rewriting.{introduced_command}
use Rattle.root_rewriting.proofs.Made.{all_mapped, next_mapped}
use Rattle.root_rewriting.proofs.script.push_introduced.Goals as goal

pub loop-constant-preserved : goal.loop-constant-preserved
loop-constant-preserved c = λ s.
    next_mapped (command_of s) introduced_command (map (command_of s) c.args.commands.now.items) c.loop-constant.commands.items c.push.new.self.items _ c.args.introduced.now c.loop-constant.constant-index c.constant-item.result
    (omega arith) c.constant-item.is c.in_ok-push.ensures.items refl (c.loop-constant.invariant s)

pub returns : goal.returns
returns c = λ s.
    all_mapped (command_of s) introduced_command (map (command_of s) c.args.commands.now.items) c.loop-constant.commands.items c.args.introduced.now c.loop-constant.constant-index (omega arith) (c.loop-constant.invariant s)
