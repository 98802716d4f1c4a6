use Rattle.script_roots.specs.TreeBounds.{declared_ranges}
use Rattle.smt_script.specs.Views.{commands_in}
use Rattle.root_rewriting.proofs.range.arena.enclosures.Goals as goal

pub returns : goal.returns
returns c = c.enclosed.ensures (declared_ranges c.args.bound (commands_in c.args.script.now)) c.in_ok-ranges.ensures
