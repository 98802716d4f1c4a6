use Rattle.solve_core.proofs.Together.{reply_lies}
use Rattle.solve_core.proofs.worker.Worker.state_of.Goals as goal

pub returns-in-None-clause-state : goal.returns-in-None-clause-state
returns-in-None-clause-state g c = reply_lies c.args.task.now.shared.now c.args.self.now.seat c.state_of.new.seat c.args.due.node c.requires.worker.book c.requires.worker.seat.0 c.state_of.result c.state_of.ensures.reply
