use Rattle.root_rewriting.proofs.Placing.{writing_begins}
use Rattle.root_rewriting.proofs.writing.Writing.new.Goals as goal

pub returns : goal.returns
returns c = writing_begins c.new.result c.new-2.result.items c.new.ensures.written c.new.ensures.empty c.new-2.ensures.items
