use Rattle.poly_graph.proofs.Proved.{marks_of_lists}
use Rattle.poly_graph.proofs.laws.marks_of_lists.Goals as goal

pub returns : goal.returns
returns c = marks_of_lists
