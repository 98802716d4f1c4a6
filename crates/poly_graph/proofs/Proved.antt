-- The laws, from their lemmas.
use Rattle.std.proofs.Common.{◌∙◌, sym}
use Rattle.poly_graph.specs.Laws.{NodeIsItsKind, EqualNodesAgree, MarksOfLists}
use Rattle.poly_graph.proofs.Graphs.{unfolds}
use Rattle.poly_graph.proofs.Lists.{marks_are}

pub node_is_its_kind : NodeIsItsKind
node_is_its_kind = unfolds

pub equal_nodes_agree : EqualNodesAgree
equal_nodes_agree nodes o j k n e f = unfolds nodes o j n e ∙ sym (unfolds nodes o k n f)

pub marks_of_lists : MarksOfLists
marks_of_lists = marks_are
