-- When a node is refused.
use Rattle.std.specs.Prelude.{◌≡◌, List, length}
use Rattle.poly_graph.specs.declared.refused.NoNode.{NoNode}
use Rattle.poly_graph.specs.declared.refused.NoNode.TheVariants.{TooMany, Memory}
use Rattle.poly_graph.specs.declared.refused.Limit.TheVariants.{Nodes, Atoms, Forms}
use Rattle.poly_graph.specs.Term
use Rattle.poly_graph.specs.Shared.{IsNew, most_nodes}

-- where a node is refused the graph is as it was; it is one too many exactly where it is new and the graph is full
abbrev pub NodeRefused : List Term.Node → List Term.Node → Term.Node → NoNode → Type 0
NodeRefused old new n (TooMany Nodes) = (new ≡ old) × (length old ≡ most_nodes) × IsNew old n
NodeRefused old new n (TooMany Atoms) = ⊥
NodeRefused old new n (TooMany Forms) = ⊥
NodeRefused old new n Memory = new ≡ old
