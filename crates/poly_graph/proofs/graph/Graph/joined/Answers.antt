use Rattle.std.proofs.Common.{◌≡◌, List, ◌++◌, map, take, ap, sym, ◌∙◌, subst}
use Rattle.std.proofs.lemmas.Slice.{pushed}
use Rattle.poly_graph.specs.Term.{Node}
use Rattle.poly_graph.specs.Views.{node_of}
use Rattle.poly_graph.specs.Shared.{IsGraph}
use Rattle.poly_graph.proofs.Clones.{joined_items}
use Rattle.poly_graph.proofs.graph.Graph.joined.Goals as goal

whole : (c : goal.In_ok-extend_from_slice) → map node_of c.extend_from_slice.new.self.items ≡ take c.args.keep c.args.first.now ++ map node_of c.args.more.now
whole c = joined_items node_of c.extend_from_slice.new.self.items c.first.inside.nodes.items c.args.more.now c.args.keep c.args.first.now
    (pushed c.args.more.now (c.in_ok-nodes.ensures.items ∙ ap (take c.args.keep) c.deref.ensures.value) c.in_ok-extend_from_slice.was c.extend_from_slice.ensures.items) c.first.view_is

pub invariant_of-result : goal.invariant_of-result
invariant_of-result c = subst (λ (ns : List Node). IsGraph ns) (sym (whole c)) c.requires.graph

pub returns : goal.returns
returns c = whole c
