use Rattle.std.proofs.Common.{ap, map, ◌∙◌}
use Rattle.poly_graph.specs.FormViews.{form_node_of}
use Rattle.poly_graph.specs.Views.{atom_of, node_of}
use Rattle.poly_graph.specs.contracts.form_node.FormNodeClone.TheImpl as form_clone
use Rattle.poly_graph.proofs.Clones.{map_clones, form_clone_is}
use Rattle.problem_build.proofs.Changed.{cut_is}
use Rattle.problem_build.proofs.change.made_since.Goals as goal

pub returns : goal.returns
returns c = record {
  kept = c.new.ensures.kept;
  nodes = ap (λ ns. map node_of ns.items) c.new.ensures.nodes ∙ ap (map node_of) c.in_ok-nodes.ensures.items ∙ cut_is node_of c.args.kept.nodes c.nodes.result.now c.args.builder.now.nodes c.nodes.ensures.nodes;
  atoms = ap (λ ns. map atom_of ns.items) c.new.ensures.atoms ∙ ap (map atom_of) c.in_ok-atoms.ensures.items ∙ cut_is atom_of c.args.kept.atoms c.atoms.result.now c.args.builder.now.atoms c.atoms.ensures;
  forms = ap (λ ns. map form_node_of ns.items) c.new.ensures.forms ∙ map_clones form_node_of (form_clone.ghosts).is_clone _ c.in_ok-forms.forms.items form_clone_is c.in_ok-forms.ensures.items ∙ cut_is form_node_of c.args.kept.forms c.forms.result.now c.args.builder.now.forms c.forms.ensures;
  axes = ap (λ a. a.items) c.new.ensures.axes;
  root = c.new.ensures.root;
}
