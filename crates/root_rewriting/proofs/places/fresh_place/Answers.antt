use Rattle.std.proofs.Common.{◌∙◌, List, ℕ, length, map, ap, subst, sym}
use Rattle.script_roots.specs.Fresh.{fresh_place}
use Rattle.root_rewriting.specs.Nodes.{AreBelow, IsBelow, node_tree, parts_at, trees_in}
use Rattle.root_rewriting.specs.declared.unfold.trees.Node.{Node}
use Rattle.root_rewriting.specs.Places.{first_in, place_at}
use Rattle.root_rewriting.proofs.Alike.{shown}
use Rattle.root_rewriting.proofs.Sites.{fresh_in_all, no_fresh_place, parts_places}
use Rattle.root_rewriting.proofs.places.fresh_place.Goals as goal

pub first_of-requires : goal.first_of-requires
first_of-requires c = subst (λ (ks : List ℕ). AreBelow (length c.args.places.now) ks) (sym c.deref.ensures.value) (subst (λ n. AreBelow n c.in-Applied.parts.items) c.requires.at (subst (λ (x : Node). IsBelow c.args.at x) c.in-Applied.is c.look.ensures.1))

pub returns-in-Applied : goal.returns-in-Applied
returns-in-Applied c =
    let below : AreBelow (length c.args.places.now) c.in-Applied.parts.items = subst (λ n. AreBelow n c.in-Applied.parts.items) c.requires.at (subst (λ (x : Node). IsBelow c.args.at x) c.in-Applied.is c.look.ensures.1) in
    c.first_of.ensures ∙ ap (λ ks. first_in (map (place_at c.args.places.now) ks)) c.deref.ensures.value ∙
    ap first_in (parts_places fresh_place (trees_in c.args.trees.now) c.args.places.now c.requires.places c.in-Applied.parts.items below) ∙ sym (fresh_in_all (parts_at (trees_in c.args.trees.now) c.in-Applied.parts.items)) ∙
    sym (ap fresh_place ((shown (trees_in c.args.trees.now) c.args.at c.look.result.now c.look.ensures) ∙ ap (node_tree (trees_in c.args.trees.now)) c.in-Applied.is))

pub returns-in-Root : goal.returns-in-Root
returns-in-Root c = sym (ap fresh_place ((shown (trees_in c.args.trees.now) c.args.at c.look.result.now c.look.ensures) ∙ ap (node_tree (trees_in c.args.trees.now)) c.in-Root.is))

pub returns-in-Quotient : goal.returns-in-Quotient
returns-in-Quotient c = sym (ap fresh_place ((shown (trees_in c.args.trees.now) c.args.at c.look.result.now c.look.ensures) ∙ ap (node_tree (trees_in c.args.trees.now)) c.in-Quotient.is))

pub returns-in_default : goal.returns-in_default
returns-in_default c = no_fresh_place (trees_in c.args.trees.now) c.look.result.now c.in_default.not-Applied c.in_default.not-Root c.in_default.not-Quotient ∙ sym (ap fresh_place (shown (trees_in c.args.trees.now) c.args.at c.look.result.now c.look.ensures))
