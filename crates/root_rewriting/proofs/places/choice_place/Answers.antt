use Rattle.std.proofs.Common.{◌≡◌, ◌<◌, ◌∙◌, List, ℕ, Some, None, [], ◌∷◌, cond, length, get_or, map, ap, subst, sym, arith}
use Rattle.script_roots.specs.Fresh.{choice_in_root, first_place}
use Rattle.script_roots.specs.Tree.{holds_choice}
use Rattle.smt_sexp.specs.Views.{place_of}
use Rattle.root_rewriting.specs.Nodes.{AreBelow, IsBelow, node_tree, parts_at, tree_at, trees_in}
use Rattle.root_rewriting.specs.declared.unfold.trees.Node.{Node}
use Rattle.root_rewriting.specs.Places.{first_in, place_at, seen_place}
use Rattle.root_rewriting.proofs.Alike.{shown}
use Rattle.root_rewriting.proofs.Sites.{choices_in, first_or_none, no_choice_place, parts_places}
use Rattle.root_rewriting.proofs.places.choice_place.Goals as goal

pub first_of-requires : goal.first_of-requires
first_of-requires c = subst (λ (ks : List ℕ). AreBelow (length c.args.places.now) ks) (sym c.deref.ensures.value) (subst (λ n. AreBelow n c.in-Applied.parts.items) c.requires.at (subst (λ (x : Node). IsBelow c.args.at x) c.in-Applied.is c.look.ensures.1))

pub returns-in-Applied : goal.returns-in-Applied
returns-in-Applied c =
    let below : AreBelow (length c.args.places.now) c.in-Applied.parts.items = subst (λ n. AreBelow n c.in-Applied.parts.items) c.requires.at (subst (λ (x : Node). IsBelow c.args.at x) c.in-Applied.is c.look.ensures.1) in
    c.first_of.ensures ∙ ap (λ ks. first_in (map (place_at c.args.places.now) ks)) c.deref.ensures.value ∙
    ap first_in (parts_places choice_in_root (trees_in c.args.trees.now) c.args.places.now c.requires.places c.in-Applied.parts.items below) ∙ sym (choices_in (parts_at (trees_in c.args.trees.now) c.in-Applied.parts.items)) ∙
    sym (ap choice_in_root ((shown (trees_in c.args.trees.now) c.args.at c.look.result.now c.look.ensures) ∙ ap (node_tree (trees_in c.args.trees.now)) c.in-Applied.is))

pub bounds : goal.bounds
bounds c = let lt : c.in-Root.part < c.args.at = subst (λ (x : Node). IsBelow c.args.at x) c.in-Root.is c.look.ensures.1 in omega (arith, c.requires.at)

pub bounds-places-part : goal.bounds-places-part
bounds-places-part c = let lt : c.in-Root.part < c.args.at = subst (λ (x : Node). IsBelow c.args.at x) c.in-Root.is c.look.ensures.1 in omega (arith, c.requires.at)

pub facts-requires : goal.facts-requires
facts-requires c = let lt : c.in-Root.part < c.args.at = subst (λ (x : Node). IsBelow c.args.at x) c.in-Root.is c.look.ensures.1 in omega (arith, c.requires.there)

pub first_of-requires-in-Quotient : goal.first_of-requires-in-Quotient
first_of-requires-in-Quotient c = let h : (c.in-Quotient.dividend < c.args.at) × (c.in-Quotient.divisor < c.args.at) = subst (λ (x : Node). IsBelow c.args.at x) c.in-Quotient.is c.look.ensures.1 in (omega (arith, h.0, c.requires.at), (omega (arith, h.1, c.requires.at), tt))

pub returns-in-Some : goal.returns-in-Some
returns-in-Some c =
    let lt : c.in-Root.part < c.args.at = subst (λ (x : Node). IsBelow c.args.at x) c.in-Root.is c.look.ensures.1 in
    let t = tree_at (trees_in c.args.trees.now) c.in-Root.part in
    let here = c.requires.places.are c.in-Root.part (omega (arith, c.requires.at)) in
    let is : get_or c.args.places.now c.in-Root.part None ≡ Some c.in-Some.inner = c.in-Some.is in
    ap (λ p. first_place p (cond (holds_choice t) (Some (place_of c.in-Root.place)) None)) (ap seen_place (sym is) ∙ here) ∙ sym (ap choice_in_root ((shown (trees_in c.args.trees.now) c.args.at c.look.result.now c.look.ensures) ∙ ap (node_tree (trees_in c.args.trees.now)) c.in-Root.is))

pub returns-then-facts : goal.returns-then-facts
returns-then-facts c =
    let lt : c.in-Root.part < c.args.at = subst (λ (x : Node). IsBelow c.args.at x) c.in-Root.is c.look.ensures.1 in
    let t = tree_at (trees_in c.args.trees.now) c.in-Root.part in
    let here = c.requires.places.are c.in-Root.part (omega (arith, c.requires.at)) in
    let is : get_or c.args.places.now c.in-Root.part None ≡ None = c.in-None.is in
    ap (λ b. cond b (Some (place_of c.in-Root.place)) None) (sym c.if-facts.true ∙ c.facts.ensures.choice) ∙
    ap (λ p. first_place p (cond (holds_choice t) (Some (place_of c.in-Root.place)) None)) (ap seen_place (sym is) ∙ here) ∙ sym (ap choice_in_root ((shown (trees_in c.args.trees.now) c.args.at c.look.result.now c.look.ensures) ∙ ap (node_tree (trees_in c.args.trees.now)) c.in-Root.is))

pub returns-else-facts : goal.returns-else-facts
returns-else-facts c =
    let lt : c.in-Root.part < c.args.at = subst (λ (x : Node). IsBelow c.args.at x) c.in-Root.is c.look.ensures.1 in
    let t = tree_at (trees_in c.args.trees.now) c.in-Root.part in
    let here = c.requires.places.are c.in-Root.part (omega (arith, c.requires.at)) in
    let is : get_or c.args.places.now c.in-Root.part None ≡ None = c.in-None.is in
    ap (λ b. cond b (Some (place_of c.in-Root.place)) None) (sym c.if-facts.false ∙ c.facts.ensures.choice) ∙
    ap (λ p. first_place p (cond (holds_choice t) (Some (place_of c.in-Root.place)) None)) (ap seen_place (sym is) ∙ here) ∙ sym (ap choice_in_root ((shown (trees_in c.args.trees.now) c.args.at c.look.result.now c.look.ensures) ∙ ap (node_tree (trees_in c.args.trees.now)) c.in-Root.is))

pub returns-in-Quotient : goal.returns-in-Quotient
returns-in-Quotient c =
    let h : (c.in-Quotient.dividend < c.args.at) × (c.in-Quotient.divisor < c.args.at) = subst (λ (x : Node). IsBelow c.args.at x) c.in-Quotient.is c.look.ensures.1 in
    c.first_of-in-Quotient.ensures ∙
    ap first_in (parts_places choice_in_root (trees_in c.args.trees.now) c.args.places.now c.requires.places (c.in-Quotient.dividend ∷ c.in-Quotient.divisor ∷ []) (omega (arith, h.0, c.requires.at), (omega (arith, h.1, c.requires.at), tt))) ∙
    ap (first_place (choice_in_root (tree_at (trees_in c.args.trees.now) c.in-Quotient.dividend))) (first_or_none (choice_in_root (tree_at (trees_in c.args.trees.now) c.in-Quotient.divisor))) ∙
    sym (ap choice_in_root ((shown (trees_in c.args.trees.now) c.args.at c.look.result.now c.look.ensures) ∙ ap (node_tree (trees_in c.args.trees.now)) c.in-Quotient.is))

pub returns-in_default : goal.returns-in_default
returns-in_default c = no_choice_place (trees_in c.args.trees.now) c.look.result.now c.in_default.not-Applied c.in_default.not-Root c.in_default.not-Quotient ∙ sym (ap choice_in_root (shown (trees_in c.args.trees.now) c.args.at c.look.result.now c.look.ensures))
