use Rattle.std.proofs.Common.{◌≡◌, ◌∙◌, List, Option, length, ap, subst, sym, arith}
use Rattle.script_fault.specs.declared.place.Place.{Place}
use Rattle.script_roots.specs.Fresh.{choice_in_root}
use Rattle.root_rewriting.specs.Nodes.{tree_at, trees_in}
use Rattle.root_rewriting.proofs.Arena.{nodes_length}
use Rattle.root_rewriting.specs.Places.{ArePlaces}
use Rattle.root_rewriting.proofs.Sites.{places_more, places_none}
use Rattle.root_rewriting.proofs.places.choice_places.Goals as goal

pub loop-places-init : goal.loop-places-init
loop-places-init c = places_none choice_in_root (trees_in c.args.trees.now) _ c.new-places.ensures.items

pub choice_place-place-requires-clause-places : goal.choice_place-place-requires-clause-places
choice_place-place-requires-clause-places c = subst (λ (ps : List (Option Place)). ArePlaces choice_in_root (trees_in c.args.trees.now) ps) (sym c.as_slice.ensures.value) c.loop-places.invariant

pub choice_place-place-requires-clause-at : goal.choice_place-place-requires-clause-at
choice_place-place-requires-clause-at c = omega (arith, c.len-in-loop-places-2.ensures, c.as_slice.ensures.len)

pub choice_place-place-requires-clause-there : goal.choice_place-place-requires-clause-there
choice_place-place-requires-clause-there c = omega (arith, c.len-in-loop-places-2.ensures, c.len.ensures, c.len-in-loop-places.ensures, c.loop-places-test.true)

pub loop-places-preserved : goal.loop-places-preserved
loop-places-preserved c =
    let count : c.len-in-loop-places-2.result ≡ length c.loop-places.places.items = omega (arith, c.len-in-loop-places-2.ensures, c.loop-places.places.ok.0) in
    subst (λ (ps : List (Option Place)). ArePlaces choice_in_root (trees_in c.args.trees.now) ps) (sym c.in_ok-push.ensures.items)
    (places_more choice_in_root (trees_in c.args.trees.now) c.loop-places.places.items c.loop-places.invariant c.choice_place-place.result (c.choice_place-place.ensures ∙ ap (λ n. choice_in_root (tree_at (trees_in c.args.trees.now) n)) count)
    (omega (arith, c.len.ensures, c.len-in-loop-places.ensures, c.loop-places-test.true, c.loop-places.places.ok.0, nodes_length c.args.trees.now)))

pub returns-clause-all : goal.returns-clause-all
returns-clause-all c = omega (arith, c.len.ensures, c.len-in-loop-places.ensures, c.loop-places-test.false, c.loop-places.places.ok.0, c.loop-places.invariant.within, nodes_length c.args.trees.now)
