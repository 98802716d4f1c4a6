use Rattle.std.proofs.Common.{◌∙◌, List, Option, length, ap, subst, sym}
use Rattle.script_fault.specs.declared.place.Place.{Place}
use Rattle.script_roots.specs.Fresh.{choice_in_root, fresh_place}
use Rattle.root_rewriting.specs.Nodes.{trees_in}
use Rattle.root_rewriting.specs.Places.{ArePlaces}
use Rattle.root_rewriting.proofs.places.left_out.Goals as goal

pub first_left_out-requires-clause-choices : goal.first_left_out-requires-clause-choices
first_left_out-requires-clause-choices c = subst (λ (ps : List (Option Place)). ArePlaces choice_in_root (trees_in c.args.asserted.now.trees) ps) (sym c.as_slice.ensures.value) c.in_ok-choices.ensures.places

pub first_left_out-requires-clause-fresh : goal.first_left_out-requires-clause-fresh
first_left_out-requires-clause-fresh c = subst (λ (ps : List (Option Place)). ArePlaces fresh_place (trees_in c.args.asserted.now.trees) ps) (sym c.as_slice-2.ensures.value) c.in_ok-fresh.ensures.places

pub first_left_out-requires-clause-all : goal.first_left_out-requires-clause-all
first_left_out-requires-clause-all c = ap length c.as_slice.ensures.value ∙ c.in_ok-choices.ensures.all

pub first_left_out-requires-clause-both : goal.first_left_out-requires-clause-both
first_left_out-requires-clause-both c = ap length c.as_slice-2.ensures.value ∙ c.in_ok-fresh.ensures.all
