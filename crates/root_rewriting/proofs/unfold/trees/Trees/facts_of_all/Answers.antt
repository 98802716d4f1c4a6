use Rattle.std.proofs.Common.{◌≡◌, ◌-◌, arith, ◌∷◌, length, take, drop, get_or, refl}
use Rattle.root_rewriting.specs.Nodes.{trees_in}
use Rattle.root_rewriting.proofs.Arena.{hold_all, hold_on, part_below}
use Rattle.root_rewriting.proofs.TreeLists.{first_of_some, none_left}
use Rattle.root_rewriting.proofs.unfold.trees.Trees.facts_of_all.Goals as goal

pub loop-rest-init : goal.loop-rest-init
loop-rest-init c = record { below = c.requires; number = refl; root = refl; choice = refl }

pub facts-requires : goal.facts-requires
facts-requires c =
    let rest = c.loop-rest.rest.now in
    let k = get_or rest 0 0 in
    let later = take (length rest - 1) (drop 1 rest) in
    let is : rest ≡ k ∷ later = first_of_some rest (omega (arith, c.in-len1-up.len_at_least)) in
    part_below (trees_in c.args.self.now) (length c.args.self.now) c.args.parts.now c.loop-rest.all rest c.loop-rest.invariant k later is

pub loop-rest-preserved : goal.loop-rest-preserved
loop-rest-preserved c =
    let rest = c.loop-rest.rest.now in
    let k = get_or rest 0 0 in
    let later = take (length rest - 1) (drop 1 rest) in
    let is : rest ≡ k ∷ later = first_of_some rest (omega (arith, c.in-len1-up.len_at_least)) in
    hold_on (trees_in c.args.self.now) (length c.args.self.now) c.args.parts.now c.loop-rest.all rest c.loop-rest.invariant k later is c.facts.result c.together-all.result c.facts.ensures
    c.together-all.ensures.number c.together-all.ensures.root c.together-all.ensures.choice

pub returns : goal.returns
returns c = hold_all (trees_in c.args.self.now) (length c.args.self.now) c.args.parts.now c.loop-rest.all c.loop-rest.rest.now c.loop-rest.invariant (none_left c.loop-rest.rest.now c.in_default.len_below)
