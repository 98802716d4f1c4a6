use Rattle.std.proofs.Common.{◌-◌, ◌∙◌, length, get_or, take, drop, map, refl, ap, sym, arith}
use Rattle.root_rewriting.proofs.TreeLists.{first_of_some, none_left}
use Rattle.root_rewriting.specs.Places.{first_in, place_at}
use Rattle.root_rewriting.proofs.Sites.{first_found, first_later, part_within}
use Rattle.root_rewriting.proofs.places.first_of.Goals as goal

pub loop-rest-init : goal.loop-rest-init
loop-rest-init c = record { below = c.requires; ends = refl }

pub bounds : goal.bounds
bounds c = part_within c.args.places.now c.args.parts.now c.loop-rest.rest.now c.loop-rest.invariant (get_or c.loop-rest.rest.now 0 0) (take (length c.loop-rest.rest.now - 1) (drop 1 c.loop-rest.rest.now)) (first_of_some c.loop-rest.rest.now (omega (arith, c.in-len1-up.len_at_least)))

pub bounds-places-part : goal.bounds-places-part
bounds-places-part c = part_within c.args.places.now c.args.parts.now c.loop-rest.rest.now c.loop-rest.invariant (get_or c.loop-rest.rest.now 0 0) (take (length c.loop-rest.rest.now - 1) (drop 1 c.loop-rest.rest.now)) (first_of_some c.loop-rest.rest.now (omega (arith, c.in-len1-up.len_at_least)))

pub returns-in-Some : goal.returns-in-Some
returns-in-Some c = first_found c.args.places.now c.args.parts.now c.loop-rest.rest.now c.loop-rest.invariant (get_or c.loop-rest.rest.now 0 0) (take (length c.loop-rest.rest.now - 1) (drop 1 c.loop-rest.rest.now)) (first_of_some c.loop-rest.rest.now (omega (arith, c.in-len1-up.len_at_least))) c.in-Some.place c.in-Some.is

pub loop-rest-preserved : goal.loop-rest-preserved
loop-rest-preserved c = first_later c.args.places.now c.args.parts.now c.loop-rest.rest.now c.loop-rest.invariant (get_or c.loop-rest.rest.now 0 0) (take (length c.loop-rest.rest.now - 1) (drop 1 c.loop-rest.rest.now)) (first_of_some c.loop-rest.rest.now (omega (arith, c.in-len1-up.len_at_least))) c.in_default-places.is

pub returns : goal.returns
returns c = ap (λ ks. first_in (map (place_at c.args.places.now) ks)) (sym (none_left c.loop-rest.rest.now c.in_default.len_below)) ∙ c.loop-rest.invariant.ends
