use Rattle.std.proofs.Common.{◌≡◌, ◌-◌, arith, ◌∷◌, length, take, drop, get_or}
use Rattle.smt_sexp.specs.Views.{place_of}
use Rattle.root_rewriting.proofs.Dividing as dividing
use Rattle.root_rewriting.proofs.TreeLists.{first_of_some, none_left}
use Rattle.root_rewriting.proofs.unfold.operate.divide_by_all.Goals as goal

pub loop-rest-init : goal.loop-rest-init
loop-rest-init c = dividing.divides_begins c.args.trees.now (place_of c.args.place) c.args.name.now c.args.dividend c.args.divisors.now c.requires.dividend c.requires.divisors

pub divide_two-requires-clause-divisor : goal.divide_two-requires-clause-divisor
divide_two-requires-clause-divisor c =
    let rest = c.loop-rest.rest.now in
    let k = get_or rest 0 0 in
    let later = take (length rest - 1) (drop 1 rest) in
    let is : rest ≡ k ∷ later = first_of_some rest (omega (arith, c.in-len1-up.len_at_least)) in
    dividing.divisor_there c.args.trees.now c.loop-rest.trees _ _ _ _ c.loop-rest.made rest c.loop-rest.invariant k later is

pub loop-rest-preserved : goal.loop-rest-preserved
loop-rest-preserved c =
    let rest = c.loop-rest.rest.now in
    let k = get_or rest 0 0 in
    let later = take (length rest - 1) (drop 1 rest) in
    let is : rest ≡ k ∷ later = first_of_some rest (omega (arith, c.in-len1-up.len_at_least)) in
    dividing.divides_goes c.args.trees.now c.loop-rest.trees _ _ _ _ c.loop-rest.made rest c.loop-rest.invariant k later is c.divide_two.new.trees c.in_ok-made.made c.in_ok-made.ensures

pub returns : goal.returns
returns c = dividing.divides_ends c.args.trees.now c.loop-rest.trees _ _ _ _ c.loop-rest.made c.loop-rest.rest.now c.loop-rest.invariant (none_left c.loop-rest.rest.now c.in_default.len_below)
