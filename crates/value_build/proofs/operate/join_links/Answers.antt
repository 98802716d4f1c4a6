use Rattle.std.proofs.Common.{◌≡◌, sym, subst, ◌∙◌, arith, ◌<◌, ℕ, length, List, true, nat_le}
use Rattle.term_build.specs.Built.{stand_of}
use Rattle.term_build.specs.declared.connectives.Pair.{Pair}
use Rattle.std.specs.List.{All}
use Rattle.term_build.specs.Pairs.{DrawsEach}
use Rattle.value_build.proofs.Operating.{bools_seen, lists_below}
use Rattle.value_build.proofs.Joining.{joins_one, joins_all}
use Rattle.value_build.proofs.Taken.{some_pairs}
use Rattle.value_build.proofs.operate.join_links.Goals as goal

pub on_bools-requires-clause-takes : goal.on_bools-requires-clause-takes
on_bools-requires-clause-takes c = subst (λ (ps : List Pair). nat_le 1 (length ps) ≡ true) (sym (c.deref.ensures.value ∙ c.in_ok-pairs.ensures)) (some_pairs c.args.links.now c.requires.some)

pub on_bools-requires-clause-lists : goal.on_bools-requires-clause-lists
on_bools-requires-clause-lists c = subst (λ (ns : List ℕ). All (λ (k : ℕ). k < length c.args.maker.now.bounds) ns) (sym c.in_ok-lists.ensures)
    (lists_below c.args.maker.now.bounds _ c.requires.known.1 (bools_seen c.args.maker.now.made c.args.maker.now.drawn c.args.maker.now.bounds c.requires.known.0 c.requires.known.1 c.args.links.now c.requires.known.2 c.requires.bools).1)

pub on_bools-requires-clause-drawn : goal.on_bools-requires-clause-drawn
on_bools-requires-clause-drawn c = (
  c.requires.known.0,
  subst (λ (ps : List Pair). DrawsEach (stand_of c.args.maker.now.made).trees c.args.maker.now.drawn c.requires.known.0 ps) (sym (c.deref.ensures.value ∙ c.in_ok-pairs.ensures))
      (bools_seen c.args.maker.now.made c.args.maker.now.drawn c.args.maker.now.bounds c.requires.known.0 c.requires.known.1 c.args.links.now c.requires.known.2 c.requires.bools).0,
)

pub returns-in-Some-clause-does : goal.returns-in-Some-clause-does
returns-in-Some-clause-does c = joins_one c.args.maker.now.made c.args.maker.now.drawn c.args.maker.now.bounds c.args.spread c.args.links.now c.in-Some.value c.in-Some.ensures c.requires.bools

pub returns-clause-does : goal.returns-clause-does
returns-clause-does c = joins_all c.args.maker.now.made c.on_bools.new.maker.made c.args.maker.now.drawn c.on_bools.new.maker.drawn c.args.maker.now.bounds c.on_bools.new.maker.bounds c.args.spread c.args.links.now c.deref.result.now c.in_ok-lists.lists.items c.on_bools.result
    (c.deref.ensures.value ∙ c.in_ok-pairs.ensures) c.in_ok-lists.ensures c.in_default.ensures c.requires.bools
    (λ n. omega (arith, n, c.requires.some)) c.on_bools.ensures.does
