use Rattle.std.proofs.Common.{◌≡◌, ◌<◌, ◌∙◌, ap, sym, length, get_or, arith}
use Rattle.std.proofs.lemmas.List.{get_or-map, length-map, take_more_same}
use Rattle.cover_model.specs.Views.{multipliers_of}
use Rattle.cover_rule.specs.Pairs.{Pair, pair_of, pairs_of, marked_pairs}
use Rattle.cover_rule.proofs.Voids.{atom_marked, pair_of_code, length_pairs}
use Rattle.cover_rule.proofs.voiding.is_of.Goals as goal

pub marked_pair-marked-requires : goal.marked_pair-marked-requires
marked_pair-marked-requires c =
    atom_marked c.args.lits.now c.args.multipliers.now c.loop-k.k c.index-multipliers-k.result c.requires c.loop-k-test.true c.index-multipliers-k.is

pub loop-k-preserved : goal.loop-k-preserved
loop-k-preserved c =
    let marks = c.args.lits.now in let ms = c.args.multipliers.now in let ps = c.args.pairs.now in let k = c.loop-k.k in let x = c.index-pairs-k.result in
    let inside : k < length ps = omega (arith, c.loop-k-test.true, c.loop-k.invariant.count) in
    let d : Pair = pair_of x in
    let mine : get_or (pairs_of ps) k d ≡ d = get_or-map pair_of ps k x d inside ∙ ap pair_of (sym c.index-pairs-k.is) in
    let same : d ≡ pair_of c.marked_pair-marked.result = c.is_same.ensures c.if-not-is_same.false in
    let theirs = pair_of_code marks ms k c.index-multipliers-k.result d c.loop-k-test.true c.index-multipliers-k.is in
    record {
      count = c.loop-k.invariant.count;
      same = take_more_same (pairs_of ps) (marked_pairs marks (multipliers_of ms)) k d (omega (arith, inside, length-map ps pair_of)) (omega (arith, c.loop-k-test.true, length_pairs marks ms)) c.loop-k.invariant.same
          (mine ∙ same ∙ c.marked_pair-marked.ensures ∙ sym theirs);
    }
