use Rattle.std.proofs.Common.{◌∙◌, ◌∷◌, [], ap}
use Rattle.std.proofs.lemmas.List.{map-append}
use Rattle.cover_rule.specs.Pairs.{pair_of, pairs_of}
use Rattle.cover_rule.proofs.Voids.{atom_marked, one_more}
use Rattle.cover_rule.proofs.voiding.put.Goals as goal

pub marked_pair-marked-requires : goal.marked_pair-marked-requires
marked_pair-marked-requires c =
    atom_marked c.args.lits.now c.args.multipliers.now c.loop-k.k c.index-multipliers-k.result c.requires c.loop-k-test.true c.index-multipliers-k.is

pub loop-k-preserved : goal.loop-k-preserved
loop-k-preserved c =
    let y = c.marked_pair-marked.result in let xs = c.loop-k.pairs.items in
    ap pairs_of c.in-Ok.ensures.items ∙ map-append pair_of xs (y ∷ [])
    ∙ one_more c.args.lits.now c.args.multipliers.now c.loop-k.k c.index-multipliers-k.result (pairs_of xs) (pair_of y) c.loop-k-test.true c.index-multipliers-k.is c.marked_pair-marked.ensures c.loop-k.invariant
