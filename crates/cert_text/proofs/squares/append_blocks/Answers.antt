use Rattle.std.proofs.Common.{arith}
use Rattle.cover_line.specs.declared.block.Block.{Block}
use Rattle.cover_line.specs.Views.{block_of}
use Rattle.cert_text.specs.Ruled.{HasCounts}
use Rattle.cert_text.proofs.Words.{item_words, items_words, same_words, all_more, all_of, all_mapped}
use Rattle.cert_text.proofs.SquareWords.{one_block, blocks_flat}
use Rattle.cert_text.proofs.squares.append_blocks.Goals as goal

pub loop-block-preserved : goal.loop-block-preserved
loop-block-preserved c = record {
  words = item_words one_block c.args.blocks.now c.args.text.now.items c.loop-block.text.items c.append_block.new.text.items c.loop-block.block-index c.block-item.result
      (omega (arith, c.loop-block-test.true)) c.block-item.is c.loop-block.invariant.words c.in_ok-append_block.ensures.words;
  counts = all_more (λ (b : Block). HasCounts (block_of b)) c.args.blocks.now c.loop-block.block-index c.block-item.result
      (omega (arith, c.loop-block-test.true)) c.block-item.is c.loop-block.invariant.counts c.in_ok-append_block.ensures.counts;
}

pub returns-clause-words : goal.returns-clause-words
returns-clause-words c =
    same_words _ _ _ _ (blocks_flat c.args.blocks.now)
    (items_words one_block c.args.blocks.now c.args.text.now.items c.loop-block.text.items c.loop-block.block-index (omega (arith, c.loop-block-test.false)) c.loop-block.invariant.words)

pub returns-clause-counts : goal.returns-clause-counts
returns-clause-counts c =
    all_mapped HasCounts block_of c.args.blocks.now
    (all_of (λ (b : Block). HasCounts (block_of b)) c.args.blocks.now c.loop-block.block-index (omega (arith, c.loop-block-test.false)) c.loop-block.invariant.counts)
