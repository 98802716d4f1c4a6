use Rattle.std.proofs.Common.{map, take}
use Rattle.std.specs.List.{AllByRecursion}
use Rattle.cover_line.specs.declared.block.Block.{Block}
use Rattle.cover_line.specs.Views.{block_of}
use Rattle.cert_text.specs.Ruled.{HasCounts, HasWords}
use Rattle.cert_text.proofs.Words.{flat}
use Rattle.cert_text.proofs.SquareWords.{one_block}
use Rattle.cert_text.proofs.squares.append_blocks.Given as goal

abbrev pub invariant-loop-block : goal.invariant-loop-block
invariant-loop-block l = record {
  words : HasWords l.fn.text.items (flat (map one_block (take l.block-index l.blocks))) l.text.items;
  counts : AllByRecursion (λ (b : Block). HasCounts (block_of b)) (take l.block-index l.blocks);
}
