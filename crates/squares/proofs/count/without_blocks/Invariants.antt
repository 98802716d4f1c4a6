use Rattle.std.proofs.Common.{◌≡◌, ◌+◌, map, drop}
use Rattle.cover_line.specs.Views.{block_of}
use Rattle.square_model.specs.Positive.{blocks_numbers}
use Rattle.squares.proofs.count.without_blocks.Given as goal

-- those before are taken away
abbrev pub invariant-loop-block : goal.invariant-loop-block
invariant-loop-block l = l.less + blocks_numbers (map block_of l.blocks) ≡ l.left + blocks_numbers (map block_of (drop l.block-index l.blocks))
