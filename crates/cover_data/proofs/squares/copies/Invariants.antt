use Rattle.std.proofs.Common.{◌≡◌, map, take}
use Rattle.cover_line.specs.Views.{block_of}
use Rattle.cover_data.proofs.squares.copies.Given as goal

-- those before are copied
abbrev pub invariant-loop-block : goal.invariant-loop-block
invariant-loop-block l = map block_of l.all.items ≡ map block_of (take l.block-index l.blocks)
