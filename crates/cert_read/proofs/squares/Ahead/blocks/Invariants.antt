use Rattle.std.proofs.Common.{◌≡◌, ◌+◌, ◌-◌, ◌≤◌, length}
use Rattle.cover_line.specs.Views.{blocks_of}
use Rattle.cert_read.specs.CertLine.{take_blocks}
use Rattle.cert_read.specs.Taking.{words_ahead}
use Rattle.cert_read.proofs.Takings.{onto}
use Rattle.cert_read.proofs.squares.Ahead.blocks.Given as goal

-- each block that was read has a word
abbrev pub invariant-loop-alloc : goal.invariant-loop-alloc
invariant-loop-alloc l = record {
  fits : length (words_ahead l.self) + length l.blocks.items ≤ length (words_ahead l.fn.self);
  read : take_blocks (length (words_ahead l.fn.self)) (words_ahead l.fn.self) ≡
      onto (blocks_of l.blocks.items) (take_blocks (length (words_ahead l.fn.self) - length l.blocks.items) (words_ahead l.self));
}

abbrev pub decreases-loop-alloc : goal.decreases-loop-alloc
decreases-loop-alloc l = length (words_ahead l.self)
