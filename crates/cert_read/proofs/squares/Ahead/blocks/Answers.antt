use Rattle.std.proofs.Common.{◌≡◌, ◌<◌, ◌+◌, ◌-◌, ℕ, List, [], ◌∷◌, length, ap, sym, ◌∙◌, arith}
use Rattle.std.proofs.lemmas.List.{map-append, length-append}
use Rattle.cover_line.specs.Line.{Block}
use Rattle.cover_line.specs.Views.{block_of, blocks_of}
use Rattle.cert_read.specs.CertLine.{take_blocks}
use Rattle.cert_read.specs.Taking.{blocks_in, words_ahead}
use Rattle.cert_read.proofs.Takings.{onto, same_fault, fault_told, blocks_fault, words_left, no_words_left, fewer_left, no_blocks_yet, blocks_on, blocks_end}
use Rattle.cert_read.proofs.squares.Ahead.blocks.Goals as goal

pub loop-alloc-init : goal.loop-alloc-init
loop-alloc-init c =
    let words = words_ahead c.args.self.now in
    let blocks = c.new-blocks.result.items in
    let none : length blocks ≡ 0 = ap length c.new-blocks.ensures.items in
    record {
      fits = omega (arith, none);
      read = no_blocks_yet (length words) words
          ∙ ap (λ (gs : List Block). onto gs (take_blocks (length words - 0) words)) (sym (ap blocks_of c.new-blocks.ensures.items))
          ∙ ap (λ (n : ℕ). onto (blocks_of blocks) (take_blocks (length words - n) words)) (sym none);
    }

pub loop-alloc-preserved : goal.loop-alloc-preserved
loop-alloc-preserved c =
    let most = length (words_ahead c.args.self.now) in
    let words = words_ahead c.loop-alloc.self in
    let left = words_ahead c.block.new.self in
    let blocks = c.loop-alloc.blocks.items in
    let block = c.in_ok-block.field-0 in
    let some : 0 < length words = words_left c.loop-alloc.self.rest (sym c.is_some.ensures ∙ c.loop-alloc-test.true) in
    let fewer : length left < length words = fewer_left words left (block_of block) some c.in_ok-block.ensures in
    let one : length c.push.new.self.items ≡ length blocks + 1 = ap length c.in_ok-push.ensures.items ∙ length-append blocks (block ∷ []) in
    record {
      fits = omega (arith, fewer, one, c.loop-alloc.invariant.fits);
      read = c.loop-alloc.invariant.read
          ∙ blocks_on most (length blocks) (blocks_of blocks) words (block_of block) left some (omega (arith, some, c.loop-alloc.invariant.fits)) c.in_ok-block.ensures
          ∙ ap (λ (gs : List Block). onto gs (take_blocks (most - (length blocks + 1)) left)) (sym (ap blocks_of c.in_ok-push.ensures.items ∙ map-append block_of blocks (block ∷ [])))
          ∙ ap (λ (n : ℕ). onto (blocks_of c.push.new.self.items) (take_blocks (most - n) left)) (sym one);
    }

pub loop-alloc-smaller : goal.loop-alloc-smaller
loop-alloc-smaller c =
    fewer_left (words_ahead c.loop-alloc.self) (words_ahead c.block.new.self) (block_of c.in_ok-block.field-0)
    (words_left c.loop-alloc.self.rest (sym c.is_some.ensures ∙ c.loop-alloc-test.true)) c.in_ok-block.ensures

pub returns-in_err-block : goal.returns-in_err-block
returns-in_err-block c =
    let fault = c.in_err-block.field-0.0 in
    let most = length (words_ahead c.args.self.now) in
    let words = words_ahead c.loop-alloc.self in
    let blocks = c.loop-alloc.blocks.items in
    let all = take_blocks most (words_ahead c.args.self.now) in
    let some : 0 < length words = words_left c.loop-alloc.self.rest (sym c.is_some.ensures ∙ c.loop-alloc-test.true) in
    fault_told blocks_in all c.from_residual.result fault (words_ahead c.block.new.self) c.from_residual.ensures
    (same_fault fault all (onto (blocks_of blocks) (take_blocks (most - length blocks) words)) c.loop-alloc.invariant.read
    (blocks_fault fault most (length blocks) (blocks_of blocks) words some (omega (arith, some, c.loop-alloc.invariant.fits)) c.in_err-block.ensures))

pub returns : goal.returns
returns c =
    let most = length (words_ahead c.args.self.now) in
    let blocks = c.loop-alloc.blocks.items in
    c.loop-alloc.invariant.read
    ∙ blocks_end (most - length blocks) (blocks_of blocks) (words_ahead c.loop-alloc.self) (no_words_left c.loop-alloc.self.rest (sym c.is_some.ensures ∙ c.loop-alloc-test.false))
