use Rattle.cover_line.specs.Views.{blocks_of, multipliers_of}
use Rattle.cover_model.specs.Rules.{void_squares}
use Rattle.cover_rule.specs.Refusals.{ended_with, squares_refusal, squaring_refusal}
use Rattle.box_worker.proofs.attempt.squares.Goals as goal

pub returns : goal.returns
returns c =
    let P = c.args.patch.now in let ms = multipliers_of c.args.pairs.items in let bs = blocks_of c.args.blocks.items in
    c.was_done.ensures.tested (squaring_refusal P ms bs) (squares_refusal P ms bs) P (ended_with P (void_squares ms bs)) c.squares-answer.new.self c.squares-answer.ensures
