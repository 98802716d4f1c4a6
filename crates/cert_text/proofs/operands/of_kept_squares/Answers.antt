use Rattle.cert_text.proofs.operands.of_kept_squares.Goals as goal

pub returns-clause-few : goal.returns-clause-few
returns-clause-few c = rw (c.deref.ensures.value, c.deref-2.ensures.value) (c.args.squares.now.few, c.args.squares.now.shaped)
