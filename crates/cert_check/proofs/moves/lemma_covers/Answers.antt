use Rattle.cert_check.specs.States.{state_of}
use Rattle.cert_check.proofs.Carried.{all_like}
use Rattle.cert_check.proofs.moves.lemma_covers.Goals as goal

pub covers-requires : goal.covers-requires
covers-requires c = all_like c.args._problem.now (state_of c.args.state.now) c.args.lemmas.now c.requires.fits c.requires.lemmas
