use Rattle.solve_core.proofs.Asked.{handed_hold}
use Rattle.solve_core.proofs.team.at_hand.Goals as goal

pub returns : goal.returns
returns c = handed_hold c.args.book.now c.first_handed.ensures c.first_handed.result c.in_ok-lemmas.lemmas.items c.in_ok-lemmas.ensures.0
