use Rattle.cover_model.proofs.Carried.{carried_lemma_holds}
use Rattle.cover_model.proofs.laws.carried_lemmas_hold.Goals as goal

pub returns : goal.returns
returns c = carried_lemma_holds
