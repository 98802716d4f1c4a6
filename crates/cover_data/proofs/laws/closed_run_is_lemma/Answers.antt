use Rattle.cover_data.proofs.Proved.{closed_is_lemma}
use Rattle.cover_data.proofs.laws.closed_run_is_lemma.Goals as goal

pub returns : goal.returns
returns c = closed_is_lemma
