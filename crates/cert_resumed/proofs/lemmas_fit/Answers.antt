use Rattle.cert_resumed.proofs.LemmaStates
use Rattle.cert_resumed.proofs.lemmas_fit.Goals as goal

pub returns : goal.returns
returns c = λ p g b bytes c' h v. LemmaStates.lemmas_fit p g b bytes c' h v
