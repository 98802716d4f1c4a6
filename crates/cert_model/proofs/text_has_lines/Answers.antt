use Rattle.cert_model.proofs.Spells
use Rattle.cert_model.proofs.text_has_lines.Goals as goal

pub returns : goal.returns
returns c = Spells.text_has_lines
