use Rattle.cert_model.proofs.SessionTexts
use Rattle.cert_model.proofs.session_text_has_lines.Goals as goal

pub returns : goal.returns
returns c = SessionTexts.session_text_has_lines
