use Rattle.cert_model.proofs.SessionHeader
use Rattle.cert_model.proofs.session_header_fits.Goals as goal

pub returns : goal.returns
returns c = SessionHeader.session_header_fits
