use Rattle.cert_model.proofs.Header
use Rattle.cert_model.proofs.header_fits.Goals as goal

pub returns : goal.returns
returns c = Header.header_fits
