use Rattle.cert_model.proofs.LeastHeader
use Rattle.cert_model.proofs.least_header_fits.Goals as goal

pub returns : goal.returns
returns c = LeastHeader.least_header_fits
