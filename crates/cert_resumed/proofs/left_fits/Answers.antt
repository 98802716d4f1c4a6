use Rattle.cert_resumed.proofs.Within
use Rattle.cert_resumed.proofs.left_fits.Goals as goal

pub returns : goal.returns
returns c = Within.left_fits
