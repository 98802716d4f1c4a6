use Rattle.cert_model.proofs.Versions
use Rattle.cert_model.proofs.version_3_reads_version_2.Goals as goal

pub returns : goal.returns
returns c = record { lawful = Versions.lawful_in_version_3; honest = Versions.honest_in_version_3 }
