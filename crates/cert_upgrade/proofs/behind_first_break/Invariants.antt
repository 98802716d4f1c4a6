use Rattle.std.proofs.Common.{◌≡◌, drop}
use Rattle.cert_upgrade.specs.Breaks.{behind_break}
use Rattle.cert_upgrade.proofs.behind_first_break.Given as goal

abbrev pub invariant-loop-i : goal.invariant-loop-i
invariant-loop-i l = behind_break (drop l.i l.cert) ≡ behind_break l.cert
