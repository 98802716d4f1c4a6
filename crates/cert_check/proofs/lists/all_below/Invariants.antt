use Rattle.std.proofs.Common.{◌≡◌, drop}
use Rattle.cert_model.specs.Due.{all_below}
use Rattle.cert_check.proofs.lists.all_below.Given as goal

abbrev pub invariant-loop-j : goal.invariant-loop-j
invariant-loop-j l = all_below l.count l.js ≡ all_below l.count (drop l.j-index l.js)
