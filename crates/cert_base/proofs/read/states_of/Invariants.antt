use Rattle.std.proofs.Common.{◌≡◌, take}
use Rattle.cert_base.proofs.read.states_of.Given as goal

-- the states so far
abbrev pub invariant-loop-i : goal.invariant-loop-i
invariant-loop-i l = l.states.items ≡ take l.i l.lemmas
