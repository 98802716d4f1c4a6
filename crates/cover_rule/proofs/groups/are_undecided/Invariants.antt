use Rattle.std.proofs.Common.{◌≡◌, drop}
use Rattle.cover_model.specs.Rules.{are_undecided}
use Rattle.cover_rule.proofs.groups.are_undecided.Given as goal

-- the atoms before this one have no mark
abbrev pub invariant-loop-j : goal.invariant-loop-j
invariant-loop-j l = are_undecided l.state l.js ≡ are_undecided l.state (drop l.j-index l.js)
