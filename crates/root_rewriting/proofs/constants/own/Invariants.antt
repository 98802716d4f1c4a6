use Rattle.std.proofs.Common.{◌-◌, length}
use Rattle.root_rewriting.proofs.Tables.{OwnSoFar}
use Rattle.root_rewriting.proofs.constants.own.Given as goal

abbrev pub invariant-loop-own : goal.invariant-loop-own
invariant-loop-own l = OwnSoFar l.trees l.ranges l.own.items

abbrev pub decreases-loop-own : goal.decreases-loop-own
decreases-loop-own l = length l.trees - length l.own.items
