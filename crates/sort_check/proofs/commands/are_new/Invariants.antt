use Rattle.std.proofs.Common.{◌≡◌, ◌++◌, map, [], length}
use Rattle.smt_script.specs.Views.{parameter_of}
use Rattle.sort_check.specs.Sorts.{taken_parameter}
use Rattle.sort_check.specs.Views.{names_back}
use Rattle.sort_check.proofs.commands.are_new.Given as goal

abbrev pub invariant-loop-rest : goal.invariant-loop-rest
invariant-loop-rest l = record {
  fault : taken_parameter [] (map parameter_of l.parameters) ≡ taken_parameter (names_back (map parameter_of l.before) []) (map parameter_of l.rest);
  names : l.parameters ≡ l.before ++ l.rest;
}

abbrev pub decreases-loop-rest : goal.decreases-loop-rest
decreases-loop-rest l = length l.rest
