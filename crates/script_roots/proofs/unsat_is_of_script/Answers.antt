use Rattle.script_roots.proofs.Unsat.{unsat_of_script}
use Rattle.script_roots.proofs.unsat_is_of_script.Goals as goal

pub returns : goal.returns
returns c = unsat_of_script
