use Rattle.script_roots.proofs.Unsat.{means_script}
use Rattle.script_roots.proofs.rewritten_means_script.Goals as goal

pub returns : goal.returns
returns c = means_script
