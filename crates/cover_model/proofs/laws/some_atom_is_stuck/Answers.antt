use Rattle.cover_model.proofs.Stuck.{some_atom_is_stuck}
use Rattle.cover_model.proofs.laws.some_atom_is_stuck.Goals as goal

pub returns : goal.returns
returns c = some_atom_is_stuck
