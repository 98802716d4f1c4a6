use Rattle.std.proofs.Common.{subst}
use Rattle.box_worker.specs.OpenPatch.{OpenModel, IsOpenFor}
use Rattle.box_worker.proofs.Open.{open_itself}
use Rattle.box_worker.proofs.open_patch.OpenPatch.into_patch.Goals as goal

pub returns : goal.returns
returns c = let P = c.self.inside.patch in subst (λ (o : OpenModel). IsOpenFor o P) c.self.view_is (open_itself c.self.inside.lemmas.now P c.self.invariant)
