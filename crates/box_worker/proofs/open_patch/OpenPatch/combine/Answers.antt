use Rattle.std.proofs.Common.{◌∙◌}
use Rattle.box_worker.proofs.Open.{same_model, stays_open, still_under_way}
use Rattle.box_worker.proofs.open_patch.OpenPatch.combine.Goals as goal

pub invariant_of-self : goal.invariant_of-self
invariant_of-self c =
    let lemmas = c.self.inside.lemmas.now in let P = c.self.inside.patch in let Q = c.narrow_by.new.patch in
    still_under_way lemmas P Q (stays_open lemmas P Q c.narrow_by.ensures c.self.invariant) c.self.invariant

pub returns : goal.returns
returns c =
    let lemmas = c.self.inside.lemmas.now in let P = c.self.inside.patch in let Q = c.narrow_by.new.patch in
    same_model lemmas P Q (stays_open lemmas P Q c.narrow_by.ensures c.self.invariant) ∙ c.self.view_is
