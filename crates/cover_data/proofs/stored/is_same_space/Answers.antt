use Rattle.std.proofs.Common.{◌∙◌, sym}
use Rattle.ival.specs.SpaceViews.{space_of}
use Rattle.cover_data.proofs.Withins.{same_spaces}
use Rattle.cover_data.proofs.stored.is_same_space.Goals as goal

pub returns-then-within : goal.returns-then-within
returns-then-within c = λ h. same_spaces (space_of c.args.space.now) (space_of c.args.other.now) (sym c.within.ensures ∙ c.if-within.true) (sym c.within-then-within.ensures ∙ h)
