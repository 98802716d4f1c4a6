use Rattle.term_build.proofs.Forms.{few_forms}
use Rattle.term_build.proofs.builder.Builder.no_room.Goals as goal

pub returns-clause-few : goal.returns-clause-few
returns-clause-few c = few_forms _ _ c.self.view_is c.self.invariant
