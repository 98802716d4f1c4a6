-- Lines that name atoms and axes that are there.
use Rattle.std.specs.Prelude.{IfSome, IsTrue}
use Rattle.std.specs.List.{AllByRecursion}
use Rattle.poly_graph.specs.Problem.{Problem}
use Rattle.cover_model.specs.Rules.{Line}
use Rattle.cert_model.specs.Due.{names_well}
use Rattle.cover_data.specs.Models.{KeptModel}

-- each step and the end of a run
pub record RunNamesWell (p : Problem) (k : KeptModel) : Type 0 where
  pub steps : AllByRecursion (λ (l : Line). IsTrue (names_well p l)) k.steps
  pub end : IfSome k.end (λ (l : Line). IsTrue (names_well p l))
