use Rattle.smt_sexp.proofs.Placed.{found_behind}
use Rattle.smt_sexp.specs.Arena.{bead_of}
use Rattle.std.specs.Prelude.{map}
use Rattle.smt_sexp.proofs.writing.Writer.finish.Goals as goal

pub returns-clause-found : goal.returns-clause-found
returns-clause-found c = λ later before e written.
    found_behind (map bead_of c.args.self.building.nodes.items) later before e written.nodes
