use Rattle.std.proofs.Common.{◌<◌, ◌∙◌, length, refl, arith}
use Rattle.cert_join.proofs.Given.{gives}
use Rattle.cert_join.proofs.Passing.{read_spot}
use Rattle.cert_join.proofs.joiner.Joiner.give.Goals as goal

pub returns-clause-gives : goal.returns-clause-gives
returns-clause-gives c =
    let there : c.args.part < length c.args.self.now.cursors.items = omega (arith, c.if-part-len.false, c.len.ensures, c.args.self.now.cursors.ok.0) in
    gives c.give.result c.args.self.now _ c.args.part c.args.piece.now c.index_mut.result.now c.give.new.self there
    (c.index_mut.ensures.value ∙ read_spot c.args.self.now.cursors.items c.args.part c.index_mut.result.now there) refl refl refl c.give.ensures
