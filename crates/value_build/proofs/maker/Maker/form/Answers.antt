use Rattle.std.proofs.Common.{ap, subst}
use Rattle.std.specs.Prelude.{OnOk}
use Rattle.poly_graph.specs.FormViews.{form_node_of}
use Rattle.term_build.specs.Built.{BuilderModel, stand_of}
use Rattle.term_build.specs.Settled.{Extends}
use Rattle.value_build.specs.Making.{Making}
use Rattle.value_build.proofs.Marks.{form_stands}
use Rattle.value_build.proofs.maker.Maker.form.Goals as goal

pub returns-clause-stand : goal.returns-clause-stand
returns-clause-stand c = subst (λ (m : BuilderModel). OnOk c.form.result (Extends (stand_of m) (stand_of c.form.new.self))) (ap (λ (m : Making). m.made) c.self.view_is)
    (form_stands c.self.inside.builder c.form.new.self (form_node_of c.args.node) c.form.result c.form.ensures.does)
