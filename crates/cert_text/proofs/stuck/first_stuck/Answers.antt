use Rattle.std.proofs.Common.{List, map, subst}
use Rattle.std.proofs.lemmas.Result.{IfOk-weaker}
use Rattle.cover_book.specs.Model.{NodeModel}
use Rattle.cover_book.specs.Views.{node_of}
use Rattle.cert_text.specs.Stuck.{HasNoStuckState, IsFirstStuckState}
use Rattle.cert_text.proofs.Searched.{found_stuck, found_none, option_weaker}
use Rattle.cert_text.proofs.stuck.first_stuck.Goals as goal

pub returns : goal.returns
returns c =
    let b = c.args.book.now in let nodes : List NodeModel = map node_of c.nodes.result.now in let w = c.nodes.ensures in
    IfOk-weaker c.first_stuck_node.result _ _
    (λ found. option_weaker found (λ f. found_none b w.book (subst HasNoStuckState w.nodes f)) (λ x f. found_stuck b w.book x.atom x.state.now (subst (λ (xs : List NodeModel). IsFirstStuckState xs x.atom x.state.now) w.nodes f)))
    c.first_stuck_node.ensures
