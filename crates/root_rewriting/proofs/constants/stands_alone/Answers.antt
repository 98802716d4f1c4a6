use Rattle.std.proofs.Common.{◌≡◌, ◌∙◌, ◌&&◌, refl, sym, ap, arith}
use Rattle.script_roots.specs.Ranges.{avoids_nought}
use Rattle.ival.specs.Views.{interval_of}
use Rattle.script_roots.specs.Ranges.{enclosed}
use Rattle.root_rewriting.specs.Nodes.{tree_at, trees_in}
use Rattle.root_rewriting.proofs.Arena.{nodes_length}
use Rattle.root_rewriting.proofs.Tables.{alone_is, enclosed_there}
use Rattle.root_rewriting.proofs.constants.stands_alone.Goals as goal

pub returns-then-can_stand : goal.returns-then-can_stand
returns-then-can_stand c = λ names e.
    let ts = trees_in c.args.trees.now in
    let t = tree_at ts c.args.dividend in
    let d = tree_at ts c.args.divisor in
    let m = c.avoids_nought.result in
    let here : interval_of c.index-ranges-divisor.result ≡ enclosed names d =
    enclosed_there names ts c.args.ranges.now c.args.divisor c.index-ranges-divisor.result e (omega (arith, c.requires.all, c.requires.divisor)) (omega (arith, nodes_length c.args.trees.now, c.requires.divisor)) c.index-ranges-divisor.is in
    ap (λ b. b && m) (sym c.if-can_stand.true ∙ c.can_stand.ensures) ∙
    alone_is names t d c.facts-over.result c.facts-under.result m c.facts-over.ensures c.facts-under.ensures (c.avoids_nought.ensures ∙ ap avoids_nought here)

pub returns-else-can_stand : goal.returns-else-can_stand
returns-else-can_stand c = λ names e.
    let ts = trees_in c.args.trees.now in
    let t = tree_at ts c.args.dividend in
    let d = tree_at ts c.args.divisor in
    let m = avoids_nought (enclosed names d) in
    c.if-can_stand.false ∙ ap (λ b. b && m) (sym c.if-can_stand.false ∙ c.can_stand.ensures) ∙
    alone_is names t d c.facts-over.result c.facts-under.result m c.facts-over.ensures c.facts-under.ensures refl
