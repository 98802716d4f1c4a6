use Rattle.std.proofs.Common.{◌<◌, List, [], Some, length, ap, sym, ◌∙◌, subst, arith}
use Rattle.std.proofs.lemmas.Option.{slice_get-get_or}
use Rattle.poly_graph.specs.FormGraph.{FormNode}
use Rattle.poly_graph.specs.Term.{Node}
use Rattle.problem_session.specs.Changes.{IsChange, made_of, no_parts}
use Rattle.problem_session.proofs.Changed.{change_of, first_change, length_problems}
use Rattle.problem_session.proofs.session.Session.first.Goals as goal

pub after-requires : goal.after-requires
after-requires c =
    let items = c.self.inside.checks.items in
    let below : 0 < length items = omega (arith, c.requires, ap length c.self.view_is, length_problems no_parts items) in
    let first = first_change no_parts items c.index.result.now c.self.invariant (slice_get-get_or items 0 c.index.result.now below ∙ ap Some (sym c.index.ensures)) in
    subst (λ (ns : List Node). IsChange (made_of ns [] c.new-2.result) c.index.result.now.change) (sym c.new.ensures)
    (subst (λ (fs : List FormNode). IsChange (made_of [] [] fs) c.index.result.now.change) (sym c.new-2.ensures) (change_of no_parts c.index.result.now.change first.0))
