use Rattle.std.proofs.Common.{◌≡◌, ◌<◌, List, Some, Bool, length, map, ap, sym, ◌∙◌, subst, arith}
use Rattle.std.specs.Prelude.{slice_get}
use Rattle.std.proofs.lemmas.Option.{slice_get-get_or}
use Rattle.poly_graph.specs.ProblemViews.{Parts}
use Rattle.problem_session.specs.Changes.{no_parts}
use Rattle.problem_session.proofs.Changed.{length_problems, said_at}
use Rattle.problem_session.proofs.session.Session.extends.Goals as goal

pub index-requires : goal.index-requires
index-requires c = let items = c.self.inside.checks.items in omega (arith, c.requires, ap length c.self.view_is, length_problems no_parts items, c.self.inside.checks.ok.0)

pub returns : goal.returns
returns c =
    let items = c.self.inside.checks.items in
    let below : c.args.k < length items = omega (arith, c.requires, ap length c.self.view_is, length_problems no_parts items) in
    subst (λ (ps : List (Parts × Bool)). slice_get (map (λ p. p.1) ps) c.args.k ≡ Some c.index.result.now.extends) c.self.view_is
    (said_at no_parts items c.args.k c.index.result.now (slice_get-get_or items c.args.k c.index.result.now below ∙ ap Some (sym c.index.ensures)))
