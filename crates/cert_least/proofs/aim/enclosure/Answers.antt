use Rattle.std.proofs.Common.{◌<◌, List, length, ap, ◌∙◌, subst, ℕ}
use Rattle.poly_graph.specs.Term.{Node}
use Rattle.cover_model.specs.Narrowed.{enclosures}
use Rattle.cover_model.specs.NodeEnclosure.{row}
use Rattle.ival.specs.SpaceViews.{space_of}
use Rattle.poly_graph.specs.ProblemViews.{problem_of}
use Rattle.cert_check.proofs.Rows.{row_of_atom}
use Rattle.cert_least.proofs.Searched.{same_enclosure}
use Rattle.cert_least.proofs.aim.enclosure.Goals as goal

pub returns-clause-interval : goal.returns-clause-interval
returns-clause-interval c low bits =
    let p = c.args.problem.now in
    c.enclose.ensures.result ∙ ap (λ (g : List Node). row (enclosures (space_of c.args.space.now) g) c.term_of.result) c.graph.ensures.graph
    ∙ row_of_atom p (space_of c.args.space.now) c.args.atom c.term_of.result c.term_of.ensures.place c.term_of.ensures.term
    ∙ same_enclosure (problem_of p) c.args.atom c.requires.atom (subst (λ (k : ℕ). k < length p.nodes) c.term_of.ensures.term c.term_of.ensures.place) (space_of c.args.space.now) low bits
