use Rattle.std.proofs.Common.{◌∙◌, ap, sym, subst, length}
use Rattle.std.proofs.lemmas.List.{length-map}
use Rattle.interval_model.specs.Space.{Space, middle, middle_domain}
use Rattle.cover_model.specs.Narrowed.{enclosures}
use Rattle.ival.specs.RowViews.{rows_of}
use Rattle.ival.specs.SpaceViews.{space_of}
use Rattle.cover_rule.specs.declared.workspace.Centre.{Centre}
use Rattle.cover_rule.specs.Serves.{IsCentre}
use Rattle.cover_rule.proofs.Axes.{length_enclosures}
use Rattle.cover_rule.proofs.truth.find_centre.Goals as goal
use Rattle.cover_rule.proofs.truth.find_centre.Goals.{then-centre-2, else-centre-2}

pub follow-requires : goal.follow-requires
follow-requires c = let was = space_of c.args.centre.now.middle in record {
  rows = record { was = was; filled = c.requires.centre.room.filled c.if-centre-2.true ∙ ap (enclosures was) (sym c.graph.ensures.graph) };
}

pub returns-clause-centre : goal.returns-clause-centre
returns-clause-centre c =
    let p = c.args.problem.now in let e = c.middle.ensures.axes in let s = middle (space_of c.args.space.now) in let new = c.if-centre-2.centre in
    let P : Centre → Type 0 = λ k. IsCentre p (space_of c.args.space.now) k in
    let is : P new = elim c.if-centre-2.branch [
      | then-centre-2 w ↦ subst P (sym w.centre-is)
          (record { place = e; filled = w.follow.ensures.rows ∙ ap (enclosures (space_of c.middle.new.into)) w.graph.ensures.graph ∙ ap (λ (t : Space). enclosures t p.nodes) e })
      | else-centre-2 w ↦ subst P (sym w.centre-is)
          (record { place = e; filled = w.fill.ensures.rows ∙ ap (enclosures (space_of c.middle.new.into)) w.graph-else-centre-2.ensures.graph ∙ ap (λ (t : Space). enclosures t p.nodes) e })
    ] in
    record {
      room = record {
        middle = ap length is.place ∙ length-map (space_of c.args.space.now) middle_domain ∙ c.requires.space;
        rows = length_enclosures p s (rows_of new.rows) is.filled;
        filled = λ h. is.filled ∙ ap (λ (t : Space). enclosures t p.nodes) (sym is.place);
      };
      known = λ h. record { place = is.place; filled = is.filled };
    }
