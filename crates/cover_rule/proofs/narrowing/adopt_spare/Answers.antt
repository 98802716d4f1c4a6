use Rattle.std.proofs.Common.{◌≡◌, ◌∙◌, List, false, true≢false, ap, sym, subst, refl}
use Rattle.interval_model.specs.Interval.{Interval}
use Rattle.interval_model.specs.Space.{Space}
use Rattle.poly_graph.specs.Term.{Node}
use Rattle.cover_model.specs.Narrowed.{enclosures}
use Rattle.cover_model.specs.State.{State}
use Rattle.ival.specs.RowViews.{rows_of, marks_of}
use Rattle.hc4.specs.Apart.{IsApart}
use Rattle.cover_rule.proofs.Knowns.{still_known}
use Rattle.cover_rule.proofs.narrowing.adopt_spare.Goals as goal

pub follow-requires : goal.follow-requires
follow-requires c = record {
  rows = record { was = c.args.state.now.space; filled = c.requires.work.rows ∙ ap (enclosures c.args.state.now.space) (sym c.graph.ensures.graph) };
}

pub returns-clause-work : goal.returns-clause-work
returns-clause-work c =
    let p = c.args.problem.now in let m = c.args.margins.now in let w = c.requires.work in let was = c.args.state.now.space in
    let marks = marks_of c.follow.new.rows in
    let now : Space = c.set_axes.new.state.space in
    let rows : rows_of c.follow.new.rows ≡ enclosures now p.nodes = c.follow.ensures.rows ∙ ap (λ (s : Space). enclosures s c.graph.result.now) c.space.ensures ∙ ap (enclosures now) c.graph.ensures.graph in
    let by-nodes = subst (λ (ns : List Node). IsApart ns (rows_of c.args.work.now.rows) (rows_of c.follow.new.rows) marks) c.graph.ensures.graph c.follow.ensures.apart in
    let by-old = subst (λ (es : List Interval). IsApart p.nodes es (rows_of c.follow.new.rows) marks) w.rows by-nodes in
    let apart = subst (λ (fs : List Interval). IsApart p.nodes (enclosures was p.nodes) fs marks) rows by-old in
    record {
      serves = record {
        rows = rows;
        scratch = w.scratch;
        truths = w.truths;
        centre = record { room = record { middle = w.centre.room.middle; rows = w.centre.room.rows; filled = w.centre.room.filled }; known = λ h. absurd (true≢false (sym h)) };
        room = w.room;
        leaves = c.drop_reached.ensures.count ∙ w.leaves;
        known = still_known p m was now marks c.args.work.now.leaves.items c.drop_reached.new.leaves.items c.args.work.now.unsure false apart (λ j l h. (c.drop_reached.ensures.kept j h, c.drop_reached.ensures.unmarked j l h)) refl w.known;
        voiding = record { empty = λ h. absurd (true≢false (sym h)) };
      };
      spare = sym (ap (λ (S : State). S.space) c.set_axes.ensures.state);
    }
