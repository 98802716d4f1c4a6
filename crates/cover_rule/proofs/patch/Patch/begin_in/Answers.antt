use Rattle.std.proofs.Common.{◌∙◌, List, ap, ap₂, sym, subst, length, vec_len, true≢false}
use Rattle.interval_model.specs.Space.{Space}
use Rattle.poly_graph.specs.Term.{Node}
use Rattle.poly_graph.specs.ProblemViews.{problem_of}
use Rattle.cover_model.specs.Narrowed.{enclosures}
use Rattle.cover_model.specs.State.{State}
use Rattle.cover_data.specs.Models.{KeptModel}
use Rattle.cover_data.specs.Runs.{IsRun}
use Rattle.ival.specs.declared.row_parts.Rows.{Rows}
use Rattle.ival.specs.declared.space.Space.{Space as CodeSpace}
use Rattle.ival.specs.RowViews.{rows_of}
use Rattle.ival.specs.SpaceViews.{space_of}
use Rattle.form_truth.specs.declared.marks.Marks.{Marks}
use Rattle.combine.specs.Rooms.{FitsRoom}
use Rattle.cover_rule.proofs.Axes.{fits_length}
use Rattle.cover_rule.proofs.Knowns.{nothing_known}
use Rattle.cover_rule.proofs.Voids.{nothing_noted}
use Rattle.cover_rule.proofs.RunSteps.{run_begins}
use Rattle.cover_rule.proofs.patch.Patch.begin_in.Goals as goal

pub copy_space-requires : goal.copy_space-requires
copy_space-requires c = ap length c.space-space.ensures ∙ fits_length (problem_of c.args.problem.now).axes c.args.state.space c.requires.state.axes ∙ sym c.requires.filled.spare

pub follow-requires : goal.follow-requires
follow-requires c = let was = space_of c.args.work.spare in record {
  rows = record { was = was; filled = c.requires.filled.rows ∙ ap (enclosures was) (sym c.graph.ensures.graph) };
}

pub invariant_of-result : goal.invariant_of-result
invariant_of-result c =
    let p = c.args.problem.now in let m = c.args.margins.now in let S = c.args.state in
    let back = sym (ap (λ (T : State). T.space) c.nothing_done-kept.ensures.reached) in
    record {
      whole = c.graph.ensures.whole;
      numbered = c.requires.numbered;
      margins = c.requires.margins;
      run = subst (λ (K : KeptModel). IsRun (problem_of p) m K) (sym c.nothing_done-kept.ensures.kept) (run_begins (problem_of p) m S c.requires.state);
      ready = record {
        serves = record {
          rows = ap rows_of c.forget.ensures.rows ∙ c.follow.ensures.rows ∙ ap₂ (λ (s : Space) (ns : List Node). enclosures s ns) (c.space-space.ensures ∙ back) c.graph.ensures.graph;
          scratch = ap (λ (r : Rows). length (rows_of r)) c.forget.ensures.scratch ∙ c.requires.filled.scratch;
          truths = ap (λ (k : Marks). vec_len k.truths) c.forget.ensures.marks ∙ c.requires.filled.truths;
          centre = record {
            room = record {
              middle = ap (λ (r : CodeSpace). length (space_of r)) c.forget.ensures.middle ∙ c.requires.filled.centre.middle;
              rows = ap (λ (r : Rows). length (rows_of r)) c.forget.ensures.centre_rows ∙ c.requires.filled.centre.rows;
              filled = λ h. ap rows_of c.forget.ensures.centre_rows ∙ c.requires.filled.centre.filled (sym c.forget.ensures.filled ∙ h)
                  ∙ ap (λ (r : CodeSpace). enclosures (space_of r) p.nodes) (sym c.forget.ensures.middle);
            };
            known = λ h. absurd (true≢false (sym h ∙ c.forget.ensures.centre));
          };
          room = subst (FitsRoom p.nodes) (sym c.forget.ensures.room) c.requires.filled.room;
          leaves = c.forget.ensures.leaves ∙ c.requires.filled.leaves;
          known = nothing_known p m c.nothing_done-kept.result.reached.space c.forget.new.work.leaves.items c.forget.new.work.unsure c.forget.ensures.none c.forget.ensures.unsure;
          voiding = nothing_noted p m c.nothing_done-kept.result.reached.space c.forget.new.work.voiding c.forget.ensures.voiding;
        };
        spare = ap space_of c.forget.ensures.spare ∙ c.copy_space.ensures ∙ c.space-space.ensures ∙ back;
      };
    }
