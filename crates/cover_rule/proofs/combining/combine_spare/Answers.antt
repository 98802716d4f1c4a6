use Rattle.std.proofs.Common.{ap, length, List, arith, subst}
use Rattle.poly_graph.specs.Marks.{Mark}
use Rattle.poly_graph.specs.ProblemViews.{problem_of}
use Rattle.cover_model.specs.Views.{multipliers_of}
use Rattle.ival.specs.SpaceViews.{space_of}
use Rattle.cover_data.specs.Margins.{loosenings_of}
use Rattle.cover_rule.specs.Pairs.{IsNoted}
use Rattle.cover_rule.proofs.Combinables.{combined_atoms}
use Rattle.cover_rule.proofs.Voids.{combination_noted}
use Rattle.cover_rule.proofs.combining.combine_spare.Goals as goal

pub note-requires : goal.note-requires
note-requires c k d l =
    let ms = multipliers_of c.args.multipliers.now in
    let there = combined_atoms (problem_of c.args.problem.now) (loosenings_of c.args.margins.now) c.args.state.now ms c.requires.may k d l in
    omega (arith, there, c.requires.state.marks, ap length c.lits.ensures)

pub returns-clause-work : goal.returns-clause-work
returns-clause-work c =
    let p = c.args.problem.now in let m = c.args.margins.now in let S = c.args.state.now in let ms = multipliers_of c.args.multipliers.now in
    let w = c.narrow_combined-narrowed.ensures.work in let old = c.narrow_combined-narrowed.new.work in
    record {
      rows = w.rows;
      scratch = w.scratch;
      truths = w.truths;
      centre = w.centre;
      room = w.room;
      leaves = w.leaves;
      known = w.known;
      voiding = combination_noted p m S (space_of old.spare) c.narrow_combined-narrowed.result ms old.voiding c.note.new.self c.narrow_combined-narrowed.ensures.narrowed c.note.ensures.other
          (λ e. subst (λ (marks : List Mark). IsNoted marks ms c.note.new.self) c.lits.ensures (c.note.ensures.noted e)) w.voiding;
    }
