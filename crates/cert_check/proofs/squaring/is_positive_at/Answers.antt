use Rattle.std.proofs.Common.{ap, ◌∙◌, length}
use Rattle.cover_line.specs.Views.{blocks_of}
use Rattle.interval_model.specs.Space.{middle}
use Rattle.ival.specs.SpaceViews.{space_of}
use Rattle.poly_graph.specs.ProblemViews.{problem_of}
use Rattle.cert_check.specs.Squares.{range_at}
use Rattle.cert_check.specs.States.{state_of, loosenings_of}
use Rattle.cert_check.proofs.Pairs.{atoms_all}
use Rattle.cert_check.proofs.Squared.{ranges_count, told_at}
use Rattle.cert_check.proofs.squaring.is_positive_at.Goals as goal

pub ranges_of-requires-clause-atoms : goal.ranges_of-requires-clause-atoms
ranges_of-requires-clause-atoms c = atoms_all (problem_of c.args.problem.now) c.args.pairs.now c.requires.atoms

pub is_positive-requires-clause-atoms : goal.is_positive-requires-clause-atoms
is_positive-requires-clause-atoms c = atoms_all (problem_of c.args.problem.now) c.args.pairs.now c.requires.atoms

pub is_positive-requires-clause-ranges : goal.is_positive-requires-clause-ranges
is_positive-requires-clause-ranges c =
    let at = range_at (problem_of c.args.problem.now) (loosenings_of c.args.s) (state_of c.args.state.now) in
    ap length c.deref.ensures.value ∙ ranges_count at c.in_ok-ranges.ranges.items c.args.pairs.now c.in_ok-ranges.ensures

pub returns : goal.returns
returns c =
    let p = problem_of c.args.problem.now in let space = space_of c.args.state.now.space in
    let at = range_at p (loosenings_of c.args.s) (state_of c.args.state.now) in
    told_at p at space (space_of c.in_ok-centre.centre) (middle space) c.args.pairs.now (blocks_of c.args.blocks.now)
    c.deref.result.now c.in_ok-ranges.ranges.items c.is_positive.result
    c.deref.ensures.value c.in_ok-ranges.ensures c.in_ok-centre.ensures c.is_positive.ensures
