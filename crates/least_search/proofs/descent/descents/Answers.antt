use Rattle.std.proofs.Common.{◌∙◌}
use Rattle.dyadic.specs.Views.{ext_of}
use Rattle.least_search.proofs.Aims.{bounds_of, same_through}
use Rattle.least_search.proofs.Near.{at_most_through}
use Rattle.least_search.proofs.descent.descents.Goals as goal

pub returns-in_err-descend_once-clause-better : goal.returns-in_err-descend_once-clause-better
returns-in_err-descend_once-clause-better c =
    at_most_through (ext_of c.descend_once.new.bounds.upper) (ext_of c.loop.bounds.upper) (ext_of c.args.bounds.now.upper) c.descend_once.ensures.better c.loop.invariant.better

pub returns-then-not-branch-clause-better : goal.returns-then-not-branch-clause-better
returns-then-not-branch-clause-better c =
    at_most_through (ext_of c.descend_once.new.bounds.upper) (ext_of c.loop.bounds.upper) (ext_of c.args.bounds.now.upper) c.descend_once.ensures.better c.loop.invariant.better

pub loop-preserved : goal.loop-preserved
loop-preserved c = record {
  ready = c.descend_once.ensures.ready;
  same = same_through c.args.aim.now c.loop.aim c.descend_once.new.aim c.loop.invariant.same c.descend_once.ensures.same;
  bounds = bounds_of c.args.aim.now c.loop.aim c.loop.invariant.same c.descend_once.new.bounds c.descend_once.ensures.bounds;
  better = at_most_through (ext_of c.descend_once.new.bounds.upper) (ext_of c.loop.bounds.upper) (ext_of c.args.bounds.now.upper) c.descend_once.ensures.better c.loop.invariant.better;
  budget = c.descend_once.ensures.budget ∙ c.loop.invariant.budget;
  lower = c.descend_once.ensures.lower ∙ c.loop.invariant.lower;
}
