use Rattle.std.proofs.Common.{subst, sym, refl, Result, length, arith}
use Rattle.smt_sexp.specs.Views.{place_of}
use Rattle.term_build.specs.Built.{stand_of}
use Rattle.term_build.specs.Gathers.{Gathers}
use Rattle.term_build.specs.Sketch.{equal_with}
use Rattle.term_build.specs.declared.stop.Stop.{Stop}
use Rattle.term_build.proofs.Emits.{err_is}
use Rattle.term_build.proofs.Gathering.{first_below, rest_below, nodes_more, gathering_none, equal_stopped, equal_step, equal_done}
use Rattle.term_build.proofs.Lists.{nil_of}
use Rattle.term_build.proofs.comparisons.equal_to.Goals as goal

pub loop-other-init : goal.loop-other-init
loop-other-init c = record { below = c.requires.others; gathering = gathering_none c.args.builder.now _ c.args.made.now.items c.args.made.now.items refl }

pub compare-requires-clause-first : goal.compare-requires-clause-first
compare-requires-clause-first c = omega (arith, c.requires.first, nodes_more c.args.builder.now c.loop-other.builder _ _ c.args.made.now.items c.loop-other.made.items c.loop-other.invariant.gathering)

pub compare-requires-clause-second : goal.compare-requires-clause-second
compare-requires-clause-second c = omega (
  arith,
  first_below (length c.args.builder.now.nodes) c.in-Some.other.now c.in-Some.later.now c.loop-other.left.now c.in-Some.ensures.cases.0 c.loop-other.invariant.below,
  nodes_more c.args.builder.now c.loop-other.builder _ _ c.args.made.now.items c.loop-other.made.items c.loop-other.invariant.gathering,
)

pub returns-in_err-number-clause-does : goal.returns-in_err-number-clause-does
returns-in_err-number-clause-does c = let fs = equal_with (stand_of c.args.builder.now).trees (place_of c.args.at) c.args.first c.args.others.now in
    subst (λ (r : Result (Unit {0}) Stop). Gathers c.args.builder.now c.compare.new.self fs c.args.made.now.items c.loop-other.made.items r) (sym (err_is c.from_residual.result c.in_err-number.field-0.0 c.from_residual.ensures))
    (equal_stopped c.args.builder.now c.loop-other.builder (place_of c.args.at) fs c.args.made.now.items c.loop-other.made.items c.args.first c.in-Some.other.now c.in-Some.later.now c.loop-other.left.now c.in_err-number.field-0.0
    c.requires.first c.loop-other.invariant.below c.in-Some.ensures.cases.0 c.loop-other.invariant.gathering c.in_err-number.ensures.does)

pub loop-other-preserved : goal.loop-other-preserved
loop-other-preserved c = let fs = equal_with (stand_of c.args.builder.now).trees (place_of c.args.at) c.args.first c.args.others.now in record {
  below = rest_below (length c.args.builder.now.nodes) c.in-Some.other.now c.in-Some.later.now c.loop-other.left.now c.in-Some.ensures.cases.0 c.loop-other.invariant.below;
  gathering = equal_step c.args.builder.now c.loop-other.builder (place_of c.args.at) fs c.args.made.now.items c.loop-other.made.items c.compare.new.self c.args.first c.in-Some.other.now c.in-Some.later.now c.loop-other.left.now c.in_ok-number.number c.push.new.self.items
      c.requires.first c.loop-other.invariant.below c.in-Some.ensures.cases.0 c.loop-other.invariant.gathering c.in_ok-number.ensures.does c.in_ok-number.ensures.sorts c.in_ok-push.ensures.items;
}

pub returns-clause-does : goal.returns-clause-does
returns-clause-does c = equal_done c.args.builder.now c.loop-other.builder (place_of c.args.at) _ c.args.made.now.items c.loop-other.made.items c.args.first c.loop-other.left.now (nil_of c.loop-other.left.now c.in_default.ensures.cases) c.loop-other.invariant.gathering

pub returns-clause-sorts : goal.returns-clause-sorts
returns-clause-sorts c = c.loop-other.invariant.gathering.sorts
