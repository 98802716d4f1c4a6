use Rattle.std.proofs.Common.{subst, sym, refl, Result, ℕ, length, arith, ◌∙◌, []}
use Rattle.script_forms.specs.Atoms.{atom_of}
use Rattle.script_forms.specs.Work.{form_events}
use Rattle.poly_graph.specs.Form.{form_map}
use Rattle.smt_sexp.specs.Views.{place_of}
use Rattle.term_build.specs.Built.{stand_of}
use Rattle.term_build.specs.Sketch.{equal_pairs, some_equal, IsFormOf}
use Rattle.term_build.specs.Steps.{Emits}
use Rattle.term_build.specs.declared.stop.Stop.{Stop}
use Rattle.term_build.proofs.Emits.{err_is}
use Rattle.term_build.proofs.Gathering.{first_below, rest_below, nodes_more, numbers_within, gathering_none, pairs_stopped, pairs_step, pairs_done, numbers_below, any_done, any_stopped}
use Rattle.term_build.proofs.Lists.{nil_of}
use Rattle.term_build.proofs.comparisons.some_equal.Goals as goal

pub loop-first-init : goal.loop-first-init
loop-first-init c = record { below = c.requires; gathering = gathering_none c.args.builder.now _ [] c.new-made.result.items c.new-made.ensures.items }

pub equal_to-requires-clause-first : goal.equal_to-requires-clause-first
equal_to-requires-clause-first c = omega (
  arith,
  first_below (length c.args.builder.now.nodes) c.in-Some.first.now c.in-Some.later.now c.loop-first.left.now c.in-Some.ensures.cases.0 c.loop-first.invariant.below,
  nodes_more c.args.builder.now c.loop-first.builder _ _ [] c.loop-first.made.items c.loop-first.invariant.gathering,
)

pub equal_to-requires-clause-others : goal.equal_to-requires-clause-others
equal_to-requires-clause-others c = numbers_within (length c.args.builder.now.nodes) (length c.loop-first.builder.nodes) c.in-Some.later.now (nodes_more c.args.builder.now c.loop-first.builder _ _ [] c.loop-first.made.items c.loop-first.invariant.gathering)
    (rest_below (length c.args.builder.now.nodes) c.in-Some.first.now c.in-Some.later.now c.loop-first.left.now c.in-Some.ensures.cases.0 c.loop-first.invariant.below)

pub returns-in_err-equal_to-clause-does : goal.returns-in_err-equal_to-clause-does
returns-in_err-equal_to-clause-does c = let ts = (stand_of c.args.builder.now).trees in let fs = equal_pairs ts (place_of c.args.at) c.args.nodes.now in let f = some_equal ts (place_of c.args.at) c.args.nodes.now in
    subst (λ (r : Result ℕ Stop). Emits c.args.builder.now c.equal_to.new.builder (form_events f) r (IsFormOf c.equal_to.new.builder (form_map atom_of f))) (sym (err_is c.from_residual.result c.in_err-equal_to.field-0.0 c.from_residual.ensures))
    (any_stopped c.args.builder.now fs c.in_err-equal_to.field-0.0
    (pairs_stopped c.args.builder.now c.loop-first.builder (place_of c.args.at) fs [] c.loop-first.made.items c.in-Some.first.now c.in-Some.later.now c.loop-first.left.now c.in_err-equal_to.field-0.0
    c.loop-first.invariant.below c.in-Some.ensures.cases.0 c.loop-first.invariant.gathering c.in_err-equal_to.ensures.does))

pub loop-first-preserved : goal.loop-first-preserved
loop-first-preserved c = let fs = equal_pairs (stand_of c.args.builder.now).trees (place_of c.args.at) c.args.nodes.now in record {
  below = rest_below (length c.args.builder.now.nodes) c.in-Some.first.now c.in-Some.later.now c.loop-first.left.now c.in-Some.ensures.cases.0 c.loop-first.invariant.below;
  gathering = pairs_step c.args.builder.now c.loop-first.builder (place_of c.args.at) fs [] c.loop-first.made.items c.equal_to.new.builder c.in-Some.first.now c.in-Some.later.now c.loop-first.left.now c.equal_to.new.made.items
      c.loop-first.invariant.below c.in-Some.ensures.cases.0 c.loop-first.invariant.gathering c.in_ok-equal_to.ensures.does c.in_ok-equal_to.ensures.sorts;
}

pub form-requires-clause-after : goal.form-requires-clause-after
form-requires-clause-after c = numbers_below c.args.builder.now c.loop-first.builder (place_of c.args.at) _ [] c.loop-first.made.items _ refl c.loop-first.invariant.gathering

pub returns-clause-does : goal.returns-clause-does
returns-clause-does c = any_done c.args.builder.now c.loop-first.builder c.form.new.self _ c.loop-first.made.items c.form.result
    (pairs_done c.args.builder.now c.loop-first.builder (place_of c.args.at) _ [] c.loop-first.made.items c.loop-first.left.now (nil_of c.loop-first.left.now c.in_default.ensures.cases) c.loop-first.invariant.gathering) c.form.ensures.does

pub returns-clause-sorts : goal.returns-clause-sorts
returns-clause-sorts c = c.form.ensures.sorts ∙ c.loop-first.invariant.gathering.sorts
