use Rattle.std.proofs.Common.{arith, ◌-◌, ◌<◌, length, ap, sym, ◌∙◌, subst}
use Rattle.root_rewriting.specs.Nodes.{AreBelow, trees_in}
use Rattle.root_rewriting.proofs.Arena.{nodes_length}
use Rattle.root_rewriting.specs.Sweep.{assertion_places, conjuncts_of, marked_all}
use Rattle.root_rewriting.proofs.Marks.{AreSwept, assertions_below, conjuncts_below, marked_length, places_below, read_mark, started_length, sweep_begins, sweep_ends, sweep_passes, sweep_visits}
use Rattle.root_rewriting.proofs.range.sweep.conjuncts.Goals as goal

pub assertion_marks-requires : goal.assertion_marks-requires
assertion_marks-requires c = let t = c.args.asserted.now.trees in places_below (trees_in t) (length t) c.args.asserted.now.assertions.items c.requires.0 (sym (nodes_length t)) c.requires.1

pub loop-k-init : goal.loop-k-init
loop-k-init c = let t = c.args.asserted.now.trees in let cs = c.args.asserted.now.assertions.items in (
  ap length c.in_ok-marks.ensures ∙ started_length (length t) (assertion_places cs),
  subst (λ n. AreSwept (trees_in t) (assertion_places cs) n c.in_ok-marks.marks.items) (sym c.len-k.ensures) (sweep_begins (trees_in t) (assertion_places cs) (length t) c.in_ok-marks.marks.items
      (assertions_below (length t) cs (places_below (trees_in t) (length t) cs c.requires.0 (sym (nodes_length t)) c.requires.1)) c.in_ok-marks.ensures),
)

pub mark_all-requires : goal.mark_all-requires
mark_all-requires c = subst (AreBelow (length c.loop-k.marks.items)) (sym c.conjuncts_of.ensures)
    (conjuncts_below (c.loop-k.k - 1) (length c.loop-k.marks.items) c.look.result.now (omega (arith, c.loop-k.invariant.0, c.loop-k.auto.k, c.loop-k-test.true)) c.look.ensures.1)

pub loop-k-preserved-then-index : goal.loop-k-preserved-then-index
loop-k-preserved-then-index c = let n = c.loop-k.k - 1 in let t = c.args.asserted.now.trees in
    let below : n < length c.loop-k.marks.items = omega (arith, c.loop-k.invariant.0, c.loop-k.auto.k, c.loop-k-test.true) in
    let marked = c.mark_all.ensures ∙ ap (marked_all c.loop-k.marks.items) c.conjuncts_of.ensures in (
      ap length marked ∙ marked_length c.loop-k.marks.items (conjuncts_of c.look.result.now) ∙ c.loop-k.invariant.0,
      sweep_visits (trees_in t) (assertion_places c.args.asserted.now.assertions.items) c.loop-k.k n c.loop-k.marks.items c.mark_all.new.marks.items c.look.result.now (omega (arith, c.loop-k-test.true)) c.loop-k.invariant.1
          c.look.ensures below (read_mark c.loop-k.marks.items n c.index.result.now _ below c.index.ensures c.if-index.true) marked,
    )

pub loop-k-preserved : goal.loop-k-preserved
loop-k-preserved c = let n = c.loop-k.k - 1 in let t = c.args.asserted.now.trees in
    let below : n < length c.loop-k.marks.items = omega (arith, c.loop-k.invariant.0, c.loop-k.auto.k, c.loop-k-test.true) in (
      c.loop-k.invariant.0,
      sweep_passes (trees_in t) (assertion_places c.args.asserted.now.assertions.items) c.loop-k.k n c.loop-k.marks.items (omega (arith, c.loop-k-test.true)) c.loop-k.invariant.1
          (read_mark c.loop-k.marks.items n c.index.result.now _ below c.index.ensures c.if-index.false),
    )

pub returns : goal.returns
returns c = λ A claims says asserted. let t = c.args.asserted.now.trees in
    sweep_ends (trees_in t) c.args.asserted.now.assertions.items c.loop-k.k c.loop-k.marks.items (omega (arith, c.loop-k-test.false)) (c.loop-k.invariant.0 ∙ sym (nodes_length t)) c.loop-k.invariant.1 A claims says asserted
