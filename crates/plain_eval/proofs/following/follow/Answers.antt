use Rattle.std.proofs.Common.{◌≡◌, ℕ, ◌<◌, ◌∙◌, List, length, inl, inr, true, false, ap, sym, arith}
use Rattle.std.proofs.lemmas.Bool.{cases_lt}
use Rattle.std.proofs.lemmas.List.{get_or_past}
use Rattle.interval_model.specs.Interval.{Interval}
use Rattle.cover_model.specs.NodeEnclosure.{row}
use Rattle.poly_graph.specs.Views.{node_of}
use Rattle.cover_model.proofs.NodeEnclosures.{length_enclosures, all_rows}
use Rattle.ival.specs.RowViews.{rows_of, marks_of, is_marked}
use Rattle.ival.specs.declared.row_parts.Rows.{Rows}
use Rattle.ival.specs.SpaceViews.{space_of}
use Rattle.ival.proofs.MarkWords.{length_marks}
use Rattle.plain_eval.proofs.Upwards.{renewed_kept, rising, rising_next, risen}
use Rattle.plain_eval.proofs.following.follow.Goals as goal

marked-inside : (r : Rows) (n count : ℕ) → length (rows_of r) ≡ count → is_marked (marks_of r) n ≡ true → n < count
marked-inside r n count l m = elim (cases_lt n count) [
  | inl h ↦ h
  | inr h ↦ let z = get_or_past (marks_of r) n false (omega (arith, h, length_marks r, l)) in cc
]

pub prove_eq-unreachable-requires : goal.prove_eq-unreachable-requires
prove_eq-unreachable-requires c =
    let e = ap length c.requires.rows.filled in c.if-prove_eq.true (c.len.ensures ∙ e ∙ length_enclosures c.requires.rows.space c.args.graph.now ∙ sym c.len-2.ensures.len)

pub returns-then-len-eq0-clause-rows : goal.returns-then-len-eq0-clause-rows
returns-then-len-eq0-clause-rows c =
    let nodes = c.args.graph.now in
    all_rows (space_of c.args.space.now) nodes (rows_of c.clear_marks.new.self) (ap length c.clear_marks.ensures.rows ∙ ap length c.requires.rows.filled ∙ length_enclosures c.requires.rows.space nodes) (λ k h. absurd (omega (arith, h, c.len-3.ensures.len, c.if-len-eq0.true)))

pub renew_variables-requires-clause-rows : goal.renew_variables-requires-clause-rows
renew_variables-requires-clause-rows c = record { space = c.requires.rows.space; filled = c.clear_marks.ensures.rows ∙ c.requires.rows.filled }

pub loop-n-init : goal.loop-n-init
loop-n-init c = record {
  climb = λ ordered. rising c.args.graph.now ordered (space_of c.args.space.now) c.renew_variables.new.rows (omega (arith, c.len-3.ensures.len, c.if-len-eq0.false)) c.renew_variables.ensures.begun;
  kept = λ k h. c.renew_variables.ensures.kept k h ∙ ap (λ (es : List Interval). row es k) c.clear_marks.ensures.rows;
}

pub next_marked_above-requires : goal.next_marked_above-requires
next_marked_above-requires c = let w = c.loop-n.invariant.climb c.len-2.ensures.graph.ordered in omega (arith, w.inside, w.begun.count)

pub overflow_cast-n : goal.overflow_cast-n
overflow_cast-n c =
    let w = c.loop-n.invariant.climb c.len-2.ensures.graph.ordered in
    omega (arith, marked-inside c.loop-n.rows c.in-Some.n (length c.args.graph.now) w.begun.count c.in-Some.ensures.marked, c.len-2.ensures.graph.few)

pub node-requires : goal.node-requires
node-requires c =
    let w = c.loop-n.invariant.climb c.len-2.ensures.graph.ordered in marked-inside c.loop-n.rows c.in-Some.n (length c.args.graph.now) w.begun.count c.in-Some.ensures.marked

pub renew-requires-clause-count : goal.renew-requires-clause-count
renew-requires-clause-count c = (c.loop-n.invariant.climb c.len-2.ensures.graph.ordered).begun.count

pub loop-n-smaller : goal.loop-n-smaller
loop-n-smaller c = let w = c.loop-n.invariant.climb c.len-2.ensures.graph.ordered in omega (arith, c.in-Some.ensures.above, w.inside)

pub loop-n-preserved : goal.loop-n-preserved
loop-n-preserved c =
    let nodes = c.args.graph.now in let space = space_of c.args.space.now in let n = c.in-Some.n in let node = node_of c.node.result in let old = c.loop-n.rows in let new = c.renew.new.rows in
    let o = c.len-2.ensures.graph.ordered in
    record {
      climb = λ ordered. rising_next nodes ordered space c.loop-n.place n node old new (c.loop-n.invariant.climb ordered) c.in-Some.ensures c.node.ensures c.renew.ensures;
      kept = renewed_kept nodes o space n node c.node.ensures old new (c.loop-n.invariant.climb o).begun.count c.renew.ensures c.args.rows.now c.loop-n.invariant.kept;
    }

pub returns-clause-rows : goal.returns-clause-rows
returns-clause-rows c =
    let ordered = c.len-2.ensures.graph.ordered in
    risen c.args.graph.now ordered (space_of c.args.space.now) c.loop-n.place c.loop-n.rows (c.loop-n.invariant.climb ordered) c.in_default.ensures
