use Rattle.std.proofs.Common.{◌≡◌, ◌≢◌, ℕ, ◌<◌, ◌≤◌, suc, length, Some, None, inl, inr, refl, ap, ap₂, sym, ◌∙◌, subst, arith, true, false}
use Rattle.std.specs.Prelude.{Option}
use Rattle.std.proofs.lemmas.Bool.{cases_lt}
use Rattle.std.proofs.lemmas.List.{get_or_past}
use Rattle.interval_model.specs.Interval.{Interval, nothing}
use Rattle.cover_model.specs.Combination.{Part}
use Rattle.cover_model.specs.NodeEnclosure.{row}
use Rattle.ival.specs.declared.row_parts.Rows.{Rows}
use Rattle.ival.specs.Views.{interval_of}
use Rattle.ival.specs.RowViews.{rows_of, marks_of, is_marked}
use Rattle.ival.specs.Options.{option_at}
use Rattle.ival.proofs.MarkWords.{length_marks}
use Rattle.ival.proofs.Optional.{no_option}
use Rattle.plain_eval.specs.Parts.{setting, behind_sum, behind_range, left_at, option_part, part_in_setting, range_before, range_on}
use Rattle.plain_eval.specs.Passes.{IsPut}
use Rattle.plain_eval.proofs.Passing.{before_skipped, behind_row, left_past, left_same, put_each, put_full}
use Rattle.plain_eval.proofs.parts.leave.Goals as goal

marked-inside : (r : Rows) (n count : ℕ) → length (rows_of r) ≡ count → is_marked (marks_of r) n ≡ true → n < count
marked-inside r n count e m = elim (cases_lt n count) [
  | inl h ↦ h
  | inr h ↦ absurd (let out : is_marked (marks_of r) n ≡ false = get_or_past (marks_of r) n false (omega (arith, h, e, length_marks r)) in let bad : false ≡ true = sym out ∙ m in cc)
]

put-told : (k : ℕ) (o o' : Option Interval) (old new : Rows) → o ≡ o' → IsPut k o old new × (o ≢ Some nothing) → IsPut k o' old new × (o' ≢ Some nothing)
put-told k o o' old new e h = subst (λ (x : Option Interval). IsPut k x old new × (x ≢ Some nothing)) e h

pub returns-then-len-eq0-clause-left : goal.returns-then-len-eq0-clause-left
returns-then-len-eq0-clause-left c =
    let s = setting c.args.graph.now c.args.coefficients.now c.args.space.now c.args.centre.now in let allowed = interval_of c.args.allowed in let rest = interval_of c.args.rest in
    let none : (k : ℕ) → left_at s allowed rest k ≡ None = λ k. left_past s allowed rest k (omega (arith, c.if-len-eq0.true, c.len-3.ensures.len)) in
    record {
      each = λ k. no_option c.args.left.now k (c.requires.none k) ∙ sym (none k);
      full = λ k e. let f : None ≡ Some nothing = sym (none k) ∙ e in cc;
    }

pub loop-allowed-init : goal.loop-allowed-init
loop-allowed-init c = record {
  inside = omega (arith, c.if-len-eq0.false, c.len-3.ensures.len);
  count = c.requires.left;
  sum = refl;
  each = λ k h. absurd (omega (arith, h));
  full = λ k h. absurd (omega (arith, h));
  ahead = λ k h. no_option c.args.left.now k (c.requires.none k);
  behind = λ k x h e. c.requires.behind k x e;
}

pub returns-then-not-leave_to-clause-left : goal.returns-then-not-leave_to-clause-left
returns-then-not-leave_to-clause-left c =
    let s = setting c.args.graph.now c.args.coefficients.now c.args.space.now c.args.centre.now in let allowed = interval_of c.args.allowed in let rest = interval_of c.args.rest in
    let before = c.loop-allowed.invariant in let p = c.loop-allowed.place in
    let is = left_same s.space s.centre allowed (interval_of c.loop-allowed.sum) (range_before s rest p) (row (rows_of c.loop-allowed.left) p) (range_on s (suc p)) (option_part c.part_at-part.result) (part_in_setting s p)
    c.part_at-part.ensures before.sum (λ x e. before.behind p x (omega arith) e) in
    record {
      place = p;
      within = before.inside;
      empty = sym is ∙ (rw c.if-not-leave_to.true at c.leave_to.ensures.put);
    }

pub loop-allowed-preserved : goal.loop-allowed-preserved
loop-allowed-preserved c =
    let s = setting c.args.graph.now c.args.coefficients.now c.args.space.now c.args.centre.now in let allowed = interval_of c.args.allowed in let rest = interval_of c.args.rest in
    let before = c.loop-allowed.invariant in let p = c.loop-allowed.place in let old = c.loop-allowed.left in let new = c.leave_to.new.left in let linear = c.args.coefficients.now.linear in
    let next = c.in-Some.ensures in let n = c.in-Some.n in
    let is = left_same s.space s.centre allowed (interval_of c.loop-allowed.sum) (range_before s rest p) (row (rows_of old) p) (range_on s (suc p)) (option_part c.part_at-part.result) (part_in_setting s p)
    c.part_at-part.ensures before.sum (λ x e. before.behind p x (omega arith) e) in
    let put = put-told p _ (left_at s allowed rest p) old new is (rw c.if-not-leave_to.false at c.leave_to.ensures.put) in
    let none : (k : ℕ) → p < k → k < n → option_at linear k ≡ None = λ k a b. no_option linear k (next.between k a b) in
    let more : suc p ≤ n = omega (arith, next.above) in
    record {
      inside = marked-inside linear n (length c.args.graph.now) c.requires.count.linear next.marked;
      count = c.leave_to.ensures.count ∙ before.count;
      sum = c.behind-sum.ensures
          ∙ ap₂ (λ (o : Option Part) (r : Interval). behind_range o r (interval_of c.loop-allowed.sum)) c.part_at-part.ensures c.get.ensures
          ∙ behind_row s (part_in_setting s p) (row (rows_of c.args.ranges.now) p) (interval_of c.loop-allowed.sum) (λ x e. c.requires.ranges p x e)
          ∙ ap (λ (i : Interval). behind_sum s.space s.centre (part_in_setting s p) i) before.sum
          ∙ sym (before_skipped s rest c.requires.under n (suc p) more (λ k a b. none k (omega (arith, a)) b));
      each = λ k h. put_each s allowed rest c.requires.under old new p put.0 before.each before.ahead k (λ a. none k a h);
      full = λ k h. put_full s allowed rest c.requires.under p put.1 before.full k (λ a. none k a h);
      ahead = λ k h. put.0.others k (λ e. omega (arith, h, e, next.above)) ∙ before.ahead k (omega (arith, h, next.above));
      behind = λ k x h e. put.0.rows k (λ f. omega (arith, h, f, next.above)) ∙ before.behind k x (omega (arith, h, next.above)) e;
    }

pub returns-in-None-clause-left : goal.returns-in-None-clause-left
returns-in-None-clause-left c =
    let s = setting c.args.graph.now c.args.coefficients.now c.args.space.now c.args.centre.now in let allowed = interval_of c.args.allowed in let rest = interval_of c.args.rest in
    let before = c.loop-allowed.invariant in let p = c.loop-allowed.place in let old = c.loop-allowed.left in let new = c.leave_to.new.left in let linear = c.args.coefficients.now.linear in
    let is = left_same s.space s.centre allowed (interval_of c.loop-allowed.sum) (range_before s rest p) (row (rows_of old) p) (range_on s (suc p)) (option_part c.part_at-part.result) (part_in_setting s p)
    c.part_at-part.ensures before.sum (λ x e. before.behind p x (omega arith) e) in
    let put = put-told p _ (left_at s allowed rest p) old new is (rw c.if-not-leave_to.false at c.leave_to.ensures.put) in
    let none : (k : ℕ) → p < k → option_at linear k ≡ None = λ k a. no_option linear k (c.in-None.ensures k a) in
    record {
      each = λ k. put_each s allowed rest c.requires.under old new p put.0 before.each before.ahead k (none k);
      full = λ k. put_full s allowed rest c.requires.under p put.1 before.full k (none k);
    }
