use Rattle.std.proofs.Common.{◌≡◌, ℕ, ◌<◌, suc, length, Some, None, refl, ap, sym, ◌∙◌, arith}
use Rattle.std.specs.Prelude.{Option}
use Rattle.std.proofs.lemmas.List.{length-set}
use Rattle.interval_model.specs.Interval.{Interval}
use Rattle.cover_model.specs.Combination.{Part}
use Rattle.ival.specs.Views.{interval_of}
use Rattle.ival.specs.RowViews.{rows_of}
use Rattle.ival.specs.Options.{option_at}
use Rattle.ival.proofs.Optional.{no_option}
use Rattle.plain_eval.specs.Parts.{setting, before_sum, part_in, part_in_setting}
use Rattle.plain_eval.proofs.Passing.{range_next, range_skipped, range_none, range_put, ranges_all, behind_next, behind_all, past}
use Rattle.plain_eval.proofs.parts.sum_parts.Goals as goal

pub loop-n-init : goal.loop-n-init
loop-n-init c =
    let nodes = c.args.graph.now in let s = setting nodes c.args.coefficients.now c.args.space.now c.args.centre.now in
    let size : c.len-place.result ≡ length nodes = c.len-place.ensures.len in
    record {
      inside = omega (arith, size);
      count = c.requires.left;
      ranges_count = c.requires.ranges;
      ranges = λ k x a h. absurd (let t = past nodes k (omega (arith, a, size)) in let f : None ≡ Some x = sym (ap (λ m. part_in m (option_at c.args.coefficients.now.linear k) (option_at c.args.coefficients.now.square k)) t) ∙ h in cc);
      marks = refl;
      sum = c.only-sum.ensures ∙ sym (range_none s c.len-place.result size);
      behind = λ k x a h. absurd (let t = past nodes k (omega (arith, a, size)) in let f : None ≡ Some x = sym (ap (λ m. part_in m (option_at c.args.coefficients.now.linear k) (option_at c.args.coefficients.now.square k)) t) ∙ h in cc);
    }

pub loop-n-preserved : goal.loop-n-preserved
loop-n-preserved c =
    let nodes = c.args.graph.now in let s = setting nodes c.args.coefficients.now c.args.space.now c.args.centre.now in
    let next = c.in-Some.ensures in let n = c.in-Some.n in let p = c.loop-n.place in let before = c.loop-n.invariant in let linear = c.args.coefficients.now.linear in
    let none : (k : ℕ) → n < k → k < p → option_at linear k ≡ None = λ k a b. no_option linear k (next.between k a b) in
    let size : n < length (rows_of c.loop-n.left) = omega (arith, before.count, before.inside, next.below) in
    let inside : n < length nodes = omega (arith, before.inside, next.below) in
    record {
      inside = omega (arith, before.inside, next.below);
      count = ap length c.set.ensures.rows ∙ length-set (rows_of c.loop-n.left) n (interval_of c.loop-n.sum) ∙ before.count;
      ranges_count = c.before-sum.ensures.count ∙ before.ranges_count;
      ranges = range_put s c.requires.under n p (rows_of c.loop-n.ranges) (rows_of c.before-sum.new.ranges) none (λ x e. c.before-sum.ensures.range x (c.part_at-part.ensures ∙ e)) c.before-sum.ensures.others before.ranges;
      marks = c.set.ensures.marks ∙ before.marks;
      sum = c.before-sum.ensures.sum
          ∙ ap (λ (o : Option Part). before_sum s.space s.centre o (interval_of c.loop-n.sum)) c.part_at-part.ensures
          ∙ ap (λ (i : Interval). before_sum s.space s.centre (part_in_setting s n) i) (before.sum ∙ sym (range_skipped s c.requires.under p (suc n) (omega (arith, next.below)) before.inside (λ k a b. none k (omega (arith, a)) b)))
          ∙ sym (range_next s n inside);
      behind = behind_next s c.requires.under n p (rows_of c.loop-n.left) (rows_of c.set.new.self) (interval_of c.loop-n.sum) next.below before.inside size c.set.ensures.rows before.sum none before.behind;
    }

pub returns-clause-sum : goal.returns-clause-sum
returns-clause-sum c =
    let s = setting c.args.graph.now c.args.coefficients.now c.args.space.now c.args.centre.now in let before = c.loop-n.invariant in
    before.sum ∙ sym (range_skipped s c.requires.under c.loop-n.place 0 (omega arith) before.inside (λ k a b. no_option c.args.coefficients.now.linear k (c.in_default.ensures k b)))

pub returns-clause-behind : goal.returns-clause-behind
returns-clause-behind c =
    let s = setting c.args.graph.now c.args.coefficients.now c.args.space.now c.args.centre.now in let before = c.loop-n.invariant in
    behind_all s c.requires.under c.loop-n.place (rows_of c.loop-n.left) (λ k h. no_option c.args.coefficients.now.linear k (c.in_default.ensures k h)) before.behind

pub returns-clause-ranges : goal.returns-clause-ranges
returns-clause-ranges c =
    let s = setting c.args.graph.now c.args.coefficients.now c.args.space.now c.args.centre.now in let before = c.loop-n.invariant in
    ranges_all s c.requires.under c.loop-n.place (rows_of c.loop-n.ranges) (λ k h. no_option c.args.coefficients.now.linear k (c.in_default.ensures k h)) before.ranges
