use Rattle.std.proofs.Common.{◌≡◌, ℕ, List, length, false, inl, inr, sym, subst, arith}
use Rattle.std.proofs.lemmas.Bool.{cases_lt}
use Rattle.std.proofs.lemmas.List.{get_or_past, with_items_is}
use Rattle.ival.specs.RowViews.{marks_of, is_marked}
use Rattle.ival.proofs.MarkWords.{marks_in, none_marked}
use Rattle.ival.proofs.row_parts.Rows.clear_marks.Goals as goal

pub returns-clause-marks : goal.returns-clause-marks
unfolding marks_of
returns-clause-marks c k =
    let r = c.args.self.now in let zeros = c.loop-word.word-items in let n : ℕ = length r.intervals.items in
    subst (λ (ws : List ℕ). is_marked (marks_in n ws) k ≡ false) (sym (with_items_is r.words zeros (omega (arith, c.loop-word.auto.word-items, c.deref_mut-word-items.ensures.len))))
    (none_marked zeros n (λ i. elim (cases_lt i c.loop-word.word-index) [
      | inl h ↦ c.loop-word.invariant i h
      | inr h ↦ get_or_past zeros i 0 (omega (arith, h, c.loop-word-test.false, c.loop-word.auto.word-items))
    ]) k)
