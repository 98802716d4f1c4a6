use Rattle.std.proofs.Common.{◌≡◌, drop, length, IsTrue, nat_lt}
use Rattle.std.specs.List.{list_all}
use Rattle.form_truth.specs.Truth.{is_true}
use Rattle.cert_check.proofs.form.all_hold.Given as goal

-- what is left to look at decides
abbrev pub invariant-loop-k : goal.invariant-loop-k
invariant-loop-k l = record {
  inside : IsTrue (list_all (λ k. nat_lt k (length l.truths)) (drop l.k-index l.numbers));
  rest : list_all (is_true l.truths) l.numbers ≡ list_all (is_true l.truths) (drop l.k-index l.numbers);
}
