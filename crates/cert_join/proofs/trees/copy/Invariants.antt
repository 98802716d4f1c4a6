use Rattle.std.proofs.Common.{ℕ, List}
use Rattle.cert_join.specs.Due.{IsCopying}
use Rattle.cert_join.proofs.trees.copy.Given as goal

abbrev pub invariant-loop : goal.invariant-loop
invariant-loop l = (cert : List ℕ) (rest : List (List ℕ)) (whole : List ℕ) →
    IsCopying cert l.numbers rest whole l.fn.waiting l.fn.text.items l.fn.cursor →
    IsCopying cert l.numbers rest whole l.waiting l.text.items l.cursor
