use Rattle.std.proofs.Common.{◌≡◌, ℕ, drop}
use Rattle.std.specs.List.{list_all}
use Rattle.poly_graph.specs.Marks.{is_no, mark_at}
use Rattle.cert_check.proofs.covering.all_no.Given as goal

abbrev pub invariant-loop-j : goal.invariant-loop-j
invariant-loop-j l = list_all (λ (j : ℕ). is_no (mark_at l.lits j)) l.js ≡ list_all (λ (j : ℕ). is_no (mark_at l.lits j)) (drop l.j-index l.js)
