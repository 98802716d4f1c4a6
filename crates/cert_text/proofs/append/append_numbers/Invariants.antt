use Rattle.std.proofs.Common.{◌≡◌, ◌++◌}
use Rattle.cert_text.specs.Lines.{is_marked, listed}
use Rattle.cert_text.proofs.Items.{numbers_past}
use Rattle.cert_text.proofs.append.append_numbers.Given as goal

-- what was written, and the numbers to come, are all numbers
abbrev pub invariant-loop-j : goal.invariant-loop-j
invariant-loop-j l = l.text.items ++ listed (numbers_past (is_marked l.yes) l.j l.marks) ≡ l.fn.text.items ++ listed (numbers_past (is_marked l.yes) 0 l.marks)
