use Rattle.std.proofs.Common.{◌≡◌, ◌+◌, ◌≤◌, drop}
use Rattle.smt_sexp.specs.Lexicon.{place_after}
use Rattle.smt_sexp.specs.Views.{place_of}
use Rattle.smt_sexp.proofs.reading.after.Given as goal

abbrev pub invariant-loop-b : goal.invariant-loop-b
invariant-loop-b l = record {
  rest : place_after (record { line = l.line; column = l.column }) (drop l.b-index l.bytes) ≡ place_after (place_of l.fn.place) l.bytes;
  line : l.line ≤ l.fn.place.line + l.b-index;
  column : l.column ≤ l.fn.place.column + l.b-index;
}
