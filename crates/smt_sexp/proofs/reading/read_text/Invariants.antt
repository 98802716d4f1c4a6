use Rattle.std.proofs.Common.{◌+◌, ◌-◌, ◌≤◌, drop, length}
use Rattle.std.specs.Vec.{vec_len}
use Rattle.smt_sexp.specs.Lexicon.{read}
use Rattle.smt_sexp.specs.Step.{IsReading}
use Rattle.smt_sexp.specs.Views.{place_of}
use Rattle.smt_sexp.proofs.reading.read_text.Given as goal

abbrev pub invariant-loop-at : goal.invariant-loop-at
invariant-loop-at l = record {
  within : l.at ≤ length l.bytes;
  line : l.place.line ≤ l.at + 1;
  column : l.place.column ≤ l.at + 1;
  count : vec_len l.building.nodes ≤ l.at;
  reading : IsReading l.building (place_of l.place) (drop l.at l.bytes) (read l.bytes);
}

abbrev pub decreases-loop-at : goal.decreases-loop-at
decreases-loop-at l = length l.bytes - l.at
