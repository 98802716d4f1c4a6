use Rattle.std.proofs.Common.{ℕ, map, take}
use Rattle.std.specs.Prelude.{Vec}
use Rattle.std.specs.Global.{Global}
use Rattle.std.specs.List.{AllByRecursion}
use Rattle.cert_read.specs.LineText.{IsCount}
use Rattle.cert_text.specs.Ruled.{HasWords}
use Rattle.cert_text.proofs.Words.{flat}
use Rattle.cert_text.proofs.SquareWords.{axes_words}
use Rattle.cert_text.proofs.squares.append_monomials.Given as goal

abbrev pub invariant-loop-axes : goal.invariant-loop-axes
invariant-loop-axes l = record {
  words : HasWords l.fn.text.items (flat (map axes_words (take l.axes-index l.monomials))) l.text.items;
  counts : AllByRecursion (λ (v : Vec ℕ Global). AllByRecursion IsCount v.items) (take l.axes-index l.monomials);
}
