use Rattle.std.proofs.Common.{◌∷◌, [], ℕ, map, take}
use Rattle.std.specs.Prelude.{decimal}
use Rattle.std.specs.List.{AllByRecursion}
use Rattle.cert_read.specs.LineText.{IsCount}
use Rattle.cert_text.specs.Ruled.{HasWords}
use Rattle.cert_text.proofs.Words.{flat}
use Rattle.cert_text.proofs.squares.append_each.Given as goal

abbrev pub invariant-loop-number : goal.invariant-loop-number
invariant-loop-number l = record {
  words : HasWords l.fn.text.items (flat (map (λ (n : ℕ). decimal n ∷ []) (take l.number-index l.numbers))) l.text.items;
  counts : AllByRecursion IsCount (take l.number-index l.numbers);
}
