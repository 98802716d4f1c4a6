use Rattle.std.proofs.Common.{take}
use Rattle.cover_model.specs.Views.{multipliers_of}
use Rattle.cert_text.specs.Lines.{HasPairs}
use Rattle.cert_text.proofs.append.append_pairs.Given as goal

abbrev pub invariant-loop-pair : goal.invariant-loop-pair
invariant-loop-pair l = HasPairs l.fn.text.items (multipliers_of (take l.pair-index l.pairs)) l.text.items
