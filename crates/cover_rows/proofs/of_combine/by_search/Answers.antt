use Rattle.std.proofs.Common.{ℕ, ◌<◌, length}
use Rattle.std.proofs.lemmas.List.Elements.{All-map}
use Rattle.dyadic.specs.Rounding.{Dyadic}
use Rattle.dyadic.specs.Views.{dyadic_of}
use Rattle.dyadic.specs.declared.dy.Dy.{Dy}
use Rattle.cover_rows.proofs.of_combine.by_search.Goals as goal

pub combine-answer-requires-clause-atoms : goal.combine-answer-requires-clause-atoms
combine-answer-requires-clause-atoms c = All-map (λ (x : ℕ × Dyadic). x.0 < length c.args.problem.now.atoms) (λ (x : ℕ × Dy). (x.0, dyadic_of x.1)) c.args.pairs.now c.requires.pairs
