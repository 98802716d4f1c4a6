use Rattle.std.proofs.Common.{◌≡◌, ◌≤◌, ℕ, length, None, vec_len}
use Rattle.cover_model.specs.Combination.{swept}
use Rattle.ival.specs.RowViews.{rows_of}
use Rattle.ival.specs.Options.{option_at}
use Rattle.ival.specs.SpaceViews.{space_of}
use Rattle.combine.specs.Parts.{expansion_of, IsMeasured, needed_below}
use Rattle.combine.proofs.sweep.sweep.Given as goal

-- what is left to sweep gives the same expansion
abbrev pub invariant-loop-n : goal.invariant-loop-n
invariant-loop-n l = record {
  inside : l.place ≤ length l.graph;
  adjoints : length (rows_of l.adjoints) ≡ length l.graph;
  squares : length (rows_of l.squares) ≡ length l.graph;
  under : (k : ℕ) → option_at l.adjoints k ≡ None → option_at l.squares k ≡ None;
  needed : needed_below l.graph l.place ≤ l.gathered.first;
  measured : IsMeasured (space_of l.enclosures.space.now) (space_of l.enclosures.centre.now) l.gathered;
  room : vec_len l.gathered.parts ≡ vec_len l.initial.gathered.parts;
  same : swept l.graph (rows_of l.enclosures.rows.now) (rows_of l.enclosures.centre_rows.now) (length l.graph) (option_at l.initial.adjoints) (option_at l.initial.squares) (expansion_of l.initial.gathered)
      ≡ swept l.graph (rows_of l.enclosures.rows.now) (rows_of l.enclosures.centre_rows.now) l.place (option_at l.adjoints) (option_at l.squares) (expansion_of l.gathered);
}

abbrev pub decreases-loop-n : goal.decreases-loop-n
decreases-loop-n l = l.place
