-- What the tests try.
use Rattle.std.specs.Prelude.{◌≡◌}
use Rattle.poly_graph.specs.ProblemViews.{Parts}
use Rattle.cover_data.specs.declared.margins.Margins.{Margins}
use Rattle.cover_data.specs.Margins.{AreMargins}
use Rattle.cover_book.specs.Model.{BookModel, margins_of}
use Rattle.sample_problems.specs.Small.{IsSmall}

-- a book's problem and its margins
abbrev pub IsTried : BookModel → Parts → Margins → Type 0
IsTried b p m = (b.problem ≡ p) × (margins_of b.options ≡ m) × IsSmall p × AreMargins m
