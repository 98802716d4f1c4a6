-- The book of the first search.
use Rattle.std.proofs.Common.{◌≡◌, None}
use Rattle.poly_graph.specs.ProblemViews.{Parts}
use Rattle.cover_data.specs.declared.margins.Options.{Options}
use Rattle.cover_book.specs.Model.{BookModel}
use Rattle.least_search.specs.Found.{IsBookOf, IsFirst}

pub first_of : (q : Parts) (o : Options) (b : BookModel) → IsBookOf q o b → b.point ≡ None → IsFirst q o b
first_of q o b h n = record { searched = h; no_point = n }
