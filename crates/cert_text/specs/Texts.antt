-- The certificate of a book, and of a point: their texts.
use Rattle.std.specs.Prelude.{ℕ, List, [], ◌∷◌}
use Rattle.cover_model.specs.Derivation.{Tree, tree_lines}
use Rattle.cert_read.specs.CertLine.{CertLine, crossing}
use Rattle.cert_model.specs.Written.{rule_lines, cover_lines}
use Rattle.cert_model.specs.Accepted.{certificate_text}
use Rattle.cover_book.specs.Model.{BookModel, loosenings_in}
use Rattle.cover_book.specs.Tree.{lemma_trees}

-- the lines of a book's certificate with this tree: all lemmas that it learned, then the tree
abbrev pub book_lines : BookModel → Tree → List CertLine
book_lines b t = cover_lines (loosenings_in b) b.options.bound (lemma_trees b) (rule_lines (tree_lines t))

-- where the bounds of this axis cross
abbrev pub crossed_lines : BookModel → ℕ → List CertLine
crossed_lines b i = cover_lines (loosenings_in b) b.options.bound (lemma_trees b) (crossing i ∷ [])

abbrev pub book_text : BookModel → Tree → List ℕ
book_text b t = certificate_text (book_lines b t)

abbrev pub crossed_text : BookModel → ℕ → List ℕ
crossed_text b i = certificate_text (crossed_lines b i)
