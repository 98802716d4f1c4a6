-- The text of a cover that goes on.
use Rattle.std.specs.Prelude.{ℕ, List, [], ◌∷◌, ◌++◌, length}
use Rattle.cover_data.specs.declared.margins.Options.{Options}
use Rattle.cert_read.specs.CertLine.{CertLine, version, margin, delta, bound, cover, tree_word, end_word}
use Rattle.cert_model.specs.Accepted.{certificate_text}
use Rattle.cert_resume.specs.Going.{options_now}
use Rattle.cert_resume.specs.declared.going.Going.{Going}

abbrev pub header_lines : Options → ℕ → List CertLine
header_lines o k = version o.version ∷ margin o.margin_bits ∷ delta o.delta_bits ∷ bound o.bound ∷ cover k ∷ []

-- the header and the lines of the lemmas that were read, the lemmas that were learned, and the main tree
abbrev pub whole_text : Options → List CertLine → Going → List ℕ
whole_text o lemma_lines g =
    certificate_text (header_lines (options_now o g) (length g.lemmas.items)) ++ (certificate_text lemma_lines ++ (g.learned.items ++ (certificate_text (tree_word ∷ []) ++ (g.main.items ++ certificate_text (end_word ∷ [])))))
