-- The lemmas that are written, by the numbers that those of each cover have: each where its number comes first.
use Rattle.std.specs.Prelude.{ℕ, suc, ◌+◌, List, [], ◌∷◌, ◌++◌, cond, length, map, nat_eq}
use Rattle.cert_read.specs.CertLine.{CertLine, tree_word, end_word}
use Rattle.cert_read.specs.LineText.{line_text, text_of_lines}
use Rattle.cert_model.specs.Written.{rule_lines}
use Rattle.cover_model.specs.Derivation.{tree_lines}
use Rattle.cert_joined.specs.Covers.{Cover, Lemma, lemmas_lines, numbered, tree_by}

-- the lines of these, as bytes
abbrev pub texts_of : List CertLine → List (List ℕ)
texts_of ls = map line_text ls

-- the same as one text
abbrev pub text_of : List CertLine → List ℕ
text_of ls = text_of_lines (texts_of ls)

-- the lemma, whose tree names others by these numbers
abbrev pub lemma_by : List ℕ → Lemma → Lemma
lemma_by numbers x = record x { tree = tree_by (numbered numbers) x.tree }

-- the lemmas of one cover, of which these are left, whose number is the next one
abbrev pub new_ones : List ℕ → ℕ → List ℕ → List Lemma → List Lemma
new_ones numbers next (n ∷ ns) (x ∷ xs) = cond (nat_eq n next) (lemma_by numbers x ∷ new_ones numbers (suc next) ns xs) (new_ones numbers next ns xs)
new_ones numbers next _ _ = []

-- those of covers, from this number on
abbrev pub written_from : ℕ → List (List ℕ) → List Cover → List Lemma
written_from next (ns ∷ numbers) (c ∷ covers) =
    new_ones ns next ns c.lemmas ++ written_from (next + length (new_ones ns next ns c.lemmas)) numbers covers
written_from next _ _ = []

-- ---- what is ahead in the certificate of a cover

-- behind its header
abbrev pub behind_header : Cover → List (List ℕ)
behind_header c = texts_of (lemmas_lines 0 c.lemmas ++ (tree_word ∷ (rule_lines (tree_lines c.tree) ++ (end_word ∷ []))))

-- behind its lemmas
abbrev pub behind_lemmas : Cover → List (List ℕ)
behind_lemmas c = texts_of (rule_lines (tree_lines c.tree) ++ (end_word ∷ []))

-- behind its tree
abbrev pub behind_tree : List (List ℕ)
behind_tree = texts_of (end_word ∷ [])
