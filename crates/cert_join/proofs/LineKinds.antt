-- What a line of a lemma is, by its first word.
use Rattle.std.proofs.Common.{◌≡◌, ℕ, List, [], ◌∷◌, IsTrue, codes, refl, ap, sym, ◌∙◌, get_or, map, drop}
use Rattle.std.specs.Prelude.{decimal}
use Rattle.cover_line.specs.Words.{empty_word, word_of, word_text}
use Rattle.cert_read.specs.CertLine.{CertLine, version, margin, delta, bound, lower, goal, over, checks, cover, keep, point_word, tree_word, end_word, lemma, real_interval, real_value, bool_value, yes_list, no_list, rule_line, crossing}
use Rattle.cert_read.specs.LineText.{line_text, line_words, spaced, bound_text, lower_text, bool_text}
use Rattle.cert_read.specs.Lines.{words_of}
use Rattle.cert_read.proofs.Pieces.{lacks}
use Rattle.cert_join.specs.Numbered.{word_kind, line_kind}
use Rattle.cert_join.proofs.RuleWords.{first_of_rule, word_told}
use Rattle.cert_join.proofs.Spaced.{split_spaced}

first-same : (w v : List ℕ) (ws vs : List (List ℕ)) → w ∷ ws ≡ v ∷ vs → w ≡ v
first-same w v ws vs e = ap (λ (xs : List (List ℕ)). get_or xs 0 w) e

-- the first word is this, whatever follows
begins : (text w v : List ℕ) (ws vs : List (List ℕ)) → words_of text ≡ w ∷ ws → text ≡ spaced (v ∷ vs) → IsTrue (lacks 32 v) → word_kind w ≡ word_kind v
begins text w v ws vs e t h = let r = split_spaced v vs h in ap word_kind (first-same w v ws r.0 (sym e ∙ ap words_of t ∙ r.1))

pub first_kind : (l : CertLine) (text w : List ℕ) (ws : List (List ℕ)) → words_of text ≡ w ∷ ws → text ≡ line_text l → word_kind w ≡ line_kind l
first_kind (rule_line r) text w ws e t = ap word_kind (first_of_rule r text w ws e t) ∙ (word_told (word_of r)).other
first_kind (version n) text w ws e t = begins text w (codes "dpoly") ws (decimal n ∷ []) e t refl
first_kind (margin n) text w ws e t = begins text w (codes "margin") ws (decimal n ∷ []) e t refl
first_kind (delta n) text w ws e t = begins text w (codes "delta") ws (decimal n ∷ []) e t refl
first_kind (bound n) text w ws e t = begins text w (codes "bound") ws (bound_text n ∷ []) e t refl
first_kind (lower d) text w ws e t = begins text w (codes "lower") ws (lower_text d ∷ []) e t refl
first_kind (goal n) text w ws e t = begins text w (codes "goal") ws (decimal n ∷ []) e t refl
first_kind (checks n) text w ws e t = begins text w (codes "checks") ws (decimal n ∷ []) e t refl
first_kind (cover n) text w ws e t = begins text w (codes "cover") ws (decimal n ∷ []) e t refl
first_kind (keep n) text w ws e t = begins text w (codes "keep") ws (decimal n ∷ []) e t refl
first_kind point_word text w ws e t = begins text w (codes "point") ws [] e t refl
first_kind tree_word text w ws e t = begins text w (codes "tree") ws [] e t refl
first_kind end_word text w ws e t = begins text w (codes "end") ws [] e t refl
first_kind (lemma n) text w ws e t = begins text w (codes "lemma") ws (decimal n ∷ []) e t refl
first_kind (real_interval l h) text w ws e t = begins text w (codes "real") ws (drop 1 (line_words (real_interval l h))) e t refl
first_kind (real_value l) text w ws e t = begins text w (codes "real") ws (drop 1 (line_words (real_value l))) e t refl
first_kind (bool_value l) text w ws e t = begins text w (codes "bool") ws (bool_text l ∷ []) e t refl
first_kind (yes_list js) text w ws e t = begins text w (codes "yes") ws (map decimal js) e t refl
first_kind (no_list js) text w ws e t = begins text w (codes "no") ws (map decimal js) e t refl
first_kind over text w ws e t = begins text w (codes "over") ws [] e t refl
first_kind (crossing n) text w ws e t = begins text w (word_text empty_word) ws (decimal n ∷ []) e t refl
