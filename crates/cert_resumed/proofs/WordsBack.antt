-- What the words of a line say is a line that these words spell.
use Rattle.std.proofs.Common.{◌≡◌, ◌<◌, ℕ, List, [], ◌∷◌, map, Bool, true, false, cond, Option, Some, None, refl, ap, ap₂, sym, subst, ◌∙◌, length, codes, arith}
use Rattle.std.specs.Prelude.{decimal}
use Rattle.std.specs.List.{AllByRecursion}
use Rattle.std.specs.Str.{bytes_eq}
use Rattle.std.proofs.lemmas.Slice.Eq.{bytes_eq-Decides}
use Rattle.dyadic.specs.Rounding.{Dyadic}
use Rattle.dyadic.specs.NumberText.{number_spelling}
use Rattle.cover_line.specs.Line.{Multipliers, pull, unit, void, push, void_no, combine, void_combine, void_squares, Block, ban, make_false, by, cut, flip, case, either, open_line, stuck}
use Rattle.cover_line.specs.Words.{empty_word, pull_word, unit_word, ban_word, void_word, push_word, void_no_word, false_word, by_word, cut_word, flip_word, case_word, open_word, stuck_word, combine_word, void_combine_word, void_squares_word, either_word, of_squares, of_groups, word_text}
use Rattle.cert_read.specs.CertLine.{says_false, says_true, says_both, CertLine, version, margin, delta, bound, lower, goal, over, checks, cover, keep, point_word, tree_word, end_word, lemma, real_interval, real_value, bool_value, yes_list, no_list, rule_line, crossing, Parsed, line, bad_line, bad_number, count_of, dyadic_of, counts_of, pairs_of, has_pairs, with_count, with_counts, with_dyadic, with_dyadics, with_both, with_list, with_pairs, Taken, taken, ill_formed, no_number, line_taken, take_squares, take_groups, alone, counted, counted_twice, placed, paired, squared, grouped, listed, bound_in, lower_in, bool_in, real_in, entry, header_forms, tree_forms, or_bad, or_rule, by_first}
use Rattle.cert_read.specs.LineText.{pair_words, operand_words, line_words, IsCount, IsSpelledNumber, IsSpelledPair, AreSpelledPairs, AreSpelledOperands, HasSpelling}
use Rattle.cert_read.proofs.Spelled.{AreCleanWords}
use Rattle.cert_resumed.proofs.SpelledNumbers.{count_back, number_back, counts_back, pairs_back}
use Rattle.cert_resumed.proofs.SpelledSquares.{IsTakenBack, squares_alone, AreSpelledSquares, squares_back, groups_alone, AreSpelledGroups, groups_back}

-- the words spell the line
abbrev pub Spells : List (List ℕ) → CertLine → Type 0
Spells ws l = (line_words l ≡ ws) × HasSpelling l

same-line : (k l : CertLine) → line k ≡ line l → k ≡ l
same-line k l h = cc

no-line : (l : CertLine) → bad_line ≡ line l → ⊥
no-line l h = absurd (cc)

no-number : (l : CertLine) → bad_number ≡ line l → ⊥
no-number l h = absurd (cc)

this-line : (ws : List (List ℕ)) (k l : CertLine) → line k ≡ line l → line_words k ≡ ws → HasSpelling k → Spells ws l
this-line ws k l h e s = subst (Spells ws) (same-line k l h) (e, s)

-- what the form says of words behind this first one is what they spell
abbrev pub Gives : List ℕ → (List (List ℕ) → Parsed) → Type 0
Gives name f = (ws : List (List ℕ)) (l : CertLine) → AreCleanWords ws → f ws ≡ line l → Spells (name ∷ ws) l

-- ---- the forms

gives-alone : (name : List ℕ) (k : CertLine) → line_words k ≡ name ∷ [] → HasSpelling k → Gives name (alone k)
gives-alone name k e s [] l c h = this-line (name ∷ []) k l h e s
gives-alone name k e s (w ∷ ws) l c h = absurd (no-line l h)

-- a line of one plain number
abbrev OneCount : List ℕ → (ℕ → CertLine) → Type 0
OneCount name f = (n : ℕ) → IsCount n → (line_words (f n) ≡ name ∷ decimal n ∷ []) × HasSpelling (f n)

one-count : (name : List ℕ) (f : ℕ → CertLine) → OneCount name f → (w : List ℕ) (o : Option ℕ) → ((n : ℕ) → o ≡ Some n → (decimal n ≡ w) × IsCount n)
    → (l : CertLine) → with_count f o ≡ line l → Spells (name ∷ w ∷ []) l
one-count name f k w None g l h = absurd (no-number l h)
one-count name f k w (Some n) g l h = let a = g n refl in let s = k n a.1 in this-line (name ∷ w ∷ []) (f n) l h (s.0 ∙ ap (λ (v : List ℕ). name ∷ v ∷ []) a.0) s.1

gives-count : (name : List ℕ) (f : ℕ → CertLine) → OneCount name f → Gives name (counted f)
gives-count name f k [] l c h = absurd (no-line l h)
gives-count name f k (w ∷ []) l c h = one-count name f k w (count_of w) (count_back w) l h
gives-count name f k (w ∷ v ∷ ws) l c h = absurd (no-line l h)

two-counts : (name : List ℕ) (f : ℕ → ℕ → CertLine) → ((m n : ℕ) → IsCount m → IsCount n → (line_words (f m n) ≡ name ∷ decimal m ∷ decimal n ∷ []) × HasSpelling (f m n))
    → (v w : List ℕ) (o q : Option ℕ) → ((n : ℕ) → o ≡ Some n → (decimal n ≡ v) × IsCount n) → ((n : ℕ) → q ≡ Some n → (decimal n ≡ w) × IsCount n)
    → (l : CertLine) → with_counts f o q ≡ line l → Spells (name ∷ v ∷ w ∷ []) l
two-counts name f k v w None q g r l h = absurd (no-number l h)
two-counts name f k v w (Some m) None g r l h = absurd (no-number l h)
two-counts name f k v w (Some m) (Some n) g r l h =
    let a = g m refl in let b = r n refl in let s = k m n a.1 b.1 in
    this-line (name ∷ v ∷ w ∷ []) (f m n) l h (s.0 ∙ ap₂ (λ (x : List ℕ) (y : List ℕ). name ∷ x ∷ y ∷ []) a.0 b.0) s.1

gives-counts : (name : List ℕ) (f : ℕ → ℕ → CertLine) → ((m n : ℕ) → IsCount m → IsCount n → (line_words (f m n) ≡ name ∷ decimal m ∷ decimal n ∷ []) × HasSpelling (f m n))
    → Gives name (counted_twice f)
gives-counts name f k [] l c h = absurd (no-line l h)
gives-counts name f k (v ∷ []) l c h = absurd (no-line l h)
gives-counts name f k (v ∷ w ∷ []) l c h = two-counts name f k v w (count_of v) (count_of w) (count_back v) (count_back w) l h
gives-counts name f k (v ∷ w ∷ u ∷ ws) l c h = absurd (no-line l h)

both-numbers : (name : List ℕ) (f : ℕ → Dyadic → CertLine) → ((n : ℕ) (d : Dyadic) → IsCount n → IsSpelledNumber d → (line_words (f n d) ≡ name ∷ decimal n ∷ number_spelling d ∷ []) × HasSpelling (f n d))
    → (v w : List ℕ) (o : Option ℕ) (q : Option Dyadic) → ((n : ℕ) → o ≡ Some n → (decimal n ≡ v) × IsCount n) → ((d : Dyadic) → q ≡ Some d → (number_spelling d ≡ w) × IsSpelledNumber d)
    → (l : CertLine) → with_both f o q ≡ line l → Spells (name ∷ v ∷ w ∷ []) l
both-numbers name f k v w None q g r l h = absurd (no-number l h)
both-numbers name f k v w (Some m) None g r l h = absurd (no-number l h)
both-numbers name f k v w (Some m) (Some d) g r l h =
    let a = g m refl in let b = r d refl in let s = k m d a.1 b.1 in
    this-line (name ∷ v ∷ w ∷ []) (f m d) l h (s.0 ∙ ap₂ (λ (x : List ℕ) (y : List ℕ). name ∷ x ∷ y ∷ []) a.0 b.0) s.1

gives-place : (name : List ℕ) (f : ℕ → Dyadic → CertLine) → ((n : ℕ) (d : Dyadic) → IsCount n → IsSpelledNumber d → (line_words (f n d) ≡ name ∷ decimal n ∷ number_spelling d ∷ []) × HasSpelling (f n d))
    → Gives name (placed f)
gives-place name f k [] l c h = absurd (no-line l h)
gives-place name f k (v ∷ []) l c h = absurd (no-line l h)
gives-place name f k (v ∷ w ∷ []) l c h = both-numbers name f k v w (count_of v) (dyadic_of w) (count_back v) (λ d. number_back w d c.1.0) l h
gives-place name f k (v ∷ w ∷ u ∷ ws) l c h = absurd (no-line l h)

some-pairs : (ps : Multipliers) (v : List ℕ) (ws : List (List ℕ)) → pair_words ps ≡ v ∷ ws → 0 < length ps
some-pairs [] v ws h = absurd (cc)
some-pairs (p ∷ ps) v ws h = omega arith

these-pairs : (name : List ℕ) (f : Multipliers → CertLine) → ((ps : Multipliers) → AreSpelledPairs ps → (line_words (f ps) ≡ name ∷ pair_words ps) × HasSpelling (f ps))
    → (v : List ℕ) (ws : List (List ℕ)) (o : Option Multipliers) → ((ps : Multipliers) → o ≡ Some ps → (pair_words ps ≡ v ∷ ws) × AllByRecursion IsSpelledPair ps)
    → (l : CertLine) → with_pairs f o ≡ line l → Spells (name ∷ v ∷ ws) l
these-pairs name f k v ws None g l h = absurd (no-number l h)
these-pairs name f k v ws (Some ps) g l h =
    let a = g ps refl in let s = k ps (some-pairs ps v ws a.0, a.1) in
    this-line (name ∷ v ∷ ws) (f ps) l h (s.0 ∙ ap (λ (us : List (List ℕ)). name ∷ us) a.0) s.1

gives-pairs : (name : List ℕ) (f : Multipliers → CertLine) → ((ps : Multipliers) → AreSpelledPairs ps → (line_words (f ps) ≡ name ∷ pair_words ps) × HasSpelling (f ps)) → Gives name (paired f)
gives-pairs name f k [] l c h = absurd (no-line l h)
gives-pairs name f k (v ∷ ws) l c h = from (has_pairs (v ∷ ws)) refl h where
  from : (t : Bool) → has_pairs (v ∷ ws) ≡ t → cond t (with_pairs f (pairs_of (v ∷ ws))) bad_line ≡ line l → Spells (name ∷ v ∷ ws) l
  from true e g = these-pairs name f k v ws (pairs_of (v ∷ ws)) (λ ps. pairs_back (v ∷ ws) ps c e) l g
  from false e g = absurd (no-line l g)

gives-squares : (name : List ℕ) (f : Multipliers → List Block → CertLine)
    → ((ms : Multipliers) (bs : List Block) → AreSpelledOperands (of_squares ms bs) → (line_words (f ms bs) ≡ name ∷ operand_words (of_squares ms bs)) × HasSpelling (f ms bs)) → Gives name (squared f)
gives-squares name f k ws l c h = from (take_squares ws) (squares_back ws c) h where
  from : (t : Taken (Multipliers × List Block)) → IsTakenBack squares_alone AreSpelledSquares ws t → line_taken f t ≡ line l → Spells (name ∷ ws) l
  from (taken x us) a g = let s = k x.0 x.1 a.1 in this-line (name ∷ ws) (f x.0 x.1) l g (s.0 ∙ ap (λ (vs : List (List ℕ)). name ∷ vs) a.0) s.1
  from ill_formed a g = absurd (no-line l g)
  from no_number a g = absurd (no-number l g)

gives-groups : (name : List ℕ) (f : List ℕ → List ℕ → CertLine)
    → ((js ks : List ℕ) → AreSpelledOperands (of_groups js ks) → (line_words (f js ks) ≡ name ∷ operand_words (of_groups js ks)) × HasSpelling (f js ks)) → Gives name (grouped f)
gives-groups name f k ws l c h = from (take_groups ws) (groups_back ws c) h where
  from : (t : Taken (List ℕ × List ℕ)) → IsTakenBack groups_alone AreSpelledGroups ws t → line_taken f t ≡ line l → Spells (name ∷ ws) l
  from (taken x us) a g = let s = k x.0 x.1 a.1 in this-line (name ∷ ws) (f x.0 x.1) l g (s.0 ∙ ap (λ (vs : List (List ℕ)). name ∷ vs) a.0) s.1
  from ill_formed a g = absurd (no-line l g)
  from no_number a g = absurd (no-number l g)

these-counts : (name : List ℕ) (f : List ℕ → CertLine) → ((ns : List ℕ) → AllByRecursion IsCount ns → (line_words (f ns) ≡ name ∷ map decimal ns) × HasSpelling (f ns))
    → (ws : List (List ℕ)) (o : Option (List ℕ)) → ((ns : List ℕ) → o ≡ Some ns → (map decimal ns ≡ ws) × AllByRecursion IsCount ns) → (l : CertLine) → with_list f o ≡ line l → Spells (name ∷ ws) l
these-counts name f k ws None g l h = absurd (no-number l h)
these-counts name f k ws (Some ns) g l h =
    let a = g ns refl in let s = k ns a.1 in this-line (name ∷ ws) (f ns) l h (s.0 ∙ ap (λ (us : List (List ℕ)). name ∷ us) a.0) s.1

gives-list : (name : List ℕ) (f : List ℕ → CertLine) → ((ns : List ℕ) → AllByRecursion IsCount ns → (line_words (f ns) ≡ name ∷ map decimal ns) × HasSpelling (f ns)) → Gives name (listed f)
gives-list name f k ws l c h = these-counts name f k ws (counts_of ws) (counts_back ws) l h

same-word : (v w : List ℕ) → bytes_eq v w ≡ true → v ≡ w
same-word v w h = (bytes_eq-Decides v w).0 h

gives-bound : Gives (codes "bound") bound_in
gives-bound [] l c h = absurd (no-line l h)
gives-bound (w ∷ []) l c h = from (bytes_eq w (codes "none")) refl h where
  from : (t : Bool) → bytes_eq w (codes "none") ≡ t → cond t (line (bound None)) (with_count (λ n. bound (Some n)) (count_of w)) ≡ line l → Spells (codes "bound" ∷ w ∷ []) l
  from true e g = this-line (codes "bound" ∷ w ∷ []) (bound None) l g (ap (λ (v : List ℕ). codes "bound" ∷ v ∷ []) (sym (same-word w (codes "none") e))) tt
  from false e g = one-count (codes "bound") (λ n. bound (Some n)) (λ n k. (refl, k)) w (count_of w) (count_back w) l g
gives-bound (w ∷ v ∷ ws) l c h = absurd (no-line l h)

one-dyadic : (name : List ℕ) (f : Dyadic → CertLine) → ((d : Dyadic) → IsSpelledNumber d → (line_words (f d) ≡ name ∷ number_spelling d ∷ []) × HasSpelling (f d)) → (w : List ℕ) (o : Option Dyadic) → ((d : Dyadic) → o ≡ Some d → (number_spelling d ≡ w) × IsSpelledNumber d)
    → (l : CertLine) → with_dyadic f o ≡ line l → Spells (name ∷ w ∷ []) l
one-dyadic name f k w None g l h = absurd (no-number l h)
one-dyadic name f k w (Some d) g l h = let a = g d refl in let s = k d a.1 in this-line (name ∷ w ∷ []) (f d) l h (s.0 ∙ ap (λ (v : List ℕ). name ∷ v ∷ []) a.0) s.1

gives-lower : Gives (codes "lower") lower_in
gives-lower [] l c h = absurd (no-line l h)
gives-lower (w ∷ []) l c h = from (bytes_eq w (codes "none")) refl h where
  from : (t : Bool) → bytes_eq w (codes "none") ≡ t → cond t (line (lower None)) (with_dyadic (λ d. lower (Some d)) (dyadic_of w)) ≡ line l → Spells (codes "lower" ∷ w ∷ []) l
  from true e g = this-line (codes "lower" ∷ w ∷ []) (lower None) l g (ap (λ (v : List ℕ). codes "lower" ∷ v ∷ []) (sym (same-word w (codes "none") e))) tt
  from false e g = one-dyadic (codes "lower") (λ d. lower (Some d)) (λ d k. (refl, k)) w (dyadic_of w) (λ d. number_back w d c.0) l g
gives-lower (w ∷ v ∷ ws) l c h = absurd (no-line l h)

bool-word : (w v : List ℕ) (k l : CertLine) (rest : Parsed) → line_words k ≡ codes "bool" ∷ v ∷ [] → HasSpelling k → (rest ≡ line l → Spells (codes "bool" ∷ w ∷ []) l)
    → cond (bytes_eq w v) (line k) rest ≡ line l → Spells (codes "bool" ∷ w ∷ []) l
bool-word w v k l rest e s g h = from (bytes_eq w v) refl h where
  from : (t : Bool) → bytes_eq w v ≡ t → cond t (line k) rest ≡ line l → Spells (codes "bool" ∷ w ∷ []) l
  from true f r = this-line (codes "bool" ∷ w ∷ []) k l r (e ∙ ap (λ (u : List ℕ). codes "bool" ∷ u ∷ []) (sym (same-word w v f))) s
  from false f r = g r

gives-bool : Gives (codes "bool") bool_in
gives-bool [] l c h = absurd (no-line l h)
gives-bool (w ∷ []) l c h =
    bool-word w (codes "false") (bool_value says_false) l _ refl tt
    (bool-word w (codes "true") (bool_value says_true) l _ refl tt
    (bool-word w (codes "both") (bool_value says_both) l bad_line refl tt (λ g. absurd (no-line l g)))) h
gives-bool (w ∷ v ∷ ws) l c h = absurd (no-line l h)

real-two : (v w : List ℕ) (o q : Option Dyadic) → ((d : Dyadic) → o ≡ Some d → (number_spelling d ≡ v) × IsSpelledNumber d) → ((d : Dyadic) → q ≡ Some d → (number_spelling d ≡ w) × IsSpelledNumber d)
    → (l : CertLine) → with_dyadics real_interval o q ≡ line l → Spells (codes "real" ∷ v ∷ w ∷ []) l
real-two v w None q g r l h = absurd (no-number l h)
real-two v w (Some d) None g r l h = absurd (no-number l h)
real-two v w (Some d) (Some e) g r l h = let a = g d refl in let b = r e refl in
    this-line (codes "real" ∷ v ∷ w ∷ []) (real_interval d e) l h (ap₂ (λ (x : List ℕ) (y : List ℕ). codes "real" ∷ x ∷ y ∷ []) a.0 b.0) (a.1, b.1)

gives-real : Gives (codes "real") real_in
gives-real [] l c h = absurd (no-line l h)
gives-real (w ∷ []) l c h = one-dyadic (codes "real") real_value (λ d k. (refl, k)) w (dyadic_of w) (λ d. number_back w d c.0) l h
gives-real (v ∷ w ∷ []) l c h = real-two v w (dyadic_of v) (dyadic_of w) (λ d. number_back v d c.0) (λ d. number_back w d c.1.0) l h
gives-real (v ∷ w ∷ u ∷ ws) l c h = absurd (no-line l h)

-- ---- the tables

abbrev AllGive : List (List ℕ × (List (List ℕ) → Parsed)) → Type 0
AllGive [] = Unit {0}
AllGive (e ∷ rest) = Gives e.0 e.1 × AllGive rest

header-gives : AllGive header_forms
header-gives = (
  gives-count (codes "dpoly") version (λ n k. (refl, k)),
  (
    gives-count (codes "margin") margin (λ n k. (refl, k)),
    (
      gives-count (codes "delta") delta (λ n k. (refl, k)),
      (
        gives-bound,
        (
          gives-lower,
          (
            gives-count (codes "goal") goal (λ n k. (refl, k)),
            (
              gives-count (codes "checks") checks (λ n k. (refl, k)),
              (
                gives-count (codes "cover") cover (λ n k. (refl, k)),
                (
                  gives-count (codes "keep") keep (λ n k. (refl, k)),
                  (
                    gives-alone (codes "point") point_word refl tt,
                    (
                      gives-alone (codes "tree") tree_word refl tt,
                      (
                        gives-alone (codes "end") end_word refl tt,
                        (
                          gives-count (codes "lemma") lemma (λ n k. (refl, k)),
                          (
                            gives-real,
                            (
                              gives-bool,
                              (
                                gives-list (codes "yes") yes_list (λ ns k. (refl, k)),
                                (
                                  gives-list (codes "no") no_list (λ ns k. (refl, k)),
                                  (
                                    gives-alone (codes "over") over refl tt,
                                    (
                                      gives-count (word_text empty_word) crossing (λ n k. (refl, k)),
                                      tt,
                                    ),
                                  ),
                                ),
                              ),
                            ),
                          ),
                        ),
                      ),
                    ),
                  ),
                ),
              ),
            ),
          ),
        ),
      ),
    ),
  ),
)

tree-gives : AllGive tree_forms
tree-gives = (
  gives-count (word_text pull_word) (λ n. rule_line (pull n)) (λ n k. (refl, k)),
  (
    gives-count (word_text unit_word) (λ n. rule_line (unit n)) (λ n k. (refl, k)),
    (
      gives-count (word_text void_word) (λ n. rule_line (void n)) (λ n k. (refl, k)),
      (
        gives-count (word_text push_word) (λ n. rule_line (push n)) (λ n k. (refl, k)),
        (
          gives-count (word_text void_no_word) (λ n. rule_line (void_no n)) (λ n k. (refl, k)),
          (
            gives-count (word_text case_word) (λ n. rule_line (case n)) (λ n k. (refl, k)),
            (
              gives-count (word_text stuck_word) (λ n. rule_line (stuck n)) (λ n k. (refl, k)),
              (
                gives-count (word_text by_word) (λ n. rule_line (by n)) (λ n k. (refl, k)),
                (
                  gives-counts (word_text ban_word) (λ m n. rule_line (ban m n)) (λ m n j k. (refl, (j, k))),
                  (
                    gives-place (word_text cut_word) (λ n d. rule_line (cut n d)) (λ n d j k. (refl, (j, k))),
                    (
                      gives-count (word_text flip_word) (λ n. rule_line (flip n)) (λ n k. (refl, k)),
                      (
                        gives-pairs (word_text combine_word) (λ ps. rule_line (combine ps)) (λ ps k. (refl, k)),
                        (
                          gives-pairs (word_text void_combine_word) (λ ps. rule_line (void_combine ps)) (λ ps k. (refl, k)),
                          (
                            gives-squares (word_text void_squares_word) (λ ms bs. rule_line (void_squares ms bs)) (λ ms bs k. (refl, k)),
                            (
                              gives-groups (word_text either_word) (λ js ks. rule_line (either js ks)) (λ js ks k. (refl, k)),
                              (
                                gives-alone (word_text false_word) (rule_line make_false) refl tt,
                                (
                                  gives-alone (word_text open_word) (rule_line open_line) refl tt,
                                  tt,
                                ),
                              ),
                            ),
                          ),
                        ),
                      ),
                    ),
                  ),
                ),
              ),
            ),
          ),
        ),
      ),
    ),
  ),
)

no-entry : {A : Type 0} (f : A) → None ≡ Some f → ⊥
no-entry f h = absurd (cc)

same-entry : {A : Type 0} (f g : A) → Some f ≡ Some g → f ≡ g
same-entry f g h = cc

-- an entry that is found is one of the table
found-in : (name : List ℕ) (e : List ℕ × (List (List ℕ) → Parsed)) (rest : List (List ℕ × (List (List ℕ) → Parsed))) (f : List (List ℕ) → Parsed) (t : Bool) → (t ≡ true → name ≡ e.0)
    → Gives e.0 e.1 → (entry name rest ≡ Some f → Gives name f) → cond t (Some e.1) (entry name rest) ≡ Some f → Gives name f
found-in name e rest f true k g r h = subst (Gives name) (same-entry e.1 f h) (subst (λ v. Gives v e.1) (sym (k refl)) g)
found-in name e rest f false k g r h = r h

found : (name : List ℕ) (table : List (List ℕ × (List (List ℕ) → Parsed))) → AllGive table → (f : List (List ℕ) → Parsed) → entry name table ≡ Some f → Gives name f
found name [] g f h = absurd (no-entry f h)
found name (e ∷ rest) g f h = found-in name e rest f (bytes_eq name e.0) (same-word name e.0) g.0 (found name rest g.1 f) h

by-rule : (w : List ℕ) (ws : List (List ℕ)) (o : Option (List (List ℕ) → Parsed)) → ((f : List (List ℕ) → Parsed) → o ≡ Some f → Gives w f)
    → (l : CertLine) → AreCleanWords ws → or_bad o ws ≡ line l → Spells (w ∷ ws) l
by-rule w ws None g l c h = absurd (no-line l h)
by-rule w ws (Some f) g l c h = g f refl ws l c h

by-header : (w : List ℕ) (ws : List (List ℕ)) (o : Option (List (List ℕ) → Parsed)) → ((f : List (List ℕ) → Parsed) → o ≡ Some f → Gives w f)
    → (l : CertLine) → AreCleanWords ws → or_rule o w ws ≡ line l → Spells (w ∷ ws) l
by-header w ws None g l c h = by-rule w ws (entry w tree_forms) (found w tree_forms tree-gives) l c h
by-header w ws (Some f) g l c h = g f refl ws l c h

-- words that say a line spell it
pub words_back : (ws : List (List ℕ)) (l : CertLine) → AreCleanWords ws → by_first ws ≡ line l → Spells ws l
words_back [] l c h = absurd (no-line l h)
words_back (w ∷ ws) l c h = by-header w ws (entry w header_forms) (found w header_forms header-gives) l c.1 h
