-- The words that lead lines, found by their bytes.
use Rattle.std.proofs.Common.{◌≡◌, ◌≢◌, ℕ, List, ◌∷◌, Bool as Truth, true, false, cond, Option, Some, None, codes, refl, ap, ◌∙◌}
use Rattle.std.specs.Str.{bytes_eq}
use Rattle.std.proofs.lemmas.Slice.Eq.{bytes_eq-Decides}
use Rattle.cover_line.specs.Words.{void_squares_word, either_word, RuleWord, empty_word, pull_word, unit_word, void_word, push_word, void_no_word, case_word, stuck_word, by_word, ban_word, cut_word, flip_word, combine_word, void_combine_word, false_word, open_word, word_text}
use Rattle.cert_read.specs.declared.keyword.Keyword.{Keyword}
use Rattle.cert_read.specs.declared.keyword.Keyword.TheVariants.{Version, Margin, Delta, Bound, Lower, Goal, Checks, Cover, Keep, Point, Tree, End, Lemma, Real, Bool, Yes, No, Over}
use Rattle.cert_read.specs.CertLine.{by_first, bad_line}
use Rattle.cert_read.specs.Keywords.{header_keyword_of, keyword_text}

same_bytes : (w t : List ℕ) → bytes_eq w t ≡ true → w ≡ t
same_bytes w t h = (bytes_eq-Decides w t).0 h

other_bytes : (w t : List ℕ) → w ≢ t → bytes_eq w t ≡ false
other_bytes w t h = by_test (bytes_eq w t) refl where
  by_test : (b : Truth) → bytes_eq w t ≡ b → b ≡ false
  by_test true e = absurd (h (same_bytes w t e))
  by_test false e = refl

-- the word of this keyword, or what the other tests find
found : (w : List ℕ) (k j : Keyword) (rest : Option Keyword) → cond (bytes_eq w (keyword_text k)) (Some k) rest ≡ Some j → (rest ≡ Some j → w ≡ keyword_text j) → w ≡ keyword_text j
found w k j rest h go = by_test (bytes_eq w (keyword_text k)) refl h where
  by_test : (t : Truth) → bytes_eq w (keyword_text k) ≡ t → cond t (Some k) rest ≡ Some j → w ≡ keyword_text j
  by_test true e f = let same : k ≡ j = cc in same_bytes w (keyword_text k) e ∙ ap keyword_text same
  by_test false e f = go f

passed : (t : Truth) (k : Keyword) (rest : Option Keyword) → cond t (Some k) rest ≡ None → (t ≡ false) × (rest ≡ None)
passed true k rest h = absurd (let f : ◌≡◌ {A = Option Keyword} (Some k) None = h in cc)
passed false k rest h = (refl, h)

pub header_keyword_is : (w : List ℕ) (j : Keyword) → header_keyword_of w ≡ Some j → w ≡ keyword_text j
header_keyword_is w j h =
    found w Version j _ h (λ h0. found w Margin j _ h0 (λ h1. found w Delta j _ h1 (λ h2. found w Bound j _ h2 (λ h3. found w Lower j _ h3 (λ h4. found w Goal j _ h4 (λ h5. found w Checks j _ h5 (λ h6. found w Cover j _ h6 (λ h7. found w Keep j _ h7 (λ h8. found w Point j _ h8 (λ h9. found w Tree j _ h9 (λ h10. found w End j _ h10 (λ h11. found w Lemma j _ h11 (λ h12. found w Real j _ h12 (λ h13. found w Bool j _ h13 (λ h14. found w Yes j _ h14 (λ h15. found w No j _ h15 (λ h16. found w Over j _ h16 (λ h17. absurd (let f : ◌≡◌ {A = Option Keyword} None (Some j) = h17 in cc)))))))))))))))))))

no_form : (w : List ℕ) (ws : List (List ℕ)) → bytes_eq w (codes "dpoly") ≡ false → bytes_eq w (codes "margin") ≡ false → bytes_eq w (codes "delta") ≡ false → bytes_eq w (codes "bound") ≡ false → bytes_eq w (codes "lower") ≡ false → bytes_eq w (codes "goal") ≡ false → bytes_eq w (codes "checks") ≡ false → bytes_eq w (codes "cover") ≡ false → bytes_eq w (codes "keep") ≡ false → bytes_eq w (codes "point") ≡ false → bytes_eq w (codes "tree") ≡ false → bytes_eq w (codes "end") ≡ false → bytes_eq w (codes "lemma") ≡ false → bytes_eq w (codes "real") ≡ false → bytes_eq w (codes "bool") ≡ false → bytes_eq w (codes "yes") ≡ false → bytes_eq w (codes "no") ≡ false → bytes_eq w (codes "over") ≡ false → bytes_eq w (word_text empty_word) ≡ false → bytes_eq w (word_text pull_word) ≡ false → bytes_eq w (word_text unit_word) ≡ false → bytes_eq w (word_text void_word) ≡ false → bytes_eq w (word_text push_word) ≡ false → bytes_eq w (word_text void_no_word) ≡ false → bytes_eq w (word_text case_word) ≡ false → bytes_eq w (word_text stuck_word) ≡ false → bytes_eq w (word_text by_word) ≡ false → bytes_eq w (word_text ban_word) ≡ false → bytes_eq w (word_text cut_word) ≡ false → bytes_eq w (word_text flip_word) ≡ false → bytes_eq w (word_text combine_word) ≡ false → bytes_eq w (word_text void_combine_word) ≡ false → bytes_eq w (word_text void_squares_word) ≡ false → bytes_eq w (word_text either_word) ≡ false → bytes_eq w (word_text false_word) ≡ false → bytes_eq w (word_text open_word) ≡ false → by_first (w ∷ ws) ≡ bad_line
no_form w ws h0 h1 h2 h3 h4 h5 h6 h7 h8 h9 h10 h11 h12 h13 h14 h15 h16 h17 e r0 r1 r2 r3 r4 r5 r6 r7 r8 r9 r10 r11 r12 r13 r14 r15 r16 = rw (h0, h1, h2, h3, h4, h5, h6, h7, h8, h9, h10, h11, h12, h13, h14, h15, h16, h17, e, r0, r1, r2, r3, r4, r5, r6, r7, r8, r9, r10, r11, r12, r13, r14, r15, r16) refl

-- no line begins with what is neither kind of word
pub no_keyword : (w : List ℕ) → header_keyword_of w ≡ None → ((v : RuleWord) → w ≢ word_text v) → (ws : List (List ℕ)) → by_first (w ∷ ws) ≡ bad_line
no_keyword w h g ws =
    let p0 = passed (bytes_eq w (codes "dpoly")) Version _ h in
    let p1 = passed (bytes_eq w (codes "margin")) Margin _ p0.1 in
    let p2 = passed (bytes_eq w (codes "delta")) Delta _ p1.1 in
    let p3 = passed (bytes_eq w (codes "bound")) Bound _ p2.1 in
    let p4 = passed (bytes_eq w (codes "lower")) Lower _ p3.1 in
    let p5 = passed (bytes_eq w (codes "goal")) Goal _ p4.1 in
    let p6 = passed (bytes_eq w (codes "checks")) Checks _ p5.1 in
    let p7 = passed (bytes_eq w (codes "cover")) Cover _ p6.1 in
    let p8 = passed (bytes_eq w (codes "keep")) Keep _ p7.1 in
    let p9 = passed (bytes_eq w (codes "point")) Point _ p8.1 in
    let p10 = passed (bytes_eq w (codes "tree")) Tree _ p9.1 in
    let p11 = passed (bytes_eq w (codes "end")) End _ p10.1 in
    let p12 = passed (bytes_eq w (codes "lemma")) Lemma _ p11.1 in
    let p13 = passed (bytes_eq w (codes "real")) Real _ p12.1 in
    let p14 = passed (bytes_eq w (codes "bool")) Bool _ p13.1 in
    let p15 = passed (bytes_eq w (codes "yes")) Yes _ p14.1 in
    let p16 = passed (bytes_eq w (codes "no")) No _ p15.1 in
    let p17 = passed (bytes_eq w (codes "over")) Over _ p16.1 in
    let other : (v : RuleWord) → bytes_eq w (word_text v) ≡ false = λ v. other_bytes w (word_text v) (g v) in
    no_form w ws p0.0 p1.0 p2.0 p3.0 p4.0 p5.0 p6.0 p7.0 p8.0 p9.0 p10.0 p11.0 p12.0 p13.0 p14.0 p15.0 p16.0 p17.0 (other empty_word) (other pull_word) (other unit_word) (other void_word) (other push_word) (other void_no_word) (other case_word) (other stuck_word) (other by_word) (other ban_word) (other cut_word) (other flip_word) (other combine_word) (other void_combine_word) (other void_squares_word) (other either_word) (other false_word) (other open_word)
