-- Lines that were read can be spelled.
use Rattle.std.proofs.Common.{◌≡◌, ◌≤◌, ℕ, List, [], ◌∷◌, map, Bool, true, false, not, ◌&&◌, IsTrue, Option, refl, ap, ap₂, sym, subst, ◌∙◌, nat_eq, nat_lt, length, arith, true≢false}
use Rattle.std.specs.List.{AllByRecursion}
use Rattle.std.proofs.lemmas.Bool.Decides.{nat_tests}
use Rattle.dyadic.proofs.Equal.{both_true, both_pass}
use Rattle.poly_graph.specs.Problem.{Problem}
use Rattle.cert_read.specs.CertLine.{CertLine, line, too_long, bad_line, parsed, unless_long, if_words, by_first}
use Rattle.cert_read.specs.Lines.{all_bytes, is_word, are_words, words_of, is_too_long, longest_line, lines_of}
use Rattle.cert_read.specs.LineText.{IsSpelled, is_word_byte, spaced, line_text}
use Rattle.cert_read.proofs.Spelled.{IsCleanWord, AreCleanWords}
use Rattle.cert_resumed.specs.Resumed.{CoverRead, IsCoverRead, read_lines}
use Rattle.cert_resumed.proofs.Parted.{AllPass, pieces_pass, pieces_lack, lines_lack, spaced_words}
use Rattle.cert_resumed.proofs.WordsBack.{Spells, words_back}

-- ---- the words of a line

clean-bytes : (w : List ℕ) → IsTrue (all_bytes (λ b. nat_lt b 128) w) → IsTrue (all_bytes (λ b. not (nat_eq b 32)) w) → IsTrue (all_bytes (λ b. not (nat_eq b 10)) w) → IsTrue (all_bytes is_word_byte w)
clean-bytes [] h k m = refl
clean-bytes (b ∷ bs) h k m =
    let x = both_true (nat_lt b 128) (all_bytes (λ c. nat_lt c 128) bs) h in
    let y = both_true (not (nat_eq b 32)) (all_bytes (λ c. not (nat_eq c 32)) bs) k in
    let z = both_true (not (nat_eq b 10)) (all_bytes (λ c. not (nat_eq c 10)) bs) m in
    both_pass (is_word_byte b) (all_bytes is_word_byte bs)
    (both_pass (nat_lt b 128 && not (nat_eq b 32)) (not (nat_eq b 10)) (both_pass (nat_lt b 128) (not (nat_eq b 32)) x.0 y.0) z.0)
    (clean-bytes bs x.1 y.1 z.1)

clean-word : (w : List ℕ) → IsTrue (is_word w) → IsTrue (all_bytes (λ b. not (nat_eq b 32)) w) → IsTrue (all_bytes (λ b. not (nat_eq b 10)) w) → IsCleanWord w
clean-word [] h k m = absurd (true≢false (sym h))
clean-word (b ∷ bs) h k m = record { some = omega arith; clean = clean-bytes (b ∷ bs) h k m }

clean-words : (ws : List (List ℕ)) → IsTrue (are_words ws) → AllPass (λ b. not (nat_eq b 32)) ws → AllPass (λ b. not (nat_eq b 10)) ws → AreCleanWords ws
clean-words [] h k m = tt
clean-words (w ∷ ws) h k m = let e = both_true (is_word w) (are_words ws) h in (clean-word w e.0 k.0 m.0, clean-words ws e.1 k.1 m.1)

-- ---- a line

not-long : (n : ℕ) → nat_lt 524288 n ≡ false → n ≤ 524288
not-long n h = grind (arith, nat_tests)

is-long : (l : CertLine) → too_long ≡ line l → ⊥
is-long l h = absurd (cc)

is-bad : (l : CertLine) → bad_line ≡ line l → ⊥
is-bad l h = absurd (cc)

-- the line is short enough, and its words say this
record SaidBy (w : List ℕ) (l : CertLine) : Type 0 where
  pub short : is_too_long w ≡ false
  pub words : IsTrue (are_words (words_of w))
  pub says : by_first (words_of w) ≡ line l

said-words : (w : List ℕ) (l : CertLine) (t : Bool) → are_words (words_of w) ≡ t → is_too_long w ≡ false → if_words t w ≡ line l → SaidBy w l
said-words w l true e s h = record { short = s; words = e; says = h }
said-words w l false e s h = absurd (is-bad l h)

said-line : (w : List ℕ) (l : CertLine) (t : Bool) → is_too_long w ≡ t → unless_long t w ≡ line l → SaidBy w l
said-line w l true e h = absurd (is-long l h)
said-line w l false e h = said-words w l (are_words (words_of w)) refl e h

-- the bytes are the line's spelling
abbrev IsSpelling : List ℕ → CertLine → Type 0
IsSpelling w l = (w ≡ line_text l) × IsSpelled l

spelled-by : (w : List ℕ) (l : CertLine) → SaidBy w l → Spells (words_of w) l → IsSpelling w l
spelled-by w l s k =
    let same : line_text l ≡ w = ap spaced k.0 ∙ spaced_words w in
    (sym same, (k.1, subst (λ (x : List ℕ). length x ≤ longest_line) (sym same) (not-long (length w) s.short)))

-- a line without LF is the spelling of what it says
line-spelled : (w : List ℕ) (l : CertLine) → IsTrue (all_bytes (λ b. not (nat_eq b 10)) w) → parsed w ≡ line l → IsSpelling w l
line-spelled w l n h =
    let s = said-line w l (is_too_long w) refl h in
    let c = clean-words (words_of w) s.words (pieces_lack 32 w) (pieces_pass (λ b. not (nat_eq b 10)) 32 w n) in
    spelled-by w l s (words_back (words_of w) l c s.says)

-- ---- all lines

same-first : {A : Type 0} (x y : A) (xs ys : List A) → x ∷ xs ≡ y ∷ ys → (x ≡ y) × (xs ≡ ys)
same-first x y xs ys h = (cc, cc)

not-more : {A : Type 0} (y : A) (ys : List A) → [] ≡ y ∷ ys → ⊥
not-more y ys h = absurd (cc)

all-spelled : (ws : List (List ℕ)) (ls : List CertLine) → AllPass (λ b. not (nat_eq b 10)) ws → map parsed ws ≡ map line ls → (ws ≡ map line_text ls) × AllByRecursion IsSpelled ls
all-spelled [] [] n h = (refl, tt)
all-spelled (w ∷ ws) [] n h = absurd (not-more (parsed w) (map parsed ws) (sym h))
all-spelled [] (l ∷ ls) n h = absurd (not-more (line l) (map line ls) h)
all-spelled (w ∷ ws) (l ∷ ls) n h =
    let e = same-first (parsed w) (line l) (map parsed ws) (map line ls) h in
    let first = line-spelled w l n.0 e.0 in
    let rest = all-spelled ws ls n.1 e.1 in
    (ap₂ (λ (x : List ℕ) (xs : List (List ℕ)). x ∷ xs) first.0 rest.0, (first.1, rest.1))

-- lines that say these are their spellings
pub said_spelled : (bytes : List ℕ) (ls : List CertLine) → map parsed (lines_of bytes) ≡ map line ls → (lines_of bytes ≡ map line_text ls) × AllByRecursion IsSpelled ls
said_spelled bytes ls h = all-spelled (lines_of bytes) ls (lines_lack bytes) h

pub read_spelled : (p : Problem) (b : Option ℕ) (bytes : List ℕ) (c : CoverRead) → IsCoverRead p b bytes c → AllByRecursion IsSpelled (read_lines b c)
read_spelled p b bytes c h = (said_spelled bytes (read_lines b c) h.lines).1
