-- Pairs of numbers, and whether words are paired.
use Rattle.std.proofs.Common.{◌≡◌, ◌≢◌, ◌<◌, ℕ, ◌+◌, List, [], ◌∷◌, ◌++◌, append_assoc, Bool, true, false, not, nat_eq, cond, IsTrue, Option, Some, None, Ok, Err, length, drop, get_or, refl, ap, sym, ◌∙◌, arith}
use Rattle.std.specs.Prelude.{Result, Vec, MatchResult}
use Rattle.std.specs.declared.alloc.Global.{Global}
use Rattle.cert_read.specs.declared.fault.LineFault.{LineFault}
use Rattle.cert_read.specs.declared.fault.LineFault.TheVariants.{BadLine, BadNumber, LineTooLong, Memory}
use Rattle.cert_read.specs.Numbers.{ArePairs, IsUncounted}
use Rattle.std.proofs.lemmas.Bool.Decides.{nat_tests}
use Rattle.std.proofs.lemmas.List.{drop_more, map-append}
use Rattle.dyadic.specs.declared.dy.Dy.{Dy}
use Rattle.dyadic.specs.Rounding.{Dyadic}
use Rattle.dyadic.specs.Views as dy
use Rattle.cert_read.specs.CertLine.{count_of, dyadic_of, and_pair, pairs_of, are_paired, has_pairs, paired, with_pairs, bad_line, CertLine}
use Rattle.cert_read.specs.Lines.{split_at, onto_first, words_of}
use Rattle.cover_line.specs.Views.{multipliers_of}
use Rattle.cert_read.proofs.Parts.{split_some}

-- ---- whether words are paired, byte by byte

-- the answer turned over, or not
abbrev pub turned : Bool → Bool → Bool
turned true t = not t
turned false t = t

same_parity : (b : ℕ) (xs : List ℕ) → are_paired (onto_first b (words_of xs)) ≡ are_paired (words_of xs)
same_parity b xs = let s = split_some 32 xs in ap (λ (ws : List (List ℕ)). are_paired (onto_first b ws)) s.2 ∙ ap are_paired (sym s.2)

differs : (b c : ℕ) → b ≢ c → nat_eq b c ≡ false
differs b c h = grind (arith, nat_tests)

in_word : (b : ℕ) (xs : List ℕ) → b ≢ 32 → are_paired (words_of (b ∷ xs)) ≡ are_paired (words_of xs)
in_word b xs h = ap (λ (t : Bool). are_paired (cond t ([] ∷ split_at 32 xs) (onto_first b (split_at 32 xs)))) (differs b 32 h) ∙ same_parity b xs

turned_on : (t s : Bool) → turned t (not s) ≡ turned (not t) s
turned_on true true = refl
turned_on true false = refl
turned_on false true = refl
turned_on false false = refl

pub space_at : (t : Bool) (xs : List ℕ) (i : ℕ) → i < length xs → get_or xs i 0 ≡ 32 → turned t (are_paired (words_of (drop i xs))) ≡ turned (not t) (are_paired (words_of (drop (i + 1) xs)))
space_at t xs i l h =
    ap (λ (ys : List ℕ). turned t (are_paired (words_of ys))) (drop_more xs i 0 l)
    ∙ ap (λ (b : ℕ). turned t (are_paired (words_of (b ∷ drop (i + 1) xs)))) h
    ∙ turned_on t (are_paired (words_of (drop (i + 1) xs)))

pub other_at : (t : Bool) (xs : List ℕ) (i : ℕ) → i < length xs → get_or xs i 0 ≢ 32 → turned t (are_paired (words_of (drop i xs))) ≡ turned t (are_paired (words_of (drop (i + 1) xs)))
other_at t xs i l h =
    ap (λ (ys : List ℕ). turned t (are_paired (words_of ys))) (drop_more xs i 0 l)
    ∙ ap (turned t) (in_word (get_or xs i 0) (drop (i + 1) xs) h)

pub turned_none : (t : Bool) → turned t false ≡ t
turned_none true = refl
turned_none false = refl

-- words of some text are some
pub some_pairs : (xs : List ℕ) → has_pairs (words_of xs) ≡ are_paired (words_of xs)
some_pairs xs = let s = split_some 32 xs in ap has_pairs s.2 ∙ ap are_paired (sym s.2)

-- ---- pairs so far

abbrev pub joined_pairs : List (ℕ × Dyadic) → Option (List (ℕ × Dyadic)) → Option (List (ℕ × Dyadic))
joined_pairs ps None = None
joined_pairs ps (Some qs) = Some (ps ++ qs)

pub joined_no_pairs : (o : Option (List (ℕ × Dyadic))) → o ≡ joined_pairs [] o
joined_no_pairs None = refl
joined_no_pairs (Some ps) = refl

joined_more : (ps : List (ℕ × Dyadic)) (n : ℕ) (d : Dyadic) (o : Option (List (ℕ × Dyadic))) → joined_pairs ps (and_pair (Some n) (Some d) o) ≡ joined_pairs (ps ++ ((n, d) ∷ [])) o
joined_more ps n d None = refl
joined_more ps n d (Some qs) = ap (λ (l : List (ℕ × Dyadic)). Some l) (sym (append_assoc ps ((n, d) ∷ []) qs))

pub pairs_on : (ps : List (ℕ × Dyadic)) (v w : List ℕ) (ws : List (List ℕ)) (n : ℕ) (d : Dyadic) → count_of v ≡ Some n → dyadic_of w ≡ Some d
    → joined_pairs ps (pairs_of (v ∷ w ∷ ws)) ≡ joined_pairs (ps ++ ((n, d) ∷ [])) (pairs_of ws)
pairs_on ps v w ws n d h k =
    ap (λ (o : Option ℕ). joined_pairs ps (and_pair o (dyadic_of w) (pairs_of ws))) h
    ∙ ap (λ (o : Option Dyadic). joined_pairs ps (and_pair (Some n) o (pairs_of ws))) k
    ∙ joined_more ps n d (pairs_of ws)

pub pairs_no_count : (ps : List (ℕ × Dyadic)) (v w : List ℕ) (ws : List (List ℕ)) → count_of v ≡ None → joined_pairs ps (pairs_of (v ∷ w ∷ ws)) ≡ None
pairs_no_count ps v w ws h = ap (λ (o : Option ℕ). joined_pairs ps (and_pair o (dyadic_of w) (pairs_of ws))) h

and_no_number : (o : Option ℕ) (q : Option (List (ℕ × Dyadic))) → and_pair o None q ≡ None
and_no_number None q = refl
and_no_number (Some n) q = refl

pub pairs_no_number : (ps : List (ℕ × Dyadic)) (v w : List ℕ) (ws : List (List ℕ)) → dyadic_of w ≡ None → joined_pairs ps (pairs_of (v ∷ w ∷ ws)) ≡ None
pairs_no_number ps v w ws h =
    ap (λ (o : Option Dyadic). joined_pairs ps (and_pair (count_of v) o (pairs_of ws))) h
    ∙ ap (joined_pairs ps) (and_no_number (count_of v) (pairs_of ws))

abbrev pub pair_of : (ℕ × Dy) → (ℕ × Dyadic)
pair_of x = (x.0, dy.dyadic_of x.1)

pub one_more_pair : (xs : List (ℕ × Dy)) (x : ℕ × Dy) → multipliers_of (xs ++ (x ∷ [])) ≡ multipliers_of xs ++ (pair_of x ∷ [])
one_more_pair xs x = map-append pair_of xs (x ∷ [])

-- ---- what a line of pairs says

pub paired_line : (f : List (ℕ × Dyadic) → CertLine) (ws : List (List ℕ)) (o : Option (List (ℕ × Dyadic))) → IsTrue (has_pairs ws) → pairs_of ws ≡ o → paired f ws ≡ with_pairs f o
paired_line f ws o h e = ap (λ (t : Bool). cond t (with_pairs f (pairs_of ws)) bad_line) h ∙ ap (with_pairs f) e

pub unpaired_line : (f : List (ℕ × Dyadic) → CertLine) (ws : List (List ℕ)) → has_pairs ws ≡ false → paired f ws ≡ bad_line
unpaired_line f ws h = ap (λ (t : Bool). cond t (with_pairs f (pairs_of ws)) bad_line) h

pub pairs_told : (r : Result (Vec (ℕ × Dy) Global) LineFault) (xs : List ℕ) → are_paired (words_of xs) ≡ true
    → MatchResult r (λ v. pairs_of (words_of xs) ≡ Some (multipliers_of v.items)) (λ f. IsUncounted f (pairs_of (words_of xs))) → ArePairs r (words_of xs)
pairs_told (Ok v) xs h k = (some_pairs xs ∙ h, k)
pairs_told (Err BadLine) xs h k = absurd k
pairs_told (Err BadNumber) xs h k = (some_pairs xs ∙ h, k)
pairs_told (Err LineTooLong) xs h k = absurd k
pairs_told (Err Memory) xs h k = (some_pairs xs ∙ h, k)
