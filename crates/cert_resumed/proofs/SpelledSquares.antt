-- Words that are read from the left, as squares and as groups, are their spellings.
use Rattle.std.proofs.Common.{◌≡◌, ℕ, zero, suc, List, [], ◌∷◌, ◌++◌, append_assoc, map, Option, Some, None, length, refl, ap, sym, subst, ◌∙◌}
use Rattle.std.specs.Prelude.{decimal}
use Rattle.std.specs.List.{AllByRecursion}
use Rattle.dyadic.specs.Rounding.{Dyadic}
use Rattle.dyadic.specs.NumberText.{number_spelling}
use Rattle.cover_line.specs.Line.{Multipliers, Factor, bound_of, Block}
use Rattle.cover_line.specs.Words.{of_squares, of_groups}
use Rattle.cert_read.specs.CertLine.{count_of, counts_of, dyadic_of, Taken, taken, ill_formed, no_number, and_take, taken_if, take_count, take_dyadic, take_many, take_pair, take_monomial, take_rows, factor_by, take_factor, take_block_of, take_block, take_blocks, take_squares, take_list, take_groups}
use Rattle.cert_read.specs.LineText.{pair_words, factor_words, monomial_words, row_words, block_words, operand_words, IsCount, IsSpelledNumber, IsSpelledPair, IsSpelledFactor, IsSpelledMonomial, AreSpelledRows, IsSpelledBlock, AreSpelledOperands}
use Rattle.cert_read.proofs.Spelled.{AreCleanWords}
use Rattle.cert_resumed.proofs.SpelledNumbers.{count_back, counts_back, number_back}

abbrev Words : Type 0
Words = List (List ℕ)

-- what is taken, spelled in front of the words behind it, is these words
abbrev pub IsTakenBack : {A : Type 0} → (A → List (List ℕ) → List (List ℕ)) → (A → Type 0) → List (List ℕ) → Taken A → Type 0
IsTakenBack spell Holds ws (taken a vs) = (spell a vs ≡ ws) × Holds a × AreCleanWords vs
IsTakenBack spell Holds ws ill_formed = Unit {0}
IsTakenBack spell Holds ws no_number = Unit {0}

-- one after the other
and-back : {A B : Type 0} (f : A → Words → Words) (F : A → Type 0) (g : B → Words → Words) (G : B → Type 0) (vs ws : Words) (t : Taken A) (k : A → Words → Taken B)
    → IsTakenBack f F vs t → ((a : A) (us : Words) → f a us ≡ vs → F a → AreCleanWords us → IsTakenBack g G ws (k a us)) → IsTakenBack g G ws (and_take t k)
and-back f F g G vs ws (taken a us) k h next = next a us h.0 h.1 h.2
and-back f F g G vs ws ill_formed k h next = tt
and-back f F g G vs ws no_number k h next = tt

-- the same, said of other words
back-as : {A : Type 0} (f : A → Words → Words) (F : A → Type 0) (g : A → Words → Words) (G : A → Type 0) (vs ws : Words) (t : Taken A)
    → IsTakenBack f F vs t → ((a : A) (us : Words) → f a us ≡ vs → F a → (g a us ≡ ws) × G a) → IsTakenBack g G ws t
back-as f F g G vs ws (taken a us) h next = let k = next a us h.0 h.1 in (k.0, k.1, h.2)
back-as f F g G vs ws ill_formed h next = tt
back-as f F g G vs ws no_number h next = tt

-- ---- numbers

abbrev count-then : ℕ → Words → Words
count-then n vs = decimal n ∷ vs

abbrev number-then : Dyadic → Words → Words
number-then d vs = number_spelling d ∷ vs

count-taken : (ws : Words) → AreCleanWords ws → IsTakenBack count-then IsCount ws (take_count ws)
count-taken [] c = tt
count-taken (w ∷ ws) c = from (count_of w) (count_back w) where
  from : (o : Option ℕ) → ((n : ℕ) → o ≡ Some n → (decimal n ≡ w) × IsCount n) → IsTakenBack count-then IsCount (w ∷ ws) (taken_if o ws)
  from None g = tt
  from (Some n) g = let a = g n refl in (ap (λ (v : List ℕ). v ∷ ws) a.0, a.1, c.1)

number-taken : (ws : Words) → AreCleanWords ws → IsTakenBack number-then IsSpelledNumber ws (take_dyadic ws)
number-taken [] c = tt
number-taken (w ∷ ws) c = from (dyadic_of w) (λ d. number_back w d c.0) where
  from : (o : Option Dyadic) → ((d : Dyadic) → o ≡ Some d → (number_spelling d ≡ w) × IsSpelledNumber d) → IsTakenBack number-then IsSpelledNumber (w ∷ ws) (taken_if o ws)
  from None g = tt
  from (Some d) g = let a = g d refl in (ap (λ (v : List ℕ). v ∷ ws) a.0, a.1, c.1)

-- ---- several

-- so many, each as it holds of one
abbrev AreSoMany : {A : Type 0} → ℕ → (A → Type 0) → List A → Type 0
AreSoMany n F gs = (length gs ≡ n) × AllByRecursion F gs

many-taken : {A : Type 0} (f : A → Words → Words) (F : A → Type 0) (all : List A → Words → Words) (take : Words → Taken A) → ((vs : Words) → all [] vs ≡ vs)
    → ((a : A) (gs : List A) (vs : Words) → all (a ∷ gs) vs ≡ f a (all gs vs)) → ((ws : Words) → AreCleanWords ws → IsTakenBack f F ws (take ws))
    → (n : ℕ) (ws : Words) → AreCleanWords ws → IsTakenBack all (AreSoMany n F) ws (take_many take n ws)
many-taken f F all take none more one zero ws c = (none ws, (refl, tt), c)
many-taken {A} f F all take none more one (suc n) ws c =
    and-back f F all (AreSoMany (suc n) F) ws ws (take ws) (λ a vs. and_take (take_many take n vs) (λ gs us. taken (a ∷ gs) us)) (one ws c)
    (λ a vs e h d. and-back all (AreSoMany n F) all (AreSoMany (suc n) F) vs ws (take_many take n vs) (λ gs us. taken (a ∷ gs) us) (many-taken f F all take none more one n vs d)
    (λ gs us i k b. (more a gs us ∙ ap (f a) i ∙ e, (ap suc k.0, (h, k.1)), b)))

counts-taken : (n : ℕ) (ws : Words) → AreCleanWords ws → IsTakenBack (λ js vs. map decimal js ++ vs) (AreSoMany n IsCount) ws (take_many take_count n ws)
counts-taken = many-taken count-then IsCount (λ js vs. map decimal js ++ vs) take_count (λ vs. refl) (λ j js vs. refl) count-taken

numbers-taken : (n : ℕ) (ws : Words) → AreCleanWords ws → IsTakenBack (λ r vs. map number_spelling r ++ vs) (AreSoMany n IsSpelledNumber) ws (take_many take_dyadic n ws)
numbers-taken = many-taken number-then IsSpelledNumber (λ r vs. map number_spelling r ++ vs) take_dyadic (λ vs. refl) (λ d r vs. refl) number-taken

-- ---- pairs

abbrev pair-then : (ℕ × Dyadic) → Words → Words
pair-then (j, l) vs = decimal j ∷ number_spelling l ∷ vs

pair-taken : (ws : Words) → AreCleanWords ws → IsTakenBack pair-then IsSpelledPair ws (take_pair ws)
pair-taken ws c =
    and-back count-then IsCount pair-then IsSpelledPair ws ws (take_count ws) (λ j vs. and_take (take_dyadic vs) (λ l us. taken (j, l) us)) (count-taken ws c)
    (λ j vs e h d. and-back number-then IsSpelledNumber pair-then IsSpelledPair vs ws (take_dyadic vs) (λ l us. taken (j, l) us) (number-taken vs d)
    (λ l us i k b. (ap (λ (xs : Words). decimal j ∷ xs) i ∙ e, (h, k), b)))

pairs-more : (p : ℕ × Dyadic) (ps : Multipliers) (vs : Words) → pair_words (p ∷ ps) ++ vs ≡ pair-then p (pair_words ps ++ vs)
pairs-more (j, l) ps vs = refl

pairs-taken : (n : ℕ) (ws : Words) → AreCleanWords ws → IsTakenBack (λ ps vs. pair_words ps ++ vs) (AreSoMany n IsSpelledPair) ws (take_many take_pair n ws)
pairs-taken = many-taken pair-then IsSpelledPair (λ ps vs. pair_words ps ++ vs) take_pair (λ vs. refl) pairs-more pair-taken

-- ---- parts of blocks

abbrev monomial-then : List ℕ → Words → Words
monomial-then m vs = decimal (length m) ∷ (map decimal m ++ vs)

monomial-taken : (ws : Words) → AreCleanWords ws → IsTakenBack monomial-then IsSpelledMonomial ws (take_monomial ws)
monomial-taken ws c =
    and-back count-then IsCount monomial-then IsSpelledMonomial ws ws (take_count ws) (λ n vs. take_many take_count n vs) (count-taken ws c)
    (λ n vs e h d. back-as (λ js us. map decimal js ++ us) (AreSoMany n IsCount) monomial-then IsSpelledMonomial vs ws (take_many take_count n vs) (counts-taken n vs d)
    (λ m us i k. (ap (λ (j : ℕ). decimal j ∷ (map decimal m ++ us)) k.0 ∙ ap (λ (xs : Words). decimal n ∷ xs) i ∙ e, (subst IsCount (sym k.0) h, k.1))))

monomials-more : (m : List ℕ) (ms : List (List ℕ)) (vs : Words) → monomial_words (m ∷ ms) ++ vs ≡ monomial-then m (monomial_words ms ++ vs)
monomials-more m ms vs = ap (λ (xs : Words). decimal (length m) ∷ xs) (append_assoc (map decimal m) (monomial_words ms) vs)

monomials-taken : (n : ℕ) (ws : Words) → AreCleanWords ws → IsTakenBack (λ ms vs. monomial_words ms ++ vs) (AreSoMany n IsSpelledMonomial) ws (take_many take_monomial n ws)
monomials-taken = many-taken monomial-then IsSpelledMonomial (λ ms vs. monomial_words ms ++ vs) take_monomial (λ vs. refl) monomials-more monomial-taken

abbrev rows-then : List (List Dyadic) → Words → Words
rows-then rs vs = row_words rs ++ vs

rows-taken : (n : ℕ) (ws : Words) → AreCleanWords ws → IsTakenBack rows-then (AreSpelledRows n) ws (take_rows n ws)
rows-taken zero ws c = (refl, tt, c)
rows-taken (suc n) ws c =
    and-back (λ r vs. map number_spelling r ++ vs) (AreSoMany (suc n) IsSpelledNumber) rows-then (AreSpelledRows (suc n)) ws ws (take_many take_dyadic (suc n) ws)
    (λ r vs. and_take (take_rows n vs) (λ rs us. taken (r ∷ rs) us)) (numbers-taken (suc n) ws c)
    (λ r vs e h d. and-back rows-then (AreSpelledRows n) rows-then (AreSpelledRows (suc n)) vs ws (take_rows n vs) (λ rs us. taken (r ∷ rs) us) (rows-taken n vs d)
    (λ rs us i k b. (append_assoc (map number_spelling r) (row_words rs) us ∙ ap (λ (xs : Words). map number_spelling r ++ xs) i ∙ e, (h.0, h.1, k), b)))

abbrev factor-then : Factor → Words → Words
factor-then f vs = factor_words f ++ vs

factor-by-taken : (k : ℕ) (vs ws : Words) → decimal k ∷ vs ≡ ws → AreCleanWords vs → IsTakenBack factor-then IsSpelledFactor ws (factor_by k vs)
factor-by-taken zero vs ws e c = (e, tt, c)
factor-by-taken (suc zero) vs ws e c =
    and-back count-then IsCount factor-then IsSpelledFactor vs ws (take_count vs) (λ i us. taken (bound_of i) us) (count-taken vs c)
    (λ i us g h b. (ap (λ (xs : Words). decimal 1 ∷ xs) g ∙ e, h, b))
factor-by-taken (suc (suc k)) vs ws e c = tt

factor-taken : (ws : Words) → AreCleanWords ws → IsTakenBack factor-then IsSpelledFactor ws (take_factor ws)
factor-taken ws c =
    and-back count-then IsCount factor-then IsSpelledFactor ws ws (take_count ws) (λ k vs. factor_by k vs) (count-taken ws c) (λ k vs e h d. factor-by-taken k vs ws e d)

-- ---- blocks

abbrev block-then : Block → Words → Words
block-then b vs = factor_words b.factor ++ (decimal (length b.monomials) ∷ (monomial_words b.monomials ++ (row_words b.rows ++ vs)))

-- behind the factor, the number of monomials and the monomials
rows-of-block : (f : Factor) → IsSpelledFactor f → (ms : List (List ℕ)) → IsCount (length ms) → AllByRecursion IsSpelledMonomial ms → (vs ws : Words)
    → factor_words f ++ (decimal (length ms) ∷ (monomial_words ms ++ vs)) ≡ ws → AreCleanWords vs
    → IsTakenBack block-then IsSpelledBlock ws (and_take (take_rows (length ms) vs) (λ rs us. taken (record { factor = f; monomials = ms; rows = rs }) us))
rows-of-block f h ms n k vs ws e c =
    and-back rows-then (AreSpelledRows (length ms)) block-then IsSpelledBlock vs ws (take_rows (length ms) vs) (λ rs us. taken (record { factor = f; monomials = ms; rows = rs }) us)
    (rows-taken (length ms) vs c)
    (λ rs us i r b. (ap (λ (xs : Words). factor_words f ++ (decimal (length ms) ∷ (monomial_words ms ++ xs))) i ∙ e, record { factor = h; count = n; monomials = k; rows = r }, b))

abbrev rest-of-block : Factor → List (List ℕ) → Words → ℕ → Taken Block
rest-of-block f ms vs n = and_take (take_rows n vs) (λ rs us. taken (record { factor = f; monomials = ms; rows = rs }) us)

block-of-taken : (f : Factor) → IsSpelledFactor f → (vs ws : Words) → factor_words f ++ vs ≡ ws → AreCleanWords vs → IsTakenBack block-then IsSpelledBlock ws (take_block_of f vs)
block-of-taken f h vs ws e c =
    and-back count-then IsCount block-then IsSpelledBlock vs ws (take_count vs) (λ n us. and_take (take_many take_monomial n us) (λ ms xs. rest-of-block f ms xs n)) (count-taken vs c)
    (λ n us i k d. and-back (λ ms xs. monomial_words ms ++ xs) (AreSoMany n IsSpelledMonomial) block-then IsSpelledBlock us ws (take_many take_monomial n us) (λ ms xs. rest-of-block f ms xs n)
    (monomials-taken n us d) (λ ms xs g r b. subst (λ (m : ℕ). IsTakenBack block-then IsSpelledBlock ws (rest-of-block f ms xs m)) r.0
    (rows-of-block f h ms (subst IsCount (sym r.0) k) r.1 xs ws (ap (λ (m : ℕ). factor_words f ++ (decimal m ∷ (monomial_words ms ++ xs))) r.0 ∙ ap (λ (ys : Words). factor_words f ++ (decimal n ∷ ys)) g ∙ ap (λ (ys : Words). factor_words f ++ ys) i ∙ e) b)))

block-taken : (ws : Words) → AreCleanWords ws → IsTakenBack block-then IsSpelledBlock ws (take_block ws)
block-taken ws c =
    and-back factor-then IsSpelledFactor block-then IsSpelledBlock ws ws (take_factor ws) (λ f vs. take_block_of f vs) (factor-taken ws c) (λ f vs e h d. block-of-taken f h vs ws e d)

-- nothing is left behind the blocks
abbrev blocks-alone : List Block → Words → Words
blocks-alone bs vs = block_words bs

blocks-taken : (n : ℕ) (ws : Words) → AreCleanWords ws → IsTakenBack blocks-alone (AllByRecursion IsSpelledBlock) ws (take_blocks n ws)
blocks-taken zero [] c = (refl, tt, tt)
blocks-taken (suc n) [] c = (refl, tt, tt)
blocks-taken zero (w ∷ ws) c = tt
blocks-taken (suc n) (w ∷ ws) c =
    and-back block-then IsSpelledBlock blocks-alone (AllByRecursion IsSpelledBlock) (w ∷ ws) (w ∷ ws) (take_block (w ∷ ws)) (λ b vs. and_take (take_blocks n vs) (λ bs us. taken (b ∷ bs) us)) (block-taken (w ∷ ws) c)
    (λ b vs e h d. and-back blocks-alone (AllByRecursion IsSpelledBlock) blocks-alone (AllByRecursion IsSpelledBlock) vs (w ∷ ws) (take_blocks n vs) (λ bs us. taken (b ∷ bs) us) (blocks-taken n vs d)
    (λ bs us i k a. (ap (block-then b) i ∙ e, (h, k), a)))

-- ---- the whole line of squares

abbrev pub squares_alone : (Multipliers × List Block) → List (List ℕ) → List (List ℕ)
squares_alone x vs = operand_words (of_squares x.0 x.1)

abbrev pub AreSpelledSquares : (Multipliers × List Block) → Type 0
AreSpelledSquares x = AreSpelledOperands (of_squares x.0 x.1)

-- words that are read as pairs and blocks are their spelling
pub squares_back : (ws : List (List ℕ)) → AreCleanWords ws → IsTakenBack squares_alone AreSpelledSquares ws (take_squares ws)
squares_back ws c =
    and-back count-then IsCount squares_alone AreSpelledSquares ws ws (take_count ws) (λ k vs. and_take (take_many take_pair k vs) (λ ms us. and_take (take_blocks (length us) us) (λ bs ts. taken (ms, bs) ts))) (count-taken ws c)
    (λ n vs e h d. and-back (λ ps us. pair_words ps ++ us) (AreSoMany n IsSpelledPair) squares_alone AreSpelledSquares vs ws (take_many take_pair n vs) (λ ms us. and_take (take_blocks (length us) us) (λ bs ts. taken (ms, bs) ts))
    (pairs-taken n vs d)
    (λ ms us i k b. and-back blocks-alone (AllByRecursion IsSpelledBlock) squares_alone AreSpelledSquares us ws (take_blocks (length us) us) (λ bs ts. taken (ms, bs) ts) (blocks-taken (length us) us b)
    (λ bs ts g r a. (
      ap (λ (j : ℕ). decimal j ∷ (pair_words ms ++ block_words bs)) k.0 ∙ ap (λ (xs : Words). decimal n ∷ (pair_words ms ++ xs)) g ∙ ap (λ (xs : Words). decimal n ∷ xs) i ∙ e,
      (subst IsCount (sym k.0) h, k.1, r),
      a,
    ))))

-- ---- the whole line of two groups

-- nothing is left behind the second
abbrev list-alone : List ℕ → Words → Words
list-alone ks vs = map decimal ks

list-taken : (ws : Words) → AreCleanWords ws → IsTakenBack list-alone (AllByRecursion IsCount) ws (take_list ws)
list-taken ws c = from (counts_of ws) (counts_back ws) where
  from : (o : Option (List ℕ)) → ((ks : List ℕ) → o ≡ Some ks → (map decimal ks ≡ ws) × AllByRecursion IsCount ks) → IsTakenBack list-alone (AllByRecursion IsCount) ws (taken_if o [])
  from None g = tt
  from (Some ks) g = let a = g ks refl in (a.0, a.1, tt)

abbrev pub groups_alone : (List ℕ × List ℕ) → List (List ℕ) → List (List ℕ)
groups_alone x vs = operand_words (of_groups x.0 x.1)

abbrev pub AreSpelledGroups : (List ℕ × List ℕ) → Type 0
AreSpelledGroups x = AreSpelledOperands (of_groups x.0 x.1)

-- words that are read as two groups are their spelling
pub groups_back : (ws : List (List ℕ)) → AreCleanWords ws → IsTakenBack groups_alone AreSpelledGroups ws (take_groups ws)
groups_back ws c =
    and-back count-then IsCount groups_alone AreSpelledGroups ws ws (take_count ws) (λ n vs. and_take (take_many take_count n vs) (λ js us. and_take (take_list us) (λ ks ts. taken (js, ks) ts))) (count-taken ws c)
    (λ n vs e h d. and-back (λ js us. map decimal js ++ us) (AreSoMany n IsCount) groups_alone AreSpelledGroups vs ws (take_many take_count n vs) (λ js us. and_take (take_list us) (λ ks ts. taken (js, ks) ts))
    (counts-taken n vs d)
    (λ js us i k b. and-back list-alone (AllByRecursion IsCount) groups_alone AreSpelledGroups us ws (take_list us) (λ ks ts. taken (js, ks) ts) (list-taken us b)
    (λ ks ts g r a. (
      ap (λ (j : ℕ). decimal j ∷ (map decimal js ++ map decimal ks)) k.0 ∙ ap (λ (xs : Words). decimal n ∷ (map decimal js ++ xs)) g ∙ ap (λ (xs : Words). decimal n ∷ xs) i ∙ e,
      (subst IsCount (sym k.0) h, k.1, r),
      a,
    ))))
