-- The words of squares: how many there are, and that they can be spelled.
use Rattle.std.proofs.Common.{◌≡◌, ℕ, ◌+◌, ◌≤◌, List, [], ◌∷◌, ◌++◌, map, length, length-append, append_assoc, IsTrue, true≢false, nat_eq, true, inl, inr, refl, ap, sym, ◌∙◌, arith}
use Rattle.std.specs.Prelude.{decimal, Vec, Result, Ok, Err, OnOk}
use Rattle.std.specs.Global.{Global}
use Rattle.std.specs.List.{AllByRecursion, list_all}
use Rattle.std.proofs.lemmas.Bool.Decides.{eqb_tells}
use Rattle.std.proofs.lemmas.List.{append-nil, length-map}
use Rattle.dyadic.specs.declared.dy.Dy.{Dy}
use Rattle.dyadic.specs.Rounding.{Dyadic}
use Rattle.dyadic.specs.NumberText.{number_spelling}
use Rattle.dyadic.specs.Views.{dyadic_of}
use Rattle.dyadic.proofs.Equal.{both_true}
use Rattle.cover_line.specs.Line.{Multipliers, Factor, no_factor, bound_of, Block}
use Rattle.cover_line.specs.Views.{axes_of, block_of, blocks_of, numbers_of}
use Rattle.cover_line.specs.declared.block.Block.{Block as CodeBlock}
use Rattle.cover_line.specs.Words.{of_squares}
use Rattle.square_model.specs.Block.{are_rows}
use Rattle.square_model.specs.Positive.{sizes_of, block_numbers, blocks_numbers}
use Rattle.cert_read.specs.LineText.{pair_words, factor_words, monomial_words, row_words, block_words, operand_words, IsCount, IsSpelledNumber, IsSpelledMonomial, AreSpelledRows, IsSpelledBlock}
use Rattle.cert_text.specs.Lines.{HasPairs}
use Rattle.cert_text.specs.Ruled.{has_rows, HasCounts, HasWords, HasOperands}
use Rattle.cert_text.proofs.Numbers.{number_spelled}
use Rattle.cert_text.proofs.Ruled.{pairs_spaced}
use Rattle.cert_text.proofs.Words.{both_words, same_words, flat}

-- ---- how many

pairs-many : (ps : Multipliers) → length (pair_words ps) ≡ length ps + length ps
pairs-many [] = refl
pairs-many ((j, l) ∷ ps) = let h = pairs-many ps in omega (arith, h)

factor-many : (f : Factor) → length (factor_words f) ≤ 2
factor-many no_factor = omega arith
factor-many (bound_of i) = omega arith

monomials-many : (ms : List (List ℕ)) → length (monomial_words ms) ≡ length ms + sizes_of ms
monomials-many [] = refl
monomials-many (m ∷ ms) =
    let h = monomials-many ms in
    omega (arith, h, length-append (map decimal m) (monomial_words ms), length-map m decimal)

rows-many : (rs : List (List Dyadic)) → length (row_words rs) ≡ sizes_of rs
rows-many [] = refl
rows-many (r ∷ rs) = let h = rows-many rs in omega (arith, h, length-append (map number_spelling r) (row_words rs), length-map r number_spelling)

blocks-many : (bs : List Block) → length (block_words bs) ≤ blocks_numbers bs
blocks-many [] = omega arith
blocks-many (b ∷ bs) =
    let rows = row_words b.rows ++ block_words bs in
    let monomials = monomial_words b.monomials ++ rows in
    omega (
      arith,
      blocks-many bs,
      factor-many b.factor,
      monomials-many b.monomials,
      rows-many b.rows,
      length-append (factor_words b.factor) (decimal (length b.monomials) ∷ monomials),
      length-append (monomial_words b.monomials) rows,
      length-append (row_words b.rows) (block_words bs),
    )

-- ---- they can be spelled

numbers-spelled : (xs : List Dy) → AllByRecursion IsSpelledNumber (map dyadic_of xs)
numbers-spelled [] = tt
numbers-spelled (x ∷ xs) = (number_spelled x, numbers-spelled xs)

same-length : (a b : ℕ) → nat_eq a b ≡ true → a ≡ b
same-length a b h = elim (eqb_tells a b) [ inl e ↦ e.1 | inr e ↦ absurd (true≢false (sym h ∙ e.0)) ]

rows-spelled : (ms : List (List ℕ)) (rs : List (Vec Dy Global)) → IsTrue (are_rows ms (map numbers_of rs)) → AreSpelledRows (length ms) (map numbers_of rs)
rows-spelled [] [] h = tt
rows-spelled [] (r ∷ rs) h = absurd (true≢false (sym h))
rows-spelled (m ∷ ms) [] h = absurd (true≢false (sym h))
rows-spelled (m ∷ ms) (r ∷ rs) h =
    let e = both_true (nat_eq (length (numbers_of r)) (length (m ∷ ms))) (are_rows ms (map numbers_of rs)) h in
    (same-length (length (numbers_of r)) (length (m ∷ ms)) e.0, numbers-spelled r.items, rows-spelled ms rs e.1)

monomials-spelled : (ms : List (List ℕ)) → sizes_of ms ≤ 8000 → AllByRecursion (AllByRecursion IsCount) ms → AllByRecursion IsSpelledMonomial ms
monomials-spelled [] l h = tt
monomials-spelled (m ∷ ms) l h = ((omega (arith, l), h.0), monomials-spelled ms (omega (arith, l)) h.1)

block-spelled : (b : CodeBlock) → block_numbers (block_of b) ≤ 8000 → HasCounts (block_of b) → IsTrue (has_rows (block_of b)) → IsSpelledBlock (block_of b)
block-spelled b l h k = record {
  factor = h.factor;
  count = omega (arith, l);
  monomials = monomials-spelled (block_of b).monomials (omega (arith, l)) h.monomials;
  rows = rows-spelled (block_of b).monomials b.rows.items k;
}

blocks-spelled : (bs : List CodeBlock) → blocks_numbers (blocks_of bs) ≤ 8000 → AllByRecursion HasCounts (blocks_of bs) → IsTrue (list_all has_rows (blocks_of bs)) → AllByRecursion IsSpelledBlock (blocks_of bs)
blocks-spelled [] l h k = tt
blocks-spelled (b ∷ bs) l h k =
    let e = both_true (has_rows (block_of b)) (list_all has_rows (blocks_of bs)) k in
    (block-spelled b (omega (arith, l)) h.0 e.0, blocks-spelled bs (omega (arith, l)) h.1 e.1)

-- ---- the operands

pair-words : (ps : Multipliers) (a b : List ℕ) → HasPairs a ps b → HasWords a (pair_words ps) b
pair-words ps a b h = record {
  written = h.written ∙ ap (λ (t : List ℕ). a ++ t) (pairs_spaced ps);
  short = omega (arith, h.short, ap length (pairs_spaced ps), pairs-many ps);
}

pub square_operands : (ps : Multipliers) (bs : List CodeBlock) (a b c d : List ℕ) → HasWords a (decimal (length ps) ∷ []) b → HasPairs b ps c → HasWords c (block_words (blocks_of bs)) d → AllByRecursion HasCounts (blocks_of bs)
    → HasOperands a (of_squares ps (blocks_of bs)) d
square_operands ps bs a b c d h k g m =
    let blocks : List Block = blocks_of bs in
    let all : HasWords a (operand_words (of_squares ps blocks)) d = both_words a b d (decimal (length ps) ∷ []) (pair_words ps ++ block_words blocks) h (both_words b c d (pair_words ps) (block_words blocks) (pair-words ps b c k) g) in
    record {
      written = all.written;
      spelled = λ few. (omega (arith, few.0), k.spelled, blocks-spelled bs (omega (arith, few.0)) m few.1);
      short = λ few. omega (arith, all.short, few.0, pairs-many ps, blocks-many blocks, length-append (pair_words ps) (block_words blocks));
    }

-- ---- those of lists

abbrev pub axes_words : Vec ℕ Global → List (List ℕ)
axes_words v = decimal (length v.items) ∷ map decimal v.items

abbrev pub row_of_words : Vec Dy Global → List (List ℕ)
row_of_words v = map number_spelling (numbers_of v)

abbrev pub one_block : CodeBlock → List (List ℕ)
one_block b = block_words (block_of b ∷ [])

pub monomials_flat : (ms : List (Vec ℕ Global)) → flat (map axes_words ms) ≡ monomial_words (map axes_of ms)
monomials_flat [] = refl
monomials_flat (m ∷ ms) = ap (λ (ws : List (List ℕ)). axes_words m ++ ws) (monomials_flat ms)

pub rows_flat : (rs : List (Vec Dy Global)) → flat (map row_of_words rs) ≡ row_words (map numbers_of rs)
rows_flat [] = refl
rows_flat (r ∷ rs) = ap (λ (ws : List (List ℕ)). row_of_words r ++ ws) (rows_flat rs)

block-then : (f m r rest : List (List ℕ)) (n : List ℕ) → (f ++ (n ∷ (m ++ (r ++ [])))) ++ rest ≡ f ++ (n ∷ (m ++ (r ++ rest)))
block-then f m r rest n =
    append_assoc f (n ∷ (m ++ (r ++ []))) rest ∙ ap (λ (ws : List (List ℕ)). f ++ (n ∷ ws)) (append_assoc m (r ++ []) rest)
    ∙ ap (λ (ws : List (List ℕ)). f ++ (n ∷ (m ++ (ws ++ rest)))) (append-nil r)

pub blocks_flat : (bs : List CodeBlock) → flat (map one_block bs) ≡ block_words (blocks_of bs)
blocks_flat [] = refl
blocks_flat (b ∷ bs) =
    ap (λ (ws : List (List ℕ)). one_block b ++ ws) (blocks_flat bs)
    ∙ block-then (factor_words (block_of b).factor) (monomial_words (block_of b).monomials) (row_words (block_of b).rows) (block_words (blocks_of bs)) (decimal (length (block_of b).monomials))

pub both_ok : {X E : Type 0} {P Q R : Type 0} (r : Result X E) → (P → Q → R) → OnOk r P → OnOk r Q → OnOk r R
both_ok (Ok x) f p q = f p q
both_ok (Err e) f p q = tt

-- the parts of a block
pub block_has : (b : CodeBlock) (a t u v w : List ℕ) → HasWords a (factor_words (block_of b).factor) t → HasWords t (decimal (length (block_of b).monomials) ∷ []) u
    → HasWords u (monomial_words (block_of b).monomials) v → HasWords v (row_words (block_of b).rows) w → HasWords a (one_block b) w
block_has b a t u v w h k g m =
    let f : List (List ℕ) = factor_words (block_of b).factor in
    let n : List ℕ = decimal (length (block_of b).monomials) in
    let ms : List (List ℕ) = monomial_words (block_of b).monomials in
    let rs : List (List ℕ) = row_words (block_of b).rows in
    same_words a w (f ++ (n ∷ (ms ++ rs))) (f ++ (n ∷ (ms ++ (rs ++ [])))) (ap (λ (ws : List (List ℕ)). f ++ (n ∷ (ms ++ ws))) (sym (append-nil rs)))
    (both_words a t w f (n ∷ (ms ++ rs)) h (both_words t u w (n ∷ []) (ms ++ rs) k (both_words u v w ms rs g m)))
