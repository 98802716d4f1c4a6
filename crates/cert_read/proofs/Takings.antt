-- What is read from the left: so far in front of what is still to be read, and how many words are left.
use Rattle.std.proofs.Common.{◌≡◌, ◌<◌, ◌≤◌, ℕ, zero, suc, ◌+◌, ◌-◌, List, [], ◌∷◌, ◌++◌, append_assoc, true, false, true≢false, Bor, option_copied, Option, Some, None, length, refl, ap, sym, ◌∙◌, subst, arith}
use Rattle.std.specs.Option.{is_some}
use Rattle.std.specs.Prelude.{Result, Ok, Err, IsErr, IsErrAnd}
use Rattle.std.proofs.lemmas.List.{append-nil}
use Rattle.dyadic.specs.Rounding.{Dyadic}
use Rattle.cover_line.specs.Line.{Multipliers, Factor, bound_of, Block}
use Rattle.cert_read.specs.declared.fault.LineFault.{LineFault}
use Rattle.cert_read.specs.declared.fault.LineFault.TheVariants.{BadLine, BadNumber, LineTooLong, Memory}
use Rattle.cert_read.specs.CertLine.{CertLine, line, Taken, taken, ill_formed, no_number, and_take, taken_if, count_of, dyadic_of, take_count, take_dyadic, take_many, take_pair, take_monomial, take_rows, factor_by, take_factor, take_block_of, take_block, take_blocks, take_squares, counts_of, take_list, take_groups, line_taken, squared, grouped}
use Rattle.cert_read.specs.Taking.{IsTaken, IsTakenFault}
use Rattle.cert_read.specs.Words.{words_behind}
use Rattle.cert_read.proofs.Parts.{split_some}

-- ---- one after another

pub and_on : {A B : Type 0} (t : Taken A) (k : A → List (List ℕ) → Taken B) (a : A) (vs : List (List ℕ)) → t ≡ taken a vs → and_take t k ≡ k a vs
and_on {A} {B} t k a vs e = ap (λ (s : Taken A). and_take s k) e

pub and_fault : {A B : Type 0} (f : LineFault) (t : Taken A) (k : A → List (List ℕ) → Taken B) → IsTakenFault f t → IsTakenFault f (and_take t k)
and_fault {A} {B} BadLine t k h = ap (λ (s : Taken A). and_take s k) h
and_fault {A} {B} BadNumber t k h = ap (λ (s : Taken A). and_take s k) h
and_fault {A} {B} LineTooLong t k h = h
and_fault {A} {B} Memory t k h = tt

pub same_fault : {A : Type 0} (f : LineFault) (t s : Taken A) → t ≡ s → IsTakenFault f s → IsTakenFault f t
same_fault BadLine t s e h = e ∙ h
same_fault BadNumber t s e h = e ∙ h
same_fault LineTooLong t s e h = h
same_fault Memory t s e h = tt

-- a fault that is handed on
pub fault_told : {A B : Type 0} (view : A → B) (t : Taken B) (r : Result A LineFault) (e : LineFault) (ws : List (List ℕ)) → IsErr r × IsErrAnd r (λ x. x ≡ e) → IsTakenFault e t → IsTaken view t r ws
fault_told view t (Ok x) e ws h k = absurd h.1
fault_told view t (Err x) e ws h k = subst (λ (y : LineFault). IsTakenFault y t) (sym h.1) k

-- ---- several

-- these, and what is taken behind them
abbrev pub onto : {A : Type 0} → List A → Taken (List A) → Taken (List A)
onto gs (taken bs ws) = taken (gs ++ bs) ws
onto gs ill_formed = ill_formed
onto gs no_number = no_number

pub onto_none : {A : Type 0} (t : Taken (List A)) → t ≡ onto [] t
onto_none (taken bs ws) = refl
onto_none ill_formed = refl
onto_none no_number = refl

-- one, and then others
abbrev pub first_of : {A : Type 0} → Taken A → (List (List ℕ) → Taken (List A)) → Taken (List A)
first_of t next = and_take t (λ a vs. and_take (next vs) (λ gs us. taken (a ∷ gs) us))

onto_more : {A : Type 0} (gs : List A) (a : A) (t : Taken (List A)) → onto gs (and_take t (λ bs us. taken (a ∷ bs) us)) ≡ onto (gs ++ (a ∷ [])) t
onto_more {A} gs a (taken bs ws) = ap (λ (cs : List A). taken cs ws) (sym (append_assoc gs (a ∷ []) bs))
onto_more gs a ill_formed = refl
onto_more gs a no_number = refl

pub onto_first : {A : Type 0} (gs : List A) (t : Taken A) (next : List (List ℕ) → Taken (List A)) (a : A) (vs : List (List ℕ))
    → t ≡ taken a vs → onto gs (first_of t next) ≡ onto (gs ++ (a ∷ [])) (next vs)
onto_first {A} gs t next a vs e = ap (λ (s : Taken A). onto gs (first_of s next)) e ∙ onto_more gs a (next vs)

pub first_taken : {A : Type 0} (t : Taken A) (next : List (List ℕ) → Taken (List A)) (a : A) (vs : List (List ℕ)) (gs : List A) (us : List (List ℕ))
    → t ≡ taken a vs → next vs ≡ taken gs us → first_of t next ≡ taken (a ∷ gs) us
first_taken {A} t next a vs gs us e h =
    and_on t (λ b xs. and_take (next xs) (λ bs ys. taken (b ∷ bs) ys)) a vs e ∙ and_on (next vs) (λ bs ys. taken (a ∷ bs) ys) gs us h

pub onto_fault : {A : Type 0} (f : LineFault) (gs : List A) (t : Taken (List A)) → IsTakenFault f t → IsTakenFault f (onto gs t)
onto_fault {A} BadLine gs t h = ap (λ (s : Taken (List A)). onto gs s) h
onto_fault {A} BadNumber gs t h = ap (λ (s : Taken (List A)). onto gs s) h
onto_fault LineTooLong gs t h = h
onto_fault Memory gs t h = tt

all_left : (m : ℕ) → m - 0 ≡ m
all_left m = omega arith

one_less : (m i : ℕ) → i < m → m - i ≡ suc (m - (i + 1))
one_less m i h = omega (arith, h)

none_less : (m i : ℕ) → m ≤ i → m - i ≡ 0
none_less m i h = omega (arith, h)

pub nothing_yet : {A : Type 0} (take : List (List ℕ) → Taken A) (m : ℕ) (ws : List (List ℕ)) → take_many take m ws ≡ onto [] (take_many take (m - 0) ws)
nothing_yet take m ws = onto_none (take_many take m ws) ∙ ap (λ (n : ℕ). onto [] (take_many take n ws)) (sym (all_left m))

-- so many, of which i are read
pub many_on : {A : Type 0} (take : List (List ℕ) → Taken A) (m i : ℕ) (gs : List A) (ws : List (List ℕ)) (a : A) (vs : List (List ℕ))
    → i < m → take ws ≡ taken a vs → onto gs (take_many take (m - i) ws) ≡ onto (gs ++ (a ∷ [])) (take_many take (m - (i + 1)) vs)
many_on take m i gs ws a vs l e =
    ap (λ (n : ℕ). onto gs (take_many take n ws)) (one_less m i l) ∙ onto_first gs (take ws) (take_many take (m - (i + 1))) a vs e

pub many_fault : {A : Type 0} (f : LineFault) (take : List (List ℕ) → Taken A) (m i : ℕ) (gs : List A) (ws : List (List ℕ))
    → i < m → IsTakenFault f (take ws) → IsTakenFault f (onto gs (take_many take (m - i) ws))
many_fault f take m i gs ws l h =
    same_fault f _ _ (ap (λ (n : ℕ). onto gs (take_many take n ws)) (one_less m i l))
    (onto_fault f gs (take_many take (suc (m - (i + 1))) ws) (and_fault f (take ws) _ h))

pub many_end : {A : Type 0} (take : List (List ℕ) → Taken A) (m i : ℕ) (gs : List A) (ws : List (List ℕ)) → m ≤ i → onto gs (take_many take (m - i) ws) ≡ taken gs ws
many_end {A} take m i gs ws l = ap (λ (n : ℕ). onto gs (take_many take n ws)) (none_less m i l) ∙ ap (λ (bs : List A). taken bs ws) (append-nil gs)

pub no_rows_yet : (m : ℕ) (ws : List (List ℕ)) → take_rows m ws ≡ onto [] (take_rows (m - 0) ws)
no_rows_yet m ws = onto_none (take_rows m ws) ∙ ap (λ (n : ℕ). onto [] (take_rows n ws)) (sym (all_left m))

-- rows of which i are read
pub rows_on : (m i : ℕ) (gs : List (List Dyadic)) (ws : List (List ℕ)) (a : List Dyadic) (vs : List (List ℕ))
    → i < m → take_many take_dyadic (m - i) ws ≡ taken a vs → onto gs (take_rows (m - i) ws) ≡ onto (gs ++ (a ∷ [])) (take_rows (m - (i + 1)) vs)
rows_on m i gs ws a vs l e =
    ap (λ (n : ℕ). onto gs (take_rows n ws)) (one_less m i l)
    ∙ onto_first gs (take_many take_dyadic (suc (m - (i + 1))) ws) (take_rows (m - (i + 1))) a vs
    (ap (λ (n : ℕ). take_many take_dyadic n ws) (sym (one_less m i l)) ∙ e)

pub rows_end : (m i : ℕ) (gs : List (List Dyadic)) (ws : List (List ℕ)) → m ≤ i → onto gs (take_rows (m - i) ws) ≡ taken gs ws
rows_end m i gs ws l = ap (λ (n : ℕ). onto gs (take_rows n ws)) (none_less m i l) ∙ ap (λ (bs : List (List Dyadic)). taken bs ws) (append-nil gs)

-- ---- parts of blocks

pub pair_on : (ws vs us : List (List ℕ)) (j : ℕ) (d : Dyadic) → take_count ws ≡ taken j vs → take_dyadic vs ≡ taken d us → take_pair ws ≡ taken (j, d) us
pair_on ws vs us j d e f =
    and_on (take_count ws) (λ i xs. and_take (take_dyadic xs) (λ l ys. taken (i, l) ys)) j vs e
    ∙ and_on (take_dyadic vs) (λ l ys. taken (j, l) ys) d us f

pub monomial_on : (ws vs : List (List ℕ)) (n : ℕ) → take_count ws ≡ taken n vs → take_monomial ws ≡ take_many take_count n vs
monomial_on ws vs n e = and_on (take_count ws) (λ k xs. take_many take_count k xs) n vs e

pub factor_on : (ws vs : List (List ℕ)) (k : ℕ) → take_count ws ≡ taken k vs → take_factor ws ≡ factor_by k vs
factor_on ws vs k e = and_on (take_count ws) (λ n xs. factor_by n xs) k vs e

pub bound_on : (ws vs us : List (List ℕ)) (k i : ℕ) → take_count ws ≡ taken k vs → k ≡ 1 → take_count vs ≡ taken i us → take_factor ws ≡ taken (bound_of i) us
bound_on ws vs us k i e one f =
    factor_on ws vs k e ∙ ap (λ (n : ℕ). factor_by n vs) one ∙ and_on (take_count vs) (λ j xs. taken (bound_of j) xs) i us f

abbrev take-rest : Factor → ℕ → List (List ℕ) → List (List ℕ) → Taken Block
take-rest f n ms us = and_take (take_rows n us) (λ rs ts. taken (record { factor = f; monomials = ms; rows = rs }) ts)

abbrev take-counted : Factor → ℕ → List (List ℕ) → Taken Block
take-counted f n vs = and_take (take_many take_monomial n vs) (λ ms us. take-rest f n ms us)

factor-then : (ws vs : List (List ℕ)) (f : Factor) → take_factor ws ≡ taken f vs → take_block ws ≡ take_block_of f vs
factor-then ws vs f e = and_on (take_factor ws) (λ g xs. take_block_of g xs) f vs e

count-then : (f : Factor) (vs us : List (List ℕ)) (n : ℕ) → take_count vs ≡ taken n us → take_block_of f vs ≡ take-counted f n us
count-then f vs us n e = and_on (take_count vs) (λ k xs. take-counted f k xs) n us e

monomials-then : (f : Factor) (us ts : List (List ℕ)) (n : ℕ) (ms : List (List ℕ)) → take_many take_monomial n us ≡ taken ms ts → take-counted f n us ≡ take-rest f n ms ts
monomials-then f us ts n ms e = and_on (take_many take_monomial n us) (λ ns xs. take-rest f n ns xs) ms ts e

pub block_on : (ws vs us ts xs : List (List ℕ)) (f : Factor) (n : ℕ) (ms : List (List ℕ)) (rs : List (List Dyadic)) → take_factor ws ≡ taken f vs → take_count vs ≡ taken n us
    → take_many take_monomial n us ≡ taken ms ts → take_rows n ts ≡ taken rs xs → take_block ws ≡ taken (record { factor = f; monomials = ms; rows = rs }) xs
block_on ws vs us ts xs f n ms rs a b c d =
    factor-then ws vs f a ∙ count-then f vs us n b ∙ monomials-then f us ts n ms c
    ∙ and_on (take_rows n ts) (λ ss ys. taken (record { factor = f; monomials = ms; rows = ss }) ys) rs xs d

-- ---- how many words are left

pub words_left : (o : Option (Bor (List ℕ))) → is_some o ≡ true → 0 < length (words_behind (option_copied o))
words_left None h = absurd (true≢false (sym h))
words_left (Some r) h = let s = split_some 32 r.now in omega (arith, ap length s.2)

pub no_words_left : (o : Option (Bor (List ℕ))) → is_some o ≡ false → words_behind (option_copied o) ≡ []
no_words_left None h = refl
no_words_left (Some r) h = absurd (true≢false h)

-- at most so many, where something is taken
abbrev pub LeavesAtMost : {A : Type 0} → ℕ → Taken A → Type 0
LeavesAtMost n (taken a ws) = length ws ≤ n
LeavesAtMost n ill_formed = Unit {0}
LeavesAtMost n no_number = Unit {0}

and_leaves : {A B : Type 0} (n : ℕ) (t : Taken A) (k : A → List (List ℕ) → Taken B) → LeavesAtMost n t → ((a : A) (vs : List (List ℕ)) → length vs ≤ n → LeavesAtMost n (k a vs)) → LeavesAtMost n (and_take t k)
and_leaves n (taken a ws) k h g = g a ws h
and_leaves n ill_formed k h g = tt
and_leaves n no_number k h g = tt

if_leaves : {A : Type 0} (n : ℕ) (o : Option A) (ws : List (List ℕ)) → length ws ≤ n → LeavesAtMost n (taken_if o ws)
if_leaves n (Some a) ws h = h
if_leaves n None ws h = tt

count_leaves : (n : ℕ) (ws : List (List ℕ)) → length ws ≤ n → LeavesAtMost n (take_count ws)
count_leaves n [] h = tt
count_leaves n (w ∷ ws) h = if_leaves n (count_of w) ws (omega (arith, h))

dyadic_leaves : (n : ℕ) (ws : List (List ℕ)) → length ws ≤ n → LeavesAtMost n (take_dyadic ws)
dyadic_leaves n [] h = tt
dyadic_leaves n (w ∷ ws) h = if_leaves n (dyadic_of w) ws (omega (arith, h))

many_leaves : {A : Type 0} (n : ℕ) (take : List (List ℕ) → Taken A) → ((ws : List (List ℕ)) → length ws ≤ n → LeavesAtMost n (take ws))
    → (m : ℕ) (ws : List (List ℕ)) → length ws ≤ n → LeavesAtMost n (take_many take m ws)
many_leaves n take g zero ws h = h
many_leaves n take g (suc m) ws h =
    and_leaves n (take ws) _ (g ws h) (λ a vs i. and_leaves n (take_many take m vs) (λ gs us. taken (a ∷ gs) us) (many_leaves n take g m vs i) (λ gs us j. j))

monomial_leaves : (n : ℕ) (ws : List (List ℕ)) → length ws ≤ n → LeavesAtMost n (take_monomial ws)
monomial_leaves n ws h = and_leaves n (take_count ws) (λ k vs. take_many take_count k vs) (count_leaves n ws h) (λ k vs i. many_leaves n take_count (count_leaves n) k vs i)

rows_leave : (n m : ℕ) (ws : List (List ℕ)) → length ws ≤ n → LeavesAtMost n (take_rows m ws)
rows_leave n zero ws h = h
rows_leave n (suc m) ws h =
    and_leaves n (take_many take_dyadic (suc m) ws) _ (many_leaves n take_dyadic (dyadic_leaves n) (suc m) ws h)
    (λ r vs i. and_leaves n (take_rows m vs) (λ rs us. taken (r ∷ rs) us) (rows_leave n m vs i) (λ rs us j. j))

factor_by_leaves : (n k : ℕ) (ws : List (List ℕ)) → length ws ≤ n → LeavesAtMost n (factor_by k ws)
factor_by_leaves n zero ws h = h
factor_by_leaves n (suc zero) ws h = and_leaves n (take_count ws) (λ i vs. taken (bound_of i) vs) (count_leaves n ws h) (λ i vs j. j)
factor_by_leaves n (suc (suc k)) ws h = tt

block_of_leaves : (n : ℕ) (f : Factor) (ws : List (List ℕ)) → length ws ≤ n → LeavesAtMost n (take_block_of f ws)
block_of_leaves n f ws h =
    and_leaves n (take_count ws) (λ k xs. take-counted f k xs) (count_leaves n ws h)
    (λ k vs i. and_leaves n (take_many take_monomial k vs) (λ ms us. take-rest f k ms us) (many_leaves n take_monomial (monomial_leaves n) k vs i)
    (λ ms us j. and_leaves n (take_rows k us) (λ rs ts. taken (record { factor = f; monomials = ms; rows = rs }) ts) (rows_leave n k us j) (λ rs ts l. l)))

first_count_leaves : (w : List ℕ) (ws : List (List ℕ)) → LeavesAtMost (length ws) (take_count (w ∷ ws))
first_count_leaves w ws = if_leaves (length ws) (count_of w) ws (omega arith)

block_leaves : (w : List ℕ) (ws : List (List ℕ)) → LeavesAtMost (length ws) (take_block (w ∷ ws))
block_leaves w ws =
    and_leaves (length ws) (take_factor (w ∷ ws)) (λ f vs. take_block_of f vs)
    (and_leaves (length ws) (take_count (w ∷ ws)) (λ k vs. factor_by k vs) (first_count_leaves w ws) (λ k vs i. factor_by_leaves (length ws) k vs i))
    (λ f vs i. block_of_leaves (length ws) f vs i)

left_by : {A : Type 0} (n : ℕ) (t : Taken A) (a : A) (vs : List (List ℕ)) → t ≡ taken a vs → LeavesAtMost n t → length vs ≤ n
left_by {A} n t a vs e h = subst (LeavesAtMost n) e h

-- ---- blocks up to the end

pub fewer_left : (ws vs : List (List ℕ)) (b : Block) → 0 < length ws → take_block ws ≡ taken b vs → length vs < length ws
fewer_left [] vs b s e = absurd (omega (arith, s))
fewer_left (w ∷ ws) vs b s e = let l = left_by (length ws) (take_block (w ∷ ws)) b vs e (block_leaves w ws) in omega (arith, l)

pub blocks_some : (k : ℕ) (ws : List (List ℕ)) → 0 < length ws → take_blocks (suc k) ws ≡ first_of (take_block ws) (take_blocks k)
blocks_some k [] s = absurd (omega (arith, s))
blocks_some k (w ∷ ws) s = refl

pub blocks_none : (k : ℕ) → take_blocks k [] ≡ taken [] []
blocks_none zero = refl
blocks_none (suc k) = refl

pub blocks_on : (m i : ℕ) (gs : List Block) (ws : List (List ℕ)) (b : Block) (vs : List (List ℕ))
    → 0 < length ws → i < m → take_block ws ≡ taken b vs → onto gs (take_blocks (m - i) ws) ≡ onto (gs ++ (b ∷ [])) (take_blocks (m - (i + 1)) vs)
blocks_on m i gs ws b vs s l e =
    ap (λ (n : ℕ). onto gs (take_blocks n ws)) (one_less m i l)
    ∙ ap (onto gs) (blocks_some (m - (i + 1)) ws s)
    ∙ onto_first gs (take_block ws) (take_blocks (m - (i + 1))) b vs e

pub blocks_fault : (f : LineFault) (m i : ℕ) (gs : List Block) (ws : List (List ℕ))
    → 0 < length ws → i < m → IsTakenFault f (take_block ws) → IsTakenFault f (onto gs (take_blocks (m - i) ws))
blocks_fault f m i gs ws s l h =
    same_fault f _ _ (ap (λ (n : ℕ). onto gs (take_blocks n ws)) (one_less m i l) ∙ ap (onto gs) (blocks_some (m - (i + 1)) ws s))
    (onto_fault f gs (first_of (take_block ws) (take_blocks (m - (i + 1)))) (and_fault f (take_block ws) _ h))

pub blocks_end : (n : ℕ) (gs : List Block) (ws : List (List ℕ)) → ws ≡ [] → onto gs (take_blocks n ws) ≡ taken gs ws
blocks_end n gs ws e =
    ap (λ (vs : List (List ℕ)). onto gs (take_blocks n vs)) e ∙ ap (onto gs) (blocks_none n)
    ∙ ap (λ (bs : List Block). taken bs []) (append-nil gs) ∙ ap (λ (vs : List (List ℕ)). taken gs vs) (sym e)

pub no_blocks_yet : (m : ℕ) (ws : List (List ℕ)) → take_blocks m ws ≡ onto [] (take_blocks (m - 0) ws)
no_blocks_yet m ws = onto_none (take_blocks m ws) ∙ ap (λ (n : ℕ). onto [] (take_blocks n ws)) (sym (all_left m))

-- ---- the whole line

abbrev take-blocks-all : Multipliers → List (List ℕ) → Taken (Multipliers × List Block)
take-blocks-all ms us = and_take (take_blocks (length us) us) (λ bs ts. taken (ms, bs) ts)

abbrev take-pairs : ℕ → List (List ℕ) → Taken (Multipliers × List Block)
take-pairs k vs = and_take (take_many take_pair k vs) (λ ms us. take-blocks-all ms us)

many-then : (ws vs : List (List ℕ)) (k : ℕ) → take_count ws ≡ taken k vs → take_squares ws ≡ take-pairs k vs
many-then ws vs k a = and_on (take_count ws) (λ n xs. take-pairs n xs) k vs a

pairs-then : (vs us : List (List ℕ)) (k : ℕ) (ms : Multipliers) → take_many take_pair k vs ≡ taken ms us → take-pairs k vs ≡ take-blocks-all ms us
pairs-then vs us k ms b = and_on (take_many take_pair k vs) (λ ns xs. take-blocks-all ns xs) ms us b

pub squares_on : (ws vs us ts : List (List ℕ)) (k : ℕ) (ms : Multipliers) (bs : List Block) → take_count ws ≡ taken k vs → take_many take_pair k vs ≡ taken ms us
    → take_blocks (length us) us ≡ taken bs ts → (f : Multipliers → List Block → CertLine) → squared f ws ≡ line (f ms bs)
squares_on ws vs us ts k ms bs a b c f =
    ap (line_taken f) (many-then ws vs k a ∙ pairs-then vs us k ms b ∙ and_on (take_blocks (length us) us) (λ cs xs. taken (ms, cs) xs) bs ts c)

-- ---- two groups

abbrev take-second : List ℕ → List (List ℕ) → Taken (List ℕ × List ℕ)
take-second js us = and_take (take_list us) (λ ks ts. taken (js, ks) ts)

abbrev take-first : ℕ → List (List ℕ) → Taken (List ℕ × List ℕ)
take-first n vs = and_take (take_many take_count n vs) (λ js us. take-second js us)

groups-then : (ws vs : List (List ℕ)) (n : ℕ) → take_count ws ≡ taken n vs → take_groups ws ≡ take-first n vs
groups-then ws vs n a = and_on (take_count ws) (λ k xs. take-first k xs) n vs a

first-then : (vs us : List (List ℕ)) (n : ℕ) (js : List ℕ) → take_many take_count n vs ≡ taken js us → take-first n vs ≡ take-second js us
first-then vs us n js b = and_on (take_many take_count n vs) (λ hs xs. take-second hs xs) js us b

pub groups_on : (ws vs us : List (List ℕ)) (n : ℕ) (js ks : List ℕ) → take_count ws ≡ taken n vs → take_many take_count n vs ≡ taken js us
    → counts_of us ≡ Some ks → (f : List ℕ → List ℕ → CertLine) → grouped f ws ≡ line (f js ks)
groups_on ws vs us n js ks a b c f =
    ap (line_taken f) (groups-then ws vs n a ∙ first-then vs us n js b ∙ ap (λ (o : Option (List ℕ)). and_take (taken_if o []) (λ hs ts. taken (js, hs) ts)) c)
