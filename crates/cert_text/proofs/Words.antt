-- Words that are appended, each after a space.
use Rattle.std.proofs.Common.{◌≡◌, ℕ, zero, suc, ◌+◌, ◌^◌, ◌<◌, ◌≤◌, List, [], ◌∷◌, ◌++◌, map, take, get_or, length, length-append, append_assoc, refl, ap, sym, ◌∙◌, subst, arith}
use Rattle.std.specs.Prelude.{decimal, cond, Result, Ok, Err, OnOk}
use Rattle.std.specs.Result.{is_ok}
use Rattle.std.specs.List.{AllByRecursion}
use Rattle.std.proofs.lemmas.Fmt.{length-decimal-le}
use Rattle.std.proofs.lemmas.List.{append-nil, map_more, take_all}
use Rattle.cert_read.specs.LineText.{IsCount}
use Rattle.cert_text.specs.Ruled.{after_spaces, HasWords}
use Rattle.cert_text.proofs.Spelling.{decimal_short}

after-both : (vs ws : List (List ℕ)) → after_spaces (vs ++ ws) ≡ after_spaces vs ++ after_spaces ws
after-both [] ws = refl
after-both (v ∷ vs) ws = ap (λ (t : List ℕ). 32 ∷ (v ++ t)) (after-both vs ws) ∙ ap (λ (t : List ℕ). 32 ∷ t) (sym (append_assoc v (after_spaces vs) (after_spaces ws)))

pub no_words : (a : List ℕ) → HasWords a [] a
no_words a = record { written = sym (append-nil a); short = omega arith }

-- one word of at most 64 bytes
pub one_word : (w a b : List ℕ) → length w ≤ 64 → b ≡ a ++ (32 ∷ w) → HasWords a (w ∷ []) b
one_word w a b h e = record {
  written = e ∙ ap (λ (t : List ℕ). a ++ (32 ∷ t)) (sym (append-nil w));
  short = omega (arith, h, length-append w []);
}

pub both_words : (a b c : List ℕ) (vs ws : List (List ℕ)) → HasWords a vs b → HasWords b ws c → HasWords a (vs ++ ws) c
both_words a b c vs ws h k = record {
  written = k.written ∙ ap (λ (t : List ℕ). t ++ after_spaces ws) h.written ∙ append_assoc a (after_spaces vs) (after_spaces ws) ∙ ap (λ (t : List ℕ). a ++ t) (sym (after-both vs ws));
  short = omega (arith, h.short, k.short, ap length (after-both vs ws), length-append (after_spaces vs) (after_spaces ws), length-append vs ws);
}

pub same_words : (a b : List ℕ) (vs ws : List (List ℕ)) → vs ≡ ws → HasWords a vs b → HasWords a ws b
same_words a b vs ws e h = subst (λ (us : List (List ℕ)). HasWords a us b) e h

-- ---- those of a list's items

-- of all of them
abbrev pub flat : List (List (List ℕ)) → List (List ℕ)
flat [] = []
flat (ws ∷ rest) = ws ++ flat rest

flat-both : (vs ws : List (List (List ℕ))) → flat (vs ++ ws) ≡ flat vs ++ flat ws
flat-both [] ws = refl
flat-both (v ∷ vs) ws = ap (λ (us : List (List ℕ)). v ++ us) (flat-both vs ws) ∙ sym (append_assoc v (flat vs) (flat ws))

module _ {X : Type 0} (f : X → List (List ℕ)) (xs : List X) (a b : List ℕ) where
  -- the words of one more item
  pub item_words : (c : List ℕ) (i : ℕ) (x : X) → i < length xs → x ≡ get_or xs i x → HasWords a (flat (map f (take i xs))) b → HasWords b (f x) c → HasWords a (flat (map f (take (i + 1) xs))) c
  item_words c i x h e p q =
      let done : List (List (List ℕ)) = map f (take i xs) in
      same_words a c (flat done ++ f x) (flat (map f (take (i + 1) xs)))
      (sym (ap flat (map_more f xs i x h ∙ ap (λ (y : X). done ++ (f y ∷ [])) (sym e)) ∙ flat-both done (f x ∷ []) ∙ ap (λ (us : List (List ℕ)). flat done ++ us) (append-nil (f x))))
      (both_words a b c (flat done) (f x) p q)

  pub items_words : (i : ℕ) → length xs ≤ i → HasWords a (flat (map f (take i xs))) b → HasWords a (flat (map f xs)) b
  items_words i h p = subst (λ (ys : List X). HasWords a (flat (map f ys)) b) (take_all i xs h) p

-- what holds of the items so far and of one more
pub all_more : {X : Type 0} (P : X → Type 0) (xs : List X) (i : ℕ) (x : X) → i < length xs → x ≡ get_or xs i x → AllByRecursion P (take i xs) → P x → AllByRecursion P (take (i + 1) xs)
all_more P [] i x h e k p = absurd (omega (arith, h))
all_more P (y ∷ ys) zero x h e k p = (subst P e p, tt)
all_more P (y ∷ ys) (suc i) x h e k p =
    let same : suc (i + 1) ≡ suc i + 1 = omega arith in
    subst (λ (n : ℕ). AllByRecursion P (take n (y ∷ ys))) same (k.0, all_more P ys i x (omega (arith, h)) e k.1 p)

pub all_of : {X : Type 0} (P : X → Type 0) (xs : List X) (i : ℕ) → length xs ≤ i → AllByRecursion P (take i xs) → AllByRecursion P xs
all_of P xs i h k = subst (AllByRecursion P) (take_all i xs h) k

pub all_mapped : {X Y : Type 0} (P : Y → Type 0) (f : X → Y) (xs : List X) → AllByRecursion (λ x. P (f x)) xs → AllByRecursion P (map f xs)
all_mapped P f [] h = tt
all_mapped P f (x ∷ xs) h = (h.0, all_mapped P f xs h.1)

-- ---- words of a list's items, as they are spelled

pub singles : {X : Type 0} (f : X → List ℕ) (xs : List X) → flat (map (λ x. f x ∷ []) xs) ≡ map f xs
singles f [] = refl
singles f (x ∷ xs) = ap (λ (ws : List (List ℕ)). f x ∷ ws) (singles f xs)

-- a word after a space, in two steps
pub spaced_word : (w a b c : List ℕ) → length w ≤ 64 → b ≡ a ++ (32 ∷ []) → c ≡ b ++ w → HasWords a (w ∷ []) c
spaced_word w a b c h e f = one_word w a c h (f ∙ ap (λ (t : List ℕ). t ++ w) e ∙ append_assoc a (32 ∷ []) w)

-- a plain number, and how many there are
pub count_word : (n : ℕ) (a b : List ℕ) → IsCount n → b ≡ a ++ (32 ∷ decimal n) → HasWords a (decimal n ∷ []) b
count_word n a b h e = one_word (decimal n) a b (let s = decimal_short n h in omega (arith, s)) e

pub size_word : (n : ℕ) (a b c : List ℕ) → n < 2 ^ 64 → b ≡ a ++ (32 ∷ []) → c ≡ b ++ decimal n → HasWords a (decimal n ∷ []) c
size_word n a b c h e f = spaced_word (decimal n) a b c (let s = length-decimal-le 20 n (omega arith) (omega (arith, h)) h in omega (arith, s)) e f

pub two_words : (v w a b c : List ℕ) → HasWords a (v ∷ []) b → HasWords b (w ∷ []) c → HasWords a (v ∷ w ∷ []) c
two_words v w a b c h k = both_words a b c (v ∷ []) (w ∷ []) h k

-- what the call that appends says of its answer
pub on_ok_if : {X E A : Type 0} (r : Result X E) (x y z : A) → x ≡ cond (is_ok r) y z → OnOk r (x ≡ y)
on_ok_if (Ok t) x y z h = h
on_ok_if (Err e) x y z h = tt
