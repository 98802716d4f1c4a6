-- Lines that are appended as they were read.
use Rattle.std.proofs.Common.{◌≡◌, ℕ, ◌+◌, ◌<◌, ◌≤◌, List, [], ◌∷◌, ◌++◌, map, take, get_or, length, append_assoc, refl, ap, sym, ◌∙◌}
use Rattle.std.specs.Prelude.{codes, decimal, Result, Vec}
use Rattle.std.specs.Global.{Global}
use Rattle.std.specs.declared.alloc.AllocError.{AllocError}
use Rattle.std.proofs.lemmas.List.{append-nil, map_more, take_all}
use Rattle.std.proofs.lemmas.Result.{on_ok_weaker}
use Rattle.cert_read.specs.CertLine.{CertLine, yes_list, no_list}
use Rattle.cert_read.specs.LineText.{spaced}
use Rattle.cert_text.specs.Calls.{Appends, AppendsText, AppendsList}
use Rattle.cert_text.specs.Lines.{HasAppended, listed}
use Rattle.cert_text.proofs.Spelling.{spaced-listed}

-- lines that were appended are text that was
pub appended_text : {X : Type 0} (old new : Vec ℕ Global) (ls : List CertLine) (r : Result X AllocError) → Appends old new ls r → AppendsText old new ls r
appended_text old new ls r h = on_ok_weaker r (λ (a : HasAppended old.items ls new.items). a.written) h

-- ---- lists of numbers

listed-append : (xs ys : List ℕ) → listed (xs ++ ys) ≡ listed xs ++ listed ys
listed-append [] ys = refl
listed-append (x ∷ xs) ys = ap (λ (t : List ℕ). 32 ∷ (decimal x ++ t)) (listed-append xs ys) ∙ ap (λ (t : List ℕ). 32 ∷ t) (sym (append_assoc (decimal x) (listed xs) (listed ys)))

take-more : (xs : List ℕ) (i x : ℕ) → i < length xs → x ≡ get_or xs i x → take (i + 1) xs ≡ take i xs ++ (x ∷ [])
take-more xs i x h e =
    let same : (ys : List ℕ) → map (λ (n : ℕ). n) ys ≡ ys = same-map in
    sym (same (take (i + 1) xs)) ∙ map_more (λ (n : ℕ). n) xs i x h ∙ ap (λ (y : ℕ). map (λ (n : ℕ). n) (take i xs) ++ (y ∷ [])) (sym e) ∙ ap (λ (ys : List ℕ). ys ++ (x ∷ [])) (same (take i xs))
  where
    same-map : (ys : List ℕ) → map (λ (n : ℕ). n) ys ≡ ys
    same-map [] = refl
    same-map (y ∷ ys) = ap (λ (zs : List ℕ). y ∷ zs) (same-map ys)

-- one more number
pub one_more : (xs : List ℕ) (a b c : List ℕ) (i x : ℕ) → i < length xs → x ≡ get_or xs i x → b ≡ a ++ listed (take i xs) → c ≡ b ++ (32 ∷ decimal x) → c ≡ a ++ listed (take (i + 1) xs)
one_more xs a b c i x h e p q =
    q ∙ ap (λ (t : List ℕ). t ++ (32 ∷ decimal x)) p ∙ append_assoc a (listed (take i xs)) (32 ∷ decimal x)
    ∙ ap (λ (t : List ℕ). a ++ (listed (take i xs) ++ (32 ∷ t))) (sym (append-nil (decimal x)))
    ∙ ap (λ (t : List ℕ). a ++ t) (sym (ap listed (take-more xs i x h e) ∙ listed-append (take i xs) (x ∷ [])))

pub all_numbers : (xs : List ℕ) (a b : List ℕ) (i : ℕ) → length xs ≤ i → b ≡ a ++ listed (take i xs) → b ≡ a ++ listed xs
all_numbers xs a b i h p = p ∙ ap (λ (ys : List ℕ). a ++ listed ys) (take_all i xs h)

list-text : (w : List ℕ) (js : List ℕ) → w ++ (listed js ++ (10 ∷ [])) ≡ spaced (w ∷ map decimal js) ++ (10 ∷ [])
list-text w js = sym (append_assoc w (listed js) (10 ∷ [])) ∙ ap (λ (t : List ℕ). t ++ (10 ∷ [])) (sym (spaced-listed w js))

pub yes_text : {X : Type 0} (old new : Vec ℕ Global) (js : List ℕ) (r : Result X AllocError) → AppendsList old new (codes "yes") js r → AppendsText old new (yes_list js ∷ []) r
yes_text old new js r h = on_ok_weaker r (λ (e : new.items ≡ old.items ++ (codes "yes" ++ (listed js ++ (10 ∷ [])))). e ∙ ap (λ (t : List ℕ). old.items ++ t) (list-text (codes "yes") js)) h

pub no_text : {X : Type 0} (old new : Vec ℕ Global) (js : List ℕ) (r : Result X AllocError) → AppendsList old new (codes "no") js r → AppendsText old new (no_list js ∷ []) r
no_text old new js r h = on_ok_weaker r (λ (e : new.items ≡ old.items ++ (codes "no" ++ (listed js ++ (10 ∷ [])))). e ∙ ap (λ (t : List ℕ). old.items ++ t) (list-text (codes "no") js)) h
