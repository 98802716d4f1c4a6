-- Small steps on tests.
use Rattle.std.proofs.Common.{◌≡◌, ◌∙◌, refl, sym, ap, ap₂, ℕ, List, [], ◌∷◌, Bool, true, false, not, ◌&&◌, ◌||◌, IsTrue, true≢false}
use Rattle.std.specs.List.{list_all, list_any}

-- both are true or both are false
abbrev pub agrees : Bool → Bool → Bool
agrees true b = b
agrees false b = not b

pub agree_equal : (x y : Bool) → IsTrue (agrees x y) → x ≡ y
agree_equal true y h = sym h
agree_equal false true h = absurd (true≢false (sym h))
agree_equal false false h = refl

pub equal_agree : (x y : Bool) → x ≡ y → IsTrue (agrees x y)
equal_agree true y e = sym e
equal_agree false y e = ap not (sym e)

pub or_false : (b : Bool) → (b || false) ≡ b
or_false true = refl
or_false false = refl

pub and_true : (b : Bool) → (b && true) ≡ b
and_true true = refl
and_true false = refl

-- a helper with its clauses in both directions agrees with what it stands for
pub combine_all : (h x pairs whole : Bool) → (h ≡ true → pairs ≡ x) → (h ≡ false → pairs ≡ true) → whole ≡ (h || not x) → (pairs && (whole && true)) ≡ agrees h x
combine_all true x pairs whole f g e = ap₂ (λ (a b : Bool). a && (b && true)) (f refl) e ∙ and_true x
combine_all false x pairs whole f g e = ap₂ (λ (a b : Bool). a && (b && true)) (g refl) e ∙ and_true (not x)

pub combine_any : (h x pairs whole : Bool) → (h ≡ true → pairs ≡ true) → (h ≡ false → pairs ≡ not x) → whole ≡ (not h || x) → (pairs && (whole && true)) ≡ agrees h x
combine_any true x pairs whole f g e = ap₂ (λ (a b : Bool). a && (b && true)) (f refl) e ∙ and_true x
combine_any false x pairs whole f g e = ap₂ (λ (a b : Bool). a && (b && true)) (g refl) e ∙ and_true (not x)

-- some element fails exactly where not all hold
pub some_not : (f : ℕ → Bool) (ks : List ℕ) → list_any (λ k. not (f k)) ks ≡ not (list_all f ks)
some_not f [] = refl
some_not f (k ∷ ks) = ap (λ (b : Bool). not (f k) || b) (some_not f ks) ∙ not-both (f k) (list_all f ks)
  where
    not-both : (x y : Bool) → (not x || not y) ≡ not (x && y)
    not-both true y = refl
    not-both false y = refl

-- all fail exactly where none holds
pub none_holds : (f : ℕ → Bool) (ks : List ℕ) → list_all (λ k. not (f k)) ks ≡ not (list_any f ks)
none_holds f [] = refl
none_holds f (k ∷ ks) = ap (λ (b : Bool). not (f k) && b) (none_holds f ks) ∙ not-either (f k) (list_any f ks)
  where
    not-either : (x y : Bool) → (not x && not y) ≡ not (x || y)
    not-either true y = refl
    not-either false y = refl

-- a clause of one literal
pub single_true : (b : Bool) → IsTrue ((b || false) && true) → b ≡ true
single_true true h = refl
single_true false h = h

pub single_false : (b : Bool) → IsTrue ((not b || false) && true) → b ≡ false
single_false true h = sym h
single_false false h = refl
