-- Constants that are declared later change the meaning of no tree of the script's assertions.
use Rattle.std.proofs.Common.{◌≡◌, ℕ, List, [], ◌∷◌, ◌++◌, Bool, true, false, cond, IsTrue, Option, Some, None, bytes_eq, refl, ap, ap₂, sym, ◌∙◌}
use Rattle.std.specs.List.{AllByRecursion}
use Rattle.script_model.specs.Sexp.{Place, symbol}
use Rattle.script_model.specs.Reading.{Operator, divide, Meanings, Names, operators, found, name_meaning, value_named, application}
use Rattle.script_model.specs.Script.{Command, Constant, constants_of}
use Rattle.script_roots.specs.Tree.{Tree, atomic, applied, root, quotient, trees_of}
use Rattle.script_roots.specs.Ranges.{Ranges}
use Rattle.script_roots.specs.Fresh.{Asserted, asserted, stands_alone, fresh_in, all_fresh, table_of}
use Rattle.script_roots.specs.Laws.{tree_meaning, trees_meaning, is_among, are_distinct}
use Rattle.script_roots.proofs.Plain.{itself}
use Rattle.script_roots.proofs.Table.{all_join, all_weaken, fresh_all}
use Rattle.script_roots.proofs.Constants.{named, found_before, distinct_apart}
use Rattle.script_roots.proofs.Covered.{all_entries}
use Rattle.script_roots.proofs.Kept.{IsKept, IsKeptConstant, asserted_kept}

module _ {V : Type 0} (M : Meanings V) (g : V → V) (C D : Names V) where
  abbrev pub MeansSame : Tree → Type 0
  MeansSame t = tree_meaning M g C t ≡ tree_meaning M g D t

  -- so does what is under a root or a quotient
  abbrev pub PartsMeanSame : Tree → Type 0
  PartsMeanSame (root at t) = MeansSame t
  PartsMeanSame (quotient at t d) = MeansSame t × MeansSame d
  PartsMeanSame t = Unit {0}

  abbrev pub WholeMeansSame : Tree → Type 0
  WholeMeansSame t = MeansSame t × PartsMeanSame t

  -- and so does each root and quotient in it
  abbrev MeansSameThrough : Ranges → Tree → Type 0
  MeansSameThrough ranges t = MeansSame t × AllByRecursion WholeMeansSame (fresh_in ranges t)

  module _ (ranges : Ranges) where
    abbrev Same : Tree → Type 0
    Same t = MeansSameThrough ranges t

    all-same : (ts : List Tree) → AllByRecursion Same ts → trees_meaning M g C (trees_of ts) ≡ trees_meaning M g D (trees_of ts)
    all-same [] h = refl
    all-same (t ∷ ts) h = ap₂ (λ v vs. v ∷ vs) h.0.0 (all-same ts h.1)

    all-through : (ts : List Tree) → AllByRecursion Same ts → AllByRecursion WholeMeansSame (all_fresh ranges (trees_of ts))
    all-through [] h = tt
    all-through (t ∷ ts) h = all_join WholeMeansSame (fresh_in ranges t) (all_fresh ranges (trees_of ts)) h.0.1 (all-through ts h.1)

    operator-same : (at : Place) (name : List ℕ) (op : Operator) → found name operators ≡ Some op → MeansSame (atomic at (symbol name))
    operator-same at name op e = ap (λ o. name_meaning M C at name o) e ∙ sym (ap (λ o. name_meaning M D at name o) e)

    known-same : (at : Place) (name : List ℕ) (op : Operator) (vs : List V) → application M C at name (Some op) vs ≡ application M D at name (Some op) vs
    known-same at name op [] = refl
    known-same at name op (v ∷ vs) = refl

    applied-same : (at : Place) (name : List ℕ) (op : Operator) → found name operators ≡ Some op → (ts : List Tree) → AllByRecursion Same ts → MeansSame (applied at name (trees_of ts))
    applied-same at name op e ts h =
        ap₂ (λ o vs. application M C at name o vs) e (all-same ts h) ∙ known-same at name op (trees_meaning M g D (trees_of ts)) ∙
        sym (ap (λ o. application M D at name o (trees_meaning M g D (trees_of ts))) e)

    quotient-same : (at : Place) (t d : Tree) → Same t → Same d → MeansSame (quotient at t d)
    quotient-same at t d h k = ap₂ (λ v w. M.apply at divide (v ∷ w ∷ [])) h.0 k.0

    one-quotient : (b : Bool) (t : Tree) → WholeMeansSame t → AllByRecursion WholeMeansSame (cond b (t ∷ []) [])
    one-quotient true t h = (h, tt)
    one-quotient false t h = tt

    same-kept : IsKept Same
    same-kept = record {
      numeral = λ at digits. (refl, tt);
      decimal = λ at digits decimals. (refl, tt);
      operator = λ at name op e. (operator-same at name op e, tt);
      applied = λ at name op e ts h. (applied-same at name op e ts h, all-through ts h);
      root = λ at t h. (ap g h.0, all_join WholeMeansSame (fresh_in ranges t) (root at t ∷ []) h.1 ((ap g h.0, h.0), tt));
      quotient = λ at t d h k. (
        quotient-same at t d h k,
        all_join WholeMeansSame (fresh_in ranges t ++ fresh_in ranges d) (cond (stands_alone ranges t d) (quotient at t d ∷ []) [])
            (all_join WholeMeansSame (fresh_in ranges t) (fresh_in ranges d) h.1 k.1) (one-quotient (stands_alone ranges t d) (quotient at t d) (quotient-same at t d h k, (h.0, k.0))),
      );
      formless = λ at. (refl, tt);
    }

    -- the name stands for the same
    abbrev pub FoundSame : Constant → Type 0
    FoundSame c = found c.name C ≡ found c.name D

    name-same : (at : Place) (x : List ℕ) (o : Option Operator) → found x C ≡ found x D → name_meaning M C at x o ≡ name_meaning M D at x o
    name-same at x (Some op) h = refl
    name-same at x None h = ap (λ n. value_named M at x n) h

    constant-same : (c : Constant) → FoundSame c → IsKeptConstant Same same-kept c
    constant-same c h at = (name-same at c.name (found c.name operators) h, tt)

    each-through : (script : List Command) → AllByRecursion FoundSame (constants_of script) → AllByRecursion (λ (a : Asserted). Same a.tree) (asserted script)
    each-through script h = asserted_kept Same same-kept script (all_weaken FoundSame (IsKeptConstant Same same-kept) constant-same (constants_of script) h)

    -- each root and quotient of a script means the same where the script's constants stand for the same
    pub entries_same : (script : List Command) → AllByRecursion FoundSame (constants_of script) →
        AllByRecursion (λ (entry : List ℕ × Tree). WholeMeansSame entry.1) (table_of ranges (asserted script))
    entries_same script h =
        all_entries WholeMeansSame ranges (asserted script)
        (fresh_all WholeMeansSame ranges (asserted script)
        (all_weaken (λ (a : Asserted). Same a.tree) (λ (a : Asserted). AllByRecursion WholeMeansSame (fresh_in ranges a.tree)) (λ a k. k.1) (asserted script) (each-through script h)))

-- ---- constants that are declared later

now-among : (x : List ℕ) (c : Constant) (cs : List Constant) (b : Bool) → bytes_eq x c.name ≡ b → (b ≡ true) → cond b true (is_among x cs) ≡ true
now-among x c cs true e h = refl
now-among x c cs false e h = cc

later-among : (x : List ℕ) (cs : List Constant) (b : Bool) → is_among x cs ≡ true → cond b true (is_among x cs) ≡ true
later-among x cs true h = refl
later-among x cs false h = h

-- each constant is among these
abbrev IsAmong : List Constant → Constant → Type 0
IsAmong cs c = is_among c.name cs ≡ true

each-among : (cs : List Constant) → AllByRecursion (IsAmong cs) cs
each-among [] = tt
each-among (c ∷ cs) = (
  now-among c.name c cs (bytes_eq c.name c.name) refl (itself c.name),
  all_weaken (IsAmong cs) (IsAmong (c ∷ cs)) (λ d h. later-among d.name cs (bytes_eq d.name c.name) h) cs (each-among cs),
)

-- constants with other names hide none of these
pub later_same : {V : Type 0} (C : Names V) (cs ds : List Constant) (vs : List V) → IsTrue (are_distinct (cs ++ ds)) →
    AllByRecursion (λ (c : Constant). found c.name C ≡ found c.name (named C ds vs)) cs
later_same C cs ds vs h = all_weaken (IsAmong cs) (λ (c : Constant). found c.name C ≡ found c.name (named C ds vs))
    (λ c k. sym (found_before c.name C ds vs (distinct_apart c.name cs ds h k))) cs (each-among cs)
