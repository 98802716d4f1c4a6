-- A tree that is no number is no known value to the declared box.
use Rattle.std.proofs.Common.{◌≡◌, ◌⊎◌, inl, inr, ℕ, suc, List, [], ◌∷◌, map, Bool, true, false, ◌&&◌, Option, Some, None, is_some, bytes_eq, cond, refl, true≢false}
use Rattle.dyadic.specs.Fraction.{Fraction}
use Rattle.dyadic.specs.Point.{Sort, real_sort, bool_sort}
use Rattle.script_model.specs.Sexp.{Place, Leaf, numeral, decimal, symbol}
use Rattle.script_model.specs.Reading.{Operator, conjunction, equality, choice, minus, plus, times, divide, at_most_op, below_op, at_least_op, above_op, operators, found, Names, Named, value, function, name_meaning, leaf_meaning, application, value_named, bare_named, call_named}
use Rattle.script_model.specs.Meaning.{Value}
use Rattle.script_model.specs.Script.{Constant, sort_of_constant}
use Rattle.script_model.specs.Declared.{Bounding, known, constant_of, other, bounds, with_first, all_known, computed, alone, arm_bounding, choice_bounding, bounding_operation, bounding, constant_bounding, numbered}
use Rattle.script_roots.specs.Tree.{Tree, atomic, applied, root, quotient, formless, Trees, no_trees, more_trees, is_number_leaf, is_number, are_numbers}
use Rattle.script_roots.specs.Laws.{tree_meaning, trees_meaning}
use Rattle.script_roots.proofs.Constants.{named}

abbrev pub NotKnown : Bounding → Type 0
NotKnown (known q) = ⊥
NotKnown _ = Unit {0}

-- each name stands for a constant
abbrev pub NoneKnown : Names Bounding → Type 0
NoneKnown [] = Unit {0}
NoneKnown ((name, value b) ∷ names) = NotKnown b × NoneKnown names
NoneKnown ((name, function f) ∷ names) = ⊥

abbrev FoundNotKnown : Option (Named Bounding) → Type 0
FoundNotKnown None = Unit {0}
FoundNotKnown (Some (value b)) = NotKnown b
FoundNotKnown (Some (function f)) = ⊥

found-first : (t : Bool) (b : Bounding) (o : Option (Named Bounding)) → NotKnown b → FoundNotKnown o → FoundNotKnown (cond t (Some (value b)) o)
found-first true b o h k = h
found-first false b o h k = k

found-not-known : (name : List ℕ) (names : Names Bounding) → NoneKnown names → FoundNotKnown (found name names)
found-not-known name [] h = tt
found-not-known name ((x, value b) ∷ names) h = found-first (bytes_eq name x) b (found name names) h.0 (found-not-known name names h.1)
found-not-known name ((x, function f) ∷ names) h = elim h [ ]

-- ---- operators

first-none : (q : Fraction) (o : Option (List Value)) → with_first q o ≡ None → o ≡ None
first-none q None h = refl
first-none q (Some vs) h = cc

none-after : (q : Fraction) (o : Option (List Value)) → o ≡ None → with_first q o ≡ None
none-after q None h = refl
none-after q (Some vs) h = cc

one-not-known : (b : Bounding) → all_known (b ∷ []) ≡ None → NotKnown b
one-not-known (known q) h = cc
one-not-known (constant_of k) h = tt
one-not-known other h = tt
one-not-known (bounds bs) h = tt

computed-not-known : (op : Operator) (o : Option (List Value)) → o ≡ None → NotKnown (computed op o)
computed-not-known op None h = tt
computed-not-known op (Some vs) h = cc

alone-not-known : (op : Operator) (bs : List Bounding) → all_known bs ≡ None → NotKnown (alone op bs)
alone-not-known op [] h = cc
alone-not-known op (b ∷ []) h = one-not-known b h
alone-not-known op (b ∷ c ∷ bs) h = computed-not-known op (all_known (b ∷ c ∷ bs)) h

arm-not-known : (b : Bounding) → NotKnown (arm_bounding b)
arm-not-known (bounds bs) = tt
arm-not-known (known q) = tt
arm-not-known (constant_of k) = tt
arm-not-known other = tt

choice-not-known : (bs : List Bounding) → NotKnown (choice_bounding bs)
choice-not-known [] = tt
choice-not-known (c ∷ []) = tt
choice-not-known (c ∷ a ∷ []) = tt
choice-not-known (c ∷ a ∷ b ∷ rest) = arm-not-known a

operation-not-known : (op : Operator) (bs : List Bounding) → all_known bs ≡ None → NotKnown (bounding_operation op bs)
operation-not-known plus bs h = alone-not-known plus bs h
operation-not-known times bs h = alone-not-known times bs h
operation-not-known minus bs h = computed-not-known minus (all_known bs) h
operation-not-known divide bs h = computed-not-known divide (all_known bs) h
operation-not-known choice bs h = choice-not-known bs
operation-not-known conjunction bs h = tt
operation-not-known equality bs h = tt
operation-not-known at_most_op bs h = tt
operation-not-known below_op bs h = tt
operation-not-known at_least_op bs h = tt
operation-not-known above_op bs h = tt
operation-not-known op bs h = tt

first-not-known : (b : Bounding) (bs : List Bounding) → NotKnown b → all_known (b ∷ bs) ≡ None
first-not-known (known q) bs h = elim h [ ]
first-not-known (constant_of k) bs h = refl
first-not-known other bs h = refl
first-not-known (bounds cs) bs h = refl

later-not-known : (b : Bounding) (bs : List Bounding) → all_known bs ≡ None → all_known (b ∷ bs) ≡ None
later-not-known (known q) bs h = none-after q (all_known bs) h
later-not-known (constant_of k) bs h = refl
later-not-known other bs h = refl
later-not-known (bounds cs) bs h = refl

-- ---- trees

abbrev pub no_root : Bounding → Bounding
no_root b = other

one-false : (x y : Bool) → x && y ≡ false → (x ≡ false) ⊎ (y ≡ false)
one-false false y h = inl refl
one-false true y h = inr h

module _ (names : Names Bounding) (given : NoneKnown names) where
  value-not-known : (at : Place) (name : List ℕ) (o : Option (Named Bounding)) → FoundNotKnown o → NotKnown (value_named bounding at name o)
  value-not-known at name None h = tt
  value-not-known at name (Some (value b)) h = h
  value-not-known at name (Some (function f)) h = elim h [ ]

  bare-not-known : (at : Place) (name : List ℕ) (o : Option (Named Bounding)) → NotKnown (bare_named bounding at name o)
  bare-not-known at name None = tt
  bare-not-known at name (Some n) = tt

  call-not-known : (at : Place) (name : List ℕ) (o : Option (Named Bounding)) (bs : List Bounding) → FoundNotKnown o → NotKnown (call_named bounding at name o bs)
  call-not-known at name None bs h = tt
  call-not-known at name (Some (value b)) bs h = tt
  call-not-known at name (Some (function f)) bs h = elim h [ ]

  name-not-known : (at : Place) (name : List ℕ) (op : Option Operator) → is_some op ≡ false → NotKnown (name_meaning bounding names at name op)
  name-not-known at name (Some op) h = absurd (true≢false h)
  name-not-known at name None h = value-not-known at name (found name names) (found-not-known name names given)

  leaf-not-known : (at : Place) (l : Leaf) → is_number_leaf l ≡ false → NotKnown (leaf_meaning bounding names at l)
  leaf-not-known at (symbol name) h = name-not-known at name (found name operators) h
  leaf-not-known at (numeral ds) h = absurd (true≢false h)
  leaf-not-known at (decimal ds fs) h = absurd (true≢false h)
  leaf-not-known at _ h = absurd (true≢false h)

  application-not-known : (at : Place) (name : List ℕ) (op : Option Operator) (bs : List Bounding) → all_known bs ≡ None → NotKnown (application bounding names at name op bs)
  application-not-known at name (Some op) [] h = tt
  application-not-known at name (Some op) (b ∷ bs) h = operation-not-known op (b ∷ bs) h
  application-not-known at name None [] h = bare-not-known at name (found name names)
  application-not-known at name None (b ∷ bs) h = call-not-known at name (found name names) (b ∷ bs) (found-not-known name names given)

  mutual
    pub not_known : (t : Tree) → is_number t ≡ false → NotKnown (tree_meaning bounding no_root names t)
    not_known (atomic at l) h = leaf-not-known at l h
    not_known (applied at name ts) h = application-not-known at name (found name operators) (trees_meaning bounding no_root names ts) (none-known ts h)
    not_known (root at t) h = tt
    not_known (quotient at t d) h =
        let b = tree_meaning bounding no_root names t in
        let c = tree_meaning bounding no_root names d in
        operation-not-known divide (b ∷ c ∷ [])
        (elim (one-false (is_number t) (is_number d) h) [
          | inl k ↦ first-not-known b (c ∷ []) (not_known t k)
          | inr k ↦ later-not-known b (c ∷ []) (first-not-known c [] (not_known d k))
        ])
    not_known (formless at) h = tt

    none-known : (ts : Trees) → are_numbers ts ≡ false → all_known (trees_meaning bounding no_root names ts) ≡ None
    none-known no_trees h = absurd (true≢false h)
    none-known (more_trees t ts) h =
        let b = tree_meaning bounding no_root names t in
        let bs = trees_meaning bounding no_root names ts in
        elim (one-false (is_number t) (are_numbers ts) h) [
          | inl k ↦ first-not-known b bs (not_known t k)
          | inr k ↦ later-not-known b bs (none-known ts k)
        ]

  two-not-known : (b c : Bounding) → NotKnown c → bounding_operation divide (b ∷ c ∷ []) ≡ other
  two-not-known (known q) (known r) h = elim h [ ]
  two-not-known (known q) (constant_of k) h = refl
  two-not-known (known q) other h = refl
  two-not-known (known q) (bounds cs) h = refl
  two-not-known (constant_of k) c h = refl
  two-not-known other c h = refl
  two-not-known (bounds bs) c h = refl

  -- a quotient whose divisor is no number
  pub quotient_is_other : (at : Place) (t d : Tree) → is_number d ≡ false → tree_meaning bounding no_root names (quotient at t d) ≡ other
  quotient_is_other at t d h = two-not-known (tree_meaning bounding no_root names t) (tree_meaning bounding no_root names d) (not_known d h)

-- ---- declared constants

constant-not-known : (axis : ℕ) (s : Sort) → NotKnown (constant_bounding axis s)
constant-not-known axis real_sort = tt
constant-not-known axis bool_sort = tt

pub constants_not_known : (names : Names Bounding) → NoneKnown names → (axis : ℕ) (constants : List Constant) → NoneKnown (named names constants (numbered constant_bounding axis (map sort_of_constant constants)))
constants_not_known names h axis [] = h
constants_not_known names h axis (c ∷ constants) =
    constants_not_known ((c.name, value (constant_bounding axis c.sort)) ∷ names) (constant-not-known axis c.sort, h) (suc axis) constants
