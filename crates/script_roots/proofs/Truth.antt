-- The rewritten script means what the script means.
use Rattle.std.proofs.Common.{◌≡◌, ◌↔◌, ℕ, suc, List, [], ◌∷◌, ◌++◌, map, Bool, true, false, not, ◌&&◌, cond, IsTrue, Option, Some, None, bytes_eq, refl, ap, sym, ◌∙◌, subst, arith, ℤ, pos, ◌*ℤ◌, ◌*◌}
use Rattle.std.proofs.lemmas.List.{map-append, append-nil}
use Rattle.std.specs.List.{AllByRecursion}
use Rattle.std.proofs.lemmas.Int.{ints}
use lib.Signed.{le_z}
use Rattle.dyadic.specs.Fraction.{Fraction, zero_fraction, whole, product_of, quotient_of, at_most}
use Rattle.dyadic.specs.Point.{Coordinate}
use Rattle.dyadic.proofs.Equal.{◌≈◌, ≈_sym, le_holds, both_true}
use Rattle.dyadic.proofs.Ring.{atom, natural, times, same}
use Rattle.script_model.specs.Sexp.{Place, leaf, symbol}
use Rattle.script_model.specs.Reading.{Meanings, Names, value, function, operators, found, name_meaning, value_named}
use Rattle.script_model.specs.Meaning.{Value, real, fraction_of, pair_of, loosened, coordinate_value}
use Rattle.script_model.specs.Script.{Command, Constant, constants_of, sort_of_constant, claims, Holds, Satisfies}
use Rattle.script_model.specs.Declared.{DeclaredInterval, declared_interval, InBox, InDeclaredBox}
use Rattle.script_roots.specs.Tree as tree
use Rattle.script_roots.specs.Tree.{Tree, atomic, applied, root, quotient, formless, trees_of, is_number, holds_choice, holds_root, sqrt_name, sqrt_tree, theory_names}
use Rattle.script_roots.specs.Ranges.{Ranges, avoids_nought, enclosed}
use Rattle.script_roots.specs.Fresh.{Asserted, asserted, stands_alone, fresh_in, Table, once, fresh_of, named_from}
use Rattle.script_roots.specs.TreeBounds.{declared_ranges}
use Rattle.script_roots.specs.Rewritten.{number_at, rewritten_by, claims_of_all, unless_empty, script_table, rewritten}
use Rattle.script_roots.specs.Laws.{root_value, with_root, SatisfiesWith, tree_meaning, trees_meaning, constants_at, value_at, IsRootOf, HasRoots, fresh_value, extended, are_distinct, IsRewritable}
use Rattle.script_roots.proofs.Plain.{IsTransparent, AreAs, IsAsFound, AreKnown, assertion_means, more_as, claims_mean}
use Rattle.script_roots.proofs.Transparent.{loosened_transparent}
use Rattle.script_roots.proofs.DeclaredRanges.{enclosed_holds}
use Rattle.script_roots.proofs.Constants.{AsMany, as_many_more, not_true, named, named_more, constants_named, distinct_known, known_parts, table_constants, distinct_all, own_distinct, spelled_means, rewritten_claims}
use Rattle.script_roots.proofs.Operations.{IsNotNought, missed_is_not_nought, quotient_back}
use Rattle.script_roots.proofs.Enclosed.{IsPlain, step_real, root_of, tree_value, RootsHold}
use Rattle.script_roots.proofs.Ends.{EndsHold}
use Rattle.script_roots.proofs.Table.{all_join, all_split, all_weaken, fresh_each, table_roots, IsFresh, table_fresh}
use Rattle.script_roots.proofs.Covered.{HasEntry, fresh_covered}
use Rattle.script_roots.proofs.Spelled.{StandsFor, ArePartsSpelled, assertions_spelled, table_spelled, each_spelled}
use Rattle.script_roots.proofs.Later.{WholeMeansSame, entries_same, later_same}
use Rattle.script_roots.proofs.Relations.{IsValue, RelationsHold, product_value, root_relations, quotient_relations, relations_hold}
use Rattle.script_roots.proofs.WrittenEnds.{number_value}

abbrev Zero : Meanings Value
Zero = loosened zero_fraction

-- ---- lists

all-both : {X : Type 0} (P Q : X → Type 0) (xs : List X) → AllByRecursion P xs → AllByRecursion Q xs → AllByRecursion (λ x. P x × Q x) xs
all-both P Q [] h k = tt
all-both P Q (x ∷ xs) h k = ((h.0, k.0), all-both P Q xs h.1 k.1)

-- ---- fractions

le-itself : (z : ℤ) → IsTrue (le_z z z)
le-itself z = le_holds z z (grind (arith, ints))

-- each of two equal fractions is at most the other
at-most-equal : (p q : Fraction) → p ≈ q → IsTrue (at_most p q)
unfolding at_most
at-most-equal p q h = subst (λ z. IsTrue (le_z (p.num *ℤ pos q.den) z)) h.same (le-itself (p.num *ℤ pos q.den))

times-one : (q : Fraction) → product_of q (whole (pos 1)) ≡ q
unfolding product_of
times-one q =
    let n = same (times (atom q.num) (natural 1)) (atom q.num) (omega arith) in
    let d : q.den * 1 ≡ q.den = omega arith in
    λ i. record { num = n i; den = d i }

-- ---- names

root-as : (f : Fraction → Fraction) (C : Names Value) (at : Place) (ts : List Tree) →
    root_value f (trees_meaning Zero (root_of f) C (trees_of ts)) ≡ tree_meaning Zero (root_of f) C (sqrt_tree at ts)
root-as f C at [] = refl
root-as f C at (t ∷ []) = refl
root-as f C at (t ∷ u ∷ ts) = refl

-- `sqrt` stands for the roots that f gives
pub root_names_as : (f : Fraction → Fraction) (C : Names Value) → AreAs Zero (loosened_transparent zero_fraction) (root_of f) C (with_root f) theory_names
root_names_as f C = more_as Zero (loosened_transparent zero_fraction) (root_of f) C sqrt_name (function (root_value f)) (tree.function sqrt_tree) [] [] (λ o. root-as f C) (λ x o. tt)

nought-as : (C : Names Value) (at : Place) (ts : List Tree) → real zero_fraction ≡ tree_meaning Zero (λ v. real zero_fraction) C (sqrt_tree at ts)
nought-as C at [] = refl
nought-as C at (t ∷ []) = refl
nought-as C at (t ∷ u ∷ ts) = refl

unknown-as : (C : Names Value) (b : Bool) → IsAsFound Zero (loosened_transparent zero_fraction) (λ v. real zero_fraction) C None (cond b (Some (tree.function sqrt_tree)) None)
unknown-as C true = nought-as C
unknown-as C false = tt

-- where `sqrt` is unknown, it stands for 0
pub no_names_as : (C : Names Value) → AreAs Zero (loosened_transparent zero_fraction) (λ v. real zero_fraction) C [] theory_names
no_names_as C x o = unknown-as C (bytes_eq x sqrt_name)

-- no fresh constant has the name of an operator
abbrev IsNoOperator : List ℕ × Tree → Type 0
IsNoOperator entry = found entry.0 operators ≡ None

named-no-operator : (r q : ℕ) (ts : List Tree) → AllByRecursion IsNoOperator (named_from r q ts)
named-no-operator r q [] = tt
named-no-operator r q (root at t ∷ ts) = (refl, named-no-operator (suc r) q ts)
named-no-operator r q (atomic at l ∷ ts) = (refl, named-no-operator r (suc q) ts)
named-no-operator r q (applied at x us ∷ ts) = (refl, named-no-operator r (suc q) ts)
named-no-operator r q (quotient at t d ∷ ts) = (refl, named-no-operator r (suc q) ts)
named-no-operator r q (formless at ∷ ts) = (refl, named-no-operator r (suc q) ts)

-- ---- as many values as constants

box-as-many : (box : ℕ → DeclaredInterval) (axis : ℕ) (cs : List Constant) (point : List Coordinate) → InBox box axis (map sort_of_constant cs) point → AsMany cs (map coordinate_value point)
box-as-many box axis [] [] h = tt
box-as-many box axis (c ∷ cs) (x ∷ point) h = box-as-many box (suc axis) cs point h.1
box-as-many box axis [] (x ∷ point) h = elim h [ ]
box-as-many box axis (c ∷ cs) [] h = elim h [ ]

fresh-as-many : (f : Fraction → Fraction) (script : List Command) (point : List Coordinate) (table : Table) → AsMany table (map coordinate_value (map (fresh_value f script point) table))
fresh-as-many f script point [] = tt
fresh-as-many f script point (entry ∷ table) = fresh-as-many f script point table

constants-as-many : (table : Table) (ws : List Value) → AsMany table ws → AsMany (table_constants table) ws
constants-as-many [] [] h = tt
constants-as-many (entry ∷ table) (w ∷ ws) h = constants-as-many table ws h
constants-as-many [] (w ∷ ws) h = elim h [ ]
constants-as-many (entry ∷ table) [] h = elim h [ ]

-- what is so of a quotient for which a constant stands
record StandsAlone (ranges : Ranges) (t d : Tree) : Type 0 where
  dividend : holds_choice t ≡ false
  divisor : holds_choice d ≡ false
  misses : IsTrue (avoids_nought (enclosed ranges d))

alone-parts : (ranges : Ranges) (t d : Tree) → IsTrue (stands_alone ranges t d) → StandsAlone ranges t d
alone-parts ranges t d h =
    let a = both_true (not (is_number d) && not (holds_choice t) && not (holds_choice d) && not (holds_root d)) (avoids_nought (enclosed ranges d)) h in
    let b = both_true (not (is_number d) && not (holds_choice t) && not (holds_choice d)) (not (holds_root d)) a.0 in
    let c = both_true (not (is_number d) && not (holds_choice t)) (not (holds_choice d)) b.0 in
    let e = both_true (not (is_number d)) (not (holds_choice t)) c.0 in
    record { dividend = not_true (holds_choice t) e.1; divisor = not_true (holds_choice d) c.1; misses = a.1 }

-- ---- the values of roots and quotients

module _ (bound : Option ℕ) (script : List Command) (own : IsTrue (are_distinct (constants_of script))) (f : Fraction → Fraction) (point : List Coordinate) (B : InDeclaredBox bound script point) where
  abbrev Given : Names Value
  Given = constants_at [] (constants_of script) point

  abbrev Of : Tree → Value
  Of t = tree_value f (constants_at [] (constants_of script) point) t

  abbrev RangesOf : Ranges
  RangesOf = declared_ranges bound script

  -- a root or a quotient for which a constant stands, where f gives the roots in it
  record IsGiven (t : Tree) : Type 0 where
    fresh : IsFresh RangesOf t
    roots : RootsHold f Given t

  -- the values under a quotient
  record IsDivided (t d : Tree) : Type 0 where
    dividend : IsPlain (Of t)
    divisor : IsPlain (Of d)
    not_nought : IsNotNought (fraction_of (Of d))

  divided : (at : Place) (t d : Tree) → IsGiven (quotient at t d) → IsDivided t d
  divided at t d g =
      let a = alone-parts RangesOf t d g.fresh in
      let v = enclosed_holds bound script own point B f t a.dividend g.roots.0 in
      let w = enclosed_holds bound script own point B f d a.divisor g.roots.1 in
      record { dividend = v.plain; divisor = w.plain; not_nought = missed_is_not_nought (enclosed RangesOf d) (fraction_of (Of d)) w.fraction w.inside a.misses }

  -- its value is a fraction
  real-value : (t : Tree) → IsGiven t → real (fraction_of (Of t)) ≡ Of t
  real-value (root at t) g = refl
  real-value (quotient at t d) g =
      let h = divided at t d g in
      let e = step_real quotient_of (Of t) (Of d) h.dividend h.divisor in ap (λ v. real (fraction_of v)) e ∙ sym e
  real-value (atomic at l) g = elim g.fresh [ ]
  real-value (applied at x ts) g = elim g.fresh [ ]
  real-value (formless at) g = elim g.fresh [ ]

  module _ (table : Table) (D : Names Value) where
    -- what is known of an entry: its constant has its value, and it means the same with fresh constants as without
    record IsKnown (entry : List ℕ × Tree) : Type 0 where
      given : IsGiven entry.1
      named : IsValue D entry.0 (fraction_of (Of entry.1))
      same : WholeMeansSame Zero (root_of f) Given D entry.1

    stands-for : (entry : List ℕ × Tree) → IsKnown entry → StandsFor Zero (loosened_transparent zero_fraction) (root_of f) D entry
    stands-for entry k at =
        let q = fraction_of (Of entry.1) in
        product_value D at (leaf at (symbol entry.0)) (number_at at 1) q (real (whole (pos 1))) (k.named at) (ap real (number_value at 1 (omega arith))) tt ∙
        ap real (times-one q) ∙ real-value entry.1 k.given ∙ k.same.0

    related : (entry : List ℕ × Tree) → IsKnown entry → IsRootOf f script point entry → EndsHold RangesOf (fraction_of (Of entry.1)) entry.1 →
        ArePartsSpelled Zero (loosened_transparent zero_fraction) (root_of f) D table entry.1 → RelationsHold D RangesOf table entry
    related (name, root at t) k r e s =
        let v = enclosed_holds bound script own point B f t k.given.fresh k.given.roots.0 in
        root_relations D RangesOf table name at t (f (fraction_of (Of t))) (Of t) k.named (s ∙ sym k.same.1) v.plain r.not_above r.not_below e
    related (name, quotient at t d) k r e s =
        let h = divided at t d k.given in
        let q = quotient_of (fraction_of (Of t)) (fraction_of (Of d)) in
        let is = ap fraction_of (step_real quotient_of (Of t) (Of d) h.dividend h.divisor) in
        let back = quotient_back (fraction_of (Of t)) (fraction_of (Of d)) h.not_nought in
        quotient_relations D RangesOf table name at t d q (Of t) (Of d) (λ p. k.named p ∙ ap real is)
        (s.0 ∙ sym k.same.1.0) h.dividend (s.1 ∙ sym k.same.1.1) h.divisor
        (at-most-equal (product_of q (fraction_of (Of d))) (fraction_of (Of t)) back)
        (at-most-equal (fraction_of (Of t)) (product_of q (fraction_of (Of d))) (≈_sym back))
        (subst (λ x. EndsHold RangesOf x (quotient at t d)) is e)
    related (name, atomic at l) k r e s = elim k.given.fresh [ ]
    related (name, applied at x ts) k r e s = elim k.given.fresh [ ]
    related (name, formless at) k r e s = elim k.given.fresh [ ]

-- ---- the whole script

valued : (D : Names Value) (name : List ℕ) (q : Fraction) → found name operators ≡ None → found name D ≡ Some (value (real q)) → IsValue D name q
valued D name q o h at = ap (λ p. name_meaning Zero D at name p) o ∙ ap (λ n. value_named Zero at name n) h

module _ (bound : Option ℕ) (script : List Command) (I : IsRewritable bound script) (f : Fraction → Fraction) (point : List Coordinate) (B : InDeclaredBox bound script point) (R : HasRoots f bound script point)
    (E : AllByRecursion (λ (entry : List ℕ × Tree). EndsHold (declared_ranges bound script) (value_at f script point entry.1) entry.1) (script_table bound script)) where
  abbrev T : IsTransparent Zero
  T = loosened_transparent zero_fraction

  abbrev Entries : Table
  Entries = script_table bound script

  abbrev Script : Names Value
  Script = constants_at [] (constants_of script) point

  abbrev Constants : List Value
  Constants = map coordinate_value point

  abbrev Fresh : List Value
  Fresh = map coordinate_value (map (fresh_value f script point) Entries)

  -- all constants with their values
  abbrev Everything : Names Value
  Everything = named Script (table_constants Entries) Fresh

  distinct : IsTrue (are_distinct (constants_of script ++ table_constants Entries))
  distinct = distinct_all (declared_ranges bound script) script Entries I.distinct

  many : AsMany (constants_of script) Constants
  many = box-as-many (declared_interval bound script) 0 (constants_of script) point B

  many-fresh : AsMany (table_constants Entries) Fresh
  many-fresh = constants-as-many Entries Fresh (fresh-as-many f script point Entries)

  as-named : named (named [] (constants_of script) Constants) (table_constants Entries) Fresh ≡ Everything
  as-named = ap (λ names. named names (table_constants Entries) Fresh) (sym (constants_named [] (constants_of script) point))

  all-known : AreKnown Everything (constants_of script) Constants × AreKnown Everything (table_constants Entries) Fresh
  all-known = known_parts Everything (constants_of script) (table_constants Entries) Constants Fresh many
      (subst (λ names. AreKnown names (constants_of script ++ table_constants Entries) (Constants ++ Fresh))
      (named_more [] (constants_of script) (table_constants Entries) Constants Fresh many ∙ as-named)
      (distinct_known [] (constants_of script ++ table_constants Entries) (Constants ++ Fresh) distinct
      (as_many_more (constants_of script) (table_constants Entries) Constants Fresh many many-fresh)))

  -- each fresh constant has its value
  abbrev HasValue : List ℕ × Tree → Type 0
  HasValue entry = IsValue Everything entry.0 (value_at f script point entry.1)

  each-valued : (part : Table) → AllByRecursion IsNoOperator part → AreKnown Everything (table_constants part) (map coordinate_value (map (fresh_value f script point) part)) → AllByRecursion HasValue part
  each-valued [] o h = tt
  each-valued (entry ∷ part) o h = (valued Everything entry.0 (value_at f script point entry.1) o.0 (h.0 o.0), each-valued part o.1 h.1)

  has-values : AllByRecursion HasValue Entries
  has-values = each-valued Entries (named-no-operator 0 0 (once [] (fresh_of (declared_ranges bound script) (asserted script)))) all-known.1

  abbrev Known : List ℕ × Tree → Type 0
  Known entry = IsKnown bound script (own_distinct bound script I) f point B Entries Everything entry

  all-entries-known : AllByRecursion Known Entries
  all-entries-known =
      let fresh = table_fresh bound script I.nothing_left_out in
      let roots = table_roots f bound script point R in
      let same = entries_same Zero (root_of f) Script Everything (declared_ranges bound script) script
      (later_same Script (constants_of script) (table_constants Entries) Fresh distinct) in
      all_weaken (λ (entry : List ℕ × Tree). ((IsFresh (declared_ranges bound script) entry.1 × RootsHold f Script entry.1) × HasValue entry) × WholeMeansSame Zero (root_of f) Script Everything entry.1) Known
      (λ entry h. record { given = record { fresh = h.0.0.0; roots = h.0.0.1 }; named = h.0.1; same = h.1 }) Entries
      (all-both _ _ Entries (all-both _ _ Entries (all-both _ _ Entries fresh roots) has-values) same)

  all-stand : AllByRecursion (StandsFor Zero T (root_of f) Everything) Entries
  all-stand = all_weaken Known (StandsFor Zero T (root_of f) Everything) (stands-for bound script (own_distinct bound script I) f point B Entries Everything) Entries all-entries-known

  all-related : AllByRecursion (RelationsHold Everything (declared_ranges bound script) Entries) Entries
  all-related =
      all_weaken (λ (entry : List ℕ × Tree). ((Known entry × IsRootOf f script point entry) × EndsHold (declared_ranges bound script) (value_at f script point entry.1) entry.1) ×
      ArePartsSpelled Zero T (root_of f) Everything Entries entry.1) (RelationsHold Everything (declared_ranges bound script) Entries)
      (λ entry h. related bound script (own_distinct bound script I) f point B Entries Everything entry h.0.0.0 h.0.0.1 h.0.1 h.1) Entries
      (all-both _ _ Entries (all-both _ _ Entries (all-both _ _ Entries all-entries-known R) E)
      (table_spelled Zero T (root_of f) Everything (declared_ranges bound script) (asserted script) all-stand))

  -- what the script's assertions mean
  abbrev Meant : List Value
  Meant = map (assertion_means Zero T (root_of f) Everything) (asserted script)

  script-means : claims Zero (with_root f) Constants script ≡ Meant
  script-means = claims_mean Zero T (root_of f) Everything (with_root f) theory_names (root_names_as f Everything) Constants script all-known.0

  abbrev Relations : List Value
  Relations = claims Zero Everything [] (claims_of_all (declared_ranges bound script) Entries Entries)

  rewritten-means : claims Zero [] (map coordinate_value (extended f bound script point)) (rewritten_by (declared_ranges bound script) Entries script) ≡ Relations ++ Meant
  rewritten-means =
      ap (λ vs. claims Zero [] vs (rewritten_by (declared_ranges bound script) Entries script)) (map-append coordinate_value point (map (fresh_value f script point) Entries)) ∙
      rewritten_claims Zero (declared_ranges bound script) Entries script Constants Fresh many (fresh-as-many f script point Entries) ∙
      ap (λ names. claims Zero names [] (claims_of_all (declared_ranges bound script) Entries Entries) ++ map (spelled_means Zero names Entries) (asserted script)) as-named ∙
      ap (λ vs. Relations ++ vs) (assertions_spelled Zero T (root_of f) Everything (declared_ranges bound script) (asserted script) all-stand)

  abbrev AllHold : List Value → Type 0
  AllHold vs = AllByRecursion Holds (map pair_of vs)

  with-relations : AllHold Meant → AllHold (Relations ++ Meant)
  with-relations h = subst (λ ts. AllByRecursion Holds ts) (sym (map-append pair_of Relations Meant))
      (all_join Holds (map pair_of Relations) (map pair_of Meant) (relations_hold Everything (declared_ranges bound script) Entries Entries all-related) h)

  without-relations : AllHold (Relations ++ Meant) → AllHold Meant
  without-relations h = (all_split Holds (map pair_of Relations) (map pair_of Meant) (subst (λ ts. AllByRecursion Holds ts) (map-append pair_of Relations Meant) h)).1

  -- where constants stand for roots and quotients
  with-constants : Satisfies zero_fraction (extended f bound script point) (rewritten_by (declared_ranges bound script) Entries script) ↔ SatisfiesWith f zero_fraction point script
  with-constants = (
    λ h. subst AllHold (sym script-means) (without-relations (subst AllHold rewritten-means h)),
    λ h. subst AllHold (sym rewritten-means) (with-relations (subst AllHold script-means h)),
  )

  -- ---- a script without roots and quotients

  abbrev Nought : Value → Value
  Nought v = real zero_fraction

  covered-by : (table : Table) → Entries ≡ table → AllByRecursion (λ (a : Asserted). AllByRecursion (HasEntry table) (fresh_in (declared_ranges bound script) a.tree)) (asserted script)
  covered-by table e = subst (λ t. AllByRecursion (λ (a : Asserted). AllByRecursion (HasEntry t) (fresh_in (declared_ranges bound script) a.tree)) (asserted script)) e
      (fresh_each (HasEntry Entries) (declared_ranges bound script) (asserted script) (fresh_covered (declared_ranges bound script) (asserted script)))

  -- it means the same whatever `sqrt` stands for
  nothing-meant : Entries ≡ [] → claims Zero [] Constants script ≡ Meant
  nothing-meant e =
      let h = covered-by [] e in
      claims_mean Zero T Nought Everything [] theory_names (no_names_as Everything) Constants script all-known.0 ∙
      sym (each_spelled Zero T Nought Everything (declared_ranges bound script) [] tt (asserted script) h) ∙
      each_spelled Zero T (root_of f) Everything (declared_ranges bound script) [] tt (asserted script) h

  same-point : Entries ≡ [] → extended f bound script point ≡ point
  same-point e = ap (λ table. point ++ map (fresh_value f script point) table) e ∙ append-nil point

  without-constants : Entries ≡ [] → Satisfies zero_fraction (extended f bound script point) script ↔ SatisfiesWith f zero_fraction point script
  without-constants e =
      let is = ap (λ p. claims Zero [] (map coordinate_value p) script) (same-point e) ∙ nothing-meant e ∙ sym script-means in
      (λ h. subst AllHold is h, λ h. subst AllHold (sym is) h)

  either-way : (table : Table) → Entries ≡ table →
      Satisfies zero_fraction (extended f bound script point) (unless_empty table script (rewritten_by (declared_ranges bound script) Entries script)) ↔ SatisfiesWith f zero_fraction point script
  either-way [] e = without-constants e
  either-way (entry ∷ table) e = with-constants

  -- the rewritten script holds at the extended point where the script holds at the point
  pub rewritten_means : Satisfies zero_fraction (extended f bound script point) (rewritten bound script) ↔ SatisfiesWith f zero_fraction point script
  rewritten_means = either-way Entries refl
