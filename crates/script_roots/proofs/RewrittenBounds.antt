-- The bounds of a rewritten script are those of the fresh constants and those of the script.
use Rattle.std.proofs.Common.{◌≡◌, ℕ, suc, ◌+◌, List, [], ◌∷◌, ◌++◌, map, length, Bool, true, false, cond, not, ◌&&◌, Some, None, IsTrue, bytes_eq, refl, ap, ap₂, sym, ◌∙◌, subst, append_assoc, arith, true≢false}
use Rattle.std.specs.List.{AllByRecursion}
use Rattle.dyadic.specs.Point.{Sort}
use Rattle.script_model.specs.Sexp.{Place}
use Rattle.script_model.specs.Reading.{Names, malformed}
use Rattle.script_model.specs.Script.{Command, Constant, constants_of, sort_of_constant, claims}
use Rattle.script_model.specs.Declared.{Bound, Bounding, bounds_in, bounding, constant_bounding, numbered, script_bounds}
use Rattle.script_roots.specs.Tree as tree
use Rattle.script_roots.specs.Tree.{Tree, atomic, applied, root, quotient, formless, sqrt_name, sqrt_tree, theory_names, is_number, holds_choice, holds_root}
use Rattle.script_roots.specs.Ranges.{Ranges, avoids_nought, enclosed}
use Rattle.script_roots.specs.Fresh.{asserted, fresh_of, once, Table, table_of}
use Rattle.script_roots.specs.Rewritten.{claims_of_all, rewritten_by}
use Rattle.script_roots.specs.Laws.{are_distinct, tree_meaning}
use Rattle.script_roots.proofs.Plain.{AreKnown, IsAsFound, AreAs, claims_mean}
use Rattle.script_roots.proofs.Transparent.{bounding_transparent}
use Rattle.script_roots.proofs.Constants.{AsMany, as_many_more, named, named_more, distinct_known, known_parts, table_constants, rewritten_constants, all_named, spelled_means, rewritten_claims}
use Rattle.script_roots.proofs.Spelled.{StandsFor, assertions_spelled}
use Rattle.script_roots.proofs.Table.{IsFresh}
use Rattle.script_roots.proofs.FreshBounds.{bounds_of, fresh_bounds, in_place, ArePlaced, fresh_claims_bound, NoOperators, no_operators}
use Rattle.script_roots.proofs.Unknown.{no_root, NoneKnown, quotient_is_other, constants_not_known}

-- ---- lists

bounds-join : (xs ys : List Bounding) → bounds_of (xs ++ ys) ≡ bounds_of xs ++ bounds_of ys
bounds-join [] ys = refl
bounds-join (x ∷ xs) ys = ap (λ (bs : List Bound). bounds_in x ++ bs) (bounds-join xs ys) ∙ sym (append_assoc (bounds_in x) (bounds_of xs) (bounds_of ys))

pub sorts_more : (cs ds : List Constant) → map sort_of_constant (cs ++ ds) ≡ map sort_of_constant cs ++ map sort_of_constant ds
sorts_more [] ds = refl
sorts_more (c ∷ cs) ds = ap (λ (ss : List Sort). c.sort ∷ ss) (sorts_more cs ds)

numbered-more : (axis m : ℕ) (cs ds : List Constant) → m ≡ axis + length cs →
    numbered constant_bounding axis (map sort_of_constant (cs ++ ds)) ≡ numbered constant_bounding axis (map sort_of_constant cs) ++ numbered constant_bounding m (map sort_of_constant ds)
numbered-more axis m [] ds h = ap (λ (k : ℕ). numbered constant_bounding k (map sort_of_constant ds)) (let e : axis ≡ m = omega arith in e)
numbered-more axis m (c ∷ cs) ds h = ap (λ (bs : List Bounding). constant_bounding axis c.sort ∷ bs) (numbered-more (suc axis) m cs ds (omega arith))

pub as_many : (axis : ℕ) (cs : List Constant) → AsMany cs (numbered constant_bounding axis (map sort_of_constant cs))
as_many axis [] = tt
as_many axis (c ∷ cs) = as_many (suc axis) cs

as-many-fresh : (axis : ℕ) (table : Table) → AsMany table (numbered constant_bounding axis (map sort_of_constant (table_constants table)))
as-many-fresh axis [] = tt
as-many-fresh axis (entry ∷ table) = as-many-fresh (suc axis) table

-- ---- names

sqrt-gives : (C : Names Bounding) (place : Place) (ts : List Tree) → bounding.nothing place malformed ≡ tree_meaning bounding no_root C (sqrt_tree place ts)
sqrt-gives C place [] = refl
sqrt-gives C place (t ∷ []) = refl
sqrt-gives C place (t ∷ u ∷ ts) = refl

sqrt-as : (C : Names Bounding) (b : Bool) → IsAsFound bounding bounding_transparent no_root C None (cond b (Some (tree.function sqrt_tree)) None)
sqrt-as C false = tt
sqrt-as C true = sqrt-gives C

pub theory_as : (C : Names Bounding) → AreAs bounding bounding_transparent no_root C [] theory_names
theory_as C x o = sqrt-as C (bytes_eq x sqrt_name)

placed : (C : Names Bounding) (axis : ℕ) (table : Table) → NoOperators table → AreKnown C (table_constants table) (numbered constant_bounding axis (map sort_of_constant (table_constants table))) → ArePlaced C axis table
placed C axis [] n k = tt
placed C axis (entry ∷ table) n k = (n.0, k.0 n.0, placed C (suc axis) table n.1 k.1)

-- ---- fresh constants

first-of-five : (a b c d e : Bool) → IsTrue (not a && b && c && d && e) → a ≡ false
first-of-five true b c d e h = absurd (true≢false (sym h))
first-of-five false b c d e h = refl

stands-for : (C : Names Bounding) → NoneKnown C → (ranges : Ranges) (axis : ℕ) (table : Table) → ArePlaced C axis table → AllByRecursion (λ (entry : List ℕ × Tree). IsFresh ranges entry.1) table →
    AllByRecursion (StandsFor bounding bounding_transparent no_root C) table
stands-for C g ranges axis [] h f = tt
stands-for C g ranges axis ((name, root at t) ∷ table) h f = (λ place. in_place C name axis h.0 h.1 place, stands-for C g ranges (suc axis) table h.2 f.1)
stands-for C g ranges axis ((name, quotient at t d) ∷ table) h f = (
  λ place. in_place C name axis h.0 h.1 place ∙ sym (quotient_is_other C g at t d (first-of-five (is_number d) (not (holds_choice t)) (not (holds_choice d)) (not (holds_root d)) (avoids_nought (enclosed ranges d)) f.0)),
  stands-for C g ranges (suc axis) table h.2 f.1,
)
stands-for C g ranges axis ((name, atomic at l) ∷ table) h f = elim f.0 [ ]
stands-for C g ranges axis ((name, applied at x ts) ∷ table) h f = elim f.0 [ ]
stands-for C g ranges axis ((name, formless at) ∷ table) h f = elim f.0 [ ]

module _ (ranges : Ranges) (script : List Command) where
  abbrev Entries : Table
  Entries = table_of ranges (asserted script)

  abbrev Own : List Bounding
  Own = numbered constant_bounding 0 (map sort_of_constant (constants_of script))

  abbrev Count : ℕ
  Count = length (constants_of script)

  abbrev Fresh : List Bounding
  Fresh = numbered constant_bounding Count (map sort_of_constant (table_constants Entries))

  abbrev All : Names Bounding
  All = all_named bounding Entries script Own Fresh

  all-none-known : NoneKnown All
  all-none-known = constants_not_known (named [] (constants_of script) Own) (constants_not_known [] tt 0 (constants_of script)) Count (table_constants Entries)

  module _ (distinct : IsTrue (are_distinct (constants_of script ++ table_constants Entries))) (fresh : AllByRecursion (λ (entry : List ℕ × Tree). IsFresh ranges entry.1) Entries) where
    known-all : AreKnown All (constants_of script) Own × AreKnown All (table_constants Entries) Fresh
    known-all = known_parts All (constants_of script) (table_constants Entries) Own Fresh (as_many 0 (constants_of script))
        (subst (λ (C : Names Bounding). AreKnown C (constants_of script ++ table_constants Entries) (Own ++ Fresh))
        (named_more [] (constants_of script) (table_constants Entries) Own Fresh (as_many 0 (constants_of script)))
        (distinct_known [] (constants_of script ++ table_constants Entries) (Own ++ Fresh) distinct
        (as_many_more (constants_of script) (table_constants Entries) Own Fresh (as_many 0 (constants_of script)) (as_many Count (table_constants Entries)))))

    all-placed : ArePlaced All Count Entries
    all-placed = placed All Count Entries (no_operators 0 0 (once [] (fresh_of ranges (asserted script)))) known-all.1

    -- what the assertions are to the declared box
    own-bounds : bounds_of (map (spelled_means bounding All Entries) (asserted script)) ≡ script_bounds script
    own-bounds = ap bounds_of
        (assertions_spelled bounding bounding_transparent no_root All ranges (asserted script) (stands-for All all-none-known ranges Count Entries all-placed fresh)
        ∙ sym (claims_mean bounding bounding_transparent no_root All [] theory_names (theory_as All) Own script known-all.0))

    pub rewritten_bounds : script_bounds (rewritten_by ranges (table_of ranges (asserted script)) script) ≡ fresh_bounds ranges (length (constants_of script)) (table_of ranges (asserted script)) ++ script_bounds script
    rewritten_bounds =
        let r = rewritten_by ranges Entries script in
        ap (λ (cs : List Constant). bounds_of (claims bounding [] (numbered constant_bounding 0 (map sort_of_constant cs)) r)) (rewritten_constants ranges Entries script)
        ∙ ap (λ (bs : List Bounding). bounds_of (claims bounding [] bs r)) (numbered-more 0 Count (constants_of script) (table_constants Entries) (omega arith))
        ∙ ap bounds_of (rewritten_claims bounding ranges Entries script Own Fresh (as_many 0 (constants_of script)) (as-many-fresh Count Entries))
        ∙ bounds-join (claims bounding All [] (claims_of_all ranges Entries Entries)) (map (spelled_means bounding All Entries) (asserted script))
        ∙ ap₂ (λ (xs ys : List Bound). xs ++ ys) (fresh_claims_bound All ranges Entries Count Entries all-placed) own-bounds
