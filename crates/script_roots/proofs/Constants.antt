-- Declared constants as names, and the assertions of a rewritten script.
use Rattle.std.proofs.Common.{◌≡◌, ℕ, List, [], ◌∷◌, ◌++◌, map, Bool, true, false, not, cond, IsTrue, Option, Some, bytes_eq, refl, ap, sym, ◌∙◌, subst, true≢false, append_assoc}
use Rattle.std.proofs.lemmas.List.{append-nil}
use Rattle.dyadic.specs.Point.{Coordinate, real_sort}
use Rattle.dyadic.proofs.Equal.{both_true, both_pass}
use Rattle.interval_model.specs.Interval.{Interval, nothing, between}
use Rattle.script_model.specs.Sexp.{Place, Sexp}
use Rattle.script_model.specs.Reading.{Meanings, Names, value, found, meaning}
use Rattle.script_model.specs.Meaning.{Value, coordinate_value}
use Rattle.script_model.specs.Script.{Command, declare, define, claim, minimize, check, ineffective, Constant, constants_of, claims, goal_claim}
use Rattle.script_roots.specs.Tree.{Tree, atomic, applied, root, quotient, formless}
use Rattle.script_roots.specs.Ranges.{Ranges, enclosed, quotient_range}
use Rattle.script_roots.specs.Fresh.{Asserted, asserted, Table}
use Rattle.script_roots.specs.TreeBounds.{declared_ranges}
use Rattle.script_roots.specs.Rewritten.{declarations, declaration, place_of_tree, claims_of, claims_of_all, between_ends, assertion, rewritten_by, spelled, unless_empty, script_table}
use Rattle.script_roots.specs.Laws.{constants_at, is_among, are_distinct, IsRewritable}
use Rattle.script_roots.proofs.Plain.{AreKnown, itself, same_name, goal_means, asserted_means}

-- ---- lists of one length

abbrev pub AsMany : {A B : Type 0} → List A → List B → Type 0
AsMany [] [] = Unit {0}
AsMany (x ∷ xs) (y ∷ ys) = AsMany xs ys
AsMany _ _ = ⊥

pub as_many_more : {A B : Type 0} (xs ys : List A) (us vs : List B) → AsMany xs us → AsMany ys vs → AsMany (xs ++ ys) (us ++ vs)
as_many_more [] ys [] vs h k = k
as_many_more (x ∷ xs) ys (u ∷ us) vs h k = as_many_more xs ys us vs h k
as_many_more [] ys (u ∷ us) vs h k = elim h [ ]
as_many_more (x ∷ xs) ys [] vs h k = elim h [ ]

-- ---- names

pub not_true : (b : Bool) → IsTrue (not b) → b ≡ false
not_true false h = refl
not_true true h = absurd (true≢false (sym h))

first-other : (b c : Bool) → cond b true c ≡ false → (b ≡ false) × (c ≡ false)
first-other true c h = absurd (true≢false h)
first-other false c h = (refl, h)

-- constants with their values, the nearest first
abbrev pub named : {V : Type 0} → Names V → List Constant → List V → Names V
named names (c ∷ constants) (v ∷ vs) = named ((c.name, value v) ∷ names) constants vs
named names constants vs = names

module _ {V : Type 0} where
  pub named_more : (names : Names V) (cs ds : List Constant) (vs ws : List V) → AsMany cs vs → named names (cs ++ ds) (vs ++ ws) ≡ named (named names cs vs) ds ws
  named_more names [] ds [] ws h = refl
  named_more names (c ∷ cs) ds (v ∷ vs) ws h = named_more ((c.name, value v) ∷ names) cs ds vs ws h
  named_more names [] ds (v ∷ vs) ws h = elim h [ ]
  named_more names (c ∷ cs) ds [] ws h = elim h [ ]

  -- constants declared later hide no other name
  pub found_before : (x : List ℕ) (names : Names V) (cs : List Constant) (vs : List V) → is_among x cs ≡ false → found x (named names cs vs) ≡ found x names
  found_before x names [] vs h = refl
  found_before x names (c ∷ cs) [] h = refl
  found_before x names (c ∷ cs) (v ∷ vs) h =
      let k = first-other (bytes_eq x c.name) (is_among x cs) h in
      found_before x ((c.name, value v) ∷ names) cs vs k.1 ∙ ap (λ b. cond b (Some (value v)) (found x names)) k.0

  -- each of distinct constants has its value
  pub distinct_known : (names : Names V) (cs : List Constant) (vs : List V) → IsTrue (are_distinct cs) → AsMany cs vs → AreKnown (named names cs vs) cs vs
  distinct_known names [] vs d h = tt
  distinct_known names (c ∷ cs) (v ∷ vs) d h =
      let k = both_true (not (is_among c.name cs)) (are_distinct cs) d in (
        (λ o. found_before c.name ((c.name, value v) ∷ names) cs vs (not_true (is_among c.name cs) k.0) ∙ ap (λ b. cond b (Some (value v)) (found c.name names)) (itself c.name)),
        distinct_known ((c.name, value v) ∷ names) cs vs k.1 h,
      )
  distinct_known names (c ∷ cs) [] d h = elim h [ ]

  pub known_parts : (C : Names V) (cs ds : List Constant) (vs ws : List V) → AsMany cs vs → AreKnown C (cs ++ ds) (vs ++ ws) → AreKnown C cs vs × AreKnown C ds ws
  known_parts C [] ds [] ws h k = (tt, k)
  known_parts C (c ∷ cs) ds (v ∷ vs) ws h k = let r = known_parts C cs ds vs ws h k.1 in ((k.0, r.0), r.1)
  known_parts C [] ds (v ∷ vs) ws h k = elim h [ ]
  known_parts C (c ∷ cs) ds [] ws h k = elim h [ ]

pub constants_named : (names : Names Value) (cs : List Constant) (point : List Coordinate) → constants_at names cs point ≡ named names cs (map coordinate_value point)
constants_named names [] [] = refl
constants_named names [] (x ∷ point) = refl
constants_named names (c ∷ cs) [] = refl
constants_named names (c ∷ cs) (x ∷ point) = constants_named ((c.name, value (coordinate_value x)) ∷ names) cs point

neither : (b c : Bool) → IsTrue (not (cond b true c)) → (b ≡ false) × IsTrue (not c)
neither true c h = absurd (true≢false (sym h))
neither false c h = (refl, h)

not-either : (b c : Bool) → b ≡ false → IsTrue (not c) → IsTrue (not (cond b true c))
not-either true c e h = absurd (true≢false e)
not-either false c e h = h

among-first : (x : List ℕ) (cs ds : List Constant) → IsTrue (not (is_among x (cs ++ ds))) → IsTrue (not (is_among x cs))
among-first x [] ds h = refl
among-first x (c ∷ cs) ds h =
    let k = neither (bytes_eq x c.name) (is_among x (cs ++ ds)) h in
    not-either (bytes_eq x c.name) (is_among x cs) k.0 (among-first x cs ds k.1)

among-last : (x : List ℕ) (cs ds : List Constant) → IsTrue (not (is_among x (cs ++ ds))) → is_among x ds ≡ false
among-last x [] ds h = not_true (is_among x ds) h
among-last x (c ∷ cs) ds h = among-last x cs ds (neither (bytes_eq x c.name) (is_among x (cs ++ ds)) h).1

-- the first ones of distinct constants are distinct
pub distinct_first : (cs ds : List Constant) → IsTrue (are_distinct (cs ++ ds)) → IsTrue (are_distinct cs)
distinct_first [] ds h = refl
distinct_first (c ∷ cs) ds h =
    let k = both_true (not (is_among c.name (cs ++ ds))) (are_distinct (cs ++ ds)) h in
    both_pass (not (is_among c.name cs)) (are_distinct cs) (among-first c.name cs ds k.0) (distinct_first cs ds k.1)

apart : (x : List ℕ) (b : Bool) (c : Constant) (cs ds : List Constant) → bytes_eq x c.name ≡ b → IsTrue (not (is_among c.name (cs ++ ds))) →
    (is_among x cs ≡ true → is_among x ds ≡ false) → cond b true (is_among x cs) ≡ true → is_among x ds ≡ false
apart x true c cs ds e h f k = among-last x cs ds (subst (λ z. IsTrue (not (is_among z (cs ++ ds)))) (sym (same_name x c.name e)) h)
apart x false c cs ds e h f k = f k

-- no later one of distinct constants has the name of an earlier one
pub distinct_apart : (x : List ℕ) (cs ds : List Constant) → IsTrue (are_distinct (cs ++ ds)) → is_among x cs ≡ true → is_among x ds ≡ false
distinct_apart x [] ds h k = absurd (true≢false (sym k))
distinct_apart x (c ∷ cs) ds h k =
    let p = both_true (not (is_among c.name (cs ++ ds))) (are_distinct (cs ++ ds)) h in
    apart x (bytes_eq x c.name) c cs ds refl p.0 (distinct_apart x cs ds p.1) k

-- ---- the assertions of a rewritten script

abbrev pub table_constant : List ℕ × Tree → Constant
table_constant entry = record { at = place_of_tree entry.1; name = entry.0; sort = real_sort }

abbrev pub table_constants : Table → List Constant
table_constants table = map table_constant table

-- commands that assert, or name a goal
abbrev pub OnlyClaims : List Command → Type 0
OnlyClaims [] = Unit {0}
OnlyClaims (claim at e ∷ rest) = OnlyClaims rest
OnlyClaims (minimize at t ∷ rest) = OnlyClaims rest
OnlyClaims (_ ∷ rest) = ⊥

pub only_more : (xs ys : List Command) → OnlyClaims xs → OnlyClaims ys → OnlyClaims (xs ++ ys)
only_more [] ys h k = k
only_more (claim at e ∷ xs) ys h k = only_more xs ys h k
only_more (minimize at t ∷ xs) ys h k = only_more xs ys h k
only_more (declare at x s ∷ xs) ys h k = elim h [ ]
only_more (define at f params s body ∷ xs) ys h k = elim h [ ]
only_more (check at ∷ xs) ys h k = elim h [ ]
only_more (ineffective at ∷ xs) ys h k = elim h [ ]

pub only_ends : (at : Place) (c : Sexp) (i : Interval) → OnlyClaims (between_ends at c i)
only_ends at c nothing = tt
only_ends at c (between l h) = tt

pub only_of : (ranges : Ranges) (table : Table) (name : List ℕ) (t : Tree) → OnlyClaims (claims_of ranges table name t)
only_of ranges table name (root at t) = tt
only_of ranges table name (quotient at t d) = only_more (between_ends at _ (quotient_range (enclosed ranges t) (enclosed ranges d))) _
    (only_ends at _ (quotient_range (enclosed ranges t) (enclosed ranges d))) tt
only_of ranges table name (atomic at l) = tt
only_of ranges table name (applied at f ts) = tt
only_of ranges table name (formless at) = tt

pub only_relations : (ranges : Ranges) (table part : Table) → OnlyClaims (claims_of_all ranges table part)
only_relations ranges table [] = tt
only_relations ranges table (entry ∷ rest) = only_more (claims_of ranges table entry.0 entry.1) (claims_of_all ranges table rest)
    (only_of ranges table entry.0 entry.1) (only_relations ranges table rest)

only-one : (table : Table) (b : Bool) (at : Place) (e : Sexp) (rest : List Command) → OnlyClaims rest → OnlyClaims (cond b (minimize at e) (claim at e) ∷ rest)
only-one table true at e rest h = h
only-one table false at e rest h = h

pub only_assertions : (table : Table) (asked : List Asserted) → OnlyClaims (map (assertion table) asked)
only_assertions table [] = tt
only_assertions table (a ∷ rest) = only-one table a.is_goal a.at (spelled table a.tree) (map (assertion table) rest) (only_assertions table rest)

only-no-constants : (xs : List Command) → OnlyClaims xs → constants_of xs ≡ []
only-no-constants [] h = refl
only-no-constants (claim at e ∷ xs) h = only-no-constants xs h
only-no-constants (minimize at t ∷ xs) h = only-no-constants xs h
only-no-constants (declare at x s ∷ xs) h = elim h [ ]
only-no-constants (define at f params s body ∷ xs) h = elim h [ ]
only-no-constants (check at ∷ xs) h = elim h [ ]
only-no-constants (ineffective at ∷ xs) h = elim h [ ]

declared-constants : (script rest : List Command) → constants_of (declarations script ++ rest) ≡ constants_of script ++ constants_of rest
declared-constants [] rest = refl
declared-constants (declare at x s ∷ script) rest = ap (λ cs. record { at = at; name = x; sort = s } ∷ cs) (declared-constants script rest)
declared-constants (define at f params s body ∷ script) rest = declared-constants script rest
declared-constants (claim at e ∷ script) rest = declared-constants script rest
declared-constants (minimize at t ∷ script) rest = declared-constants script rest
declared-constants (check at ∷ script) rest = declared-constants script rest
declared-constants (ineffective at ∷ script) rest = declared-constants script rest

fresh-constants : (table : Table) (rest : List Command) → constants_of rest ≡ [] → constants_of (map declaration table ++ rest) ≡ table_constants table
fresh-constants [] rest h = h
fresh-constants (entry ∷ table) rest h = ap (λ cs. table_constant entry ∷ cs) (fresh-constants table rest h)

-- what is asserted in a rewritten script
abbrev pub all_claims : Ranges → Table → List Command → List Command
all_claims ranges table script = claims_of_all ranges table table ++ map (assertion table) (asserted script)

only_all : (ranges : Ranges) (table : Table) (script : List Command) → OnlyClaims (all_claims ranges table script)
only_all ranges table script = only_more (claims_of_all ranges table table) (map (assertion table) (asserted script)) (only_relations ranges table table) (only_assertions table (asserted script))

pub rewritten_parts : (ranges : Ranges) (table : Table) (script : List Command) →
    rewritten_by ranges table script ≡ declarations script ++ (map declaration table ++ all_claims ranges table script)
rewritten_parts ranges table script =
    append_assoc (declarations script ++ map declaration table) (claims_of_all ranges table table) (map (assertion table) (asserted script)) ∙
    append_assoc (declarations script) (map declaration table) (all_claims ranges table script)

-- the constants of a rewritten script are the script's, and then the fresh ones
pub rewritten_constants : (ranges : Ranges) (table : Table) (script : List Command) → constants_of (rewritten_by ranges table script) ≡ constants_of script ++ table_constants table
rewritten_constants ranges table script =
    ap constants_of (rewritten_parts ranges table script) ∙
    declared-constants script (map declaration table ++ all_claims ranges table script) ∙
    ap (λ cs. constants_of script ++ cs) (fresh-constants table (all_claims ranges table script) (only-no-constants (all_claims ranges table script) (only_all ranges table script)))

-- the constants of a rewritten script are distinct, whether or not it stays as it is
pub distinct_all : (ranges : Ranges) (script : List Command) (table : Table) → IsTrue (are_distinct (constants_of (unless_empty table script (rewritten_by ranges table script)))) →
    IsTrue (are_distinct (constants_of script ++ table_constants table))
distinct_all ranges script [] h = subst (λ cs. IsTrue (are_distinct cs)) (sym (append-nil (constants_of script))) h
distinct_all ranges script (entry ∷ table) h = subst (λ cs. IsTrue (are_distinct cs)) (rewritten_constants ranges (entry ∷ table) script) h

-- and so are those of the script
pub own_distinct : (bound : Option ℕ) (script : List Command) → IsRewritable bound script → IsTrue (are_distinct (constants_of script))
own_distinct bound script w =
    distinct_first (constants_of script) (table_constants (script_table bound script)) (distinct_all (declared_ranges bound script) script (script_table bound script) w.distinct)

module _ {V : Type 0} (M : Meanings V) where
  declared-claims : (names : Names V) (vs ws : List V) (script rest : List Command) → AsMany (constants_of script) vs →
      claims M names (vs ++ ws) (declarations script ++ rest) ≡ claims M (named names (constants_of script) vs) ws rest
  declared-claims names [] ws [] rest h = refl
  declared-claims names (v ∷ vs) ws (declare at x s ∷ script) rest h = declared-claims ((x, value v) ∷ names) vs ws script rest h
  declared-claims names vs ws (define at f params s body ∷ script) rest h = declared-claims names vs ws script rest h
  declared-claims names vs ws (claim at e ∷ script) rest h = declared-claims names vs ws script rest h
  declared-claims names vs ws (minimize at t ∷ script) rest h = declared-claims names vs ws script rest h
  declared-claims names vs ws (check at ∷ script) rest h = declared-claims names vs ws script rest h
  declared-claims names vs ws (ineffective at ∷ script) rest h = declared-claims names vs ws script rest h
  declared-claims names (v ∷ vs) ws [] rest h = elim h [ ]
  declared-claims names [] ws (declare at x s ∷ script) rest h = elim h [ ]

  fresh-claims : (names : Names V) (ws : List V) (table : Table) (rest : List Command) → AsMany table ws →
      claims M names ws (map declaration table ++ rest) ≡ claims M (named names (table_constants table) ws) [] rest
  fresh-claims names [] [] rest h = refl
  fresh-claims names (w ∷ ws) (entry ∷ table) rest h = fresh-claims ((entry.0, value w) ∷ names) ws table rest h
  fresh-claims names (w ∷ ws) [] rest h = elim h [ ]
  fresh-claims names [] (entry ∷ table) rest h = elim h [ ]

  pub claims_more : (names : Names V) (vs : List V) (xs ys : List Command) → OnlyClaims xs → claims M names vs (xs ++ ys) ≡ claims M names vs xs ++ claims M names vs ys
  claims_more names vs [] ys h = refl
  claims_more names vs (claim at e ∷ xs) ys h = ap (λ us. meaning M names e ∷ us) (claims_more names vs xs ys h)
  claims_more names vs (minimize at t ∷ xs) ys h = ap (λ us. meaning M names (goal_claim at t) ∷ us) (claims_more names vs xs ys h)
  claims_more names vs (declare at x s ∷ xs) ys h = elim h [ ]
  claims_more names vs (define at f params s body ∷ xs) ys h = elim h [ ]
  claims_more names vs (check at ∷ xs) ys h = elim h [ ]
  claims_more names vs (ineffective at ∷ xs) ys h = elim h [ ]

  -- the names of a rewritten script's assertions: constants have the values vs, fresh ones the values ws
  abbrev pub all_named : Table → List Command → List V → List V → Names V
  all_named table script vs ws = named (named [] (constants_of script) vs) (table_constants table) ws

  abbrev pub spelled_means : (names : Names V) (table : Table) → Asserted → V
  spelled_means names table a = asserted_means M a (meaning M names (spelled table a.tree))

  one-claim : (names : Names V) (b : Bool) (at : Place) (e : Sexp) (rest : List Command) →
      claims M names [] (cond b (minimize at e) (claim at e) ∷ rest) ≡ cond b (goal_means M at (meaning M names e)) (meaning M names e) ∷ claims M names [] rest
  one-claim names true at e rest = refl
  one-claim names false at e rest = refl

  assertion-claims : (names : Names V) (table : Table) (asked : List Asserted) → claims M names [] (map (assertion table) asked) ≡ map (spelled_means names table) asked
  assertion-claims names table [] = refl
  assertion-claims names table (a ∷ rest) =
      one-claim names a.is_goal a.at (spelled table a.tree) (map (assertion table) rest) ∙
      ap (λ us. spelled_means names table a ∷ us) (assertion-claims names table rest)

  -- what a rewritten script asserts: the relations of the fresh constants, and then the assertions
  pub rewritten_claims : (ranges : Ranges) (table : Table) (script : List Command) (vs ws : List V) → AsMany (constants_of script) vs → AsMany table ws →
      claims M [] (vs ++ ws) (rewritten_by ranges table script) ≡
      claims M (all_named table script vs ws) [] (claims_of_all ranges table table) ++ map (spelled_means (all_named table script vs ws) table) (asserted script)
  rewritten_claims ranges table script vs ws h k =
      ap (λ r. claims M [] (vs ++ ws) r) (rewritten_parts ranges table script) ∙
      declared-claims [] vs ws script (map declaration table ++ all_claims ranges table script) h ∙
      fresh-claims (named [] (constants_of script) vs) ws table (all_claims ranges table script) k ∙
      claims_more (all_named table script vs ws) [] (claims_of_all ranges table table) (map (assertion table) (asserted script)) (only_relations ranges table table) ∙
      ap (λ us. claims M (all_named table script vs ws) [] (claims_of_all ranges table table) ++ us) (assertion-claims (all_named table script vs ws) table (asserted script))
