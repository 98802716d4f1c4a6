-- Expressions as beads: what is seen at a place, and what reading adds.
use Rattle.std.proofs.Common.{◌≡◌, ℕ, zero, suc, ◌+◌, ◌-◌, ◌<◌, ◌≤◌, false, List, [], ◌∷◌, ◌++◌, refl, ap, sym, ◌∙◌, arith, length, get_or, set, drop, append_assoc, length-append}
use Rattle.std.specs.Prelude.{map}
use Rattle.std.proofs.lemmas.List.{append-nil, map-append, map-set, length-map, set_at, drop_at, get_or_past, same_from_push, length_push}
use Rattle.script_model.specs.Sexp.{Place, numeral, decimal, symbol, reserved, string, keyword, Sexp, leaf, group, Sexps, none, more}
use Rattle.smt_sexp.specs.Arena.{Bead, open_bead, leaf_bead, shut_bead, bead_of, entry, table, items_at, listed}
use Rattle.smt_sexp.specs.Building.{flat, flats, flat_back, spelled, starts, group_of, is_exit_inside, opened_of}
use Rattle.smt_sexp.specs.Lexicon.{Unclosed, backwards, is_exit, put, list_of}
use Rattle.smt_sexp.specs.Views.{place_of, leaf_of}
use Rattle.smt_sexp.specs.declared.sexps.Node.{Node}
use Rattle.smt_sexp.specs.declared.sexps.Node.TheVariants as nodes
use Rattle.smt_sexp.specs.declared.leaf.Leaf as code
use Rattle.script_fault.specs.declared.place.Place as places
use Rattle.smt_sexp.specs.declared.building.Opened.{Opened}

-- ---- a place

pub table_drop : (bs : List Bead) (k j : ℕ) → get_or (table (drop k bs)) j none ≡ get_or (table bs) (k + j) none
table_drop bs zero j = let e : j ≡ 0 + j = omega arith in ap (λ n. get_or (table bs) n none) e
table_drop [] (suc k) j = refl
table_drop (b ∷ bs) (suc k) j =
    let e : suc (k + j) ≡ suc k + j = omega arith in
    table_drop bs k j ∙ ap (λ n. get_or (table (b ∷ bs)) n none) e

-- what is left from a node on
entry_at : (xs : List Node) (at : ℕ) (x : Node) → at < length xs → x ≡ get_or xs at x → get_or (table (map bead_of xs)) at none ≡ entry (bead_of x) (table (drop (suc at) (map bead_of xs)))
entry_at [] at x lt e = absurd (omega arith)
entry_at (y ∷ xs) zero x lt e = ap (λ z. entry (bead_of z) (table (map bead_of xs))) (sym e)
entry_at (y ∷ xs) (suc at) x lt e = entry_at xs at x (omega arith) e

later : (bs : List Bead) (at j n : ℕ) → at + 1 + j ≡ n → get_or (table (drop (suc at) bs)) j none ≡ items_at bs n
unfolding items_at
later bs at j n e = let same : suc at + j ≡ n = omega arith in table_drop bs (suc at) j ∙ ap (λ m. get_or (table bs) m none) same

length_table : (bs : List Bead) → length (table bs) ≡ length bs
length_table [] = refl
length_table (b ∷ bs) = ap suc (length_table bs)

pub items_past : (xs : List Node) (at : ℕ) → length xs ≤ at → items_at (map bead_of xs) at ≡ none
unfolding items_at
items_past xs at h = get_or_past (table (map bead_of xs)) at none (omega (arith, length_table (map bead_of xs), length-map xs bead_of))

at_node : (xs : List Node) (at : ℕ) (x y : Node) → at < length xs → x ≡ get_or xs at x → x ≡ y → items_at (map bead_of xs) at ≡ entry (bead_of y) (table (drop (suc at) (map bead_of xs)))
unfolding items_at
at_node xs at x y lt e is = entry_at xs at x lt e ∙ ap (λ z. entry (bead_of z) (table (drop (suc at) (map bead_of xs)))) is

pub items_shut : (xs : List Node) (at : ℕ) (x : Node) → at < length xs → x ≡ get_or xs at x → x ≡ nodes.Close → items_at (map bead_of xs) at ≡ none
items_shut xs at x lt e is = at_node xs at x nodes.Close lt e is

pub items_leaf : (xs : List Node) (at : ℕ) (x : Node) (p : places.Place) (l : code.Leaf) → at < length xs → x ≡ get_or xs at x → x ≡ nodes.Leaf p l →
    items_at (map bead_of xs) at ≡ more (leaf (place_of p) (leaf_of l)) (items_at (map bead_of xs) (at + 1))
items_leaf xs at x p l lt e is =
    at_node xs at x (nodes.Leaf p l) lt e is ∙ ap (more (leaf (place_of p) (leaf_of l))) (later (map bead_of xs) at 0 (at + 1) (omega arith))

pub items_open : (xs : List Node) (at : ℕ) (x : Node) (p : places.Place) (size : ℕ) → at < length xs → x ≡ get_or xs at x → x ≡ nodes.Open p size →
    items_at (map bead_of xs) at ≡ more (group (place_of p) (items_at (map bead_of xs) (at + 1))) (items_at (map bead_of xs) (at + 1 + size))
items_open xs at x p size lt e is =
    at_node xs at x (nodes.Open p size) lt e is ∙ ap (λ i. more (group (place_of p) i) (get_or (table (drop (suc at) (map bead_of xs))) size none)) (later (map bead_of xs) at 0 (at + 1) (omega arith)) ∙
    ap (more (group (place_of p) (items_at (map bead_of xs) (at + 1)))) (later (map bead_of xs) at size (at + 1 + size) refl)

-- ---- beads of expressions give them back

abbrev first : List Bead → Sexps
first bs = get_or (table bs) 0 none

abbrev joined : Sexps → Sexps → Sexps
joined none later = later
joined (more e rest) later = more e (joined rest later)

joined-none : (items : Sexps) → joined items none ≡ items
joined-none none = refl
joined-none (more e rest) = ap (more e) (joined-none rest)

behind : (bs tail : List Bead) (n : ℕ) → n ≡ length bs → get_or (table (bs ++ shut_bead ∷ tail)) (n + 1) none ≡ first tail
behind bs tail n e =
    sym (table_drop (bs ++ shut_bead ∷ tail) (n + 1) 0 ∙ (let same : n + 1 + 0 ≡ n + 1 = omega arith in ap (λ m. get_or (table (bs ++ shut_bead ∷ tail)) m none) same)) ∙
    ap (λ xs. first (drop (n + 1) xs)) (sym (append_assoc bs (shut_bead ∷ []) tail)) ∙
    ap first (drop_at (bs ++ shut_bead ∷ []) tail (n + 1) (length_push bs shut_bead ∙ ap (λ m. m + 1) (sym e)))

mutual
  pub first_flat : (e : Sexp) (tail : List Bead) → first (flat e ++ tail) ≡ more e (first tail)
  first_flat (leaf at l) tail = refl
  first_flat (group at items) tail =
      let inside = flats items in
      ap (λ xs. first (open_bead at (length inside + 1) ∷ xs)) (append_assoc inside (shut_bead ∷ []) tail) ∙
      ap (λ i. more (group at i) (get_or (table (inside ++ shut_bead ∷ tail)) (length inside + 1) none)) (first_flats items (shut_bead ∷ tail) ∙ joined-none items) ∙
      ap (more (group at items)) (behind inside tail (length inside) refl)

  first_flats : (items : Sexps) (tail : List Bead) → first (flats items ++ tail) ≡ joined items (first tail)
  first_flats none tail = refl
  first_flats (more e rest) tail =
      ap first (append_assoc (flat e) (flats rest) tail) ∙ first_flat e (flats rest ++ tail) ∙ ap (more e) (first_flats rest tail)

-- ---- what was read, the last first

pub flats_backwards : (before : List Sexp) (items : Sexps) → flats (backwards before items) ≡ flat_back before ++ flats items
flats_backwards [] items = refl
flats_backwards (e ∷ before) items = flats_backwards before (more e items) ∙ sym (append_assoc (flat_back before) (flat e) (flats items))

listed_backwards : (tops : List Sexp) (items : Sexps) → listed (backwards tops items) ≡ list_of tops (listed items)
listed_backwards [] items = refl
listed_backwards (e ∷ tops) items = listed_backwards tops (more e items)

-- the beads of all that was read give it back
pub whole_text : (bs : List Bead) (tops : List Sexp) → bs ≡ flat_back tops → listed (items_at bs 0) ≡ list_of tops []
unfolding items_at
whole_text bs tops e =
    let items = backwards tops none in
    let flat_items : bs ≡ flats items ++ [] = e ∙ sym (flats_backwards tops none ∙ append-nil (flat_back tops)) ∙ sym (append-nil (flats items)) in
    ap (λ xs. listed (first xs)) flat_items ∙ ap listed (first_flats items [] ∙ joined-none items) ∙ listed_backwards tops none

-- ---- one token more

pub spelled_put : (e : Sexp) (us : List Unclosed) (tops : List Sexp) → spelled (put e us tops).0 (put e us tops).1 ≡ spelled us tops ++ flat e
spelled_put e [] tops = refl
spelled_put e (u ∷ us) tops = sym (append_assoc (spelled us tops) (open_bead u.opened 0 ∷ flat_back u.before) (flat e))

pub starts_put : (e : Sexp) (us : List Unclosed) (tops : List Sexp) → starts (put e us tops).0 (put e us tops).1 ≡ starts us tops
starts_put e [] tops = refl
starts_put e (u ∷ us) tops = refl

pub length_starts : (us : List Unclosed) (tops : List Sexp) → length (starts us tops) ≡ length us
length_starts [] tops = refl
length_starts (u ∷ us) tops = length_push (starts us tops) (length (spelled us tops), u.opened) ∙ (let same : length (starts us tops) + 1 ≡ suc (length us) = omega (arith, length_starts us tops) in same)

-- a closed group: its opening has its size, and its closing stands at the end
pub closed_beads : (xs : List Bead) (u : Unclosed) (us : List Unclosed) (tops : List Sexp) (at size : ℕ) → xs ≡ spelled (u ∷ us) tops → at ≡ length (spelled us tops) → size ≡ length xs - at →
    set (xs ++ shut_bead ∷ []) at (open_bead u.opened size) ≡ spelled us tops ++ flat (group_of u)
closed_beads xs u us tops at size e place count =
    let inside = flats (backwards u.before none) in
    let same : inside ≡ flat_back u.before = flats_backwards u.before none ∙ append-nil (flat_back u.before) in
    let long : length xs ≡ length (spelled us tops) + length (open_bead u.opened 0 ∷ flat_back u.before) = ap length e ∙ length-append (spelled us tops) (open_bead u.opened 0 ∷ flat_back u.before) in
    let short = ap length same in
    let size_is : size ≡ length inside + 1 = omega arith in
    ap (λ ys. set (ys ++ shut_bead ∷ []) at (open_bead u.opened size)) e ∙
    ap (λ ys. set ys at (open_bead u.opened size)) (append_assoc (spelled us tops) (open_bead u.opened 0 ∷ flat_back u.before) (shut_bead ∷ [])) ∙
    set_at (spelled us tops) (open_bead u.opened 0) (flat_back u.before ++ shut_bead ∷ []) (open_bead u.opened size) at (sym place) ∙
    ap (λ n. spelled us tops ++ open_bead u.opened n ∷ (flat_back u.before ++ shut_bead ∷ [])) size_is ∙
    ap (λ ys. spelled us tops ++ open_bead u.opened (length inside + 1) ∷ (ys ++ shut_bead ∷ [])) (sym same)

pub inside_beads : (xs : List Bead) (u : Unclosed) (us : List Unclosed) (tops : List Sexp) (at : ℕ) → xs ≡ spelled (u ∷ us) tops → at ≡ length (spelled us tops) → drop (at + 1) xs ≡ flats (backwards u.before none)
inside_beads xs u us tops at e place =
    ap (drop (at + 1)) (e ∙ sym (append_assoc (spelled us tops) (open_bead u.opened 0 ∷ []) (flat_back u.before))) ∙
    drop_at (spelled us tops ++ open_bead u.opened 0 ∷ []) (flat_back u.before) (at + 1) (length_push (spelled us tops) (open_bead u.opened 0) ∙ ap (λ m. m + 1) (sym place)) ∙
    sym (flats_backwards u.before none ∙ append-nil (flat_back u.before))

-- ---- the command that ends a script

two_or_more : (b : Bead) (e : Sexp) (rest : List Bead) → is_exit_inside (b ∷ (flat e ++ rest)) ≡ false
two_or_more (open_bead at n) e rest = refl
two_or_more shut_bead e rest = refl
two_or_more (leaf_bead at (numeral d)) e rest = refl
two_or_more (leaf_bead at (decimal d f)) e rest = refl
two_or_more (leaf_bead at (reserved w)) e rest = refl
two_or_more (leaf_bead at (string t)) e rest = refl
two_or_more (leaf_bead at (keyword n)) e rest = refl
two_or_more (leaf_bead at (symbol n)) (leaf p l) rest = refl
two_or_more (leaf_bead at (symbol n)) (group p items) rest = refl

pub exit_inside : (at : Place) (items : Sexps) → is_exit_inside (flats items) ≡ is_exit (group at items)
exit_inside at none = refl
exit_inside at (more (group p items) rest) = refl
exit_inside at (more (leaf p (numeral d)) none) = refl
exit_inside at (more (leaf p (decimal d f)) none) = refl
exit_inside at (more (leaf p (symbol n)) none) = refl
exit_inside at (more (leaf p (reserved w)) none) = refl
exit_inside at (more (leaf p (string t)) none) = refl
exit_inside at (more (leaf p (keyword n)) none) = refl
exit_inside at (more (leaf p (numeral d)) (more e rest)) = two_or_more (leaf_bead p (numeral d)) e (flats rest)
exit_inside at (more (leaf p (decimal d f)) (more e rest)) = two_or_more (leaf_bead p (decimal d f)) e (flats rest)
exit_inside at (more (leaf p (symbol n)) (more e rest)) = two_or_more (leaf_bead p (symbol n)) e (flats rest)
exit_inside at (more (leaf p (reserved w)) (more e rest)) = two_or_more (leaf_bead p (reserved w)) e (flats rest)
exit_inside at (more (leaf p (string t)) (more e rest)) = two_or_more (leaf_bead p (string t)) e (flats rest)
exit_inside at (more (leaf p (keyword n)) (more e rest)) = two_or_more (leaf_bead p (keyword n)) e (flats rest)

-- a group is closed: its opening gets its size, and its closing stands at the end
pub close_nodes : (xs : List Node) (os : List Opened) (o : Opened) (u : Unclosed) (us : List Unclosed) (tops : List Sexp) (size : ℕ) →
    map bead_of xs ≡ spelled (u ∷ us) tops → map opened_of (os ++ o ∷ []) ≡ starts (u ∷ us) tops → size ≡ length xs - o.at →
    (map bead_of (set (xs ++ nodes.Close ∷ []) o.at (nodes.Open o.place size)) ≡ spelled (put (group_of u) us tops).0 (put (group_of u) us tops).1) ×
    (map opened_of os ≡ starts (put (group_of u) us tops).0 (put (group_of u) us tops).1)
close_nodes xs os o u us tops size read opened count =
    let both = same_from_push (map opened_of os) (starts us tops) (opened_of o) (length (spelled us tops), u.opened) (sym (map-append opened_of os (o ∷ [])) ∙ opened) in
    let place : o.at ≡ length (spelled us tops) = ap (λ p. p.0) both.1 in
    let at : place_of o.place ≡ u.opened = ap (λ p. p.1) both.1 in
    let count_is : size ≡ length (map bead_of xs) - o.at = count ∙ ap (λ n. n - o.at) (sym (length-map xs bead_of)) in (
      map-set bead_of (xs ++ nodes.Close ∷ []) o.at (nodes.Open o.place size) ∙ ap (λ ys. set ys o.at (open_bead (place_of o.place) size)) (map-append bead_of xs (nodes.Close ∷ [])) ∙
          ap (λ p. set (map bead_of xs ++ shut_bead ∷ []) o.at (open_bead p size)) at ∙ closed_beads (map bead_of xs) u us tops o.at size read place count_is ∙
          sym (spelled_put (group_of u) us tops),
      both.0 ∙ sym (starts_put (group_of u) us tops),
    )

-- the innermost opening is one of the nodes
pub opened_within : (xs : List Node) (os : List Opened) (o : Opened) (us : List Unclosed) (tops : List Sexp) → map bead_of xs ≡ spelled us tops → map opened_of (os ++ o ∷ []) ≡ starts us tops → o.at < length xs
opened_within xs os o [] tops read opened =
    let e = ap length (sym (map-append opened_of os (o ∷ [])) ∙ opened) in absurd (omega (arith, length_push (map opened_of os) (opened_of o), e))
opened_within xs os o (u ∷ us) tops read opened =
    let both = same_from_push (map opened_of os) (starts us tops) (opened_of o) (length (spelled us tops), u.opened) (sym (map-append opened_of os (o ∷ [])) ∙ opened) in
    let place : o.at ≡ length (spelled us tops) = ap (λ p. p.0) both.1 in
    omega (arith, length-map xs bead_of, ap length read, length-append (spelled us tops) (open_bead u.opened 0 ∷ flat_back u.before))

-- what is in it tells whether it is the command that ends a script
pub close_exit : (xs : List Node) (os : List Opened) (o : Opened) (u : Unclosed) (us : List Unclosed) (tops : List Sexp) →
    map bead_of xs ≡ spelled (u ∷ us) tops → map opened_of (os ++ o ∷ []) ≡ starts (u ∷ us) tops → is_exit_inside (map bead_of (drop (o.at + 1) xs)) ≡ is_exit (group_of u)
close_exit xs os o u us tops read opened =
    let both = same_from_push (map opened_of os) (starts us tops) (opened_of o) (length (spelled us tops), u.opened) (sym (map-append opened_of os (o ∷ [])) ∙ opened) in
    let place : o.at ≡ length (spelled us tops) = ap (λ p. p.0) both.1 in
    ap is_exit_inside (drop_map (o.at + 1) xs ∙ inside_beads (map bead_of xs) u us tops o.at read place) ∙ exit_inside u.opened (backwards u.before none)
  where
    drop_map : (n : ℕ) (ys : List Node) → map bead_of (drop n ys) ≡ drop n (map bead_of ys)
    drop_map zero ys = refl
    drop_map (suc n) [] = refl
    drop_map (suc n) (y ∷ ys) = drop_map n ys

pub open_count : (os : List Opened) (o : Opened) (u : Unclosed) (us : List Unclosed) (tops : List Sexp) → map opened_of (os ++ o ∷ []) ≡ starts (u ∷ us) tops → length us ≡ length os
open_count os o u us tops opened =
    let e = ap length opened in
    omega (arith, length-map (os ++ o ∷ []) opened_of, length_push os o, e, length_starts (u ∷ us) tops)
