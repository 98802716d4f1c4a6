-- One front of a text more, in what was read.
use Rattle.std.proofs.Common.{◌≡◌, ℕ, zero, suc, ◌<◌, ◌≤◌, List, [], ◌∷◌, ◌++◌, Bool, true, false, cond, Some, None, refl, ap, sym, ◌∙◌, arith, length, take, drop}
use Rattle.std.specs.Prelude.{nat_lt, nat_eq, ◌&&◌, map, slice_get}
use Rattle.std.proofs.lemmas.List.{drop_all, length-map}
use Rattle.std.proofs.lemmas.Bool.{false≢true}
use Rattle.std.proofs.lemmas.Bool.Decides.{nat_tests}
use Rattle.script_model.specs.Sexp.{Place, Leaf, Sexp, leaf}
use Rattle.smt_sexp.specs.Lexicon.{Said, token, fault, opening, closing, word, TextFault, bad_byte, open_token, too_wide, too_deep, unbalanced, front, place_after, placed, sayings, Unclosed, TextRead, whole, faulty, put, expressions, end_of_text, list_of, is_exit}
use Rattle.smt_sexp.specs.FrontOf.{front_of, FirstFault, at_once, after_leaf}
use Rattle.smt_sexp.specs.Arena.{bead_of, items_at, listed}
use Rattle.smt_sexp.specs.Building.{Stands, Closes, group_of, opened_of}
use Rattle.smt_sexp.specs.Step.{GoesOn}
use Rattle.smt_sexp.specs.declared.building.Building.{Building}
use Rattle.smt_sexp.specs.declared.building.Opened.{Opened}
use Rattle.smt_sexp.proofs.Beads.{length_starts, whole_text}
use Rattle.smt_sexp.proofs.Lex.{jumps}

jump : (bytes : List ℕ) (at : Place) (n : ℕ) → 0 < length bytes → n ≡ (front_of bytes).size → 0 < n →
    sayings zero at bytes ≡ placed at bytes (front_of bytes).says ++ sayings zero (place_after at (take n bytes)) (drop n bytes)
jump [] at n some size pos = absurd (omega arith)
jump (b ∷ bs) at n some size pos =
    let sized : 0 < (front b bs).size = omega (arith, size) in
    jumps at b bs sized ∙ ap (λ m. placed at (b ∷ bs) (front b bs).says ++ sayings zero (place_after at (take m (b ∷ bs))) (drop m (b ∷ bs))) (sym size)

-- the text from here on, where n bytes stand first and are said to be this
module _ (bytes : List ℕ) (at : Place) (n : ℕ) (some : 0 < length bytes) (size : n ≡ (front_of bytes).size) (pos : 0 < n) (us : List Unclosed) (tops : List Sexp) where
  abbrev next : List (Place × Said)
  next = sayings zero (place_after at (take n bytes)) (drop n bytes)

  abbrev here : TextRead
  here = expressions None us tops (sayings zero at bytes)

  goes : (says : List (ℕ × Said)) → (front_of bytes).says ≡ says → here ≡ expressions None us tops (placed at bytes says ++ next)
  goes says e = ap (expressions None us tops) (jump bytes at n some size pos ∙ ap (λ s. placed at bytes s ++ next) e)

  pub blank : (front_of bytes).says ≡ [] → here ≡ expressions None us tops next
  blank e = goes [] e

  pub opens : (front_of bytes).says ≡ (0, token opening) ∷ [] → length us < 256 → here ≡ expressions None (record { opened = at; before = [] } ∷ us) tops next
  opens e few = goes ((0, token opening) ∷ []) e ∙ ap (λ b. cond b (expressions None (record { opened = at; before = [] } ∷ us) tops next) (faulty at too_deep)) (below us few)
    where
      below : (vs : List Unclosed) → length vs < 256 → nat_lt (length vs) 256 ≡ true
      below vs h = grind (arith, nat_tests)

  pub deep : (front_of bytes).says ≡ (0, token opening) ∷ [] → 256 ≤ length us → here ≡ faulty at too_deep
  deep e many = goes ((0, token opening) ∷ []) e ∙ ap (λ b. cond b (expressions None (record { opened = at; before = [] } ∷ us) tops next) (faulty at too_deep)) (above us many)
    where
      above : (vs : List Unclosed) → 256 ≤ length vs → nat_lt (length vs) 256 ≡ false
      above vs h = grind (arith, nat_tests)

  pub leafs : (l : Leaf) → (front_of bytes).says ≡ (0, token (word l)) ∷ [] → here ≡ expressions None (put (leaf at l) us tops).0 (put (leaf at l) us tops).1 next
  leafs l e = goes ((0, token (word l)) ∷ []) e

  pub stops : (k : ℕ) (f : TextFault) → FirstFault (front_of bytes).says k f → (f ≡ bad_byte) → here ≡ faulty (place_after at (take k bytes)) bad_byte
  stops k f h is = goes (front_of bytes).says refl ∙ by (front_of bytes).says k f h is
    where
      by : (says : List (ℕ × Said)) (k : ℕ) (f : TextFault) → FirstFault says k f → f ≡ bad_byte → expressions None us tops (placed at bytes says ++ next) ≡ faulty (place_after at (take k bytes)) bad_byte
      by says k f (at_once {rest}) is = ap (λ g. expressions None us tops ((place_after at (take k bytes), fault g) ∷ (placed at bytes rest ++ next))) is
      by says k f (after_leaf {l} {rest}) is =
          ap (λ g. expressions None (put (leaf at l) us tops).0 (put (leaf at l) us tops).1 ((place_after at (take k bytes), fault g) ∷ (placed at bytes rest ++ next))) is

  pub unended : (front_of bytes).says ≡ (0, fault open_token) ∷ [] → n ≡ length bytes → here ≡ faulty at open_token
  unended e all = goes ((0, fault open_token) ∷ []) e ∙ ap (λ bs. expressions (Some at) us tops (sayings zero (place_after at (take n bytes)) bs)) (drop_all n bytes (omega (arith, all)))

pub wide : (bytes : List ℕ) (at : Place) (n : ℕ) → 0 < length bytes → n ≡ (front_of bytes).size → 0 < n → (us : List Unclosed) (tops : List Sexp) → FirstFault (front_of bytes).says 0 too_wide →
    expressions None us tops (sayings zero at bytes) ≡ faulty at too_wide
wide bytes at n some size pos us tops h =
    ap (expressions None us tops) (jump bytes at n some size pos) ∙ by (front_of bytes).says too_wide h refl
  where
    by : (says : List (ℕ × Said)) (f : TextFault) → FirstFault says 0 f → f ≡ too_wide →
        expressions None us tops (placed at bytes says ++ sayings zero (place_after at (take n bytes)) (drop n bytes)) ≡ faulty at too_wide
    by says f (at_once {rest}) is = ap (λ g. expressions None us tops ((at, fault g) ∷ (placed at bytes rest ++ sayings zero (place_after at (take n bytes)) (drop n bytes)))) is
    by says f (after_leaf {l} {rest}) is =
        ap (λ g. expressions None (put (leaf at l) us tops).0 (put (leaf at l) us tops).1 ((at, fault g) ∷ (placed at bytes rest ++ sayings zero (place_after at (take n bytes)) (drop n bytes)))) is

pub unopened : (bytes : List ℕ) (at : Place) (n : ℕ) → 0 < length bytes → n ≡ (front_of bytes).size → 0 < n → (tops : List Sexp) → (front_of bytes).says ≡ (0, token closing) ∷ [] →
    expressions None [] tops (sayings zero at bytes) ≡ faulty at unbalanced
unopened bytes at n some size pos tops e = goes bytes at n some size pos [] tops ((0, token closing) ∷ []) e

pub closes : (bytes : List ℕ) (at : Place) (n : ℕ) → 0 < length bytes → n ≡ (front_of bytes).size → 0 < n → (u : Unclosed) (us : List Unclosed) (tops : List Sexp) → (front_of bytes).says ≡ (0, token closing) ∷ [] →
    expressions None (u ∷ us) tops (sayings zero at bytes) ≡
    cond (nat_eq (length us) 0 && is_exit (group_of u)) (whole (list_of (put (group_of u) us tops).1 []))
    (expressions None (put (group_of u) us tops).0 (put (group_of u) us tops).1 (sayings zero (place_after at (take n bytes)) (drop n bytes)))
closes bytes at n some size pos u us tops e = goes bytes at n some size pos (u ∷ us) tops ((0, token closing) ∷ []) e

-- no parenthesis is open
pub unopened_all : (bytes : List ℕ) (at : Place) (n : ℕ) → 0 < length bytes → n ≡ (front_of bytes).size → 0 < n → (us : List Unclosed) (tops : List Sexp) → length us ≡ 0 →
    (front_of bytes).says ≡ (0, token closing) ∷ [] → expressions None us tops (sayings zero at bytes) ≡ faulty at unbalanced
unopened_all bytes at n some size pos [] tops none e = unopened bytes at n some size pos tops e
unopened_all bytes at n some size pos (u ∷ us) tops none e = absurd (omega arith)

suc_not : (n : ℕ) → nat_eq (suc n) 0 ≡ false
suc_not n = grind (arith, nat_tests)

-- a group is closed: the text ends, or goes on
pub goes_on_closed : (b : Building) (u : Unclosed) (us : List Unclosed) (tops : List Sexp) (ends : Bool) (at : Place) (rest : List ℕ) (all : TextRead) → Closes b u us tops ends →
    all ≡ cond (nat_eq (length us) 0 && is_exit (group_of u)) (whole (list_of (put (group_of u) us tops).1 [])) (expressions None (put (group_of u) us tops).0 (put (group_of u) us tops).1 (sayings zero at rest)) →
    GoesOn b at rest all ends
goes_on_closed b u us tops false at rest all h e = (
  (put (group_of u) us tops).0,
  (put (group_of u) us tops).1,
  h.stands,
  e ∙ ap (λ t. cond t (whole (list_of (put (group_of u) us tops).1 [])) (expressions None (put (group_of u) us tops).0 (put (group_of u) us tops).1 (sayings zero at rest))) (sym h.ends_is),
)
goes_on_closed b u [] tops true at rest all h e =
    ([], group_of u ∷ tops, h.stands, e ∙ ap (λ t. cond t (whole (list_of (group_of u ∷ tops) [])) (expressions None [] (group_of u ∷ tops) (sayings zero at rest))) (sym h.ends_is))
goes_on_closed b u (v ∷ vs) tops true at rest all h e = absurd (false≢true (sym (h.ends_is ∙ ap (λ t. t && is_exit (group_of u)) (suc_not (length vs)))))

pub open_length : (b : Building) (us : List Unclosed) (tops : List Sexp) → Stands b us tops → length us ≡ length b.open.items
open_length b us tops st = omega (arith, length_starts us tops, ap length st.opened, length-map b.open.items opened_of)

pub not_none : (n : ℕ) → false ≡ nat_eq n 0 → 0 < n
not_none n h = grind (arith, nat_tests)

pub is_none : (n : ℕ) → true ≡ nat_eq n 0 → n ≡ 0
is_none n h = grind (arith, nat_tests)

pub none_at : (xs : List Opened) (i : ℕ) → None ≡ slice_get xs i → length xs ≤ i
none_at [] i h = omega arith
none_at (x ∷ xs) zero h = absurd (cc)
none_at (x ∷ xs) (suc i) h = let deeper = none_at xs i h in omega arith

-- all parentheses are closed
pub finished : (b : Building) (us : List Unclosed) (tops : List Sexp) (all : TextRead) → Stands b us tops → length us ≡ 0 → all ≡ end_of_text None us tops →
    all ≡ whole (listed (items_at (map bead_of b.nodes.items) 0))
finished b [] tops all st none e = e ∙ ap whole (sym (whole_text (map bead_of b.nodes.items) tops st.nodes))
finished b (u ∷ us) tops all st none e = absurd (omega arith)

pub closed_step : (b c : Building) (bytes : List ℕ) (at : Place) (n : ℕ) → 0 < length bytes → n ≡ (front_of bytes).size → 0 < n → (us : List Unclosed) (tops : List Sexp) (ends : Bool) (all : TextRead) →
    0 < length us → Stands b us tops → (front_of bytes).says ≡ (0, token closing) ∷ [] → ((v : Unclosed) → (vs : List Unclosed) → (ts : List Sexp) → Stands b (v ∷ vs) ts → Closes c v vs ts ends) →
    all ≡ expressions None us tops (sayings zero at bytes) → GoesOn c (place_after at (take n bytes)) (drop n bytes) all ends
closed_step b c bytes at n some size pos [] tops ends all held st says h e = absurd (omega arith)
closed_step b c bytes at n some size pos (u ∷ us) tops ends all held st says h e =
    goes_on_closed c u us tops ends (place_after at (take n bytes)) (drop n bytes) all (h u us tops st) (e ∙ closes bytes at n some size pos u us tops says)
