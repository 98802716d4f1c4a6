-- Marks as words of bits.
use Rattle.std.proofs.Common.{◌≡◌, ◌≢◌, ℕ, suc, ◌+◌, ◌*◌, ◌/◌, ◌%◌, ◌<◌, ◌≤◌, ◌∙◌, List, Bool, true, false, length, map, get_or, set, Option, Some, None, MatchOption, zero, replicate, ap, sym, subst, refl, nat_eq, arith, inl, inr, get_or-set_same, get_or-set_other}
use Rattle.std.proofs.lemmas.Bool.{cases_eq, cases_lt}
use Rattle.std.proofs.lemmas.List.{length-set, length-replicate, get_or_past, length-map}
use Rattle.std.proofs.lemmas.List.FromFn.{length-map-range_with_len, get_or-map-range_with_len, fill_by_all}
use Rattle.std.proofs.lemmas.Nat.{div-mul-add, mod-mul-add}
use Rattle.std.proofs.lemmas.Nat.Bits.{bit_at-zero}
use Rattle.std.proofs.lemmas.Grind.{get_or_default_zero}
use Rattle.std.specs.List.{range_with_len}
use Rattle.std.specs.Int.{bit_at}
use Rattle.ival.specs.declared.row_parts.Rows.{Rows}
use Rattle.ival.specs.Views.{interval_of}
use Rattle.ival.specs.RowViews.{rows_of, has_place, marks_of, is_marked, NoneAbove, IsNextBelow, IsNextAbove}

-- n marks in these words
abbrev pub marks_in : ℕ → List ℕ → List Bool
marks_in n words = map (has_place words) (range_with_len 0 n)

pub marks_are : (r : Rows) → marks_of r ≡ marks_in (length r.intervals.items) r.words.items
unfolding marks_of
marks_are r = refl

pub length_marks : (r : Rows) → length (marks_of r) ≡ length (rows_of r)
unfolding marks_of
length_marks r = length-map-range_with_len (has_place r.words.items) 0 (length r.intervals.items) ∙ sym (length-map r.intervals.items interval_of)

-- ---- bits of places

abbrev pub bit_of : List ℕ → ℕ → ℕ
bit_of words k = bit_at (get_or words (k / 64) 0) (k % 64)

pub marked_at : (words : List ℕ) (n k : ℕ) → k < n → is_marked (marks_in n words) k ≡ has_place words k
marked_at words n k h = get_or-map-range_with_len (has_place words) 0 n k k false h (omega arith)

pub is_on : (words : List ℕ) (n k : ℕ) → k < n → bit_of words k ≡ 1 → is_marked (marks_in n words) k ≡ true
is_on words n k h e = marked_at words n k h ∙ ap (λ (x : ℕ). nat_eq x 1) e

pub is_off : (words : List ℕ) (n k : ℕ) → (k < n → bit_of words k ≡ 0) → is_marked (marks_in n words) k ≡ false
is_off words n k e =
    elim (cases_lt k n) [
      | inl h ↦ marked_at words n k h ∙ ap (λ (x : ℕ). nat_eq x 1) (e h)
      | inr h ↦ get_or_past (marks_in n words) k false (let l = length-map-range_with_len (has_place words) 0 n in omega (arith, l))
    ]

pub read_zero : (words : List ℕ) (at w : ℕ) → at < length words → w ≡ get_or words at w → w ≡ get_or words at 0
read_zero words at w h e = e ∙ get_or_default_zero words at w h

-- a bit of the word that a place lies in
bit_in : (words : List ℕ) (k at : ℕ) → k / 64 ≡ at → bit_of words k ≡ bit_at (get_or words at 0) (k % 64)
bit_in words k at e = ap (λ (x : ℕ). bit_at (get_or words x 0) (k % 64)) e

pub bit_placed : (words : List ℕ) (at b : ℕ) → b < 64 → bit_of words (at * 64 + b) ≡ bit_at (get_or words at 0) b
bit_placed words at b h = bit_in words (at * 64 + b) at (div-mul-add at 64 b h) ∙ ap (λ (x : ℕ). bit_at (get_or words at 0) x) (mod-mul-add at 64 b h)

-- ---- one mark set or taken away

same-marks : (n k : ℕ) (words words' : List ℕ) (v : Bool) → has_place words' k ≡ v → ((i : ℕ) → i ≢ k → has_place words' i ≡ has_place words i) → marks_in n words' ≡ set (marks_in n words) k v
same-marks n k words words' v here others =
    let count : length (set (marks_in n words) k v) ≡ n = length-set (marks_in n words) k v ∙ length-map-range_with_len (has_place words) 0 n in
    sym (fill_by_all (has_place words') (set (marks_in n words) k v) n false count (λ i h. elim (cases_eq i k) [
      | inl e ↦ let inside : k < length (marks_in n words) = omega (arith, length-map-range_with_len (has_place words) 0 n, e, h) in
          subst (λ (x : ℕ). get_or (set (marks_in n words) k v) x false ≡ has_place words' x) (sym e) (get_or-set_same (marks_in n words) k v false inside ∙ sym here)
      | inr o ↦ get_or-set_other (marks_in n words) k i v false o ∙ marked_at words n i h ∙ sym (others i o)
    ]))

module _ (words : List ℕ) (k w : ℕ) (inside : k / 64 < length words) where
  new-words : List ℕ
  new-words = set words (k / 64) w

  pub changed_marks : (n b : ℕ) (v : Bool) → bit_at w (k % 64) ≡ b → nat_eq b 1 ≡ v → ((i : ℕ) → i < 64 → i ≢ k % 64 → bit_at w i ≡ bit_at (get_or words (k / 64) 0) i) →
      marks_in n (set words (k / 64) w) ≡ set (marks_in n words) k v
  changed_marks n b v here value others = same-marks n k words (set words (k / 64) w) v
      (ap (λ (x : ℕ). nat_eq (bit_at x (k % 64)) 1) (get_or-set_same words (k / 64) w 0 inside) ∙ ap (λ (x : ℕ). nat_eq x 1) here ∙ value)
      (λ i o. elim (cases_eq (i / 64) (k / 64)) [
        | inl e ↦ let other : i % 64 ≢ k % 64 = omega arith in
            ap (λ (x : ℕ). nat_eq x 1) (bit_in (set words (k / 64) w) i (k / 64) e
            ∙ ap (λ (x : ℕ). bit_at x (i % 64)) (get_or-set_same words (k / 64) w 0 inside)
            ∙ others (i % 64) (omega arith) other ∙ sym (bit_in words i (k / 64) e))
        | inr o ↦ ap (λ (x : ℕ). nat_eq (bit_at x (i % 64)) 1) (get_or-set_other words (k / 64) (i / 64) w 0 o)
      ])

-- ---- the next mark below a place

-- in the word of the place itself; w has its bits below the place
pub below_here : (words : List ℕ) (n place w b : ℕ) → place ≤ n → b < 64 →
    ((i : ℕ) → i < place % 64 → bit_at w i ≡ bit_at (get_or words (place / 64) 0) i) → ((i : ℕ) → place % 64 ≤ i → bit_at w i ≡ 0) →
    bit_at w b ≡ 1 → ((i : ℕ) → b < i → bit_at w i ≡ 0) → IsNextBelow (marks_in n words) place (place / 64 * 64 + b)
below_here words n place w b inside small kept cleared one above =
    let low : b < place % 64 = elim (cases_lt b (place % 64)) [
      | inl h ↦ h
      | inr h ↦ absurd (let z = cleared b h in omega (arith, z, one))
    ] in record {
      below = omega arith;
      marked = is_on words n (place / 64 * 64 + b) (omega arith) (bit_placed words (place / 64) b small ∙ sym (kept b low) ∙ one);
      between = λ k l h. is_off words n k (λ _. bit_in words k (place / 64) (omega arith) ∙ sym (kept (k % 64) (omega arith)) ∙ above (k % 64) (omega arith));
    }

-- none there
pub none_here : (words : List ℕ) (n place w : ℕ) → w ≡ 0 →
    ((i : ℕ) → i < place % 64 → bit_at w i ≡ bit_at (get_or words (place / 64) 0) i) → (k : ℕ) → place / 64 * 64 ≤ k → k < place → is_marked (marks_in n words) k ≡ false
none_here words n place w e kept k l h = is_off words n k
    (λ _. bit_in words k (place / 64) (omega arith) ∙ sym (kept (k % 64) (omega arith)) ∙ ap (λ (x : ℕ). bit_at x (k % 64)) e ∙ bit_at-zero (k % 64))

-- in an earlier word, where there is none in those between
pub below_in : (words : List ℕ) (n place at w b : ℕ) → place ≤ n → at < place / 64 → b < 64 → w ≡ get_or words at 0 →
    ((k : ℕ) → (at + 1) * 64 ≤ k → k < place → is_marked (marks_in n words) k ≡ false) →
    bit_at w b ≡ 1 → ((i : ℕ) → b < i → bit_at w i ≡ 0) → IsNextBelow (marks_in n words) place (at * 64 + b)
below_in words n place at w b inside early small word later one above = record {
  below = omega arith;
  marked = is_on words n (at * 64 + b) (omega arith) (bit_placed words at b small ∙ ap (λ (x : ℕ). bit_at x b) (sym word) ∙ one);
  between = λ k l h. elim (cases_lt k ((at + 1) * 64)) [
    | inl here ↦ is_off words n k (λ _. bit_in words k at (omega arith) ∙ ap (λ (x : ℕ). bit_at x (k % 64)) (sym word) ∙ above (k % 64) (omega arith))
    | inr past ↦ later k past h
  ];
}

-- none in a word that is 0
pub none_in : (words : List ℕ) (n at w : ℕ) → w ≡ get_or words at 0 → w ≡ 0 → (k : ℕ) → at * 64 ≤ k → k < (at + 1) * 64 → is_marked (marks_in n words) k ≡ false
none_in words n at w word e k l h = is_off words n k
    (λ _. bit_in words k at (omega arith) ∙ ap (λ (x : ℕ). bit_at x (k % 64)) (sym word ∙ e) ∙ bit_at-zero (k % 64))

-- ---- the next mark above a place

-- the least place above this one whose bit is set, whether there is such a place or not
pub record IsLeast (marks : List Bool) (n place p : ℕ) : Type 0 where
  pub above : place < p
  pub marked : p < n → is_marked marks p ≡ true
  pub between : (k : ℕ) → place < k → k < p → is_marked marks k ≡ false

-- in the word of the place after it; w has its bits from that place on
pub above_here : (words : List ℕ) (n place w b : ℕ) → b < 64 →
    ((i : ℕ) → (place + 1) % 64 ≤ i → i < 64 → bit_at w i ≡ bit_at (get_or words ((place + 1) / 64) 0) i) → ((i : ℕ) → i < (place + 1) % 64 → bit_at w i ≡ 0) →
    bit_at w b ≡ 1 → ((i : ℕ) → i < b → bit_at w i ≡ 0) → IsLeast (marks_in n words) n place ((place + 1) / 64 * 64 + b)
above_here words n place w b small kept cleared one below =
    let high : (place + 1) % 64 ≤ b = elim (cases_lt b ((place + 1) % 64)) [
      | inl h ↦ absurd (let z = cleared b h in omega (arith, z, one))
      | inr h ↦ h
    ] in record {
      above = omega arith;
      marked = λ h. is_on words n ((place + 1) / 64 * 64 + b) h (bit_placed words ((place + 1) / 64) b small ∙ sym (kept b high small) ∙ one);
      between = λ k l h. is_off words n k (λ _. bit_in words k ((place + 1) / 64) (omega arith) ∙ sym (kept (k % 64) (omega arith) (omega arith)) ∙ below (k % 64) (omega arith));
    }

-- none there
pub none_after : (words : List ℕ) (n place w : ℕ) → w ≡ 0 →
    ((i : ℕ) → (place + 1) % 64 ≤ i → i < 64 → bit_at w i ≡ bit_at (get_or words ((place + 1) / 64) 0) i) → (k : ℕ) → place < k → k < ((place + 1) / 64 + 1) * 64 → is_marked (marks_in n words) k ≡ false
none_after words n place w e kept k l h = is_off words n k
    (λ _. bit_in words k ((place + 1) / 64) (omega arith) ∙ sym (kept (k % 64) (omega arith) (omega arith)) ∙ ap (λ (x : ℕ). bit_at x (k % 64)) e ∙ bit_at-zero (k % 64))

-- in a later word, where there is none in those between
pub above_in : (words : List ℕ) (n place at w b : ℕ) → place < at * 64 → b < 64 → w ≡ get_or words at 0 →
    ((k : ℕ) → place < k → k < at * 64 → is_marked (marks_in n words) k ≡ false) →
    bit_at w b ≡ 1 → ((i : ℕ) → i < b → bit_at w i ≡ 0) → IsLeast (marks_in n words) n place (at * 64 + b)
above_in words n place at w b late small word before one below = record {
  above = omega arith;
  marked = λ h. is_on words n (at * 64 + b) h (bit_placed words at b small ∙ ap (λ (x : ℕ). bit_at x b) (sym word) ∙ one);
  between = λ k l h. elim (cases_lt k (at * 64)) [
    | inl early ↦ before k l early
    | inr here ↦ is_off words n k (λ _. bit_in words k at (omega arith) ∙ ap (λ (x : ℕ). bit_at x (k % 64)) (sym word) ∙ below (k % 64) (omega arith))
  ];
}

pub past_end : (n k : ℕ) (words : List ℕ) → n ≤ k → is_marked (marks_in n words) k ≡ false
past_end n k words h = is_off words n k (λ l. absurd (omega arith))

pub next_above : (words : List ℕ) (n m place p : ℕ) (r : Option ℕ) → m ≡ n → IsLeast (marks_in n words) n place p → MatchOption r (m ≤ p) (λ k. (k ≡ p) × (k < m)) →
    MatchOption r (NoneAbove (marks_in n words) place) (IsNextAbove (marks_in n words) place)
next_above words n m place p None e l h = λ k a. elim (cases_lt k p) [
  | inl b ↦ l.between k a b
  | inr b ↦ past_end n k words (omega arith)
]
next_above words n m place p (Some q) e l h = subst (λ (k : ℕ). IsNextAbove (marks_in n words) place k) (sym h.0)
    (record { above = l.above; marked = l.marked (omega arith); between = l.between })

-- ---- no marks

pub none_marked : (words : List ℕ) (n : ℕ) → ((i : ℕ) → get_or words i 0 ≡ 0) → (k : ℕ) → is_marked (marks_in n words) k ≡ false
none_marked words n z k = is_off words n k (λ _. ap (λ (x : ℕ). bit_at x (k % 64)) (z (k / 64)) ∙ bit_at-zero (k % 64))

all-same : {X : Type 0} (m i : ℕ) (x : X) → get_or (replicate m x) i x ≡ x
all-same zero i x = refl
all-same (suc m) zero x = refl
all-same (suc m) (suc i) x = all-same m i x

pub no_marks : (words : List ℕ) (n count m : ℕ) → n ≡ count → words ≡ replicate m 0 → marks_in n words ≡ replicate count false
no_marks words n count m e f =
    let zeros : (i : ℕ) → get_or words i 0 ≡ 0 = λ i. ap (λ (xs : List ℕ). get_or xs i 0) f ∙ all-same m i 0 in
    sym (fill_by_all (has_place words) (replicate count false) n false (length-replicate count false ∙ sym e)
    (λ k h. all-same count k false ∙ sym (none_marked words n zeros k) ∙ marked_at words n k h))
