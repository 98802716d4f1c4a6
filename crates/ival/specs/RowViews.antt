-- A row as its intervals and its marks.
use Rattle.std.specs.Prelude.{◌≡◌, ℕ, ◌/◌, ◌%◌, ◌<◌, List, map, Bool, true, false, Option, MatchOption, nat_eq, length, slice_index, slice_index_or}
use Rattle.std.specs.List.{range_with_len}
use Rattle.std.specs.Int.{bit_at}
use Rattle.ival.specs.declared.row_parts.Rows.{Rows}
use Rattle.interval_model.specs.Interval.{Interval}
use Rattle.ival.specs.Views.{interval_of}

abbrev pub rows_of : Rows → List Interval
rows_of r = map interval_of r.intervals.items

-- the bit of a place, in words of 64 bits
abbrev pub has_place : List ℕ → ℕ → Bool
has_place words k = nat_eq (bit_at (slice_index words (k / 64)) (k % 64)) 1

unfoldable pub marks_of : Rows → List Bool
marks_of r = map (has_place r.words.items) (range_with_len 0 (length r.intervals.items))

abbrev pub is_marked : List Bool → ℕ → Bool
is_marked marks k = slice_index_or marks k false

-- ---- the next mark, on either side of a place

abbrev pub NoneBelow : List Bool → ℕ → Type 0
NoneBelow marks place = (k : ℕ) → k < place → is_marked marks k ≡ false

abbrev pub NoneAbove : List Bool → ℕ → Type 0
NoneAbove marks place = (k : ℕ) → place < k → is_marked marks k ≡ false

pub record IsNextBelow (marks : List Bool) (place n : ℕ) : Type 0 where
  pub below : n < place
  pub marked : is_marked marks n ≡ true
  pub between : (k : ℕ) → n < k → k < place → is_marked marks k ≡ false

pub record IsNextAbove (marks : List Bool) (place n : ℕ) : Type 0 where
  pub above : place < n
  pub marked : is_marked marks n ≡ true
  pub between : (k : ℕ) → place < k → k < n → is_marked marks k ≡ false

-- the greatest mark below a place, if there is one
abbrev pub IsLastBelow : List Bool → ℕ → Option ℕ → Type 0
IsLastBelow marks place o = MatchOption o (NoneBelow marks place) (IsNextBelow marks place)

-- the least mark above a place, if there is one
abbrev pub IsFirstAbove : List Bool → ℕ → Option ℕ → Type 0
IsFirstAbove marks place o = MatchOption o (NoneAbove marks place) (IsNextAbove marks place)
