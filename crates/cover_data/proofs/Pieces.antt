-- Spaces in pieces.
use Rattle.std.proofs.Common.{◌≡◌, ℕ, ◌+◌, ◌-◌, ◌<◌, ◌≤◌, List, [], ◌∷◌, ◌++◌, map, length, take, drop, min, get_or, ap, ap₂, sym, ◌∙◌, append-nil, append_assoc, arith}
use Rattle.std.proofs.lemmas.List.{map-append, take_more, take_min, take-append-drop, length-drop, length-take, length-take-le}
use Rattle.std.proofs.lemmas.Grind.{flat_map-append}
use Rattle.std.proofs.Math.Seq.{take-add, take-append_seam, drop-append_seam}
use Rattle.interval_model.specs.Space.{Space as AxisDomains}
use Rattle.ival.specs.SpaceViews.{space_of}
use Rattle.ival.specs.declared.space.Space.{Space}
use Rattle.cover_data.specs.Stored.{joined, StandsAt}

-- one more piece, where a piece is f of what is kept
pub joined_more : {A : Type 0} (f : A → Space) (xs ys : List A) (a : A) → ys ≡ xs ++ (a ∷ []) → joined (map f ys) ≡ joined (map f xs) ++ space_of (f a)
joined_more f xs ys a e =
    ap (λ zs. joined (map f zs)) e ∙ ap joined (map-append f xs (a ∷ [])) ∙ flat_map-append space_of (map f xs) (f a ∷ []) ∙ ap (λ zs. joined (map f xs) ++ zs) (append-nil (space_of (f a)))

-- the axes up to one place, and then those up to another one
axes-more : (space : AxisDomains) (n to : ℕ) → n ≤ to → take n space ++ take (to - n) (drop n space) ≡ take to space
axes-more space n to h = let e : n + (to - n) ≡ to = omega (arith, h) in sym (take-add n (to - n) space) ∙ ap (λ m. take m space) e

-- the next axes, of which there may be fewer than are asked for
pub next_axes : (space : AxisDomains) (n m to : ℕ) → to ≡ min (n + m) (length space) → n ≤ to → take n space ++ take (to - n) (drop n space) ≡ take (n + m) space
next_axes space n m to e h = axes-more space n to h ∙ ap (λ k. take k space) e ∙ take_min (n + m) space

-- the pieces up to one of them, and then that one
pub pieces_more : {A : Type 0} (f : A → Space) (xs : List A) (i : ℕ) (d : A) → i < length xs → joined (map f (take (i + 1) xs)) ≡ joined (map f (take i xs)) ++ space_of (f (get_or xs i d))
pieces_more f xs i d h = joined_more f (take i xs) (take (i + 1) xs) (get_or xs i d) (take_more xs i d h)

-- ---- whether pieces are those of a space

-- what stands in a space lies within it
pub there_fits : (s p : AxisDomains) (from : ℕ) → from ≤ length s → StandsAt s from p → from + length p ≤ length s
there_fits s p from h e = let n = ap length e in let m = length-take (length p) (drop from s) in let d = length-drop from s in omega (arith, h, n, m, d)

-- where the pieces before one of them are the axes up to a place
module _ {A : Type 0} (f : A → Space) (xs : List A) (s : AxisDomains) (i from : ℕ) (d : A) (h : joined (map f (take i xs)) ≡ take from s) (inside : i < length xs) where
  abbrev piece : AxisDomains
  piece = space_of (f (get_or xs i d))

  pub stands_next : StandsAt s from piece → joined (map f (take (i + 1) xs)) ≡ take (from + length piece) s
  stands_next there = pieces_more f xs i d inside ∙ ap₂ (λ ys zs. ys ++ zs) h (sym there) ∙ sym (take-add from (length piece) s)

  pub stands_if : from ≤ length s → joined (map f xs) ≡ s → StandsAt s from piece
  stands_if within e =
      let rest : AxisDomains = joined (map f (drop (i + 1) xs)) in
      let whole : s ≡ take from s ++ (piece ++ rest) =
      sym e ∙ ap (λ ys. joined (map f ys)) (sym (take-append-drop (i + 1) xs)) ∙ ap joined (map-append f (take (i + 1) xs) (drop (i + 1) xs))
      ∙ flat_map-append space_of (map f (take (i + 1) xs)) (map f (drop (i + 1) xs)) ∙ ap (λ ys. ys ++ rest) (pieces_more f xs i d inside ∙ ap (λ ys. ys ++ piece) h)
      ∙ append_assoc (take from s) piece rest in
      let count : length (take from s) ≡ from = length-take-le from s within in
      let left : drop from s ≡ piece ++ rest = ap (drop from) whole ∙ ap (λ n. drop n (take from s ++ (piece ++ rest))) (sym count) ∙ drop-append_seam (take from s) (piece ++ rest) in
      ap (take (length piece)) left ∙ take-append_seam piece rest
