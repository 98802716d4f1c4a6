-- The numbers of a line, counted one list after the other.
use Rattle.std.proofs.Common.{◌≡◌, ℕ, ◌+◌, ◌<◌, ◌≤◌, List, Vec, length, map, drop, get_or, ap, ◌∙◌}
use Rattle.std.proofs.lemmas.List.{drop_all, drop_more, length-map}
use Rattle.std.specs.declared.alloc.Global.{Global}
use Rattle.cover_line.specs.Views.{axes_of, block_of, multipliers_of, numbers_of}
use Rattle.cover_line.specs.declared.block.Block.{Block}
use Rattle.dyadic.specs.Views.{dyadic_of}
use Rattle.dyadic.specs.declared.dy.Dy.{Dy}
use Rattle.square_model.specs.Positive.{block_numbers, blocks_numbers, sizes_of}

-- ---- axes

pub axes_more : (ms : List (Vec ℕ Global)) (i : ℕ) (d : Vec ℕ Global) → i < length ms → sizes_of (map axes_of (drop i ms)) ≡ length (get_or ms i d).items + sizes_of (map axes_of (drop (i + 1) ms))
axes_more ms i d h = ap (λ (ns : List (Vec ℕ Global)). sizes_of (map axes_of ns)) (drop_more ms i d h)

pub axes_done : (ms : List (Vec ℕ Global)) (i : ℕ) → length ms ≤ i → sizes_of (map axes_of (drop i ms)) ≡ 0
axes_done ms i h = ap (λ (ns : List (Vec ℕ Global)). sizes_of (map axes_of ns)) (drop_all i ms h)

-- ---- rows

pub rows_more : (rows : List (Vec Dy Global)) (i : ℕ) (d : Vec Dy Global) → i < length rows → sizes_of (map numbers_of (drop i rows)) ≡ length (get_or rows i d).items + sizes_of (map numbers_of (drop (i + 1) rows))
rows_more rows i d h =
    ap (λ (vs : List (Vec Dy Global)). sizes_of (map numbers_of vs)) (drop_more rows i d h)
    ∙ ap (λ (n : ℕ). n + sizes_of (map numbers_of (drop (i + 1) rows))) (length-map (get_or rows i d).items dyadic_of)

pub rows_done : (rows : List (Vec Dy Global)) (i : ℕ) → length rows ≤ i → sizes_of (map numbers_of (drop i rows)) ≡ 0
rows_done rows i h = ap (λ (vs : List (Vec Dy Global)). sizes_of (map numbers_of vs)) (drop_all i rows h)

-- ---- blocks

pub numbers_in : (b : Block) → block_numbers (block_of b) ≡ 3 + ((length b.monomials.items + sizes_of (map axes_of b.monomials.items)) + sizes_of (map numbers_of b.rows.items))
numbers_in b = ap (λ (n : ℕ). 3 + ((n + sizes_of (map axes_of b.monomials.items)) + sizes_of (map numbers_of b.rows.items))) (length-map b.monomials.items axes_of)

pub blocks_more : (bs : List Block) (i : ℕ) (d : Block) → i < length bs → blocks_numbers (map block_of (drop i bs)) ≡ block_numbers (block_of (get_or bs i d)) + blocks_numbers (map block_of (drop (i + 1) bs))
blocks_more bs i d h = ap (λ (cs : List Block). blocks_numbers (map block_of cs)) (drop_more bs i d h)

pub blocks_done : (bs : List Block) (i : ℕ) → length bs ≤ i → blocks_numbers (map block_of (drop i bs)) ≡ 0
blocks_done bs i h = ap (λ (cs : List Block). blocks_numbers (map block_of cs)) (drop_all i bs h)

-- ---- a line

pub pairs_are : (xs : List (ℕ × Dy)) → length (multipliers_of xs) ≡ length xs
pairs_are xs = length-map xs (λ x. (x.0, dyadic_of x.1))
