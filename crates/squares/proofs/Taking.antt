-- Blocks that are taken away, one after the other.
use Rattle.std.proofs.Common.{◌≡◌, ℕ, zero, suc, ◌+◌, ◌<◌, ◌≤◌, inl, inr, List, [], ◌∷◌, length, map, drop, get_or, Bool, true, false, ◌&&◌, refl, ap, sym, ◌∙◌, subst, arith}
use Rattle.std.proofs.lemmas.List.{drop_more}
use Rattle.interval_model.specs.Space.{Space}
use Rattle.square_model.specs.Block as block
use Rattle.square_model.specs.Block.{block_polynomial}
use Rattle.square_model.specs.Polynomial as model
use Rattle.square_model.specs.Polynomial.{polynomial_negated, polynomial_sum}
use Rattle.square_model.specs.Positive.{are_blocks, less_blocks}
use Rattle.square_model.specs.Steps.{Counted, counted}
use Rattle.squares.specs.Sums.{is_fit, less_block, IsTaken, AreTaken}
use Rattle.squares.specs.Views.{terms_of}
use Rattle.cover_line.specs.declared.block.Block.{Block}
use Rattle.cover_line.specs.Views.{block_of}
use Rattle.squares.specs.declared.budget.Budget.{Budget}
use Rattle.squares.specs.declared.polynomial.Polynomial.{Polynomial}
use Rattle.squares.proofs.Summing.{blocks_grow}

-- with so many steps taken
abbrev pub after_steps : model.Polynomial → ℕ → Counted
after_steps p n = record { polynomial = p; steps = n }

-- what is left from place k on makes the same of all, and what was taken are the steps so far
pub record IsTakenTo (space centre : Space) (bs : List Block) (k : ℕ) (a : model.Polynomial) (all left : ℕ) (p : model.Polynomial) (taken : ℕ) : Type 0 where
  pub steps : left + taken ≡ all
  pub rest : less_blocks space centre (map block_of (drop k bs)) (after_steps p taken) ≡ less_blocks space centre (map block_of bs) (counted a)
  pub blocks : are_blocks space centre (map block_of (drop k bs)) ≡ are_blocks space centre (map block_of bs)

module _ (space centre : Space) where
  rest-more : (bs : List Block) (k : ℕ) (d : Block) (q : Counted) → k < length bs →
      less_blocks space centre (map block_of (drop k bs)) q ≡ less_blocks space centre (map block_of (drop (k + 1) bs)) (less_block space centre (block_of (get_or bs k d)) q)
  rest-more bs k d q h = ap (λ (cs : List Block). less_blocks space centre (map block_of cs) q) (drop_more bs k d h)

  blocks-more : (bs : List Block) (k : ℕ) (d : Block) → k < length bs →
      are_blocks space centre (map block_of (drop k bs)) ≡ (is_fit space centre (block_of (get_or bs k d)) && are_blocks space centre (map block_of (drop (k + 1) bs)))
  blocks-more bs k d h = ap (λ (cs : List Block). are_blocks space centre (map block_of cs)) (drop_more bs k d h)

  then-all : (s t u : Bool) → s ≡ true → u ≡ (s && t) → t ≡ u
  then-all true t u h e = sym e
  then-all false t u h e = cc

  module _ (bs : List Block) (k : ℕ) (d : Block) (a : model.Polynomial) (first old new : Budget) (p r : Polynomial) (taken : ℕ) (inside : k < length bs) (s : IsTakenTo space centre bs k a first.left old.left (terms_of p) taken) where
    abbrev here : block.Block
    here = block_of (get_or bs k d)

    abbrev next : Counted
    next = less_block space centre here (after_steps (terms_of p) taken)

    whole : less_blocks space centre (map block_of (drop (k + 1) bs)) next ≡ less_blocks space centre (map block_of bs) (counted a)
    whole = sym (rest-more bs k d (after_steps (terms_of p) taken) inside) ∙ s.rest

    -- one block more
    pub one_taken : IsTaken space centre here (terms_of p) old new r true → IsTakenTo space centre bs (k + 1) a first.left new.left (terms_of r) next.steps
    one_taken h = record {
      steps = let g = s.steps in let l = h.1.1 in omega (arith, g, l);
      rest = ap (λ (q : model.Polynomial). less_blocks space centre (map block_of (drop (k + 1) bs)) (after_steps q next.steps)) h.1.0 ∙ whole;
      blocks = then-all (is_fit space centre here) (are_blocks space centre (map block_of (drop (k + 1) bs))) (are_blocks space centre (map block_of bs)) h.0 (sym s.blocks ∙ blocks-more bs k d inside);
    }

    -- or it stops there
    pub none_taken : IsTaken space centre here (terms_of p) old new r false → AreTaken space centre (map block_of bs) a first new r false
    none_taken (inl h) = inl (sym s.blocks ∙ blocks-more bs k d inside ∙ ap (λ (t : Bool). t && are_blocks space centre (map block_of (drop (k + 1) bs))) h)
    none_taken (inr h) = let g = s.steps in let l : next.steps ≤ (less_blocks space centre (map block_of bs) (counted a)).steps = subst (λ (q : Counted). next.steps ≤ q.steps) whole (blocks_grow space centre (map block_of (drop (k + 1) bs)) next) in
        inr (omega (arith, g, h, l))

  no-more : (bs : List Block) (k : ℕ) → length bs ≤ k → drop k bs ≡ []
  no-more [] zero h = refl
  no-more [] (suc k) h = refl
  no-more (b ∷ bs) zero h = absurd (omega (arith, h))
  no-more (b ∷ bs) (suc k) h = no-more bs k (omega (arith, h))

  -- all are taken
  pub all_taken : (bs : List Block) (k : ℕ) (a : model.Polynomial) (first new : Budget) (r : Polynomial) (taken : ℕ) → length bs ≤ k → IsTakenTo space centre bs k a first.left new.left (terms_of r) taken →
      AreTaken space centre (map block_of bs) a first new r true
  all_taken bs k a first new r taken h s =
      let e = no-more bs k h in
      let q : after_steps (terms_of r) taken ≡ less_blocks space centre (map block_of bs) (counted a) = sym (ap (λ (cs : List Block). less_blocks space centre (map block_of cs) (after_steps (terms_of r) taken)) e) ∙ s.rest in (
        sym s.blocks ∙ ap (λ (cs : List Block). are_blocks space centre (map block_of cs)) e,
        (ap (λ (x : Counted). x.polynomial) q, subst (λ (x : Counted). new.left + x.steps ≡ first.left) q s.steps),
      )

  -- ---- of a polynomial, whatever steps it took

  same-steps : (bs : List block.Block) (a b : Counted) → a.polynomial ≡ b.polynomial →
      ((less_blocks space centre bs a).polynomial ≡ (less_blocks space centre bs b).polynomial) × (b.steps + (less_blocks space centre bs a).steps ≡ a.steps + (less_blocks space centre bs b).steps)
  same-steps [] a b e = (e, omega arith)
  same-steps (c ∷ bs) a b e =
      let l : length a.polynomial ≡ length b.polynomial = ap (λ (x : model.Polynomial). length x) e in
      let h = same-steps bs (less_block space centre c a) (less_block space centre c b) (ap (λ (x : model.Polynomial). polynomial_sum x (polynomial_negated (block_polynomial space centre c).polynomial)) e) in
      let g = h.1 in (h.0, omega (arith, l, g))

  pub taken_onto : (bs : List block.Block) (a : Counted) (q : model.Polynomial) → q ≡ a.polynomial →
      ((less_blocks space centre bs (counted q)).polynomial ≡ (less_blocks space centre bs a).polynomial) × (a.steps + (less_blocks space centre bs (counted q)).steps ≡ (less_blocks space centre bs a).steps)
  taken_onto bs a q e = let h = same-steps bs (counted q) a e in let g = h.1 in (h.0, omega (arith, g))
