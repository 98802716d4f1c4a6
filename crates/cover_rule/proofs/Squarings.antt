-- Ends by squares: what is known of a combination whose line is positive.
use Rattle.std.proofs.Common.{◌≡◌, ◌∙◌, ℕ, zero, suc, ◌<◌, List, [], ◌∷◌, map, length, Bool, ◌&&◌, IsTrue, nat_lt, refl, ap, arith}
use Rattle.std.specs.Prelude.{Result, Ok, Err, IfOk}
use Rattle.std.specs.List.{All, list_all}
use Rattle.std.specs.declared.alloc.AllocError.{AllocError}
use Rattle.dyadic.specs.Views.{dyadic_of}
use Rattle.cover_line.specs.Views.{blocks_of, multipliers_of}
use Rattle.cover_line.specs.declared.block.Block.{Block as CodeBlock}
use Rattle.dyadic.proofs.Equal.{both_true, both_pass}
use Rattle.dyadic.specs.Rounding.{Dyadic}
use Rattle.dyadic.specs.declared.dy.Dy.{Dy}
use Rattle.interval_model.specs.Interval.{Interval}
use Rattle.interval_model.specs.Space.{Space}
use Rattle.poly_graph.specs.Problem.{Problem}
use Rattle.poly_graph.specs.ProblemViews.{Parts, problem_of}
use Rattle.ival.specs.SpaceViews.{space_of}
use Rattle.ival.specs.declared.space.Space.{Space as CodeSpace}
use Rattle.squares.specs.Pairs.{AreRanges}
use Rattle.squares.specs.Rest.{TellsPositive}
use Rattle.squares.specs.declared.combination.Combination.{Combination}
use Rattle.square_model.specs.Block.{Block, are_monomials, are_rows, is_block, is_factor, block_polynomial}
use Rattle.square_model.specs.Polynomial.{is_short}
use Rattle.square_model.specs.Positive.{Multipliers, are_blocks, is_above, is_positive, is_small, rest_polynomial, allowed_range}
use Rattle.square_model.specs.Range.{apart_range, polynomial_range}
use Rattle.cover_data.specs.declared.margins.Margins.{Margins}
use Rattle.cover_rule.specs.declared.workspace.Centre.{Centre}
use Rattle.cover_rule.specs.declared.workspace.Workspace.{Workspace}
use Rattle.cover_rule.specs.Serves.{HasCentre, IsReady}

-- each block has a row for each monomial
shaped : (space centre : Space) (bs : List Block) → IsTrue (are_blocks space centre bs) → IsTrue (list_all (λ b. are_rows b.monomials b.rows) bs)
shaped space centre [] h = refl
shaped space centre (b ∷ bs) h =
    let x = both_true (is_block space centre b && is_short (block_polynomial space centre b).polynomial) (are_blocks space centre bs) h in
    let block = (both_true (is_block space centre b) (is_short (block_polynomial space centre b).polynomial) x.0).0 in
    let rows = (both_true (nat_lt 0 (length b.monomials) && are_monomials space b.monomials && are_rows b.monomials b.rows) (is_factor space centre b.factor) block).0 in
    both_pass (are_rows b.monomials b.rows) (list_all (λ (b : Block). are_rows b.monomials b.rows) bs)
    (both_true (nat_lt 0 (length b.monomials) && are_monomials space b.monomials) (are_rows b.monomials b.rows) rows).1 (shaped space centre bs x.1)

pub positive_shaped : (p : Problem) (ranges : ℕ → Interval) (space centre : Space) (ms : Multipliers) (bs : List Block) → IsTrue (is_positive p ranges space centre ms bs) → IsTrue (list_all (λ b. are_rows b.monomials b.rows) bs)
positive_shaped p ranges space centre ms bs h =
    shaped space centre bs (both_true (are_blocks space centre bs) (is_small p space centre ms bs)
    (both_true (are_blocks space centre bs && is_small p space centre ms bs) (is_above (polynomial_range (apart_range space centre) (rest_polynomial p space centre ms bs).polynomial) (allowed_range ranges ms)) h).0).0

-- ranges by number, of pairs of the code
pub ranges_of_code : (f : ℕ → Interval) (ms : List (ℕ × Dy)) → map (λ (x : ℕ × Dy). f x.0) ms ≡ map (λ (x : ℕ × Dyadic). f x.0) (multipliers_of ms)
ranges_of_code f [] = refl
ranges_of_code f (m ∷ ms) = ap (λ (is : List Interval). f m.0 ∷ is) (ranges_of_code f ms)

-- atoms that are there, of pairs of the code
pub atoms_of_code : (n : ℕ) (ms : List (ℕ × Dy)) → All (λ (x : ℕ × Dyadic). x.0 < n) (multipliers_of ms) → All (λ (x : ℕ × Dy). x.0 < n) ms
atoms_of_code n [] h k d l = absurd (omega (arith, l))
atoms_of_code n (m ∷ ms) h zero d l = h zero (m.0, dyadic_of m.1) (omega arith)
atoms_of_code n (m ∷ ms) h (suc k) d l = atoms_of_code n ms (λ i e b. h (suc i) e (omega (arith, b))) k d (omega (arith, l))

-- the same line over the same space
pub positive_of : (p : Problem) (ranges : ℕ → Interval) (space space' centre centre' : Space) (ms ms' : List (ℕ × Dy)) (bs bs' : List CodeBlock) → space ≡ space' → centre ≡ centre' → ms ≡ ms' → bs ≡ bs' →
    is_positive p ranges space centre (multipliers_of ms) (blocks_of bs) ≡ is_positive p ranges space' centre' (multipliers_of ms') (blocks_of bs')
positive_of p ranges space space' centre centre' ms ms' bs bs' e f g h =
    ap (λ (s : Space). is_positive p ranges s centre (multipliers_of ms) (blocks_of bs)) e
    ∙ ap (λ (s : Space). is_positive p ranges space' s (multipliers_of ms) (blocks_of bs)) f
    ∙ ap (λ (xs : List (ℕ × Dy)). is_positive p ranges space' centre' (multipliers_of xs) (blocks_of bs)) g
    ∙ ap (λ (xs : List CodeBlock). is_positive p ranges space' centre' (multipliers_of ms') (blocks_of xs)) h

-- what is told with the ranges that the atoms have there
pub told_positive : (c : Combination) (bs : List CodeBlock) (space centre : CodeSpace) (ranges : ℕ → Interval) (v : Bool) (r : Result Bool AllocError) → AreRanges ranges c →
    is_positive (problem_of c.problem.now) ranges (space_of space) (space_of centre) (multipliers_of c.multipliers.now) (blocks_of bs) ≡ v → IfOk r (TellsPositive c bs space centre) → IfOk r (λ b. b ≡ v)
told_positive c bs space centre ranges v (Ok b) are e h = h ranges are ∙ e
told_positive c bs space centre ranges v (Err x) are e h = tt

-- a workspace is as ready with another centre of the space
pub with_centre : (p : Parts) (m : Margins) (space : Space) (w : Workspace) (k : Centre) → IsReady p m space w → HasCentre p space k →
    IsReady p m space record { rows = w.rows; scratch = w.scratch; marks = w.marks; spare = w.spare; centre = k; room = w.room; leaves = w.leaves; unsure = w.unsure; voiding = w.voiding }
with_centre p m space w k h c = record {
  serves = record {
    rows = h.serves.rows;
    scratch = h.serves.scratch;
    truths = h.serves.truths;
    centre = c;
    room = h.serves.room;
    leaves = h.serves.leaves;
    known = h.serves.known;
    voiding = h.serves.voiding;
  };
  spare = h.spare;
}
