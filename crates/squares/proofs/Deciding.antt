-- What decides whether a line is positive.
use Rattle.std.proofs.Common.{◌≡◌, ℕ, ◌+◌, ◌<◌, ◌≤◌, ◌⊎◌, inl, inr, List, length, map, Bool, true, false, ◌&&◌, nat_le, Some, None, refl, ap, ap₂, sym, ◌∙◌, arith}
use Rattle.std.proofs.lemmas.Bool.Decides.{nat_tests}
use Rattle.cover_line.specs.Views.{block_of, multipliers_of}
use Rattle.interval_model.specs.Interval.{Interval}
use Rattle.ival.specs.SpaceViews.{space_of}
use Rattle.ival.specs.Views.{interval_of}
use Rattle.ival.specs.declared.space.Space.{Space}
use Rattle.poly_graph.specs.ProblemViews.{problem_of}
use Rattle.square_model.specs.Polynomial as model
use Rattle.square_model.specs.Positive.{Multipliers, all_numbers, all_steps, allowed_range, are_blocks, is_above, is_small, most_numbers, most_steps}
use Rattle.square_model.specs.Range.{apart_range, polynomial_range}
use Rattle.squares.specs.Pairs.{sum_of_ranges}
use Rattle.squares.specs.Rest.{are_short, is_above_allowed, node_steps, rest_of, IsRest, TellsPositive}
use Rattle.squares.specs.Views.{apart_over, terms_of}
use Rattle.cover_line.specs.declared.block.Block.{Block}
use Rattle.squares.specs.declared.budget.Budget.{Budget}
use Rattle.squares.specs.declared.combination.Combination.{Combination}
use Rattle.squares.specs.declared.polynomial.Polynomial.{Polynomial}
use Rattle.squares.proofs.Pairing.{sum_of_allowed}

-- ---- tests

middle-fails : (s t u : Bool) → t ≡ false → false ≡ ((s && t) && u)
middle-fails true t u h = sym (ap (λ (b : Bool). b && u) h)
middle-fails false t u h = refl

both-fail : (s t : Bool) → t ≡ false → (s && t) ≡ false
both-fail true t h = h
both-fail false t h = refl

last-decides : (s n t few v : Bool) → s ≡ true → n ≡ true → t ≡ true → (few && v) ≡ ((s && ((n && t) && few)) && v)
last-decides s n t few v h k l = sym (ap (λ (b : Bool). (b && ((n && t) && few)) && v) h ∙ ap (λ (b : Bool). ((b && t) && few) && v) k ∙ ap (λ (b : Bool). (b && few) && v) l)

too-many : (n most : ℕ) → most < n → nat_le n most ≡ false
too-many n most h = grind (arith, nat_tests, h)

few-enough : (n most : ℕ) → n ≤ most → nat_le n most ≡ true
few-enough n most h = grind (arith, nat_tests, h)

either-way : (n m : ℕ) → (n ≤ m) ⊎ (m < n)
either-way n m = grind arith

-- what is left decides
same-test : (n left x most : ℕ) → left + x ≡ most → nat_le (x + n) most ≡ nat_le n left
same-test n left x most h = elim (either-way n left) [
  | inl l ↦ few-enough (x + n) most (omega (arith, h, l)) ∙ sym (few-enough n left l)
  | inr l ↦ too-many (x + n) most (omega (arith, h, l)) ∙ sym (too-many n left l)
]

-- ---- what is left, against what is allowed

pub not_above : (c : Combination) (p : model.Polynomial) (space centre : Space) (old : Budget) (n : ℕ) → n ≡ length p → old.left < n → false ≡ is_above_allowed c p space centre old
not_above c p space centre old n e h =
    sym (ap (λ (u : Bool). u && is_above (polynomial_range (apart_over space centre) p) (sum_of_ranges (multipliers_of c.multipliers.now) (map interval_of c.ranges.now))) (too-many (length p) old.left (omega (arith, e, h))))

pub then_above : (c : Combination) (p : model.Polynomial) (space centre : Space) (old : Budget) (n left : ℕ) → n ≡ length p → left + n ≡ old.left → (own allowed : Interval) (t : Bool) → own ≡ polynomial_range (apart_over space centre) p →
    allowed ≡ sum_of_ranges (multipliers_of c.multipliers.now) (map interval_of c.ranges.now) → t ≡ is_above own allowed → t ≡ is_above_allowed c p space centre old
then_above c p space centre old n left e h own allowed t f g i =
    i ∙ ap₂ is_above f g
    ∙ sym (ap (λ (u : Bool). u && is_above (polynomial_range (apart_over space centre) p) (sum_of_ranges (multipliers_of c.multipliers.now) (map interval_of c.ranges.now))) (few-enough (length p) old.left (omega (arith, e, h))))

-- ---- a line

module _ (c : Combination) (bs : List Block) (space centre : Space) where
  abbrev all-small : Bool
  all-small = is_small (problem_of c.problem.now) (space_of space) (space_of centre) (multipliers_of c.multipliers.now) (map block_of bs)

  abbrev steps-of-all : ℕ
  steps-of-all = all_steps (problem_of c.problem.now) (space_of space) (space_of centre) (multipliers_of c.multipliers.now) (map block_of bs)

  abbrev numbers-fit : Bool
  numbers-fit = nat_le (all_numbers (multipliers_of c.multipliers.now) (map block_of bs)) most_numbers

  abbrev blocks-hold : Bool
  blocks-hold = are_blocks (space_of space) (space_of centre) (map block_of bs)

  abbrev lies-above : (ℕ → Interval) → Bool
  lies-above ranges = is_above (polynomial_range (apart_range (space_of space) (space_of centre)) (rest_of c bs space centre).polynomial) (allowed_range ranges (multipliers_of c.multipliers.now))

  abbrev own : model.Polynomial
  own = (rest_of c bs space centre).polynomial

  abbrev before : ℕ
  before = node_steps c centre + (rest_of c bs space centre).steps

  abbrev ms : Multipliers
  ms = multipliers_of c.multipliers.now

  not-small : all-small ≡ false → TellsPositive c bs space centre false
  not-small h ranges r = middle-fails blocks-hold all-small (lies-above ranges) h

  pub too_wide : nat_le (all_numbers (multipliers_of c.multipliers.now) (map block_of bs)) most_numbers ≡ false → TellsPositive c bs space centre false
  too_wide h = not-small (ap (λ (t : Bool). (t && are_short c centre) && nat_le steps-of-all most_steps) h)

  too-long : most_steps < steps-of-all → TellsPositive c bs space centre false
  too-long h = not-small (both-fail (numbers-fit && are_short c centre) (nat_le steps-of-all most_steps) (too-many steps-of-all most_steps h))

  pub no_rest : (old new : Budget) → old.left ≡ most_steps → IsRest c bs space centre old new None → TellsPositive c bs space centre false
  no_rest old new b (inl h) = not-small (ap (λ (t : Bool). t && nat_le steps-of-all most_steps) (both-fail numbers-fit (are_short c centre) h))
  no_rest old new b (inr (inl h)) = λ ranges r. sym (ap (λ (t : Bool). (t && all-small) && lies-above ranges) h)
  no_rest old new b (inr (inr h)) = too-long (omega (arith, b, h))

  pub has_rest : (old mid : Budget) (p : Polynomial) → old.left ≡ most_steps → nat_le (all_numbers (multipliers_of c.multipliers.now) (map block_of bs)) most_numbers ≡ true → IsRest c bs space centre old mid (Some p) →
      (t : Bool) → t ≡ is_above_allowed c (terms_of p) space centre mid → TellsPositive c bs space centre t
  has_rest old mid p b k s t e ranges r =
      e ∙ ap (λ (q : model.Polynomial). is_above_allowed c q space centre mid) s.polynomial
      ∙ ap (λ (i : Interval). nat_le (length own) mid.left && is_above (polynomial_range (apart_over space centre) own) i) (ap (sum_of_ranges ms) r ∙ sum_of_allowed ranges ms)
      ∙ ap (λ (u : Bool). u && lies-above ranges) (sym (same-test (length own) mid.left before most_steps (s.steps ∙ b)))
      ∙ last-decides blocks-hold numbers-fit (are_short c centre) (nat_le (before + length own) most_steps) (lies-above ranges) s.blocks k s.short
