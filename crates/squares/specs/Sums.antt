-- Sums of polynomials, one after the other, and the steps that they take.
use Rattle.std.specs.Prelude.{◌≡◌, ◌+◌, ◌<◌, ◌⊎◌, List, [], ◌∷◌, Bool, true, false, ◌&&◌, Option, Some, None}
use Rattle.cover_line.specs.Line.{Multipliers}
use Rattle.dyadic.specs.Rounding.{Dyadic}
use Rattle.interval_model.specs.Space.{Space}
use Rattle.poly_graph.specs.Problem.{Problem, atom_at}
use Rattle.square_model.specs.Block.{Block, block_polynomial, is_block}
use Rattle.square_model.specs.Polynomial as model
use Rattle.square_model.specs.Polynomial.{only, constant_polynomial, is_short}
use Rattle.square_model.specs.Positive.{are_blocks, less_blocks}
use Rattle.square_model.specs.Steps.{Counted, counted, counted_negated, counted_sum, counted_product}
use Rattle.squares.specs.Nodes.{terms_at}
use Rattle.squares.specs.Views.{terms_of}
use Rattle.squares.specs.declared.budget.Budget.{Budget}
use Rattle.squares.specs.declared.polynomial.Polynomial.{Polynomial}

-- the new polynomial is this and its steps are taken, or fewer were left
abbrev pub IsAdded : Counted → Budget → Budget → Polynomial → Bool → Type 0
IsAdded a old new p true = (terms_of p ≡ a.polynomial) × (new.left + a.steps ≡ old.left)
IsAdded a old new p false = old.left < a.steps

-- ---- pairs

abbrev pub with_multiple : Counted → Dyadic → model.Polynomial → Counted
with_multiple q l t = counted_sum q (counted_product (counted (constant_polynomial (only l))) (counted t))

-- of a combination, where these are the polynomials of the nodes
abbrev pub combined_terms : Problem → List model.Polynomial → Multipliers → Counted
combined_terms p ts [] = counted []
combined_terms p ts ((j, l) ∷ rest) = with_multiple (combined_terms p ts rest) l (terms_at ts (atom_at p j).0)

-- ---- blocks

-- the polynomial is short, and is taken away; or it is not, or takes more steps than were left
abbrev pub IsShortTaken : model.Polynomial → model.Polynomial → Budget → Budget → Polynomial → Bool → Type 0
IsShortTaken q a old new p true = (is_short q ≡ true) × IsAdded (counted_sum (counted a) (counted_negated (counted q))) old new p true
IsShortTaken q a old new p false = (is_short q ≡ false) ⊎ IsAdded (counted_sum (counted a) (counted_negated (counted q))) old new p false

-- a block whose polynomial has no monomial of more than 32 axes
abbrev pub is_fit : Space → Space → Block → Bool
is_fit space centre b = is_block space centre b && is_short (block_polynomial space centre b).polynomial

abbrev pub less_block : Space → Space → Block → Counted → Counted
less_block space centre b a = counted_sum a (counted_negated (block_polynomial space centre b))

-- the block is fit, and is taken away; or it is not, or takes more steps than were left
abbrev pub IsTaken : Space → Space → Block → model.Polynomial → Budget → Budget → Polynomial → Bool → Type 0
IsTaken space centre b a old new p true = (is_fit space centre b ≡ true) × IsAdded (less_block space centre b (counted a)) old new p true
IsTaken space centre b a old new p false = (is_fit space centre b ≡ false) ⊎ IsAdded (less_block space centre b (counted a)) old new p false

-- the same of blocks
abbrev pub AreTaken : Space → Space → List Block → model.Polynomial → Budget → Budget → Polynomial → Bool → Type 0
AreTaken space centre bs a old new p true = (are_blocks space centre bs ≡ true) × IsAdded (less_blocks space centre bs (counted a)) old new p true
AreTaken space centre bs a old new p false = (are_blocks space centre bs ≡ false) ⊎ IsAdded (less_blocks space centre bs (counted a)) old new p false

-- what is left behind blocks, or none
abbrev pub AreLess : Space → Space → List Block → model.Polynomial → Budget → Budget → Option Polynomial → Type 0
AreLess space centre bs a old new None = (are_blocks space centre bs ≡ false) ⊎ (old.left < (less_blocks space centre bs (counted a)).steps)
AreLess space centre bs a old new (Some p) = AreTaken space centre bs a old new p true
