-- A combination that is expanded, and less its blocks, within the limits or not.
use Rattle.std.proofs.Common.{◌≡◌, ℕ, ◌+◌, ◌<◌, ◌≤◌, inl, inr, List, Vec, length, map, get_or, Bool, true, Option, Some, None, ap, ◌∙◌, subst, arith}
use Rattle.std.specs.declared.alloc.Global.{Global}
use Rattle.cover_line.specs.Views.{block_of, multipliers_of}
use Rattle.dyadic.specs.declared.dy.Dy.{Dy}
use Rattle.ival.specs.SpaceViews.{space_of}
use Rattle.ival.specs.declared.space.Space.{Space}
use Rattle.poly_graph.specs.Problem.{IsProblem, atom_at, no_place}
use Rattle.poly_graph.specs.ProblemViews.{problem_of}
use Rattle.square_model.specs.Polynomial as model
use Rattle.square_model.specs.Positive.{expanded_nodes}
use Rattle.square_model.specs.Steps.{Counted}
use Rattle.squares.specs.Blocks.{ComesTo}
use Rattle.squares.specs.Expanding.{IsExpanded, IsExpandedTo}
use Rattle.squares.specs.Pairs.{NamesAtoms}
use Rattle.squares.specs.Rest.{are_short, node_steps, combination_of, rest_of, IsSpread, IsRest}
use Rattle.squares.specs.Sums.{combined_terms, AreLess}
use Rattle.squares.specs.Views.{terms_of}
use Rattle.cover_line.specs.declared.block.Block.{Block}
use Rattle.squares.specs.declared.budget.Budget.{Budget}
use Rattle.squares.specs.declared.combination.Combination.{Combination}
use Rattle.squares.specs.declared.polynomial.Polynomial.{Polynomial}
use Rattle.squares.proofs.Marking.{root_expanded}
use Rattle.squares.proofs.Summing.{blocks_grow, combined_is}
use Rattle.squares.proofs.Taking.{taken_onto}

abbrev pub marks_of : Combination → List Bool
marks_of c = expanded_nodes (problem_of c.problem.now) (multipliers_of c.multipliers.now)

module _ (c : Combination) (centre : Space) where
  pub spread_none : (marks : List Bool) (old new : Budget) → marks ≡ marks_of c → IsExpanded (space_of centre) c.problem.now.nodes marks old new None → IsSpread c centre old new None
  spread_none marks old new e h = elim (subst (λ (ms : List Bool). IsExpanded (space_of centre) c.problem.now.nodes ms old new None) e h) [
    | inl g ↦ inr (omega (arith, g))
    | inr g ↦ inl g
  ]

  -- the roots have the polynomials of their terms
  terms-are : IsProblem (problem_of c.problem.now) → NamesAtoms c → (ts : List model.Polynomial) (left all : ℕ) → IsExpandedTo (space_of centre) c.problem.now.nodes (marks_of c) (length c.problem.now.nodes) ts left all →
      combined_terms (problem_of c.problem.now) ts (multipliers_of c.multipliers.now) ≡ combination_of c centre
  terms-are ip names ts left all s = let p = problem_of c.problem.now in
      combined_is p (space_of centre) ts c.multipliers.now (λ (k : ℕ) (d : ℕ × Dy) (l : k < length c.multipliers.now).
      let j = (get_or c.multipliers.now k d).0 in let place = ip.atoms j no_place (names k d l) in
      s.polynomials (atom_at p j).0 place (root_expanded p c.multipliers.now k d l place))

  combined-then : (a : Counted) (old mid new : Budget) (r : Option Polynomial) → a ≡ combination_of c centre → are_short c centre ≡ true → mid.left + node_steps c centre ≡ old.left → ComesTo a mid new r → IsSpread c centre old new r
  combined-then a old mid new None e t g h = let l = ap (λ (x : Counted). x.steps) e in inr (omega (arith, l, g, h))
  combined-then a old mid new (Some p) e t g h = let l = ap (λ (x : Counted). x.steps) e in let k = h.1 in
      (t, h.0 ∙ ap (λ (x : Counted). x.polynomial) e, omega (arith, l, g, k))

  pub spread_all : IsProblem (problem_of c.problem.now) → NamesAtoms c → (marks : List Bool) (ps : Vec Polynomial Global) (old mid new : Budget) (r : Option Polynomial) → marks ≡ marks_of c →
      IsExpanded (space_of centre) c.problem.now.nodes marks old mid (Some ps) → ComesTo (combined_terms (problem_of c.problem.now) (map terms_of ps.items) (multipliers_of c.multipliers.now)) mid new r → IsSpread c centre old new r
  spread_all ip names marks ps old mid new r e h k =
      let s = subst (λ (ms : List Bool). IsExpandedTo (space_of centre) c.problem.now.nodes ms (length c.problem.now.nodes) (map terms_of ps.items) mid.left old.left) e h in
      combined-then (combined_terms (problem_of c.problem.now) (map terms_of ps.items) (multipliers_of c.multipliers.now)) old mid new r (terms-are ip names (map terms_of ps.items) mid.left old.left s) s.short s.steps k

  module _ (bs : List Block) (space : Space) where
    grown : (combination_of c centre).steps ≤ (rest_of c bs space centre).steps
    grown = blocks_grow (space_of space) (space_of centre) (map block_of bs) (combination_of c centre)

    pub rest_none : (old new : Budget) → IsSpread c centre old new None → IsRest c bs space centre old new None
    rest_none old new (inl h) = inl h
    rest_none old new (inr h) = let g = grown in inr (inr (omega (arith, g, h)))

    rest-stopped : (old mid new : Budget) (q : Polynomial) → IsSpread c centre old mid (Some q) → AreLess (space_of space) (space_of centre) (map block_of bs) (terms_of q) mid new None → IsRest c bs space centre old new None
    rest-stopped old mid new q h (inl k) = inr (inl k)
    rest-stopped old mid new q h (inr k) = let g = (taken_onto (space_of space) (space_of centre) (map block_of bs) (combination_of c centre) (terms_of q) h.1).1 in let l = h.2 in inr (inr (omega (arith, g, l, k)))

    rest-all : (old mid new : Budget) (q p : Polynomial) → IsSpread c centre old mid (Some q) → AreLess (space_of space) (space_of centre) (map block_of bs) (terms_of q) mid new (Some p) → IsRest c bs space centre old new (Some p)
    rest-all old mid new q p h k = let e = taken_onto (space_of space) (space_of centre) (map block_of bs) (combination_of c centre) (terms_of q) h.1 in
        let g = e.1 in let l = h.2 in let m = k.1.1 in
        record { short = h.0; blocks = k.0; polynomial = k.1.0 ∙ e.0; steps = omega (arith, g, l, m) }

    pub rest_then : (old mid new : Budget) (q : Polynomial) (r : Option Polynomial) → IsSpread c centre old mid (Some q) → AreLess (space_of space) (space_of centre) (map block_of bs) (terms_of q) mid new r → IsRest c bs space centre old new r
    rest_then old mid new q None h k = rest-stopped old mid new q h k
    rest_then old mid new q (Some p) h k = rest-all old mid new q p h k
