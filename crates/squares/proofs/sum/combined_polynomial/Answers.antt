use Rattle.std.proofs.Common.{◌≡◌, ℕ, ◌+◌, ◌-◌, ◌<◌, List, [], Bool, length, map, drop, ap, sym, subst, ◌∙◌, arith}
use Rattle.dyadic.specs.Views.{dyadic_of}
use Rattle.dyadic.specs.declared.dy.Dy.{Dy}
use Rattle.cover_line.specs.Views.{multipliers_of}
use Rattle.ival.proofs.Optional.{drop_all}
use Rattle.poly_graph.specs.Problem.{atom_at}
use Rattle.poly_graph.specs.ProblemViews.{problem_of}
use Rattle.poly_graph.specs.Term.{Kind}
use Rattle.square_model.specs.Steps.{Counted, counted}
use Rattle.squares.specs.Nodes.{terms_at}
use Rattle.squares.specs.Sums.{combined_terms, with_multiple, IsAdded}
use Rattle.squares.specs.Views.{terms_of}
use Rattle.squares.proofs.Summing.{combined_next, combined_stops}
use Rattle.squares.proofs.sum.combined_polynomial.Goals as goal

pub loop-k-init : goal.loop-k-init
loop-k-init c =
    let p = problem_of c.args.combination.now.problem.now in let ms = c.args.combination.now.multipliers.now in let ts = map terms_of c.args.polynomials.now in
    let none : combined_terms p ts [] ≡ combined_terms p ts (multipliers_of (drop (length ms) ms)) = ap (λ (xs : List (ℕ × Dy)). combined_terms p ts (multipliers_of xs)) (sym (drop_all ms (length ms) (omega arith))) in
    let e = ap (λ (a : Counted). a.steps) none in
    record { sum = c.new-sum.ensures ∙ ap (λ (a : Counted). a.polynomial) none; steps = omega (arith, e) }

pub atom_at-atom-requires : goal.atom_at-atom-requires
atom_at-atom-requires c =
    let ms = c.args.combination.now.multipliers.now in let k : ℕ = c.loop-k.k - 1 in let pair = c.index-multipliers-k.result in
    let inside : k < length ms = omega (arith, c.loop-k.auto.k, c.loop-k-test.true) in let there = c.requires.atoms k pair inside in
    omega (arith, there, ap (λ (x : ℕ × Dy). x.0) c.index-multipliers-k.is)

pub returns-then-not-branch : goal.returns-then-not-branch
returns-then-not-branch c =
    let p = problem_of c.args.combination.now.problem.now in let ms = c.args.combination.now.multipliers.now in let ts = map terms_of c.args.polynomials.now in
    let k : ℕ = c.loop-k.k - 1 in let pair = c.index-multipliers-k.result in let t = terms_of c.at-term.result.now in let s = terms_of c.loop-k.sum in
    let inside : k < length ms = omega (arith, c.loop-k.auto.k, c.loop-k-test.true) in let next : k + 1 ≡ c.loop-k.k = omega (arith, c.loop-k-test.true) in
    let term : t ≡ terms_at ts (atom_at p pair.0).0 = c.at-term.ensures ∙ ap (λ (a : ℕ × Kind). terms_at ts a.0) c.atom_at-atom.ensures.atom in
    combined_stops p ts ms k c.loop-k.k pair t s c.loop-k.budget c.add_multiple.new.budget c.add_multiple.new.sum c.args.budget.now.left inside c.index-multipliers-k.is next term c.loop-k.invariant.sum c.loop-k.invariant.steps
    (subst (λ (b : Bool). IsAdded (with_multiple (counted s) (dyadic_of pair.1) t) c.loop-k.budget c.add_multiple.new.budget c.add_multiple.new.sum b) c.if-not-branch.true c.in_ok-add_multiple.ensures)

pub loop-k-preserved : goal.loop-k-preserved
loop-k-preserved c =
    let p = problem_of c.args.combination.now.problem.now in let ms = c.args.combination.now.multipliers.now in let ts = map terms_of c.args.polynomials.now in
    let k : ℕ = c.loop-k.k - 1 in let pair = c.index-multipliers-k.result in let t = terms_of c.at-term.result.now in let s = terms_of c.loop-k.sum in
    let inside : k < length ms = omega (arith, c.loop-k.auto.k, c.loop-k-test.true) in let next : k + 1 ≡ c.loop-k.k = omega (arith, c.loop-k-test.true) in
    let term : t ≡ terms_at ts (atom_at p pair.0).0 = c.at-term.ensures ∙ ap (λ (a : ℕ × Kind). terms_at ts a.0) c.atom_at-atom.ensures.atom in
    let more = combined_next p ts ms k c.loop-k.k pair t s c.loop-k.budget c.add_multiple.new.budget c.add_multiple.new.sum c.args.budget.now.left inside c.index-multipliers-k.is next term c.loop-k.invariant.sum c.loop-k.invariant.steps
    (subst (λ (b : Bool). IsAdded (with_multiple (counted s) (dyadic_of pair.1) t) c.loop-k.budget c.add_multiple.new.budget c.add_multiple.new.sum b) c.if-not-branch.false c.in_ok-add_multiple.ensures) in
    record { sum = more.0; steps = more.1 }
