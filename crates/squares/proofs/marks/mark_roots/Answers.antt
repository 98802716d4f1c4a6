use Rattle.std.proofs.Common.{◌≡◌, ◌<◌, ◌+◌, ◌-◌, List, [], ℕ, length, ap, sym, ◌∙◌, arith}
use Rattle.dyadic.specs.declared.dy.Dy.{Dy}
use Rattle.cover_line.specs.Views.{multipliers_of}
use Rattle.ival.proofs.Optional.{drop_all}
use Rattle.poly_graph.specs.ProblemViews.{problem_of}
use Rattle.poly_graph.specs.Term.{Kind}
use Rattle.square_model.specs.Positive.{root_marks}
use Rattle.squares.proofs.Marking.{root_marks_length, roots_next, set_length}
use Rattle.squares.proofs.marks.mark_roots.Goals as goal

pub loop-k-init : goal.loop-k-init
loop-k-init c =
    let p = problem_of c.args.combination.now.problem.now in let ms = c.args.combination.now.multipliers.now in let none = sym (drop_all ms (length ms) (omega arith)) in
    record {
      count = ap length c.requires.none ∙ root_marks_length p [];
      same = c.requires.none ∙ ap (λ (xs : List (ℕ × Dy)). root_marks p (multipliers_of xs)) none;
    }

pub atom_at-atom-requires : goal.atom_at-atom-requires
atom_at-atom-requires c =
    let ms = c.args.combination.now.multipliers.now in let k : ℕ = c.loop-k.k - 1 in let pair = c.index-multipliers-k.result in
    let inside : k < length ms = omega (arith, c.loop-k.auto.k, c.loop-k-test.true) in let there = c.requires.atoms k pair inside in
    omega (arith, there, ap (λ (x : ℕ × Dy). x.0) c.index-multipliers-k.is)

pub loop-k-preserved : goal.loop-k-preserved
loop-k-preserved c =
    let p = problem_of c.args.combination.now.problem.now in let ms = c.args.combination.now.multipliers.now in let k : ℕ = c.loop-k.k - 1 in let pair = c.index-multipliers-k.result in
    let inside : k < length ms = omega (arith, c.loop-k.auto.k, c.loop-k-test.true) in let next : k + 1 ≡ c.loop-k.k = omega (arith, c.loop-k-test.true) in
    record {
      count = set_length c.loop-k.marks c.atom_at-atom.result.term ∙ c.loop-k.invariant.count;
      same = roots_next p ms k c.loop-k.k pair c.atom_at-atom.result.term c.loop-k.marks inside c.index-multipliers-k.is next (ap (λ (a : ℕ × Kind). a.0) c.atom_at-atom.ensures.atom) c.loop-k.invariant.same;
    }
