use Rattle.std.proofs.Common.{◌≡◌, ◌<◌, ◌-◌, ℕ, suc, ◌∷◌, length, drop, ap, sym, ◌∙◌, arith}
use Rattle.dyadic.specs.Rounding.{Dyadic, two_to_minus}
use Rattle.dyadic.specs.Views.{dyadic_of}
use Rattle.interval_model.specs.Interval.{Interval, interval_sum, interval_product}
use Rattle.cover_model.specs.NodeEnclosure.{row}
use Rattle.cover_model.specs.Combination.{Multipliers, only, root_adjoints, central_range, allowed_range, marked_range}
use Rattle.cover_model.specs.Views.{multipliers_of}
use Rattle.poly_graph.specs.Problem.{atom_at}
use Rattle.poly_graph.specs.ProblemViews.{problem_of}
use Rattle.ival.specs.RowViews.{rows_of}
use Rattle.ival.specs.Options.{option_at}
use Rattle.ival.proofs.Optional.{no_option}
use Rattle.cover_model.proofs.CombinationConstants.{handed_alike}
use Rattle.combine.proofs.Pairs.{pair_here, pair_at, no_pairs, length_pairs}
use Rattle.combine.proofs.roots.hand_roots.Goals as goal

pub loop-k-init : goal.loop-k-init
loop-k-init c =
    let p = problem_of c.args.combination.now.problem.now in let ms = c.args.combination.now.multipliers.now in let cs = rows_of c.args.centre_rows.now in let cleared = c.clear_marks.new.self in
    let none = sym (no_pairs ms) in
    record {
      roots = λ s. no_option cleared s (c.clear_marks.ensures.marks s) ∙ ap (λ (xs : Multipliers). root_adjoints p xs s) none;
      central = c.only.ensures ∙ ap (central_range p cs) none;
      allowed = c.only-2.ensures ∙ ap (allowed_range (marked_range p (two_to_minus c.args.combination.now.loosen) c.args.combination.now.lits.now)) none;
      count = ap length c.clear_marks.ensures.rows ∙ c.requires.adjoints;
    }

pub hand_root-ranges-requires-clause-atom : goal.hand_root-ranges-requires-clause-atom
hand_root-ranges-requires-clause-atom c =
    let ms = c.args.combination.now.multipliers.now in let k : ℕ = c.loop-k.k - 1 in let pair = c.index-multipliers-k.result in
    let inside : k < length ms = omega (arith, c.loop-k.auto.k, c.loop-k-test.true) in let d : ℕ × Dyadic = (pair.0, dyadic_of pair.1) in
    let there = c.requires.atoms k d (omega (arith, inside, length_pairs ms)) in
    omega (arith, there, ap (λ (x : ℕ × Dyadic). x.0) (pair_at ms k pair d inside c.index-multipliers-k.is))

pub loop-k-preserved : goal.loop-k-preserved
loop-k-preserved c =
    let p = problem_of c.args.combination.now.problem.now in let ms = c.args.combination.now.multipliers.now in let cs = rows_of c.args.centre_rows.now in
    let ranges = marked_range p (two_to_minus c.args.combination.now.loosen) c.args.combination.now.lits.now in
    let k : ℕ = c.loop-k.k - 1 in let pair = c.index-multipliers-k.result in let m = dyadic_of pair.1 in let rest = drop c.loop-k.k (multipliers_of ms) in
    let inside : k < length ms = omega (arith, c.loop-k.auto.k, c.loop-k-test.true) in
    let after : suc k ≡ c.loop-k.k = omega (arith, c.loop-k-test.true) in
    let here : drop k (multipliers_of ms) ≡ (pair.0, m) ∷ rest =
    pair_here ms k pair inside c.index-multipliers-k.is ∙ ap (λ (n : ℕ). (pair.0, m) ∷ drop n (multipliers_of ms)) after in
    let new = c.hand_root-ranges.ensures in let root = (atom_at p pair.0).0 in
    record {
      roots = λ s. new.root s ∙ handed_alike root (only m) (option_at c.loop-k.adjoints) (root_adjoints p rest) s (c.loop-k.invariant.roots s)
          ∙ ap (λ (xs : Multipliers). root_adjoints p xs s) (sym here);
      central = new.central ∙ ap (λ (i : Interval). interval_sum i (interval_product (only m) (row cs root))) c.loop-k.invariant.central ∙ ap (central_range p cs) (sym here);
      allowed = new.allowed ∙ ap (λ (i : Interval). interval_sum i (interval_product (only m) (ranges pair.0))) c.loop-k.invariant.allowed ∙ ap (allowed_range ranges) (sym here);
      count = new.count;
    }
