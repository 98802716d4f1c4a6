use Rattle.std.proofs.Common.{◌<◌, ◌≡◌, inl, inr, ◌∙◌, ℕ, length, List, arith, ap, subst, not, IsTrue, below_more}
use Rattle.std.proofs.lemmas.Bool.{cases_lt}
use Rattle.poly_graph.specs.Term.{Node}
use Rattle.poly_graph.specs.ProblemViews.{problem_of}
use Rattle.ival.specs.SpaceViews.{space_of}
use Rattle.width_plan.specs.NodeWidth.{graph_widths}
use Rattle.width_plan.specs.Plan.{fits}
use Rattle.width_plan.proofs.Finds.{length_of}
use Rattle.width_plan.proofs.plan.search.Goals as goal

pub loop-bits-preserved : goal.loop-bits-preserved
loop-bits-preserved c =
    let box = space_of c.args.root.now in let n = c.loop-bits.bits in
    record {
      count = length_of box n c.args.problem.now c.fill_widths.new.widths (c.fill_widths.ensures ∙ ap (λ (xs : List Node). graph_widths box n xs) c.graph.ensures.graph);
      none = below_more _ _ c.loop-bits.invariant.none (c.in-Some.field-0, c.in-Some.ensures.is_atom, c.in-Some.ensures.misfit);
    }

pub returns-in-Some-first_misfit : goal.returns-in-Some-first_misfit
returns-in-Some-first_misfit c =
    let p = problem_of c.args.problem.now in let found = c.in-Some-first_misfit.ensures in
    let Misses : ℕ → Type 0 = λ bits. (i : ℕ) × (i < length p.atoms) × IsTrue (not (fits p c.args.delta_bits c.args.margin_bits bits i)) in
    record {
      none = λ bits few. elim (cases_lt bits 60) [
        | inl l ↦ c.loop-bits.invariant.none bits (omega (arith, l, c.loop-bits-test.false))
        | inr h ↦ let e : 60 ≡ bits = omega arith in subst Misses e (c.in-Some-first_misfit.atom, found.is_atom, found.misfit)
      ];
      is_atom = found.is_atom;
      misfit = found.misfit;
      first = found.first;
    }
