use Rattle.std.proofs.Common.{◌≡◌, ◌≢◌, ℕ, ◌<◌, Bool, ◌||◌, length, set, get_or, get_or-set_same, get_or-set_other, below_more, true, false, ap, sym, refl, ◌∙◌, arith}
use Rattle.std.proofs.lemmas.List.{length-set}
use Rattle.dyadic.specs.Rounding.{two_to_minus}
use Rattle.interval_model.specs.Interval.{met, is_nothing}
use Rattle.poly_graph.specs.Term.{Kind}
use Rattle.poly_graph.specs.declared.node.Atom.{Atom}
use Rattle.poly_graph.specs.declared.node.Kind.TheVariants.{Le}
use Rattle.poly_graph.specs.Problem.{atom_at}
use Rattle.poly_graph.specs.ProblemViews.{problem_of}
use Rattle.poly_graph.specs.Views.{atom_of}
use Rattle.cover_model.specs.NodeEnclosure.{row}
use Rattle.cover_model.specs.Space.{range}
use Rattle.ival.specs.RowViews.{rows_of, marks_of, is_marked}
use Rattle.cert_check.specs.Judged.{row_misses}
use Rattle.cert_check.proofs.Rows.{same_atom}
use Rattle.cert_check.proofs.judged.judge.Goals as goal

or-false : (a b : Bool) → (a || b) ≡ false → (a ≡ false) × (b ≡ false)
or-false true b h = absurd (let t : true ≡ false = h in cc)
or-false false b h = (refl, h)

-- the new value, judged again or not
either : (due : Bool) (r was right : Bool) → (due ≡ true → r ≡ right) → (due ≡ false → r ≡ was) → (due ≡ false → was ≡ right) → r ≡ right
either true r was right f g h = f refl
either false r was right f g h = g refl ∙ h refl

pub loop-j-preserved : goal.loop-j-preserved
loop-j-preserved c =
    let p = c.args.problem.now in let j = c.loop-j.j in let old = c.loop-j.misses in let es = rows_of c.args.rows.now in let marks = marks_of c.args.rows.now in let m = c.args.margin in
    let items = c.atoms.result.now in let d : Atom = record { term = 0; kind = Le } in let atom : Atom = get_or items j d in
    let inside : j < length old = omega (arith, c.loop-j-test.true, c.loop-j.invariant.count, c.requires.count) in
    let l : j < length p.atoms = omega (arith, inside, c.loop-j.invariant.count) in
    let is : atom_of atom ≡ atom_at (problem_of p) j = same_atom p items d j c.atoms.ensures.atoms l in
    let r = c.again.result in
    let term : atom.term ≡ (atom_at (problem_of p) j).0 = ap (λ (a : ℕ × Kind). a.0) is in
    let here : r ≡ row_misses p m es j = either (c.args.all || is_marked marks atom.term) r (get_or old j false) (row_misses p m es j)
    (λ h. c.again.ensures.due h ∙ ap (λ (a : ℕ × Kind). is_nothing (met (row es a.0) (range (two_to_minus m) a.1))) is)
    (λ h. c.again.ensures.kept h)
    (λ h. let f = or-false c.args.all (is_marked marks atom.term) h in
    c.loop-j.invariant.ahead j (omega arith) ∙ c.requires.others j l f.0 (ap (is_marked marks) (sym term) ∙ f.1)) in
    record {
      count = length-set old j r ∙ c.loop-j.invariant.count;
      done = below_more (λ k. get_or (set old j r) k false ≡ row_misses p m es k) j
          (λ k h. let o : k ≢ j = omega arith in get_or-set_other old j k r false o ∙ c.loop-j.invariant.done k h)
          (get_or-set_same old j r false inside ∙ here);
      ahead = λ k h. let o : k ≢ j = omega arith in get_or-set_other old j k r false o ∙ c.loop-j.invariant.ahead k (omega arith);
    }
