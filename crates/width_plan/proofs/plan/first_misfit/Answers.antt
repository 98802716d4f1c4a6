use Rattle.std.proofs.Common.{◌∙◌, ℕ, length, get_or, arith, ap, sym, not, below_more}
use Rattle.std.proofs.lemmas.List.{length-map}
use Rattle.dyadic.specs.Views.{ext_of}
use Rattle.poly_graph.specs.declared.node.Atom.{Atom}
use Rattle.poly_graph.specs.declared.node.Kind.TheVariants.{Le}
use Rattle.poly_graph.specs.Term.{Kind}
use Rattle.poly_graph.specs.Views.{atom_of}
use Rattle.ival.specs.SpaceViews.{space_of}
use Rattle.width_plan.proofs.Finds.{atom_is, is_atom, term_inside, length_of, fits_is}
use Rattle.width_plan.proofs.plan.first_misfit.Goals as goal

abbrev default : Atom
default = record { term = 0; kind = Le }

pub bounds-widths-term : goal.bounds-widths-term
bounds-widths-term c =
    let p = c.args.problem.now in
    omega (
      arith,
      term_inside p c.atoms-atoms.result.now c.atoms-atoms.ensures.atoms c.loop-atom.atom c.loop-atom-test.true default c.atoms-atoms.ensures.whole,
      length_of (space_of c.args._root.now) c.args._bits p c.args.widths.now c.requires.widths,
    )

pub loop-atom-preserved : goal.loop-atom-preserved
loop-atom-preserved c =
    let p = c.args.problem.now in let items = c.atoms-atoms.result.now in let k = c.loop-atom.atom in
    let e = fits_is p c.args.delta_bits c.args.margin_bits c.args._bits k (space_of c.args._root.now) c.requires.root c.args.widths.now c.requires.widths (ext_of c.gap_of-gap.result) c.gap_of-gap.ensures
    (get_or items k default).term (ap (λ (a : ℕ × Kind). a.0) (atom_is p items c.atoms-atoms.ensures.atoms k c.loop-atom-test.true default))
    (term_inside p items c.atoms-atoms.ensures.atoms k c.loop-atom-test.true default c.atoms-atoms.ensures.whole) c.index-widths-term.result c.index-widths-term.is in
    below_more _ _ c.loop-atom.invariant (e ∙ ap not (sym c.at_most.ensures ∙ c.if-at_most.false))

pub returns-then-at_most : goal.returns-then-at_most
returns-then-at_most c =
    let p = c.args.problem.now in let items = c.atoms-atoms.result.now in let k = c.loop-atom.atom in
    let e = fits_is p c.args.delta_bits c.args.margin_bits c.args._bits k (space_of c.args._root.now) c.requires.root c.args.widths.now c.requires.widths (ext_of c.gap_of-gap.result) c.gap_of-gap.ensures
    (get_or items k default).term (ap (λ (a : ℕ × Kind). a.0) (atom_is p items c.atoms-atoms.ensures.atoms k c.loop-atom-test.true default))
    (term_inside p items c.atoms-atoms.ensures.atoms k c.loop-atom-test.true default c.atoms-atoms.ensures.whole) c.index-widths-term.result c.index-widths-term.is in
    record {
      is_atom = is_atom p items c.atoms-atoms.ensures.atoms k c.loop-atom-test.true default;
      misfit = ap not (e ∙ ap not (sym c.at_most.ensures ∙ c.if-at_most.true));
      first = c.loop-atom.invariant;
    }

pub returns : goal.returns
returns c = λ j l. c.loop-atom.invariant j (omega (arith, l, c.loop-atom-test.false, c.loop-atom.auto.atom-end, ap length c.atoms-atoms.ensures.atoms, length-map c.atoms-atoms.result.now atom_of))
