use Rattle.std.proofs.Common.{◌≡◌, List, None, get_or, subst, length, ap, sym, ◌∙◌, refl}
use Rattle.interval_model.specs.Interval.{Interval}
use Rattle.poly_graph.specs.Term.{variable_node}
use Rattle.cover_model.specs.Narrowed.{enclosures, narrowed, with_axes}
use Rattle.cover_model.proofs.NodeEnclosures.{length_enclosures}
use Rattle.cover_model.proofs.NarrowedAt.{length_narrowed}
use Rattle.cover_model.proofs.Axes.{told_empty, told_space}
use Rattle.ival.specs.Views.{interval_of}
use Rattle.ival.specs.RowViews.{rows_of}
use Rattle.ival.specs.SpaceViews.{space_of}
use Rattle.ival.specs.Options.{options_of, option_at}
use Rattle.ival.proofs.Optional.{length_options}
use Rattle.hc4.proofs.Skipped.{axes_stand}
use Rattle.cover_model.proofs.Unnarrowed.{variable_row}
use Rattle.hc4.specs.Sweeps.{StandsFor}
use Rattle.hc4.proofs.narrowing.narrow_by.Goals as goal

pub sweep-requires-clause-rows : goal.sweep-requires-clause-rows
sweep-requires-clause-rows c = ap length c.requires.rows ∙ length_enclosures (space_of c.args.space.now) c.args.graph.now

pub prove_eq-unreachable-requires : goal.prove_eq-unreachable-requires
prove_eq-unreachable-requires c = c.if-prove_eq.true (c.len.ensures ∙ ap length c.requires.rows ∙ length_enclosures (space_of c.args.space.now) c.args.graph.now ∙ sym c.len-2.ensures.len)

pub sweep-requires-clause-enclosures : goal.sweep-requires-clause-enclosures
sweep-requires-clause-enclosures c = record { was = space_of c.args.space.now; filled = c.requires.rows }

pub returns-then-not-sweep-clause-narrowed : goal.returns-then-not-sweep-clause-narrowed
returns-then-not-sweep-clause-narrowed c =
    let nodes = c.args.graph.now in let space = space_of c.args.space.now in let root = c.args.root in let wanted = interval_of c.args.range in
    let same = ap (λ (es : List Interval). narrowed nodes es root wanted) c.requires.rows in
    (told_empty nodes (narrowed nodes (enclosures space nodes) root wanted) (narrowed nodes (rows_of c.args.rows.now) root wanted) space same (c.if-not-sweep.ensures.none refl), refl)

pub returns-then-narrow_axes-clause-narrowed : goal.returns-then-narrow_axes-clause-narrowed
returns-then-narrow_axes-clause-narrowed c =
    let nodes = c.args.graph.now in let space = space_of c.args.space.now in let root = c.args.root in let wanted = interval_of c.args.range in
    let es = rows_of c.args.rows.now in let scratch = c.sweep.new.scratch in
    let same = ap (λ (xs : List Interval). narrowed nodes xs root wanted) c.requires.rows in
    let ns = narrowed nodes es root wanted in
    let axes : with_axes nodes (options_of scratch) space ≡ with_axes nodes ns space =
    axes_stand nodes (options_of scratch) ns space c.len-2.ensures.graph.once (length_options scratch ∙ c.sweep.ensures.count) (length_narrowed es root wanted 0 nodes)
    (λ k a e. subst (λ (i : Interval). StandsFor i (option_at scratch k) (get_or ns k None)) (variable_row space nodes es c.len-2.ensures.graph.ordered c.requires.rows k a e)
    (c.if-not-sweep.ensures.variables refl k (variable_node a) e)) in
    (told_space nodes (narrowed nodes (enclosures space nodes) root wanted) ns space (space_of c.narrow_axes.new.space) same (c.if-not-sweep.ensures.some refl) (c.narrow_axes.ensures.axes ∙ axes), c.if-narrow_axes.ensures.less refl)

pub returns-else-narrow_axes-clause-narrowed : goal.returns-else-narrow_axes-clause-narrowed
returns-else-narrow_axes-clause-narrowed c =
    let nodes = c.args.graph.now in let space = space_of c.args.space.now in let root = c.args.root in let wanted = interval_of c.args.range in
    let es = rows_of c.args.rows.now in let scratch = c.sweep.new.scratch in
    let same = ap (λ (xs : List Interval). narrowed nodes xs root wanted) c.requires.rows in
    let ns = narrowed nodes es root wanted in
    let axes : with_axes nodes (options_of scratch) space ≡ with_axes nodes ns space =
    axes_stand nodes (options_of scratch) ns space c.len-2.ensures.graph.once (length_options scratch ∙ c.sweep.ensures.count) (length_narrowed es root wanted 0 nodes)
    (λ k a e. subst (λ (i : Interval). StandsFor i (option_at scratch k) (get_or ns k None)) (variable_row space nodes es c.len-2.ensures.graph.ordered c.requires.rows k a e)
    (c.if-not-sweep.ensures.variables refl k (variable_node a) e)) in
    let kept = c.if-narrow_axes.ensures.same refl in
    (told_space nodes (narrowed nodes (enclosures space nodes) root wanted) ns space space same (c.if-not-sweep.ensures.some refl) (sym kept ∙ c.narrow_axes.ensures.axes ∙ axes), kept)
