use Rattle.std.proofs.Common.{◌∙◌, List, length, ap, sym, refl}
use Rattle.interval_model.specs.Interval.{Interval}
use Rattle.ival.specs.Views.{interval_of}
use Rattle.cover_model.specs.Narrowed.{enclosures, narrowed}
use Rattle.cover_model.proofs.NodeEnclosures.{length_enclosures}
use Rattle.ival.specs.SpaceViews.{space_of}
use Rattle.ival.specs.Options.{options_of}
use Rattle.cover_model.proofs.Axes.{told_empty, told_space}
use Rattle.plain_eval.proofs.narrowing.narrow_by.Goals as goal

pub returns-then-some_empty-clause-narrowed : goal.returns-then-some_empty-clause-narrowed
returns-then-some_empty-clause-narrowed c =
    let nodes = c.args.graph.now in let space = space_of c.args.space.now in let root = c.args.root in let wanted = interval_of c.args.range in
    let rows = c.requires.rows in
    let same = c.narrow_rows.ensures.options ∙ ap (λ (es : List Interval). narrowed nodes es root wanted) rows in
    (told_empty nodes (narrowed nodes (enclosures space nodes) root wanted) (options_of c.narrow_rows.new.scratch) space same (sym c.if-some_empty.ensures), refl)

pub returns-then-narrow_axes-clause-narrowed : goal.returns-then-narrow_axes-clause-narrowed
returns-then-narrow_axes-clause-narrowed c =
    let nodes = c.args.graph.now in let space = space_of c.args.space.now in let root = c.args.root in let wanted = interval_of c.args.range in
    let rows = c.requires.rows in
    let same = c.narrow_rows.ensures.options ∙ ap (λ (es : List Interval). narrowed nodes es root wanted) rows in (
      told_space nodes (narrowed nodes (enclosures space nodes) root wanted) (options_of c.narrow_rows.new.scratch) space (space_of c.narrow_axes.new.space) same (sym c.if-some_empty.ensures) c.narrow_axes.ensures.axes,
      c.if-narrow_axes.ensures.less refl,
    )

pub returns-else-narrow_axes-clause-narrowed : goal.returns-else-narrow_axes-clause-narrowed
returns-else-narrow_axes-clause-narrowed c =
    let nodes = c.args.graph.now in let space = space_of c.args.space.now in let root = c.args.root in let wanted = interval_of c.args.range in
    let rows = c.requires.rows in
    let same = c.narrow_rows.ensures.options ∙ ap (λ (es : List Interval). narrowed nodes es root wanted) rows in
    let kept = c.if-narrow_axes.ensures.same refl in
    (told_space nodes (narrowed nodes (enclosures space nodes) root wanted) (options_of c.narrow_rows.new.scratch) space space same (sym c.if-some_empty.ensures) (sym kept ∙ c.narrow_axes.ensures.axes), kept)

pub narrow_rows-requires-clause-rows : goal.narrow_rows-requires-clause-rows
narrow_rows-requires-clause-rows c = ap length c.requires.rows ∙ length_enclosures (space_of c.args.space.now) c.args.graph.now
