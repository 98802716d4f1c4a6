use Rattle.std.proofs.Common.{◌≡◌, ◌++◌}
use Rattle.std.specs.Iterator.Adapters.{zip_first, zip_second}
use Rattle.std.specs.Slice.Iter.{iter_rest}
use Rattle.check_run.specs.Shown.{shown_text}
use Rattle.check_run.proofs.Lines.{lines}
use Rattle.check_run.proofs.axes.append_axes.Given as goal

-- what was written, and the lines of the axes that are left, are the whole text
abbrev pub invariant-loop-axis : goal.invariant-loop-axis
invariant-loop-axis l =
    l.text.items ++ lines (shown_text l.shown) (iter_rest (zip_first l.axis-iterator)) (iter_rest (zip_second l.axis-iterator))
    ≡ l.fn.text.items ++ lines (shown_text l.shown) l.axes l.space.axes.items
