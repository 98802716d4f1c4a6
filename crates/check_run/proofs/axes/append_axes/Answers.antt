use Rattle.std.specs.Iterator.Adapters.{zip_first, zip_second}
use Rattle.std.specs.Slice.Iter.{iter_rest}
use Rattle.std.proofs.lemmas.Slice.Zip.{either_empty_from_Zip}
use Rattle.check_run.specs.Shown.{shown_text}
use Rattle.check_run.proofs.Lines.{all_written}
use Rattle.check_run.proofs.axes.append_axes.Goals as goal

pub returns : goal.returns
returns c =
    all_written (shown_text c.args.shown) (iter_rest (zip_first c.loop-axis.axis-iterator)) (iter_rest (zip_second c.loop-axis.axis-iterator)) _ _
    (either_empty_from_Zip c.loop-axis.axis-iterator c.next.new.self _ c.in-None.is c.next.ensures.steps) c.loop-axis.invariant
