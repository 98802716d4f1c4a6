use Rattle.std.proofs.Common.{drop}
use Rattle.ival.specs.SpaceViews.{space_of}
use Rattle.combine.specs.Parts.{AreKept}
use Rattle.combine.proofs.axes.are_kept.Given as goal

-- the parts before this place are kept
abbrev pub invariant-loop-part : goal.invariant-loop-part
invariant-loop-part l = record {
  back : AreKept (space_of l.space) (drop l.part-index l.parts) → AreKept (space_of l.space) l.parts;
  on : AreKept (space_of l.space) l.parts → AreKept (space_of l.space) (drop l.part-index l.parts);
}
