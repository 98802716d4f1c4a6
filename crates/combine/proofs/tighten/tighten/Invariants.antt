use Rattle.std.proofs.Common.{◌≡◌, ◌<◌, ◌≤◌, ℕ, ◌++◌, length, map, take, drop}
use Rattle.cover_model.specs.Combination.{tightened}
use Rattle.ival.specs.Views.{interval_of}
use Rattle.ival.specs.SpaceViews.{space_of}
use Rattle.combine.specs.Parts.{part_of, AreParts}
use Rattle.combine.specs.Lefts.{pairs, IsLeft}
use Rattle.combine.proofs.tighten.tighten.Given as goal

-- what is left to the parts before this place has been put there
abbrev pub invariant-loop-k : goal.invariant-loop-k
invariant-loop-k l = record {
  room : length l.parts ≤ length l.lefts;
  same : length l.lefts ≡ length l.initial.lefts;
  parts : AreParts (space_of l.space) (space_of l.centre) (drop l.k l.parts);
  done : tightened (space_of l.space) (space_of l.centre) (interval_of l.allowed) (interval_of l.initial.before) (map part_of l.parts)
      ≡ pairs (take l.k l.parts) (take l.k l.lefts) ++ tightened (space_of l.space) (space_of l.centre) (interval_of l.allowed) (interval_of l.before) (map part_of (drop l.k l.parts));
  left : (k : ℕ) → k < l.k → IsLeft l.lefts k;
}
