-- How much is made of a script, and what stays where it is taken back.
use Rattle.std.specs.Prelude.{ℕ, [], length, take}
use Rattle.dyadic.specs.Point.{Sort}
use Rattle.term_build.specs.Marks as builder
use Rattle.value_build.specs.Making.{Making}
use Rattle.value_build.specs.declared.mark.Mark.{Mark}

-- how much the builder has made, and how many lists of bounds there are
pub record Counts : Type 0 where
  pub made : builder.Counts
  pub lists : ℕ

abbrev pub counts_of : Making → Counts
counts_of m = record { made = builder.counts_of m.made; lists = length m.bounds }

abbrev pub counts_in : Mark → Counts
counts_in k = record { made = builder.counts_in k.builder; lists = k.lists }

-- only so much stays, what was made first; nothing is drawn
abbrev pub taken : Counts → Making → Making
taken c m = record { made = builder.taken c.made m.made; drawn = []; bounds = take c.lists m.bounds }

-- one more constant, of this sort
abbrev pub with_sort : Making → Sort → Making
with_sort m s = record { made = builder.with_sort m.made s; drawn = m.drawn; bounds = m.bounds }
