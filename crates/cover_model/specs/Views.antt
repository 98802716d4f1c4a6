-- What the code's pairs of an atom and its multiplier stand for.
pub use Rattle.cover_line.specs.Views.{multipliers_of}
