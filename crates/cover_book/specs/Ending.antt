-- What an end leaves of a state in code.
use Rattle.std.specs.Prelude.{◌≡◌, false, Some, None, IsTrue}
use Rattle.cover_model.specs.State.{State}
use Rattle.cover_model.specs.Rules.{Line}
use Rattle.cover_data.specs.Runs.{is_closing, children}
use Rattle.cover_book.specs.declared.ending.Ending.{Ending}
use Rattle.cover_book.specs.declared.ending.Ending.TheVariants.{Closed, Parted, Stuck}

abbrev pub IsEndingOf : Line → State → Ending → Type 0
IsEndingOf l S Closed = IsTrue (is_closing l) × (children l S ≡ None)
IsEndingOf l S (Parted T U) = children l S ≡ Some (T, U)
IsEndingOf l S (Stuck T) = (is_closing l ≡ false) × (children l S ≡ None) × (T ≡ S)
