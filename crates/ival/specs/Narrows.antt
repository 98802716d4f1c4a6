-- What a narrowing does to a space, and what it tells.
use Rattle.std.specs.Prelude.{◌≡◌, ◌≢◌, Option, Some, None}
use Rattle.ival.specs.declared.narrowed.Narrowed.{Narrowed}
use Rattle.ival.specs.declared.narrowed.Narrowed.TheVariants.{Same, Less, Empty}
use Rattle.interval_model.specs.Space.{Space}

-- from the old space to the new one, where the narrowed space is n
abbrev pub IsNarrowed : Space → Space → Option Space → Narrowed → Type 0
IsNarrowed old new n Same = (n ≡ Some old) × (new ≡ old)
IsNarrowed old new n Less = (n ≡ Some new) × (new ≢ old)
IsNarrowed old new n Empty = (n ≡ None) × (new ≡ old)
