-- Where a checker says that it stands.
use Rattle.std.specs.Prelude.{List}
use Rattle.cover_model.specs.State.{State, Loosenings}
use Rattle.ival.specs.SpaceViews.{space_of}
use Rattle.cert_check.specs.declared.stand.Stand as code
use Rattle.cert_check.specs.declared.stand.Stand.TheVariants as code-stand
use Rattle.cert_check.specs.declared.stand.WholeCover.{WholeCover}
use Rattle.cert_check.specs.States.{loosenings_of}
use Rattle.cert_check.specs.Courses.{Stand, elsewhere, at_root, at_state}

abbrev pub stand_of : code.Stand → Stand
stand_of code-stand.Elsewhere = elsewhere
stand_of code-stand.Root = at_root
stand_of (code-stand.At space lits) = at_state (record { space = space_of space.now; marks = lits.now })

abbrev pub whole_cover_of : WholeCover → Loosenings × List State
whole_cover_of c = (loosenings_of c.loosenings.now, c.lemmas.now)
