-- Books that were searched on.
use Rattle.std.specs.Prelude.{◌≡◌, ◌≢◌}
use Rattle.cover_data.specs.Margins.{options_in}
use Rattle.cover_book.specs.Model.{BookModel}
use Rattle.cover_book.specs.Left.{LeavesDue}
use Rattle.cover_book.specs.Verdict.{verdict_of}
use Rattle.cover_book.specs.declared.verdict.BookVerdict.TheVariants.{NotYet}
use Rattle.cert_resume.specs.Request.{IsVersionOn}

-- the second book is for what the first one is, but that it may have gone over to version 5, opened with the same lemmas in the same state, and has
-- an answer
pub record IsSearchedOn (b b' : BookModel) : Type 0 where
  pub problem : b'.problem ≡ b.problem
  pub options : b'.options ≡ options_in b'.options.version b.options
  pub version : IsVersionOn b.options.version b'.options.version
  pub kept : b'.kept ≡ b.kept
  pub root : b'.root ≡ b.root
  pub verdict : verdict_of b' ≢ NotYet
  pub left : LeavesDue b'
