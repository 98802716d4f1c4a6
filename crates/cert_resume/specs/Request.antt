-- What is asked for, as the definitions see it.
use Rattle.std.specs.Prelude.{◌≡◌, ◌⊎◌, ℕ, ◌≤◌, cond, nat_le}
use Rattle.cover_data.specs.declared.margins.Options.{Options}
use Rattle.cert_base.specs.declared.base.Base.{Base}
use Rattle.cert_resume.specs.declared.request.Request.{Request}
use Rattle.cert_resume.specs.declared.request.Share as code
use Rattle.cert_resumed.specs.Resumed.{Share}

abbrev pub share_of : code.Share → Share
share_of h = record { number = h.number; count = h.count }

-- one of the shares
pub record IsShare (h : code.Share) : Type 0 where
  pub some : 1 ≤ h.number
  pub within : h.number ≤ h.count

-- the version in which a search begins that goes on from one of this version
abbrev pub first_version : ℕ → ℕ
first_version v = cond (nat_le v 2) 2 5

-- the second is the version of a search that begins in the first one, and may go over to 5
abbrev pub IsVersionOn : ℕ → ℕ → Type 0
IsVersionOn v w = (w ≡ v) ⊎ (w ≡ 5)

-- what books are searched for that go on from the base, with so many branches left
abbrev pub options_with : Base → Request → ℕ → Options
options_with b r budget = record {
  delta_bits = b.delta;
  margin_bits = b.margin;
  least_bits = r.least_bits;
  version = first_version b.version;
  budget = budget;
  workers = r.workers;
  bound = b.bound;
}

abbrev pub options_of : Base → Request → Options
options_of b r = options_with b r r.budget
