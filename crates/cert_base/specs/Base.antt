-- What the bytes of a certificate are read back as.
use Rattle.std.specs.Prelude.{◌≡◌, ℕ, List, [], Option, Result, Ok, Err, map}
use Rattle.poly_graph.specs.Problem.{Problem}
use Rattle.ival.specs.SpaceViews.{space_of}
use Rattle.ival.specs.declared.space.Space.{Space}
use Rattle.cover_model.specs.State.{Loosenings}
use Rattle.cover_line.specs.Views.{line_of as rule_of}
use Rattle.cert_read.specs.Views.{line_of}
use Rattle.cert_model.specs.Due.{at_point, left_open}
use Rattle.cert_model.specs.Accepted.{IsAccepted, verdict}
use Rattle.cert_resumed.specs.Resumed.{CoverRead, IsCoverRead}
use Rattle.cert_check.specs.declared.fault.CertFault.{CertFault}
use Rattle.cert_check.specs.Feeding.{IsRefusalOrMemory}
use Rattle.cert_base.specs.Gathered.{standing_states}
use Rattle.cert_base.specs.declared.base.Base.{Base}
use Rattle.cert_base.specs.declared.base.Read.{Read}
use Rattle.cert_base.specs.declared.base.Read.TheVariants as reads

abbrev pub loosenings_of : Base → Loosenings
loosenings_of b = record { margin_bits = b.margin; delta_bits = b.delta; version = b.version }

-- the base has what was read of the cover
pub record IsBaseOf (c : CoverRead) (b : Base) : Type 0 where
  pub loosenings : loosenings_of b ≡ c.loosenings
  pub lemma_lines : map line_of b.lemma_lines.items ≡ c.lemma_lines
  pub lemmas : b.lemmas.items ≡ c.lemmas
  pub main : map rule_of b.main.items ≡ c.main
  pub left : b.left.items ≡ standing_states c.left

-- the bytes are accepted as a cover that leaves something, of which this is the base
pub record IsBase (p : Problem) (b : Option ℕ) (bytes : List ℕ) (base : Base) : Type 0 where
  pub read : CoverRead
  pub is_read : IsCoverRead p b bytes read
  pub of : IsBaseOf read base
  pub bound : base.bound ≡ b
  pub some : ¬ (base.left.items ≡ [])

-- the bytes are accepted as this point, with so many bits of delta
pub record IsPointRead (p : Problem) (b : Option ℕ) (bytes : List ℕ) (point : Space) (d : ℕ) : Type 0 where
  pub loosenings : Loosenings
  pub accepted : IsAccepted p b bytes loosenings (at_point (space_of point))
  pub delta : d ≡ loosenings.delta_bits

-- the bytes are accepted as a cover that leaves nothing, with so many bits of margin
pub record IsClosedRead (p : Problem) (b : Option ℕ) (bytes : List ℕ) (m : ℕ) : Type 0 where
  pub loosenings : Loosenings
  pub accepted : IsAccepted p b bytes loosenings (left_open [])
  pub margin : m ≡ loosenings.margin_bits

abbrev pub IsRead : Problem → Option ℕ → List ℕ → Read → Type 0
IsRead p b bytes (reads.Point space d) = IsPointRead p b bytes space d
IsRead p b bytes (reads.Closed m) = IsClosedRead p b bytes m
IsRead p b bytes (reads.Cover base) = IsBase p b bytes base

-- what the bytes are read back as; the fault of their verdict, or no memory
abbrev pub IsReadBack : Problem → Option ℕ → List ℕ → Result Read CertFault → Type 0
IsReadBack p b bytes (Ok r) = IsRead p b bytes r
IsReadBack p b bytes (Err f) = IsRefusalOrMemory (verdict p b bytes) f
