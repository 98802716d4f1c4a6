-- Bool axes by number.
use Rattle.std.proofs.Common.{◌≡◌, ℕ, zero, suc, ◌<◌, ◌≤◌, [], ◌∷◌, length, get_or, Bool, false, refl, arith}
use Rattle.interval_model.specs.Space.{Domain, Space, allows}
use Rattle.cover_model.specs.State.{domain_allows}

pub allowed_at : (space : Space) (axis : ℕ) (v : Bool) (d : Domain) → axis < length space → domain_allows space axis v ≡ allows (get_or space axis d) v
allowed_at [] axis v d h = absurd (omega arith)
allowed_at (e ∷ space) zero v d h = refl
allowed_at (e ∷ space) (suc axis) v d h = allowed_at space axis v d (omega arith)

pub none_past : (space : Space) (axis : ℕ) (v : Bool) → length space ≤ axis → domain_allows space axis v ≡ false
none_past [] axis v h = refl
none_past (e ∷ space) zero v h = absurd (omega arith)
none_past (e ∷ space) (suc axis) v h = none_past space axis v (omega arith)
