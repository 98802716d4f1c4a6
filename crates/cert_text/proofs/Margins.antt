-- The headers of options that are within their limits.
use Rattle.std.proofs.Common.{◌≡◌, ◌⊎◌, inl, inr, ℕ, suc, IsTrue, ap}
use Rattle.std.proofs.lemmas.Bool.{le-leb}
use Rattle.dyadic.proofs.Equal.{both_pass}
use Rattle.cover_data.specs.declared.margins.Margins.{Margins}
use Rattle.cover_data.specs.Margins.{AreMargins, loosenings_of}
use Rattle.cert_model.specs.Due.{is_version}
use Rattle.cert_model.specs.Accepted.{is_header, loosenings_fit}
use Rattle.cert_model.specs.Session.{is_session_version}
use Rattle.cert_text.specs.Session.{session_version}

pub margins_fit : (m : Margins) → AreMargins m → IsTrue (loosenings_fit m.margin_bits m.delta_bits)
margins_fit m h =
    both_pass _ _ (both_pass _ _ (both_pass _ _ (le-leb 1 m.delta_bits h.some_delta) (le-leb m.delta_bits 30 h.few_delta)) (le-leb (suc m.delta_bits) m.margin_bits h.above_delta)) (le-leb m.margin_bits 60 h.few_margin)

pub header_fits : (m : Margins) → AreMargins m → IsTrue (is_header (loosenings_of m))
header_fits m h = both_pass (is_version m.version) (loosenings_fit m.margin_bits m.delta_bits) (elim h.version_is [ inl e ↦ ap is_version e | inr e ↦ ap is_version e ]) (margins_fit m h)

pub session_version_fits : (v : ℕ) → (v ≡ 2) ⊎ (v ≡ 5) → IsTrue (is_session_version (session_version v))
session_version_fits v (inl e) = ap (λ (n : ℕ). is_session_version (session_version n)) e
session_version_fits v (inr e) = ap (λ (n : ℕ). is_session_version (session_version n)) e
