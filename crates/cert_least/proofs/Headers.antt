-- What is due in a cover keeps its header.
use Rattle.std.proofs.Common.{◌≡◌, ℕ, IsTrue, Option, Some, None, refl, sym, ◌∙◌, subst}
use Rattle.std.specs.Prelude.{IsSomeAnd}
use Rattle.poly_graph.specs.Problem.{Problem}
use Rattle.cover_model.specs.State.{Loosenings}
use Rattle.cert_read.specs.CertLine.{CertLine}
use Rattle.cert_model.specs.Due.{left_open, Due, version_due, kind_due, nothing_due, Next, on, faulty}
use Rattle.cert_model.specs.Accepted.{next, is_header}
use Rattle.cert_model.proofs.Header.{known, Same, AllSame, next_same}
use Rattle.cert_check.specs.Dues.{lean, lean_next}
use Rattle.cert_least.specs.Phases.{cover_value, loosenings_in, HasHeader, IsKindDue}

on-same : {d e : Due} → on d ≡ on e → d ≡ e
on-same e = cc

known-in : (d : Due) → known d ≡ loosenings_in d
known-in version_due = refl
known-in _ = refl

lean-in : (d : Due) → loosenings_in (lean d) ≡ loosenings_in d
lean-in version_due = refl
lean-in _ = refl

-- a header that is there
record HeaderIn (o : Option Loosenings) : Type 0 where
  loosenings : Loosenings
  there : o ≡ Some loosenings
  header : IsTrue (is_header loosenings)

header-in : (o : Option Loosenings) → IsSomeAnd o (λ s. IsTrue (is_header s)) → HeaderIn o
header-in None h = absurd h
header-in (Some s) h = record { loosenings = s; there = refl; header = h }

stays : (s : Loosenings) → IsTrue (is_header s) → (x : Next) → Same s x → (d : Due) → lean_next x ≡ on d → HasHeader d
stays s h (on d') k d e =
    subst HasHeader (on-same e) (subst (λ (o : Option Loosenings). IsSomeAnd o (λ t. IsTrue (is_header t))) (sym (lean-in d' ∙ sym (known-in d') ∙ k)) h)
stays s h (faulty f) k d e = cc

pub header_stays : (p : Problem) (b : Option ℕ) (d : Due) (l : CertLine) → HasHeader d → (d' : Due) → lean_next (next p b d l) ≡ on d' → HasHeader d'
header_stays p b d l h =
    let k = header-in (loosenings_in d) h in
    stays k.loosenings k.header (next p b d l) (subst (λ (o : Option Loosenings). AllSame o (next p b d l)) (known-in d ∙ k.there) (next_same p b d l))

-- the header before a cover
pub header_told : (s : Loosenings) (d : Due) → IsKindDue s d → IsTrue (is_header s)
header_told s (kind_due s') h = h.1
header_told s _ h = absurd h

pub kind_has_header : (s : Loosenings) (d : Due) → IsKindDue s d → HasHeader d
kind_has_header s (kind_due s') h = subst (λ (t : Loosenings). IsTrue (is_header t)) (sym h.0) h.1
kind_has_header s _ h = absurd h

-- the header of a whole one
pub cover_header : (d : Due) (s : Loosenings) → HasHeader d → cover_value d ≡ Some s → IsTrue (is_header s)
cover_header (nothing_due s' lemmas (left_open left)) s h e = let same : s' ≡ s = cc in subst (λ (t : Loosenings). IsTrue (is_header t)) same h
cover_header _ s h e = cc
