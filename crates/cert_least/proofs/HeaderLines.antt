-- The lines of a header that the checker took before.
use Rattle.std.proofs.Common.{◌≡◌, ℕ, Bool, IsTrue, Option, refl, ap, sym, ◌∙◌, subst, inl, inr, Result, Ok, Err}
use Rattle.std.specs.Prelude.{IsErr, IsErrAnd}
use Rattle.poly_graph.specs.Problem.{Problem}
use Rattle.cover_model.specs.State.{Loosenings}
use Rattle.cert_read.specs.CertLine.{version, margin, delta, bound}
use Rattle.cert_model.specs.Due.{BadHeader, WrongBound, Due, version_due, margin_due, delta_due, bound_due, kind_due, Next, on, faulty, given, is_version}
use Rattle.cert_model.specs.Accepted.{next, loosenings_fit}
use Rattle.cert_model.proofs.Writes.{same_bounds}
use Rattle.cert_check.specs.declared.fault.CertFault.{CertFault}
use Rattle.cert_check.specs.declared.fault.CertFault.TheVariants.{Memory}
use Rattle.cert_check.specs.Checked.{Checked}
use Rattle.cert_check.specs.Dues.{lean, lean_next}
use Rattle.cert_least.specs.Phases.{IsDueTo}
use Rattle.cert_least.specs.Steps.{IsFaultOrMemory, IsOnward, IsTaken}

on-same : {d e : Due} → on d ≡ on e → d ≡ e
on-same e = cc

-- a line that leads on has no fault
no-fault : (x : Next) (d : Due) (f : CertFault) → x ≡ on d → IsFaultOrMemory f x → f ≡ Memory
no-fault x d f e (inl h) = h
no-fault x d f e (inr h) = let k : on d ≡ faulty h.fault = sym e ∙ h.says in cc

module _ (p : Problem) (b : Option ℕ) (c : Checked) where
  taken : (x : Next) (d : Due) → x ≡ on d → (r : Result (Unit {0}) CertFault) → IsOnward p b x c r → IsTaken p b (lean d) c r
  taken x d e (Ok t) h = subst (λ (d' : Due). IsDueTo p b d' c) (sym (on-same (sym (ap lean_next e) ∙ h.leads))) h.is_due
  taken x d e (Err f) h = no-fault x d f e h

  -- want of memory that `?` hands on
  pub handed_on : (r : Result (Unit {0}) CertFault) (f : CertFault) → IsErr r × IsErrAnd r (λ g. g ≡ f) → f ≡ Memory → (d : Due) → IsTaken p b d c r
  handed_on (Ok t) f h e d = absurd h.1
  handed_on (Err g) f h e d = h.1 ∙ e

  pub version_taken : (v : ℕ) → IsTrue (is_version v) → (r : Result (Unit {0}) CertFault) → IsOnward p b (next p b version_due (version v)) c r → IsTaken p b (margin_due v) c r
  version_taken v h = taken (next p b version_due (version v)) (margin_due v) (ap (λ (t : Bool). given t (margin_due v) BadHeader) h)

  pub margin_taken : (v m : ℕ) (r : Result (Unit {0}) CertFault) → IsOnward p b (next p b (margin_due v) (margin m)) c r → IsTaken p b (delta_due v m) c r
  margin_taken v m = taken (next p b (margin_due v) (margin m)) (delta_due v m) refl

  pub delta_taken : (s : Loosenings) → IsTrue (loosenings_fit s.margin_bits s.delta_bits) → (r : Result (Unit {0}) CertFault) →
      IsOnward p b (next p b (delta_due s.version s.margin_bits) (delta s.delta_bits)) c r → IsTaken p b (bound_due s) c r
  delta_taken s h = taken (next p b (delta_due s.version s.margin_bits) (delta s.delta_bits)) (bound_due s) (ap (λ (t : Bool). given t (bound_due s) BadHeader) h)

  pub bound_taken : (s : Loosenings) (r : Result (Unit {0}) CertFault) → IsOnward p b (next p b (bound_due s) (bound b)) c r → IsTaken p b (kind_due s) c r
  bound_taken s = taken (next p b (bound_due s) (bound b)) (kind_due s) (ap (λ (t : Bool). given t (kind_due s) WrongBound) (same_bounds b))
