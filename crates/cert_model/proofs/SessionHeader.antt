-- The version, margin and delta of the header of several checks.
use Rattle.std.proofs.Common.{◌≡◌, ℕ, suc, List, [], ◌∷◌, Bool, ◌&&◌, IsTrue, Option, Some, refl, subst, length, take, nat_eq, nat_le, eqb→eq}
use Rattle.std.specs.Bool.{passes}
use Rattle.poly_graph.specs.Problem.{Problem}
use Rattle.cover_model.specs.State.{State, Loosenings}
use Rattle.cert_read.specs.CertLine.{CertLine, version, checks, cover, keep, point_word}
use Rattle.cert_model.specs.Due.{BadHeader, KeepFails, Extra, Value, Due, version_due, margin_due, kind_due, next_due, nothing_due, Next, on, faulty}
use Rattle.cert_model.specs.Accepted.{next, most_lemmas, loosenings_fit, Verdict, verdict, accepted, refused, most_bytes}
use Rattle.cert_model.specs.Session.{Part, SessionDue, header_due, checks_due, part_due, keep_due, first_due, inside_due, all_done, is_session_version, first_part, next_part, in_header, inside, in_part, none_complete, session_next, session_start, session_at_end, SessionVerdict, one_verdict, verdict_of_several, session_verdict, AreAccepted}
use Rattle.cert_model.specs.SessionLaws.{IsVersionFor}
use Rattle.cert_model.proofs.Invariant.{IfOn, IfAccepted, given_on, verdict_shows}
use Rattle.cert_model.proofs.Header.{Fits, FitsDue, next_fits, accepted_fits}

abbrev IsThird : ℕ → Type 0
IsThird v = IsTrue (is_session_version v)

-- the loosenings of what is due, where they are known, are in their limits
abbrev FitsIn : SessionDue → Type 0
FitsIn (header_due version_due) = Unit {0}
FitsIn (header_due d) = FitsDue IsThird d
FitsIn (checks_due s) = Fits IsThird (Some s)
FitsIn (part_due s t) = Fits IsThird (Some s)
FitsIn (keep_due s i t) = Fits IsThird (Some s)
FitsIn (first_due s i kept t) = Fits IsThird (Some s)
FitsIn (inside_due t d) = FitsDue IsThird d
FitsIn (all_done s values) = Fits IsThird (Some s)

header-fits : (x : Next) → IfOn (FitsDue IsThird) x → IfOn FitsIn (in_header x)
header-fits (faulty f) h = tt
header-fits (on version_due) h = tt
header-fits (on (kind_due s)) h = h
header-fits (on _) h = h

next-fits : (s : Loosenings) → Fits IsThird (Some s) → (q : Problem) (lemmas : List State) (values : List Value) (behind : List (Problem × Bool)) → FitsIn (next_part s q lemmas values behind)
next-fits s h q lemmas values [] = h
next-fits s h q lemmas values ((r, e) ∷ behind) = h

inside-fits : (t : Part) (d : Due) → FitsDue IsThird d → FitsIn (inside t d)
inside-fits t (nothing_due s lemmas v) h = next-fits s h t.problem lemmas _ t.later
inside-fits t _ h = h

part-fits : (t : Part) (x : Next) → IfOn (FitsDue IsThird) x → IfOn FitsIn (in_part t x)
part-fits t (faulty f) h = tt
part-fits t (on d) h = inside-fits t d h

first-fits : (t : Part) (x : Next) → IfOn (FitsDue IsThird) x → IfOn FitsIn (in_part t (none_complete x))
first-fits t (on d) h = inside-fits t d h
first-fits t (faulty Extra) h = tt
first-fits t (faulty _) h = tt

module _ (p : Problem) (later : List (Problem × Bool)) (b : Option ℕ) where
  line-fits : (d : SessionDue) (l : CertLine) → FitsIn d → IfOn FitsIn (session_next p later b d l)
  line-fits (header_due version_due) (version n) h = given_on FitsIn (is_session_version n) (header_due (margin_due n)) BadHeader (λ e. e)
  line-fits (header_due version_due) _ h = tt
  line-fits (header_due d) l h = header-fits (next p b d l) (next_fits IsThird p b d l h)
  line-fits (checks_due s) (checks c) h = given_on FitsIn (nat_eq c (suc (length later))) (part_due s (first_part p later)) BadHeader (λ e. h)
  line-fits (checks_due s) _ h = tt
  line-fits (part_due s t) (cover i) h = given_on FitsIn (nat_le i most_lemmas) (keep_due s i t) BadHeader (λ e. h)
  line-fits (part_due s t) point_word h = part-fits t (next t.problem b (kind_due s) point_word) (next_fits IsThird t.problem b (kind_due s) point_word h)
  line-fits (part_due s t) _ h = tt
  line-fits (keep_due s i t) (keep q) h = given_on FitsIn (nat_le q i && nat_le q (length t.may_keep)) (first_due s i (take q t.may_keep) t) KeepFails (λ e. h)
  line-fits (keep_due s i t) _ h = tt
  line-fits (first_due s i kept t) l h = first-fits t (next t.problem b (next_due s i kept) l) (next_fits IsThird t.problem b (next_due s i kept) l h)
  line-fits (inside_due t d) l h = part-fits t (next t.problem b d l) (next_fits IsThird t.problem b d l h)
  line-fits (all_done s values) l h = tt

  end-fits : (d : SessionDue) (n : ℕ) → FitsIn d → IfAccepted (λ s (values : List Value). Fits IsThird (Some s)) (session_at_end d n)
  end-fits (all_done s values) n h = h
  end-fits _ n h = tt

-- ---- of whole sessions

abbrev FitFor : ℕ → Loosenings → Type 0
FitFor n s = IsTrue (loosenings_fit s.margin_bits s.delta_bits) × IsVersionFor n s.version

one-fits : (p : Problem) (b : Option ℕ) (bytes : List ℕ) (w : Verdict) → verdict p b bytes ≡ w → IfAccepted (λ s (values : List Value). FitFor 1 s) (one_verdict w)
one-fits p b bytes (refused f n) h = tt
one-fits p b bytes (accepted s v) h = let f = accepted_fits p b bytes s v h in (f.1, f.0)

several-fit : (n : ℕ) (w : SessionVerdict) → IfAccepted (λ s (values : List Value). Fits IsThird (Some s)) w → IfAccepted (λ s (values : List Value). FitFor (suc (suc n)) s) w
several-fit n (refused f i) h = tt
several-fit n (accepted s values) h = (h.1, h.0)

session-fits : (ps : List (Problem × Bool)) (b : Option ℕ) (bytes : List ℕ) → IfAccepted (λ s (values : List Value). FitFor (length ps) s) (session_verdict ps b bytes)
session-fits [] b bytes = tt
session-fits ((p, e) ∷ []) b bytes = one-fits p b bytes (verdict p b bytes) refl
session-fits ((p, e) ∷ next ∷ later) b bytes = several-fit (length later) (verdict_of_several p (next ∷ later) b bytes)
    (verdict_shows (session_next p (next ∷ later) b) FitsIn (line-fits p (next ∷ later) b) (λ s (values : List Value). Fits IsThird (Some s)) session_at_end (end-fits p (next ∷ later) b)
    (nat_le (length bytes) most_bytes) session_start tt bytes)

-- the version, margin and delta of accepted bytes are in their limits
pub session_header_fits : (ps : List (Problem × Bool)) (b : Option ℕ) (bytes : List ℕ) (s : Loosenings) (values : List Value) → AreAccepted ps b bytes s values → FitFor (length ps) s
session_header_fits ps b bytes s values e = subst (λ (w : SessionVerdict). IfAccepted (λ s (values : List Value). FitFor (length ps) s) w) e (session-fits ps b bytes)
