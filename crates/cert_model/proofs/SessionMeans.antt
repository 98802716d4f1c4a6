-- What accepted parts say of points: a part's lemmas are those that it keeps, of which no point meets the form, and others that are
-- derived from them.
use Rattle.std.proofs.Common.{◌≡◌, ℕ, suc, zero, List, [], ◌∷◌, ◌++◌, map, take, length, Bool, true, false, not, ◌&&◌, cond, Option, Some, None, refl, sym, subst, true≢false, nat_eq, nat_le, append-nil, append_assoc}
use Rattle.std.specs.List.{AllByRecursion}
use Rattle.poly_graph.specs.Problem.{Problem, IsProblem, first_crossed}
use Rattle.cover_model.specs.State.{State, Loosenings, IsLemma}
use Rattle.cover_model.specs.Fits.{FitsProblem}
use Rattle.cover_model.specs.Carried.{GoesOnFrom, carried}
use Rattle.cover_model.specs.Derivation.{AreLemmas}
use Rattle.cover_model.proofs.Sound.{none_left}
use Rattle.cover_model.proofs.Carried.{carried_lemma_holds}
use Rattle.cert_read.specs.CertLine.{CertLine, version, checks, cover, keep, point_word}
use Rattle.cert_model.specs.Due.{BadHeader, KeepFails, CertFault, Extra, Value, at_point, left_open, Due, version_due, margin_due, kind_due, next_due, nothing_due, Next, on, faulty, is_some_axis, is_crossed_box}
use Rattle.cert_model.specs.Accepted.{next, most_lemmas, Verdict, verdict_of, accepted, refused, most_bytes, verdict}
use Rattle.cert_model.specs.Session.{Part, SessionDue, header_due, checks_due, part_due, keep_due, first_due, inside_due, all_done, kept_by, is_session_version, first_part, next_part, in_header, inside, in_part, none_complete, session_next, session_start, session_course, session_ended, session_at_end, SessionVerdict, one_verdict, session_verdict, AreAccepted}
use Rattle.cert_model.specs.SessionLaws.{GoOn, IsSession, ValueHolds, ValuesHold}
use Rattle.cert_model.proofs.Invariant.{IfOn, IfAccepted, given_on, verdict_shows}
use Rattle.cert_model.proofs.Header.{known, Same, AllSame, next_same}
use Rattle.cert_model.proofs.Derives.{IsGrowing, IsAnswer, Fine, next_fine}
use Rattle.cert_model.proofs.Carries.{carried_fits}
use Rattle.cert_model.proofs.Means.{tree_catches, cover_catches, shown_means, point_means}

-- ---- lemmas of a part

abbrev pub IsKept : Problem → Loosenings → State → Type 0
IsKept p s L = FitsProblem p L × IsLemma p s L

abbrev pub AreKept : Problem → Loosenings → List State → Type 0
AreKept p s lemmas = AllByRecursion (IsKept p s) lemmas

are-lemmas : (p : Problem) (s : Loosenings) (lemmas : List State) → AreKept p s lemmas → AreLemmas p s lemmas
are-lemmas p s [] h i L e = cc
are-lemmas p s (K ∷ lemmas) h zero L e = let same : K ≡ L = cc in subst (λ (M : State). IsLemma p s M) same h.0.1
are-lemmas p s (K ∷ lemmas) h (suc i) L e = are-lemmas p s lemmas h.1 i L e

one-more : (p : Problem) (s : Loosenings) (lemmas : List State) (L : State) → AreKept p s lemmas → IsKept p s L → AreKept p s (lemmas ++ (L ∷ []))
one-more p s [] L h k = (k, tt)
one-more p s (K ∷ lemmas) L h k = (h.0, one-more p s lemmas L h.1 k)

kept-grow : (p : Problem) → IsProblem p → IsGrowing p (AreKept p)
kept-grow p g = record {
  none = λ s. tt;
  more = λ s lemmas L h f t r. one-more p s lemmas L h (f, none_left p s g lemmas (are-lemmas p s lemmas h) r);
}

take-kept : (p : Problem) (s : Loosenings) (i : ℕ) (lemmas : List State) → AreKept p s lemmas → AreKept p s (take i lemmas)
take-kept p s zero lemmas h = tt
take-kept p s (suc i) [] h = tt
take-kept p s (suc i) (L ∷ lemmas) h = (h.0, take-kept p s i lemmas h.1)

all-carried : (p q : Problem) → IsProblem p → IsProblem q → GoesOnFrom p q → first_crossed q ≡ None → (s : Loosenings) (lemmas : List State) → AreKept p s lemmas → AreKept q s (map (carried q) lemmas)
all-carried p q f g ahead c s [] h = tt
all-carried p q f g ahead c s (L ∷ lemmas) h = ((carried_fits p q g ahead c L h.0.0, carried_lemma_holds p q f ahead s L h.0.0 h.0.1), all-carried p q f g ahead c s lemmas h.1)

not-crossed : (q : Problem) → is_crossed_box q ≡ false → first_crossed q ≡ None
not-crossed q e = by (first_crossed q) e
  where
    by : (o : Option ℕ) → is_some_axis o ≡ false → o ≡ None
    by None h = refl
    by (Some i) h = absurd (true≢false h)

-- what the next part may keep of a part's lemmas
next-kept : (p q : Problem) → IsProblem p → IsProblem q → (e : Bool) → (e ≡ true → GoesOnFrom p q) → (s : Loosenings) (lemmas : List State) → AreKept p s lemmas → AreKept q s (kept_by e p lemmas q)
next-kept p q f g e ahead s lemmas h = by e (is_crossed_box p) (is_crossed_box q) ahead (λ c. c)
  where
    by : (e c d : Bool) → (e ≡ true → GoesOnFrom p q) → (d ≡ false → is_crossed_box q ≡ false) → AreKept q s (cond (e && not c && not d) (map (carried q) lemmas) [])
    by false c d i k = tt
    by true true d i k = tt
    by true false true i k = tt
    by true false false i k = all-carried p q f g (i refl) (not-crossed q (k refl)) s lemmas h

-- ---- values

value-holds : (p : Problem) → IsProblem p → (s : Loosenings) (lemmas : List State) (v : Value) → IsAnswer p (AreKept p) s lemmas v → ValueHolds s p v
value-holds p g s lemmas (at_point space) h = shown_means p g s space h.1 h.2
value-holds p g s lemmas (left_open left) h = tree_catches p g s lemmas (are-lemmas p s lemmas h.0) left h.1

-- what is said of values does not ask for the commands in force
whatever-force : (s : Loosenings) (p : Problem) (c e : Bool) (later : List (Problem × Bool)) (vs : List Value) → ValuesHold s ((p, c) ∷ later) vs → ValuesHold s ((p, e) ∷ later) vs
whatever-force s p c e later [] h = h
whatever-force s p c e later (v ∷ vs) h = h

is-first : (p : Problem) (later : List (Problem × Bool)) → GoOn p later → IsProblem p
is-first p [] h = h
is-first p ((q, e) ∷ later) h = h.0

-- ---- what is due

module _ (ps : List (Problem × Bool)) (p : Problem) (later : List (Problem × Bool)) (b : Option ℕ) where
  -- a part on its way: what it may keep holds, and with the values to come those of all parts do
  record IsPart (s : Loosenings) (t : Part) : Type 0 where
    kept : AreKept t.problem s t.may_keep
    go_on : GoOn t.problem t.later
    closes : (vs : List Value) → ValuesHold s ((t.problem, true) ∷ t.later) vs → ValuesHold s ps (t.values ++ vs)

  abbrev Holds : SessionDue → Type 0
  Holds (header_due d) = Unit {0}
  Holds (checks_due s) = Unit {0}
  Holds (part_due s t) = IsPart s t
  Holds (keep_due s i t) = IsPart s t
  Holds (first_due s i kept t) = IsPart s t × AreKept t.problem s kept
  Holds (inside_due t d) = (s : Loosenings) × IsPart s t × (known d ≡ Some s) × Fine t.problem (AreKept t.problem) d
  Holds (all_done s values) = ValuesHold s ps values

  header-holds : (x : Next) → IfOn Holds (in_header x)
  header-holds (faulty f) = tt
  header-holds (on (kind_due s)) = tt
  header-holds (on _) = tt

  next-holds : (s : Loosenings) (q : Problem) (behind : List (Problem × Bool)) → GoOn q behind → (lemmas : List State) → AreKept q s lemmas → (values : List Value) →
      ((vs : List Value) → ValuesHold s behind vs → ValuesHold s ps (values ++ vs)) → Holds (next_part s q lemmas values behind)
  next-holds s q [] h lemmas k values close = subst (λ (vs : List Value). ValuesHold s ps vs) (append-nil values) (close [] tt)
  next-holds s q ((r, e) ∷ behind) h lemmas k values close = record {
    kept = next-kept q r h.0 (is-first r behind h.2) e h.1 s lemmas k;
    go_on = h.2;
    closes = λ vs g. close vs (whatever-force s r true e behind vs g);
  }

  inside-holds : (s : Loosenings) (t : Part) → IsPart s t → (d : Due) → known d ≡ Some s → Fine t.problem (AreKept t.problem) d → Holds (inside t d)
  inside-holds s t h (nothing_due s' lemmas v) e f =
      let same : s ≡ s' = cc in let i : IsPart s' t = subst (λ (x : Loosenings). IsPart x t) same h in
      let holds : ValueHolds s' t.problem v = value-holds t.problem (is-first t.problem t.later i.go_on) s' lemmas v f in
      next-holds s' t.problem t.later i.go_on lemmas f.0 (t.values ++ (v ∷ []))
      (λ vs g. subst (λ (xs : List Value). ValuesHold s' ps xs) (sym (append_assoc t.values (v ∷ []) vs)) (i.closes (v ∷ vs) (holds, g)))
  inside-holds s t h _ e f = (s, h, e, f)

  part-holds : (s : Loosenings) (t : Part) → IsPart s t → (x : Next) → Same s x → IfOn (Fine t.problem (AreKept t.problem)) x → IfOn Holds (in_part t x)
  part-holds s t h (faulty f) e g = tt
  part-holds s t h (on d) e g = inside-holds s t h d e g

  first-holds : (s : Loosenings) (t : Part) → IsPart s t → (x : Next) → Same s x → IfOn (Fine t.problem (AreKept t.problem)) x → IfOn Holds (in_part t (none_complete x))
  first-holds s t h (on d) e g = inside-holds s t h d e g
  first-holds s t h (faulty f) e g = by f
    where
      by : (f : CertFault) → IfOn Holds (in_part t (none_complete (faulty f)))
      by Extra = tt
      by _ = tt

  line-same : (q : Problem) (s : Loosenings) (d : Due) (l : CertLine) → known d ≡ Some s → Same s (next q b d l)
  line-same q s d l e = subst (λ (o : Option Loosenings). AllSame o (next q b d l)) e (next_same q b d l)

  module _ (starts : (s : Loosenings) → IsPart s (first_part p later)) where
    line-holds : (d : SessionDue) (l : CertLine) → Holds d → IfOn Holds (session_next p later b d l)
    line-holds (header_due version_due) (version n) h = given_on Holds (is_session_version n) (header_due (margin_due n)) BadHeader (λ e. tt)
    line-holds (header_due version_due) _ h = tt
    line-holds (header_due d) l h = header-holds (next p b d l)
    line-holds (checks_due s) (checks c) h = given_on Holds (nat_eq c (suc (length later))) (part_due s (first_part p later)) BadHeader (λ e. starts s)
    line-holds (checks_due s) _ h = tt
    line-holds (part_due s t) (cover i) h = given_on Holds (nat_le i most_lemmas) (keep_due s i t) BadHeader (λ e. h)
    line-holds (part_due s t) point_word h = part-holds s t h (next t.problem b (kind_due s) point_word) (line-same t.problem s (kind_due s) point_word refl)
        (next_fine t.problem b (AreKept t.problem) (kept-grow t.problem (is-first t.problem t.later h.go_on)) (kind_due s) point_word tt)
    line-holds (part_due s t) _ h = tt
    line-holds (keep_due s i t) (keep q) h =
        given_on Holds (nat_le q i && nat_le q (length t.may_keep)) (first_due s i (take q t.may_keep) t) KeepFails (λ e. (h, take-kept t.problem s q t.may_keep h.kept))
    line-holds (keep_due s i t) _ h = tt
    line-holds (first_due s i kept t) l h = first-holds s t h.0 (next t.problem b (next_due s i kept) l) (line-same t.problem s (next_due s i kept) l refl)
        (next_fine t.problem b (AreKept t.problem) (kept-grow t.problem (is-first t.problem t.later h.0.go_on)) (next_due s i kept) l h.1)
    line-holds (inside_due t d) l h = part-holds h.0 t h.1 (next t.problem b d l) (line-same t.problem h.0 d l h.2)
        (next_fine t.problem b (AreKept t.problem) (kept-grow t.problem (is-first t.problem t.later h.1.go_on)) d l h.3)
    line-holds (all_done s values) l h = tt

    end-holds : (d : SessionDue) (n : ℕ) → Holds d → IfAccepted (λ s values. ValuesHold s ps values) (session_at_end d n)
    end-holds (all_done s values) n h = h
    end-holds _ n h = tt

    all-hold : (few : Bool) (bytes : List ℕ) → IfAccepted (λ s values. ValuesHold s ps values)
        (verdict_of (session_course p later b) session_ended few bytes)
    all-hold few bytes = verdict_shows (session_next p later b) Holds line-holds (λ s values. ValuesHold s ps values) session_at_end end-holds few session_start tt bytes

-- ---- of whole sessions

one-holds : (p : Problem) (e : Bool) → IsProblem p → (b : Option ℕ) (bytes : List ℕ) (w : Verdict) → verdict p b bytes ≡ w → IfAccepted (λ s values. ValuesHold s ((p, e) ∷ []) values) (one_verdict w)
one-holds p e g b bytes (refused f n) h = tt
one-holds p e g b bytes (accepted s (at_point space)) h = (point_means p g b bytes s space h, tt)
one-holds p e g b bytes (accepted s (left_open left)) h = (cover_catches p g b bytes s left h, tt)

session-holds : (ps : List (Problem × Bool)) → IsSession ps → (b : Option ℕ) (bytes : List ℕ) → IfAccepted (λ s values. ValuesHold s ps values) (session_verdict ps b bytes)
session-holds [] h b bytes = absurd h
session-holds ((p, e) ∷ []) h b bytes = one-holds p e h b bytes (verdict p b bytes) refl
session-holds ((p, e) ∷ next ∷ later) h b bytes = all-hold ((p, e) ∷ next ∷ later) p (next ∷ later) b
    (λ s. record { kept = tt; go_on = h; closes = λ vs g. whatever-force s p true e (next ∷ later) vs g }) (nat_le (length bytes) most_bytes) bytes

-- the values of accepted bytes hold, one for each check
pub session_means : (ps : List (Problem × Bool)) → IsSession ps → (b : Option ℕ) (bytes : List ℕ) (s : Loosenings) (values : List Value) → AreAccepted ps b bytes s values → ValuesHold s ps values
session_means ps h b bytes s values e = subst (λ (w : SessionVerdict). IfAccepted (λ s values. ValuesHold s ps values) w) e (session-holds ps h b bytes)
