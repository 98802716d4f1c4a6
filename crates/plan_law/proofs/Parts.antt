-- Along the honest lines of a part, at the least width of its plan, no state is stuck.
use Rattle.std.proofs.Common.{◌≡◌, ◌⊎◌, inl, inr, ℕ, suc, zero, List, [], ◌∷◌, ◌++◌, length, length-append, Bool, ◌&&◌, cond, IsTrue, Option, Some, None, refl, ap, sym, subst, ◌∙◌, arith, nat_eq, nat_le, take, drop}
use Rattle.std.specs.Prelude.{All, slice_get}
use Rattle.std.proofs.lemmas.Bool.Decides.{eqb_tells}
use Rattle.poly_graph.specs.Problem.{Problem, IsProblem}
use Rattle.cover_model.specs.State.{State, Loosenings}
use Rattle.cover_model.specs.Honest.{is_honest}
use Rattle.cert_read.specs.CertLine.{CertLine, version, checks, cover, keep, point_word, line}
use Rattle.cert_model.specs.Due.{BadHeader, KeepFails, Extra, Standing, Value, left_open, Due, version_due, margin_due, kind_due, next_due, nothing_due, Next, on, faulty}
use Rattle.cert_model.specs.Accepted.{next, most_lemmas, Verdict, verdict, IsAccepted, accepted, refused, most_bytes}
use Rattle.cert_model.specs.Standing.{Stands, stands_at, standing}
use Rattle.cert_model.specs.Session.{Part, SessionDue, header_due, checks_due, part_due, keep_due, first_due, inside_due, all_done, is_session_version, first_part, next_part, in_header, inside, in_part, none_complete, session_next, session_start, session_at_end, SessionVerdict, one_verdict, stands_in}
use Rattle.cert_model.specs.AnswerText.{has_open}
use Rattle.cert_model.proofs.Invariant.{IfOn, IfAccepted, given_on}
use Rattle.cert_model.proofs.Header.{known, Same, AllSame, next_same}
use Rattle.plan_law.specs.Laws.{IsPlannedPart, PartLeavesNoneStuck, PartNeverAnswersWidth}
use Rattle.plan_law.proofs.Along.{honest_verdict}
use Rattle.plan_law.proofs.Course.{Plan, IsOpenValue, Holds, AreHonest, line_holds, some_open, text_of, leaves_none_stuck}

line-same : (q : Problem) (b : Option ℕ) (s : Loosenings) (d : Due) (l : CertLine) → known d ≡ Some s → Same s (next q b d l)
line-same q b s d l e = subst (λ (o : Option Loosenings). AllSame o (next q b d l)) e (next_same q b d l)

-- of a list with one more, the element at k
at-last : (xs : List Value) (x y : Value) (k : ℕ) → slice_get (xs ++ (x ∷ [])) k ≡ Some y → (slice_get xs k ≡ Some y) ⊎ ((length xs ≡ k) × (x ≡ y))
at-last [] x y zero e = inr (refl, cc)
at-last [] x y (suc k) e = cc
at-last (z ∷ xs) x y zero e = inl e
at-last (z ∷ xs) x y (suc k) e = elim (at-last xs x y k e) [
  | inl f ↦ inl f
  | inr f ↦ inr (ap suc f.0, f.1)
]

abbrev problem-or : Problem → Option (Problem × Bool) → Problem
problem-or q None = q
problem-or q (Some x) = x.0

drop-next : {A : Type 0} (n : ℕ) (xs : List A) (x : A) (rest : List A) → drop n xs ≡ x ∷ rest → drop (suc n) xs ≡ rest
drop-next zero [] x rest e = cc
drop-next zero (y ∷ xs) x rest e = cc
drop-next (suc n) [] x rest e = cc
drop-next (suc n) (y ∷ xs) x rest e = drop-next n xs x rest e

drop-get : {A : Type 0} (n : ℕ) (xs : List A) (x : A) (rest : List A) → drop n xs ≡ x ∷ rest → slice_get xs n ≡ Some x
drop-get zero [] x rest e = cc
drop-get zero (y ∷ xs) x rest e = let same : y ≡ x = cc in ap Some same
drop-get (suc n) [] x rest e = cc
drop-get (suc n) (y ∷ xs) x rest e = drop-get n xs x rest e

module _ (p0 : Problem) (e0 : Bool) (later : List (Problem × Bool)) (b : Option ℕ) (k : ℕ) (p : Problem) (e : Bool) (g : IsProblem p) (w : ℕ) (place : slice_get ((p0, e0) ∷ later) k ≡ Some (p, e)) where
  abbrev ps : List (Problem × Bool)
  ps = (p0, e0) ∷ later

  -- the part has its place among the checks
  abbrev IsAt : Part → Type 0
  IsAt t = (f : Bool) × (drop (length t.values) ps ≡ (t.problem, f) ∷ t.later)

  -- the value of part k leaves no state stuck, where there is one
  abbrev IsOpenAt : Loosenings → List Value → Type 0
  IsOpenAt s values = (v : Value) → slice_get values k ≡ Some v → Plan p g b w s → IsOpenValue p g b w v

  abbrev HoldsIn : SessionDue → Type 0
  HoldsIn (header_due d) = Unit {0}
  HoldsIn (checks_due s) = Unit {0}
  HoldsIn (part_due s t) = IsAt t × IsOpenAt s t.values
  HoldsIn (keep_due s i t) = IsAt t × IsOpenAt s t.values
  HoldsIn (first_due s i kept t) = IsAt t × IsOpenAt s t.values
  HoldsIn (inside_due t d) = (s : Loosenings) × IsAt t × IsOpenAt s t.values × (known d ≡ Some s) × (length t.values ≡ k → Holds p g b w d)
  HoldsIn (all_done s values) = IsOpenAt s values

  own : (t : Part) → IsAt t → length t.values ≡ k → t.problem ≡ p
  own t at h = let same : slice_get ps (length t.values) ≡ Some (t.problem, at.0) = drop-get (length t.values) ps (t.problem, at.0) t.later at.1 in
      let there : slice_get ps (length t.values) ≡ Some (p, e) = ap (slice_get ps) h ∙ place in
      ap (problem-or p) (sym same ∙ there)

  header-holds : (x : Next) → IfOn HoldsIn (in_header x)
  header-holds (faulty f) = tt
  header-holds (on (kind_due s)) = tt
  header-holds (on _) = tt

  next-holds : (s : Loosenings) (t : Part) (lemmas : List State) (v : Value) → IsAt t → IsOpenAt s (t.values ++ (v ∷ [])) → (behind : List (Problem × Bool)) → t.later ≡ behind →
      HoldsIn (next_part s t.problem lemmas (t.values ++ (v ∷ [])) behind)
  next-holds s t lemmas v at h [] same = h
  next-holds s t lemmas v at h ((r, f) ∷ behind) same =
      let count : suc (length t.values) ≡ length (t.values ++ (v ∷ [])) = sym (length-append t.values (v ∷ []) ∙ omega arith) in
      ((f, ap (λ (n : ℕ). drop n ps) (sym count) ∙ drop-next (length t.values) ps (t.problem, at.0) t.later at.1 ∙ same), h)

  inside-holds : (s : Loosenings) (t : Part) → IsAt t → IsOpenAt s t.values → (d : Due) → known d ≡ Some s → (length t.values ≡ k → Holds p g b w d) → HoldsIn (inside t d)
  inside-holds s t at h (nothing_due s' lemmas v) same f =
      let one : s ≡ s' = cc in
      next-holds s' t lemmas v at
      (λ u i q. elim (at-last t.values v u k i) [
        | inl j ↦ subst (λ (x : Loosenings). IsOpenAt x t.values) one h u j q
        | inr j ↦ subst (IsOpenValue p g b w) j.1 (f j.0 q)
      ]) t.later refl
  inside-holds s t at h _ same f = (s, at, h, same, f)

  part-holds : (s : Loosenings) (t : Part) → IsAt t → IsOpenAt s t.values → (x : Next) → Same s x → (length t.values ≡ k → IfOn (Holds p g b w) x) → IfOn HoldsIn (in_part t x)
  part-holds s t at h (faulty f) same i = tt
  part-holds s t at h (on d) same i = inside-holds s t at h d same i

  first-holds : (s : Loosenings) (t : Part) → IsAt t → IsOpenAt s t.values → (x : Next) → Same s x → (length t.values ≡ k → IfOn (Holds p g b w) x) → IfOn HoldsIn (in_part t (none_complete x))
  first-holds s t at h (on d) same i = inside-holds s t at h d same i
  first-holds s t at h (faulty Extra) same i = tt
  first-holds s t at h (faulty _) same i = tt

  -- a line of this part, where it is part k
  own-line : (t : Part) (d : Due) (l : CertLine) → t.problem ≡ p → Holds p g b w d → AreHonest p g b w (stands_at t.problem d (line l)) → IfOn (Holds p g b w) (next t.problem b d l)
  own-line t d l same h a =
      subst (λ (q : Problem). IfOn (Holds p g b w) (next q b d l)) (sym same) (line_holds p g b w d l h (subst (λ (q : Problem). AreHonest p g b w (stands_at q d (line l))) same a))

  honest-own : (t : Part) (xs : List Stands) → length t.values ≡ k → AreHonest p g b w (cond (nat_eq (length t.values) k) xs []) → AreHonest p g b w xs
  honest-own t xs h a = elim (eqb_tells (length t.values) k) [
    | inl i ↦ subst (λ (c : Bool). AreHonest p g b w (cond c xs [])) i.0 a
    | inr i ↦ absurd (i.1 h)
  ]

  none-honest : AreHonest p g b w []
  none-honest i x l = absurd (omega arith)

  step : (d : SessionDue) (l : CertLine) → HoldsIn d → AreHonest p g b w (stands_in k d (line l)) → IfOn HoldsIn (session_next p0 later b d l)
  step (header_due version_due) (version n) h a = given_on HoldsIn (is_session_version n) (header_due (margin_due n)) BadHeader (λ i. tt)
  step (header_due version_due) _ h a = tt
  step (header_due d) l h a = header-holds (next p0 b d l)
  step (checks_due s) (checks c) h a = given_on HoldsIn (nat_eq c (suc (length later))) (part_due s (first_part p0 later)) BadHeader (λ i. ((e0, refl), λ v j q. cc))
  step (checks_due s) _ h a = tt
  step (part_due s t) (cover i) h a = given_on HoldsIn (nat_le i most_lemmas) (keep_due s i t) BadHeader (λ j. h)
  step (part_due s t) point_word h a = part-holds s t h.0 h.1 (next t.problem b (kind_due s) point_word) (line-same t.problem b s (kind_due s) point_word refl)
      (λ j. own-line t (kind_due s) point_word (own t h.0 j) tt none-honest)
  step (part_due s t) _ h a = tt
  step (keep_due s i t) (keep q) h a = given_on HoldsIn (nat_le q i && nat_le q (length t.may_keep)) (first_due s i (take q t.may_keep) t) KeepFails (λ j. h)
  step (keep_due s i t) _ h a = tt
  step (first_due s i kept t) l h a = first-holds s t h.0 h.1 (next t.problem b (next_due s i kept) l) (line-same t.problem b s (next_due s i kept) l refl)
      (λ j. own-line t (next_due s i kept) l (own t h.0 j) tt none-honest)
  step (inside_due t d) l h a = part-holds h.0 t h.1 h.2 (next t.problem b d l) (line-same t.problem b h.0 d l h.3)
      (λ j. own-line t d l (own t h.1 j) (h.4 j) (honest-own t (stands_at t.problem d (line l)) j a))
  step (all_done s values) l h a = tt

  end-holds : (d : SessionDue) (n : ℕ) → HoldsIn d → IfAccepted IsOpenAt (session_at_end d n)
  end-holds (all_done s values) n h = h
  end-holds _ n h = tt

several-open : (p0 : Problem) (e0 : Bool) (next : Problem × Bool) (later : List (Problem × Bool)) (b : Option ℕ) (cert : List ℕ) (s : Loosenings) (k : ℕ) (p : Problem) (left : List Standing) (w : ℕ) →
    (h : IsPlannedPart ((p0, e0) ∷ next ∷ later) b cert s k p left w) → (left ≡ []) ⊎ IsTrue (has_open left)
several-open p0 e0 next later b cert s k p left w h =
    let behind : List (Problem × Bool) = next ∷ later in
    let shown = honest_verdict (session_next p0 behind b) (stands_in k) (λ x. IsTrue (is_honest p w x.loosenings x.line.state x.line.does)) (HoldsIn p0 e0 behind b k p h.in_force h.whole w h.problem)
    (step p0 e0 behind b k p h.in_force h.whole w h.problem) (IsOpenAt p0 e0 behind b k p h.in_force h.whole w h.problem) session_at_end (end-holds p0 e0 behind b k p h.in_force h.whole w h.problem)
    (nat_le (length cert) most_bytes) session_start tt cert h.honest in
    some_open p h.whole b w left
    (subst (λ (v : SessionVerdict). IfAccepted (IsOpenAt p0 e0 behind b k p h.in_force h.whole w h.problem) v) h.accepted shown (left_open left) h.value h.plan)

one-open : (p0 : Problem) (e0 : Bool) (b : Option ℕ) (cert : List ℕ) (s : Loosenings) (k : ℕ) (p : Problem) (left : List Standing) (w : ℕ) → IsPlannedPart ((p0, e0) ∷ []) b cert s k p left w →
    (v : Verdict) → verdict p0 b cert ≡ v → (left ≡ []) ⊎ IsTrue (has_open left)
one-open p0 e0 b cert s (suc k) p left w h v i = let none : slice_get ((p0, e0) ∷ []) (suc k) ≡ Some (p, h.in_force) = h.problem in cc
one-open p0 e0 b cert s zero p left w h (refused f n) i = let bad : one_verdict (refused f n) ≡ accepted s h.values = ap one_verdict (sym i) ∙ h.accepted in cc
one-open p0 e0 b cert s zero p left w h (accepted r v) i =
    let good : one_verdict (accepted r v) ≡ accepted s h.values = ap one_verdict (sym i) ∙ h.accepted in
    let same : r ≡ s = cc in let values : v ∷ [] ≡ h.values = cc in
    let first : Some v ≡ Some (left_open left) = ap (λ xs. slice_get xs 0) values ∙ h.value in
    let problem : p0 ≡ p = ap (problem-or p) h.problem in let left_v : v ≡ left_open left = cc in
    let answer : IsAccepted p0 b cert s (left_open left) = i ∙ ap (λ (x : Loosenings). accepted x v) same ∙ ap (accepted s) left_v in
    leaves_none_stuck p h.whole b cert s left w h.plan (subst (λ (q : Problem). IsAccepted q b cert s (left_open left)) problem answer)
    (subst (λ (q : Problem). All (λ (x : Stands). IsTrue (is_honest p w x.loosenings x.line.state x.line.does)) (standing q b cert)) problem h.honest)

pub part_leaves_none_stuck : PartLeavesNoneStuck
part_leaves_none_stuck [] b cert s k p left w h = let bad : slice_get [] k ≡ Some (p, h.in_force) = h.problem in cc
part_leaves_none_stuck ((p0, e0) ∷ []) b cert s k p left w h = one-open p0 e0 b cert s k p left w h (verdict p0 b cert) refl
part_leaves_none_stuck ((p0, e0) ∷ next ∷ later) b cert s k p left w h = several-open p0 e0 next later b cert s k p left w h

pub part_never_answers_width : PartNeverAnswersWidth
part_never_answers_width ps b cert s k p left bits budget h = text_of p budget s left (part_leaves_none_stuck ps b cert s k p left bits h)
