-- The first lines of an accepted certificate of a cover.
use Rattle.std.proofs.Common.{◌≡◌, ℕ, suc, List, ◌∷◌, map, Bool, true, false, Option, Some, None, IsTrue, nat_le, drop, length, refl, ap, sym, subst, ◌∙◌}
use Rattle.std.proofs.lemmas.Bool.{eqb-true, le-leb}
use Rattle.poly_graph.specs.Problem.{Problem}
use Rattle.cover_model.specs.State.{Loosenings}
use Rattle.cert_read.specs.CertLine.{CertLine, bound, delta, margin, parsed, version}
use Rattle.cert_read.specs.LineText.{IsSpelled, line_text}
use Rattle.cert_read.specs.Lines.{lines_of}
use Rattle.cert_read.proofs.Spelled.{spelled_line}
use Rattle.cert_model.specs.Due.{BadHeader, CertFault, Due, Next, Value, WrongBound, bound_due, delta_due, faulty, given, is_version, kind_due, margin_due, on, same_bound, version_due}
use Rattle.cert_model.specs.Accepted.{Course, IsAccepted, accepted, course, course_next, ended, loosenings_fit, most_bytes, next, next_parsed, reached, stopped, verdict_by}
use Rattle.cert_joined.specs.Covers.{Cover, IsTextOf, cover_lines}
use Rattle.cert_joined.specs.Laws.{AcceptedHasHeader}

same-bound : (m n : Option ℕ) → same_bound m n ≡ true → m ≡ n
same-bound None None h = refl
same-bound (Some m) (Some n) h = ap (λ (k : ℕ). Some k) (eqb-true m n h)
same-bound None (Some n) h = absurd (let e : ◌≡◌ {A = Bool} false true = h in cc)
same-bound (Some m) None h = absurd (let e : ◌≡◌ {A = Bool} false true = h in cc)

given-on : (t : Bool) (d e : Due) (f : CertFault) → given t d f ≡ on e → (t ≡ true) × (d ≡ e)
given-on true d e f h = (refl, cc)
given-on false d e f h = absurd (cc)

on-same : (d e : Due) → on d ≡ on e → d ≡ e
on-same d e h = cc

first-step : (x : Next) (n m : ℕ) (k : Due → Course) (e : Due) → course_next x n k ≡ reached e m → (d : Due) × (x ≡ on d) × (k d ≡ reached e m)
first-step (on d) n m k e h = (d, refl, h)
first-step (faulty f) n m k e h = absurd (cc)

where-ended : (c : Course) (s : Loosenings) (v : Value) → ended c ≡ accepted s v → (d : Due) × (n : ℕ) × (c ≡ reached d n)
where-ended (stopped f n) s v h = absurd (cc)
where-ended (reached d n) s v h = (d, n, refl)

module _ (p : Problem) (b : Option ℕ) where
  -- a line that can be spelled leads on
  one-line : (l : CertLine) (ls : List (List ℕ)) (n m : ℕ) (d e : Due) → IsSpelled l → course p b n d (line_text l ∷ ls) ≡ reached e m →
      (x : Due) × (next p b d l ≡ on x) × (course p b (suc n) x ls ≡ reached e m)
  one-line l ls n m d e s h =
      let f = first-step (next_parsed p b d (parsed (line_text l))) (suc n) m (λ x. course p b (suc n) x ls) e h in
      (f.0, ap (next_parsed p b d) (sym (spelled_line l s)) ∙ f.1, f.2)

  ended-so : (t : Bool) (bytes : List ℕ) (s : Loosenings) (v : Value) → t ≡ true → verdict_by t p b bytes ≡ accepted s v → ended (course p b 0 version_due (lines_of bytes)) ≡ accepted s v
  ended-so true bytes s v e h = h
  ended-so false bytes s v e h = absurd (let f : ◌≡◌ {A = Bool} false true = e in cc)

  header-so : (bytes : List ℕ) (s : Loosenings) (v : Value) (c : Cover) → IsAccepted p b bytes s v → IsTextOf c bytes → IsTrue (is_version c.version) × (c.bound ≡ b)
  header-so bytes s v c h t =
      let behind : ℕ → List (List ℕ) = λ k. map line_text (drop k (cover_lines c)) in
      let all = ended-so (nat_le (length bytes) most_bytes) bytes s v (le-leb (length bytes) most_bytes t.few) h in
      let end = where-ended (course p b 0 version_due (lines_of bytes)) s v all in
      let r = subst (λ (ls : List (List ℕ)). course p b 0 version_due ls ≡ reached end.0 end.1) t.lines end.2 in
      let l1 = one-line (version c.version) (behind 1) 0 end.1 version_due end.0 t.spelled.0 r in
      let g1 = given-on (is_version c.version) (margin_due c.version) l1.0 BadHeader l1.1 in
      let l2 = one-line (margin c.margin_bits) (behind 2) 1 end.1 l1.0 end.0 t.spelled.1.0 l1.2 in
      let e2 = on-same (delta_due c.version c.margin_bits) l2.0 (ap (λ (x : Due). next p b x (margin c.margin_bits)) g1.1 ∙ l2.1) in
      let l3 = one-line (delta c.delta_bits) (behind 3) 2 end.1 l2.0 end.0 t.spelled.1.1.0 l2.2 in
      let g3 = given-on (loosenings_fit c.margin_bits c.delta_bits) (bound_due (record { margin_bits = c.margin_bits; delta_bits = c.delta_bits; version = c.version })) l3.0 BadHeader
      (ap (λ (x : Due). next p b x (delta c.delta_bits)) e2 ∙ l3.1) in
      let l4 = one-line (bound c.bound) (behind 4) 3 end.1 l3.0 end.0 t.spelled.1.1.1.0 l3.2 in
      let g4 = given-on (same_bound c.bound b) (kind_due (record { margin_bits = c.margin_bits; delta_bits = c.delta_bits; version = c.version })) l4.0 WrongBound
      (ap (λ (x : Due). next p b x (bound c.bound)) g3.1 ∙ l4.1) in
      (g1.0, same-bound c.bound b g4.0)

pub accepted_has_header : AcceptedHasHeader
accepted_has_header = header-so
