-- The shortest cover, for every problem whose form can't hold at the root.
use Rattle.std.proofs.Common.{◌≡◌, ℕ, ◌≤◌, [], ◌∷◌, Bool, true, false, not, ◌&&◌, inl, inr, IsTrue, Option, Some, None, refl, ap, ◌∙◌, length, nat_lt, nat_le, arith, leb→le}
use Rattle.std.specs.Prelude.{decimal}
use Rattle.std.specs.List.{AllByRecursion}
use Rattle.std.specs.Bool.{passes}
use Rattle.std.proofs.lemmas.Fmt.{length-decimal-le}
use Rattle.std.proofs.lemmas.Bool.Decides.{eqb_tells}
use Rattle.dyadic.proofs.Equal.{both_true}
use Rattle.poly_graph.specs.Problem.{Problem, first_crossed}
use Rattle.cover_model.specs.State.{Loosenings, may, root_state}
use Rattle.cover_model.specs.Rules.{when, closed, make_false}
use Rattle.cover_line.specs.Words.{false_word}
use Rattle.cert_read.specs.CertLine.{version, margin, delta, bound, cover, tree_word, end_word, rule_line}
use Rattle.cert_read.specs.LineText.{IsCount, IsSpelledBound, IsSpelled}
use Rattle.cert_model.specs.Due.{left_open, after_rule, RuleFails, BadHeader, WrongBound, tree_goes_on, is_some_axis, version_due, margin_due, bound_due, kind_due, Next, given, is_version, same_bound}
use Rattle.cert_model.specs.Accepted.{verdict, Verdict, accepted, ended, course_of_lines, course_next, root_line, loosenings_fit, is_header, certificate_text}
use Rattle.cert_model.specs.Laws.{shortest_lines}
use Rattle.cert_model.proofs.Header.{version_limits}
use Rattle.cert_model.proofs.Spells.{text_has_lines, text_length}

-- ---- its lines can be spelled

short : (n : ℕ) → IsCount n → length (decimal n) ≤ 10
short n h = length-decimal-le 10 n (omega arith) (omega (arith, h)) (omega (arith, h))

margin-spelled : (m : ℕ) → IsCount m → IsSpelled (margin m)
margin-spelled m h = (h, omega (arith, short m h))

delta-spelled : (d : ℕ) → IsCount d → IsSpelled (delta d)
delta-spelled d h = (h, omega (arith, short d h))

bound-spelled : (b : Option ℕ) → IsSpelledBound b → IsSpelled (bound b)
bound-spelled None h = (tt, omega arith)
bound-spelled (Some n) h = (h, omega (arith, short n h))

version-spelled : (v : ℕ) → IsTrue (is_version v) → IsSpelled (version v)
version-spelled v h = let n = version_limits v h in let c : IsCount v = omega (arith, n.1) in (c, omega (arith, short v c))

cover-spelled : IsSpelled (cover 0)
cover-spelled = (omega arith, omega (arith, short 0 (omega arith)))

few : (m d : ℕ) → IsTrue (loosenings_fit m d) → (m ≤ 60) × (d ≤ 30)
few m d h = let x = both_true (nat_le 1 d && nat_le d 30 && nat_lt d m) (nat_le m 60) h in
    let y = both_true (nat_le 1 d && nat_le d 30) (nat_lt d m) x.0 in let z = both_true (nat_le 1 d) (nat_le d 30) y.0 in
    (leb→le m 60 (passes _ x.1), leb→le d 30 (passes _ z.1))

lines-spelled : (s : Loosenings) (b : Option ℕ) → IsSpelledBound b → IsTrue (is_header s) → AllByRecursion IsSpelled (shortest_lines s b)
lines-spelled s b g h = let x = both_true (is_version s.version) (loosenings_fit s.margin_bits s.delta_bits) h in let e = few s.margin_bits s.delta_bits x.1 in (
  version-spelled s.version x.0,
  (
    margin-spelled s.margin_bits (omega (arith, e.0)),
    (
      delta-spelled s.delta_bits (omega (arith, e.1)),
      (
        bound-spelled b g,
        (
          cover-spelled,
          ((tt, omega arith), ((tt, omega arith), ((tt, omega arith), tt))),
        ),
      ),
    ),
  ),
)

-- ---- their course

same-bounds : (b : Option ℕ) → same_bound b b ≡ true
same-bounds None = refl
same-bounds (Some n) = elim (eqb_tells n n) [ inl e ↦ e.0 | inr e ↦ absurd (e.1 refl) ]

module _ (p : Problem) (b : Option ℕ) (s : Loosenings) where
  -- the course by what the test of the header says, from the bound on by what its test says, and by what comes of the line `false`
  abbrev by_false : Next → Verdict
  by_false x = ended (course_next x 7 (λ d. course_of_lines p b 7 d (end_word ∷ [])))

  abbrev by_bound : Bool → Verdict
  by_bound t = ended (course_next (given t (kind_due s) WrongBound) 4 (λ d. course_of_lines p b 4 d (cover 0 ∷ tree_word ∷ rule_line make_false ∷ end_word ∷ [])))

  abbrev by_version : Bool → Verdict
  by_version t = ended (course_next (given t (margin_due s.version) BadHeader) 1 (λ d. course_of_lines p b 1 d (margin s.margin_bits ∷ delta s.delta_bits ∷ bound b ∷ cover 0 ∷ tree_word ∷ rule_line make_false ∷ end_word ∷ [])))

  abbrev by_header : Bool → Verdict
  by_header t = ended (course_next (given t (bound_due s) BadHeader) 3 (λ d. course_of_lines p b 3 d (bound b ∷ cover 0 ∷ tree_word ∷ rule_line make_false ∷ end_word ∷ [])))

  -- what comes of `false` at the root of a box that is not empty, by the outcome of `may`
  abbrev after_false : Bool → Next
  after_false m = after_rule (when (not m) closed) (RuleFails false_word) (record { state = root_state p; does = make_false }) [] [] (tree_goes_on s [])

  version-first : ended (course_of_lines p b 0 version_due (shortest_lines s b)) ≡ by_version (is_version s.version)
  version-first = refl

  header-next : by_version true ≡ by_header (loosenings_fit s.margin_bits s.delta_bits)
  header-next = refl

  bound-next : by_header true ≡ by_bound (same_bound b b)
  bound-next = refl

  false-next : by_bound true ≡ by_false (root_line (is_some_axis (first_crossed p)) p s [] make_false)
  false-next = refl

  may-next : by_false (root_line false p s [] make_false) ≡ by_false (after_false (may p s (root_state p)))
  may-next = refl

  pub shortest_accepted : IsSpelledBound b → IsTrue (is_header s) → first_crossed p ≡ None → may p s (root_state p) ≡ false →
      verdict p b (certificate_text (shortest_lines s b)) ≡ accepted s (left_open [])
  shortest_accepted g h e m =
      let spelled = lines-spelled s b g h in let x = both_true (is_version s.version) (loosenings_fit s.margin_bits s.delta_bits) h in
      text_has_lines p b (shortest_lines s b) spelled (omega (arith, text_length (shortest_lines s b) spelled))
      ∙ version-first ∙ ap by_version x.0 ∙ header-next ∙ ap by_header x.1 ∙ bound-next ∙ ap by_bound (same-bounds b) ∙ false-next
      ∙ ap (λ (o : Option ℕ). by_false (root_line (is_some_axis o) p s [] make_false)) e
      ∙ may-next ∙ ap (λ (t : Bool). by_false (after_false t)) m
