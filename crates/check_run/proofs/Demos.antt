-- The line that the demo answers tells how its search ended.
use Rattle.std.proofs.Common.{◌≡◌, ℕ, zero, suc, ◌+◌, ◌/◌, ◌%◌, List, [], ◌∷◌, ◌++◌, Bool, true, false, cond, not, get_or, nat_eq, nat_lt, refl, ap, sym, ◌∙◌, append_assoc, codes, arith}
use Rattle.std.specs.Prelude.{decimal}
use Rattle.std.specs.Fmt.{digit_glyph, digits_onto}
use Rattle.std.proofs.lemmas.List.{append_cancel_left}
use Rattle.std.proofs.lemmas.List.Sums.{take_while-cons}
use Rattle.poly_graph.specs.Problem.{Problem}
use Rattle.interval_model.specs.Space.{Space}
use Rattle.cover_model.specs.State.{Loosenings}
use Rattle.cert_model.specs.Due.{Standing, Value, at_point, left_open}
use Rattle.cert_model.specs.AnswerText.{solve_text, budget_text, has_open}
use Rattle.check_run.specs.Answer.{demo_text, first_line}
use Rattle.check_run.specs.Headline.{delta_sat_word, unsat_word}
use Rattle.check_run.proofs.Apart.{apart}

-- ---- numbers

abbrev HasNoSpace : List ℕ → Type 0
HasNoSpace [] = Unit {0}
HasNoSpace (b ∷ bs) = (b ≡ 32 → ⊥) × HasNoSpace bs

glyph-no-space : (d : ℕ) → digit_glyph false d ≡ 32 → ⊥
glyph-no-space d e = by (nat_lt d 10) e
  where
    by : (b : Bool) → cond b (48 + d) (87 + d) ≡ 32 → ⊥
    by true f = omega (arith, f)
    by false f = omega (arith, f)

onto-no-space : (k n : ℕ) (acc : List ℕ) → HasNoSpace acc → HasNoSpace (digits_onto k 10 false n acc)
onto-no-space zero n acc h = h
onto-no-space (suc k) n acc h =
    let more : HasNoSpace (digit_glyph false (n % 10) ∷ acc) = (glyph-no-space (n % 10), h) in
    by (nat_eq (n / 10) 0) more (onto-no-space k (n / 10) (digit_glyph false (n % 10) ∷ acc) more)
  where
    by : (b : Bool) → HasNoSpace (digit_glyph false (n % 10) ∷ acc) → HasNoSpace (digits_onto k 10 false (n / 10) (digit_glyph false (n % 10) ∷ acc)) →
        HasNoSpace (cond b (digit_glyph false (n % 10) ∷ acc) (digits_onto k 10 false (n / 10) (digit_glyph false (n % 10) ∷ acc)))
    by true more rest = more
    by false more rest = rest

decimal-no-space : (n : ℕ) → HasNoSpace (decimal n)
unfolding Rattle.std.specs.Fmt.digits
decimal-no-space n = onto-no-space 64 n [] tt

-- where two texts are the same, so is what stands behind the first space of each
behind-space : (ds es xs ys : List ℕ) → HasNoSpace ds → HasNoSpace es → ds ++ 32 ∷ xs ≡ es ++ 32 ∷ ys → xs ≡ ys
behind-space [] [] xs ys h k e = cc
behind-space [] (b ∷ es) xs ys h k e = absurd (k.0 (cc))
behind-space (a ∷ ds) [] xs ys h k e = absurd (h.0 (cc))
behind-space (a ∷ ds) (b ∷ es) xs ys h k e = behind-space ds es xs ys h.1 k.1 (cc)

-- ---- lines

-- the first line, byte by byte
abbrev line : List ℕ → List ℕ
line [] = []
line (b ∷ bs) = cond (not (nat_eq b 10)) (b ∷ line bs) []

line-is : (text : List ℕ) → first_line text ≡ line text
line-is [] = refl
line-is (b ∷ bs) = take_while-cons (λ (c : ℕ). not (nat_eq c 10)) b bs ∙ ap (λ (l : List ℕ). cond (not (nat_eq b 10)) (b ∷ l) []) (line-is bs)

-- with its end
abbrev ending : List ℕ → List ℕ
ending text = line text ++ 10 ∷ []

-- the words behind the first
abbrev behind : ℕ → ℕ → List ℕ → List ℕ
behind bytes atoms answer = decimal bytes ++ (codes " atoms " ++ (decimal atoms ++ (codes " answer " ++ ending answer)))

in-order : (a b c d e f g : List ℕ) → a ++ b ++ c ++ d ++ e ++ f ++ g ≡ a ++ (b ++ (c ++ (d ++ (e ++ (f ++ g)))))
in-order a b c d e f g = simp append_assoc

in-words : (bytes atoms : ℕ) (answer : List ℕ) → demo_text bytes atoms answer ≡ codes "script " ++ behind bytes atoms answer
in-words bytes atoms answer =
    in-order (codes "script ") (decimal bytes) (codes " atoms ") (decimal atoms) (codes " answer ") (first_line answer) (10 ∷ [])
    ∙ ap (λ (l : List ℕ). codes "script " ++ (decimal bytes ++ (codes " atoms " ++ (decimal atoms ++ (codes " answer " ++ (l ++ 10 ∷ [])))))) (line-is answer)

-- the same line tells of the same ending
same-ending : (m n b a : ℕ) (told answer : List ℕ) → demo_text m n told ≡ demo_text b a answer → ending told ≡ ending answer
same-ending m n b a told answer e =
    let whole : codes "script " ++ behind m n told ≡ codes "script " ++ behind b a answer = sym (in-words m n told) ∙ e ∙ in-words b a answer in
    let sizes : behind m n told ≡ behind b a answer = append_cancel_left (codes "script ") (behind m n told) (behind b a answer) whole in
    let counts = behind-space (decimal m) (decimal b) _ _ (decimal-no-space m) (decimal-no-space b) sizes in
    let atoms = append_cancel_left (codes "atoms ") (decimal n ++ (codes " answer " ++ ending told)) (decimal a ++ (codes " answer " ++ ending answer)) counts in
    let answers = behind-space (decimal n) (decimal a) _ _ (decimal-no-space n) (decimal-no-space a) atoms in
    append_cancel_left (codes "answer ") (ending told) (ending answer) answers

-- ---- endings

-- a byte at a place tells a text from the endings of what is answered where something is left
ends-left : (p : Problem) (s : Loosenings) (budget : ℕ) (x : Standing) (rest : List Standing) (t : List ℕ) (k : ℕ) → t ≡ ending (solve_text p budget s (left_open (x ∷ rest))) →
    nat_eq (get_or t k 0) (get_or (ending (budget_text budget)) k 0) ≡ false → nat_eq (get_or t k 0) (get_or (codes "unknown width\n") k 0) ≡ false →
    (b : Bool) → has_open (x ∷ rest) ≡ b → ⊥
ends-left p s budget x rest t k e f g true h = let e' = rw h at e in apart _ _ k e' f
ends-left p s budget x rest t k e f g false h = let e' = rw h at e in apart t (codes "unknown width\n") k e' g

ends-unsat : (p : Problem) (s : Loosenings) (budget : ℕ) (v : Value) → ending unsat_word ≡ ending (solve_text p budget s v) → v ≡ left_open []
ends-unsat p s budget (at_point space) e = absurd (apart _ _ 0 e refl)
ends-unsat p s budget (left_open []) e = refl
ends-unsat p s budget (left_open (x ∷ rest)) e = absurd (ends-left p s budget x rest (ending unsat_word) 2 e refl refl (has_open (x ∷ rest)) refl)

ends-delta-sat : (p : Problem) (s : Loosenings) (budget : ℕ) (v : Value) → ending delta_sat_word ≡ ending (solve_text p budget s v) → (space : Space) × (v ≡ at_point space)
ends-delta-sat p s budget (at_point space) e = (space, refl)
ends-delta-sat p s budget (left_open []) e = absurd (apart _ _ 0 e refl)
ends-delta-sat p s budget (left_open (x ∷ rest)) e = absurd (ends-left p s budget x rest (ending delta_sat_word) 0 e refl refl (has_open (x ∷ rest)) refl)

-- the demo says unsat of a cover that leaves nothing alone
pub demo_says_unsat : (m n b a : ℕ) (p : Problem) (s : Loosenings) (budget : ℕ) (v : Value) → demo_text m n unsat_word ≡ demo_text b a (solve_text p budget s v) → v ≡ left_open []
demo_says_unsat m n b a p s budget v e = ends-unsat p s budget v (same-ending m n b a unsat_word (solve_text p budget s v) e)

-- it says delta-sat of a point alone
pub demo_says_delta_sat : (m n b a : ℕ) (p : Problem) (s : Loosenings) (budget : ℕ) (v : Value) → demo_text m n delta_sat_word ≡ demo_text b a (solve_text p budget s v) → (space : Space) × (v ≡ at_point space)
demo_says_delta_sat m n b a p s budget v e = ends-delta-sat p s budget v (same-ending m n b a delta_sat_word (solve_text p budget s v) e)

-- ---- worked answers

demo_unsat : demo_text 175 5 (codes "unsat\nmargin 1b-20\n") ≡ codes "script 175 atoms 5 answer unsat\n"
unfolding Rattle.std.specs.Fmt.digits
demo_unsat = refl

demo_budget : demo_text 175 5 (budget_text 65536) ≡ codes "script 175 atoms 5 answer unknown budget 65536\n"
unfolding Rattle.std.specs.Fmt.digits
demo_budget = refl

demo_width : demo_text 175 5 (codes "unknown width\natom 4\nx 0 1b-20\ny 0 1b-20\n") ≡ codes "script 175 atoms 5 answer unknown width\n"
unfolding Rattle.std.specs.Fmt.digits
demo_width = refl
