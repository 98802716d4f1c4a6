-- Lines of a list's items, one by one.
use Rattle.std.proofs.Common.{◌≡◌, ℕ, zero, suc, ◌+◌, ◌<◌, ◌≤◌, List, [], ◌∷◌, ◌++◌, map, take, drop, get_or, length, append_assoc, Bool, true, false, cond, Option, refl, ap, sym, ◌∙◌, subst, arith}
use Rattle.std.specs.Prelude.{decimal}
use Rattle.std.specs.List.{AllByRecursion}
use Rattle.std.proofs.Math.Seq.{drop-cons}
use Rattle.std.proofs.Math.ListN.{drop_of_length-le}
use Rattle.std.proofs.lemmas.List.{append-nil, map_more, take_all}
use Rattle.interval_model.specs.Space.{Space}
use Rattle.poly_graph.specs.Marks.{Mark, numbers_from}
use Rattle.cover_model.specs.State.{Loosenings}
use Rattle.cover_model.specs.Rules.{Line}
use Rattle.cover_model.specs.Derivation.{leaf}
use Rattle.cover_data.specs.declared.step.Step.{Step}
use Rattle.cover_data.specs.Views.{step_line, end_line}
use Rattle.cover_book.proofs.Changed.{lines_after}
use Rattle.poly_graph.specs.declared.mark.Mark as code
use Rattle.poly_graph.specs.MarkViews.{mark_of}
use Rattle.cert_read.specs.CertLine.{CertLine, version, margin, delta, bound, lemma, rule_line}
use Rattle.cert_model.specs.Written.{domain_line, rule_lines, lemma_lines, lemmas_lines}
use Rattle.cover_book.specs.declared.node.Learned.{Learned}
use Rattle.cover_book.specs.Views.{learned_of}
use Rattle.cover_book.specs.Tree.{lemma_tree}
use Rattle.cover_model.specs.Views.{multipliers_of}
use Rattle.dyadic.specs.declared.dy.Dy.{Dy}
use Rattle.dyadic.specs.Rounding.{Dyadic}
use Rattle.dyadic.specs.Views.{dyadic_of}
use Rattle.cert_text.specs.Lines.{HasAppended, HasPairs, marks_line, listed}
use Rattle.cert_text.specs.Parts.{header_lines, kept_lines, learned_lines}
use Rattle.cert_text.proofs.Spelling.{rules_append, both_appended, both_pairs}

pub map_twice : {X Y Z : Type 0} (f : Y → Z) (g : X → Y) (xs : List X) → map (λ x. f (g x)) xs ≡ map f (map g xs)
map_twice f g [] = refl
map_twice f g (x ∷ xs) = ap (λ ys. f (g x) ∷ ys) (map_twice f g xs)

module _ {X : Type 0} (f : X → CertLine) (xs : List X) (a b : List ℕ) where
  -- the line of one more item
  pub item_appended : (c : List ℕ) (i : ℕ) (x : X) → i < length xs → x ≡ get_or xs i x → HasAppended a (map f (take i xs)) b → HasAppended b (f x ∷ []) c → HasAppended a (map f (take (i + 1) xs)) c
  item_appended c i x h e p q = subst (λ (ls : List CertLine). HasAppended a ls c) (sym (map_more f xs i x h ∙ ap (λ (y : X). map f (take i xs) ++ (f y ∷ [])) (sym e))) (both_appended a b c (map f (take i xs)) (f x ∷ []) p q)

  pub items_appended : (i : ℕ) → length xs ≤ i → HasAppended a (map f (take i xs)) b → HasAppended a (map f xs) b
  items_appended i h p = subst (λ (ys : List X). HasAppended a (map f ys) b) (take_all i xs h) p

-- the steps, and the end
pub kept_appended : (xs : List Step) (l : Line) (a b c : List ℕ) → HasAppended a (map (λ (s : Step). rule_line (step_line s)) xs) b → HasAppended b (rule_line l ∷ []) c → HasAppended a (rule_lines (map step_line xs ++ (l ∷ []))) c
kept_appended xs l a b c p q =
    subst (λ (ls : List CertLine). HasAppended a ls c) (sym (rules_append (map step_line xs) (l ∷ []) ∙ ap (λ (ls : List CertLine). ls ++ (rule_line l ∷ [])) (sym (map_twice (λ (x : Line). rule_line x) step_line xs))))
    (both_appended a b c (map (λ (s : Step). rule_line (step_line s)) xs) (rule_line l ∷ []) p q)

pub header_appended : (s : Loosenings) (o o' : Option ℕ) (a b c d e : List ℕ) → o ≡ o' → HasAppended a (version s.version ∷ []) b → HasAppended b (margin s.margin_bits ∷ []) c → HasAppended c (delta s.delta_bits ∷ []) d → HasAppended d (bound o' ∷ []) e →
    HasAppended a (header_lines s o) e
header_appended s o o' a b c d e q f g h k = subst (λ (x : Option ℕ). HasAppended a (header_lines s x) e) (sym q)
    (both_appended a b e (version s.version ∷ []) _ f (both_appended b c e (margin s.margin_bits ∷ []) _ g (both_appended c d e (delta s.delta_bits ∷ []) (bound o' ∷ []) h k)))

-- ---- lemmas

-- a lemma's number, space and marks, and its lines
pub whole_lemma : (i : ℕ) (x : Learned) (space : Space) (marks : List Mark) (a b c d e f : List ℕ) → space ≡ x.state.space → marks ≡ x.state.marks → HasAppended a (lemma i ∷ []) b → HasAppended b (map domain_line space) c →
    HasAppended c (marks_line true marks ∷ []) d → HasAppended d (marks_line false marks ∷ []) e → HasAppended e (rule_lines (kept_lines x.lines)) f → HasAppended a (lemma_lines i (lemma_tree (learned_of x))) f
whole_lemma i x space marks a b c d e f p q h k g m n =
    let body : List CertLine = rule_lines (kept_lines x.lines) in
    subst (λ (ls : List CertLine). HasAppended a ls f)
    (ap (λ (s : Space). lemma i ∷ (map domain_line s ++ (marks_line true marks ∷ marks_line false marks ∷ body))) p
    ∙ ap (λ (ms : List Mark). lemma i ∷ (map domain_line x.state.space ++ (marks_line true ms ∷ marks_line false ms ∷ body))) q
    ∙ ap (λ (ls : List Line). lemma i ∷ (map domain_line x.state.space ++ (marks_line true x.state.marks ∷ marks_line false x.state.marks ∷ rule_lines ls))) (sym (lines_after (map step_line x.lines.steps.items) (leaf (end_line x.lines.end)))))
    (both_appended a b f (lemma i ∷ []) _ h (both_appended b c f (map domain_line space) _ k (both_appended c d f (marks_line true marks ∷ []) _ g (both_appended d e f (marks_line false marks ∷ []) body m n))))

more-lemmas : (k : ℕ) (xs : List Learned) (i : ℕ) (x : Learned) → i < length xs → x ≡ get_or xs i x →
    lemmas_lines k (map lemma_tree (map learned_of (take (suc i) xs))) ≡ lemmas_lines k (map lemma_tree (map learned_of (take i xs))) ++ lemma_lines (k + i) (lemma_tree (learned_of x))
more-lemmas k [] i x h e = absurd (omega (arith, h))
more-lemmas k (y ∷ xs) zero x h e =
    append-nil (lemma_lines k (lemma_tree (learned_of y))) ∙ ap (λ (z : Learned). lemma_lines k (lemma_tree (learned_of z))) (sym e) ∙ (let q : k ≡ k + 0 = omega arith in ap (λ (j : ℕ). lemma_lines j (lemma_tree (learned_of x))) q)
more-lemmas k (y ∷ xs) (suc i) x h e =
    let first : List CertLine = lemma_lines k (lemma_tree (learned_of y)) in let q : suc k + i ≡ k + suc i = omega arith in
    ap (λ (ls : List CertLine). first ++ ls) (more-lemmas (suc k) xs i x (omega (arith, h)) e ∙ ap (λ (j : ℕ). lemmas_lines (suc k) (map lemma_tree (map learned_of (take i xs))) ++ lemma_lines j (lemma_tree (learned_of x))) q)
    ∙ sym (append_assoc first (lemmas_lines (suc k) (map lemma_tree (map learned_of (take i xs)))) (lemma_lines (k + suc i) (lemma_tree (learned_of x))))

-- the lines of one more lemma
pub lemma_appended : (k : ℕ) (xs : List Learned) (a b c : List ℕ) (i : ℕ) (x : Learned) → i < length xs → x ≡ get_or xs i x → HasAppended a (learned_lines k (take i xs)) b →
    HasAppended b (lemma_lines (k + i) (lemma_tree (learned_of x))) c → HasAppended a (learned_lines k (take (i + 1) xs)) c
lemma_appended k xs a b c i x h e p q =
    let next : suc i ≡ i + 1 = omega arith in
    subst (λ (n : ℕ). HasAppended a (learned_lines k (take n xs)) c) next
    (subst (λ (ls : List CertLine). HasAppended a ls c) (sym (more-lemmas k xs i x h e)) (both_appended a b c (learned_lines k (take i xs)) (lemma_lines (k + i) (lemma_tree (learned_of x))) p q))

pub lemmas_appended : (k : ℕ) (xs : List Learned) (a b : List ℕ) (i : ℕ) → length xs ≤ i → HasAppended a (learned_lines k (take i xs)) b → HasAppended a (learned_lines k xs) b
lemmas_appended k xs a b i h p = subst (λ (ys : List Learned). HasAppended a (learned_lines k ys) b) (take_all i xs h) p

pub item_has : {X : Type 0} (P : X → Type 0) (xs : List X) (i : ℕ) (x : X) → i < length xs → x ≡ get_or xs i x → AllByRecursion P xs → P x
item_has P [] i x h e g = absurd (omega (arith, h))
item_has P (y ∷ xs) zero x h e g = subst P (sym e) g.0
item_has P (y ∷ xs) (suc i) x h e g = item_has P xs i x (omega (arith, h)) e g.1

-- ---- marks

-- the numbers from place j on
abbrev pub numbers_past : (Mark → Bool) → ℕ → List code.Mark → List ℕ
numbers_past test j marks = numbers_from test j (map mark_of (drop j marks))

next-numbers : (test : Mark → Bool) (marks : List code.Mark) (j : ℕ) (x : code.Mark) (t : Bool) → j < length marks → x ≡ get_or marks j x → t ≡ test (mark_of x) →
    numbers_past test j marks ≡ cond t (j ∷ numbers_past test (j + 1) marks) (numbers_past test (j + 1) marks)
next-numbers test marks j x t h e g =
    let next : suc j ≡ j + 1 = omega arith in let rest : List ℕ = numbers_past test (suc j) marks in
    ap (λ (ys : List code.Mark). numbers_from test j (map mark_of ys)) (drop-cons marks j x h)
    ∙ ap (λ (y : code.Mark). cond (test (mark_of y)) (j ∷ rest) rest) (sym e)
    ∙ ap (λ (s : Bool). cond s (j ∷ rest) rest) (sym g)
    ∙ ap (λ (n : ℕ). cond t (j ∷ numbers_past test n marks) (numbers_past test n marks)) next

pub marked_number : (test : Mark → Bool) (marks : List code.Mark) (j : ℕ) (x : code.Mark) (t : Bool) (old text text' : List ℕ) → j < length marks → x ≡ get_or marks j x → t ≡ test (mark_of x) → t ≡ true →
    text ++ listed (numbers_past test j marks) ≡ old → text' ≡ text ++ (32 ∷ decimal j) → text' ++ listed (numbers_past test (j + 1) marks) ≡ old
marked_number test marks j x t old text text' h e g k inv w =
    let rest : List ℕ = listed (numbers_past test (j + 1) marks) in
    ap (λ (s : List ℕ). s ++ rest) w ∙ append_assoc text (32 ∷ decimal j) rest
    ∙ ap (λ (ns : List ℕ). text ++ listed ns) (sym (next-numbers test marks j x t h e g ∙ ap (λ (s : Bool). cond s (j ∷ numbers_past test (j + 1) marks) (numbers_past test (j + 1) marks)) k)) ∙ inv

pub other_number : (test : Mark → Bool) (marks : List code.Mark) (j : ℕ) (x : code.Mark) (t : Bool) (old text : List ℕ) → j < length marks → x ≡ get_or marks j x → t ≡ test (mark_of x) → t ≡ false →
    text ++ listed (numbers_past test j marks) ≡ old → text ++ listed (numbers_past test (j + 1) marks) ≡ old
other_number test marks j x t old text h e g k inv =
    ap (λ (ns : List ℕ). text ++ listed ns) (sym (next-numbers test marks j x t h e g ∙ ap (λ (s : Bool). cond s (j ∷ numbers_past test (j + 1) marks) (numbers_past test (j + 1) marks)) k)) ∙ inv

pub no_numbers : (test : Mark → Bool) (marks : List code.Mark) (j : ℕ) (old text : List ℕ) → length marks ≤ j → text ++ listed (numbers_past test j marks) ≡ old → text ≡ old
no_numbers test marks j old text h inv = sym (append-nil text) ∙ ap (λ (ys : List code.Mark). text ++ listed (numbers_from test j (map mark_of ys))) (sym (drop_of_length-le marks h)) ∙ inv

-- ---- pairs

-- one more pair
pub next_pair : (xs : List (ℕ × Dy)) (a b c : List ℕ) (i : ℕ) (x : ℕ × Dy) → i < length xs → x ≡ get_or xs i x → HasPairs a (multipliers_of (take i xs)) b → HasPairs b ((x.0, dyadic_of x.1) ∷ []) c →
    HasPairs a (multipliers_of (take (i + 1) xs)) c
next_pair xs a b c i x h e p q =
    let done : List (ℕ × Dyadic) = multipliers_of (take i xs) in
    let more : multipliers_of (take (i + 1) xs) ≡ done ++ ((x.0, dyadic_of x.1) ∷ []) = map_more (λ (y : ℕ × Dy). (y.0, dyadic_of y.1)) xs i x h ∙ ap (λ (y : ℕ × Dy). done ++ ((y.0, dyadic_of y.1) ∷ [])) (sym e) in
    subst (λ (ps : List (ℕ × Dyadic)). HasPairs a ps c) (sym more) (both_pairs a b c done ((x.0, dyadic_of x.1) ∷ []) p q)
