-- Trees that are gone through line by line.
use Rattle.std.proofs.Common.{◌≡◌, ◌<◌, ◌≤◌, ◌+◌, ◌-◌, ◌^◌, ℕ, suc, List, [], ◌∷◌, ◌++◌, append_assoc, Bool, true, false, not, ◌&&◌, ◌||◌, cond, nat_eq, Option, Some, None, MatchOption, length, min, drop, refl, ap, sym, ◌∙◌, subst, inl, inr, arith}
use Rattle.std.specs.List.{AllByRecursion}
use Rattle.std.proofs.lemmas.Bool.Decides.{nat_tests}
use Rattle.std.proofs.lemmas.List.{append-nil, length-append, length-drop}
use Rattle.cover_model.specs.Rules.{Line}
use Rattle.cover_model.specs.Derivation.{Tree, leaf, then, fork, tree_lines}
use Rattle.cert_read.specs.Lines.{lines_of, split_at, onto_first, without_last_empty}
use Rattle.cert_read.specs.LineText.{IsSpelled}
use Rattle.cert_model.specs.Written.{rule_lines}
use Rattle.cert_joined.specs.Joined.{closes, first_line}
use Rattle.cert_joined.specs.Covers.{ends, goes_on, splits, IsShaped}
use Rattle.cert_join.specs.declared.cursor.Mark.{Mark}
use Rattle.cert_join.specs.declared.line.Left.{Left}
use Rattle.cert_join.specs.declared.line.Left.TheVariants.{Nothing, One, Two, Open, Stuck, Unknown}
use Rattle.cert_join.specs.declared.weighing.Weighing.{Weighing}
use Rattle.cert_join.specs.Kinds.{left_kind, rule_text, arity_of, does_stay, waiting_behind}
use Rattle.cert_join.specs.Spot.{Spot, IsBefore, IsMark, start}
use Rattle.cert_join.specs.Written.{texts_of}
use Rattle.cert_join.specs.Weighed.{Branch, IsFit, IsWithin, IsGone, IsMarkOf, ahead_of, behind_line, behind_next, behind_tree, close_all, forest_texts, tree_texts}
use Rattle.cert_join.proofs.Below.{arity_left, leaving_left}
use Rattle.cert_read.proofs.Parts.{split_some}
use Rattle.cert_join.specs.declared.joiner.Step.TheVariants.{Read, On}
use Rattle.cert_join.proofs.Spots.{before_again, some_kept}

-- ---- the lines of trees

texts-append : (xs ys : List Line) → texts_of (rule_lines (xs ++ ys)) ≡ texts_of (rule_lines xs) ++ texts_of (rule_lines ys)
texts-append [] ys = refl
texts-append (x ∷ xs) ys = ap (λ (ls : List (List ℕ)). rule_text x ∷ ls) (texts-append xs ys)

pub forest-append : (ts us : List Tree) → forest_texts (ts ++ us) ≡ forest_texts ts ++ forest_texts us
forest-append [] us = refl
forest-append (t ∷ ts) us = ap (λ (ls : List (List ℕ)). tree_texts t ++ ls) (forest-append ts us) ∙ sym (append_assoc (tree_texts t) (forest_texts ts) (forest_texts us))

-- the trees below the first line
abbrev pub below : Tree → List Tree
below (leaf l) = []
below (then l t) = t ∷ []
below (fork l t u) = t ∷ u ∷ []

pub tree_first : (t : Tree) → tree_texts t ≡ rule_text (first_line t) ∷ forest_texts (below t)
tree_first (leaf l) = refl
tree_first (then l t) = ap (λ (ls : List (List ℕ)). rule_text l ∷ ls) (sym (append-nil (tree_texts t)))
tree_first (fork l t u) = ap (λ (ls : List (List ℕ)). rule_text l ∷ ls) (texts-append (tree_lines t) (tree_lines u) ∙ ap (λ (ls : List (List ℕ)). tree_texts t ++ ls) (sym (append-nil (tree_texts u))))

-- the lines of a tree and others, behind which some stand
pub forest_first : (t : Tree) (ts : List Tree) (behind : List (List ℕ)) → forest_texts (t ∷ ts) ++ behind ≡ rule_text (first_line t) ∷ (forest_texts (below t ++ ts) ++ behind)
forest_first t ts behind =
    ap (λ (ls : List (List ℕ)). (ls ++ forest_texts ts) ++ behind) (tree_first t)
    ∙ ap (λ (ls : List (List ℕ)). rule_text (first_line t) ∷ (ls ++ behind)) (sym (forest-append (below t) ts))

-- one tree
pub forest_one : (b : Branch) → forest_texts (b.tree ∷ []) ++ b.behind ≡ ahead_of b
forest_one b = ap (λ (ls : List (List ℕ)). ls ++ b.behind) (append-nil (tree_texts b.tree))

fit_append : (ts us : List Tree) → AllByRecursion IsFit ts → AllByRecursion IsFit us → AllByRecursion IsFit (ts ++ us)
fit_append [] us h k = k
fit_append (t ∷ ts) us h k = (h.0, fit_append ts us h.1 k)

spelled-parts : (xs ys : List Line) → AllByRecursion IsSpelled (rule_lines (xs ++ ys)) → AllByRecursion IsSpelled (rule_lines xs) × AllByRecursion IsSpelled (rule_lines ys)
spelled-parts [] ys h = (tt, h)
spelled-parts (x ∷ xs) ys h = let r = spelled-parts xs ys h.1 in ((h.0, r.0), r.1)

pub fit_below : (t : Tree) → IsFit t → AllByRecursion IsFit (below t)
fit_below (leaf l) h = tt
fit_below (then l t) h = ((h.0.1, h.1.1), tt)
fit_below (fork l t u) h = let r = spelled-parts (tree_lines t) (tree_lines u) h.1.1 in ((h.0.1, r.0), ((h.0.2, r.1), tt))

-- ---- how many there are

at_least : (ts : List Tree) → length ts ≤ length (forest_texts ts)
at_least [] = omega arith
at_least (t ∷ ts) = omega (arith, at_least ts, length-append (tree_texts t) (forest_texts ts), ap length (tree_first t))

tail_fewer : (w : List ℕ) (ws : List (List ℕ)) → length (without_last_empty ws) ≤ length (without_last_empty (w ∷ ws))
tail_fewer [] [] = omega arith
tail_fewer [] (v ∷ ws) = omega arith
tail_fewer (b ∷ w) ws = omega (arith, ap length (some_kept b w ws))

one_more : (t : Bool) (b : ℕ) (bs w : List ℕ) (ws : List (List ℕ)) → split_at 10 bs ≡ w ∷ ws → length (lines_of bs) ≤ length bs
    → length (without_last_empty (cond t ([] ∷ split_at 10 bs) (onto_first b (split_at 10 bs)))) ≤ suc (length bs)
one_more true b bs w ws e few = omega (arith, few, ap (λ (ls : List (List ℕ)). length (without_last_empty ([] ∷ ls))) e, ap (λ (ls : List (List ℕ)). length (without_last_empty ls)) e)
one_more false b bs w ws e few =
    omega (
      arith,
      few,
      ap (λ (ls : List (List ℕ)). length (without_last_empty (onto_first b ls))) e,
      ap (λ (ls : List (List ℕ)). length (without_last_empty ls)) e,
      ap length (some_kept b w ws),
      tail_fewer w ws,
    )

-- bytes have no more lines than they are
few_lines : (bs : List ℕ) → length (lines_of bs) ≤ length bs
few_lines [] = omega arith
few_lines (b ∷ bs) = let parts = split_some 10 bs in one_more (nat_eq b 10) b bs parts.0 parts.1 parts.2 (few_lines bs)

-- so many trees are ahead that their number fits
pub few_trees : (cert : List ℕ) (ts : List Tree) (behind : List (List ℕ)) (s : Spot) → IsBefore cert (forest_texts ts ++ behind) s → length ts ≤ 2 ^ 64 - 1
few_trees cert ts behind s b =
    omega (arith, at_least ts, length-append (forest_texts ts) behind, ap length b.lines, few_lines (drop (start s) cert), length-drop (start s) cert, b.few)

-- ---- what a line leaves

ends_less : (k : Left) (n : ℕ) → arity_of k ≡ ends → waiting_behind k n ≡ n - 1
ends_less Nothing n h = refl
ends_less One n h = cc
ends_less Two n h = cc
ends_less Open n h = refl
ends_less Stuck n h = refl
ends_less Unknown n h = refl

on_same : (k : Left) (n : ℕ) → arity_of k ≡ goes_on → (waiting_behind k n ≡ n) × (does_stay k ≡ false)
on_same Nothing n h = absurd (cc)
on_same One n h = (refl, refl)
on_same Two n h = absurd (cc)
on_same Open n h = absurd (cc)
on_same Stuck n h = absurd (cc)
on_same Unknown n h = absurd (cc)

splits_more : (k : Left) (n : ℕ) → arity_of k ≡ splits → (waiting_behind k n ≡ min (n + 1) (2 ^ 64 - 1)) × (does_stay k ≡ false)
splits_more Nothing n h = absurd (cc)
splits_more One n h = absurd (cc)
splits_more Two n h = (refl, refl)
splits_more Open n h = absurd (cc)
splits_more Stuck n h = absurd (cc)
splits_more Unknown n h = absurd (cc)

-- as many states wait as trees are left
waits : (t : Tree) (ts : List Tree) → IsShaped t → length (below t ++ ts) ≤ 2 ^ 64 - 1 → waiting_behind (left_kind (first_line t)) (suc (length ts)) ≡ length (below t ++ ts)
waits (leaf l) ts h few = ends_less (left_kind l) (suc (length ts)) (sym (arity_left l) ∙ h) ∙ (let e : suc (length ts) - 1 ≡ length ts = omega arith in e)
waits (then l t) ts h few = (on_same (left_kind l) (suc (length ts)) (sym (arity_left l) ∙ h.0)).0
waits (fork l t u) ts h few = (splits_more (left_kind l) (suc (length ts)) (sym (arity_left l) ∙ h.0)).0 ∙ (let e : min (suc (length ts) + 1) (2 ^ 64 - 1) ≡ suc (suc (length ts)) = omega (arith, few) in e)

at_end : (w s c : Bool) → (not w && (not s && c)) ≡ (not (w || s) && c)
at_end true s c = refl
at_end false s c = refl

and_assoc : (a b c : Bool) → ((a && b) && c) ≡ (a && (b && c))
and_assoc true b c = refl
and_assoc false b c = refl

or_false : (w s : Bool) → s ≡ false → (w || s) ≡ w
or_false true s h = refl
or_false false s h = h

-- what is known of those left stays so
closes_on : (w : Bool) (t : Tree) (ts : List Tree) → IsShaped t → (not w && close_all (t ∷ ts)) ≡ (not (w || does_stay (left_kind (first_line t))) && close_all (below t ++ ts))
closes_on w (leaf l) ts h =
    ap (λ (s : Bool). not w && (not s && close_all ts)) (leaving_left l) ∙ at_end w (does_stay (left_kind l)) (close_all ts)
closes_on w (then l t) ts h =
    ap (λ (s : Bool). not s && (closes t && close_all ts)) (sym (or_false w (does_stay (left_kind l)) (on_same (left_kind l) 0 (sym (arity_left l) ∙ h.0)).1))
closes_on w (fork l t u) ts h =
    ap (λ (c : Bool). not w && c) (and_assoc (closes t) (closes u) (close_all ts))
    ∙ ap (λ (s : Bool). not s && (closes t && (closes u && close_all ts))) (sym (or_false w (does_stay (left_kind l)) (splits_more (left_kind l) 0 (sym (arity_left l) ∙ h.0)).1))

and_true : (t : Bool) → (t && true) ≡ t
and_true true = refl
and_true false = refl

zero_test : (n : ℕ) → n ≡ 0 → nat_eq n 0 ≡ true
zero_test n h = grind (arith, nat_tests)

more_test : (n : ℕ) → 0 < n → nat_eq n 0 ≡ false
more_test n h = grind (arith, nat_tests)

-- ---- a step within a tree

-- the mark is that of the tree's beginning
marks : (cert : List ℕ) (b : Branch) (left : List Tree) (s : Spot) (o : Option Mark) (m : Mark) → IsBefore cert (forest_texts left ++ b.behind) s
    → MatchOption o (left ≡ b.tree ∷ []) (IsMarkOf cert b) → MatchOption o (IsMark s m) (λ n. m ≡ n) → IsMarkOf cert b m
marks cert b left s None m before at is =
    before_again cert (ahead_of b) s m (subst (λ (ls : List (List ℕ)). IsBefore cert ls s) (ap (λ (ts : List Tree). forest_texts ts ++ b.behind) at ∙ forest_one b) before) is
marks cert b left s (Some n) m before at is = subst (IsMarkOf cert b) (sym is) at

-- more has to be read first
pub read_first : (cert : List ℕ) (b : Branch) (left : List Tree) (w : Weighing) (s s' : Spot) (m : Mark) (part : ℕ) → IsWithin cert b left w → IsBefore cert (forest_texts left ++ b.behind) s
    → IsBefore cert (forest_texts left ++ b.behind) s' → MatchOption w.mark (IsMark s m) (λ n. m ≡ n) → IsGone cert b w (record w { mark = Some m }) s' (Read part)
read_first cert b left w s s' m part h before before' is = inl (
  left,
  record { fit = h.fit; waiting = h.waiting; some = h.some; leaves = h.leaves; mark = marks cert b left s w.mark m before h.mark is },
  before',
  refl,
)

-- a line was passed
pub step_on : (cert : List ℕ) (b : Branch) (left : List Tree) (w : Weighing) (s s' : Spot) (m : Mark) (k : Left) → IsWithin cert b left w → IsBefore cert (forest_texts left ++ b.behind) s
    → MatchOption w.mark (IsMark s m) (λ n. m ≡ n)
    → ((r : Line) (ls : List (List ℕ)) → IsBefore cert (rule_text r ∷ ls) s → (k ≡ left_kind r) × IsBefore cert ls s')
    → IsGone cert b w (behind_next b.part m k (record w { mark = Some m })) s' On
step_on cert b [] w s s' m k h before is next = absurd (omega (arith, h.some))
step_on cert b (t ∷ ts) w s s' m k h before is next = by_left (below t ++ ts) refl where
  begins : IsMarkOf cert b m
  begins = marks cert b (t ∷ ts) s w.mark m before h.mark is

  passes : (k ≡ left_kind (first_line t)) × IsBefore cert (forest_texts (below t ++ ts) ++ b.behind) s'
  passes =
      next (first_line t) (forest_texts (below t ++ ts) ++ b.behind) (subst (λ (ls : List (List ℕ)). IsBefore cert ls s) (forest_first t ts b.behind) before)

  waiting : waiting_behind k w.waiting ≡ length (below t ++ ts)
  waiting =
      ap (λ (j : Left). waiting_behind j w.waiting) passes.0 ∙ ap (waiting_behind (left_kind (first_line t))) h.waiting
      ∙ waits t ts h.fit.0.0 (few_trees cert (below t ++ ts) b.behind s' passes.1)

  leaves : closes b.tree ≡ (not (w.leaves || does_stay k) && close_all (below t ++ ts))
  leaves =
      h.leaves ∙ closes_on w.leaves t ts h.fit.0.0 ∙ ap (λ (j : Left). not (w.leaves || does_stay j) && close_all (below t ++ ts)) (sym passes.0)

  fit : AllByRecursion IsFit (below t ++ ts)
  fit = fit_append (below t) ts (fit_below t h.fit.0) h.fit.1

  lined : Weighing
  lined = behind_line k (record w { mark = Some m })

  by_test : (test : Bool) → nat_eq (waiting_behind k w.waiting) 0 ≡ test → IsGone cert b w (cond test (behind_tree b.part m lined) lined) s' On
      → IsGone cert b w (behind_next b.part m k (record w { mark = Some m })) s' On
  by_test test e g = subst (λ (x : Bool). IsGone cert b w (cond x (behind_tree b.part m lined) lined) s' On) (sym e) g

  by_left : (us : List Tree) → (below t ++ ts) ≡ us → IsGone cert b w (behind_next b.part m k (record w { mark = Some m })) s' On
  by_left [] e =
      by_test true (zero_test (waiting_behind k w.waiting) (waiting ∙ ap length e)) (inr (
        m,
        lined,
        begins,
        subst (λ (vs : List Tree). IsBefore cert (forest_texts vs ++ b.behind) s') e passes.1,
        leaves ∙ ap (λ (vs : List Tree). not (w.leaves || does_stay k) && close_all vs) e ∙ and_true (not (w.leaves || does_stay k)),
        refl,
        refl,
      ))
  by_left (u ∷ us) e =
      by_test false (more_test (waiting_behind k w.waiting) (omega (arith, waiting, ap length e))) (inl (
        below t ++ ts,
        record { fit = fit; waiting = waiting; some = omega (arith, ap length e); leaves = leaves; mark = begins },
        passes.1,
        refl,
      ))
