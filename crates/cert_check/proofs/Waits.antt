-- What is due in a tree after a rule.
use Rattle.std.proofs.Common.{◌≡◌, ℕ, suc, zero, ◌+◌, ◌<◌, ◌≤◌, List, [], ◌∷◌, ◌++◌, length, map, All, drop, get_or, Bool, true, false, Option, Some, refl, ap, ap₂, sym, subst, ◌∙◌, append-nil, true≢false, arith, length-append}
use Rattle.std.proofs.lemmas.List.{drop_more, drop_all, get_or-map, length-map}
use Rattle.interval_model.specs.Space.{Domain, Space}
use Rattle.cert_read.specs.CertLine.{CertLine}
use Rattle.poly_graph.specs.declared.axis.Axis as code-axis
use Rattle.poly_graph.specs.Problem.{Axis, Problem}
use Rattle.cover_model.specs.State.{State, Loosenings}
use Rattle.cover_model.specs.Rules.{Left, closed, one, two, stays}
use Rattle.poly_graph.specs.ProblemViews.{axis_of, Parts}
use Rattle.cert_model.specs.Due.{CertFault, Standing, left_open, Due, next_due, lemma_due, tree_due, end_due, Next, on, faulty, after_rule, after_lemma_rule, tree_goes_on, lemma_goes_on, axis_next, coordinate_next}
use Rattle.cert_model.specs.Accepted.{ruled_line, next, axis_line, coordinate_line}
use Rattle.cert_check.specs.declared.due.Tree.{Tree}
use Rattle.cert_check.specs.States.{state_of, Fits}
use Rattle.cert_check.specs.Dues.{blanks, IsTree, lean_left, lean, lean_next}
use Rattle.cert_check.specs.Waiting.{FitsLeft, left_states, counted_stays, is_stays, waiting}

fits-more : (p : Parts) (S : State) (xs : List State) → Fits p S → All (Fits p) xs → All (Fits p) (S ∷ xs)
fits-more p S xs f h zero d l = f
fits-more p S xs f h (suc k) d l = h k d (omega (arith, l))

-- what waits behind a rule has a domain for each axis and a mark for each atom, as what waited before has
fits-behind : (p : Parts) (l : Left) (before behind : List State) → All (Fits p) before → FitsLeft p (Some l) → behind ≡ left_states l ++ before → All (Fits p) behind
fits-behind p l before behind h f e = subst (All (Fits p)) (sym e) (left l f)
  where
    left : (l : Left) → FitsLeft p (Some l) → All (Fits p) (left_states l ++ before)
    left closed f = h
    left stays f = h
    left (one S) f = fits-more p S before f h
    left (two S T) f = fits-more p S (T ∷ before) f.0 (fits-more p T before f.1 h)

pub tree_behind : (p : Parts) (l : Left) (before : List State) (t : Tree) → All (Fits p) before → FitsLeft p (Some l) → waiting (Some t) ≡ left_states l ++ before → IsTree p t
tree_behind p l before t h f e = let fits = fits-behind p l before (waiting (Some t)) h f e in
    record { state = fits 0 (state_of t.state) (omega arith); pending = λ k d g. fits (suc k) d (omega (arith, g)) }

-- ---- the number of states that stay

abbrev stayed : Left → Standing → List Standing
stayed stays x = x ∷ []
stayed l x = []

length-blanks : (n : ℕ) → length (blanks n) ≡ n
length-blanks zero = refl
length-blanks (suc n) = let e = length-blanks n in omega (arith, e)

stayed-count : (n : ℕ) (l : Left) (x : Standing) → length (blanks n ++ stayed l x) ≡ counted_stays n l
stayed-count n stays x = length-append (blanks n) (x ∷ []) ∙ ap (λ (k : ℕ). k + 1) (length-blanks n)
stayed-count n closed x = ap length (append-nil (blanks n)) ∙ length-blanks n
stayed-count n (one S) x = ap length (append-nil (blanks n)) ∙ length-blanks n
stayed-count n (two S T) x = ap length (append-nil (blanks n)) ∙ length-blanks n

-- ---- the main tree

after-left : (l : Left) (f : CertFault) (x : Standing) (pending : List State) (done : List Standing) (k : List State → List Standing → Due) →
    after_rule (Some l) f x pending done k ≡ on (k (left_states l ++ pending) (done ++ stayed l x))
after-left closed f x pending done k = ap (λ (d : List Standing). on (k pending d)) (sym (append-nil done))
after-left stays f x pending done k = refl
after-left (one S) f x pending done k = ap (λ (d : List Standing). on (k (S ∷ pending) d)) (sym (append-nil done))
after-left (two S T) f x pending done k = ap (λ (d : List Standing). on (k (S ∷ T ∷ pending) d)) (sym (append-nil done))

module _ (s : Loosenings) (lemmas : List State) (l : Left) (f : CertFault) (x : Standing) (pending : List State) (n m : ℕ) (count : m ≡ counted_stays n l) where
  same-count : lean_left (blanks n ++ stayed l x) ≡ blanks m
  same-count = ap blanks (stayed-count n l x ∙ sym count)

  pub main_done : left_states l ++ pending ≡ [] → lean_next (after_rule (Some l) f x pending (blanks n) (tree_goes_on s lemmas)) ≡ on (end_due s lemmas (left_open (blanks m)))
  main_done e =
      ap lean_next (after-left l f x pending (blanks n) (tree_goes_on s lemmas))
      ∙ ap (λ (ps : List State). lean_next (on (tree_goes_on s lemmas ps (blanks n ++ stayed l x)))) e
      ∙ ap (λ (d : List Standing). on (end_due s lemmas (left_open d))) same-count

  pub main_on : (S : State) (rest : List State) → left_states l ++ pending ≡ S ∷ rest →
      lean_next (after_rule (Some l) f x pending (blanks n) (tree_goes_on s lemmas)) ≡ on (tree_due s lemmas S rest (blanks m))
  main_on S rest e =
      ap lean_next (after-left l f x pending (blanks n) (tree_goes_on s lemmas))
      ∙ ap (λ (ps : List State). lean_next (on (tree_goes_on s lemmas ps (blanks n ++ stayed l x)))) e
      ∙ ap (λ (d : List Standing). on (tree_due s lemmas S rest d)) same-count

-- ---- a lemma's tree

after-lemma : (l : Left) (f : CertFault) (pending : List State) (k : List State → Due) → is_stays l ≡ false → after_lemma_rule (Some l) f pending k ≡ on (k (left_states l ++ pending))
after-lemma closed f pending k e = refl
after-lemma stays f pending k e = absurd (true≢false e)
after-lemma (one S) f pending k e = refl
after-lemma (two S T) f pending k e = refl

pub lemma_stays : (l : Left) (f : CertFault) (pending : List State) (k : List State → Due) → is_stays l ≡ true → after_lemma_rule (Some l) f pending k ≡ faulty f
lemma_stays stays f pending k e = refl
lemma_stays closed f pending k e = absurd (true≢false (sym e))
lemma_stays (one S) f pending k e = absurd (true≢false (sym e))
lemma_stays (two S T) f pending k e = absurd (true≢false (sym e))

module _ (s : Loosenings) (k : ℕ) (lemmas : List State) (L : State) (l : Left) (f : CertFault) (pending : List State) (goes : is_stays l ≡ false) where
  pub lemma_done : left_states l ++ pending ≡ [] → lean_next (after_lemma_rule (Some l) f pending (lemma_goes_on s k lemmas L)) ≡ on (next_due s k (lemmas ++ (L ∷ [])))
  lemma_done e = ap lean_next (after-lemma l f pending (lemma_goes_on s k lemmas L) goes) ∙ ap (λ (ps : List State). lean_next (on (lemma_goes_on s k lemmas L ps))) e

  pub lemma_on : (S : State) (rest : List State) → left_states l ++ pending ≡ S ∷ rest → lean_next (after_lemma_rule (Some l) f pending (lemma_goes_on s k lemmas L)) ≡ on (lemma_due s k lemmas L S rest)
  lemma_on S rest e = ap lean_next (after-lemma l f pending (lemma_goes_on s k lemmas L) goes) ∙ ap (λ (ps : List State). lean_next (on (lemma_goes_on s k lemmas L ps))) e

-- ---- what a line names

pub named_well : (t : Bool) (x : Next) → t ≡ true → ruled_line t x ≡ x
named_well t x e = ap (λ (b : Bool). ruled_line b x) e

pub named_badly : (t : Bool) (x : Next) → t ≡ false → ruled_line t x ≡ ruled_line false x
named_badly t x e = ap (λ (b : Bool). ruled_line b x) e

-- ---- axes, one after the other

pub lean_axis : (s : Loosenings) (k : ℕ) (lemmas : List State) (axes : List Axis) (space : Space) → lean (axis_next s k lemmas axes space) ≡ axis_next s k lemmas axes space
lean_axis s k lemmas [] space = refl
lean_axis s k lemmas (a ∷ axes) space = refl

pub lean_coordinate : (s : Loosenings) (axes : List Axis) (space : Space) → lean (coordinate_next s axes space) ≡ coordinate_next s axes space
lean_coordinate s [] space = refl
lean_coordinate s (a ∷ axes) space = refl

-- the axis whose line is due, and those behind it
pub axes_here : (axes : List code-axis.Axis) (all : List Axis) (n : ℕ) (r : code-axis.Axis) → map axis_of axes ≡ all → n < length axes → drop n all ≡ axis_of (get_or axes n r) ∷ drop (n + 1) all
axes_here axes all n r e h =
    let l : n < length all = omega (arith, h, length-map axes axis_of, ap length e) in
    drop_more all n (axis_of r) l
    ∙ ap (λ (x : Axis). x ∷ drop (n + 1) all) (ap (λ (xs : List Axis). get_or xs n (axis_of r)) (sym e) ∙ get_or-map axis_of axes n r (axis_of r) h)

pub axes_done : (axes : List code-axis.Axis) (all : List Axis) (n : ℕ) → map axis_of axes ≡ all → length axes ≤ n → drop n all ≡ []
axes_done axes all n e h = drop_all n all (omega (arith, h, length-map axes axis_of, ap length e))

one-longer : (space new : Space) (d : Domain) → new ≡ space ++ (d ∷ []) → length new ≡ length space + 1
one-longer space new d e = ap length e ∙ length-append space (d ∷ [])

module _ (p : Problem) (b : Option ℕ) (l : CertLine) (space : Space) (a : Axis) (axes : List Axis) (here : drop (length space) p.axes ≡ a ∷ axes) (behind : axes ≡ drop (length space + 1) p.axes) where
  pub axis_goes : (s : Loosenings) (k : ℕ) (lemmas : List State) (new : Space) (d : Domain) → new ≡ space ++ (d ∷ []) →
      axis_line p s k lemmas a.declared axes space l ≡ on (axis_next s k lemmas axes (space ++ (d ∷ []))) →
      lean_next (next p b (axis_next s k lemmas (drop (length space) p.axes) space) l) ≡ on (axis_next s k lemmas (drop (length new) p.axes) new)
  axis_goes s k lemmas new d e f =
      ap (λ (xs : List Axis). lean_next (next p b (axis_next s k lemmas xs space) l)) here ∙ ap lean_next f
      ∙ ap (λ (x : Due). on x) (lean_axis s k lemmas axes (space ++ (d ∷ [])))
      ∙ ap₂ (λ (xs : List Axis) (sp : Space). on (axis_next s k lemmas xs sp)) (behind ∙ ap (λ (n : ℕ). drop n p.axes) (sym (one-longer space new d e))) (sym e)

  pub coordinate_goes : (s : Loosenings) (new : Space) (d : Domain) → new ≡ space ++ (d ∷ []) →
      coordinate_line s a.declared axes space l ≡ on (coordinate_next s axes (space ++ (d ∷ []))) →
      lean_next (next p b (coordinate_next s (drop (length space) p.axes) space) l) ≡ on (coordinate_next s (drop (length new) p.axes) new)
  coordinate_goes s new d e f =
      ap (λ (xs : List Axis). lean_next (next p b (coordinate_next s xs space) l)) here ∙ ap lean_next f
      ∙ ap (λ (x : Due). on x) (lean_coordinate s axes (space ++ (d ∷ [])))
      ∙ ap₂ (λ (xs : List Axis) (sp : Space). on (coordinate_next s xs sp)) (behind ∙ ap (λ (n : ℕ). drop n p.axes) (sym (one-longer space new d e))) (sym e)
