-- Each rule of a cover keeps the points that meet the form, and so does each lawful tree.
use Rattle.std.proofs.Common.{◌≡◌, ◌⊎◌, inl, inr, ℕ, suc, zero, List, [], ◌∷◌, ◌++◌, Bool, true, false, not, ◌&&◌, cond, IsTrue, Option, Some, None, refl, sym, subst, true≢false}
use Rattle.std.specs.Prelude.{slice_get}
use Rattle.std.specs.List.{AllByRecursion}
use Rattle.dyadic.specs.Fraction.{at_most}
use Rattle.dyadic.specs.Point.{Coordinate, at_fraction, at_bool}
use Rattle.dyadic.specs.Rounding.{Dyadic, exact}
use Rattle.dyadic.proofs.Equal.{both_true, both_pass, total}
use Rattle.poly_graph.specs.Term.{atom_holds, term_value}
use Rattle.interval_model.specs.Space.{Domain, real_domain, bool_domain, Space, in_space, in_domain, space_within, lower_part, upper_part, keep, changed}
use Rattle.cover_model.specs.Space.{range}
use Rattle.poly_graph.specs.Problem.{Problem, IsProblem, sorts_of_problem, atom_at, term_of, full_atom}
use Rattle.poly_graph.specs.Marks.{Mark, marked_yes, marked_no, is_yes, is_no, marks_within}
use Rattle.cover_model.specs.State.{State, Loosenings, margin_of, in_no, undecided, with_yes, with_no, with_space, may, IsPointOf, MeetsForm, IsLemma, covers}
use Rattle.cover_model.specs.Rules.{Line, narrow_by, end_by, mark_by, branch_by, stay_by, Narrowing, by_range, by_off_range, by_combination, Ending, void_by, by_squares, false_form, by_lemma, Marking, unit_atom, ban_atom, Branching, cut_axis, flip_axis, case_atom, either_group, Left, closed, one, two, stays, narrowing, narrowing_off, has_version_2, is_void_by_squares, is_one_sided, in_no_one_sided, can_push, covers_by, lemma_covers, can_narrow, narrowed_to, ending, can_mark, marked, with_all_yes, none_may_fail, one_holds, are_groups, has_version_5, can_part, is_parted, can_branch, first_child, second_child, can_stay, when, pulled, voided, rule}
use Rattle.cover_model.specs.Derivation.{Tree, Lawful, at_closed, at_left, at_step, at_fork, Keeps, KeepsIf, Among, here, later, AreLemmas}
use Rattle.poly_graph.proofs.Marks.{set_or_same, yes_within, no_within}
use Rattle.cover_model.proofs.CombinationMarked.{combined_point}
use Rattle.cover_model.proofs.Squares.{void_by_squares}
use Rattle.cover_model.proofs.May.{may_is, range_holds, range_kept, margin_on_grid}
use Rattle.cover_model.proofs.Narrows.{narrows}
use Rattle.cover_model.proofs.OffRanges.{off_range_kept, off_range_holds}
use Rattle.cover_model.specs.OffRange.{off_range}
use Rattle.poly_graph.proofs.Bools.{not_both, decided}
use Rattle.cover_model.proofs.Within.{space_keeps_point}

module _ (p : Problem) (s : Loosenings) where
  pub first_part : {point : List Coordinate} {xs : List State} (ys : List State) → Among p s point xs → Among p s point (xs ++ ys)
  first_part ys (here i) = here i
  first_part ys (later a) = later (first_part ys a)

  pub second_part : {point : List Coordinate} (xs : List State) {ys : List State} → Among p s point ys → Among p s point (xs ++ ys)
  second_part [] a = a
  second_part (x ∷ xs) a = later (second_part xs a)

  -- ---- marks

  pub with_yes_point : (S : State) (point : List Coordinate) → IsPointOf p s S point → (j : ℕ) → IsTrue (atom_holds (exact (margin_of s)) point (full_atom p j)) → IsPointOf p s (with_yes S j) point
  with_yes_point S point i j h = record {
    sorted = i.sorted;
    inside = i.inside;
    yes = λ k e. elim (set_or_same S.marks j marked_yes k) [
      | inl d ↦ subst (λ (n : ℕ). IsTrue (atom_holds (exact (margin_of s)) point (full_atom p n))) d.0 h
      | inr d ↦ i.yes k (subst (λ (m : Mark). IsTrue (is_yes m)) d e)
    ];
    no = λ k e. elim (set_or_same S.marks j marked_yes k) [
      | inl d ↦ absurd (true≢false (sym (subst (λ (m : Mark). IsTrue (is_no m)) d.1 e)))
      | inr d ↦ i.no k (subst (λ (m : Mark). IsTrue (is_no m)) d e)
    ];
  }

  pub with_no_point : (S : State) (point : List Coordinate) → IsPointOf p s S point → (j : ℕ) → IsTrue (not (atom_holds (exact (margin_of s)) point (full_atom p j))) → IsPointOf p s (with_no S j) point
  with_no_point S point i j h = record {
    sorted = i.sorted;
    inside = i.inside;
    yes = λ k e. elim (set_or_same S.marks j marked_no k) [
      | inl d ↦ absurd (true≢false (sym (subst (λ (m : Mark). IsTrue (is_yes m)) d.1 e)))
      | inr d ↦ i.yes k (subst (λ (m : Mark). IsTrue (is_yes m)) d e)
    ];
    no = λ k e. elim (set_or_same S.marks j marked_no k) [
      | inl d ↦ subst (λ (n : ℕ). IsTrue (not (atom_holds (exact (margin_of s)) point (full_atom p n)))) d.0 h
      | inr d ↦ i.no k (subst (λ (m : Mark). IsTrue (is_no m)) d e)
    ];
  }

  pub atom_split : (S : State) (point : List Coordinate) → IsPointOf p s S point → (j : ℕ) → IsPointOf p s (with_yes S j) point ⊎ IsPointOf p s (with_no S j) point
  atom_split S point i j = elim (decided (atom_holds (exact (margin_of s)) point (full_atom p j))) [ inl h ↦ inl (with_yes_point S point i j h) | inr h ↦ inr (with_no_point S point i j h) ]

  -- ---- branches

  part-cut : (c : Dyadic) (d : Domain) (x : Coordinate) → IsTrue (in_domain d x) → IsTrue (in_domain (lower_part c d) x) ⊎ IsTrue (in_domain (upper_part c d) x)
  part-cut c (bool_domain f t) x h = inl h
  part-cut c (real_domain l u) (at_bool b) h = inl h
  part-cut c (real_domain l u) (at_fraction q) h = let e = both_true (at_most (exact l) q) (at_most q (exact u)) h in elim (total q (exact c)) [
    | inl k ↦ inl (both_pass (at_most (exact l) q) (at_most q (exact c)) e.0 k)
    | inr k ↦ inr (both_pass (at_most (exact c) q) (at_most q (exact u)) k e.1)
  ]

  part-flip : (d : Domain) (x : Coordinate) → IsTrue (in_domain d x) → IsTrue (in_domain (keep false d) x) ⊎ IsTrue (in_domain (keep true d) x)
  part-flip (real_domain l u) x h = inl h
  part-flip (bool_domain f t) (at_bool true) h = inr refl
  part-flip (bool_domain f t) (at_bool false) h = inl refl
  part-flip (bool_domain f t) (at_fraction q) h = inl h

  -- two parts of a domain that keep its coordinates make two parts of the space that keep its points
  space-parts : (f g : Domain → Domain) → ((d : Domain) (x : Coordinate) → IsTrue (in_domain d x) → IsTrue (in_domain (f d) x) ⊎ IsTrue (in_domain (g d) x)) →
      (axis : ℕ) (space : Space) (point : List Coordinate) → IsTrue (in_space space point) → IsTrue (in_space (changed f axis space) point) ⊎ IsTrue (in_space (changed g axis space) point)
  space-parts f g parts axis [] point h = inl h
  space-parts f g parts axis (d ∷ space) [] h = absurd (true≢false (sym h))
  space-parts f g parts zero (d ∷ space) (x ∷ point) h = let e = both_true (in_domain d x) (in_space space point) h in elim (parts d x e.0) [
    | inl k ↦ inl (both_pass (in_domain (f d) x) (in_space space point) k e.1)
    | inr k ↦ inr (both_pass (in_domain (g d) x) (in_space space point) k e.1)
  ]
  space-parts f g parts (suc axis) (d ∷ space) (x ∷ point) h = let e = both_true (in_domain d x) (in_space space point) h in elim (space-parts f g parts axis space point e.1) [
    | inl k ↦ inl (both_pass (in_domain d x) (in_space (changed f axis space) point) e.0 k)
    | inr k ↦ inr (both_pass (in_domain d x) (in_space (changed g axis space) point) e.0 k)
  ]

  with-space : (S : State) (point : List Coordinate) → IsPointOf p s S point → (space : Space) → IsTrue (in_space space point) → IsPointOf p s (with_space S space) point
  with-space S point i space h = record { sorted = i.sorted; inside = h; yes = i.yes; no = i.no }

  -- ---- covering

  -- a point of a state is one of each state that covers it
  pub covered : (L S : State) (point : List Coordinate) → IsTrue (covers L S) → IsPointOf p s S point → IsPointOf p s L point
  covered L S point h i = let a = both_true (space_within S.space L.space) (marks_within L.marks S.marks) h in record {
    sorted = i.sorted;
    inside = space_keeps_point S.space L.space point a.0 i.inside;
    yes = λ j k. i.yes j (yes_within L.marks S.marks a.1 j k);
    no = λ j k. i.no j (no_within L.marks S.marks a.1 j k);
  }

  lemma-test : (lemmas : List State) (k : ℕ) (S : State) (o : Option State) → slice_get lemmas k ≡ o → IsTrue (covers_by o S) → (L : State) × (slice_get lemmas k ≡ Some L) × IsTrue (covers L S)
  lemma-test lemmas k S (Some L) e h = (L, e, h)
  lemma-test lemmas k S None e h = absurd (true≢false (sym h))

  no-point : (lemmas : List State) → AreLemmas p s lemmas → (k : ℕ) (S : State) (point : List Coordinate) → IsTrue (lemma_covers lemmas k S) → IsPointOf p s S point → MeetsForm p s point → ⊥
  no-point lemmas f k S point h i m = let t = lemma-test lemmas k S (slice_get lemmas k) refl h in f k t.0 t.1 point (covered t.0 S point t.2 i) m

  -- ---- conditions

  by-when : (b : Bool) (l : Left) (S : State) (point : List Coordinate) → (IsTrue b → Keeps p s l S point) → KeepsIf p s (when b l) S point
  by-when true l S point f = f refl
  by-when false l S point f = tt

  by-cond : (c b : Bool) (o : Option Left) (S : State) (point : List Coordinate) → c ≡ b → (c ≡ true → KeepsIf p s o S point) → KeepsIf p s (cond b o None) S point
  by-cond c true o S point e f = f e
  by-cond c false o S point e f = tt

  keeps-along : (o : Option Left) (l : Left) (S : State) (point : List Coordinate) → o ≡ Some l → KeepsIf p s o S point → Keeps p s l S point
  keeps-along o l S point e k = subst (λ (x : Option Left). KeepsIf p s x S point) e k

  module _ (g : IsProblem p) where
    -- a state's point at which atom j holds is a point of the narrowed space
    pub narrowing_keeps : (S : State) (point : List Coordinate) → IsPointOf p s S point → (j : ℕ) → IsTrue (atom_holds (exact (margin_of s)) point (full_atom p j)) →
        (space : Space) × (narrowing p s S j ≡ Some space) × IsTrue (in_space space point)
    narrowing_keeps S point i j h = narrows (sorts_of_problem p) p.nodes g.ordered g.nodes S.space point i.sorted i.inside (atom_at p j).0 (range (margin_of s) (atom_at p j).1) (range_kept (margin_of s) (margin_on_grid s) (atom_at p j).1)
        (range_holds (margin_of s) (atom_at p j).1 (term_value point (term_of p j)) h)

    narrowing_off_keeps : (S : State) (point : List Coordinate) → IsPointOf p s S point → (j : ℕ) → IsTrue (not (atom_holds (exact (margin_of s)) point (full_atom p j))) →
        (space : Space) × (narrowing_off p s S j ≡ Some space) × IsTrue (in_space space point)
    narrowing_off_keeps S point i j h = narrows (sorts_of_problem p) p.nodes g.ordered g.nodes S.space point i.sorted i.inside (atom_at p j).0 (off_range (margin_of s) (atom_at p j).1) (off_range_kept (margin_of s) (margin_on_grid s) (atom_at p j).1)
        (off_range_holds (margin_of s) (atom_at p j).1 (term_value point (term_of p j)) h)

    can-be-no : (S : State) (j : ℕ) → IsTrue (can_push p s S j) → IsTrue (in_no S j)
    can-be-no S j e = (both_true (in_no S j) (is_one_sided (atom_at p j).1) (both_true (has_version_2 s) (in_no_one_sided p S j) e).1).0

    -- ---- shapes

    -- what narrows a state keeps its points
    pub narrows_soundly : (S : State) (n : Narrowing) (point : List Coordinate) → IsPointOf p s S point → IsTrue (can_narrow p s S n) →
        (space : Space) × (narrowed_to p s S n ≡ Some space) × IsTrue (in_space space point)
    narrows_soundly S (by_range j) point i e = narrowing_keeps S point i j (i.yes j e)
    narrows_soundly S (by_off_range j) point i e = narrowing_off_keeps S point i j (i.no j (can-be-no S j e))
    narrows_soundly S (by_combination ms) point i e = combined_point p s S point i g ms e

    -- what closes a state leaves out none that meets the form
    pub ends_soundly : (lemmas : List State) → AreLemmas p s lemmas → (S : State) (e : Ending) (point : List Coordinate) → IsPointOf p s S point → MeetsForm p s point → KeepsIf p s (ending p s lemmas S e) S point
    ends_soundly lemmas f S (void_by n) point i h = by-cond (can_narrow p s S n) (can_narrow p s S n) (voided (narrowed_to p s S n)) S point refl
        (λ e. let k = narrows_soundly S n point i e in rw k.1 tt)
    ends_soundly lemmas f S (by_squares ms bs) point i h = by-when (is_void_by_squares p s S ms bs) closed S point (λ e. void_by_squares p s S point i g ms bs e)
    ends_soundly lemmas f S false_form point i h = by-when (not (may p s S)) closed S point (λ e. not_both (may p s S) (may_is p g s S point i h) e)
    ends_soundly lemmas f S (by_lemma k) point i h = by-when (lemma_covers lemmas k S) closed S point (λ e. no-point lemmas f k S point e i h)

    -- what marks an atom keeps those that meet the form
    pub marks_soundly : (lemmas : List State) → AreLemmas p s lemmas → (S : State) (m : Marking) (point : List Coordinate) → IsPointOf p s S point → MeetsForm p s point → IsTrue (can_mark p s lemmas S m) → IsPointOf p s (marked S m) point
    marks_soundly lemmas f S (unit_atom j) point i h e =
        elim (atom_split S point i j) [ inl k ↦ k | inr k ↦ absurd (not_both (may p s (with_no S j)) (may_is p g s (with_no S j) point k h) (both_true (undecided S j) _ e).1) ]
    marks_soundly lemmas f S (ban_atom j k) point i h e =
        elim (atom_split S point i j) [ inl a ↦ absurd (no-point lemmas f k (with_yes S j) point (both_true (undecided S j) _ e).1 a h) | inr a ↦ a ]

    -- ---- groups of atoms

    abbrev HoldsAt : List Coordinate → ℕ → Type 0
    HoldsAt point j = IsTrue (atom_holds (exact (margin_of s)) point (full_atom p j))

    -- a point at which each of these atoms holds
    group-holds : (S : State) (point : List Coordinate) → IsPointOf p s S point → (js : List ℕ) → AllByRecursion (HoldsAt point) js → IsPointOf p s (with_all_yes S js) point
    group-holds S point i [] f = i
    group-holds S point i (j ∷ js) f = group-holds (with_yes S j) point (with_yes_point S point i j f.0) js f.1

    -- where the form may not hold if any of them fails, each holds
    all-hold : (S : State) (point : List Coordinate) → IsPointOf p s S point → MeetsForm p s point → (ks : List ℕ) → IsTrue (none_may_fail p s S ks) → AllByRecursion (HoldsAt point) ks
    all-hold S point i h [] e = tt
    all-hold S point i h (k ∷ ks) e = let d = both_true (not (may p s (with_no S k))) (none_may_fail p s S ks) e in (
      elim (decided (atom_holds (exact (margin_of s)) point (full_atom p k))) [
        | inl a ↦ a
        | inr a ↦ absurd (not_both (may p s (with_no S k)) (may_is p g s (with_no S k) point (with_no_point S point i k a) h) d.0)
      ],
      all-hold S point i h ks d.1,
    )

    -- the atoms of one group hold
    one-group : (S : State) (point : List Coordinate) → IsPointOf p s S point → MeetsForm p s point → (js ks : List ℕ) → IsTrue (one_holds p s S js ks) →
        AllByRecursion (HoldsAt point) js ⊎ AllByRecursion (HoldsAt point) ks
    one-group S point i h [] ks e = inl tt
    one-group S point i h (j ∷ js) ks e = let d = both_true (none_may_fail p s (with_no S j) ks) (one_holds p s S js ks) e in elim (decided (atom_holds (exact (margin_of s)) point (full_atom p j))) [
      | inl a ↦ elim (one-group S point i h js ks d.1) [ inl f ↦ inl (a, f) | inr f ↦ inr f ]
      | inr a ↦ inr (all-hold (with_no S j) point (with_no_point S point i j a) h ks d.0)
    ]

    -- each point of a state that meets the form is one of a part
    pub parts_soundly : (S : State) (b : Branching) (point : List Coordinate) → IsPointOf p s S point → MeetsForm p s point → IsTrue (can_branch p s S b) → IsPointOf p s (first_child S b) point ⊎ IsPointOf p s (second_child S b) point
    parts_soundly S (cut_axis axis c) point i h e =
        elim (space-parts (lower_part c) (upper_part c) (part-cut c) axis S.space point i.inside) [ inl k ↦ inl (with-space S point i _ k) | inr k ↦ inr (with-space S point i _ k) ]
    parts_soundly S (flip_axis axis) point i h e =
        elim (space-parts (keep false) (keep true) part-flip axis S.space point i.inside) [ inl k ↦ inl (with-space S point i _ k) | inr k ↦ inr (with-space S point i _ k) ]
    parts_soundly S (case_atom j) point i h e = atom_split S point i j
    parts_soundly S (either_group js ks) point i h e =
        elim (one-group S point i h js ks (both_true (has_version_5 s && are_groups js ks) (one_holds p s S js ks) (both_true (can_part S (either_group js ks)) _ e).1).1) [ inl f ↦ inl (group-holds S point i js f) | inr f ↦ inr (group-holds S point i ks f) ]

    -- a point of the state that meets the form is a point of some state that the rule leaves
    pub rule_keeps : (lemmas : List State) → AreLemmas p s lemmas → (S : State) (l : Line) → (point : List Coordinate) → IsPointOf p s S point → MeetsForm p s point → KeepsIf p s (rule p s lemmas S l) S point
    rule_keeps lemmas f S (narrow_by n) point i h = by-cond (can_narrow p s S n) (can_narrow p s S n) (pulled S (narrowed_to p s S n)) S point refl
        (λ e. let k = narrows_soundly S n point i e in rw k.1 (with-space S point i k.0 k.2))
    rule_keeps lemmas f S (end_by e) point i h = ends_soundly lemmas f S e point i h
    rule_keeps lemmas f S (mark_by m) point i h = by-when (can_mark p s lemmas S m) (one (marked S m)) S point (λ e. marks_soundly lemmas f S m point i h e)
    rule_keeps lemmas f S (branch_by b) point i h = by-when (can_branch p s S b) (two (first_child S b) (second_child S b)) S point (λ e. parts_soundly S b point i h e)
    rule_keeps lemmas f S (stay_by t) point i h = by-when (can_stay p s S t) stays S point (λ e. tt)

    -- a whole tree: each point of its state that meets the form is one of a state that stays
    pub tree_keeps : (lemmas : List State) → AreLemmas p s lemmas → {S : State} {t : Tree} {rest : List State} → Lawful p s lemmas S t rest →
        (point : List Coordinate) → IsPointOf p s S point → MeetsForm p s point → Among p s point rest
    tree_keeps lemmas f (at_closed {S = S} {l = l} e) point i h = absurd (keeps-along (rule p s lemmas S l) closed S point e (rule_keeps lemmas f S l point i h))
    tree_keeps lemmas f (at_left {S = S} e) point i h = here i
    tree_keeps lemmas f (at_step {S = S} {S' = S'} {l = l} e r) point i h = tree_keeps lemmas f r point (keeps-along (rule p s lemmas S l) (one S') S point e (rule_keeps lemmas f S l point i h)) h
    tree_keeps lemmas f (at_fork {S = S} {S' = S'} {S'' = S''} {l = l} {rest = xs} {rest' = ys} e r r') point i h =
        elim (keeps-along (rule p s lemmas S l) (two S' S'') S point e (rule_keeps lemmas f S l point i h)) [
          | inl k ↦ first_part ys (tree_keeps lemmas f r point k h)
          | inr k ↦ second_part xs (tree_keeps lemmas f r' point k h)
        ]

    -- a tree in which no state stays shows that no point of its state meets the form
    pub none_left : (lemmas : List State) → AreLemmas p s lemmas → {S : State} {t : Tree} → Lawful p s lemmas S t [] → IsLemma p s S
    none_left lemmas f r point i h = elim (tree_keeps lemmas f r point i h) [ ]
