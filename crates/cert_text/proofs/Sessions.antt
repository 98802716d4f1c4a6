-- The parts of the books of several checks follow the rules, and their text is accepted with what they tell.
use Rattle.std.proofs.Common.{◌≡◌, inl, inr, ℕ, zero, suc, ◌+◌, ◌≤◌, List, [], ◌∷◌, ◌++◌, map, length, Bool, true, false, not, ◌&&◌, cond, is_some, All, Option, Some, None, IsTrue, refl, ap, ap₂, sym, ◌∙◌, subst, arith}
use Rattle.std.specs.Prelude.{slice_get, IfSome}
use Rattle.std.proofs.Math.Seq.{take-length}
use Rattle.std.proofs.lemmas.List.{length-map}
use Rattle.std.proofs.lemmas.List.Elements.{All-map, All-weaker}
use Rattle.dyadic.specs.Rounding.{exact}
use Rattle.dyadic.proofs.Equal.{both_pass}
use Rattle.interval_model.specs.Space.{Space}
use Rattle.poly_graph.specs.Problem.{Problem}
use Rattle.poly_graph.specs.ProblemViews.{Parts, problem_of}
use Rattle.problem_session.specs.Session.{problems_of}
use Rattle.cover_model.specs.Space.{IsGridSpace}
use Rattle.cover_model.specs.State.{State, Loosenings, in_version, delta_of, sure, root_state}
use Rattle.cover_model.specs.Rules.{open_line}
use Rattle.cover_model.specs.Honest.{is_honest, branch_count}
use Rattle.cover_model.specs.Derivation.{Tree, Lawful}
use Rattle.cover_model.specs.Fits.{coordinates, are_near, IsShownAt}
use Rattle.cover_data.specs.declared.margins.Options.{Options}
use Rattle.cert_model.specs.Due.{Standing, Value, left_open, is_crossed_box}
use Rattle.cert_model.specs.Accepted.{most_lemmas}
use Rattle.cert_model.specs.Session.{kept_by}
use Rattle.cert_model.specs.SessionLaws.{WrittenEnd, written_tree, written_crossing, WrittenPart, written_cover, written_point, lemmas_of_part, value_of_part, standing_of_part, IsLawfulEnd, IsLawfulPart, AreLawfulParts, values_of_parts, standings_of_parts, in_version_3}
use Rattle.cert_model.specs.Standing.{Stands, branches_of}
use Rattle.cert_model.specs.Written.{LemmaTree, lemma_states, left_standing, tree_standing}
use Rattle.cert_model.proofs.Versions.{lawful_in_version_3, honest_in_version_3}
use Rattle.cert_model.proofs.Takes.{branches_stand}
use Rattle.cover_book.specs.Model.{BookModel, IsOfRoot, LearnedLemma, problem_in, loosenings_in, lemma_states_in, kept_from}
use Rattle.cover_book.specs.Tree.{lemma_tree, lemma_trees, cover_lemmas}
use Rattle.cover_book.specs.Keeps.{IsBook}
use Rattle.cover_book.specs.Laws.{IsTreeOfBook}
use Rattle.cover_book.specs.Session.{AreBooksOf}
use Rattle.cover_book.proofs.Meaning.{tree_is_honest}
use Rattle.cover_book.proofs.Opens.{first_crosses}
use Rattle.cert_text.specs.Session.{IsEndOf, IsPartOf, ArePartsOf, StandsHonestly, TellsOf, session_loosenings, session_version}

if-some : {X : Type 0} (P : X → Type 0) (o : Option X) (x : X) → o ≡ Some x → IfSome o P → P x
if-some P None x e h = cc
if-some P (Some y) x e h = let same : y ≡ x = cc in subst P same h

-- ---- the part of a book follows the rules

module _ (b : BookModel) (w : IsBook b) (rooted : IsOfRoot b) where
  abbrev p : Problem
  p = problem_in b

  abbrev s : Loosenings
  s = loosenings_in b

  at-root : (t : Tree) (left : List Standing) (i : IsTreeOfBook b t left) → Lawful p s (cover_lemmas b) (root_state p) t i.states
  at-root t left i = subst (λ (S : State). Lawful p s (cover_lemmas b) S t i.states) rooted i.lawful

  end-lawful : (e : WrittenEnd) → IsEndOf b e → IsLawfulEnd p s (cover_lemmas b) e
  end-lawful (written_tree t) h = (h.1.not_crossed, (h.1.states, at-root t h.0 h.1), h.1.names)
  end-lawful (written_crossing i) h = first_crosses p i h

  shown-point : (space : Space) → b.point ≡ Some space → IsShownAt p s space
  shown-point space e = (if-some (λ (x : Space). IsShownAt p s x × IsGridSpace x) b.point space e w.point).0

  part-lawful : (x : WrittenPart) → IsPartOf b x → IsLawfulPart s p b.kept x
  part-lawful (written_cover kept lemmas e) h =
      let few : length b.kept + length (lemma_trees b) ≤ most_lemmas = omega (arith, length-map b.lemmas lemma_tree, w.few_lemmas) in
      let own : IsLawfulPart s p b.kept (written_cover b.kept (lemma_trees b) e) = (sym (take-length b.kept), few, w.lemmas, end-lawful e h.3) in
      subst (λ (ks : List State). IsLawfulPart s p b.kept (written_cover ks lemmas e)) (sym h.1)
      (subst (λ (ls : List LemmaTree). IsLawfulPart s p b.kept (written_cover b.kept ls e)) (sym h.2) own)
  part-lawful (written_point space) e =
      let h = shown-point space e in (h.single, both_pass (sure p s space) (are_near (exact (delta_of s)) p.axes (coordinates space)) h.surely h.near)

  -- ---- what the next part may keep

  states-again : (xs : List LearnedLemma) → map (λ (x : LearnedLemma). x.state) xs ≡ lemma_states (map lemma_tree xs)
  states-again [] = refl
  states-again (x ∷ xs) = ap (λ (ks : List State). x.state ∷ ks) (states-again xs)

  none-or-none : (c : Bool) → ◌≡◌ {A = List State} (cond c [] []) []
  none-or-none true = refl
  none-or-none false = refl

  by-force : (e : Bool) (q : Problem) (lemmas : List State) → cond e (kept_by true p lemmas q) [] ≡ kept_by e p lemmas q
  by-force true q lemmas = refl
  by-force false q lemmas = refl

  next-kept : (x : WrittenPart) → IsPartOf b x → (e : Bool) (q : Parts) → cond e (kept_from b q) [] ≡ kept_by e p (lemmas_of_part x) (problem_of q)
  next-kept (written_point space) h e q =
      ap (λ (o : Option Space). cond e (cond (is_some o) [] (kept_by true p (lemma_states_in b) (problem_of q))) []) h
      ∙ none-or-none e ∙ sym (none-or-none (e && not (is_crossed_box p) && not (is_crossed_box (problem_of q))))
  next-kept (written_cover kept lemmas end) h e q =
      ap (λ (o : Option Space). cond e (cond (is_some o) [] (kept_by true p (lemma_states_in b) (problem_of q))) []) h.0
      ∙ by-force e (problem_of q) (lemma_states_in b)
      ∙ ap (λ (ks : List State). kept_by e p ks (problem_of q)) (ap (λ (ks : List State). b.kept ++ ks) (states-again b.lemmas) ∙ ap₂ (λ (ks : List State) (ls : List LemmaTree). ks ++ lemma_states ls) (sym h.1) (sym h.2))

  -- ---- what it tells

  abbrev several : Loosenings
  several = in_version (session_version s.version) s

  -- what holds in the version of the book, and of version 2 in version 3, holds in the version for several checks
  in-several : (P : Loosenings → Type 0) → (s.version ≡ 2 → P (in_version_3 s)) → P s → P several
  in-several P f h = elim w.limits.margins.version_is [
    | inl e ↦ subst P (sym (ap (λ (v : ℕ). in_version (session_version v) s) e)) (f e)
    | inr e ↦ subst P (sym (ap (λ (v : ℕ). in_version (session_version v) s) e ∙ ap (λ (v : ℕ). in_version v s) (sym e))) h
  ]

  honest-again : (least : ℕ) (x : Standing) → IsTrue (is_honest p least s x.state x.does) → IsTrue (is_honest p least several x.state x.does)
  honest-again least x h =
      in-several (λ (t : Loosenings). IsTrue (is_honest p least t x.state x.does)) (λ e. honest_in_version_3 s e p least x.state x.does ∙ h) h

  abbrev stood : List Standing → List Stands
  stood xs = map (λ (x : Standing). record { loosenings = several; line = x }) xs

  same-branches : (xs : List Standing) → branches_of (stood xs) ≡ branches_of (map (λ (x : Standing). record { loosenings = s; line = x }) xs)
  same-branches [] = refl
  same-branches (x ∷ xs) = ap (λ (n : ℕ). branch_count x.does + n) (same-branches xs)

  honestly : (t : Tree) (left : List Standing) → IsTreeOfBook b t left → StandsHonestly b (stood (tree_standing p s (cover_lemmas b) (root_state p) t))
  honestly t left i =
      let lines : List Standing = tree_standing p s (cover_lemmas b) (root_state p) t in
      let w' : ℕ = b.options.least_bits in
      let again = honest-again w' in
      record {
        branches = same-branches lines ∙ branches_stand p None s (cover_lemmas b) (at-root t left i) ∙ i.branches;
        ends = All-map (λ (x : Stands). (x.line.does ≡ open_line → ⊥) → IsTrue (is_honest p w' x.loosenings x.line.state x.line.does)) (λ (x : Standing). record { loosenings = several; line = x }) lines
            (All-weaker (λ (x : Standing). (x.does ≡ open_line → ⊥) → IsTrue (is_honest p w' s x.state x.does)) (λ (x : Standing). (x.does ≡ open_line → ⊥) → IsTrue (is_honest p w' several x.state x.does))
            (λ x h n. again x (h n)) lines (subst (λ (S : State). All (λ (x : Standing). (x.does ≡ open_line → ⊥) → IsTrue (is_honest p w' s x.state x.does)) (tree_standing p s (cover_lemmas b) S t)) rooted i.honest));
        all = λ f. All-map (λ (x : Stands). IsTrue (is_honest p w' x.loosenings x.line.state x.line.does)) (λ (x : Standing). record { loosenings = several; line = x }) lines
            (All-weaker (λ (x : Standing). IsTrue (is_honest p w' s x.state x.does)) (λ (x : Standing). IsTrue (is_honest p w' several x.state x.does)) again lines (subst (λ (S : State). All (λ (x : Standing). IsTrue (is_honest p w' s x.state x.does)) (tree_standing p s (cover_lemmas b) S t)) rooted (tree_is_honest b w t left i f)));
      }

  part-tells-here : (x : WrittenPart) → IsPartOf b x → TellsOf b (value_of_part s p x) (stood (standing_of_part s p x))
  part-tells-here (written_point space) h = inl (record { space = space; point = h; value = refl; standing = refl })
  part-tells-here (written_cover kept lemmas (written_crossing i)) h = inr (inl (record { no_point = h.0; axis = i; first = h.3; value = refl; standing = refl }))
  part-tells-here (written_cover kept lemmas (written_tree t)) h =
      let same : kept ++ lemma_states lemmas ≡ cover_lemmas b = ap₂ (λ (ks : List State) (ls : List LemmaTree). ks ++ lemma_states ls) h.1 h.2 in
      inr (inr (record {
        no_point = h.0;
        tree = t;
        left = h.3.0;
        is_tree = h.3.1;
        value = ap left_open (ap (λ (ks : List State). left_standing p s ks (root_state p) t) same ∙ ap (λ (S : State). left_standing p s (cover_lemmas b) S t) (sym rooted) ∙ h.3.1.stands);
        standing = subst (λ (ks : List State). StandsHonestly b (stood (tree_standing p s ks (root_state p) t))) (sym same) (honestly t h.3.0 h.3.1);
      }))

  -- in the version for several checks it follows the rules, with the same value and the same standing
  part-law : (x : WrittenPart) → IsPartOf b x →
      IsLawfulPart several p b.kept x × (value_of_part several p x ≡ value_of_part s p x) × (standing_of_part several p x ≡ standing_of_part s p x)
  part-law x h = in-several (λ (t : Loosenings). IsLawfulPart t p b.kept x × (value_of_part t p x ≡ value_of_part s p x) × (standing_of_part t p x ≡ standing_of_part s p x))
      (λ e. lawful_in_version_3 s e p b.kept x (part-lawful x h)) (part-lawful x h, refl, refl)

  pub part_tells : (x : WrittenPart) → IsPartOf b x → TellsOf b (value_of_part several p x) (stood (standing_of_part several p x))
  part_tells x h =
      let law = part-law x h in
      subst (λ (v : Value). TellsOf b v (stood (standing_of_part several p x))) (sym law.1)
      (subst (λ (xs : List Standing). TellsOf b (value_of_part s p x) (stood xs)) (sym law.2) (part-tells-here x h))

  pub lawful_part : (x : WrittenPart) → IsPartOf b x → IsLawfulPart several p b.kept x
  lawful_part x h = (part-law x h).0

-- ---- all parts

module _ (o : Options) where
  abbrev loosenings : Loosenings
  loosenings = session_loosenings o

  own-part : (b : BookModel) → IsBook b → IsOfRoot b → (q : Parts) → b.problem ≡ q → b.options ≡ o → (kept : List State) → b.kept ≡ kept → (x : WrittenPart) → IsPartOf b x → IsLawfulPart loosenings (problem_of q) kept x
  own-part b w r q e f kept g x h =
      subst (λ (r : Parts). IsLawfulPart loosenings (problem_of r) kept x) e
      (subst (λ (ks : List State). IsLawfulPart loosenings (problem_in b) ks x) g
      (subst (λ (u : Options). IsLawfulPart (session_loosenings u) (problem_in b) b.kept x) f (lawful_part b w r x h)))

  own-tells : (b : BookModel) → IsBook b → IsOfRoot b → (q : Parts) → b.problem ≡ q → b.options ≡ o → (x : WrittenPart) → IsPartOf b x →
      TellsOf b (value_of_part loosenings (problem_of q) x) (map (λ (y : Standing). record { loosenings = loosenings; line = y }) (standing_of_part loosenings (problem_of q) x))
  own-tells b w r q e f x h =
      subst (λ (r : Parts). TellsOf b (value_of_part loosenings (problem_of r) x) (map (λ (y : Standing). record { loosenings = loosenings; line = y }) (standing_of_part loosenings (problem_of r) x))) e
      (subst (λ (u : Options). TellsOf b (value_of_part (session_loosenings u) (problem_in b) x) (map (λ (y : Standing). record { loosenings = session_loosenings u; line = y }) (standing_of_part (session_loosenings u) (problem_in b) x))) f
      (part_tells b w r x h))

  pub lawful_parts : (kept : List State) (q : Parts) (e : Bool) (later : List (Parts × Bool)) (books : List BookModel) (parts : List WrittenPart) → AreBooksOf o kept ((q, e) ∷ later) books → ArePartsOf books parts →
      AreLawfulParts loosenings (problem_of q) kept (problems_of later) parts
  lawful_parts kept q e later [] parts h g = absurd h
  lawful_parts kept q e later (b ∷ books) [] h g = absurd g
  lawful_parts kept q e [] (b ∷ []) (x ∷ []) h g = own-part b h.0 h.4 q h.1 h.2 kept h.3 x g.0
  lawful_parts kept q e [] (b ∷ c ∷ books) (x ∷ rest) h g = absurd h.5
  lawful_parts kept q e [] (b ∷ []) (x ∷ y ∷ rest) h g = absurd g.1
  lawful_parts kept q e ((r, f) ∷ later) (b ∷ books) (x ∷ rest) h g =
      let more = lawful_parts (cond f (kept_from b r) []) r f later books rest h.5 g.1 in
      let same : cond f (kept_from b r) [] ≡ kept_by f (problem_of q) (lemmas_of_part x) (problem_of r) = next-kept b h.0 h.4 x g.0 f r ∙ ap (λ (u : Parts). kept_by f (problem_of u) (lemmas_of_part x) (problem_of r)) h.1 in
      (own-part b h.0 h.4 q h.1 h.2 kept h.3 x g.0, subst (λ (ks : List State). AreLawfulParts loosenings (problem_of r) ks (problems_of later) rest) same more)

  pub values_count : (kept : List State) (q : Parts) (e : Bool) (later : List (Parts × Bool)) (books : List BookModel) (parts : List WrittenPart) → AreBooksOf o kept ((q, e) ∷ later) books → ArePartsOf books parts →
      length (values_of_parts loosenings (problem_of q) (problems_of later) parts) ≡ length books
  values_count kept q e later [] parts h g = absurd h
  values_count kept q e later (b ∷ books) [] h g = absurd g
  values_count kept q e [] (b ∷ []) (x ∷ rest) h g = refl
  values_count kept q e [] (b ∷ c ∷ books) (x ∷ rest) h g = absurd h.5
  values_count kept q e ((r, f) ∷ later) (b ∷ books) (x ∷ rest) h g = ap suc (values_count (cond f (kept_from b r) []) r f later books rest h.5 g.1)

  -- what part k tells, with the lines of its main tree
  abbrev TellsAt : Problem → List (Problem × Bool) → List WrittenPart → ℕ → BookModel → Value → Type 0
  TellsAt q behind parts k b v = (xs : List Standing) × (slice_get (standings_of_parts loosenings q behind parts) k ≡ Some xs) × TellsOf b v (map (λ (y : Standing). record { loosenings = loosenings; line = y }) xs)

  first-tells : (q : Problem) (x : WrittenPart) (c b : BookModel) (v : Value) → c ≡ b → value_of_part loosenings q x ≡ v →
      TellsOf c (value_of_part loosenings q x) (map (λ (y : Standing). record { loosenings = loosenings; line = y }) (standing_of_part loosenings q x)) →
      TellsOf b v (map (λ (y : Standing). record { loosenings = loosenings; line = y }) (standing_of_part loosenings q x))
  first-tells q x c b v e f h =
      let lines : List Stands = map (λ (y : Standing). record { loosenings = loosenings; line = y }) (standing_of_part loosenings q x) in
      subst (λ (d : BookModel). TellsOf d v lines) e (subst (λ (u : Value). TellsOf c u lines) f h)

  pub each_tells : (kept : List State) (q : Parts) (e : Bool) (later : List (Parts × Bool)) (books : List BookModel) (parts : List WrittenPart) → AreBooksOf o kept ((q, e) ∷ later) books → ArePartsOf books parts →
      (k : ℕ) (b : BookModel) (v : Value) → slice_get books k ≡ Some b → slice_get (values_of_parts loosenings (problem_of q) (problems_of later) parts) k ≡ Some v → TellsAt (problem_of q) (problems_of later) parts k b v
  each_tells kept q e later [] parts h g k b v i j = absurd h
  each_tells kept q e later (c ∷ books) [] h g k b v i j = absurd g
  each_tells kept q e [] (c ∷ d ∷ books) (x ∷ rest) h g k b v i j = absurd h.5
  each_tells kept q e [] (c ∷ []) (x ∷ rest) h g (suc k) b v i j = cc
  each_tells kept q e [] (c ∷ []) (x ∷ rest) h g zero b v i j =
      let book : c ≡ b = cc in let value : value_of_part loosenings (problem_of q) x ≡ v = cc in
      (standing_of_part loosenings (problem_of q) x, refl, first-tells (problem_of q) x c b v book value (own-tells c h.0 h.4 q h.1 h.2 x g.0))
  each_tells kept q e ((r, f) ∷ later) (c ∷ books) (x ∷ rest) h g zero b v i j =
      let book : c ≡ b = cc in let value : value_of_part loosenings (problem_of q) x ≡ v = cc in
      (standing_of_part loosenings (problem_of q) x, refl, first-tells (problem_of q) x c b v book value (own-tells c h.0 h.4 q h.1 h.2 x g.0))
  each_tells kept q e ((r, f) ∷ later) (c ∷ books) (x ∷ rest) h g (suc k) b v i j = each_tells (cond f (kept_from c r) []) r f later books rest h.5 g.1 k b v i j
