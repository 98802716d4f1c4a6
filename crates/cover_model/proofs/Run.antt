-- Lines one after the other, and trees.
use Rattle.std.proofs.Common.{◌≡◌, List, [], ◌∷◌, ◌++◌, Option, Some, None, refl, ap, sym, ◌∙◌, append_assoc, append-nil, subst₂}
use Rattle.poly_graph.specs.Problem.{Problem}
use Rattle.cover_model.specs.State.{State, Loosenings}
use Rattle.cover_model.specs.Rules.{Line, Left, closed, one, two, stays, rule}
use Rattle.cover_model.specs.Derivation.{Tree, tree_lines, Lawful, at_closed, at_left, at_step, at_fork}

-- where a list of lines stops: a line fails, lines are left when the tree is whole, or states still wait
pub data Stop : Type 0 where
  fails : Line → Stop
  extra : Line → Stop
  waits : List State → Stop
  whole : List State → Stop

abbrev whole_of : Stop → List State
whole_of (whole xs) = xs
whole_of _ = []

module _ (p : Problem) (s : Loosenings) (lemmas : List State) where
  abbrev pub stopped : List State → List State → Stop
  stopped [] done = whole done
  stopped (S ∷ pending) done = waits (S ∷ pending)

  -- how the lines go on by what the rule of the first leaves
  abbrev pub goes_on : Option Left → Line → State → List State → List State → (List State → List State → Stop) → Stop
  goes_on None l S pending done on = fails l
  goes_on (Some closed) l S pending done on = on pending done
  goes_on (Some stays) l S pending done on = on pending (done ++ (S ∷ []))
  goes_on (Some (one S')) l S pending done on = on (S' ∷ pending) done
  goes_on (Some (two S' S'')) l S pending done on = on (S' ∷ S'' ∷ pending) done

  -- the lines, where these states wait for their trees, and these stayed so far
  abbrev pub run : List Line → List State → List State → Stop
  run [] pending done = stopped pending done
  run (l ∷ ls) [] done = extra l
  run (l ∷ ls) (S ∷ pending) done = goes_on (rule p s lemmas S l) l S pending done (λ x y. run ls x y)

  by-rule : (S : State) (l : Line) (ls : List Line) (pending done : List State) (o : Option Left) → rule p s lemmas S l ≡ o →
      run (l ∷ ls) (S ∷ pending) done ≡ goes_on o l S pending done (λ x y. run ls x y)
  by-rule S l ls pending done o e = ap (λ (x : Option Left). goes_on x l S pending done (λ x y. run ls x y)) e

  -- a lawful tree's lines take their state off
  pub tree_runs : {S : State} {t : Tree} {rest : List State} → Lawful p s lemmas S t rest → (ls : List Line) (pending done : List State) →
      run (tree_lines t ++ ls) (S ∷ pending) done ≡ run ls pending (done ++ rest)
  tree_runs (at_closed {S = S} {l = l} e) ls pending done = by-rule S l ls pending done (Some closed) e ∙ ap (λ x. run ls pending x) (sym (append-nil done))
  tree_runs (at_left {S = S} {l = l} e) ls pending done = by-rule S l ls pending done (Some stays) e
  tree_runs (at_step {S = S} {S' = S'} {l = l} {t = t} e r) ls pending done = by-rule S l (tree_lines t ++ ls) pending done (Some (one S')) e ∙ tree_runs r ls pending done
  tree_runs (at_fork {S = S} {S' = S'} {S'' = S''} {l = l} {t = t} {u = u} {rest = xs} {rest' = ys} e r r') ls pending done =
      by-rule S l ((tree_lines t ++ tree_lines u) ++ ls) pending done (Some (two S' S'')) e ∙
      ap (λ x. run x (S' ∷ S'' ∷ pending) done) (append_assoc (tree_lines t) (tree_lines u) ls) ∙ tree_runs r (tree_lines u ++ ls) (S'' ∷ pending) done
      ∙ tree_runs r' ls pending (done ++ xs) ∙ ap (λ x. run ls pending x) (append_assoc done xs ys)

  -- trees for these states, whose lines are these, with the states that stay
  pub data Forest : List State → List Line → List State → Type 0 where
    no_trees : Forest [] [] []
    more_trees : {S : State} {pending : List State} {t : Tree} {ls : List Line} {xs ys : List State} →
        Lawful p s lemmas S t xs → Forest pending ls ys → Forest (S ∷ pending) (tree_lines t ++ ls) (xs ++ ys)

  first-closed : {S : State} {pending : List State} {l : Line} {ls : List Line} {ys : List State} → rule p s lemmas S l ≡ Some closed → Forest pending ls ys → Forest (S ∷ pending) (l ∷ ls) ys
  first-closed e f = more_trees (at_closed e) f

  first-stays : {S : State} {pending : List State} {l : Line} {ls : List Line} {ys : List State} → rule p s lemmas S l ≡ Some stays → Forest pending ls ys → Forest (S ∷ pending) (l ∷ ls) (S ∷ ys)
  first-stays e f = more_trees (at_left e) f

  first-step : {S S' : State} {pending : List State} {l : Line} {ls : List Line} {ys : List State} → rule p s lemmas S l ≡ Some (one S') → Forest (S' ∷ pending) ls ys → Forest (S ∷ pending) (l ∷ ls) ys
  first-step e (more_trees r f) = more_trees (at_step e r) f

  first-fork : {S S' S'' : State} {pending : List State} {l : Line} {ls : List Line} {ys : List State} → rule p s lemmas S l ≡ Some (two S' S'') → Forest (S' ∷ S'' ∷ pending) ls ys → Forest (S ∷ pending) (l ∷ ls) ys
  first-fork {S = S} {pending = pending} {l = l} e (more_trees {t = t} {xs = xs} r (more_trees {t = u} {ls = ls} {xs = ys} {ys = zs} r' f)) =
      subst₂ (λ (a : List Line) (b : List State). Forest (S ∷ pending) (l ∷ a) b) (append_assoc (tree_lines t) (tree_lines u) ls) (append_assoc xs ys zs) (more_trees (at_fork e r r') f)

  -- lines that are taken to a whole are those of trees, with the states that stay
  pub record Taken (pending done xs : List State) (ls : List Line) : Type 0 where
    pub stay : List State
    pub is : xs ≡ done ++ stay
    pub trees : Forest pending ls stay

  Takes : List Line → Type 0
  Takes ls = (pending done xs : List State) → run ls pending done ≡ whole xs → Taken pending done xs ls

  by-left : (S : State) (l : Line) (ls : List Line) (pending done xs : List State) (o : Option Left) → rule p s lemmas S l ≡ o →
      ((pending done xs : List State) → run ls pending done ≡ whole xs → Taken pending done xs ls) →
      goes_on o l S pending done (λ x y. run ls x y) ≡ whole xs → Taken (S ∷ pending) done xs (l ∷ ls)
  by-left S l ls pending done xs None r ih e = cc
  by-left S l ls pending done xs (Some closed) r ih e = let t = ih pending done xs e in record { stay = t.stay; is = t.is; trees = first-closed r t.trees }
  by-left S l ls pending done xs (Some stays) r ih e = let t = ih pending (done ++ (S ∷ [])) xs e in
      record { stay = S ∷ t.stay; is = t.is ∙ append_assoc done (S ∷ []) t.stay; trees = first-stays r t.trees }
  by-left S l ls pending done xs (Some (one S')) r ih e = let t = ih (S' ∷ pending) done xs e in record { stay = t.stay; is = t.is; trees = first-step r t.trees }
  by-left S l ls pending done xs (Some (two S' S'')) r ih e = let t = ih (S' ∷ S'' ∷ pending) done xs e in record { stay = t.stay; is = t.is; trees = first-fork r t.trees }

  pub run_trees : (ls : List Line) (pending done xs : List State) → run ls pending done ≡ whole xs → Taken pending done xs ls
  run_trees [] [] done xs e = record { stay = []; is = ap whole_of (sym e) ∙ sym (append-nil done); trees = no_trees }
  run_trees [] (S ∷ pending) done xs e = cc
  run_trees (l ∷ ls) [] done xs e = cc
  run_trees (l ∷ ls) (S ∷ pending) done xs e = by-left S l ls pending done xs (rule p s lemmas S l) refl (λ a b c h. run_trees ls a b c h) e
