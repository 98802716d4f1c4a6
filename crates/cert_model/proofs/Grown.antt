-- Trees that grow as their lines are read.
use Rattle.std.proofs.Common.{◌≡◌, List, [], ◌∷◌, ◌++◌, Some, refl, ap, sym, subst, append_assoc, append-nil}
use Rattle.poly_graph.specs.Problem.{Problem}
use Rattle.cover_model.specs.State.{State, Loosenings}
use Rattle.cover_model.specs.Rules.{Line, closed, one, two, stays, rule}
use Rattle.cover_model.specs.Derivation.{Tree, Lawful, at_closed, at_left, at_step, at_fork}
use Rattle.cert_model.specs.Due.{Standing}
use Rattle.cert_model.specs.Derived.{AreDerived, states_of}

-- one more lemma, which is derived from those before it
pub more_derived : (p : Problem) (s : Loosenings) (before lemmas : List State) (L : State) → AreDerived p s before lemmas → (t : Tree) → Lawful p s (before ++ lemmas) L t [] →
    AreDerived p s before (lemmas ++ (L ∷ []))
more_derived p s before [] L h t r = ((t, subst (λ (xs : List State). Lawful p s xs L t []) (append-nil before) r), tt)
more_derived p s before (K ∷ lemmas) L h t r =
    (h.0, more_derived p s (before ++ (K ∷ [])) lemmas L h.1 t (subst (λ (xs : List State). Lawful p s xs L t []) (sym (append_assoc before (K ∷ []) lemmas)) r))

pub states_append : (xs ys : List Standing) → states_of (xs ++ ys) ≡ states_of xs ++ states_of ys
states_append [] ys = refl
states_append (x ∷ xs) ys = ap (λ (zs : List State). x.state ∷ zs) (states_append xs ys)

module _ (p : Problem) (s : Loosenings) (lemmas : List State) where
  -- a lawful tree for each of these states, with what stays of all
  pub data Trees : List State → List State → Type 0 where
    no_trees : Trees [] []
    more_trees : {S : State} {pending : List State} {t : Tree} {xs ys : List State} → Lawful p s lemmas S t xs → Trees pending ys → Trees (S ∷ pending) (xs ++ ys)

  -- the tree at a root is whole as soon as those states that wait have their trees
  abbrev pub Grown : State → List State → List State → Type 0
  Grown R pending done = (stay : List State) → Trees pending stay → (t : Tree) × Lawful p s lemmas R t (done ++ stay)

  pub from_root : (R : State) → Grown R (R ∷ []) []
  from_root R stay (more_trees {t = t} {xs = xs} r no_trees) = (t, subst (λ (ys : List State). Lawful p s lemmas R t ys) (sym (append-nil xs)) r)

  pub whole_tree : (R : State) (done : List State) → Grown R [] done → (t : Tree) × Lawful p s lemmas R t done
  whole_tree R done g = let r = g [] no_trees in (r.0, subst (λ (ys : List State). Lawful p s lemmas R r.0 ys) (append-nil done) r.1)

  first-step : {S S' : State} {pending : List State} (l : Line) {ys : List State} → rule p s lemmas S l ≡ Some (one S') → Trees (S' ∷ pending) ys → Trees (S ∷ pending) ys
  first-step l e (more_trees r f) = more_trees (at_step e r) f

  first-fork : {S S' S'' : State} {pending : List State} (l : Line) {ys : List State} → rule p s lemmas S l ≡ Some (two S' S'') → Trees (S' ∷ S'' ∷ pending) ys → Trees (S ∷ pending) ys
  first-fork {S = S} {pending = pending} l e (more_trees {xs = xs} r (more_trees {xs = ys} {ys = zs} r' f)) =
      subst (λ (b : List State). Trees (S ∷ pending) b) (append_assoc xs ys zs) (more_trees (at_fork e r r') f)

  -- ---- what a line does to it, by what its rule leaves

  pub grow_closed : (R S : State) (l : Line) (pending done : List State) → rule p s lemmas S l ≡ Some closed → Grown R (S ∷ pending) done → Grown R pending done
  grow_closed R S l pending done e g stay ts = g stay (more_trees (at_closed e) ts)

  pub grow_stays : (R S : State) (l : Line) (pending done : List State) → rule p s lemmas S l ≡ Some stays → Grown R (S ∷ pending) done → Grown R pending (done ++ (S ∷ []))
  grow_stays R S l pending done e g stay ts = let r = g (S ∷ stay) (more_trees (at_left e) ts) in
      (r.0, subst (λ (ys : List State). Lawful p s lemmas R r.0 ys) (sym (append_assoc done (S ∷ []) stay)) r.1)

  pub grow_one : (R S S' : State) (l : Line) (pending done : List State) → rule p s lemmas S l ≡ Some (one S') → Grown R (S ∷ pending) done → Grown R (S' ∷ pending) done
  grow_one R S S' l pending done e g stay ts = g stay (first-step l e ts)

  pub grow_two : (R S S' S'' : State) (l : Line) (pending done : List State) → rule p s lemmas S l ≡ Some (two S' S'') → Grown R (S ∷ pending) done → Grown R (S' ∷ S'' ∷ pending) done
  grow_two R S S' S'' l pending done e g stay ts = g stay (first-fork l e ts)
