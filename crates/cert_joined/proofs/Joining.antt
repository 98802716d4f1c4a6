-- What joins lawful trees is lawful.
use Rattle.std.proofs.Common.{◌≡◌, ◌≤◌, ℕ, List, [], ◌∷◌, ◌++◌, Option, Some, sym, ap, ◌∙◌, subst, map}
use Rattle.std.specs.List.{AllByRecursion}
use Rattle.poly_graph.specs.Problem.{Problem}
use Rattle.cover_model.specs.State.{State, Loosenings, in_version}
use Rattle.cover_model.specs.Rules.{Line, Left, closed, one as one_state, two, stays, rule}
use Rattle.cover_model.specs.Derivation.{Tree, leaf, then, fork, Lawful, at_closed, at_left, at_step, at_fork}
use Rattle.cover_model.proofs.Later.{rule_later}
use Rattle.cert_joined.specs.Joined.{Joins, none, one, ends, steps, forks, differ, going_on}
use Rattle.cert_joined.specs.Laws.{IsLawfulAt, IsLawfulBefore, JoinsLawful}
use Rattle.cert_joined.proofs.Members.{all_going, of_first_closed, joins_some}

-- ---- what a rule leaves

abbrev one-of : Option Left → State → State
one-of (Some (one_state S)) d = S
one-of _ d = d

abbrev first-of : Option Left → State → State
first-of (Some (two S T)) d = S
first-of _ d = d

abbrev second-of : Option Left → State → State
second-of (Some (two S T)) d = T
second-of _ d = d

module _ (p : Problem) (s : Loosenings) (lemmas : List State) where
  -- a step that is lawful at a state leaves one state, at which the rest is lawful
  record IsStep (S : State) (l : Line) (t : Tree) : Type 0 where
    next : State
    left : List State
    does : rule p s lemmas S l ≡ Some (one_state next)
    lawful : Lawful p s lemmas next t left

  record IsFork (S : State) (l : Line) (t u : Tree) : Type 0 where
    next : State
    other : State
    left : List State
    left-other : List State
    does : rule p s lemmas S l ≡ Some (two next other)
    lawful : Lawful p s lemmas next t left
    lawful-other : Lawful p s lemmas other u left-other

  step-of : (S : State) (l : Line) (t : Tree) (left : List State) → Lawful p s lemmas S (then l t) left → IsStep S l t
  step-of S l t left (at_step {S' = S'} e r) = record { next = S'; left = left; does = e; lawful = r }

  fork-of : (S : State) (l : Line) (t u : Tree) (left : List State) → Lawful p s lemmas S (fork l t u) left → IsFork S l t u
  fork-of S l t u left (at_fork {S' = S'} {S'' = S''} {rest = xs} {rest' = ys} e r r') =
      record { next = S'; other = S''; left = xs; left-other = ys; does = e; lawful = r; lawful-other = r' }

  -- so each of several is at that state
  all-steps : (S S' : State) (l : Line) (us : List Tree) → rule p s lemmas S l ≡ Some (one_state S') →
      AllByRecursion (λ (t : Tree). IsLawfulAt p s lemmas S t) (map (λ (t : Tree). then l t) us) → AllByRecursion (λ (t : Tree). IsLawfulAt p s lemmas S' t) us
  unfolding step-of
  all-steps S S' l [] e hs = tt
  all-steps S S' l (t ∷ us) e hs =
      let step = step-of S l t hs.0.0 hs.0.1 in
      let same : step.next ≡ S' = ap (λ (o : Option Left). one-of o S) (sym step.does ∙ e) in
      ((step.left, subst (λ (T : State). Lawful p s lemmas T t step.left) same step.lawful), all-steps S S' l us e hs.1)

  all-firsts : (S S' S'' : State) (l : Line) (us : List (Tree × Tree)) → rule p s lemmas S l ≡ Some (two S' S'') →
      AllByRecursion (λ (t : Tree). IsLawfulAt p s lemmas S t) (map (λ (x : Tree × Tree). fork l x.0 x.1) us) →
      AllByRecursion (λ (t : Tree). IsLawfulAt p s lemmas S' t) (map (λ (x : Tree × Tree). x.0) us)
  unfolding fork-of
  all-firsts S S' S'' l [] e hs = tt
  all-firsts S S' S'' l (x ∷ us) e hs =
      let both = fork-of S l x.0 x.1 hs.0.0 hs.0.1 in
      let same : both.next ≡ S' = ap (λ (o : Option Left). first-of o S) (sym both.does ∙ e) in
      ((both.left, subst (λ (T : State). Lawful p s lemmas T x.0 both.left) same both.lawful), all-firsts S S' S'' l us e hs.1)

  all-seconds : (S S' S'' : State) (l : Line) (us : List (Tree × Tree)) → rule p s lemmas S l ≡ Some (two S' S'') →
      AllByRecursion (λ (t : Tree). IsLawfulAt p s lemmas S t) (map (λ (x : Tree × Tree). fork l x.0 x.1) us) →
      AllByRecursion (λ (t : Tree). IsLawfulAt p s lemmas S'' t) (map (λ (x : Tree × Tree). x.1) us)
  unfolding fork-of
  all-seconds S S' S'' l [] e hs = tt
  all-seconds S S' S'' l (x ∷ us) e hs =
      let both = fork-of S l x.0 x.1 hs.0.0 hs.0.1 in
      let same : both.other ≡ S'' = ap (λ (o : Option Left). second-of o S) (sym both.does ∙ e) in
      ((both.left-other, subst (λ (T : State). Lawful p s lemmas T x.1 both.left-other) same both.lawful-other), all-seconds S S' S'' l us e hs.1)

  -- those that go on, by the equation that says which
  going : (S : State) (ts us : List Tree) → going_on ts ≡ us → AllByRecursion (λ (t : Tree). IsLawfulAt p s lemmas S t) ts → AllByRecursion (λ (t : Tree). IsLawfulAt p s lemmas S t) us
  going S ts us e hs = subst (λ (xs : List Tree). AllByRecursion (λ (t : Tree). IsLawfulAt p s lemmas S t) xs) e (all_going (λ (t : Tree). IsLawfulAt p s lemmas S t) ts hs)

  joined : (S : State) (ts : List Tree) (u : Tree) → Joins ts u → AllByRecursion (λ (t : Tree). IsLawfulAt p s lemmas S t) ts → IsLawfulAt p s lemmas S u
  joined S _ _ (none t ts e) hs = hs.0
  joined S _ _ (one t ts e) hs = (going S ts (t ∷ []) e hs).0
  joined S _ _ (ends l more ts e same) hs = (going S ts (leaf l ∷ more) e hs).0
  joined S _ _ (steps l [] ts u e j) hs = absurd (joins_some u j)
  joined S _ _ (steps l (t ∷ us) ts u e j) hs =
      let all = going S ts (map (λ (x : Tree). then l x) (t ∷ us)) e hs in
      let step = step-of S l t all.0.0 all.0.1 in
      let below = joined step.next (t ∷ us) u j (all-steps S step.next l (t ∷ us) step.does all) in
      (below.0, at_step step.does below.1)
  joined S _ _ (forks l [] ts u v e j j') hs = absurd (joins_some u j)
  joined S _ _ (forks l (x ∷ us) ts u v e j j') hs =
      let all = going S ts (map (λ (y : Tree × Tree). fork l y.0 y.1) (x ∷ us)) e hs in
      let both = fork-of S l x.0 x.1 all.0.0 all.0.1 in
      let first = joined both.next (map (λ (y : Tree × Tree). y.0) (x ∷ us)) u j (all-firsts S both.next both.other l (x ∷ us) both.does all) in
      let second = joined both.other (map (λ (y : Tree × Tree). y.1) (x ∷ us)) v j' (all-seconds S both.next both.other l (x ∷ us) both.does all) in
      (first.0 ++ second.0, at_fork both.does first.1 second.1)
  joined S _ _ (differ t more ts e d) hs =
      let all = going S ts (t ∷ more) e hs in
      of_first_closed (λ (x : Tree). IsLawfulAt p s lemmas S x) t (t ∷ more) all.0 all

-- ---- in versions

module _ (p : Problem) (s : Loosenings) (v : ℕ) (later : s.version ≤ v) (lemmas : List State) where
  lawful-later : {S : State} {t : Tree} {rest : List State} → Lawful p s lemmas S t rest → Lawful p (in_version v s) lemmas S t rest
  lawful-later (at_closed {S = S} {l = l} h) = at_closed (rule_later p s v later lemmas S l closed h)
  lawful-later (at_left {S = S} {l = l} h) = at_left (rule_later p s v later lemmas S l stays h)
  lawful-later (at_step {S = S} {S' = S'} {l = l} h r) = at_step (rule_later p s v later lemmas S l (one_state S') h) (lawful-later r)
  lawful-later (at_fork {S = S} {S' = T} {S'' = U} {l = l} h r r') = at_fork (rule_later p s v later lemmas S l (two T U) h) (lawful-later r) (lawful-later r')

-- so each of several is lawful in the version of all
all-lawful : (p : Problem) (s : Loosenings) (lemmas : List State) (S : State) (ts : List Tree) →
    AllByRecursion (λ (t : Tree). IsLawfulBefore p s lemmas S t) ts → AllByRecursion (λ (t : Tree). IsLawfulAt p s lemmas S t) ts
all-lawful p s lemmas S [] hs = tt
all-lawful p s lemmas S (t ∷ ts) hs =
    ((hs.0.lawful.0, lawful-later p (in_version hs.0.version s) s.version hs.0.earlier lemmas hs.0.lawful.1), all-lawful p s lemmas S ts hs.1)

pub joins_lawful : JoinsLawful
joins_lawful p s lemmas S ts u j hs = joined p s lemmas S ts u j (all-lawful p s lemmas S ts hs)
