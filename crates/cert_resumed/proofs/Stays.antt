-- What a lawful tree leaves open or stuck may stay again, over more lemmas and under a later version.
use Rattle.std.proofs.Common.{◌≡◌, ◌≤◌, ℕ, List, [], ◌∷◌, Option, Some, IsTrue, All, ap, sym, subst}
use Rattle.std.proofs.lemmas.List.Elements.{All-nil, All-cons, All-append, All-weaker}
use Rattle.poly_graph.specs.Problem.{Problem}
use Rattle.cover_model.specs.State.{State, Loosenings, in_version}
use Rattle.cover_model.specs.Rules.{Line, Left, stays, rule}
use Rattle.cover_model.specs.Derivation.{Tree, leaf, tree_lines, Lawful, at_closed, at_left, at_step, at_fork}
use Rattle.cover_model.proofs.Later.{rule_later}
use Rattle.cert_model.specs.Due.{Standing, names_well}
use Rattle.cert_model.specs.Written.{NamesWell, leaf_standing, step_standing, fork_standing, left_standing, LemmaTree, lemma_states}
use Rattle.cert_resumed.specs.Resumed.{CoverRead, IsCoverRead, all_lemmas, IsGraft}
use Rattle.cert_resumed.proofs.Grows.{rule_with_more}
use Rattle.cert_resumed.proofs.Grafts.{first_all}
use Rattle.cert_resumed.proofs.Known.{known}

module _ (p : Problem) (s : Loosenings) (lemmas : List State) where
  -- the state stays by its line
  abbrev Stood : Standing → Type 0
  Stood x = (rule p s lemmas x.state x.does ≡ Some stays) × IsTrue (names_well p x.does)

  -- so does each one that a lawful tree leaves
  tree-stood : {S : State} {t : Tree} {rest : List State} → Lawful p s lemmas S t rest → NamesWell p t → All Stood (left_standing p s lemmas S t)
  tree-stood (at_closed {S = S} {l = l} e) h = subst (All Stood) (sym (ap (leaf_standing S l) e)) (All-nil Stood)
  tree-stood (at_left {S = S} {l = l} e) h = subst (All Stood) (sym (ap (leaf_standing S l) e)) (All-cons Stood (record { state = S; does = l }) [] (e, h.0) (All-nil Stood))
  tree-stood (at_step {t = t} e r) h = subst (All Stood) (sym (ap (λ (o : Option Left). step_standing o (λ X. left_standing p s lemmas X t)) e)) (tree-stood r h.1)
  tree-stood (at_fork {S' = S'} {S'' = S''} {t = t} {u = u} e r r') h =
      let k = first_all (λ (m : Line). IsTrue (names_well p m)) (tree_lines t) (tree_lines u) h.1 in
      subst (All Stood) (sym (ap (λ (o : Option Left). fork_standing o (λ X. left_standing p s lemmas X t) (λ X. left_standing p s lemmas X u)) e))
      (All-append Stood (left_standing p s lemmas S' t) (left_standing p s lemmas S'' u) (tree-stood r k.0) (tree-stood r' k.1))

pub left_stays : (p : Problem) (b : Option ℕ) (bytes : List ℕ) (c : CoverRead) → IsCoverRead p b bytes c → (v : ℕ) → c.loosenings.version ≤ v → (xs : List LemmaTree) →
    All (λ (x : Standing). IsGraft p (in_version v c.loosenings) (all_lemmas c xs) x (leaf x.does)
    × (left_standing p (in_version v c.loosenings) (all_lemmas c xs) x.state (leaf x.does) ≡ x ∷ [])) c.left
left_stays p b bytes c h v n xs =
    let k = known p b bytes c h in
    let Again : Standing → Type 0 = λ (x : Standing). IsGraft p (in_version v c.loosenings) (all_lemmas c xs) x (leaf x.does)
    × (left_standing p (in_version v c.loosenings) (all_lemmas c xs) x.state (leaf x.does) ≡ x ∷ []) in
    All-weaker (Stood p c.loosenings c.lemmas) Again
    (λ x w.
    let e : rule p (in_version v c.loosenings) (all_lemmas c xs) x.state x.does ≡ Some stays =
    rule_later p c.loosenings v n (all_lemmas c xs) x.state x.does stays (rule_with_more p c.loosenings c.lemmas (lemma_states xs) x.state x.does stays w.0) in
    (record { left = x.state ∷ []; lawful = at_left e; names = (w.1, tt) }, ap (leaf_standing x.state x.does) e))
    c.left (subst (All (Stood p c.loosenings c.lemmas)) k.main.stands (tree-stood p c.loosenings c.lemmas k.main.lawful k.main.names))
