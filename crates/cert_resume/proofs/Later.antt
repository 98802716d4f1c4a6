-- What was gone through in a version of the format is so in a later one.
use Rattle.std.proofs.Common.{◌≡◌, ◌⊎◌, inl, inr, ◌≤◌, ℕ, suc, List, [], ◌∷◌, ◌++◌, Bool, true, false, All, IsTrue, Option, refl, ap, ap₂, sym, ◌∙◌, subst, arith}
use Rattle.std.proofs.lemmas.List.Elements.{All-weaker}
use Rattle.poly_graph.specs.Problem.{Problem}
use Rattle.poly_graph.specs.ProblemViews.{Parts, problem_of}
use Rattle.cover_model.specs.State.{State, Loosenings, in_version}
use Rattle.cover_model.specs.Honest.{is_honest}
use Rattle.cover_model.specs.Rules.{Line, Left, closed, one, two, stays}
use Rattle.cover_model.specs.Derivation.{Tree, Lawful, at_closed, at_left, at_step, at_fork}
use Rattle.cover_model.proofs.Later.{rule_later, honest_later}
use Rattle.cover_data.specs.declared.margins.Options.{Options}
use Rattle.cover_data.specs.Margins.{margins_of, loosenings_of, options_in}
use Rattle.cover_data.proofs.Later.{lemma_in}
use Rattle.cover_book.specs.Keeps.{IsKeptLemma}
use Rattle.cert_model.specs.AnswerText.{has_open}
use Rattle.cert_model.specs.Due.{Standing}
use Rattle.cert_model.specs.Written.{AreLemmaTrees, LemmaTree, leaf_standing, step_standing, fork_standing, left_standing, tree_standing}
use Rattle.cert_resumed.specs.Resumed.{AreGrafts, AreShared, IsGraft, IsShared, Share, each_left, is_own, others, own_left}
use Rattle.cert_resume.specs.Answer.{TellsOfOwn}
use Rattle.cert_resume.specs.Going.{HasGone, IsSearchable}
use Rattle.cert_resume.specs.Request.{IsVersionOn}
use Rattle.cert_resume.specs.declared.going.Going.{Going}

-- ---- versions

pub version_on_through : (u v w : ℕ) → IsVersionOn u v → IsVersionOn v w → IsVersionOn u w
version_on_through u v w h (inl e) = elim h [ inl f ↦ inl (e ∙ f) | inr f ↦ inr (e ∙ f) ]
version_on_through u v w h (inr e) = inr e

-- a version of the lines that are written
abbrev pub IsWritten : ℕ → Type 0
IsWritten v = (v ≡ 2) ⊎ (v ≡ 5)

pub version_on_later : (v w : ℕ) → IsWritten v → IsVersionOn v w → v ≤ w
version_on_later v w (inl e) (inl f) = omega (arith, f)
version_on_later v w (inl e) (inr f) = omega (arith, e, f)
version_on_later v w (inr e) (inl f) = omega (arith, f)
version_on_later v w (inr e) (inr f) = omega (arith, e, f)

pub version_on_written : (v w : ℕ) → IsWritten v → IsVersionOn v w → IsWritten w
version_on_written v w h (inl e) = elim h [ inl f ↦ inl (e ∙ f) | inr f ↦ inr (e ∙ f) ]
version_on_written v w h (inr e) = inr e

pub searchable_in : (q : Parts) (o : Options) (v : ℕ) → IsVersionOn o.version v → IsSearchable q o → IsSearchable q (options_in v o)
searchable_in q o v on h = let m = h.limits.margins in record {
  limits = record {
    margins = record {
      some_delta = m.some_delta;
      few_delta = m.few_delta;
      above_delta = m.above_delta;
      few_margin = m.few_margin;
      few_least = m.few_least;
      version_is = version_on_written o.version v m.version_is on;
    };
    budget = h.limits.budget;
    axes = h.limits.axes;
    atoms = h.limits.atoms;
  };
  not_crossed = h.not_crossed;
}

-- ---- trees

module _ (p : Problem) (s : Loosenings) (v : ℕ) (later : s.version ≤ v) where
  abbrev u : Loosenings
  u = in_version v s

  module _ (lemmas : List State) where
    lawful-later : {S : State} {t : Tree} {rest : List State} → Lawful p s lemmas S t rest → Lawful p u lemmas S t rest
    lawful-later (at_closed {S = S} {l = l} e) = at_closed (rule_later p s v later lemmas S l closed e)
    lawful-later (at_left {S = S} {l = l} e) = at_left (rule_later p s v later lemmas S l stays e)
    lawful-later (at_step {S = S} {S' = S'} {l = l} e r) = at_step (rule_later p s v later lemmas S l (one S') e) (lawful-later r)
    lawful-later (at_fork {S = S} {S' = S'} {S'' = S''} {l = l} e r r') = at_fork (rule_later p s v later lemmas S l (two S' S'') e) (lawful-later r) (lawful-later r')

    left-later : {S : State} {t : Tree} {rest : List State} → Lawful p s lemmas S t rest → left_standing p u lemmas S t ≡ left_standing p s lemmas S t
    left-later (at_closed {S = S} {l = l} e) = ap (leaf_standing S l) (rule_later p s v later lemmas S l closed e ∙ sym e)
    left-later (at_left {S = S} {l = l} e) = ap (leaf_standing S l) (rule_later p s v later lemmas S l stays e ∙ sym e)
    left-later (at_step {S = S} {S' = S'} {l = l} {t = t} e r) =
        ap (λ (o : Option Left). step_standing o (λ X. left_standing p u lemmas X t)) (rule_later p s v later lemmas S l (one S') e)
        ∙ left-later r ∙ ap (λ (o : Option Left). step_standing o (λ X. left_standing p s lemmas X t)) (sym e)
    left-later (at_fork {S = S} {S' = S'} {S'' = S''} {l = l} {t = t} {u = t'} e r r') =
        ap (λ (o : Option Left). fork_standing o (λ X. left_standing p u lemmas X t) (λ X. left_standing p u lemmas X t')) (rule_later p s v later lemmas S l (two S' S'') e)
        ∙ ap₂ (λ (xs : List Standing) (ys : List Standing). xs ++ ys) (left-later r) (left-later r')
        ∙ ap (λ (o : Option Left). fork_standing o (λ X. left_standing p s lemmas X t) (λ X. left_standing p s lemmas X t')) (sym e)

    tree-later : {S : State} {t : Tree} {rest : List State} → Lawful p s lemmas S t rest → tree_standing p u lemmas S t ≡ tree_standing p s lemmas S t
    tree-later (at_closed e) = refl
    tree-later (at_left e) = refl
    tree-later (at_step {S = S} {S' = S'} {l = l} {t = t} e r) = ap (λ (xs : List Standing). record { state = S; does = l } ∷ xs)
        (ap (λ (o : Option Left). step_standing o (λ X. tree_standing p u lemmas X t)) (rule_later p s v later lemmas S l (one S') e)
        ∙ tree-later r ∙ ap (λ (o : Option Left). step_standing o (λ X. tree_standing p s lemmas X t)) (sym e))
    tree-later (at_fork {S = S} {S' = S'} {S'' = S''} {l = l} {t = t} {u = t'} e r r') = ap (λ (xs : List Standing). record { state = S; does = l } ∷ xs)
        (ap (λ (o : Option Left). fork_standing o (λ X. tree_standing p u lemmas X t) (λ X. tree_standing p u lemmas X t')) (rule_later p s v later lemmas S l (two S' S'') e)
        ∙ ap₂ (λ (xs : List Standing) (ys : List Standing). xs ++ ys) (tree-later r) (tree-later r')
        ∙ ap (λ (o : Option Left). fork_standing o (λ X. tree_standing p s lemmas X t) (λ X. tree_standing p s lemmas X t')) (sym e))

    -- ---- rows of trees

    grafts-later : (left : List Standing) (ts : List Tree) → AreGrafts p s lemmas left ts → AreGrafts p u lemmas left ts
    grafts-later [] [] h = tt
    grafts-later [] (t ∷ ts) h = absurd h
    grafts-later (x ∷ left) [] h = absurd h
    grafts-later (x ∷ left) (t ∷ ts) h = (record { left = h.0.left; lawful = lawful-later h.0.lawful; names = h.0.names }, grafts-later left ts h.1)

    each-later : (left : List Standing) (ts : List Tree) → AreGrafts p s lemmas left ts → each_left p u lemmas left ts ≡ each_left p s lemmas left ts
    each-later [] [] h = refl
    each-later [] (t ∷ ts) h = absurd h
    each-later (x ∷ left) [] h = absurd h
    each-later (x ∷ left) (t ∷ ts) h = ap₂ (λ (xs : List Standing) (xss : List (List Standing)). xs ∷ xss) (left-later h.0.lawful) (each-later left ts h.1)

    module _ (w : ℕ) (h : Share) where
      one-later : (own : Bool) (x : Standing) (t : Tree) → IsGraft p s lemmas x t → IsShared p w s lemmas own x t → IsShared p w u lemmas own x t
      one-later true x t g k =
          subst (All (λ (y : Standing). IsTrue (is_honest p w u y.state y.does))) (sym (tree-later g.lawful))
          (All-weaker (λ (y : Standing). IsTrue (is_honest p w s y.state y.does)) (λ (y : Standing). IsTrue (is_honest p w u y.state y.does))
          (λ y e. honest_later p s v later w y.state y.does e) (tree_standing p s lemmas x.state t) k)
      one-later false x t g k = k

      shared-later : (k : ℕ) (left : List Standing) (ts : List Tree) → AreGrafts p s lemmas left ts → AreShared p w s lemmas h k left ts → AreShared p w u lemmas h k left ts
      shared-later k [] [] g f = tt
      shared-later k [] (t ∷ ts) g f = absurd g
      shared-later k (x ∷ left) [] g f = absurd g
      shared-later k (x ∷ left) (t ∷ ts) g f = (one-later (is_own h k) x t g.0 f.0, shared-later (suc k) left ts g.1 f.1)

  lemma-trees-later : (before : List State) (xs : List LemmaTree) → AreLemmaTrees p s before xs → AreLemmaTrees p u before xs
  lemma-trees-later before [] h = tt
  lemma-trees-later before (x ∷ xs) h =
      (record { fits = h.0.fits; marks = h.0.marks; lawful = lawful-later before h.0.lawful; names = h.0.names }, lemma-trees-later (before ++ (x.state ∷ [])) xs h.1)

-- ---- what was gone through

pub gone_later : (q : Parts) (o : Options) (h : Share) (start : List State) (ls : List Line) (left : List Standing) (g : Going) (v : ℕ) → o.version ≤ v → HasGone q o h start ls left g →
    HasGone q (options_in v o) h start ls left g
gone_later q o h start ls left g v later f =
    let p = problem_of q in
    let s : Loosenings = loosenings_of (margins_of o) in
    let u : Loosenings = in_version v s in
    let same = each-later p s v later g.lemmas.items left f.trees f.grafts in
    record {
      may = record {
        kept = All-weaker (IsKeptLemma p s) (IsKeptLemma p u) (λ L k. record { fits = k.fits; lemma = lemma_in p s v L k.lemma }) g.lemmas.items f.may.kept;
        few = f.may.few;
        budget = f.may.budget;
      };
      lemmas = f.lemmas;
      learned = f.learned;
      states = f.states;
      lemma_trees = lemma-trees-later p s v later start f.lemmas f.lemma_trees;
      trees = f.trees;
      main = f.main;
      grafts = grafts-later p s v later g.lemmas.items left f.trees f.grafts;
      shared = shared-later p s v later g.lemmas.items o.least_bits h 0 left f.trees f.grafts f.shared;
      budget = f.budget;
      own = subst (λ (xss : List (List Standing)). TellsOfOwn g.own (own_left h 0 xss)) (sym same) f.own;
      spent = λ k. f.spent (ap (λ (xss : List (List Standing)). has_open (own_left h 0 xss)) (sym same) ∙ k);
      others = f.others ∙ ap (λ (xss : List (List Standing)). others h 0 xss) (sym same);
    }
