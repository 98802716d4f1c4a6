-- What waits, and the lemmas that are handed on, after a call.
use Rattle.std.proofs.Common.{◌≡◌, ◌⊎◌, inl, inr, ℕ, ◌≤◌, List, [], ◌∷◌, ◌++◌, All, map, append-nil, append_assoc, Some, IsTrue, ap, sym, ◌∙◌, subst, arith}
use Rattle.std.specs.Prelude.{slice_get}
use Rattle.std.specs.List.{Contains}
use Rattle.std.proofs.lemmas.List.Elements.{All-weaker, All-contains, Contains-append_left, Contains-append_right, Contains-push_cases}
use Rattle.cover_model.specs.State.{State}
use Rattle.poly_graph.specs.ProblemViews.{Parts, problem_of}
use Rattle.cover_model.specs.Honest.{not_shown}
use Rattle.cover_data.specs.declared.margins.Options.{Options}
use Rattle.cover_data.specs.Margins.{loosenings_of}
use Rattle.cover_data.specs.Models.{LemmaModel}
use Rattle.cover_data.specs.Runs.{AreKept}
use Rattle.cover_book.specs.declared.refusal.Kids.{Kids}
use Rattle.cover_book.specs.declared.refusal.Kids.TheVariants as kids
use Rattle.cover_book.specs.Model.{LearnedLemma, BookModel, problem_in, margins_of, loosenings_in, lemma_states_in}
use Rattle.cover_book.specs.Steps.{IsLive}
use Rattle.box_worker.specs.Worked.{AreLemmasFor}
use Rattle.cover_book.specs.Left.{IsLeftLive}
use Rattle.solve_core.specs.Search.{EachWaits}
use Rattle.solve_core.proofs.Left.{IsKid, CommitLeaves}

-- the same problem and options
abbrev pub Same : BookModel → BookModel → Type 0
Same b b' = (b'.problem ≡ b.problem) × (b'.options ≡ b.options) × (b'.kept ≡ b.kept) × (b'.root ≡ b.root)

-- what speaks of them alone
pub carried : (F : Parts → Options → Type 0) (b b' : BookModel) → Same b b' → F b.problem b.options → F b'.problem b'.options
carried F b b' e h = subst (λ (p : Parts). F p b'.options) (sym e.0) (subst (λ (o : Options). F b.problem o) (sym e.1) h)

pub left_still : (b b' : BookModel) (S : State) → Same b b' → b.branches ≤ b'.branches → IsLeftLive b S → IsLeftLive b' S
left_still b b' S e h w = record {
  not_shown = carried (λ p o. IsTrue (not_shown (problem_of p) (loosenings_of (margins_of o)) S)) b b' e w.not_shown;
  spent = subst (λ (o : Options). o.budget ≤ b'.branches) (sym e.1) (let k : b.options.budget ≤ b.branches = w.spent in omega arith);
}

pub usable_still : (b b' : BookModel) (lemmas : List LemmaModel) → Same b b' → AreLemmasFor (problem_in b) (loosenings_in b) lemmas → AreLemmasFor (problem_in b') (loosenings_in b') lemmas
usable_still b b' lemmas e h = carried (λ p o. AreLemmasFor (problem_of p) (loosenings_of (margins_of o)) lemmas) b b' e h

pub kept_still : (b b' : BookModel) (lemmas : List LemmaModel) → Same b b' → b'.lemmas ≡ b.lemmas → AreKept (lemma_states_in b) lemmas → AreKept (lemma_states_in b') lemmas
kept_still b b' lemmas same e h = subst (λ (ks : List State). AreKept (ks ++ map (λ (x : LearnedLemma). x.state) b'.lemmas) lemmas) (sym same.2)
    (subst (λ (xs : List LearnedLemma). AreKept (b.kept ++ map (λ (x : LearnedLemma). x.state) xs) lemmas) (sym e) h)

-- quoted lemmas are kept where those are of which they are taken
pub kept_among : (states : List State) (lemmas quoted : List LemmaModel) → AreKept states lemmas → All (λ (l : LemmaModel). Contains lemmas l) quoted → AreKept states quoted
kept_among states lemmas quoted h k = All-weaker (λ (l : LemmaModel). Contains lemmas l) (λ (l : LemmaModel). slice_get states l.id ≡ Some l.state) (λ l c. All-contains (λ (x : LemmaModel). slice_get states x.id ≡ Some x.state) lemmas l h c) quoted k

-- ---- after a commit

-- the parts of a node, the next one last
abbrev pub kid_list : Kids → List ℕ
kid_list kids.None = []
kid_list (kids.Two lower upper) = upper ∷ lower ∷ []

pub two_pushed : (xs ys zs : List ℕ) (c : Kids) (lower upper : ℕ) → c ≡ kids.Two lower upper → ys ≡ xs ++ (upper ∷ []) → zs ≡ ys ++ (lower ∷ []) → zs ≡ xs ++ kid_list c
two_pushed xs ys zs c lower upper e f g = g ∙ ap (λ (vs : List ℕ). vs ++ (lower ∷ [])) f ∙ append_assoc xs (upper ∷ []) (lower ∷ []) ∙ ap (λ (d : Kids). xs ++ kid_list d) (sym e)

pub none_pushed : (xs : List ℕ) (c : Kids) → c ≡ kids.None → xs ≡ xs ++ kid_list c
none_pushed xs c e = sym (append-nil xs) ∙ ap (λ (d : Kids). xs ++ kid_list d) (sym e)

kid-waits : (waiting : List ℕ) (c : Kids) (m : ℕ) → IsKid c m → Contains (waiting ++ kid_list c) m
kid-waits waiting kids.None m h = absurd h
kid-waits waiting (kids.Two lower upper) m (inl e) = Contains-append_right waiting (upper ∷ lower ∷ []) m (1, omega arith, sym e)
kid-waits waiting (kids.Two lower upper) m (inr e) = Contains-append_right waiting (upper ∷ lower ∷ []) m (0, omega arith, sym e)

still-waits : (waiting : List ℕ) (n m : ℕ) (rest : List ℕ) (A : Type 0) → (m ≡ n → ⊥) → Contains (waiting ++ (n ∷ [])) m ⊎ A → Contains (waiting ++ rest) m ⊎ A
still-waits waiting n m rest A h (inr a) = inr a
still-waits waiting n m rest A h (inl c) = elim (Contains-push_cases waiting n m c) [ inl d ↦ inl (Contains-append_left waiting rest m d) | inr e ↦ absurd (h (sym e)) ]

pub waits_after : (b b' : BookModel) (n : ℕ) (c : Kids) (waiting : List ℕ) → Same b b' → CommitLeaves b n c b' → EachWaits b (waiting ++ (n ∷ [])) → EachWaits b' (waiting ++ kid_list c)
waits_after b b' n c waiting e w h m S live = elim (w.live m S live) [
  | inl f ↦ elim (still-waits waiting n m (kid_list c) (IsLeftLive b S) f.1 (h m S f.0)) [
    | inl d ↦ inl d
    | inr d ↦ inr (left_still b b' S e w.branches d)
  ]
  | inr k ↦ inl (kid-waits waiting c m k)
]

-- a node that is left live waits no more
pub waits_less : (b : BookModel) (n : ℕ) (waiting : List ℕ) → ((S : State) → IsLive b n S → IsLeftLive b S) → EachWaits b (waiting ++ (n ∷ [])) → EachWaits b waiting
waits_less b n waiting k h m S live = elim (h m S live) [
  | inl c ↦ elim (Contains-push_cases waiting n m c) [ inl d ↦ inl d | inr e ↦ inr (k S (subst (λ (i : ℕ). IsLive b i S) (sym e) live)) ]
  | inr d ↦ inr d
]
