-- What calls leave live.
use Rattle.std.proofs.Common.{◌≡◌, ◌⊎◌, inl, inr, ℕ, zero, suc, ◌+◌, ◌≤◌, List, [], ◌∷◌, length, Bool, true, false, cond, Option, Some, None, refl, ap, sym, ◌∙◌, subst, arith}
use Rattle.std.specs.Prelude.{slice_get, slice_set}
use Rattle.std.proofs.lemmas.Bool.{cases_eq}
use Rattle.std.proofs.lemmas.List.{length-set}
use Rattle.cover_model.specs.State.{State}
use Rattle.cover_model.specs.Rules.{Line}
use Rattle.cover_data.specs.Models.{KeptModel}
use Rattle.cover_data.specs.Runs.{is_closing, children}
use Rattle.cover_book.specs.declared.refusal.Kids.{Kids}
use Rattle.cover_book.specs.declared.refusal.Kids.TheVariants as kids
use Rattle.cover_book.specs.Model.{NodeModel, live_node, closed_node, parted_node, stuck_node, BookModel}
use Rattle.cover_book.specs.Steps.{IsLive, ended_node, parted_book, committed_book, kids_of, kids_by, CommitStep}
use Rattle.cover_book.proofs.Lists.{get_cases, set_here, set_other}

-- one of the nodes that a commit adds
abbrev pub IsKid : Kids → ℕ → Type 0
IsKid kids.None n = ⊥
IsKid (kids.Two lower upper) n = (n ≡ lower) ⊎ (n ≡ upper)

-- its live nodes are live ones of before and the new ones
pub record CommitLeaves (b : BookModel) (n : ℕ) (c : Kids) (b' : BookModel) : Type 0 where
  pub live : (m : ℕ) (S : State) → IsLive b' m S → (IsLive b m S × (m ≡ n → ⊥)) ⊎ IsKid c m
  pub lemmas : b'.lemmas ≡ b.lemmas
  pub branches : b.branches ≤ b'.branches

-- a node that has a run is not live
ended-not : (k : KeptModel) (l : Line) (S : State) (t : Bool) → cond t (closed_node k.steps l) (stuck_node k.steps l k.reached) ≡ live_node S → ⊥
ended-not k l S true e = cc
ended-not k l S false e = cc

-- a live node of a list in which another was written
written : (nodes : List NodeModel) (n m : ℕ) (x : NodeModel) (S T : State) → slice_get nodes n ≡ Some (live_node T) → ((U : State) → x ≡ live_node U → ⊥) →
    slice_get (slice_set nodes n x) m ≡ Some (live_node S) → (slice_get nodes m ≡ Some (live_node S)) × (m ≡ n → ⊥)
written nodes n m x S T w h e = elim (cases_eq m n) [
  | inl q ↦ let here : slice_get (slice_set nodes n x) n ≡ Some x = set_here nodes n x (live_node T) w in
      let there : slice_get (slice_set nodes n x) n ≡ Some (live_node S) = subst (λ (i : ℕ). slice_get (slice_set nodes n x) i ≡ Some (live_node S)) q e in
      let same : x ≡ live_node S = cc in absurd (h S same)
  | inr q ↦ (sym (set_other nodes n m x q) ∙ e, q)
]

kid : (nodes nodes' : List NodeModel) (i m : ℕ) (S T U : State) → length nodes' ≡ length nodes → m ≡ length nodes' + i → slice_get (live_node T ∷ live_node U ∷ []) i ≡ Some (live_node S) →
    (m ≡ length nodes) ⊎ (m ≡ suc (length nodes))
kid nodes nodes' zero m S T U e f g = inl (omega (arith, e, f))
kid nodes nodes' (suc zero) m S T U e f g = inr (omega (arith, e, f))
kid nodes nodes' (suc (suc i)) m S T U e f g = cc

parted-live : (b : BookModel) (n : ℕ) (k : KeptModel) (l : Line) (T U : State) → IsLive b n k.first → (m : ℕ) (S : State) → IsLive (parted_book b n k l (Some (T, U))) m S →
    (IsLive b m S × (m ≡ n → ⊥)) ⊎ ((m ≡ length b.nodes) ⊎ (m ≡ suc (length b.nodes)))
parted-live b n k l T U w m S e =
    let x : NodeModel = parted_node k.steps l (length b.nodes) in
    elim (get_cases (slice_set b.nodes n x) (live_node T ∷ live_node U ∷ []) m (live_node S) e) [
      | inl f ↦ inl (written b.nodes n m x S k.first w (λ V q. cc) f)
      | inr f ↦ inr (kid b.nodes (slice_set b.nodes n x) f.0 m S T U (length-set b.nodes n x) f.1 f.2)
    ]

leaves-by : (b : BookModel) (n : ℕ) (k : KeptModel) (l : Line) → IsLive b n k.first → (o : Option (State × State)) →
    CommitLeaves b n (kids_of b o) (parted_book b n k l o)
leaves-by b n k l w None = record {
  live = λ m S e. inl (written b.nodes n m (ended_node k l) S k.first w (λ U q. ended-not k l U (is_closing l) q) e);
  lemmas = refl;
  branches = omega arith;
}
leaves-by b n k l w (Some (T, U)) = record {
  live = parted-live b n k l T U w;
  lemmas = refl;
  branches = omega arith;
}

-- what a commit leaves
pub commit_leaves : (b : BookModel) (n : ℕ) (k : KeptModel) (l : Line) → k.end ≡ Some l → (c : Kids) (b' : BookModel) → CommitStep b n k c b' → CommitLeaves b n c b'
commit_leaves b n k l e c b' s =
    let h : CommitLeaves b n (kids_of b (children l k.reached)) (parted_book b n k l (children l k.reached)) = leaves-by b n k l s.passes.live (children l k.reached) in
    let f : c ≡ kids_of b (children l k.reached) = s.kids ∙ ap (kids_by b k) e in
    let g : b' ≡ parted_book b n k l (children l k.reached) = s.book ∙ ap (committed_book b n k) e in
    subst (λ (d : Kids). CommitLeaves b n d b') (sym f) (subst (λ (d : BookModel). CommitLeaves b n (kids_of b (children l k.reached)) d) (sym g) h)
