-- What is written of a commit.
use Rattle.std.proofs.Common.{◌≡◌, ℕ, suc, ◌<◌, List, [], ◌∷◌, ◌++◌, map, length, Bool, false, cond, Option, Some, None, IsTrue, refl, ap, ap₂, sym, ◌∙◌, append_assoc, arith}
use Rattle.std.specs.Prelude.{slice_get, slice_set}
use Rattle.std.proofs.lemmas.List.{map-set, map-append, length-map}
use Rattle.std.proofs.lemmas.Option.{slice_get_within}
use Rattle.cover_model.specs.Space.{IsGridSpace}
use Rattle.cover_model.specs.State.{State}
use Rattle.cover_model.specs.Rules.{Line}
use Rattle.cover_data.specs.declared.kept.KeptPatch.{KeptPatch}
use Rattle.cover_data.specs.declared.step.End.{End}
use Rattle.cover_data.specs.declared.step.Step.{Step}
use Rattle.cover_data.specs.Models.{KeptModel}
use Rattle.cover_data.specs.Views.{kept_of, step_line, end_line, end_of}
use Rattle.cover_data.specs.Runs.{is_closing, children}
use Rattle.cover_book.specs.declared.refusal.Kids.{Kids}
use Rattle.cover_book.specs.declared.refusal.Kids.TheVariants as kids
use Rattle.cover_book.specs.declared.node.Learned.{Learned}
use Rattle.cover_book.specs.declared.node.Lines.{Lines}
use Rattle.cover_book.specs.declared.node.Node.{Node}
use Rattle.cover_book.specs.declared.node.Node.TheVariants.{Live}
use Rattle.cover_book.specs.Model.{LearnedLemma, NodeModel, live_node, closed_node, parted_node, stuck_node, BookModel, lemma_count}
use Rattle.cover_book.specs.Views.{node_of, learned_of}
use Rattle.cover_book.specs.Steps.{QuotesKnownLemmas, most_lemmas, learned_book, LemmaStep, MayCommit, CommitStep, with_nodes, parted_book, committed_book, kids_of, kids_by}

module _ (b : BookModel) (P : KeptPatch) (n : ℕ) (L : Lines) (same : L.steps ≡ P.steps) (ended : P.end ≡ Some L.end) (passes : MayCommit b n (kept_of P)) (grid : IsGridSpace P.reached.space) where
  abbrev k : KeptModel
  k = kept_of P

  abbrev l : Line
  l = end_line L.end

  by-end : (o : Option (State × State)) → children l P.reached ≡ o → (committed_book b n k (end_of P.end) ≡ parted_book b n k l o) × (kids_by b k (end_of P.end) ≡ kids_of b o)
  by-end o c = (
    ap (λ (x : Option End). committed_book b n k (end_of x)) ended ∙ ap (parted_book b n k l) c,
    ap (λ (x : Option End). kids_by b k (end_of x)) ended ∙ ap (kids_of b) c,
  )

  commits : (o : Option (State × State)) → children l P.reached ≡ o → (c : Kids) (b' : BookModel) → c ≡ kids_of b o → b' ≡ parted_book b n k l o → CommitStep b n k c b'
  commits o h c b' f g = record { passes = passes; grid = grid; kids = f ∙ sym (by-end o h).1; book = g ∙ sym (by-end o h).0 }

  pub stored_closed : IsTrue (is_closing l) → children l P.reached ≡ None → (nodes : List NodeModel) → nodes ≡ slice_set b.nodes n (closed_node (map step_line L.steps.items) l) →
      CommitStep b n k kids.None (with_nodes b nodes b.branches)
  stored_closed q h nodes g = commits None h kids.None (with_nodes b nodes b.branches) refl
      (ap (λ (xs : List NodeModel). with_nodes b xs b.branches) (rw same at g) ∙ ap (λ (t : Bool). with_nodes b (slice_set b.nodes n (cond t (closed_node k.steps l) (stuck_node k.steps l k.reached))) b.branches) (sym q))

  pub stored_stuck : is_closing l ≡ false → children l P.reached ≡ None → (T : State) → T ≡ P.reached → (nodes : List NodeModel) → nodes ≡ slice_set b.nodes n (stuck_node (map step_line L.steps.items) l T) →
      CommitStep b n k kids.None (with_nodes b nodes b.branches)
  stored_stuck q h T f nodes g = commits None h kids.None (with_nodes b nodes b.branches) refl
      (ap (λ (xs : List NodeModel). with_nodes b xs b.branches) (rw same at g) ∙ ap (λ (U : State). with_nodes b (slice_set b.nodes n (stuck_node k.steps l U)) b.branches) f
      ∙ ap (λ (t : Bool). with_nodes b (slice_set b.nodes n (cond t (closed_node k.steps l) (stuck_node k.steps l k.reached))) b.branches) (sym q))

  pub stored_parted : (T U : State) → children l P.reached ≡ Some (T, U) → (c c' : ℕ) → c ≡ length b.nodes → c' ≡ suc (length b.nodes) → (nodes : List NodeModel) →
      nodes ≡ slice_set b.nodes n (parted_node (map step_line L.steps.items) l c) ++ (live_node T ∷ live_node U ∷ []) → (m : ℕ) → m ≡ suc b.branches →
      CommitStep b n k (kids.Two c c') (with_nodes b nodes m)
  stored_parted T U h c c' f f' nodes g m s = commits (Some (T, U)) h (kids.Two c c') (with_nodes b nodes m) (ap₂ kids.Two f f')
      (ap₂ (with_nodes b) (rw same at g) s ∙ ap (λ (i : ℕ). with_nodes b (slice_set b.nodes n (parted_node k.steps l i) ++ (live_node T ∷ live_node U ∷ [])) (suc b.branches)) f)

-- ---- the list of nodes in code

pub one_written : (xs : List Node) (n : ℕ) (x : Node) → map node_of (slice_set xs n x) ≡ slice_set (map node_of xs) n (node_of x)
one_written xs n x = map-set node_of xs n x

pub node_written : (xs ys : List Node) (n : ℕ) (x : Node) → ys ≡ slice_set xs n x → map node_of ys ≡ slice_set (map node_of xs) n (node_of x)
node_written xs ys n x e = ap (map node_of) e ∙ one_written xs n x

pub two_pushed : (xs ys zs : List Node) (n : ℕ) (x : Node) (T U : State) → ys ≡ slice_set xs n x ++ (Live T ∷ []) → zs ≡ ys ++ (Live U ∷ []) → zs ≡ slice_set xs n x ++ (Live T ∷ Live U ∷ [])
two_pushed xs ys zs n x T U e f = f ∙ ap (λ (vs : List Node). vs ++ (Live U ∷ [])) e ∙ append_assoc (slice_set xs n x) (Live T ∷ []) (Live U ∷ [])

pub parted_written : (xs zs : List Node) (n : ℕ) (x : Node) (T U : State) → zs ≡ slice_set xs n x ++ (Live T ∷ Live U ∷ []) →
    map node_of zs ≡ slice_set (map node_of xs) n (node_of x) ++ (live_node T ∷ live_node U ∷ [])
parted_written xs zs n x T U e =
    ap (map node_of) e ∙ map-append node_of (slice_set xs n x) (Live T ∷ Live U ∷ []) ∙ ap (λ (vs : List NodeModel). vs ++ (live_node T ∷ live_node U ∷ [])) (one_written xs n x)

-- a live node is within the list
pub live_within : (xs : List Node) (n : ℕ) (S : State) → slice_get (map node_of xs) n ≡ Some (live_node S) → n < length xs
live_within xs n S e = omega (arith, slice_get_within (map node_of xs) n (live_node S) e, length-map xs node_of)

-- ---- a lemma

abbrev pub with_lemmas : BookModel → List LearnedLemma → BookModel
with_lemmas b lemmas = record {
  problem = b.problem;
  options = b.options;
  root = b.root;
  nodes = b.nodes;
  kept = b.kept;
  lemmas = lemmas;
  branches = b.branches;
  point = b.point;
}

pub stored_lemma : (b : BookModel) (P : KeptPatch) (e : End) → P.end ≡ Some e → QuotesKnownLemmas b (kept_of P).quoted → lemma_count b < most_lemmas → IsGridSpace P.first.space → IsGridSpace P.reached.space →
    (lemmas : List LearnedLemma) → lemmas ≡ b.lemmas ++ (record { state = P.first; steps = map step_line P.steps.items; end = end_line e } ∷ []) → LemmaStep b (kept_of P) (lemma_count b) (with_lemmas b lemmas)
stored_lemma b P e f known room grid reached lemmas g = record {
  known = known;
  room = room;
  grid = grid;
  reached = reached;
  number = refl;
  book = ap (with_lemmas b) g ∙ ap (λ (x : Option End). learned_book b (kept_of P) (end_of x)) (sym f);
}

pub lemma_pushed : (xs zs : List Learned) (P : KeptPatch) (L : Learned) → zs ≡ xs ++ (L ∷ []) → L.state ≡ P.first → L.lines.steps ≡ P.steps →
    map learned_of zs ≡ map learned_of xs ++ (record { state = P.first; steps = map step_line P.steps.items; end = end_line L.lines.end } ∷ [])
lemma_pushed xs zs P L e f g = ap (map learned_of) e ∙ map-append learned_of xs (L ∷ [])
    ∙ ap₂ (λ (S : State) (steps : List Step). map learned_of xs ++ (record { state = S; steps = map step_line steps; end = end_line L.lines.end } ∷ [])) f (ap (λ v. v.items) g)
