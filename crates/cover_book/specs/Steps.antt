-- The calls on a book: the condition of each, and the one relation between a book, a call, its reply and the book after it.
use Rattle.std.specs.Prelude.{◌≡◌, ◌≢◌, ℕ, suc, ◌<◌, ◌≤◌, List, [], ◌∷◌, ◌++◌, length, drop, take, Bool, true, false, cond, Option, Some, None, IsSome, IsTrue, Result, MatchResult, slice_get, slice_set}
use Rattle.cover_model.specs.State.{State}
use Rattle.cover_model.specs.Rules.{Line, branch_by}
use Rattle.cover_model.specs.Fits.{IsShownAt}
use Rattle.interval_model.specs.Space.{Space}
use Rattle.cover_model.specs.Space.{IsGridSpace}
use Rattle.cover_data.specs.Models.{LemmaModel, KeptModel}
use Rattle.cover_data.specs.Views.{kept_of}
use Rattle.cover_data.specs.Runs.{AreKept, is_closing, children, IsRun, IsClosed}
use Rattle.cover_book.specs.declared.calls.Call.{Call}
use Rattle.cover_book.specs.declared.calls.Call.TheVariants.{Commit, Learn, Find, StateOf, LemmasFrom}
use Rattle.cover_book.specs.declared.calls.Reply.{Reply}
use Rattle.cover_book.specs.declared.calls.Reply.TheVariants.{Committed, Learned, Found, LiveState, Lemmas, Refused}
use Rattle.cover_book.specs.declared.refusal.BookRefusal.{BookRefusal}
use Rattle.cover_book.specs.declared.refusal.BookRefusal.TheVariants.{NotOpen, OtherState, UnknownLemma, BudgetSpent, LemmasFull, PointKept, Memory}
use Rattle.cover_book.specs.declared.refusal.Kids.{Kids}
use Rattle.cover_book.specs.declared.refusal.Kids.TheVariants as kids
use Rattle.cover_book.specs.Model.{LearnedLemma, NodeModel, live_node, closed_node, parted_node, stuck_node, BookModel, problem_in, margins_of, loosenings_in, lemma_states_in, lemma_count, numbered}

-- ---- the condition of a call, which depends on what no call changes

-- a committed patch and a learned one are runs for the book's problem at its margins, and a committed one has ended; a point is shown for them
abbrev pub MayBeCalled : BookModel → Call → Type 0
MayBeCalled b (Commit n P) = IsRun (problem_in b) (margins_of b.options) (kept_of P) × IsSome P.end
MayBeCalled b (Learn k) = IsRun (problem_in b) (margins_of b.options) k × IsClosed k
MayBeCalled b (Find n x) = IsShownAt (problem_in b) (loosenings_in b) x
MayBeCalled b (StateOf n) = Unit {0}
MayBeCalled b (LemmasFrom i) = Unit {0}

-- ---- what is tested, in this order

-- node n is live in this state
abbrev pub IsLive : BookModel → ℕ → State → Type 0
IsLive b n S = slice_get b.nodes n ≡ Some (live_node S)

-- each quoted lemma is the one that the book keeps under its number
abbrev pub QuotesKnownLemmas : BookModel → List LemmaModel → Type 0
QuotesKnownLemmas b quoted = AreKept (lemma_states_in b) quoted

-- the first quoted lemma that is not has this number
pub record IsFirstUnknown (b : BookModel) (quoted : List LemmaModel) (i : ℕ) : Type 0 where
  pub place : ℕ
  pub lemma : LemmaModel
  pub there : slice_get quoted place ≡ Some lemma
  pub before : QuotesKnownLemmas b (take place quoted)
  pub number : i ≡ lemma.id
  pub unknown : slice_get (lemma_states_in b) lemma.id ≢ Some lemma.state

abbrev pub is_branch : Line → Bool
is_branch (branch_by b) = true
is_branch l = false

abbrev pub ends_in_branch : Option Line → Bool
ends_in_branch None = false
ends_in_branch (Some l) = is_branch l

-- a branch needs a budget that is not used up
abbrev pub HasBudgetFor : BookModel → Option Line → Type 0
HasBudgetFor b end = IsTrue (ends_in_branch end) → b.branches < b.options.budget

-- a book has at most so many lemmas
abbrev pub most_lemmas : ℕ
most_lemmas = 1048576

-- ---- what a commit leaves

abbrev pub with_nodes : BookModel → List NodeModel → ℕ → BookModel
with_nodes b nodes branches = record {
  problem = b.problem;
  options = b.options;
  root = b.root;
  nodes = nodes;
  kept = b.kept;
  lemmas = b.lemmas;
  branches = branches;
  point = b.point;
}

-- a node that its patch does not part
abbrev pub ended_node : KeptModel → Line → NodeModel
ended_node k l = cond (is_closing l) (closed_node k.steps l) (stuck_node k.steps l k.reached)

-- node n has this run, whose end parts its state or not
abbrev pub parted_book : BookModel → ℕ → KeptModel → Line → Option (State × State) → BookModel
parted_book b n k l None = with_nodes b (slice_set b.nodes n (ended_node k l)) b.branches
parted_book b n k l (Some (S, T)) = with_nodes b (slice_set b.nodes n (parted_node k.steps l (length b.nodes)) ++ (live_node S ∷ live_node T ∷ [])) (suc b.branches)

abbrev pub committed_book : BookModel → ℕ → KeptModel → Option Line → BookModel
committed_book b n k None = b
committed_book b n k (Some l) = parted_book b n k l (children l k.reached)

-- the next two numbers, where the state was parted
abbrev pub kids_of : BookModel → Option (State × State) → Kids
kids_of b None = kids.None
kids_of b (Some parts) = kids.Two (length b.nodes) (suc (length b.nodes))

abbrev pub kids_by : BookModel → KeptModel → Option Line → Kids
kids_by b k None = kids.None
kids_by b k (Some l) = kids_of b (children l k.reached)

-- the node is live in the run's first state, what it quotes is known, the budget and the point let it pass
pub record MayCommit (b : BookModel) (n : ℕ) (k : KeptModel) : Type 0 where
  pub live : IsLive b n k.first
  pub known : QuotesKnownLemmas b k.quoted
  pub affords : HasBudgetFor b k.end
  pub no_point : b.point ≡ None

-- so the node has the run, whose numbers are kept ones, and the parts that it leaves are the next two nodes
pub record CommitStep (b : BookModel) (n : ℕ) (k : KeptModel) (c : Kids) (b' : BookModel) : Type 0 where
  pub passes : MayCommit b n k
  pub grid : IsGridSpace k.reached.space
  pub kids : c ≡ kids_by b k k.end
  pub book : b' ≡ committed_book b n k k.end

-- ---- what the other calls leave

abbrev pub with_lemma : BookModel → LearnedLemma → BookModel
with_lemma b x = record {
  problem = b.problem;
  options = b.options;
  root = b.root;
  nodes = b.nodes;
  kept = b.kept;
  lemmas = b.lemmas ++ (x ∷ []);
  branches = b.branches;
  point = b.point;
}

abbrev pub learned_book : BookModel → KeptModel → Option Line → BookModel
learned_book b k None = b
learned_book b k (Some l) = with_lemma b (record { state = k.first; steps = k.steps; end = l })

pub record LemmaStep (b : BookModel) (k : KeptModel) (i : ℕ) (b' : BookModel) : Type 0 where
  pub known : QuotesKnownLemmas b k.quoted
  pub room : lemma_count b < most_lemmas
  pub grid : IsGridSpace k.first.space
  pub reached : IsGridSpace k.reached.space
  pub number : i ≡ lemma_count b
  pub book : b' ≡ learned_book b k k.end

abbrev pub with_point : BookModel → Space → BookModel
with_point b x = record {
  problem = b.problem;
  options = b.options;
  root = b.root;
  nodes = b.nodes;
  kept = b.kept;
  lemmas = b.lemmas;
  branches = b.branches;
  point = Some x;
}

pub record PointStep (b : BookModel) (n : ℕ) (x : Space) (b' : BookModel) : Type 0 where
  pub live : (S : State) × IsLive b n S
  pub no_point : b.point ≡ None
  pub grid : IsGridSpace x
  pub book : b' ≡ with_point b x

-- ---- refusals, each where those before it do not hold; a refused call changes nothing, and nor does one that finds no memory

abbrev pub IsOutOfMemory : BookModel → BookModel → BookRefusal → Type 0
IsOutOfMemory b b' e = (e ≡ Memory) × (b' ≡ b)

abbrev pub IsQuotedRefusal : BookModel → List LemmaModel → BookRefusal → Type 0
IsQuotedRefusal b quoted (UnknownLemma i count) = IsFirstUnknown b quoted i × (count ≡ lemma_count b)
IsQuotedRefusal b quoted e = ⊥

abbrev pub IsPointKeptRefusal : BookModel → BookRefusal → Type 0
IsPointKeptRefusal b (PointKept x) = b.point ≡ Some x
IsPointKeptRefusal b Memory = IsSome b.point
IsPointKeptRefusal b e = ⊥

abbrev pub IsCommitRefusal : BookModel → ℕ → KeptModel → BookRefusal → Type 0
IsCommitRefusal b n k (NotOpen m) = (m ≡ n) × ((S : State) → IsLive b n S → ⊥)
IsCommitRefusal b n k (OtherState S) = IsLive b n S × (k.first ≢ S)
IsCommitRefusal b n k (UnknownLemma i count) = IsLive b n k.first × IsFirstUnknown b k.quoted i × (count ≡ lemma_count b)
IsCommitRefusal b n k (BudgetSpent count) = IsLive b n k.first × QuotesKnownLemmas b k.quoted × IsTrue (ends_in_branch k.end) × (b.options.budget ≤ b.branches) × (count ≡ b.branches)
IsCommitRefusal b n k LemmasFull = ⊥
IsCommitRefusal b n k (PointKept x) = IsLive b n k.first × QuotesKnownLemmas b k.quoted × HasBudgetFor b k.end × (b.point ≡ Some x)
IsCommitRefusal b n k Memory = Unit {0}

abbrev pub IsLemmaRefusal : BookModel → KeptModel → BookRefusal → Type 0
IsLemmaRefusal b k (UnknownLemma i count) = IsFirstUnknown b k.quoted i × (count ≡ lemma_count b)
IsLemmaRefusal b k LemmasFull = QuotesKnownLemmas b k.quoted × (most_lemmas ≤ lemma_count b)
IsLemmaRefusal b k Memory = Unit {0}
IsLemmaRefusal b k e = ⊥

abbrev pub IsPointRefusal : BookModel → ℕ → Space → BookRefusal → Type 0
IsPointRefusal b n x (NotOpen m) = (m ≡ n) × ((S : State) → IsLive b n S → ⊥)
IsPointRefusal b n x (PointKept y) = ((S : State) × IsLive b n S) × (b.point ≡ Some y)
IsPointRefusal b n x Memory = ((S : State) × IsLive b n S) × IsSome b.point
IsPointRefusal b n x e = ⊥

abbrev pub IsStateRefusal : BookModel → ℕ → BookRefusal → Type 0
IsStateRefusal b n (NotOpen m) = (m ≡ n) × ((S : State) → IsLive b n S → ⊥)
IsStateRefusal b n Memory = Unit {0}
IsStateRefusal b n e = ⊥

-- ---- a call, its reply, and what it does

abbrev pub BookStep : BookModel → Call → Reply → BookModel → Type 0
BookStep b (Commit n P) (Committed c) b' = CommitStep b n (kept_of P) c b'
BookStep b (Commit n P) (Refused e) b' = IsCommitRefusal b n (kept_of P) e × (b' ≡ b)
BookStep b (Learn k) (Learned i) b' = LemmaStep b k i b'
BookStep b (Learn k) (Refused e) b' = IsLemmaRefusal b k e × (b' ≡ b)
BookStep b (Find n x) Found b' = PointStep b n x b'
BookStep b (Find n x) (Refused e) b' = IsPointRefusal b n x e × (b' ≡ b)
BookStep b (StateOf n) (LiveState S) b' = IsLive b n S × (b' ≡ b)
BookStep b (StateOf n) (Refused e) b' = IsStateRefusal b n e × (b' ≡ b)
BookStep b (LemmasFrom i) (Lemmas v) b' = (v.items ≡ drop i (numbered b)) × (b' ≡ b)
BookStep b (LemmasFrom i) (Refused Memory) b' = b' ≡ b
BookStep b call reply b' = ⊥

-- the step of a call that answers a result: with the reply to its value, or refused
abbrev pub ResultStep : {X : Type 0} → (X → Reply) → BookModel → Call → Result X BookRefusal → BookModel → Type 0
ResultStep reply b call answer b' = MatchResult answer (λ x. BookStep b call (reply x) b') (λ e. BookStep b call (Refused e) b')
