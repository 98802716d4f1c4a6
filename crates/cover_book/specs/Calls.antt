-- What the calls answer, in values of the code.
use Rattle.std.specs.Prelude.{◌≡◌, ℕ, List, [], ◌∷◌, ◌++◌, MatchResult, Result, Some, length, slice_get, slice_set}
use Rattle.poly_graph.specs.Problem.{first_crossed}
use Rattle.poly_graph.specs.ProblemViews.{Parts, problem_of}
use Rattle.cover_model.specs.State.{State, root_state}
use Rattle.cover_data.specs.Models.{LemmaModel}
use Rattle.cover_data.specs.Views.{end_line, kept_of}
use Rattle.cover_data.specs.declared.kept.KeptPatch.{KeptPatch}
use Rattle.cover_book.specs.Ending.{IsEndingOf}
use Rattle.cover_book.specs.Model.{BookModel, first_node, lemma_states_in}
use Rattle.cover_book.specs.Steps.{CommitStep, IsCommitRefusal, IsOutOfMemory, IsQuotedRefusal, LemmaStep, MayCommit, QuotesKnownLemmas}
use Rattle.cover_book.specs.Views.{node_of}
use Rattle.cover_book.specs.declared.ending.Ending.{Ending}
use Rattle.cover_book.specs.declared.node.Learned.{Learned}
use Rattle.cover_book.specs.declared.node.Lines.{Lines}
use Rattle.cover_book.specs.declared.node.Node.{Node}
use Rattle.cover_book.specs.declared.node.Node.TheVariants.{Live, Parted}
use Rattle.cover_book.specs.declared.refusal.BookRefusal.{BookRefusal}
use Rattle.cover_book.specs.declared.refusal.Kids.{Kids}

-- the node that a book of this problem opens with
abbrev pub IsOpeningOf : Parts → Node → Type 0
IsOpeningOf p n = node_of n ≡ first_node (first_crossed (problem_of p)) (root_state (problem_of p))

-- the book keeps this lemma under its number
abbrev pub KeepsLemma : BookModel → LemmaModel → Type 0
KeepsLemma b l = slice_get (lemma_states_in b) l.id ≡ Some l.state

-- all of these lemmas are kept under their numbers, or why not
abbrev pub TestsQuoted : BookModel → List LemmaModel → Result (Unit {0}) BookRefusal → Type 0
TestsQuoted b ls r = MatchResult r (λ _. QuotesKnownLemmas b ls) (λ e. IsQuotedRefusal b ls e)

-- the patch may be committed to this node, or why not
abbrev pub TestsCommit : BookModel → ℕ → KeptPatch → Result (Unit {0}) BookRefusal → Type 0
TestsCommit b node patch r = MatchResult r (λ _. MayCommit b node (kept_of patch)) (λ e. IsCommitRefusal b node (kept_of patch) e)

-- these are the patch's lines, and this is what its end leaves
abbrev pub IsOutcomeOf : KeptPatch → Lines → Ending → Type 0
IsOutcomeOf patch lines ending = (lines.steps ≡ patch.steps) × (patch.end ≡ Some lines.end) × IsEndingOf (end_line lines.end) patch.reached ending

-- the lemma is the patch's first state, with its lines
abbrev pub IsLearnedOf : KeptPatch → Learned → Type 0
IsLearnedOf patch lemma = (lemma.state ≡ patch.first) × (lemma.lines.steps ≡ patch.steps) × (patch.end ≡ Some lemma.lines.end)

-- the node has these lines, and its parts are the next two nodes, or nothing changes
abbrev pub PartsNode : {E : Type 0} → List Node → ℕ → Lines → State → State → List Node → Result ℕ E → Type 0
PartsNode old place lines lower upper new r = MatchResult r (λ kid. (kid ≡ length old) × (new ≡ slice_set old place (Parted lines kid) ++ (Live lower ∷ Live upper ∷ []))) (λ _. new ≡ old)

-- the patch is committed to this node, or it is out of memory
abbrev pub StoresPatch : BookModel → ℕ → KeptPatch → BookModel → Result Kids BookRefusal → Type 0
StoresPatch old node patch new r = MatchResult r (λ c. CommitStep old node (kept_of patch) c new) (λ e. IsOutOfMemory old new e)

-- the lemma is kept under the number that is answered, or it is out of memory
abbrev pub StoresLemma : BookModel → KeptPatch → BookModel → Result ℕ BookRefusal → Type 0
StoresLemma old patch new r = MatchResult r (λ i. LemmaStep old (kept_of patch) i new) (λ e. IsOutOfMemory old new e)
