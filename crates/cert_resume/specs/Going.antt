-- How far a cover is gone through.
use Rattle.std.specs.Prelude.{◌≡◌, ℕ, suc, ◌+◌, ◌≤◌, List, [], ◌∷◌, ◌++◌, All, Bool, true, false, None, IsTrue, length, sum_by}
use Rattle.std.specs.Prelude.{Vec}
use Rattle.std.specs.Global.{Global}
use Rattle.std.specs.List.{AllByRecursion}
use Rattle.poly_graph.specs.Problem.{first_crossed}
use Rattle.poly_graph.specs.ProblemViews.{Parts, problem_of}
use Rattle.cover_model.specs.State.{State, root_state, covers}
use Rattle.cover_model.specs.Fits.{FitsProblem}
use Rattle.cover_model.specs.Rules.{Line}
use Rattle.cover_model.specs.Derivation.{Tree, leaf, tree_lines}
use Rattle.cover_data.specs.declared.margins.Options.{Options}
use Rattle.cover_data.specs.declared.stored.StoredState.{StoredState}
use Rattle.cover_data.specs.Margins.{margins_of, loosenings_of, options_in}
use Rattle.cover_book.specs.Keeps.{IsBook, IsKeptLemma}
use Rattle.cover_book.specs.Laws.{IsTreeOfBook}
use Rattle.cover_book.specs.Limits.{IsWithinLimits}
use Rattle.cover_book.specs.Model.{BookModel}
use Rattle.cover_book.specs.Tree.{lemma_trees}
use Rattle.cert_read.specs.CertLine.{rule_line}
use Rattle.cert_read.specs.LineText.{IsSpelled}
use Rattle.cert_model.specs.Accepted.{certificate_text, most_lemmas}
use Rattle.cert_model.specs.AnswerText.{has_open}
use Rattle.cert_model.specs.Due.{Standing}
use Rattle.cert_model.specs.Written.{AreLemmaTrees, IsHonestTree, LemmaTree, lemma_states, lemmas_lines, left_standing, rule_lines, tree_branches}
use Rattle.cert_text.specs.Lines.{HasAppended}
use Rattle.cert_resumed.specs.Resumed.{AreGrafts, AreShared, IsGraft, Share, each_left, grafted, leaving_lines, others, own_left}
use Rattle.cert_resume.specs.Answer.{TellsOfOwn}
use Rattle.cert_resume.specs.Request.{IsVersionOn}
use Rattle.cert_resume.specs.declared.answer.Own.{Own}
use Rattle.cert_resume.specs.declared.answer.Own.TheVariants as own
use Rattle.cert_resume.specs.declared.going.Going.{Going}

-- what is asked for, in the version of what was made so far
abbrev pub options_now : Options → Going → Options
options_now o g = options_in g.version o

-- ---- what is left in the share

-- of each tree of the book
abbrev pub IsOwnOf : BookModel → Own → Type 0
IsOwnOf b x = (t : Tree) (left : List Standing) → IsTreeOfBook b t left → TellsOfOwn x left

-- of states behind others
abbrev pub JoinsOwn : Own → Own → Own → Type 0
JoinsOwn x y z = (xs ys : List Standing) → TellsOfOwn x xs → TellsOfOwn y ys → TellsOfOwn z (xs ++ ys)

abbrev pub NotesOwn : Own → BookModel → Own → Type 0
NotesOwn x b z = (t : Tree) (left : List Standing) → IsTreeOfBook b t left → (xs : List Standing) → TellsOfOwn x xs → TellsOfOwn z (xs ++ left)

-- ---- a book

-- a tree of a book that keeps no point, and the lemmas that it learned, were appended, and its version was taken over
pub record HasNoted (b : BookModel) (g g' : Going) : Type 0 where
  pub is_book : IsBook b
  pub no_point : b.point ≡ None
  pub tree : Tree
  pub left : List Standing
  pub is_tree : IsTreeOfBook b tree left
  pub main : HasAppended g.main.items (rule_lines (tree_lines tree)) g'.main.items
  pub learned : HasAppended g.learned.items (lemmas_lines (length b.kept) (lemma_trees b)) g'.learned.items
  pub version : g'.version ≡ b.options.version
  pub budget : g'.budget + b.branches ≡ g.budget
  pub own : (xs : List Standing) → TellsOfOwn g.own xs → TellsOfOwn g'.own (xs ++ left)
  pub others : g'.others ≡ g.others

-- ---- a state that is left

-- what no search changes: the problem and what is asked for are within their limits, and the declared box is not empty
pub record IsSearchable (q : Parts) (o : Options) : Type 0 where
  pub limits : IsWithinLimits q o
  pub not_crossed : first_crossed (problem_of q) ≡ None

-- a book may open with these lemmas, and so many branches to make
pub record MayOpen (q : Parts) (o : Options) (lemmas : List State) (n : ℕ) : Type 0 where
  pub kept : All (IsKeptLemma (problem_of q) (loosenings_of (margins_of o))) lemmas
  pub few : length lemmas ≤ most_lemmas
  pub budget : n ≤ o.budget

abbrev pub MayGoOn : Parts → Options → Going → Type 0
MayGoOn q o g = MayOpen q o g.lemmas.items g.budget

-- a state of the problem within the root
abbrev pub IsWithinRoot : Parts → State → Type 0
IsWithinRoot q S = FitsProblem (problem_of q) S × IsTrue (covers (root_state (problem_of q)) S)

-- the lemmas follow others: lemmas with their trees
pub record HasLearned (q : Parts) (o : Options) (xs : List LemmaTree) (g g' : Going) : Type 0 where
  pub learned : HasAppended g.learned.items (lemmas_lines (length g.lemmas.items) xs) g'.learned.items
  pub states : g'.lemmas.items ≡ g.lemmas.items ++ lemma_states xs
  pub lemma_trees : AreLemmaTrees (problem_of q) (loosenings_of (margins_of o)) g.lemmas.items xs

-- the state was searched: the lines of a tree that begins there were appended
pub record HasSearched (q : Parts) (o : Options) (S : State) (g g' : Going) : Type 0 where
  pub version : IsVersionOn g.version g'.version
  pub may : MayGoOn q o g'
  pub lemmas : List LemmaTree
  pub learns : HasLearned q o lemmas g g'
  pub tree : Tree
  pub main : HasAppended g.main.items (rule_lines (tree_lines tree)) g'.main.items
  pub graft : (l : Line) → IsGraft (problem_of q) (loosenings_of (margins_of o)) g'.lemmas.items (record { state = S; does = l }) tree
  pub honest : IsHonestTree (problem_of q) o.least_bits (loosenings_of (margins_of o)) g'.lemmas.items S tree
  pub budget : g'.budget + tree_branches tree ≡ g.budget
  pub own : (xs : List Standing) → TellsOfOwn g.own xs → TellsOfOwn g'.own (xs ++ left_standing (problem_of q) (loosenings_of (margins_of o)) g'.lemmas.items S tree)
  pub spent : IsTrue (has_open (left_standing (problem_of q) (loosenings_of (margins_of o)) g'.lemmas.items S tree)) → g'.budget ≡ 0
  pub others : g'.others ≡ g.others

-- the state is in another share: its line was appended
pub record HasSkipped (l : Line) (g g' : Going) : Type 0 where
  pub main : g'.main.items ≡ g.main.items ++ certificate_text (rule_line l ∷ [])
  pub learned : g'.learned ≡ g.learned
  pub lemmas : g'.lemmas ≡ g.lemmas
  pub version : g'.version ≡ g.version
  pub budget : g'.budget ≡ g.budget
  pub own : g'.own ≡ g.own
  pub others : g'.others ≡ suc g.others

-- by whether the state is in the share
abbrev pub HasPassed : Bool → Parts → Options → State → Line → Going → Going → Type 0
HasPassed true q o S l g g' = HasSearched q o S g g'
HasPassed false q o S l g g' = HasSkipped l g g'

-- ---- lines

-- the states with the lines that leave them
abbrev pub standings : List Line → List State → List Standing
standings (l ∷ ls) (S ∷ Ss) = record { state = S; does = l } ∷ standings ls Ss
standings _ _ = []

-- what is known of the lines and the states that are gone through, where `start` are the lemmas at first; a state may stay in each later version
pub record CanBeResumed (q : Parts) (o : Options) (start : List State) (lines : List Line) (left : List State) : Type 0 where
  pub searchable : IsSearchable q o
  pub spelled : AllByRecursion IsSpelled (rule_lines lines)
  pub leaves : length (leaving_lines lines) ≡ length left
  pub fits : All (IsWithinRoot q) left
  pub stays : (v : ℕ) → o.version ≤ v → (xs : List LemmaTree) → All (λ (x : Standing). IsGraft (problem_of q) (loosenings_of (margins_of (options_in v o))) (start ++ lemma_states xs) x (leaf x.does)
      × (left_standing (problem_of q) (loosenings_of (margins_of (options_in v o))) (start ++ lemma_states xs) x.state (leaf x.does) ≡ x ∷ [])) (standings (leaving_lines lines) left)

-- these lines, which leave these states, were gone through
pub record HasGone (q : Parts) (o : Options) (h : Share) (start : List State) (lines : List Line) (left : List Standing) (g : Going) : Type 0 where
  pub may : MayGoOn q o g
  pub lemmas : List LemmaTree
  pub learned : HasAppended [] (lemmas_lines (length start) lemmas) g.learned.items
  pub states : g.lemmas.items ≡ start ++ lemma_states lemmas
  pub lemma_trees : AreLemmaTrees (problem_of q) (loosenings_of (margins_of o)) start lemmas
  pub trees : List Tree
  pub main : HasAppended [] (rule_lines (grafted lines trees)) g.main.items
  pub grafts : AreGrafts (problem_of q) (loosenings_of (margins_of o)) g.lemmas.items left trees
  pub shared : AreShared (problem_of q) o.least_bits (loosenings_of (margins_of o)) g.lemmas.items h 0 left trees
  pub budget : g.budget + sum_by tree_branches trees ≡ o.budget
  pub own : TellsOfOwn g.own (own_left h 0 (each_left (problem_of q) (loosenings_of (margins_of o)) g.lemmas.items left trees))
  pub spent : IsTrue (has_open (own_left h 0 (each_left (problem_of q) (loosenings_of (margins_of o)) g.lemmas.items left trees))) → g.budget ≡ 0
  pub others : g.others ≡ others h 0 (each_left (problem_of q) (loosenings_of (margins_of o)) g.lemmas.items left trees)

-- with these lemmas, and so many branches to make, nothing is gone through yet, in this version
pub record IsBegunWith (start : Vec StoredState Global) (n v : ℕ) (g : Going) : Type 0 where
  pub main : g.main.items ≡ []
  pub learned : g.learned.items ≡ []
  pub lemmas : g.lemmas ≡ start
  pub version : g.version ≡ v
  pub budget : g.budget ≡ n
  pub own : g.own ≡ own.Nothing
  pub others : g.others ≡ 0

-- nothing is gone through yet, and all branches are to be made
pub record IsBegun (q : Parts) (o : Options) (g : Going) : Type 0 where
  pub may : MayGoOn q o g
  pub begun : IsBegunWith g.lemmas o.budget o.version g
