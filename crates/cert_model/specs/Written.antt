-- Trees as lines of a certificate.
use Rattle.std.specs.Prelude.{◌≡◌, ℕ, suc, List, [], ◌∷◌, ◌++◌, map, length, true, false, Option, Some, IsTrue, All, sum_by}
use Rattle.std.specs.List.{AllByRecursion}
use Rattle.cert_read.specs.CertLine.{says_false, says_true, says_both, CertLine, rule_line, version, margin, delta, bound, cover, lemma, point_word, tree_word, end_word, real_interval, real_value, bool_value, yes_list, no_list}
use Rattle.interval_model.specs.Space.{Domain, real_domain, bool_domain, Space}
use Rattle.poly_graph.specs.Problem.{Problem}
pub use Rattle.cover_model.specs.Fits.{FitsAxis, FitsAxes}
use Rattle.cover_model.specs.State.{State, Loosenings}
use Rattle.poly_graph.specs.Marks.{yes_of, no_of}
use Rattle.cover_model.specs.Rules.{Line, Left, one, two, stays, rule}
use Rattle.cover_model.specs.Honest.{is_honest, branch_count}
use Rattle.cover_model.specs.Derivation.{Tree, leaf, then, fork, tree_lines, Lawful}
use Rattle.cert_model.specs.Due.{Standing, names_well}

abbrev pub rule_lines : List Line → List CertLine
rule_lines ls = map rule_line ls

-- each line of the tree names atoms and axes that are there
abbrev pub NamesWell : Problem → Tree → Type 0
NamesWell p t = AllByRecursion (λ (l : Line). IsTrue (names_well p l)) (tree_lines t)

-- ---- the lines of a lawful tree that leave their states open or stuck, with these states

abbrev pub leaf_standing : State → Line → Option Left → List Standing
leaf_standing S l (Some stays) = record { state = S; does = l } ∷ []
leaf_standing S l _ = []

abbrev pub step_standing : Option Left → (State → List Standing) → List Standing
step_standing (Some (one S')) k = k S'
step_standing _ k = []

abbrev pub fork_standing : Option Left → (State → List Standing) → (State → List Standing) → List Standing
fork_standing (Some (two S' S'')) k k' = k S' ++ k' S''
fork_standing _ k k' = []

abbrev pub left_standing : Problem → Loosenings → List State → State → Tree → List Standing
left_standing p s lemmas S (leaf l) = leaf_standing S l (rule p s lemmas S l)
left_standing p s lemmas S (then l t) = step_standing (rule p s lemmas S l) (λ S'. left_standing p s lemmas S' t)
left_standing p s lemmas S (fork l t u) = fork_standing (rule p s lemmas S l) (λ S'. left_standing p s lemmas S' t) (λ S'. left_standing p s lemmas S' u)

-- ---- every line of a lawful tree, with the state where it stands

abbrev pub tree_standing : Problem → Loosenings → List State → State → Tree → List Standing
tree_standing p s lemmas S (leaf l) = record { state = S; does = l } ∷ []
tree_standing p s lemmas S (then l t) = record { state = S; does = l } ∷ step_standing (rule p s lemmas S l) (λ S'. tree_standing p s lemmas S' t)
tree_standing p s lemmas S (fork l t u) = record { state = S; does = l } ∷ fork_standing (rule p s lemmas S l) (λ S'. tree_standing p s lemmas S' t) (λ S'. tree_standing p s lemmas S' u)

-- each line of the tree is honest, where w is the number of bits of the least width
abbrev pub IsHonestTree : Problem → ℕ → Loosenings → List State → State → Tree → Type 0
IsHonestTree p w s lemmas S t = All (λ (x : Standing). IsTrue (is_honest p w s x.state x.does)) (tree_standing p s lemmas S t)

-- the number of branch lines
abbrev pub tree_branches : Tree → ℕ
tree_branches t = sum_by branch_count (tree_lines t)

-- ---- whole covers

-- a lemma's state with its tree
pub record LemmaTree : Type 0 where
  pub state : State
  pub tree : Tree

abbrev pub lemma_states : List LemmaTree → List State
lemma_states xs = map (λ (x : LemmaTree). x.state) xs

abbrev pub domain_line : Domain → CertLine
domain_line (real_domain l h) = real_interval l h
domain_line (bool_domain true false) = bool_value says_false
domain_line (bool_domain false true) = bool_value says_true
domain_line (bool_domain f t) = bool_value says_both

abbrev pub lemma_lines : ℕ → LemmaTree → List CertLine
lemma_lines i x = lemma i ∷ (map domain_line x.state.space ++ (yes_list (yes_of x.state.marks) ∷ no_list (no_of x.state.marks) ∷ rule_lines (tree_lines x.tree)))

-- from lemma i on
abbrev pub lemmas_lines : ℕ → List LemmaTree → List CertLine
lemmas_lines i [] = []
lemmas_lines i (x ∷ xs) = lemma_lines i x ++ lemmas_lines (suc i) xs

-- the header and the number of lemmas, the lemmas, the tree
abbrev pub cover_lines : Loosenings → Option ℕ → List LemmaTree → List CertLine → List CertLine
cover_lines s b lemmas body =
    version s.version ∷ margin s.margin_bits ∷ delta s.delta_bits ∷ bound b ∷ cover (length lemmas) ∷ (lemmas_lines 0 lemmas ++ (tree_word ∷ (body ++ (end_word ∷ []))))

-- a state that a certificate can spell, with a tree over the lemmas before it in which no state stays
pub record IsLemmaTree (p : Problem) (s : Loosenings) (before : List State) (x : LemmaTree) : Type 0 where
  pub fits : FitsAxes p.axes x.state.space
  pub marks : length x.state.marks ≡ length p.atoms
  pub lawful : Lawful p s before x.state x.tree []
  pub names : NamesWell p x.tree

abbrev pub AreLemmaTrees : Problem → Loosenings → List State → List LemmaTree → Type 0
AreLemmaTrees p s before [] = Unit {0}
AreLemmaTrees p s before (x ∷ xs) = IsLemmaTree p s before x × AreLemmaTrees p s (before ++ (x.state ∷ [])) xs

-- ---- whole points

abbrev pub point_line : Domain → CertLine
point_line (real_domain l h) = real_value l
point_line (bool_domain f true) = bool_value says_true
point_line (bool_domain f false) = bool_value says_false

abbrev pub point_lines : Loosenings → Option ℕ → Space → List CertLine
point_lines s b space =
    version s.version ∷ margin s.margin_bits ∷ delta s.delta_bits ∷ bound b ∷ point_word ∷ (map point_line space ++ (end_word ∷ []))
