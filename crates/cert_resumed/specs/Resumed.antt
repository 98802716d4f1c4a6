-- Covers that go on from others. In the main tree each line that leaves its state open or stuck may be replaced by a tree, which begins in that
-- state; more lemmas follow those that were there.
use Rattle.std.specs.Prelude.{◌≡◌, ◌≤◌, ◌-◌, ◌%◌, ℕ, suc, List, [], ◌∷◌, ◌++◌, Bool, true, false, cond, Option, None, IsTrue, length, map, drop, nat_eq, sum_by}
use Rattle.poly_graph.specs.Problem.{Problem, first_crossed}
use Rattle.cover_model.specs.State.{State, Loosenings, in_version}
use Rattle.cover_model.specs.Rules.{Line, stay_by}
use Rattle.cover_model.specs.Derivation.{Tree, leaf, tree_lines, Lawful}
use Rattle.cert_read.specs.CertLine.{CertLine, version, margin, delta, bound, cover, tree_word, end_word, line, parsed}
use Rattle.cert_read.specs.Lines.{lines_of}
use Rattle.cert_model.specs.Due.{Standing, left_open, version_due, nothing_due}
use Rattle.cert_model.specs.Accepted.{IsAccepted, is_header, most_lemmas, certificate_text, course, reached}
use Rattle.cert_model.specs.AnswerText.{has_open}
use Rattle.cert_model.specs.Least.{is_lines_version}
use Rattle.cert_model.specs.Written.{rule_lines, NamesWell, left_standing, IsHonestTree, tree_branches, LemmaTree, lemma_states, lemmas_lines}

-- ---- lines that refine others

-- the line leaves its state open or stuck
abbrev pub is_leaving : Line → Bool
is_leaving (stay_by t) = true
is_leaving l = false

-- the first lines are the second ones, but that some which leave their states are replaced by the lines of trees
pub data Refines : List Line → List Line → Type 0 where
  none : Refines [] []
  same : {l : Line} {fine coarse : List Line} → Refines fine coarse → Refines (l ∷ fine) (l ∷ coarse)
  grown : {l : Line} {fine coarse : List Line} (t : Tree) → IsTrue (is_leaving l) → Refines fine coarse → Refines (tree_lines t ++ fine) (l ∷ coarse)

abbrev pub lines_at : Line → List Tree → List Line
lines_at l [] = l ∷ []
lines_at l (t ∷ ts) = tree_lines t

-- the lines, each one that leaves its state replaced by the next of these trees
abbrev pub grafted : List Line → List Tree → List Line
grafted [] ts = []
grafted (l ∷ ls) ts = cond (is_leaving l) (lines_at l ts ++ grafted ls (drop 1 ts)) (l ∷ grafted ls ts)

-- ---- a cover as it was read

-- the lines and the states of its lemmas; the lines of its main tree, and the states that stay, each with its line
pub record CoverRead : Type 0 where
  pub loosenings : Loosenings
  pub lemma_lines : List CertLine
  pub lemmas : List State
  pub main : List Line
  pub left : List Standing

abbrev pub read_lines : Option ℕ → CoverRead → List CertLine
read_lines b c =
    version c.loosenings.version ∷ margin c.loosenings.margin_bits ∷ delta c.loosenings.delta_bits ∷ bound b ∷ cover (length c.lemmas) ∷
    (c.lemma_lines ++ (tree_word ∷ (rule_lines c.main ++ (end_word ∷ []))))

-- the bytes are accepted as this cover, of a declared box that is not empty
pub record IsCoverRead (p : Problem) (b : Option ℕ) (bytes : List ℕ) (c : CoverRead) : Type 0 where
  pub accepted : IsAccepted p b bytes c.loosenings (left_open c.left)
  pub lines : map parsed (lines_of bytes) ≡ map line (read_lines b c)
  pub ends : course p b 0 version_due (lines_of bytes) ≡ reached (nothing_due c.loosenings c.lemmas (left_open c.left)) (length (lines_of bytes))

-- the lines that leave their states open or stuck, in order
abbrev pub leaving_lines : List Line → List Line
leaving_lines [] = []
leaving_lines (l ∷ ls) = cond (is_leaving l) (l ∷ leaving_lines ls) (leaving_lines ls)

-- what is known of such a cover: its loosenings are in their limits, its lemmas are few enough, no bounds of the box cross, and the states that stay
-- are those of the lines that leave theirs
pub record IsSoundRead (p : Problem) (c : CoverRead) : Type 0 where
  pub loosenings : IsTrue (is_header c.loosenings)
  pub not_crossed : first_crossed p ≡ None
  pub few : length c.lemmas ≤ most_lemmas
  pub leaving : map (λ (x : Standing). x.does) c.left ≡ leaving_lines c.main

-- ---- what goes on from it

-- The version v of a certificate that goes on from one of version w: 2 or 5, and not below it.
abbrev pub IsVersionBehind : ℕ → ℕ → Type 0
IsVersionBehind w v = IsTrue (is_lines_version v) × (w ≤ v)

-- all lemmas: those that were read, and these
abbrev pub all_lemmas : CoverRead → List LemmaTree → List State
all_lemmas c xs = c.lemmas ++ lemma_states xs

-- the lines of version v
abbrev pub resumed_lines : ℕ → Option ℕ → CoverRead → List LemmaTree → List Tree → List CertLine
resumed_lines v b c xs ts =
    version v ∷ margin c.loosenings.margin_bits ∷ delta c.loosenings.delta_bits ∷ bound b ∷ cover (length (all_lemmas c xs)) ∷
    (c.lemma_lines ++ (lemmas_lines (length c.lemmas) xs ++ (tree_word ∷ (rule_lines (grafted c.main ts) ++ (end_word ∷ [])))))

abbrev pub resumed_text : ℕ → Option ℕ → CoverRead → List LemmaTree → List Tree → List ℕ
resumed_text v b c xs ts = certificate_text (resumed_lines v b c xs ts)

-- the tree follows the rules from the state that stayed
pub record IsGraft (p : Problem) (s : Loosenings) (lemmas : List State) (x : Standing) (t : Tree) : Type 0 where
  pub left : List State
  pub lawful : Lawful p s lemmas x.state t left
  pub names : NamesWell p t

-- a tree for each state that stayed
abbrev pub AreGrafts : Problem → Loosenings → List State → List Standing → List Tree → Type 0
AreGrafts p s lemmas [] [] = Unit {0}
AreGrafts p s lemmas (x ∷ left) (t ∷ ts) = IsGraft p s lemmas x t × AreGrafts p s lemmas left ts
AreGrafts p s lemmas _ _ = ⊥

-- what each of these trees leaves
abbrev pub each_left : Problem → Loosenings → List State → List Standing → List Tree → List (List Standing)
each_left p s lemmas (x ∷ left) (t ∷ ts) = left_standing p s lemmas x.state t ∷ each_left p s lemmas left ts
each_left p s lemmas _ _ = []

abbrev pub joined : List (List Standing) → List Standing
joined [] = []
joined (xs ∷ rest) = xs ++ joined rest

-- ---- shares of what stayed

-- share i of n, where i is from 1 to n
pub record Share : Type 0 where
  pub number : ℕ
  pub count : ℕ

-- state k, counted from 0 in the order of lines, is in the share
abbrev pub is_own : Share → ℕ → Bool
is_own h k = nat_eq (k % h.count) (h.number - 1)

-- what is left in the share, from state k on
abbrev pub own_left : Share → ℕ → List (List Standing) → List Standing
own_left h k [] = []
own_left h k (xs ∷ rest) = cond (is_own h k) xs [] ++ own_left h (suc k) rest

-- how many states are in other shares, from state k on
abbrev pub others : Share → ℕ → List (List Standing) → ℕ
others h k [] = 0
others h k (xs ∷ rest) = cond (is_own h k) (others h (suc k) rest) (suc (others h (suc k) rest))

-- a state of the share has an honest tree, where w is the number of bits of the least width; another one stays as it was
abbrev pub IsShared : Problem → ℕ → Loosenings → List State → Bool → Standing → Tree → Type 0
IsShared p w s lemmas true x t = IsHonestTree p w s lemmas x.state t
IsShared p w s lemmas false x t = t ≡ leaf x.does

-- from state k on
abbrev pub AreShared : Problem → ℕ → Loosenings → List State → Share → ℕ → List Standing → List Tree → Type 0
AreShared p w s lemmas h k [] [] = Unit {0}
AreShared p w s lemmas h k (x ∷ left) (t ∷ ts) = IsShared p w s lemmas (is_own h k) x t × AreShared p w s lemmas h (suc k) left ts
AreShared p w s lemmas h k _ _ = ⊥

-- The certificate goes on from the one that was read, in its version or a later one, in a share of what stayed there. It is accepted with what is left. What it has more is honest, and
-- no more branches than the budget; exactly so many where a state of the share is open.
pub record IsResumption (p : Problem) (b : Option ℕ) (w budget : ℕ) (h : Share) (bytes cert : List ℕ) : Type 0 where
  pub read : CoverRead
  pub is_read : IsCoverRead p b bytes read
  pub version : ℕ
  pub behind : IsVersionBehind read.loosenings.version version
  pub lemmas : List LemmaTree
  pub trees : List Tree
  pub text : cert ≡ resumed_text version b read lemmas trees
  pub accepted : IsAccepted p b cert (in_version version read.loosenings) (left_open (joined (each_left p (in_version version read.loosenings) (all_lemmas read lemmas) read.left trees)))
  pub shared : AreShared p w (in_version version read.loosenings) (all_lemmas read lemmas) h 0 read.left trees
  pub within : sum_by tree_branches trees ≤ budget
  pub spent : IsTrue (has_open (own_left h 0 (each_left p (in_version version read.loosenings) (all_lemmas read lemmas) read.left trees))) → sum_by tree_branches trees ≡ budget
