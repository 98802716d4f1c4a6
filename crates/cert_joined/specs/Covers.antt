-- What the certificates of covers say, and what joins them: one header, the lemmas of all with new numbers, and a tree that joins theirs.
use Rattle.std.specs.Prelude.{◌≡◌, ◌≤◌, ◌<◌, ℕ, suc, List, [], ◌∷◌, ◌++◌, Option, Some, cond, length, map, nat_eq, get_or, slice_get}
use Rattle.std.specs.List.{AllByRecursion}
use Rattle.cover_model.specs.Rules.{Line, narrow_by, end_by, mark_by, branch_by, by_lemma, ban_atom, by, ban}
use Rattle.cover_model.specs.Derivation.{Tree, leaf, then, fork, tree_lines}
use Rattle.cert_read.specs.CertLine.{CertLine, version, margin, delta, bound, cover, lemma, tree_word, end_word, real_interval, bool_value, yes_list, no_list}
use Rattle.cert_read.specs.LineText.{IsSpelled, line_text, text_of_lines}
use Rattle.cert_read.specs.Lines.{lines_of}
use Rattle.cert_model.specs.Accepted.{most_bytes, most_lemmas}
use Rattle.cert_model.specs.Written.{rule_lines}
use Rattle.cert_joined.specs.Joined.{Joins}

-- ---- what a certificate of a cover says

-- a lemma: the lines of its box, its marks, its tree
pub record Lemma : Type 0 where
  pub box_lines : List CertLine
  pub yes : List ℕ
  pub no : List ℕ
  pub tree : Tree

pub record Cover : Type 0 where
  pub version : ℕ
  pub margin_bits : ℕ
  pub delta_bits : ℕ
  pub bound : Option ℕ
  pub lemmas : List Lemma
  pub tree : Tree

abbrev pub state_lines : Lemma → List CertLine
state_lines x = x.box_lines ++ (yes_list x.yes ∷ no_list x.no ∷ [])

abbrev pub lemma_lines : ℕ → Lemma → List CertLine
lemma_lines i x = lemma i ∷ (state_lines x ++ rule_lines (tree_lines x.tree))

-- from lemma i on
abbrev pub lemmas_lines : ℕ → List Lemma → List CertLine
lemmas_lines i [] = []
lemmas_lines i (x ∷ xs) = lemma_lines i x ++ lemmas_lines (suc i) xs

abbrev pub cover_lines : Cover → List CertLine
cover_lines c =
    version c.version ∷ margin c.margin_bits ∷ delta c.delta_bits ∷ bound c.bound ∷ cover (length c.lemmas) ∷
    (lemmas_lines 0 c.lemmas ++ (tree_word ∷ (rule_lines (tree_lines c.tree) ++ (end_word ∷ []))))

-- ---- lines with other numbers of lemmas

abbrev pub line_by : (ℕ → ℕ) → Line → Line
line_by f (end_by (by_lemma i)) = by (f i)
line_by f (mark_by (ban_atom j i)) = ban j (f i)
line_by f l = l

abbrev pub tree_by : (ℕ → ℕ) → Tree → Tree
tree_by f (leaf l) = leaf (line_by f l)
tree_by f (then l t) = then (line_by f l) (tree_by f t)
tree_by f (fork l t u) = fork (line_by f l) (tree_by f t) (tree_by f u)

-- ---- texts

-- how many states a line leaves: none, or its own, which stays; one; two
pub data Arity : Type 0 where
  ends goes_on splits : Arity

abbrev pub arity : Line → Arity
arity (narrow_by n) = goes_on
arity (mark_by m) = goes_on
arity (branch_by b) = splits
arity l = ends

-- each line of the tree has as many trees below it as it leaves states
abbrev pub IsShaped : Tree → Type 0
IsShaped (leaf l) = arity l ≡ ends
IsShaped (then l t) = (arity l ≡ goes_on) × IsShaped t
IsShaped (fork l t u) = (arity l ≡ splits) × IsShaped t × IsShaped u

-- an axis of a lemma's box
abbrev pub IsBoxLine : CertLine → Type 0
IsBoxLine (real_interval l h) = Unit {0}
IsBoxLine (bool_value w) = Unit {0}
IsBoxLine l = ⊥

-- The bytes are the text of this cover.
pub record IsTextOf (c : Cover) (bytes : List ℕ) : Type 0 where
  pub few : length bytes ≤ most_bytes
  pub lines : lines_of bytes ≡ map line_text (cover_lines c)
  pub spelled : AllByRecursion IsSpelled (cover_lines c)
  pub shaped : IsShaped c.tree
  pub lemmas : AllByRecursion (λ (x : Lemma). IsShaped x.tree) c.lemmas
  pub boxes : AllByRecursion (λ (x : Lemma). AllByRecursion IsBoxLine x.box_lines) c.lemmas

-- each of these bytes is the text of its cover
abbrev pub AreTextsOf : List Cover → List (List ℕ) → Type 0
AreTextsOf [] [] = Unit {0}
AreTextsOf (c ∷ covers) (bytes ∷ texts) = IsTextOf c bytes × AreTextsOf covers texts
AreTextsOf _ _ = ⊥

-- ---- what joins covers

-- the number that a list gives a lemma
abbrev pub numbered : List ℕ → ℕ → ℕ
numbered numbers i = get_or numbers i 0

-- lemma k of cover i is this one
pub record IsLemmaAt (covers : List Cover) (i k : ℕ) (x : Lemma) : Type 0 where
  pub cover : Cover
  pub covers_at : slice_get covers i ≡ Some cover
  pub lemma_at : slice_get cover.lemmas k ≡ Some x

-- its number in the joined cover
abbrev pub number_at : List (List ℕ) → ℕ → ℕ → ℕ
number_at numbers i k = numbered (get_or numbers i []) k

-- The lemmas of all covers, each state once, where `numbers` gives each cover the numbers that its lemmas have here.
pub record AreAllLemmas (covers : List Cover) (numbers : List (List ℕ)) (lemmas : List Lemma) : Type 0 where
  -- each stands there, by its number
  pub kept : (i k : ℕ) (x : Lemma) → IsLemmaAt covers i k x → (y : Lemma) × (slice_get lemmas (number_at numbers i k) ≡ Some y) × (state_lines y ≡ state_lines x)
  -- each that stands there is one of them, and the lemmas that its tree names have their new numbers
  pub taken : (n : ℕ) (y : Lemma) → slice_get lemmas n ≡ Some y →
      (i : ℕ) × (k : ℕ) × (x : Lemma) × IsLemmaAt covers i k x × (number_at numbers i k ≡ n) × (state_lines y ≡ state_lines x) × (y.tree ≡ tree_by (numbered (get_or numbers i [])) x.tree)
  -- no two have one state
  pub once : (m n : ℕ) (x y : Lemma) → slice_get lemmas m ≡ Some x → slice_get lemmas n ≡ Some y → state_lines x ≡ state_lines y → m ≡ n

-- the state is that of a lemma of one of the covers
abbrev pub IsStateOf : List Cover → List CertLine → Type 0
IsStateOf covers s = (i : ℕ) × (k : ℕ) × (x : Lemma) × IsLemmaAt covers i k x × (s ≡ state_lines x)

-- The lemmas of the covers have more states than a certificate may have lemmas.
pub record IsCrowded (covers : List Cover) : Type 0 where
  pub states : List (List CertLine)
  pub among : (n : ℕ) (s : List CertLine) → slice_get states n ≡ Some s → IsStateOf covers s
  -- none stands twice
  pub once : (m n : ℕ) (s : List CertLine) → slice_get states m ≡ Some s → slice_get states n ≡ Some s → m ≡ n
  pub many : most_lemmas < length states

-- the main trees, with the new numbers of lemmas
abbrev pub trees_by : List (List ℕ) → List Cover → List Tree
trees_by (ns ∷ numbers) (c ∷ covers) = tree_by (numbered ns) c.tree ∷ trees_by numbers covers
trees_by _ _ = []

-- the version of what joins certificates of these versions: 5 where one of them has it, else 2
abbrev pub joined_version : List ℕ → ℕ
joined_version [] = 2
joined_version (v ∷ vs) = cond (nat_eq v 5) 5 (joined_version vs)

abbrev pub versions : List Cover → List ℕ
versions covers = map (λ (c : Cover). c.version) covers

-- The covers have one margin, delta and bound, which the joined one has too; it has their lemmas, and its tree joins theirs.
pub record IsJoinOf (covers : List Cover) (joined : Cover) : Type 0 where
  pub version : joined.version ≡ joined_version (versions covers)
  pub margin : AllByRecursion (λ (c : Cover). c.margin_bits ≡ joined.margin_bits) covers
  pub delta : AllByRecursion (λ (c : Cover). c.delta_bits ≡ joined.delta_bits) covers
  pub bound : AllByRecursion (λ (c : Cover). c.bound ≡ joined.bound) covers
  pub numbers : List (List ℕ)
  pub lemmas : AreAllLemmas covers numbers joined.lemmas
  pub tree : Joins (trees_by numbers covers) joined.tree

-- where these bytes are the texts of covers, one or more, this is the text of a cover that joins them
abbrev pub JoinsTexts : List (List ℕ) → List ℕ → Type 0
JoinsTexts texts text = (first : Cover) (others : List Cover) → AreTextsOf (first ∷ others) texts → (joined : Cover) × IsJoinOf (first ∷ others) joined × (text ≡ text_of_lines (map line_text (cover_lines joined)))
