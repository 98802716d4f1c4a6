-- What is still due of the main trees.
use Rattle.std.specs.Prelude.{◌≡◌, ◌<◌, ℕ, ◌+◌, ◌-◌, List, [], ◌∷◌, ◌++◌, true, false, Vec, Some, cond, get_or, map, length, nat_eq, reverse}
use Rattle.std.specs.List.{AllByRecursion}
use Rattle.cover_model.specs.Rules.{Line}
use Rattle.cover_model.specs.Derivation.{Tree, tree_lines}
use Rattle.cert_read.specs.CertLine.{rule_line}
use Rattle.cert_read.specs.LineText.{IsSpelled, text_of_lines}
use Rattle.cert_joined.specs.Covers.{Arity, ends, goes_on, splits, arity, line_by, numbered, tree_by, IsShaped}
use Rattle.cert_joined.specs.Joined.{Joins}
use Rattle.cert_join.specs.declared.line.Left.{Left}
use Rattle.cert_join.specs.declared.line.Left.TheVariants.{One, Two}
use Rattle.cert_join.specs.declared.joiner.Step.{Step}
use Rattle.cert_join.specs.declared.joiner.Step.TheVariants.{Over}
use Rattle.cert_join.specs.declared.trees.Task.{Task}
use Rattle.cert_join.specs.declared.trees.Task.TheVariants.{Compare, Copy, Weigh}
use Rattle.cert_join.specs.declared.weighing.Weighing.{Weighing}
use Rattle.cert_join.specs.Kinds.{rule_text}
use Rattle.cert_join.specs.Weighed.{Branch, IsWeighing}
use Rattle.cert_join.specs.Spot.{Spot, IsBefore, line_in}
use Rattle.cert_join.specs.Gathered.{Meeting, parts_of, does_leave, numbers_at, lists_of, AreDistinct, AreNext, AreThere, AllReady, ArePassed, Stand, spot_at, text_at}

-- ---- a certificate's tree that is copied

-- how many trees are due behind a line of a tree, where so many were due with it
abbrev pub due_behind : Arity → ℕ → ℕ
due_behind ends n = n - 1
due_behind goes_on n = n
due_behind splits n = n + 1

-- these are the lines of so many trees
abbrev pub AreTreesOf : List Line → ℕ → Type 0
AreTreesOf [] n = n ≡ 0
AreTreesOf (l ∷ ls) n = (0 < n) × AreTreesOf ls (due_behind (arity l) n)

-- each can be spelled
abbrev pub AreSpelled : List Line → Type 0
AreSpelled ls = AllByRecursion (λ (l : Line). IsSpelled (rule_line l)) ls

-- the bytes of these lines
abbrev pub rule_texts : List Line → List (List ℕ)
rule_texts ls = map rule_text ls

-- their text, where lemmas have these numbers
abbrev pub text_by : List ℕ → List Line → List ℕ
text_by numbers ls = text_of_lines (map (λ (l : Line). rule_text (line_by (numbered numbers) l)) ls)

-- So many trees are still to be copied, which end before these lines of their certificate; the whole text is this one.
pub record IsCopying (cert numbers : List ℕ) (rest : List (List ℕ)) (whole : List ℕ) (waiting : ℕ) (text : List ℕ) (s : Spot) : Type 0 where
  pub lines : List Line
  pub trees : AreTreesOf lines waiting
  pub spelled : AreSpelled lines
  pub before : IsBefore cert (rule_texts lines ++ rest) s
  pub adds_up : whole ≡ text ++ text_by numbers lines

-- ---- trees that are compared

-- the lines of a certificate among these
abbrev pub lines_at : ℕ → Meeting → List (List ℕ)
lines_at i [] = []
lines_at i (x ∷ place) = cond (nat_eq i x.0) (rule_texts (tree_lines x.1)) (lines_at i place)

abbrev pub lines_due : ℕ → List Meeting → List (List ℕ)
lines_due i [] = []
lines_due i (place ∷ due) = lines_at i place ++ lines_due i due

-- trees stand at this place, at most one of each certificate; each has its shape, and can be spelled
pub record IsMeeting (place : Meeting) : Type 0 where
  pub some : 0 < length place
  pub distinct : AreDistinct (parts_of place)
  pub shaped : AllByRecursion (λ (x : ℕ × Tree). IsShaped x.1) place
  pub spelled : AllByRecursion (λ (x : ℕ × Tree). AreSpelled (tree_lines x.1)) place

abbrev pub tree_text : Tree → List ℕ
tree_text u = text_of_lines (rule_texts (tree_lines u))

-- the trees, where lemmas have these numbers
abbrev pub trees_at : List (List ℕ) → Meeting → List Tree
trees_at numbers place = map (λ (x : ℕ × Tree). tree_by (numbered (numbers_at numbers x.0)) x.1) place

-- the text is that of trees that join those of each place
abbrev pub Yields : List (List ℕ) → List Meeting → List ℕ → Type 0
Yields numbers [] out = out ≡ []
Yields numbers (place ∷ due) out = (u : Tree) × (more : List ℕ) × Joins (trees_at numbers place) u × Yields numbers due more × (out ≡ tree_text u ++ more)

-- What is joined: the bytes of each certificate, and what stands behind its tree; the numbers of lemmas; the trees; the text that was
-- written before, and that which stands before theirs.
pub record Course : Type 0 where
  pub cert : ℕ → List ℕ
  pub rest : ℕ → List (List ℕ)
  pub numbers : List (List ℕ)
  pub trees : List Tree
  pub done : List ℕ
  pub front : List ℕ
  -- lines with these numbers can be spelled
  pub spelled : (i : ℕ) (l : Line) → IsSpelled (rule_line l) → IsSpelled (rule_line (line_by (numbered (numbers_at numbers i)) l))

-- the text is that of a tree that joins these
abbrev pub IsWhole : Course → List ℕ → Type 0
IsWhole k text = (u : Tree) × Joins k.trees u × (k.done ++ text ≡ k.front ++ tree_text u)

-- The trees of these places are due, the first one's first; what joins them makes the text whole.
pub record IsDue (k : Course) (parts : List (List ℕ)) (text : List ℕ) (spots : List Spot) : Type 0 where
  pub due : List Meeting
  pub places : map parts_of due ≡ parts
  pub there : AreThere parts spots
  pub good : AllByRecursion IsMeeting due
  pub stand : Stand k.cert (λ i. lines_due i due ++ k.rest i) spots
  pub whole : (out : List ℕ) → Yields k.numbers due out → IsWhole k (text ++ out)

-- ---- what is due

-- The same before so many trees of one certificate.
pub record IsDueBehind (k : Course) (part waiting : ℕ) (parts : List (List ℕ)) (text : List ℕ) (spots : List Spot) : Type 0 where
  pub lines : List Line
  pub trees : AreTreesOf lines waiting
  pub spelled : AreSpelled lines
  pub due : List Meeting
  pub places : map parts_of due ≡ parts
  pub there : AreThere ((part ∷ []) ∷ parts) spots
  pub good : AllByRecursion IsMeeting due
  pub stand : Stand k.cert (λ i. cond (nat_eq i part) (rule_texts lines) [] ++ (lines_due i due ++ k.rest i)) spots
  pub whole : (out : List ℕ) → Yields k.numbers due out → IsWhole k (text ++ (text_by (numbers_at k.numbers part) lines ++ out))

-- The same where the next lines of the trees at the first place are known.
pub record IsHere (k : Course) (now : List ℕ) (parts : List (List ℕ)) (text : List ℕ) (spots : List Spot) : Type 0 where
  pub first : ℕ × Tree
  pub others : Meeting
  pub due : List Meeting
  pub here : parts_of (first ∷ others) ≡ now
  pub places : map parts_of due ≡ parts
  pub there : AreThere (now ∷ parts) spots
  pub met : IsMeeting (first ∷ others)
  pub good : AllByRecursion IsMeeting due
  pub next : AreNext spots (first ∷ others)
  pub ready : AllReady now spots
  pub stand : Stand k.cert (λ i. lines_due i ((first ∷ others) ∷ due) ++ k.rest i) spots
  pub whole : (out : List ℕ) → Yields k.numbers ((first ∷ others) ∷ due) out → IsWhole k (text ++ out)

-- none of the trees leaves its state at once; all do
abbrev pub AllGo : Meeting → Type 0
AllGo place = AllByRecursion (λ (x : ℕ × Tree). does_leave x ≡ false) place

abbrev pub AllLeave : Meeting → Type 0
AllLeave place = AllByRecursion (λ (x : ℕ × Tree). does_leave x ≡ true) place

-- The same while a tree is chosen among those of one place: this one will be, and all are passed then.
pub record IsDueWeighed (k : Course) (w : Weighing) (parts : List (List ℕ)) (text : List ℕ) (spots : List Spot) : Type 0 where
  pub certs : List (List ℕ)
  pub ends : List (List (List ℕ))
  pub taken : Branch
  pub due : List Meeting
  pub weighing : IsWeighing certs taken ends w spots
  pub certs_are : (i : ℕ) → i < length spots → get_or certs i [] ≡ k.cert i
  pub ends_are : (i : ℕ) → i < length spots → get_or ends i [] ≡ lines_due i due ++ k.rest i
  pub behind : taken.behind ≡ lines_due taken.part due ++ k.rest taken.part
  pub shaped : IsShaped taken.tree
  pub spelled : AreSpelled (tree_lines taken.tree)
  pub places : map parts_of due ≡ parts
  pub there : AreThere ((taken.part ∷ []) ∷ parts) spots
  pub good : AllByRecursion IsMeeting due
  pub whole : (out : List ℕ) → Yields k.numbers due out → IsWhole k (text ++ (text_by (numbers_at k.numbers taken.part) (tree_lines taken.tree) ++ out))

-- what is due where this is done next
abbrev pub IsNextDue : Course → Task → List (List ℕ) → List ℕ → List Spot → Type 0
IsNextDue k Compare parts text spots = IsDue k parts text spots
IsNextDue k (Copy part waiting) parts text spots = IsDueBehind k part waiting parts text spots
IsNextDue k (Weigh w) parts text spots = IsDueWeighed k w parts text spots

-- what is due behind a step: nothing where all is over, and each certificate stands behind its tree
abbrev pub IsAfter : Course → Step → Task → List (List ℕ) → List ℕ → List Spot → Type 0
IsAfter k Over task parts text spots = IsWhole k text × Stand k.cert k.rest spots
IsAfter k step task parts text spots = IsNextDue k task parts text spots

-- ---- the stack of places

-- the places of a stack, the last one first
abbrev pub stacked : {Z : Type 0} → List (Vec ℕ Z) → List (List ℕ)
stacked vs = reverse (lists_of vs)

-- the places behind a line of this kind, before those that were there
abbrev pub with_behind : Left → List ℕ → List (List ℕ) → List (List ℕ)
with_behind One now parts = now ∷ parts
with_behind Two now parts = now ∷ now ∷ parts
with_behind k now parts = parts

-- The next line of one certificate was appended, and those of these passed.
pub record AreTaken (numbers : List (List ℕ)) (part : ℕ) (parts : List ℕ) (text : List ℕ) (spots : List Spot) (more : List ℕ) (new : List Spot) : Type 0 where
  pub line : part < length spots → (l : Line) → line_in (spot_at spots part) ≡ Some (rule_text l) → IsSpelled (rule_line l) → more ≡ text ++ (text_at numbers part l ++ (10 ∷ []))
  pub passed : AreDistinct parts → ArePassed parts spots new
