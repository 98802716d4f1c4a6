-- The trees that several certificates have at one place, gone through one after the other, and the one that is taken.
use Rattle.std.specs.Prelude.{◌≡◌, ◌≢◌, ◌+◌, ◌<◌, ◌^◌, ◌-◌, ℕ, List, [], ◌∷◌, ◌++◌, Bool, true, false, cond, not, ◌&&◌, ◌||◌, ◌⊎◌, Option, Some, None, MatchOption, map, length, drop, min, get_or, nat_eq, slice_get, slice_set}
use Rattle.std.specs.List.{AllByRecursion}
use Rattle.cover_model.specs.Rules.{Line}
use Rattle.cover_model.specs.Derivation.{Tree, tree_lines}
use Rattle.cert_read.specs.LineText.{IsSpelled}
use Rattle.cert_model.specs.Written.{rule_lines}
use Rattle.cert_joined.specs.Joined.{closes}
use Rattle.cert_joined.specs.Covers.{IsShaped}
use Rattle.cert_join.specs.declared.cursor.Mark.{Mark}
use Rattle.cert_join.specs.declared.joiner.Step.{Step}
use Rattle.cert_join.specs.declared.joiner.Step.TheVariants.{Over}
use Rattle.cert_join.specs.declared.line.Left.{Left}
use Rattle.cert_join.specs.declared.weighing.Weighing.{Weighing}
use Rattle.cert_join.specs.Ahead.{AreBefore}
use Rattle.cert_join.specs.Kinds.{left_kind, rule_text, does_stay, waiting_behind}
use Rattle.cert_join.specs.Spot.{Spot, IsBefore, line_in, rewound}
use Rattle.cert_join.specs.Written.{texts_of}

-- ---- what is ahead

abbrev pub tree_texts : Tree → List (List ℕ)
tree_texts t = texts_of (rule_lines (tree_lines t))

abbrev pub forest_texts : List Tree → List (List ℕ)
forest_texts [] = []
forest_texts (t ∷ ts) = tree_texts t ++ forest_texts ts

-- a tree as a certificate has it
abbrev pub IsFit : Tree → Type 0
IsFit t = IsShaped t × AllByRecursion IsSpelled (rule_lines (tree_lines t))

-- the number of a certificate, the tree that it has at the place, and its lines behind that
pub record Branch : Type 0 where
  pub part : ℕ
  pub tree : Tree
  pub behind : List (List ℕ)

abbrev pub ahead_of : Branch → List (List ℕ)
ahead_of b = tree_texts b.tree ++ b.behind

-- in these lines of the certificates, each of these trees is ahead
abbrev pub AreAhead : List (List (List ℕ)) → List Branch → Type 0
AreAhead lines bs = AllByRecursion (λ (b : Branch). (slice_get lines b.part ≡ Some (ahead_of b)) × IsFit b.tree) bs

-- they are those of different certificates
abbrev pub AreApart : List Branch → Type 0
AreApart [] = Unit {0}
AreApart (b ∷ bs) = AllByRecursion (λ (c : Branch). c.part ≢ b.part) bs × AreApart bs

-- the lines behind these trees
abbrev pub passed : List Branch → List (List (List ℕ)) → List (List (List ℕ))
passed [] lines = lines
passed (b ∷ bs) lines = passed bs (slice_set lines b.part b.behind)

-- ---- which tree is taken

-- the first that leaves nothing, or else this one
abbrev pub first_closing : Branch → List Branch → Branch
first_closing first [] = first
first_closing first (b ∷ bs) = cond (closes b.tree) b (first_closing first bs)

-- back at this mark, the certificate of the tree stands before it
abbrev pub IsMarkOf : List ℕ → Branch → Mark → Type 0
IsMarkOf cert b m = IsBefore cert (ahead_of b) (rewound m)

abbrev pub cert_of : List (List ℕ) → Branch → List ℕ
cert_of certs b = get_or certs b.part []

abbrev pub IsMarked : List (List ℕ) → Branch → (ℕ × Mark) → Type 0
IsMarked certs b (part, m) = (part ≡ b.part) × IsMarkOf (cert_of certs b) b m

-- what is known of the tree that is taken, where these are the first tree and the first that leaves nothing of those gone through
abbrev pub IsChoosing : List (List ℕ) → Branch → List Branch → Option (ℕ × Mark) → Option (ℕ × Mark) → Type 0
IsChoosing certs taken due first (Some c) = IsMarked certs taken c
IsChoosing certs taken due (Some f) None = (b : Branch) × IsMarked certs b f × (taken ≡ first_closing b due)
IsChoosing certs taken [] None None = ⊥
IsChoosing certs taken (b ∷ more) None None = taken ≡ first_closing b (b ∷ more)

-- the tree that is taken, and where it begins
abbrev pub IsChosen : List (List ℕ) → Branch → Option (ℕ × Mark) → Type 0
IsChosen certs taken (Some c) = IsMarked certs taken c
IsChosen certs taken None = ⊥

-- ---- within a tree

abbrev pub close_all : List Tree → Bool
close_all [] = true
close_all (t ∷ ts) = closes t && close_all ts

-- these trees are left of the one that is gone through
pub record IsWithin (cert : List ℕ) (b : Branch) (left : List Tree) (w : Weighing) : Type 0 where
  pub fit : AllByRecursion IsFit left
  pub waiting : w.waiting ≡ length left
  pub some : 0 < length left
  pub leaves : closes b.tree ≡ (not w.leaves && close_all left)
  pub mark : MatchOption w.mark (left ≡ b.tree ∷ []) (IsMarkOf cert b)

-- ---- under way

-- the first of these is gone through, and the others are ahead
abbrev pub IsAtFirst : List (List ℕ) → List (List (List ℕ)) → List Branch → Weighing → Type 0
IsAtFirst certs lines [] w = Unit {0}
IsAtFirst certs lines (b ∷ more) w =
    ((left : List Tree) × IsWithin (cert_of certs b) b left w × (slice_get lines b.part ≡ Some (forest_texts left ++ b.behind))) × AreAhead lines more

-- Trees are gone through, of which this one will be taken; in the end these lines are ahead.
pub record IsWeighing (certs : List (List ℕ)) (taken : Branch) (end : List (List (List ℕ))) (w : Weighing) (spots : List Spot) : Type 0 where
  pub lines : List (List (List ℕ))
  pub due : List Branch
  pub before : AreBefore certs lines spots
  pub parts : drop w.place w.parts.items ≡ map (λ (b : Branch). b.part) due
  pub ends : passed due lines ≡ end
  pub apart : AreApart due
  pub first : IsAtFirst certs lines due w
  pub choosing : IsChoosing certs taken due w.first w.closed

-- All were gone through.
pub record IsWeighed (certs : List (List ℕ)) (taken : Branch) (end : List (List (List ℕ))) (w : Weighing) (spots : List Spot) : Type 0 where
  pub before : AreBefore certs end spots
  pub choosing : IsChoosing certs taken [] w.first w.closed

abbrev pub IsWeighStep : List (List ℕ) → Branch → List (List (List ℕ)) → Weighing → List Spot → Step → Type 0
IsWeighStep certs taken end w spots Over = IsWeighed certs taken end w spots
IsWeighStep certs taken end w spots step = IsWeighing certs taken end w spots

-- ---- a line

-- what is said of the next line, which is this one: what it leaves, and it is known; or it has to be read first
abbrev pub IsLeft : Line → Spot → Option Left → Type 0
IsLeft r s (Some k) = (k ≡ left_kind r) × (line_in s ≡ Some (rule_text r))
IsLeft r s None = Unit {0}

-- behind a line that leaves this
abbrev pub behind_line : Left → Weighing → Weighing
behind_line k w = record w { waiting = waiting_behind k w.waiting; leaves = w.leaves || does_stay k }

abbrev pub or_else : Option (ℕ × Mark) → (ℕ × Mark) → Option (ℕ × Mark)
or_else None c = Some c
or_else (Some d) c = Some d

-- behind the last line of a tree
abbrev pub behind_tree : ℕ → Mark → Weighing → Weighing
behind_tree part m w = record w {
  place = min (w.place + 1) (2 ^ 64 - 1);
  waiting = 1;
  mark = None;
  leaves = false;
  first = or_else w.first (part, m);
  closed = cond w.leaves w.closed (or_else w.closed (part, m));
}

abbrev pub behind_next : ℕ → Mark → Left → Weighing → Weighing
behind_next part m k w = cond (nat_eq (waiting_behind k w.waiting) 0) (behind_tree part m (behind_line k w)) (behind_line k w)

-- a step in this tree: it goes on in it, or is behind it
abbrev pub IsGone : List ℕ → Branch → Weighing → Weighing → Spot → Step → Type 0
IsGone cert b old new s Over = ⊥
IsGone cert b old new s step =
    ((left : List Tree) × IsWithin cert b left new × IsBefore cert (forest_texts left ++ b.behind) s × (new ≡ record old { waiting = new.waiting; mark = new.mark; leaves = new.leaves })) ⊎
    ((m : Mark) × (w : Weighing) × IsMarkOf cert b m × IsBefore cert b.behind s × (closes b.tree ≡ not w.leaves) × (new ≡ behind_tree b.part m w) ×
    (w ≡ record old { waiting = w.waiting; mark = w.mark; leaves = w.leaves }))
