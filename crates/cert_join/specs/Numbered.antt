-- The numbers that lemmas get, equal states one, in the order in which they come.
use Rattle.std.specs.Prelude.{◌≡◌, ◌≢◌, ◌⊎◌, ◌<◌, ◌≤◌, ℕ, zero, suc, Bool, true, false, cond, List, [], ◌∷◌, ◌++◌, Option, Some, None, Result, Ok, Err, map, take, length, get_or, slice_get, codes}
use Rattle.std.specs.List.{AllByRecursion}
use Rattle.std.specs.Option.{option_map}
use Rattle.std.specs.HashMap.{get}
use Rattle.std.specs.Str.{bytes_eq}
use Rattle.std.specs.declared.alloc.Global.{Global}
use Rattle.std.specs.declared.vec.Vec.{Vec}
use Rattle.cover_model.specs.Derivation.{tree_lines}
use Rattle.cert_model.specs.Accepted.{most_lemmas}
use Rattle.cert_model.specs.Written.{rule_lines}
use Rattle.cert_read.specs.CertLine.{CertLine, lemma, no_list, tree_word, end_word}
use Rattle.cert_joined.specs.Covers.{Cover, Lemma, AreAllLemmas, state_lines, lemmas_lines}
use Rattle.cert_join.specs.declared.numbering.Kind.{Kind}
use Rattle.cert_join.specs.declared.numbering.Kind.TheVariants.{Lemma as LemmaKind, No, Tree as TreeKind, Other}
use Rattle.cert_join.specs.declared.numbering.Hashes.{Hashes}
use Rattle.cert_join.specs.declared.numbering.Known.{Known}
use Rattle.cert_join.specs.declared.numbering.Numbering.{Numbering}
use Rattle.cert_join.specs.declared.cursor.Mark.{Mark}
use Rattle.cert_join.specs.declared.joiner.Step.{Step}
use Rattle.cert_join.specs.declared.joiner.Step.TheVariants.{Over}
use Rattle.cert_join.specs.declared.stop.Unjoined.{Unjoined}
use Rattle.cert_join.specs.declared.stop.Unjoined.TheVariants.{Memory, Unlike, Crowded}
use Rattle.cert_join.specs.Ahead.{AreBefore}
use Rattle.cert_join.specs.Heads.{IsUnjoined}
use Rattle.cert_join.specs.Spot.{Spot, IsBefore, rewound}
use Rattle.cert_join.specs.Written.{texts_of, text_of, behind_header, written_from}

-- ---- lines, by their first words

-- of a lemma's own lines by the first word
abbrev pub word_kind : List ℕ → Kind
word_kind w = cond (bytes_eq w (codes "lemma")) LemmaKind (cond (bytes_eq w (codes "no")) No (cond (bytes_eq w (codes "tree")) TreeKind Other))

abbrev pub line_kind : CertLine → Kind
line_kind (lemma i) = LemmaKind
line_kind (no_list js) = No
line_kind tree_word = TreeKind
line_kind l = Other

abbrev pub is_tree : Kind → Bool
is_tree TreeKind = true
is_tree k = false

-- ---- states

-- the text of a lemma's state
abbrev pub state_text : Lemma → List ℕ
state_text x = text_of (state_lines x)

-- the place of the first text that is this one
abbrev pub place_of : List ℕ → List (List ℕ) → Option ℕ
place_of k [] = None
place_of k (t ∷ ts) = cond (bytes_eq k t) (Some 0) (option_map suc (place_of k ts))

-- the texts are those that are known, in the order of their numbers
pub record IsKnown (known : Known) (texts : List (List ℕ)) : Type 0 where
  pub count : known.count ≡ length texts
  pub found : (v : Vec ℕ Global) → get (λ (x y : Vec ℕ Global). bytes_eq x.items y.items) known.map v ≡ place_of v.items texts

-- a text has this number among the texts: one of those that are there, or the next one
abbrev pub IsNumbered : List (List ℕ) → List ℕ → ℕ → List (List ℕ) → Type 0
IsNumbered texts text n after =
    ((place_of text texts ≡ Some n) × (after ≡ texts)) ⊎ ((place_of text texts ≡ None) × (n ≡ length texts) × (after ≡ texts ++ (text ∷ [])))

-- the lemmas have these numbers, where the texts are known before
abbrev pub HaveNumbers : List (List ℕ) → List ℕ → List Lemma → List (List ℕ) → Type 0
HaveNumbers texts [] [] after = after ≡ texts
HaveNumbers texts (n ∷ ns) (x ∷ xs) after = (mid : List (List ℕ)) × IsNumbered texts (state_text x) n mid × HaveNumbers mid ns xs after
HaveNumbers texts _ _ after = ⊥

-- so do those of all covers
abbrev pub AllHaveNumbers : List (List ℕ) → List (List ℕ) → List Cover → List (List ℕ) → Type 0
AllHaveNumbers texts [] [] after = after ≡ texts
AllHaveNumbers texts (ns ∷ numbers) (c ∷ covers) after = (mid : List (List ℕ)) × HaveNumbers texts ns c.lemmas mid × AllHaveNumbers mid numbers covers after
AllHaveNumbers texts _ _ after = ⊥

-- ---- trees of lemmas, by their hashes

-- What is kept of the hash of a tree: that of a new lemma under its number; of another one, whether it is that of the first.
pub record Notes (tree : ℕ) (old new : Hashes) : Type 0 where
  pub kept : (n : ℕ) → old.lemma ≡ Some (n, true) → new.trees.items ≡ old.trees.items ++ (tree ∷ [])
  pub same : (n : ℕ) → old.lemma ≡ Some (n, false) → new.dropped ≡ false → slice_get old.trees.items n ≡ Some tree
  pub other : (n : ℕ) → old.lemma ≡ Some (n, false) → slice_get old.trees.items n ≡ Some tree → new.dropped ≡ old.dropped

-- ---- where a certificate is read

-- the lines of a cover behind its lemmas
abbrev pub tail_lines : Cover → List CertLine
tail_lines c = tree_word ∷ (rule_lines (tree_lines c.tree) ++ (end_word ∷ []))

abbrev pub IsOther : CertLine → Type 0
IsOther l = line_kind l ≡ Other

-- a tree, a lemma or the main tree is next
pub record IsBetween (before : List (List ℕ)) (c : Cover) (own : List ℕ) (known : List (List ℕ)) (ls : List CertLine) : Type 0 where
  pub done : List Lemma
  pub due : List Lemma
  pub rules : List CertLine
  pub lemmas : c.lemmas ≡ done ++ due
  pub ahead : ls ≡ rules ++ (lemmas_lines (length done) due ++ tail_lines c)
  pub others : AllByRecursion IsOther rules
  pub numbers : HaveNumbers before own done known

-- lines of a lemma's state are next
pub record IsInside (before : List (List ℕ)) (c : Cover) (state : List ℕ) (own : List ℕ) (known : List (List ℕ)) (ls : List CertLine) : Type 0 where
  pub done : List Lemma
  pub now : Lemma
  pub due : List Lemma
  pub read : List CertLine
  pub left : List CertLine
  pub last : List ℕ
  pub lemmas : c.lemmas ≡ done ++ (now ∷ due)
  pub parts : state_lines now ≡ read ++ (left ++ (no_list last ∷ []))
  pub held : state ≡ text_of read
  pub ahead : ls ≡ left ++ (no_list last ∷ (rule_lines (tree_lines now.tree) ++ (lemmas_lines (suc (length done)) due ++ tail_lines c)))
  pub others : AllByRecursion IsOther left
  pub numbers : HaveNumbers before own done known

-- by whether a state is read
abbrev pub IsAt : Bool → List (List ℕ) → Cover → List ℕ → List ℕ → List (List ℕ) → List CertLine → Type 0
IsAt true before c state own known ls = IsInside before c state own known ls
IsAt false before c state own known ls = IsBetween before c own known ls

-- ---- a line of a lemma

-- the lemma's number is the next one of its certificate's
pub record TakesState (text : List ℕ) (old new : Numbering) : Type 0 where
  pub part : new.part ≡ old.part
  pub mark : new.mark ≡ old.mark
  pub numbers : new.numbers ≡ old.numbers
  pub outside : new.is_in_state ≡ false
  pub number : (texts : List (List ℕ)) → IsKnown old.known texts → old.known.count ≤ 1048576 →
      (n : ℕ) × (after : List (List ℕ)) × IsNumbered texts text n after × IsKnown new.known after × (new.own.items ≡ old.own.items ++ (n ∷ []))

-- a line of this kind was taken
pub record TakesLine (kind : Kind) (line : List ℕ) (old new : Numbering) : Type 0 where
  pub part : new.part ≡ old.part
  pub mark : new.mark ≡ old.mark
  pub numbers : new.numbers ≡ old.numbers
  pub begins : kind ≡ LemmaKind → (new.is_in_state ≡ true) × (new.state.items ≡ []) × (new.own ≡ old.own) × (new.known ≡ old.known)
  pub passes : kind ≡ Other → old.is_in_state ≡ false → (new.is_in_state ≡ false) × (new.own ≡ old.own) × (new.known ≡ old.known)
  pub grows : kind ≡ Other → old.is_in_state ≡ true →
      (new.is_in_state ≡ true) × (new.state.items ≡ old.state.items ++ (line ++ (10 ∷ []))) × (new.own ≡ old.own) × (new.known ≡ old.known)
  pub ends : kind ≡ No → old.is_in_state ≡ true → TakesState (old.state.items ++ (line ++ (10 ∷ []))) old new

-- ---- a certificate

-- how the reading of a certificate began, where it did
abbrev pub IsMarked : List ℕ → Cover → Option Mark → Spot → Type 0
IsMarked cert c None s = IsBefore cert (behind_header c) s
IsMarked cert c (Some m) s = IsBefore cert (behind_header c) (rewound m)

-- the certificate of this cover is read, and its lemmas numbered so far
pub record IsReadingPart (cert : List ℕ) (before : List (List ℕ)) (c : Cover) (n : Numbering) (s : Spot) : Type 0 where
  pub known : List (List ℕ)
  pub is_known : IsKnown n.known known
  pub few : n.known.count ≤ 1048576
  pub ls : List CertLine
  pub ahead : IsBefore cert (texts_of ls) s
  pub at : IsAt n.is_in_state before c n.state.items n.own.items known ls
  pub marked : IsMarked cert c n.mark s

-- its lemmas are numbered, and it is at their beginning
pub record IsPartRead (cert : List ℕ) (before : List (List ℕ)) (c : Cover) (old new : Numbering) (s : Spot) : Type 0 where
  pub known : List (List ℕ)
  pub is_known : IsKnown new.known known
  pub few : new.known.count ≤ 1048576
  pub count : new.count ≡ new.known.count
  pub own : Vec ℕ Global
  pub part : new.part ≡ suc old.part
  pub outside : new.is_in_state ≡ false
  pub unmarked : new.mark ≡ None
  pub empty : new.own.items ≡ []
  pub lists : new.numbers.items ≡ old.numbers.items ++ (own ∷ [])
  pub numbers : HaveNumbers before own.items c.lemmas known
  pub ahead : IsBefore cert (behind_header c) s

-- it goes on in the same certificate
pub record StaysInPart (cert : List ℕ) (before : List (List ℕ)) (c : Cover) (old new : Numbering) (s : Spot) : Type 0 where
  pub part : new.part ≡ old.part
  pub lists : new.numbers ≡ old.numbers
  pub reading : IsReadingPart cert before c new s

-- with some of its lemmas there are too many states
pub record IsPartCrowded (before : List (List ℕ)) (c : Cover) : Type 0 where
  pub own : List ℕ
  pub done : List Lemma
  pub due : List Lemma
  pub known : List (List ℕ)
  pub lemmas : c.lemmas ≡ done ++ due
  pub numbers : HaveNumbers before own done known
  pub many : most_lemmas < length known

abbrev pub ReadsPart : List ℕ → List (List ℕ) → Cover → Numbering → Result Step Unjoined → Numbering → Spot → Type 0
ReadsPart cert before c old (Ok Over) new s = ⊥
ReadsPart cert before c old (Ok x) new s = StaysInPart cert before c old new s ⊎ IsPartRead cert before c old new s
ReadsPart cert before c old (Err Crowded) new s = IsPartCrowded before c
ReadsPart cert before c old (Err Memory) new s = Unit {0}
ReadsPart cert before c old (Err Unlike) new s = ⊥

-- what ends a certificate
pub record EndsPart (old new : Numbering) : Type 0 where
  pub part : new.part ≡ suc old.part
  pub outside : new.is_in_state ≡ old.is_in_state
  pub unmarked : new.mark ≡ None
  pub empty : new.own.items ≡ []
  pub known : new.known ≡ old.known
  pub count : new.count ≡ new.known.count
  pub lists : new.numbers.items ≡ old.numbers.items ++ (old.own ∷ [])

-- what is taken of a line: there are too many states with it, or not
abbrev pub TakesNext : Kind → List ℕ → Numbering → Result Kind Unjoined → Numbering → Type 0
TakesNext kind line old (Ok TreeKind) new = (kind ≡ TreeKind) × EndsPart old new
TakesNext kind line old (Ok found) new = (kind ≢ TreeKind) × TakesLine kind line old new × (new.known.count ≤ 1048576)
TakesNext kind line old (Err Crowded) new = (kind ≢ TreeKind) × TakesLine kind line old new × (1048576 < new.known.count)
TakesNext kind line old (Err Memory) new = Unit {0}
TakesNext kind line old (Err Unlike) new = ⊥

-- ---- all certificates

-- the numbers of each certificate that was gone through
abbrev pub lists_of : Numbering → List (List ℕ)
lists_of n = map (λ (v : Vec ℕ Global). v.items) n.numbers.items

-- each is behind its header, but one before these lines
abbrev pub around : ℕ → List (List ℕ) → List Cover → List (List (List ℕ))
around part ls [] = []
around zero ls (c ∷ covers) = ls ∷ map behind_header covers
around (suc part) ls (c ∷ covers) = behind_header c ∷ around part ls covers

-- the next certificate is not begun
pub record IsResting (certs : List (List ℕ)) (covers : List Cover) (before : List (List ℕ)) (n : Numbering) (spots : List Spot) : Type 0 where
  pub ahead : AreBefore certs (map behind_header covers) spots
  pub is_known : IsKnown n.known before
  pub few : n.known.count ≤ 1048576
  pub count : n.count ≡ n.known.count
  pub outside : n.is_in_state ≡ false
  pub unmarked : n.mark ≡ None
  pub empty : n.own.items ≡ []

-- it is read
pub record IsWithin (certs : List (List ℕ)) (covers : List Cover) (before : List (List ℕ)) (n : Numbering) (spots : List Spot) : Type 0 where
  pub cover : Cover
  pub covers_at : slice_get covers n.part ≡ Some cover
  pub cert : List ℕ
  pub certs_at : slice_get certs n.part ≡ Some cert
  pub spot : Spot
  pub spots_at : slice_get spots n.part ≡ Some spot
  pub reading : IsReadingPart cert before cover n spot
  pub ahead : AreBefore certs (around n.part (texts_of reading.ls) covers) spots

-- the lemmas of so many covers are numbered
pub record IsNumbering (certs : List (List ℕ)) (covers : List Cover) (n : Numbering) (spots : List Spot) : Type 0 where
  pub before : List (List ℕ)
  pub all : AllHaveNumbers [] (lists_of n) (take n.part covers) before
  pub here : IsResting certs covers before n spots ⊎ IsWithin certs covers before n spots

-- those of all
pub record AreNumbered (certs : List (List ℕ)) (covers : List Cover) (n : Numbering) (spots : List Spot) : Type 0 where
  pub ahead : AreBefore certs (map behind_header covers) spots
  pub lemmas : AreAllLemmas covers (lists_of n) (written_from 0 (lists_of n) covers)
  -- each has a list, as long as its lemmas
  pub many : length (lists_of n) ≡ length covers
  pub long : (i : ℕ) (c : Cover) → slice_get covers i ≡ Some c → length (get_or (lists_of n) i []) ≡ length c.lemmas
  pub count : n.count ≡ length (written_from 0 (lists_of n) covers)
  pub texts : List (List ℕ)
  pub numbers : AllHaveNumbers [] (lists_of n) covers texts

abbrev pub ReadsLemmas : List (List ℕ) → List Cover → Result Step Unjoined → Numbering → List Spot → Type 0
ReadsLemmas certs covers (Ok Over) n spots = AreNumbered certs covers n spots
ReadsLemmas certs covers (Ok x) n spots = IsNumbering certs covers n spots
ReadsLemmas certs covers (Err e) n spots = IsUnjoined covers e
