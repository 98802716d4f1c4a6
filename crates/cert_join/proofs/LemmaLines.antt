-- The lemmas of one certificate, line by line.
use Rattle.std.proofs.Common.{◌≡◌, ◌<◌, ℕ, suc, ◌+◌, List, [], ◌∷◌, ◌++◌, Bool, true, false, cond, nat_eq, Some, map, length, length-append, get_or, drop, refl, ap, ap₂, sym, subst, ◌∙◌, append_assoc, true≢false, add-one, add-zero, arith}
use Rattle.std.specs.Prelude.{Err, Ok, OnOk, Result, slice_get}
use Rattle.std.specs.declared.alloc.AllocError.{AllocError}
use Rattle.std.specs.List.{AllByRecursion}
use Rattle.std.proofs.Math.Seq.{drop-cons}
use Rattle.std.proofs.lemmas.Bool.{eqb-true}
use Rattle.std.proofs.lemmas.Option.{slice_get-get_or, slice_get_within, get_or_from_slice_get}
use Rattle.cover_model.specs.Rules.{Line}
use Rattle.cover_model.specs.Derivation.{Tree, leaf, then, fork, tree_lines}
use Rattle.cert_read.specs.CertLine.{CertLine, tree_word, lemma, real_interval, bool_value, yes_list, no_list, rule_line}
use Rattle.cert_read.specs.LineText.{IsSpelled, line_text}
use Rattle.cert_model.specs.Written.{rule_lines}
use Rattle.cert_joined.specs.Covers.{Lemma, IsBoxLine, lemma_lines, lemmas_lines, line_by, numbered, state_lines, tree_by}
use Rattle.cert_join.specs.Kinds.{renumbered}
use Rattle.cert_join.specs.Written.{lemma_by, new_ones, text_of, texts_of}
use Rattle.cert_join.specs.LemmasDue.{begun_with, lines_ahead, new_left, tree_part, whole_line, GoesOn, IsBegun, IsBehind, IsInner, IsNextBegun, IsRest, IsTaken, Rest}
use Rattle.cert_join.specs.Spot.{Spot, IsBefore}
use Rattle.cert_join.specs.Numbered.{is_tree, line_kind}
use Rattle.cert_join.specs.declared.lemmas.Lemmas.{Lemmas}

-- ---- texts of lines that follow others

pub text_more : (l : CertLine) (ls : List CertLine) → text_of (l ∷ ls) ≡ whole_line l ++ text_of ls
text_more l ls = sym (append_assoc (line_text l) (10 ∷ []) (text_of ls))

pub text_append : (ls ms : List CertLine) → text_of (ls ++ ms) ≡ text_of ls ++ text_of ms
text_append [] ms = refl
text_append (l ∷ ls) ms =
    ap (λ (xs : List ℕ). line_text l ++ (10 ∷ xs)) (text_append ls ms) ∙ sym (append_assoc (line_text l) (10 ∷ text_of ls) (text_of ms))

pub map_both : {A B : Type 0} (f : A → B) (xs ys : List A) → map f (xs ++ ys) ≡ map f xs ++ map f ys
map_both f [] ys = refl
map_both {B = B} f (x ∷ xs) ys = ap (λ (zs : List B). f x ∷ zs) (map_both f xs ys)

-- ---- all of several

pub all_append : {A : Type 0} (P : A → Type 0) (xs ys : List A) → AllByRecursion P (xs ++ ys) → AllByRecursion P xs × AllByRecursion P ys
all_append P [] ys h = (tt, h)
all_append P (x ∷ xs) ys h = let e = all_append P xs ys h.1 in ((h.0, e.0), e.1)

all-both : {A : Type 0} (P : A → Type 0) (xs ys : List A) → AllByRecursion P xs → AllByRecursion P ys → AllByRecursion P (xs ++ ys)
all-both P [] ys h k = k
all-both P (x ∷ xs) ys h k = (h.0, all-both P xs ys h.1 k)

-- ---- a lemma with other numbers

tree-by : (f : ℕ → ℕ) (t : Tree) → rule_lines (tree_lines (tree_by f t)) ≡ map (renumbered f) (rule_lines (tree_lines t))
tree-by f (leaf l) = refl
tree-by f (then l t) = ap (λ (ls : List CertLine). rule_line (line_by f l) ∷ ls) (tree-by f t)
tree-by f (fork l t u) =
    ap (λ (ls : List CertLine). rule_line (line_by f l) ∷ ls)
    (map_both rule_line (tree_lines (tree_by f t)) (tree_lines (tree_by f u))
    ∙ ap₂ (λ (xs ys : List CertLine). xs ++ ys) (tree-by f t) (tree-by f u)
    ∙ sym (map_both (renumbered f) (rule_lines (tree_lines t)) (rule_lines (tree_lines u)))
    ∙ ap (map (renumbered f)) (sym (map_both rule_line (tree_lines t) (tree_lines u))))

box-by : (f : ℕ → ℕ) (l : CertLine) → IsBoxLine l → renumbered f l ≡ l
box-by f (real_interval l u) h = refl
box-by f (bool_value w) h = refl
box-by f _ h = absurd h

boxes-by : (f : ℕ → ℕ) (ls : List CertLine) → AllByRecursion IsBoxLine ls → map (renumbered f) ls ≡ ls
boxes-by f [] h = refl
boxes-by f (l ∷ ls) h = ap₂ (λ (k : CertLine) (ks : List CertLine). k ∷ ks) (box-by f l h.0) (boxes-by f ls h.1)

state-by : (f : ℕ → ℕ) (x : Lemma) → AllByRecursion IsBoxLine x.box_lines → map (renumbered f) (state_lines x) ≡ state_lines x
state-by f x h =
    map_both (renumbered f) x.box_lines (yes_list x.yes ∷ no_list x.no ∷ [])
    ∙ ap (λ (ls : List CertLine). ls ++ (yes_list x.yes ∷ no_list x.no ∷ [])) (boxes-by f x.box_lines h)

-- its lines behind the first
abbrev pub lines_behind : Lemma → List CertLine
lines_behind x = state_lines x ++ rule_lines (tree_lines x.tree)

lemma-by : (numbers : List ℕ) (x : Lemma) → AllByRecursion IsBoxLine x.box_lines → lines_behind (lemma_by numbers x) ≡ map (renumbered (numbered numbers)) (lines_behind x)
lemma-by numbers x h =
    let f = numbered numbers in
    ap₂ (λ (xs ys : List CertLine). xs ++ ys) (sym (state-by f x h)) (tree-by f x.tree)
    ∙ sym (map_both (renumbered f) (state_lines x) (rule_lines (tree_lines x.tree)))

-- ---- lines behind the first of a lemma

box-inner : (l : CertLine) → IsBoxLine l → IsInner l
box-inner (real_interval l u) h = tt
box-inner (bool_value w) h = tt
box-inner _ h = absurd h

boxes-inner : (ls : List CertLine) → AllByRecursion IsBoxLine ls → AllByRecursion IsInner ls
boxes-inner [] h = tt
boxes-inner (l ∷ ls) h = (box-inner l h.0, boxes-inner ls h.1)

rules-inner : (ls : List Line) → AllByRecursion IsInner (rule_lines ls)
rules-inner [] = tt
rules-inner (l ∷ ls) = (tt, rules-inner ls)

behind-inner : (x : Lemma) → AllByRecursion IsBoxLine x.box_lines → AllByRecursion IsInner (lines_behind x)
behind-inner x h =
    all-both IsInner (state_lines x) (rule_lines (tree_lines x.tree))
    (all-both IsInner x.box_lines (yes_list x.yes ∷ no_list x.no ∷ []) (boxes-inner x.box_lines h) (tt, (tt, tt)))
    (rules-inner (tree_lines x.tree))

-- ---- the steps

no-lines : (b : Bool) → cond {A = List CertLine} b [] [] ≡ []
no-lines true = refl
no-lines false = refl

new-none : (numbers : List ℕ) (next : ℕ) (ns : List ℕ) → new_ones numbers next ns [] ≡ []
new-none numbers next [] = refl
new-none numbers next (n ∷ ns) = refl

-- a line of the lemma that was begun
due-inner : (f : ℕ → ℕ) (w : Bool) (l : CertLine) (ls rest : List CertLine) →
    text_of (cond w (map (renumbered f) (l ∷ ls)) [] ++ rest) ≡ cond w (whole_line (renumbered f l)) [] ++ text_of (cond w (map (renumbered f) ls) [] ++ rest)
due-inner f true l ls rest = text_more (renumbered f l) (map (renumbered f) ls ++ rest)
due-inner f false l ls rest = refl

pub goes_inner : (cert : List ℕ) (t : Tree) (numbers : List ℕ) (s s' : Lemmas) (l : CertLine) (ls : List CertLine) (xs : List Lemma) (spot : Spot) (old new : List ℕ) →
    IsRest s.begun (record { middle = l ∷ ls; lemmas = xs }) → IsTaken numbers l s s' old new →
    IsBefore cert (texts_of (lines_ahead s.begun (record { middle = ls; lemmas = xs }) t)) spot →
    GoesOn cert t numbers s s' (record { middle = l ∷ ls; lemmas = xs }) spot old new
goes_inner cert t numbers s s' l ls xs spot old new h taken before =
    let r : Rest = record { middle = ls; lemmas = xs } in
    let P : Lemmas → Type 0 = λ k. GoesOn cert t numbers s k (record { middle = l ∷ ls; lemmas = xs }) spot old new in
    subst P (sym taken.0) (record {
      rest = r;
      is_rest = record { inner = h.inner.1; spelled = h.spelled.1; boxes = h.boxes; lemmas_spelled = h.lemmas_spelled };
      kept = refl;
      before = before;
      part = refl;
      written = cond s.is_written (whole_line (renumbered (numbered numbers) l)) [];
      appended = taken.1;
      due = due-inner (numbered numbers) s.is_written l ls (lemmas_lines s.next (new_left numbers s r));
      next = refl;
    })

-- the first line of a lemma
drop-there : (numbers : List ℕ) (k n : ℕ) → slice_get numbers k ≡ Some n → drop k numbers ≡ n ∷ drop (suc k) numbers
drop-there numbers k n e =
    drop-cons numbers k 0 (slice_get_within numbers k n e) ∙ ap (λ (m : ℕ). m ∷ drop (suc k) numbers) (get_or_from_slice_get numbers k n 0 e)

due-first : (numbers ns : List ℕ) (next n : ℕ) (w b : Bool) (x : Lemma) (xs : List Lemma) → (b ≡ true → n ≡ next) → AllByRecursion IsBoxLine x.box_lines →
    text_of (cond w [] [] ++ lemmas_lines next (cond b (lemma_by numbers x ∷ new_ones numbers (suc next) ns xs) (new_ones numbers next ns xs)))
    ≡ cond b (whole_line (lemma n)) [] ++ text_of (cond b (map (renumbered (numbered numbers)) (lines_behind x)) []
    ++ lemmas_lines (cond b (suc next) next) (new_ones numbers (cond b (suc next) next) ns xs))
due-first numbers ns next n w true x xs same boxes =
    let later : List CertLine = lemmas_lines (suc next) (new_ones numbers (suc next) ns xs) in
    ap (λ (ls : List CertLine). text_of (ls ++ (lemma_lines next (lemma_by numbers x) ++ later))) (no-lines w)
    ∙ text_more (lemma next) (lines_behind (lemma_by numbers x) ++ later)
    ∙ ap₂ (λ (m : ℕ) (ls : List CertLine). whole_line (lemma m) ++ text_of (ls ++ later)) (sym (same refl)) (lemma-by numbers x boxes)
due-first numbers ns next n w false x xs same boxes =
    ap (λ (ls : List CertLine). text_of (ls ++ lemmas_lines next (new_ones numbers next ns xs))) (no-lines w)

next-first : (numbers ns : List ℕ) (next : ℕ) (b : Bool) (y : Lemma) (xs : List Lemma) →
    cond b (suc next) next + length (new_ones numbers (cond b (suc next) next) ns xs) ≡ next + length (cond b (y ∷ new_ones numbers (suc next) ns xs) (new_ones numbers next ns xs))
next-first numbers ns next true y xs = omega arith
next-first numbers ns next false y xs = refl

begun-suc : ℕ → Lemmas → Lemmas
begun-suc n s = record s { begun = suc s.begun; is_written = nat_eq n s.next; next = cond (nat_eq n s.next) (suc s.next) s.next }

same-begun : (n : ℕ) (s : Lemmas) → begun_with n s ≡ begun-suc n s
unfolding begun-suc
same-begun n s = ap₂ (λ (a b : ℕ). record s { begun = a; is_written = nat_eq n s.next; next = cond (nat_eq n s.next) b s.next }) (add-one s.begun) (add-one s.next)

pub goes_first : (cert : List ℕ) (t : Tree) (numbers : List ℕ) (s s' : Lemmas) (x : Lemma) (xs : List Lemma) (spot : Spot) (old new : List ℕ) (n : ℕ) →
    IsRest s.begun (record { middle = []; lemmas = x ∷ xs }) → slice_get numbers s.begun ≡ Some n → IsBegun n s s' old new →
    IsBefore cert (texts_of ((lines_behind x ++ lemmas_lines (suc s.begun) xs) ++ (tree_word ∷ tree_part t))) spot →
    GoesOn cert t numbers s s' (record { middle = []; lemmas = x ∷ xs }) spot old new
unfolding begun-suc
goes_first cert t numbers s s' x xs spot old new n h e begun before =
    let P : Lemmas → Type 0 = λ k. GoesOn cert t numbers s k (record { middle = []; lemmas = x ∷ xs }) spot old new in
    let Q : List (List ℕ) → Type 0 = λ ls. IsBefore cert ls spot in
    let there = drop-there numbers s.begun n e in
    let spelled = all_append IsSpelled (lemma_lines s.begun x) (lemmas_lines (suc s.begun) xs) h.lemmas_spelled in
    subst P (sym (begun.0 ∙ same-begun n s)) (record {
      rest = record { middle = lines_behind x; lemmas = xs };
      is_rest = record { inner = behind-inner x h.boxes.0; spelled = spelled.0.1; boxes = h.boxes.1; lemmas_spelled = spelled.1 };
      kept = omega arith;
      before = subst Q (ap texts_of (append_assoc (lines_behind x) (lemmas_lines (suc s.begun) xs) (tree_word ∷ tree_part t))) before;
      part = refl;
      written = cond (nat_eq n s.next) (whole_line (lemma n)) [];
      appended = begun.1;
      due = ap (λ (ns : List ℕ). text_of (cond s.is_written [] [] ++ lemmas_lines s.next (new_ones numbers s.next ns (x ∷ xs)))) there
          ∙ due-first numbers (drop (suc s.begun) numbers) s.next n s.is_written (nat_eq n s.next) x xs (eqb-true n s.next) h.boxes.0;
      next = next-first numbers (drop (suc s.begun) numbers) s.next (nat_eq n s.next) (lemma_by numbers x) xs
          ∙ ap (λ (ns : List ℕ). s.next + length (new_ones numbers s.next ns (x ∷ xs))) (sym there);
    })

-- the line behind all lemmas
pub goes_behind : (cert : List ℕ) (t : Tree) (numbers : List ℕ) (s s' : Lemmas) (spot : Spot) (old new : List ℕ) →
    s' ≡ record { part = s.part + 1; begun = 0; is_written = false; next = s.next } → new ≡ old → IsBefore cert (texts_of (tree_part t)) spot →
    IsBehind cert t numbers s s' (record { middle = []; lemmas = [] }) spot old new
goes_behind cert t numbers s s' spot old new state same before = record {
  before = before;
  state = state;
  same = same;
  due = ap₂ (λ (xs : List CertLine) (ys : List Lemma). xs ++ lemmas_lines s.next ys) (no-lines s.is_written) (new-none numbers s.next (drop s.begun numbers));
  next = ap (λ (ys : List Lemma). s.next + length ys) (new-none numbers s.next (drop s.begun numbers)) ∙ add-zero s.next;
}

-- ---- which line is next

inner-kind : (l : CertLine) → IsInner l → is_tree (line_kind l) ≡ false
inner-kind (real_interval l u) h = refl
inner-kind (bool_value w) h = refl
inner-kind (yes_list js) h = refl
inner-kind (no_list js) h = refl
inner-kind (rule_line r) h = refl
inner-kind _ h = absurd h

-- whether the line stands behind all lemmas
abbrev pub TellsBehind : List ℕ → Bool → Type 0
TellsBehind l t = (k : CertLine) → l ≡ line_text k → t ≡ is_tree (line_kind k)

not-tree : (k : CertLine) (l : List ℕ) (t : Bool) → is_tree (line_kind k) ≡ false → TellsBehind l t → line_text k ≡ l → t ≡ true → ⊥
not-tree k l t h tells e f = true≢false (sym f ∙ tells k (sym e) ∙ h)

-- there is a line ahead
pub some_lines : (begun : ℕ) (r : Rest) (t : Tree) → 0 < length (texts_of (lines_ahead begun r t))
some_lines begun r t =
    let xs = r.middle ++ lemmas_lines begun r.lemmas in
    let e : lines_ahead begun r t ≡ xs ++ (tree_word ∷ tree_part t) = sym (append_assoc r.middle (lemmas_lines begun r.lemmas) (tree_word ∷ tree_part t)) in
    omega (arith, ap (λ (ls : List CertLine). length (texts_of ls)) e, ap length (map_both line_text xs (tree_word ∷ tree_part t)), length-append (texts_of xs) (texts_of (tree_word ∷ tree_part t)))

-- the number of the next lemma is there
pub next_begun : (numbers : List ℕ) (s s' : Lemmas) (old new : List ℕ) (r : Result (Unit {0}) AllocError) → s.begun < length numbers →
    OnOk r (IsBegun (get_or numbers s.begun 0) s s' old new) → OnOk r (IsNextBegun numbers s s' old new)
next_begun numbers s s' old new (Err e) l h = tt
next_begun numbers s s' old new (Ok x) l h = (get_or numbers s.begun 0, slice_get-get_or numbers s.begun 0 l, h)

-- at the line `tree` nothing is left
pub at_tree : (cert : List ℕ) (t : Tree) (numbers : List ℕ) (s s' : Lemmas) (middle : List CertLine) (lemmas : List Lemma) (spot : Spot) (old new l : List ℕ) (ls : List (List ℕ)) (b : Bool) →
    IsRest s.begun (record { middle = middle; lemmas = lemmas }) → texts_of (lines_ahead s.begun (record { middle = middle; lemmas = lemmas }) t) ≡ l ∷ ls → TellsBehind l b → b ≡ true →
    IsBefore cert ls spot → s' ≡ record { part = s.part + 1; begun = 0; is_written = false; next = s.next } → new ≡ old →
    IsBehind cert t numbers s s' (record { middle = middle; lemmas = lemmas }) spot old new
at_tree cert t numbers s s' (m ∷ ms) xs spot old new l ls b h e tells f before state same =
    let first : line_text m ≡ l = cc in absurd (not-tree m l b (inner-kind m h.inner.0) tells first f)
at_tree cert t numbers s s' [] (x ∷ xs) spot old new l ls b h e tells f before state same =
    let first : line_text (lemma s.begun) ≡ l = cc in absurd (not-tree (lemma s.begun) l b refl tells first f)
at_tree cert t numbers s s' [] [] spot old new l ls b h e tells f before state same =
    let rest : ls ≡ texts_of (tree_part t) = cc in
    let Q : List (List ℕ) → Type 0 = λ ks. IsBefore cert ks spot in
    goes_behind cert t numbers s s' spot old new state same (subst Q rest before)

-- any other is one of a lemma
pub at_line : (cert : List ℕ) (t : Tree) (numbers : List ℕ) (s s' : Lemmas) (middle : List CertLine) (lemmas : List Lemma) (spot : Spot) (old new l : List ℕ) (ls : List (List ℕ)) (b : Bool) →
    IsRest s.begun (record { middle = middle; lemmas = lemmas }) → s.begun + length lemmas ≡ length numbers →
    texts_of (lines_ahead s.begun (record { middle = middle; lemmas = lemmas }) t) ≡ l ∷ ls → TellsBehind l b → b ≡ false → IsBefore cert ls spot →
    ((i : ℕ) → l ≡ line_text (lemma i) → s.begun < length numbers → IsNextBegun numbers s s' old new) →
    ((k : CertLine) → l ≡ line_text k → IsInner k → IsSpelled k → IsTaken numbers k s s' old new) →
    GoesOn cert t numbers s s' (record { middle = middle; lemmas = lemmas }) spot old new
at_line cert t numbers s s' (m ∷ ms) xs spot old new l ls b h long e tells f before first inner =
    let is : l ≡ line_text m = cc in
    let rest : ls ≡ texts_of (lines_ahead s.begun (record { middle = ms; lemmas = xs }) t) = cc in
    let Q : List (List ℕ) → Type 0 = λ ks. IsBefore cert ks spot in
    goes_inner cert t numbers s s' m ms xs spot old new h (inner m is h.inner.0 h.spelled.0) (subst Q rest before)
at_line cert t numbers s s' [] (x ∷ xs) spot old new l ls b h long e tells f before first inner =
    let is : l ≡ line_text (lemma s.begun) = cc in
    let rest : ls ≡ texts_of ((lines_behind x ++ lemmas_lines (suc s.begun) xs) ++ (tree_word ∷ tree_part t)) = cc in
    let Q : List (List ℕ) → Type 0 = λ ks. IsBefore cert ks spot in
    let n = first s.begun is (omega (arith, long)) in
    goes_first cert t numbers s s' x xs spot old new n.0 h n.1 n.2 (subst Q rest before)
at_line cert t numbers s s' [] [] spot old new l ls b h long e tells f before first inner =
    let is : l ≡ line_text tree_word = cc in absurd (true≢false (sym (tells tree_word is) ∙ f))
