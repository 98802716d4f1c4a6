-- How one stage of the joining follows another.
use Rattle.std.proofs.Common.{◌≡◌, ◌<◌, ◌≤◌, ◌+◌, ◌^◌, ℕ, zero, suc, List, [], ◌∷◌, ◌++◌, Bool, true, false, ◌||◌, cond, nat_eq, length, length-append, map, get_or, drop, inl, inr, refl, ap, ap₂, sym, ◌∙◌, subst, append_assoc, append-nil, arith}
use Rattle.std.specs.Prelude.{decimal}
use Rattle.std.specs.List.{AllByRecursion}
use Rattle.std.proofs.lemmas.Bool.Decides.{eqb_tells}
use Rattle.std.proofs.lemmas.Fmt.{length-decimal-le}
use Rattle.std.proofs.lemmas.List.{length-map}
use Rattle.std.proofs.lemmas.Option.{slice_get_within}
use Rattle.cover_model.specs.Rules.{Line, ban, narrow_by, end_by, void_by, by_squares, false_form, by_lemma, mark_by, unit_atom, ban_atom, branch_by, stay_by}
use Rattle.cover_model.specs.Derivation.{Tree, tree_lines}
use Rattle.cert_read.specs.CertLine.{CertLine, cover, tree_word, end_word, rule_line}
use Rattle.cert_read.specs.LineText.{IsSpelled, line_text, text_of_lines}
use Rattle.cert_model.specs.Written.{rule_lines}
use Rattle.cert_joined.specs.Joined.{Joins}
use Rattle.cert_joined.specs.Covers.{Cover, Lemma, IsTextOf, AreTextsOf, IsShaped, joined_version, lemmas_lines, line_by, numbered, number_at, tree_by, trees_by, versions}
use Rattle.cert_join.specs.Ahead.{AreBefore}
use Rattle.cert_join.specs.Spot.{Spot, IsBefore}
use Rattle.cert_join.specs.Gathered.{AllThere, AreDistinct, Meeting, is_in, lists_of, numbers_at, parts_of, spot_at}
use Rattle.cert_join.specs.Due.{AreSpelled, Course, IsDue, IsNextDue, lines_at, rule_texts, stacked, tree_text, trees_at}
use Rattle.cert_join.specs.Heads.{head_lines, head_text}
use Rattle.cert_join.specs.Joining.{AreAtLemmas, AreAtNumbers, AreAtTrees, AreLemmasWritten, AreSettled, IsFirstOf, IsJoinText, first_numbers, lines_before_tree}
use Rattle.cert_join.specs.Kinds.{rule_text}
use Rattle.cert_join.specs.Numbered.{AllHaveNumbers, AreNumbered, HaveNumbers, IsNumbered, state_text}
use Rattle.cert_join.specs.Written.{behind_lemmas, behind_tree, text_of, texts_of, written_from}
use Rattle.cert_join.proofs.LemmaLines.{all_append, map_both, text_append}
use Rattle.cert_join.specs.LemmasDue.{all_left}
use Rattle.cert_join.specs.declared.heads.Heads.{Heads as HeadsRead}
use Rattle.cert_join.specs.declared.numbering.Numbering.{Numbering}
use Rattle.cert_join.specs.declared.trees.Task.{Task}
use Rattle.cert_join.specs.declared.trees.Trees.{Trees as TreesRead}
use Rattle.cert_join.proofs.AllNumbers.{all_counted}
use Rattle.cert_join.proofs.LemmasAll.{as_many, begun_at}
use Rattle.cert_join.proofs.LemmasStart.{lemmas_start, lemmas_written, start_covers}
use Rattle.cert_join.proofs.Numbers.{at_place}
use Rattle.cert_join.proofs.Passing.{in_more}

-- ---- texts

-- what is written first, behind text that was empty
pub begun_with : (done old new more : List ℕ) → done ++ old ≡ [] → new ≡ old ++ more → done ++ new ≡ more
begun_with done old new more e f = ap (λ (t : List ℕ). done ++ t) f ∙ sym (append_assoc done old more) ∙ ap (λ (t : List ℕ). t ++ more) e

-- the text before the main tree, by its parts
pub front_text : (covers : List Cover) (first : Cover) (xs : List Lemma) (head : List ℕ) (n : ℕ) → head ≡ text_of (head_lines covers first) → n ≡ length xs →
    text_of (lines_before_tree covers first xs) ≡ (head ++ text_of (cover n ∷ [])) ++ text_of (lemmas_lines 0 xs)
front_text covers first xs head n e f =
    text_append (head_lines covers first ++ (cover (length xs) ∷ [])) (lemmas_lines 0 xs)
    ∙ ap (λ (t : List ℕ). t ++ text_of (lemmas_lines 0 xs)) (text_append (head_lines covers first) (cover (length xs) ∷ []) ∙ ap₂ (λ (t : List ℕ) (m : ℕ). t ++ text_of (cover m ∷ [])) (sym e) (sym f))

rules-text : (ls : List Line) → texts_of (rule_lines ls) ≡ rule_texts ls
rules-text [] = refl
rules-text (l ∷ ls) = ap (λ (ts : List (List ℕ)). rule_text l ∷ ts) (rules-text ls)

-- the whole text, by what stands before the main tree
pub whole_text : (before : List CertLine) (u : Tree) → text_of (before ++ (tree_word ∷ (rule_lines (tree_lines u) ++ (end_word ∷ [])))) ≡
    ((text_of before ++ text_of (tree_word ∷ [])) ++ tree_text u) ++ text_of (end_word ∷ [])
whole_text before u =
    let rules = rule_lines (tree_lines u) in
    let word = text_of (tree_word ∷ []) in
    let last = text_of (end_word ∷ []) in
    let P : List ℕ → List ℕ = λ t. text_of before ++ (word ++ t) in
    text_append before (tree_word ∷ (rules ++ (end_word ∷ [])))
    ∙ ap (λ (t : List ℕ). text_of before ++ t) (text_append (tree_word ∷ []) (rules ++ (end_word ∷ [])))
    ∙ ap P (text_append rules (end_word ∷ []) ∙ ap (λ (ts : List (List ℕ)). text_of_lines ts ++ last) (rules-text (tree_lines u)))
    ∙ sym (append_assoc (text_of before) word (tree_text u ++ last))
    ∙ sym (append_assoc (text_of before ++ word) (tree_text u) last)

-- behind the last line it is that of a cover that joins them
pub joined_text : (first : Cover) (covers : List Cover) (numbers : List (List ℕ)) (u : Tree) (done old new : List ℕ) → AreSettled first covers numbers → Joins (trees_by numbers covers) u →
    done ++ old ≡ (text_of (lines_before_tree covers first (written_from 0 numbers covers)) ++ text_of (tree_word ∷ [])) ++ tree_text u →
    new ≡ old ++ text_of (end_word ∷ []) → IsJoinText covers (done ++ new)
joined_text first covers numbers u done old new s j e f =
    let xs = written_from 0 numbers covers in (
      record { version = joined_version (versions covers); margin_bits = first.margin_bits; delta_bits = first.delta_bits; bound = first.bound; lemmas = xs; tree = u },
      record { version = refl; margin = s.alike.margin; delta = s.alike.delta; bound = s.alike.bound; numbers = numbers; lemmas = s.lemmas; tree = j },
      ap (λ (t : List ℕ). done ++ t) f ∙ sym (append_assoc done old (text_of (end_word ∷ []))) ∙ ap (λ (t : List ℕ). t ++ text_of (end_word ∷ [])) e
          ∙ sym (whole_text (lines_before_tree covers first xs) u),
    )

-- ---- the numbers of lemmas

numbered-few : (ts : List (List ℕ)) (text : List ℕ) (n : ℕ) (after : List (List ℕ)) → IsNumbered ts text n after → (n ≤ length after) × (length ts ≤ length after)
numbered-few ts text n after (inl h) =
    let e = ap (λ (l : List (List ℕ)). length l) h.1 in
    (omega (arith, e, slice_get_within ts n text (at_place text ts n h.0)), omega (arith, e))
numbered-few ts text n after (inr h) =
    let e = ap (λ (l : List (List ℕ)). length l) h.2 in
    let f = length-append ts (text ∷ []) in
    (omega (arith, e, f, h.1), omega (arith, e, f))

none-few : (k most : ℕ) → numbered [] k ≤ most
none-few zero most = omega arith
none-few (suc k) most = omega arith

first-few : (n : ℕ) (ns : List ℕ) (most k : ℕ) → n ≤ most → ((i : ℕ) → numbered ns i ≤ most) → numbered (n ∷ ns) k ≤ most
first-few n ns most zero l f = l
first-few n ns most (suc k) l f = f k

one-few : (ts : List (List ℕ)) (ns : List ℕ) (xs : List Lemma) (after : List (List ℕ)) → HaveNumbers ts ns xs after →
    (length ts ≤ length after) × ((k : ℕ) → numbered ns k ≤ length after)
one-few ts [] [] after h = let e = ap (λ (l : List (List ℕ)). length l) h in (omega (arith, e), λ k. none-few k (length after))
one-few ts [] (x ∷ xs) after h = absurd h
one-few ts (n ∷ ns) [] after h = absurd h
one-few ts (n ∷ ns) (x ∷ xs) after h =
    let r = one-few h.0 ns xs after h.2 in
    let q = numbered-few ts (state_text x) n h.0 h.1 in
    (omega (arith, r.0, q.1), λ k. first-few n ns (length after) k (omega (arith, r.0, q.0)) r.1)

no-list-few : (i k most : ℕ) → number_at [] i k ≤ most
no-list-few zero k most = none-few k most
no-list-few (suc i) k most = none-few k most

first-list-few : (ns : List ℕ) (numbers : List (List ℕ)) (most i k : ℕ) → ((m : ℕ) → numbered ns m ≤ most) → ((j m : ℕ) → number_at numbers j m ≤ most) → number_at (ns ∷ numbers) i k ≤ most
first-list-few ns numbers most zero k l f = l k
first-list-few ns numbers most (suc i) k l f = f i k

-- none is greater than the number of states
pub all_few : (ts numbers : List (List ℕ)) (covers : List Cover) (after : List (List ℕ)) → AllHaveNumbers ts numbers covers after →
    (length ts ≤ length after) × ((i k : ℕ) → number_at numbers i k ≤ length after)
all_few ts [] [] after h = let e = ap (λ (l : List (List ℕ)). length l) h in (omega (arith, e), λ i k. no-list-few i k (length after))
all_few ts [] (c ∷ covers) after h = absurd h
all_few ts (ns ∷ numbers) [] after h = absurd h
all_few ts (ns ∷ numbers) (c ∷ covers) after h =
    let r = all_few h.0 numbers covers after h.2 in
    let q = one-few ts ns c.lemmas h.0 h.1 in
    (omega (arith, r.0, q.0), λ i k. first-list-few ns numbers (length after) i k (λ m. omega (arith, q.1 m, r.0)) r.1)

pub all_many : (ts numbers : List (List ℕ)) (covers : List Cover) (after : List (List ℕ)) → AllHaveNumbers ts numbers covers after → length numbers ≡ length covers
all_many ts [] [] after h = refl
all_many ts [] (c ∷ covers) after h = absurd h
all_many ts (ns ∷ numbers) [] after h = absurd h
all_many ts (ns ∷ numbers) (c ∷ covers) after h = ap suc (all_many h.0 numbers covers after h.2)

-- ---- lines with other numbers

decimal-short : (n : ℕ) → n < 2 ^ 32 → length (decimal n) ≤ 10
decimal-short n h = length-decimal-le 10 n (omega arith) (omega (arith, h)) (omega (arith, h))

ban-length : (j n : ℕ) → length (rule_text (ban j n)) ≡ 4 + (length (decimal j) + (1 + length (decimal n)))
ban-length j n = let e = length-append (decimal j) (32 ∷ decimal n) in omega (arith, e)

-- a line can be spelled where its lemma has another number
pub spelled_by : (f : ℕ → ℕ) → ((k : ℕ) → f k < 2 ^ 32) → (l : Line) → IsSpelled (rule_line l) → IsSpelled (rule_line (line_by f l))
spelled_by f few (narrow_by n) h = h
spelled_by f few (end_by (void_by n)) h = h
spelled_by f few (end_by (by_squares ms bs)) h = h
spelled_by f few (end_by false_form) h = h
spelled_by f few (end_by (by_lemma i)) h = (few i, omega (arith, decimal-short (f i) (few i)))
spelled_by f few (mark_by (unit_atom j)) h = h
spelled_by f few (mark_by (ban_atom j i)) h =
    ((h.0.0, few i), omega (arith, ban-length j (f i), decimal-short j h.0.0, decimal-short (f i) (few i)))
spelled_by f few (branch_by b) h = h
spelled_by f few (stay_by t) h = h

-- ---- the first place

-- the main trees, each with the number of its certificate, from this number on
abbrev pub main_trees : ℕ → List Cover → Meeting
main_trees n [] = []
main_trees n (c ∷ covers) = (n, c.tree) ∷ main_trees (suc n) covers

numbers-main : (n : ℕ) (covers : List Cover) → first_numbers n ++ parts_of (main_trees n covers) ≡ first_numbers (n + length covers)
numbers-main n [] = let e : n ≡ n + 0 = omega arith in append-nil (first_numbers n) ∙ ap first_numbers e
numbers-main n (c ∷ covers) =
    let e : suc n + length covers ≡ n + suc (length covers) = omega arith in
    sym (append_assoc (first_numbers n) (n ∷ []) (parts_of (main_trees (suc n) covers))) ∙ numbers-main (suc n) covers ∙ ap first_numbers e

test-same : (m n : ℕ) → m ≡ n → nat_eq m n ≡ true
test-same m n e = elim (eqb_tells m n) [ inl h ↦ h.0 | inr h ↦ absurd (h.1 e) ]

test-other : (m n : ℕ) → m < n → nat_eq m n ≡ false
test-other m n l = elim (eqb_tells m n) [ inl h ↦ absurd (omega (arith, h.1, l)) | inr h ↦ h.0 ]

test-more : (m n : ℕ) → n < m → nat_eq m n ≡ false
test-more m n l = elim (eqb_tells m n) [ inl h ↦ absurd (omega (arith, h.1, l)) | inr h ↦ h.0 ]

not-in : (m n : ℕ) (covers : List Cover) → m < n → is_in m (parts_of (main_trees n covers)) ≡ false
not-in m n [] l = refl
not-in m n (c ∷ covers) l = ap (λ (b : Bool). b || is_in m (parts_of (main_trees (suc n) covers))) (test-other m n l) ∙ not-in m (suc n) covers (omega (arith, l))

distinct-main : (n : ℕ) (covers : List Cover) → AreDistinct (parts_of (main_trees n covers))
distinct-main n [] = tt
distinct-main n (c ∷ covers) = (not-in n (suc n) covers (omega arith), distinct-main (suc n) covers)

pub shaped_main : (n : ℕ) (covers : List Cover) (certs : List (List ℕ)) → AreTextsOf covers certs → AllByRecursion (λ (x : ℕ × Tree). IsShaped x.1) (main_trees n covers)
shaped_main n [] [] h = tt
shaped_main n (c ∷ covers) (bytes ∷ certs) h = (h.0.shaped, shaped_main (suc n) covers certs h.1)
shaped_main n [] (bytes ∷ certs) h = absurd h
shaped_main n (c ∷ covers) [] h = absurd h

rules-spelled : (ls : List Line) → AllByRecursion IsSpelled (rule_lines ls) → AreSpelled ls
rules-spelled [] h = tt
rules-spelled (l ∷ ls) h = (h.0, rules-spelled ls h.1)

tree-spelled : (c : Cover) (bytes : List ℕ) → IsTextOf c bytes → AreSpelled (tree_lines c.tree)
tree-spelled c bytes h =
    let rules = rule_lines (tree_lines c.tree) in
    let tail = (all_append IsSpelled (lemmas_lines 0 c.lemmas) (tree_word ∷ (rules ++ (end_word ∷ []))) h.spelled.1.1.1.1.1).1 in
    rules-spelled (tree_lines c.tree) (all_append IsSpelled rules (end_word ∷ []) tail.1).0

pub spelled_main : (n : ℕ) (covers : List Cover) (certs : List (List ℕ)) → AreTextsOf covers certs → AllByRecursion (λ (x : ℕ × Tree). AreSpelled (tree_lines x.1)) (main_trees n covers)
spelled_main n [] [] h = tt
spelled_main n (c ∷ covers) (bytes ∷ certs) h = (tree-spelled c bytes h.0, spelled_main (suc n) covers certs h.1)
spelled_main n [] (bytes ∷ certs) h = absurd h
spelled_main n (c ∷ covers) [] h = absurd h

behind-both : (c : Cover) → behind_lemmas c ≡ rule_texts (tree_lines c.tree) ++ behind_tree
behind-both c = map_both line_text (rule_lines (tree_lines c.tree)) (end_word ∷ []) ∙ ap (λ (ts : List (List ℕ)). ts ++ behind_tree) (rules-text (tree_lines c.tree))

stand-main : (n : ℕ) (covers : List Cover) (certs : List (List ℕ)) (spots : List Spot) → AreBefore certs (map behind_lemmas covers) spots → (i : ℕ) → i < length spots →
    IsBefore (get_or certs i []) (lines_at (n + i) (main_trees n covers) ++ behind_tree) (spot_at spots i)
stand-main n [] [] [] h i l = absurd (omega (arith, l))
stand-main n (c ∷ covers) (cert ∷ certs) (s ∷ spots) h zero l =
    let e : behind_lemmas c ≡ lines_at (n + 0) (main_trees n (c ∷ covers)) ++ behind_tree =
    behind-both c ∙ ap (λ (b : Bool). cond b (rule_texts (tree_lines c.tree)) (lines_at (n + 0) (main_trees (suc n) covers)) ++ behind_tree) (sym (test-same (n + 0) n (omega arith))) in
    subst (λ (ls : List (List ℕ)). IsBefore cert ls s) e h.0
stand-main n (c ∷ covers) (cert ∷ certs) (s ∷ spots) h (suc i) l =
    let place = main_trees (suc n) covers in
    let m : suc n + i ≡ n + suc i = omega arith in
    let e : lines_at (suc n + i) place ++ behind_tree ≡ lines_at (n + suc i) (main_trees n (c ∷ covers)) ++ behind_tree =
    ap (λ (j : ℕ). lines_at j place ++ behind_tree) m
    ∙ ap (λ (b : Bool). cond b (rule_texts (tree_lines c.tree)) (lines_at (n + suc i) place) ++ behind_tree) (sym (test-more (n + suc i) n (omega arith))) in
    subst (λ (ls : List (List ℕ)). IsBefore (get_or certs i []) ls (spot_at spots i)) e (stand-main (suc n) covers certs spots h.1 i (omega (arith, l)))
stand-main n [] [] (s ∷ spots) h i l = absurd h
stand-main n [] (cert ∷ certs) spots h i l = absurd h
stand-main n (c ∷ covers) [] spots h i l = absurd h
stand-main n (c ∷ covers) (cert ∷ certs) [] h i l = absurd h

get-drop : {X : Type 0} (xs ys : List X) (i : ℕ) (x d : X) → drop i xs ≡ x ∷ ys → (get_or xs i d ≡ x) × (drop (suc i) xs ≡ ys)
get-drop [] ys zero x d e = absurd (let none : [] ≡ x ∷ ys = e in cc)
get-drop [] ys (suc i) x d e = absurd (let none : [] ≡ x ∷ ys = e in cc)
get-drop (z ∷ xs) ys zero x d e = let same : z ≡ x = cc in let rest : xs ≡ ys = cc in (same, rest)
get-drop (z ∷ xs) ys (suc i) x d e = get-drop xs ys i x d e

pub trees_main : (all : List (List ℕ)) (n : ℕ) (numbers : List (List ℕ)) (covers : List Cover) → drop n all ≡ numbers → length numbers ≡ length covers →
    trees_at all (main_trees n covers) ≡ trees_by numbers covers
trees_main all n [] [] e many = refl
trees_main all n [] (c ∷ covers) e many = absurd (omega (arith, many))
trees_main all n (ns ∷ numbers) [] e many = absurd (omega (arith, many))
trees_main all n (ns ∷ numbers) (c ∷ covers) e many =
    let r = get-drop all numbers n ns [] e in
    ap₂ (λ (ms : List ℕ) (ts : List Tree). tree_by (numbered ms) c.tree ∷ ts) r.0 (trees_main all (suc n) numbers covers r.1 (omega (arith, many)))

right-none : (b c : Bool) → c ≡ false → (b || c) ≡ b
right-none true c e = refl
right-none false c e = e

pub some_main : (covers : List Cover) → 0 < length covers → 0 < length (main_trees 0 covers)
some_main [] l = absurd (omega (arith, l))
some_main (c ∷ covers) l = omega arith

first-there : (n : ℕ) (spots : List Spot) → n ≤ length spots → AllThere (first_numbers n) spots
first-there zero spots l i q = absurd (let e : false ≡ true = q in cc)
first-there (suc n) spots l i q = elim (eqb_tells i n) [
  | inl h ↦ omega (arith, h.1, l)
  | inr h ↦ first-there n spots (omega (arith, l)) i (sym (right-none (is_in i (first_numbers n)) (nat_eq i n) h.0) ∙ sym (in_more i n (first_numbers n)) ∙ q)
]

-- the main trees of all are due, and the place is the first one
pub first_due : (k : Course) (covers : List Cover) (certs : List (List ℕ)) (text : List ℕ) (spots : List Spot) → AreTextsOf covers certs → AreBefore certs (map behind_lemmas covers) spots →
    0 < length covers → ((i : ℕ) → k.cert i ≡ get_or certs i []) → ((i : ℕ) → k.rest i ≡ behind_tree) → k.trees ≡ trees_at k.numbers (main_trees 0 covers) → k.done ++ text ≡ k.front →
    IsDue k (first_numbers (length covers) ∷ []) text spots
first_due k covers certs text spots texts before some cert rest trees front =
    let place = main_trees 0 covers in record {
      due = place ∷ [];
      places = let z : 0 + length covers ≡ length covers = omega arith in ap (λ (ns : List ℕ). ns ∷ []) (numbers-main 0 covers ∙ ap first_numbers z);
      there = (first-there (length covers) spots (omega (arith, as_many certs (map behind_lemmas covers) spots before, length-map covers behind_lemmas)), tt);
      good = (record { some = some_main covers some; distinct = distinct-main 0 covers; shaped = shaped_main 0 covers certs texts; spelled = spelled_main 0 covers certs texts }, tt);
      stand = λ i l.
          let z : 0 + i ≡ i = omega arith in
          let e : lines_at (0 + i) place ++ behind_tree ≡ (lines_at i place ++ []) ++ k.rest i = ap (λ (j : ℕ). lines_at j place ++ behind_tree) z ∙ ap₂ (λ (xs ys : List (List ℕ)). xs ++ ys) (sym (append-nil (lines_at i place))) (sym (rest i)) in
          subst (λ (bytes : List ℕ). IsBefore bytes ((lines_at i place ++ []) ++ k.rest i) (spot_at spots i)) (sym (cert i))
          (subst (λ (ls : List (List ℕ)). IsBefore (get_or certs i []) ls (spot_at spots i)) e (stand-main 0 covers certs spots before i l));
      whole = λ out y.
          let t = tree_text y.0 in
          let same : out ≡ t = y.4 ∙ ap (λ (more : List ℕ). t ++ more) y.3 ∙ append-nil t in (
            y.0,
            subst (λ (ts : List Tree). Joins ts y.0) (sym trees) y.2,
            ap (λ (more : List ℕ). k.done ++ (text ++ more)) same ∙ sym (append_assoc k.done text t) ∙ ap (λ (xs : List ℕ). xs ++ t) front,
          );
    }

-- what is joined where the main trees begin
abbrev course_of : (certs : List (List ℕ)) (first : Cover) (covers : List Cover) (done : List ℕ) (numbers : List (List ℕ)) → AreSettled first covers numbers → Course
course_of certs first covers done numbers s = record {
  cert = λ i. get_or certs i [];
  rest = λ i. behind_tree;
  numbers = numbers;
  trees = trees_by numbers covers;
  done = done;
  front = text_of (lines_before_tree covers first (written_from 0 numbers covers)) ++ text_of (tree_word ∷ []);
  spelled = λ i l h. spelled_by (numbered (numbers_at numbers i)) (s.few i) l h;
}

pub trees_start : (certs : List (List ℕ)) (first : Cover) (others : List Cover) (done old text : List ℕ) (numbers : List (List ℕ)) (t : TreesRead) (count : ℕ) (spots : List Spot) →
    AreTextsOf (first ∷ others) certs → AreLemmasWritten certs first (first ∷ others) (done ++ old) numbers spots → text ≡ old ++ text_of (tree_word ∷ []) →
    count ≡ length spots → IsFirstOf count t → AreAtTrees certs first (first ∷ others) done text numbers t spots
trees_start certs first others done old text numbers t count spots texts h e many new =
    let covers : List Cover = first ∷ others in
    let k = course_of certs first covers done numbers h.settled in
    let size : count ≡ length covers = many ∙ as_many certs (map behind_lemmas covers) spots h.before ∙ length-map covers behind_lemmas in
    let trees : k.trees ≡ trees_at numbers (main_trees 0 covers) = sym (trees_main numbers 0 numbers covers refl h.settled.many) in
    let front : done ++ text ≡ k.front =
    ap (λ (xs : List ℕ). done ++ xs) e ∙ sym (append_assoc done old (text_of (tree_word ∷ []))) ∙ ap (λ (xs : List ℕ). xs ++ text_of (tree_word ∷ [])) (sym h.whole) in
    let due : IsDue k (first_numbers (length covers) ∷ []) text spots = first_due k covers certs text spots texts h.before (omega arith) (λ i. refl) (λ i. refl) trees front in
    let P : Task → Type 0 = λ z. IsNextDue k z (stacked t.places.items) text spots in
    let Q : List (List ℕ) → Type 0 = λ ps. IsDue k ps text spots in
    let places : first_numbers (length covers) ∷ [] ≡ stacked t.places.items = ap (λ (n : ℕ). first_numbers n ∷ []) (sym size) ∙ sym new.1 in
    record {
      settled = h.settled;
      course = k;
      is = record { cert_is = λ i. refl; numbers_are = refl; trees_are = refl; done_is = refl; front_is = refl };
      due = subst P (sym new.0) (subst Q places due);
    }

-- what was written where the lemmas begin
pub lemmas_begun : (certs : List (List ℕ)) (first : Cover) (covers : List Cover) (done old new : List ℕ) (h : HeadsRead) (n : Numbering) (numbers : List (List ℕ)) (spots : List Spot) →
    AreTextsOf covers certs → done ++ old ≡ [] → new ≡ old ++ (head_text h ++ text_of (cover n.count ∷ [])) → AreAtNumbers certs first covers h → AreNumbered certs covers n spots →
    numbers ≡ lists_of n.numbers.items → n.count < 2 ^ 32 → AreAtLemmas certs first covers (done ++ new) numbers (begun_at 0 0) spots
lemmas_begun certs first covers done old new h n numbers spots texts none more a d same few =
    let N = lists_of n.numbers.items in
    let xs = written_from 0 N covers in
    let many : length N ≡ length covers = all_many [] N covers d.texts d.numbers in
    let states : length d.texts ≡ n.count = sym (all_counted N covers d.texts d.numbers) ∙ sym d.count in
    let below = (all_few [] N covers d.texts d.numbers).1 in
    let P : List (List ℕ) → Type 0 = λ z. AreAtLemmas certs first covers (done ++ new) z (begun_at 0 0) spots in
    subst P (sym same) (record {
      settled = record { alike = a.alike; lemmas = d.lemmas; many = many; few = λ i k. omega (arith, below i k, states, few) };
      left = all_left [] covers;
      same = start_covers covers;
      due = lemmas_start covers certs N spots texts d.ahead many d.long;
      whole = front_text covers first xs (head_text h) n.count a.text d.count
          ∙ ap₂ (λ (s t : List ℕ). s ++ t) (sym (begun_with done old new (head_text h ++ text_of (cover n.count ∷ [])) none more)) (sym (lemmas_written covers N many));
    })
