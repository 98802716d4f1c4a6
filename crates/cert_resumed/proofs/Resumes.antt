-- A cover that goes on from one that was read is accepted, with what its trees leave.
use Rattle.std.proofs.Common.{◌≡◌, ℕ, suc, ◌+◌, List, [], ◌∷◌, ◌++◌, map, Bool, true, false, ◌||◌, nat_eq, Option, Some, IsTrue, All, refl, ap, ap₂, sym, ◌∙◌, subst, length, length-append, append-nil, sum_by, arith}
use Rattle.std.proofs.lemmas.List.Elements.{All-nil, All-cons, All-head, All-tail, All-map}
use Rattle.dyadic.proofs.Equal.{both_true, both_pass}
use Rattle.poly_graph.specs.Problem.{Problem}
use Rattle.cover_model.specs.State.{State, Loosenings, in_version, root_state}
use Rattle.cover_model.specs.Rules.{Line, Left, rule}
use Rattle.cover_model.specs.Honest.{is_honest}
use Rattle.cover_model.specs.Derivation.{Tree, tree_lines}
use Rattle.cover_model.proofs.Later.{rule_later}
use Rattle.cert_read.specs.CertLine.{CertLine, tree_word, end_word}
use Rattle.cert_model.specs.Due.{Standing, left_open, version_due, next_due, is_version}
use Rattle.cert_model.specs.Accepted.{IsAccepted, accepted, loosenings_fit, is_header, ended}
use Rattle.cert_model.specs.Least.{is_lines_version}
use Rattle.cert_model.specs.Standing.{Stands, standing, IsHonest, branches_of, branches}
use Rattle.cert_model.specs.Written.{rule_lines, left_standing, tree_standing, IsHonestTree, tree_branches, LemmaTree, lemma_states, lemmas_lines}
use Rattle.cert_model.specs.SessionLaws.{written_tree}
use Rattle.cert_model.proofs.Spells.{text_has_lines, text_stands}
use Rattle.cert_model.proofs.Takes.{branches_stand}
use Rattle.cert_model.proofs.Writes.{Finishes, cover_finishes}
use Rattle.cert_resumed.specs.Resumed.{grafted, CoverRead, all_lemmas, resumed_lines, resumed_text, AreGrafts, each_left, joined}
use Rattle.cert_resumed.specs.Laws.{GoesOn, AreHonestGrafts}
use Rattle.cert_resumed.proofs.Grows.{rule_with_more}
use Rattle.cert_resumed.proofs.Grafts.{Grafted, grow}
use Rattle.cert_resumed.proofs.Sections.{Leads, through}
use Rattle.cert_resumed.proofs.Known.{stood, Known, known, header_leads}

count-states : (xs : List LemmaTree) → length (lemma_states xs) ≡ length xs
count-states [] = refl
count-states (x ∷ xs) = ap suc (count-states xs)

-- what holds of all images holds of all
of-map : (P : Standing → Type 0) (Q : Stands → Type 0) (f : Standing → Stands) → ((x : Standing) → Q (f x) → P x) → (ks : List Standing) → All Q (map f ks) → All P ks
of-map P Q f h [] k = All-nil P
of-map P Q f h (x ∷ ks) k = All-cons P x ks (h x (All-head Q (f x) (map f ks) k)) (of-map P Q f h ks (All-tail Q (f x) (map f ks) k))

is-read : (v : ℕ) → IsTrue (is_lines_version v) → IsTrue (is_version v)
is-read v h = by (nat_eq v 1)
  where
    by : (t : Bool) → IsTrue (t || nat_eq v 2 || nat_eq v 5)
    by true = refl
    by false = h

module _ (p : Problem) (b : Option ℕ) (bytes : List ℕ) (v : ℕ) (c : CoverRead) (xs : List LemmaTree) (ts : List Tree) (g : GoesOn p b bytes v c xs ts) where
  abbrev second : Loosenings
  second = in_version v c.loosenings

  abbrev all : List State
  all = all_lemmas c xs

  was : Known p b bytes c
  was = known p b bytes c g.read

  keeps : (S : State) (l : Line) (x : Left) → rule p c.loosenings c.lemmas S l ≡ Some x → rule p second all S l ≡ Some x
  keeps S l x e = rule_later p c.loosenings v g.behind.1 all S l x (rule_with_more p c.loosenings c.lemmas (lemma_states xs) S l x e)

  -- the main tree, each of whose leaving lines is replaced by its tree
  new-tree : Grafted p c.loosenings v g.behind.1 c.lemmas all keeps (root_state p) was.main.tree c.left ts
  new-tree =
      subst (λ (ks : List Standing). AreGrafts p second all ks ts → Grafted p c.loosenings v g.behind.1 c.lemmas all keeps (root_state p) was.main.tree ks ts) was.main.stands
      (grow p c.loosenings v g.behind.1 c.lemmas all keeps was.main.lawful was.main.names ts) g.grafts

  new-lines : tree_lines new-tree.tree ≡ grafted c.main ts
  new-lines =
      sym (append-nil (tree_lines new-tree.tree)) ∙ sym (new-tree.lines [] [])
      ∙ ap₂ (λ (ls : List Line) (us : List Tree). grafted ls us) (append-nil (tree_lines was.main.tree) ∙ was.main.lines) (append-nil ts)

  abbrev main-lines : List CertLine
  main-lines = tree_word ∷ (rule_lines (grafted c.main ts) ++ (end_word ∷ []))

  abbrev lines : List CertLine
  lines = lemmas_lines (length c.lemmas) xs ++ main-lines

  count : length all ≡ length c.lemmas + length xs
  count = length-append c.lemmas (lemma_states xs) ∙ ap (λ (n : ℕ). length c.lemmas + n) (count-states xs)

  -- from the new lemmas on
  new-part : Finishes p b second (next_due second (length all) c.lemmas) lines all (left_open (left_standing p second all (root_state p) new-tree.tree)) (tree_standing p second all (root_state p) new-tree.tree)
  new-part =
      subst (λ (k : ℕ). Finishes p b second (next_due second k c.lemmas) lines all (left_open (left_standing p second all (root_state p) new-tree.tree)) (tree_standing p second all (root_state p) new-tree.tree)) (sym count)
      (subst (λ (ls : List Line). Finishes p b second (next_due second (length c.lemmas + length xs) c.lemmas) (lemmas_lines (length c.lemmas) xs ++ (tree_word ∷ (rule_lines ls ++ (end_word ∷ []))))
      all (left_open (left_standing p second all (root_state p) new-tree.tree)) (tree_standing p second all (root_state p) new-tree.tree)) new-lines
      (cover_finishes p b second c.lemmas xs (written_tree new-tree.tree) g.lemmas (was.main.not_crossed, (new-tree.rest, new-tree.lawful), new-tree.names)))

  header : IsTrue (is_header second)
  header = let e = both_true (is_version c.loosenings.version) (loosenings_fit c.loosenings.margin_bits c.loosenings.delta_bits) was.loosenings in both_pass (is_version v) (loosenings_fit c.loosenings.margin_bits c.loosenings.delta_bits) (is-read v g.behind.0) e.1

  up-to-new : Leads p b version_due (resumed_lines v b c xs ts) (next_due second (length all) c.lemmas) lines
  up-to-new = through p b (header_leads p b second (length all) (c.lemma_lines ++ lines) header g.few) (was.again v g.behind.1 (length all) (omega (arith, count)) lines)

  -- the lines of the main tree stand where the new tree has them
  stands : standing p b (resumed_text v b c xs ts) ≡ map (stood second) (tree_standing p second all (root_state p) new-tree.tree)
  stands = text_stands p b (resumed_lines v b c xs ts) g.written.0 ∙ up-to-new.quiet ∙ new-part.stand

  pub resumed_accepted : IsAccepted p b (resumed_text v b c xs ts) (in_version v c.loosenings) (left_open (joined (each_left p (in_version v c.loosenings) (all_lemmas c xs) c.left ts)))
  resumed_accepted =
      let f = up-to-new.to 0 in
      text_has_lines p b (resumed_lines v b c xs ts) g.written.0 g.written.1 ∙ ap ended (f.1 ∙ (new-part.to f.0).1)
      ∙ ap (λ (ks : List Standing). accepted second (left_open ks)) new-tree.stands

  pub resumed_branches : branches p b (resumed_text v b c xs ts) ≡ branches p b bytes + sum_by tree_branches ts
  resumed_branches =
      ap branches_of stands ∙ branches_stand p b second all new-tree.lawful ∙ new-tree.count
      ∙ ap (λ (n : ℕ). n + sum_by tree_branches ts) (sym (ap branches_of was.stands ∙ branches_stand p b c.loosenings c.lemmas was.main.lawful))

  pub resumed_honest : (w : ℕ) → IsHonest p b w bytes → AreHonestGrafts p w (in_version v c.loosenings) (all_lemmas c xs) c.left ts → IsHonest p b w (resumed_text v b c xs ts)
  resumed_honest w h k =
      let Fine : Stands → Type 0 = λ (x : Stands). IsTrue (is_honest p w x.loosenings x.line.state x.line.does) in
      let old : IsHonestTree p w c.loosenings c.lemmas (root_state p) was.main.tree = of-map (λ (x : Standing). IsTrue (is_honest p w c.loosenings x.state x.does)) Fine (stood c.loosenings) (λ x i. i)
      (tree_standing p c.loosenings c.lemmas (root_state p) was.main.tree) (subst (λ (zs : List Stands). All Fine zs) was.stands h) in
      subst (λ (zs : List Stands). All Fine zs) (sym stands) (All-map Fine (stood second) (tree_standing p second all (root_state p) new-tree.tree) (new-tree.honest w old k))
