-- How the lemmas of a certificate are gone through, line by line.
use Rattle.std.proofs.Common.{◌≡◌, ◌≢◌, ◌≤◌, ℕ, suc, List, [], ◌∷◌, ◌++◌, append_assoc, Bool, true, false, true≢false, length, length-append, drop, get_or, refl, ap, sym, ◌∙◌, subst, arith}
use Rattle.std.specs.List.{AllByRecursion}
use Rattle.std.specs.declared.alloc.Global.{Global}
use Rattle.std.specs.declared.vec.Vec.{Vec}
use Rattle.std.proofs.lemmas.List.{append-nil}
use Rattle.cover_model.specs.Rules.{Line}
use Rattle.cover_model.specs.Derivation.{tree_lines}
use Rattle.cert_model.specs.Written.{rule_lines}
use Rattle.cert_read.specs.CertLine.{CertLine, version, margin, delta, bound, lower, goal, over, checks, cover, keep, point_word, tree_word, end_word, lemma, real_interval, real_value, bool_value, yes_list, no_list, rule_line, crossing}
use Rattle.cert_read.specs.LineText.{line_text}
use Rattle.cert_joined.specs.Covers.{Cover, Lemma, IsBoxLine, state_lines, lemmas_lines}
use Rattle.cert_join.specs.declared.numbering.Kind.{Kind}
use Rattle.cert_join.specs.declared.numbering.Kind.TheVariants.{Lemma as LemmaKind, No, Tree as TreeKind, Other}
use Rattle.cert_join.specs.declared.numbering.Known.{Known}
use Rattle.cert_join.specs.declared.numbering.Numbering.{Numbering}
use Rattle.cert_join.specs.Numbered.{is_tree, line_kind, state_text, IsKnown, IsNumbered, HaveNumbers, tail_lines, IsOther, IsBetween, IsInside, IsAt, TakesLine}
use Rattle.cert_join.specs.Written.{text_of}

-- ---- lists

pub all_split : {X : Type 0} (P : X → Type 0) (xs ys : List X) → AllByRecursion P (xs ++ ys) → AllByRecursion P xs × AllByRecursion P ys
all_split P [] ys h = (tt, h)
all_split P (x ∷ xs) ys h = let r = all_split P xs ys h.1 in ((h.0, r.0), r.1)

all_join : {X : Type 0} (P : X → Type 0) (xs ys : List X) → AllByRecursion P xs → AllByRecursion P ys → AllByRecursion P (xs ++ ys)
all_join P [] ys h k = k
all_join P (x ∷ xs) ys h k = (h.0, all_join P xs ys h.1 k)

first_line : (l m : CertLine) (ls ms : List CertLine) → l ∷ ls ≡ m ∷ ms → l ≡ m
first_line l m ls ms e = ap (λ (xs : List CertLine). get_or xs 0 l) e

rest_lines : (l m : CertLine) (ls ms : List CertLine) → l ∷ ls ≡ m ∷ ms → ls ≡ ms
rest_lines l m ls ms e = ap (λ (xs : List CertLine). drop 1 xs) e

pub text_more : (ls : List CertLine) (l : CertLine) → text_of ls ++ (line_text l ++ (10 ∷ [])) ≡ text_of (ls ++ (l ∷ []))
text_more [] l = refl
text_more (m ∷ ls) l = append_assoc (line_text m) (10 ∷ text_of ls) (line_text l ++ (10 ∷ [])) ∙ ap (λ (t : List ℕ). line_text m ++ (10 ∷ t)) (text_more ls l)

-- ---- kinds

box_other : (l : CertLine) → IsBoxLine l → IsOther l
box_other (real_interval l h) b = refl
box_other (bool_value w) b = refl
box_other (version n) b = absurd b
box_other (margin n) b = absurd b
box_other (delta n) b = absurd b
box_other (bound n) b = absurd b
box_other (lower n) b = absurd b
box_other (goal n) b = absurd b
box_other (checks n) b = absurd b
box_other (cover n) b = absurd b
box_other (keep n) b = absurd b
box_other point_word b = absurd b
box_other tree_word b = absurd b
box_other end_word b = absurd b
box_other (lemma n) b = absurd b
box_other (real_value n) b = absurd b
box_other (yes_list n) b = absurd b
box_other (no_list n) b = absurd b
box_other (rule_line n) b = absurd b
box_other over b = absurd b
box_other (crossing n) b = absurd b

boxes_other : (ls : List CertLine) → AllByRecursion IsBoxLine ls → AllByRecursion IsOther ls
boxes_other [] h = tt
boxes_other (l ∷ ls) h = (box_other l h.0, boxes_other ls h.1)

rules_other : (ls : List Line) → AllByRecursion IsOther (rule_lines ls)
rules_other [] = tt
rules_other (l ∷ ls) = (refl, rules_other ls)

not_tree : (k : Kind) → is_tree k ≡ false → k ≡ TreeKind → ⊥
not_tree k h e = true≢false (sym (ap is_tree e) ∙ h)

-- ---- numbers

have_more : (ts mid after : List (List ℕ)) (ns : List ℕ) (xs : List Lemma) (n : ℕ) (x : Lemma) → HaveNumbers ts ns xs mid → IsNumbered mid (state_text x) n after →
    HaveNumbers ts (ns ++ (n ∷ [])) (xs ++ (x ∷ [])) after
have_more ts mid after [] [] n x h s = (after, subst (λ (a : List (List ℕ)). IsNumbered a (state_text x) n after) h s, refl)
have_more ts mid after [] (y ∷ xs) n x h s = absurd h
have_more ts mid after (m ∷ ns) [] n x h s = absurd h
have_more ts mid after (m ∷ ns) (y ∷ xs) n x h s = (h.0, h.1, have_more h.0 mid after ns xs n x h.2 s)

-- ---- a line

pub record HasTaken (before : List (List ℕ)) (c : Cover) (new : Numbering) (rest : List CertLine) : Type 0 where
  pub known : List (List ℕ)
  pub is_known : IsKnown new.known known
  pub at : IsAt new.is_in_state before c new.state.items new.own.items known rest

abbrev pub HasBoxes : Lemma → Type 0
HasBoxes x = AllByRecursion IsBoxLine x.box_lines

same_known : (old new : Numbering) (known : List (List ℕ)) → new.known ≡ old.known → IsKnown old.known known → IsKnown new.known known
same_known old new known e h = subst (λ (k : Known). IsKnown k known) (sym e) h

same_own : (before : List (List ℕ)) (old new : Numbering) (xs : List Lemma) (known : List (List ℕ)) → new.own ≡ old.own → HaveNumbers before old.own.items xs known →
    HaveNumbers before new.own.items xs known
same_own before old new xs known e h = subst (λ (v : Vec ℕ Global). HaveNumbers before v.items xs known) (sym e) h

lemma_parts : (x : Lemma) (R M T : List CertLine) →
    ((state_lines x ++ R) ++ M) ++ T ≡ (x.box_lines ++ (yes_list x.yes ∷ [])) ++ (no_list x.no ∷ (R ++ (M ++ T)))
lemma_parts x R M T =
    append_assoc (state_lines x ++ R) M T ∙ append_assoc (state_lines x) R (M ++ T)
    ∙ ap (λ (s : List CertLine). s ++ (R ++ (M ++ T))) (sym (append_assoc x.box_lines (yes_list x.yes ∷ []) (no_list x.no ∷ [])))
    ∙ append_assoc (x.box_lines ++ (yes_list x.yes ∷ [])) (no_list x.no ∷ []) (R ++ (M ++ T))

between_takes : (before : List (List ℕ)) (c : Cover) (old new : Numbering) (l : CertLine) (rest : List CertLine) (known : List (List ℕ)) (done due : List Lemma) (rules : List CertLine) →
    AllByRecursion HasBoxes c.lemmas → IsKnown old.known known → TakesLine (line_kind l) (line_text l) old new → line_kind l ≢ TreeKind → old.is_in_state ≡ false →
    c.lemmas ≡ done ++ due → l ∷ rest ≡ rules ++ (lemmas_lines (length done) due ++ tail_lines c) → AllByRecursion IsOther rules →
    HaveNumbers before old.own.items done known → HasTaken before c new rest
between_takes before c old new l rest known done due (r ∷ rules) boxes k t ne out e f others h =
    let p = t.passes (ap line_kind (first_line l r rest (rules ++ (lemmas_lines (length done) due ++ tail_lines c)) f) ∙ others.0) out in
    let b : IsBetween before c new.own.items known rest = record {
      done = done;
      due = due;
      rules = rules;
      lemmas = e;
      ahead = rest_lines l r rest (rules ++ (lemmas_lines (length done) due ++ tail_lines c)) f;
      others = others.1;
      numbers = same_own before old new done known p.1 h;
    } in
    record { known = known; is_known = same_known old new known p.2 k; at = subst (λ (s : Bool). IsAt s before c new.state.items new.own.items known rest) (sym p.0) b }
between_takes before c old new l rest known done (x ∷ due) [] boxes k t ne out e f others h =
    let R = rule_lines (tree_lines x.tree) in
    let M = lemmas_lines (suc (length done)) due in
    let T = tail_lines c in
    let p = t.begins (ap line_kind (first_line l (lemma (length done)) rest (((state_lines x ++ R) ++ M) ++ T) f)) in
    let own = all_split HasBoxes done (x ∷ due) (subst (AllByRecursion HasBoxes) e boxes) in
    let b : IsInside before c new.state.items new.own.items known rest = record {
      done = done;
      now = x;
      due = due;
      read = [];
      left = x.box_lines ++ (yes_list x.yes ∷ []);
      last = x.no;
      lemmas = e;
      parts = sym (append_assoc x.box_lines (yes_list x.yes ∷ []) (no_list x.no ∷ []));
      held = p.1;
      ahead = rest_lines l (lemma (length done)) rest (((state_lines x ++ R) ++ M) ++ T) f ∙ lemma_parts x R M T;
      others = all_join IsOther x.box_lines (yes_list x.yes ∷ []) (boxes_other x.box_lines own.1.0) (refl, tt);
      numbers = same_own before old new done known p.2 h;
    } in
    record { known = known; is_known = same_known old new known p.3 k; at = subst (λ (s : Bool). IsAt s before c new.state.items new.own.items known rest) (sym p.0) b }
between_takes before c old new l rest known done [] [] boxes k t ne out e f others h =
    absurd (ne (ap line_kind (first_line l tree_word rest (drop 1 (tail_lines c)) f)))

inside_takes : (before : List (List ℕ)) (c : Cover) (old new : Numbering) (l : CertLine) (rest : List CertLine) (known : List (List ℕ))
    (done due : List Lemma) (now : Lemma) (read left : List CertLine) (last : List ℕ) →
    IsKnown old.known known → old.known.count ≤ 1048576 → TakesLine (line_kind l) (line_text l) old new → old.is_in_state ≡ true →
    c.lemmas ≡ done ++ (now ∷ due) → state_lines now ≡ read ++ (left ++ (no_list last ∷ [])) → old.state.items ≡ text_of read →
    l ∷ rest ≡ left ++ (no_list last ∷ (rule_lines (tree_lines now.tree) ++ (lemmas_lines (suc (length done)) due ++ tail_lines c))) →
    AllByRecursion IsOther left → HaveNumbers before old.own.items done known → HasTaken before c new rest
inside_takes before c old new l rest known done due now read (m ∷ left) last k few t ins e parts held f others h =
    let Z = no_list last ∷ (rule_lines (tree_lines now.tree) ++ (lemmas_lines (suc (length done)) due ++ tail_lines c)) in
    let same = first_line l m rest (left ++ Z) f in
    let p = t.grows (ap line_kind same ∙ others.0) ins in
    let b : IsInside before c new.state.items new.own.items known rest = record {
      done = done;
      now = now;
      due = due;
      read = read ++ (m ∷ []);
      left = left;
      last = last;
      lemmas = e;
      parts = parts ∙ sym (append_assoc read (m ∷ []) (left ++ (no_list last ∷ [])));
      held = p.1 ∙ ap (λ (s : List ℕ). s ++ (line_text l ++ (10 ∷ []))) held ∙ ap (λ (y : CertLine). text_of read ++ (line_text y ++ (10 ∷ []))) same ∙ text_more read m;
      ahead = rest_lines l m rest (left ++ Z) f;
      others = others.1;
      numbers = same_own before old new done known p.2 h;
    } in
    record { known = known; is_known = same_known old new known p.3 k; at = subst (λ (s : Bool). IsAt s before c new.state.items new.own.items known rest) (sym p.0) b }
inside_takes before c old new l rest known done due now read [] last k few t ins e parts held f others h =
    let R = rule_lines (tree_lines now.tree) in
    let M = lemmas_lines (suc (length done)) due in
    let T = tail_lines c in
    let same = first_line l (no_list last) rest (R ++ (M ++ T)) f in
    let p = t.ends (ap line_kind same) ins in
    let q = p.number known k few in
    let text : old.state.items ++ (line_text l ++ (10 ∷ [])) ≡ state_text now =
    ap (λ (s : List ℕ). s ++ (line_text l ++ (10 ∷ []))) held ∙ ap (λ (y : CertLine). text_of read ++ (line_text y ++ (10 ∷ []))) same
    ∙ text_more read (no_list last) ∙ ap text_of (sym parts) in
    let one = length-append done (now ∷ []) in
    let count : suc (length done) ≡ length (done ++ (now ∷ [])) = omega (arith, one) in
    let b : IsBetween before c new.own.items q.1 rest = record {
      done = done ++ (now ∷ []);
      due = due;
      rules = R;
      lemmas = e ∙ sym (append_assoc done (now ∷ []) due);
      ahead = rest_lines l (no_list last) rest (R ++ (M ++ T)) f ∙ ap (λ (i : ℕ). R ++ (lemmas_lines i due ++ T)) count;
      others = rules_other (tree_lines now.tree);
      numbers = subst (λ (o : List ℕ). HaveNumbers before o (done ++ (now ∷ [])) q.1) (sym q.4)
          (have_more before known q.1 old.own.items done q.0 now h (subst (λ (s : List ℕ). IsNumbered known s q.0 q.1) text q.2));
    } in
    record { known = q.1; is_known = q.3; at = subst (λ (s : Bool). IsAt s before c new.state.items new.own.items q.1 rest) (sym p.outside) b }

pub takes : (before : List (List ℕ)) (c : Cover) (old new : Numbering) (l : CertLine) (rest : List CertLine) (known : List (List ℕ)) (inside : Bool) →
    AllByRecursion HasBoxes c.lemmas → IsKnown old.known known → old.known.count ≤ 1048576 → TakesLine (line_kind l) (line_text l) old new → line_kind l ≢ TreeKind →
    old.is_in_state ≡ inside → IsAt inside before c old.state.items old.own.items known (l ∷ rest) → HasTaken before c new rest
takes before c old new l rest known true boxes k few t ne ins a =
    inside_takes before c old new l rest known a.done a.due a.now a.read a.left a.last k few t ins a.lemmas a.parts a.held a.ahead a.others a.numbers
takes before c old new l rest known false boxes k few t ne out a =
    between_takes before c old new l rest known a.done a.due a.rules boxes k t ne out a.lemmas a.ahead a.others a.numbers

-- ---- the line behind the lemmas

tree_between : (before : List (List ℕ)) (c : Cover) (own : List ℕ) (l : CertLine) (rest : List CertLine) (known : List (List ℕ)) (done due : List Lemma) (rules : List CertLine) →
    line_kind l ≡ TreeKind → c.lemmas ≡ done ++ due → l ∷ rest ≡ rules ++ (lemmas_lines (length done) due ++ tail_lines c) → AllByRecursion IsOther rules →
    HaveNumbers before own done known → HaveNumbers before own c.lemmas known
tree_between before c own l rest known done due (r ∷ rules) k e f others h =
    absurd (not_tree Other refl (sym (ap line_kind (first_line l r rest (rules ++ (lemmas_lines (length done) due ++ tail_lines c)) f) ∙ others.0) ∙ k))
tree_between before c own l rest known done (x ∷ due) [] k e f others h =
    absurd (not_tree LemmaKind refl (sym (ap line_kind (first_line l (lemma (length done)) rest _ f)) ∙ k))
tree_between before c own l rest known done [] [] k e f others h = subst (λ (xs : List Lemma). HaveNumbers before own xs known) (sym (e ∙ append-nil done)) h

tree_inside : (l : CertLine) (rest left Z : List CertLine) (last : List ℕ) → line_kind l ≡ TreeKind → l ∷ rest ≡ left ++ (no_list last ∷ Z) → AllByRecursion IsOther left → ⊥
tree_inside l rest (m ∷ left) Z last k f others = not_tree Other refl (sym (ap line_kind (first_line l m rest (left ++ (no_list last ∷ Z)) f) ∙ others.0) ∙ k)
tree_inside l rest [] Z last k f others = not_tree No refl (sym (ap line_kind (first_line l (no_list last) rest Z f)) ∙ k)

pub at_tree : (before : List (List ℕ)) (c : Cover) (state own : List ℕ) (l : CertLine) (rest : List CertLine) (known : List (List ℕ)) (inside : Bool) →
    line_kind l ≡ TreeKind → IsAt inside before c state own known (l ∷ rest) → (inside ≡ false) × HaveNumbers before own c.lemmas known
at_tree before c state own l rest known true k a =
    absurd (tree_inside l rest a.left (rule_lines (tree_lines a.now.tree) ++ (lemmas_lines (suc (length a.done)) a.due ++ tail_lines c)) a.last k a.ahead a.others)
at_tree before c state own l rest known false k a = (refl, tree_between before c own l rest known a.done a.due a.rules k a.lemmas a.ahead a.others a.numbers)
