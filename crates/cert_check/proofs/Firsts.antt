-- The first line of bytes that are not answered yet.
use Rattle.std.proofs.Common.{◌≡◌, ℕ, ◌+◌, List, [], ◌∷◌, ◌++◌, length, drop, Bool, true, false, not, cond, IsTrue, nat_eq, refl, ap, sym, ◌∙◌, subst, inl, inr, true≢false, length-append, append_assoc}
use Rattle.std.proofs.lemmas.List.{drop_at}
use Rattle.std.proofs.lemmas.Bool.Decides.{eqb_tells}
use Rattle.dyadic.proofs.Equal.{both_pass}
use Rattle.cert_read.specs.CertLine.{Parsed, too_long, parsed, unless_long}
use Rattle.cert_read.specs.Lines.{split_at, onto_first, without_unfinished, lines_so_far, is_too_long}
use Rattle.cert_read.specs.LineText.{text_of_lines}
use Rattle.cert_read.specs.State.{Reading}
use Rattle.cert_read.proofs.Parts.{split_some}
use Rattle.cert_read.proofs.Pieces.{AllLack, lacks}
use Rattle.cert_check.specs.Courses.{AreWhole}

abbrev pub reading : List ℕ → Bool → Reading
reading u e = record { unread = u; ended = e }

pub all_lack : (ls : List (List ℕ)) → AreWhole ls → AllLack 10 ls
all_lack [] h = tt
all_lack (l ∷ ls) h = (h.0, all_lack ls h.1)

pub whole_more : (ls : List (List ℕ)) (l : List ℕ) → AreWhole ls → IsTrue (lacks 10 l) → AreWhole (ls ++ (l ∷ []))
whole_more [] l h k = (k, tt)
whole_more (m ∷ ls) l h k = (h.0, whole_more ls l h.1 k)

pub text_more : (ls : List (List ℕ)) (l : List ℕ) → text_of_lines (ls ++ (l ∷ [])) ≡ text_of_lines ls ++ (l ++ (10 ∷ []))
text_more [] l = refl
text_more (m ∷ ls) l = ap (λ (t : List ℕ). m ++ (10 ∷ t)) (text_more ls l) ∙ sym (append_assoc m (10 ∷ text_of_lines ls) (l ++ (10 ∷ [])))

-- either there is no line feed, or the first line ends with one
pub data FirstLine (u : List ℕ) : Type 0 where
  unfinished : split_at 10 u ≡ u ∷ [] → FirstLine u
  finished : (l rest : List ℕ) → split_at 10 u ≡ l ∷ split_at 10 rest → u ≡ l ++ (10 ∷ rest) → IsTrue (lacks 10 l) → FirstLine u

by-first : (b : ℕ) (bs : List ℕ) (t : Bool) → nat_eq b 10 ≡ t → (t ≡ true → b ≡ 10) → FirstLine bs → FirstLine (b ∷ bs)
by-first b bs true e h k =
    finished [] bs (ap (λ (x : Bool). cond x ([] ∷ split_at 10 bs) (onto_first b (split_at 10 bs))) e) (ap (λ (c : ℕ). c ∷ bs) (h refl)) refl
by-first b bs false e h (unfinished s) =
    unfinished (ap (λ (x : Bool). cond x ([] ∷ split_at 10 bs) (onto_first b (split_at 10 bs))) e ∙ ap (onto_first b) s)
by-first b bs false e h (finished l rest s p k) =
    finished (b ∷ l) rest (ap (λ (x : Bool). cond x ([] ∷ split_at 10 bs) (onto_first b (split_at 10 bs))) e ∙ ap (onto_first b) s)
    (ap (λ (xs : List ℕ). b ∷ xs) p) (both_pass (not (nat_eq b 10)) (lacks 10 l) (ap not e) k)

pub first_of : (u : List ℕ) → FirstLine u
first_of [] = unfinished refl
first_of (b ∷ bs) = elim (eqb_tells b 10) [
  | inl h ↦ by-first b bs true h.0 (λ _. h.1) (first_of bs)
  | inr h ↦ by-first b bs false h.0 (λ e. absurd (true≢false (sym e))) (first_of bs)
]

behind-line : (l rest : List ℕ) → drop (length l + 1) (l ++ (10 ∷ rest)) ≡ rest
behind-line l rest = ap (drop (length l + 1)) (sym (append_assoc l (10 ∷ []) rest)) ∙ drop_at (l ++ (10 ∷ [])) rest (length l + 1) (length-append l (10 ∷ []))

-- a line of bytes that go on, which is not too long, ends with a line feed
pub record Passes (u l : List ℕ) : Type 0 where
  pub lacking : IsTrue (lacks 10 l)
  pub text : u ≡ l ++ (10 ∷ drop (length l + 1) u)

passes-unfinished : (u l : List ℕ) (ls : List (List ℕ)) (t : Bool) → is_too_long u ≡ t → cond t (u ∷ []) [] ≡ l ∷ ls → is_too_long l ≡ false → ⊥
passes-unfinished u l ls true e h f = let same : u ≡ l = cc in true≢false (sym e ∙ ap is_too_long same ∙ f)
passes-unfinished u l ls false e h f = cc

passes-first : (u l m rest : List ℕ) → m ≡ l → u ≡ m ++ (10 ∷ rest) → IsTrue (lacks 10 m) → Passes u l
passes-first u l m rest e p k =
    let text : u ≡ m ++ (10 ∷ drop (length m + 1) u) = p ∙ ap (λ (r : List ℕ). m ++ (10 ∷ r)) (sym (ap (drop (length m + 1)) p ∙ behind-line m rest)) in
    subst (λ (x : List ℕ). Passes u x) e (record { lacking = k; text = text })

pub passes_line : (u l : List ℕ) (ls : List (List ℕ)) → lines_so_far u ≡ l ∷ ls → is_too_long l ≡ false → Passes u l
passes_line u l ls h f = by-form (first_of u) where
  by-form : FirstLine u → Passes u l
  by-form (unfinished s) = absurd (passes-unfinished u l ls (is_too_long u) refl (sym (ap without_unfinished s) ∙ h) f)
  by-form (finished m rest s p k) =
      let some = split_some 10 rest in
      let split : without_unfinished (m ∷ some.0 ∷ some.1) ≡ l ∷ ls = sym (ap without_unfinished (s ∙ ap (λ (xs : List (List ℕ)). m ∷ xs) some.2)) ∙ h in
      let same : m ≡ l = cc in
      passes-first u l m rest same p k

not-long : (t : Bool) (l : List ℕ) (x : Parsed) → unless_long t l ≡ x → (x ≡ too_long → ⊥) → t ≡ false
not-long true l x e h = absurd (h (sym e))
not-long false l x e h = refl

pub formed_is_short : (l : List ℕ) (x : Parsed) → parsed l ≡ x → (x ≡ too_long → ⊥) → is_too_long l ≡ false
formed_is_short l x e h = not-long (is_too_long l) l x e h
