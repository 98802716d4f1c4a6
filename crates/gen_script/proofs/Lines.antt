-- The lines of atoms, one by one.
use Rattle.std.proofs.Common.{◌≡◌, ◌+◌, ◌-◌, ◌<◌, ◌≤◌, ◌++◌, ◌∙◌, ℕ, suc, List, [], ap, sym, refl, arith, append_assoc}
use Rattle.std.proofs.lemmas.List.{append-nil}
use Rattle.gen_script.specs.Demo.{next_number, coefficient, atom_line, atom_lines}

first_line : (number left : ℕ) → atom_lines number (suc left) ≡ atom_line (coefficient (next_number number)) ++ atom_lines (next_number number) left
unfolding atom_lines
first_line number left = refl

no_line : (number : ℕ) → atom_lines number 0 ≡ []
unfolding atom_lines
no_line number = refl

-- The lines that are left are the next one and those after it.
next_line : (done : List ℕ) (number size at : ℕ) → at < size
    → (done ++ atom_line (coefficient (next_number number))) ++ atom_lines (next_number number) (size - (at + 1)) ≡ done ++ atom_lines number (size - at)
next_line done number size at below =
    let left : size - at ≡ suc (size - (at + 1)) = omega arith in
    let split : atom_lines number (size - at) ≡ atom_line (coefficient (next_number number)) ++ atom_lines (next_number number) (size - (at + 1)) =
    ap (λ (n : ℕ). atom_lines number n) left ∙ first_line number (size - (at + 1)) in
    append_assoc done (atom_line (coefficient (next_number number))) (atom_lines (next_number number) (size - (at + 1)))
    ∙ ap (λ (rest : List ℕ). done ++ rest) (sym split)

-- No line is left at the end.
last_line : (done : List ℕ) (number size at : ℕ) → size ≤ at → done ++ atom_lines number (size - at) ≡ done
last_line done number size at over =
    let none : size - at ≡ 0 = omega arith in
    ap (λ (n : ℕ). done ++ atom_lines number n) none ∙ ap (λ (rest : List ℕ). done ++ rest) (no_line number) ∙ append-nil done

pieces : (s a d b e f : List ℕ) → ((((((s ++ a) ++ d) ++ b) ++ d) ++ e) ++ d) ++ f ≡ s ++ (a ++ d ++ b ++ d ++ e ++ d ++ f)
pieces s a d b e f = simp append_assoc

-- The pieces of a line, written one after the other.
pub joined : (s a d b e f digits s1 s2 s3 s4 s5 s6 s7 : List ℕ) → digits ≡ d
    → s1 ≡ s ++ a → s2 ≡ s1 ++ digits → s3 ≡ s2 ++ b → s4 ≡ s3 ++ digits → s5 ≡ s4 ++ e → s6 ≡ s5 ++ digits → s7 ≡ s6 ++ f
    → s7 ≡ s ++ (a ++ d ++ b ++ d ++ e ++ d ++ f)
joined s a d b e f digits s1 s2 s3 s4 s5 s6 s7 digits_are e1 e2 e3 e4 e5 e6 e7 = let all = pieces s a d b e f in cc

-- One more line was written.
pub one_more : (old new whole : List ℕ) (number next size at : ℕ) → at < size → next ≡ next_number number
    → new ≡ old ++ atom_line (coefficient next) → old ++ atom_lines number (size - at) ≡ whole → new ++ atom_lines next (size - (at + 1)) ≡ whole
one_more old new whole number next size at below next_is new_is before =
    ap (λ (text : List ℕ). text ++ atom_lines next (size - (at + 1))) new_is
    ∙ ap (λ (n : ℕ). (old ++ atom_line (coefficient n)) ++ atom_lines n (size - (at + 1))) next_is
    ∙ next_line old number size at below ∙ before

-- All lines were written, and the end.
pub all_written : (old new first lines last : List ℕ) (number size at : ℕ) → size ≤ at → new ≡ old ++ last
    → old ++ atom_lines number (size - at) ≡ first ++ lines → new ≡ first ++ lines ++ last
all_written old new first lines last number size at over new_is before =
    new_is ∙ ap (λ (text : List ℕ). text ++ last) (sym (last_line old number size at over) ∙ before)
