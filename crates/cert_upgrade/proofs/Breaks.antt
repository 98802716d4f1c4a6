-- The lines of a text without its first, as bytes.
use Rattle.std.proofs.Common.{◌≡◌, ◌+◌, ◌-◌, ◌<◌, ℕ, zero, suc, get_or, length, arith, List, [], ◌∷◌, ◌++◌, Bool, true, false, not, cond, refl, ap, sym, ◌∙◌, nat_eq, eqb→eq, true≢false, append_assoc}
use Rattle.std.specs.Bool.{passes}
use Rattle.dyadic.proofs.Equal.{both_pass}
use Rattle.cert_read.specs.Lines.{split_at, onto_first, without_last_empty, lines_of}
use Rattle.cert_read.specs.LineText.{text_of_lines}
use Rattle.cert_read.proofs.Pieces.{AllLack, lacks}
use Rattle.cert_upgrade.specs.Upgraded.{newest_line, behind_first, upgraded}
use Rattle.cert_upgrade.specs.Breaks.{behind_break, with_break}

-- ---- no line has a break

onto-lacks : (b : ℕ) (ws : List (List ℕ)) → nat_eq b 10 ≡ false → AllLack 10 ws → AllLack 10 (onto_first b ws)
onto-lacks b [] e h = (both_pass (not (nat_eq b 10)) true (ap not e) refl, tt)
onto-lacks b (w ∷ ws) e h = (both_pass (not (nat_eq b 10)) (lacks 10 w) (ap not e) h.0, h.1)

split-lacks : (bytes : List ℕ) → AllLack 10 (split_at 10 bytes)
split-lacks [] = (refl, tt)
split-lacks (b ∷ bs) = by (nat_eq b 10) refl (split-lacks bs) where
  by : (t : Bool) → nat_eq b 10 ≡ t → AllLack 10 (split_at 10 bs) → AllLack 10 (cond t ([] ∷ split_at 10 bs) (onto_first b (split_at 10 bs)))
  by true e h = (refl, h)
  by false e h = onto-lacks b (split_at 10 bs) e h

without-lacks : (ws : List (List ℕ)) → AllLack 10 ws → AllLack 10 (without_last_empty ws)
without-lacks [] h = tt
without-lacks ([] ∷ []) h = tt
without-lacks ([] ∷ w ∷ ws) h = (h.0, without-lacks (w ∷ ws) h.1)
without-lacks ((b ∷ l) ∷ ws) h = (h.0, without-lacks ws h.1)

behind-lacks : (ls : List (List ℕ)) → AllLack 10 ls → AllLack 10 (behind_first ls)
behind-lacks [] h = tt
behind-lacks (l ∷ ls) h = h.1

-- of the lines of any bytes, too, behind the first
pub lines_lack : (bytes : List ℕ) → AllLack 10 (behind_first (lines_of bytes))
lines_lack bytes = behind-lacks (lines_of bytes) (without-lacks (split_at 10 bytes) (split-lacks bytes))

-- ---- bytes

-- the pieces are some
abbrev AreSome : List (List ℕ) → Type 0
AreSome [] = ⊥
AreSome (w ∷ ws) = Unit {0}

onto-some : (b : ℕ) (ws : List (List ℕ)) → AreSome (onto_first b ws)
onto-some b [] = tt
onto-some b (w ∷ ws) = tt

split-some : (bs : List ℕ) → AreSome (split_at 10 bs)
split-some [] = tt
split-some (b ∷ bs) = by (nat_eq b 10) where
  by : (t : Bool) → AreSome (cond t ([] ∷ split_at 10 bs) (onto_first b (split_at 10 bs)))
  by true = tt
  by false = onto-some b (split_at 10 bs)

behind-break-some : (ws : List (List ℕ)) → AreSome ws → behind_first (without_last_empty ([] ∷ ws)) ≡ without_last_empty ws
behind-break-some [] h = absurd h
behind-break-some (w ∷ ws) h = refl

behind-onto : (b : ℕ) (ws : List (List ℕ)) → AreSome ws → behind_first (without_last_empty (onto_first b ws)) ≡ behind_first (without_last_empty ws)
behind-onto b [] h = absurd h
behind-onto b ([] ∷ []) h = refl
behind-onto b ([] ∷ w ∷ ws) h = refl
behind-onto b ((c ∷ l) ∷ ws) h = refl

-- the lines behind the first are those of the bytes behind the first break
pub behind_lines : (bs : List ℕ) → behind_first (lines_of bs) ≡ lines_of (behind_break bs)
behind_lines [] = refl
behind_lines (b ∷ bs) = by (nat_eq b 10) (behind_lines bs) where
  by : (t : Bool) → behind_first (lines_of bs) ≡ lines_of (behind_break bs) → behind_first (without_last_empty (cond t ([] ∷ split_at 10 bs) (onto_first b (split_at 10 bs)))) ≡ lines_of (cond t bs (behind_break bs))
  by true h = behind-break-some (split_at 10 bs) (split-some bs)
  by false h = behind-onto b (split_at 10 bs) (split-some bs) ∙ h

text-break : (ws : List (List ℕ)) → AreSome ws → text_of_lines (without_last_empty ([] ∷ ws)) ≡ 10 ∷ text_of_lines (without_last_empty ws)
text-break [] h = absurd h
text-break (w ∷ ws) h = refl

-- a byte before pieces that are not one empty one
abbrev IsNotOneEmpty : List (List ℕ) → Type 0
IsNotOneEmpty [] = ⊥
IsNotOneEmpty ([] ∷ []) = ⊥
IsNotOneEmpty ws = Unit {0}

text-onto : (b : ℕ) (ws : List (List ℕ)) → IsNotOneEmpty ws → text_of_lines (without_last_empty (onto_first b ws)) ≡ b ∷ text_of_lines (without_last_empty ws)
text-onto b [] h = absurd h
text-onto b ([] ∷ []) h = absurd h
text-onto b ([] ∷ w ∷ ws) h = refl
text-onto b ((c ∷ l) ∷ ws) h = refl

onto-not : (b : ℕ) (ws : List (List ℕ)) → IsNotOneEmpty (onto_first b ws)
onto-not b [] = tt
onto-not b (w ∷ ws) = tt

split-not : (b : ℕ) (bs : List ℕ) → IsNotOneEmpty (split_at 10 (b ∷ bs))
split-not b bs = by (nat_eq b 10) (split_at 10 bs) (split-some bs) where
  by : (t : Bool) (ws : List (List ℕ)) → AreSome ws → IsNotOneEmpty (cond t ([] ∷ ws) (onto_first b ws))
  by true [] h = absurd h
  by true (w ∷ ws) h = tt
  by false ws h = onto-not b ws

is_ten : (b : ℕ) → nat_eq b 10 ≡ true → b ≡ 10
is_ten b e = eqb→eq b 10 (passes _ e)

-- the text of the lines is the bytes with a break at their end
pub lines_text : (bs : List ℕ) → text_of_lines (lines_of bs) ≡ with_break bs
lines_text [] = refl
lines_text (b ∷ []) = by (nat_eq b 10) refl where
  by : (t : Bool) → nat_eq b 10 ≡ t → text_of_lines (without_last_empty (cond t ([] ∷ [] ∷ []) ((b ∷ []) ∷ []))) ≡ cond t (b ∷ []) (b ∷ 10 ∷ [])
  by true e = ap (λ (c : ℕ). c ∷ []) (sym (is_ten b e))
  by false e = refl
lines_text (b ∷ c ∷ bs) = by (nat_eq b 10) refl (lines_text (c ∷ bs)) where
  by : (t : Bool) → nat_eq b 10 ≡ t → text_of_lines (lines_of (c ∷ bs)) ≡ with_break (c ∷ bs) → text_of_lines (without_last_empty (cond t ([] ∷ split_at 10 (c ∷ bs)) (onto_first b (split_at 10 (c ∷ bs))))) ≡ b ∷ with_break (c ∷ bs)
  by true e h = text-break (split_at 10 (c ∷ bs)) (split-some (c ∷ bs)) ∙ ap (λ (x : ℕ). x ∷ text_of_lines (lines_of (c ∷ bs))) (sym (is_ten b e)) ∙ ap (λ (t : List ℕ). b ∷ t) h
  by false e h = text-onto b (split_at 10 (c ∷ bs)) (split-not c bs) ∙ ap (λ (t : List ℕ). b ∷ t) h

-- ---- the last byte

pub ends_so : (xs : List ℕ) (i : ℕ) → i + 1 ≡ length xs → get_or xs i 0 ≡ 10 → with_break xs ≡ xs
ends_so [] i e h = refl
ends_so (b ∷ []) zero e h = ap (λ (t : Bool). cond t (b ∷ []) (b ∷ 10 ∷ [])) (ap (λ (n : ℕ). nat_eq n 10) h)
ends_so (b ∷ []) (suc i) e h = absurd (omega (arith, e))
ends_so (b ∷ c ∷ bs) zero e h = absurd (omega (arith, e))
ends_so (b ∷ c ∷ bs) (suc i) e h = ap (λ (t : List ℕ). b ∷ t) (ends_so (c ∷ bs) i (omega (arith, e)) h)

pub ends_not : (xs : List ℕ) (i : ℕ) → i + 1 ≡ length xs → (get_or xs i 0 ≡ 10 → ⊥) → with_break xs ≡ xs ++ (10 ∷ [])
ends_not [] i e h = absurd (omega (arith, e))
ends_not (b ∷ []) zero e h = by (nat_eq b 10) refl where
  by : (t : Bool) → nat_eq b 10 ≡ t → cond t (b ∷ []) (b ∷ 10 ∷ []) ≡ b ∷ 10 ∷ []
  by true f = absurd (h (is_ten b f))
  by false f = refl
ends_not (b ∷ []) (suc i) e h = absurd (omega (arith, e))
ends_not (b ∷ c ∷ bs) zero e h = absurd (omega (arith, e))
ends_not (b ∷ c ∷ bs) (suc i) e h = ap (λ (t : List ℕ). b ∷ t) (ends_not (c ∷ bs) i (omega (arith, e)) h)

-- the text behind the first line
pub behind_text : (cert rest : List ℕ) → rest ≡ behind_break cert → with_break rest ≡ text_of_lines (behind_first (lines_of cert))
behind_text cert rest e = ap with_break e ∙ sym (lines_text (behind_break cert)) ∙ sym (ap text_of_lines (behind_lines cert))

pub lacks_so : (xs : List ℕ) → 0 < length xs → with_break xs ≡ cond (not (nat_eq (get_or xs (length xs - 1) 0) 10)) (xs ++ (10 ∷ [])) xs
lacks_so xs h = by (nat_eq (get_or xs (length xs - 1) 0) 10) refl where
  by : (t : Bool) → nat_eq (get_or xs (length xs - 1) 0) 10 ≡ t → with_break xs ≡ cond (not t) (xs ++ (10 ∷ [])) xs
  by true e = ends_so xs (length xs - 1) (omega arith) (is_ten _ e)
  by false e = ends_not xs (length xs - 1) (omega arith) (λ k. true≢false (sym (ap (λ (n : ℕ). nat_eq n 10) k) ∙ e))

-- the first line with its break, what follows the first break, and a break where one is wanted
pub written_so : (cert rest first text : List ℕ) (t : Bool) → rest ≡ behind_break cert → with_break rest ≡ cond t (rest ++ (10 ∷ [])) rest → first ≡ newest_line ++ (10 ∷ []) →
    text ≡ cond t ((first ++ rest) ++ (10 ∷ [])) (first ++ rest) → text ≡ upgraded cert
written_so cert rest first text t e k f h = by t k h ∙ ap (λ (x : List ℕ). x ++ with_break rest) f ∙ append_assoc newest_line (10 ∷ []) (with_break rest)
    ∙ ap (λ (x : List ℕ). newest_line ++ (10 ∷ x)) (behind_text cert rest e) where
      by : (u : Bool) → with_break rest ≡ cond u (rest ++ (10 ∷ [])) rest → text ≡ cond u ((first ++ rest) ++ (10 ∷ [])) (first ++ rest) → text ≡ first ++ with_break rest
      by true j g = g ∙ append_assoc first rest (10 ∷ []) ∙ ap (λ (x : List ℕ). first ++ x) (sym j)
      by false j g = g ∙ ap (λ (x : List ℕ). first ++ x) (sym j)
