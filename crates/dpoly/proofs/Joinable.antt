-- Certificates that are accepted and agree have covers that may be joined.
use Rattle.std.proofs.Common.{◌≡◌, ◌<◌, ◌≤◌, ◌+◌, ◌-◌, ◌^◌, ℕ, suc, List, [], ◌∷◌, ◌++◌, append_assoc, map, Bool, true, false, cond, Option, Some, None, IsTrue, nat_eq, length, length-append, drop, take, refl, ap, sym, subst, ◌∙◌, arith}
use Rattle.std.specs.Prelude.{decimal}
use Rattle.std.specs.List.{AllByRecursion}
use Rattle.std.proofs.lemmas.Bool.{cases_Bool, eqb-true}
use Rattle.std.proofs.lemmas.Fmt.{length-decimal-le}
use Rattle.poly_graph.specs.Problem.{Problem}
use Rattle.cert_read.specs.CertLine.{CertLine, Parsed, bound, delta, line, margin, parsed, version}
use Rattle.cert_read.specs.LineText.{IsSpelled, line_text}
use Rattle.cert_read.specs.Lines.{lines_of, onto_first, split_at, without_last_empty}
use Rattle.cert_read.proofs.Parts.{split_some}
use Rattle.cert_read.proofs.Pieces.{lacks, split_joined}
use Rattle.cert_read.proofs.Spelled.{line_lacks_break, spelled_line}
use Rattle.cert_model.specs.Due.{is_version}
use Rattle.cert_joined.specs.Covers.{AreTextsOf, Cover, IsTextOf, cover_lines}
use Rattle.cert_joined.proofs.Starts.{accepted_has_header}
use Rattle.cert_join.specs.Heads.{AreAlike, AreJoinable}
use Rattle.cert_parting.specs.Parting.{AreAgreed, bits_among, bits_in, bits_of, header_room}
use Rattle.check_run.specs.Joined.{AreAllAccepted}

-- ---- the first lines of bytes

first-kept : (l m : List ℕ) (ls : List (List ℕ)) → without_last_empty (l ∷ m ∷ ls) ≡ l ∷ without_last_empty (m ∷ ls)
first-kept [] m ls = refl
first-kept (b ∷ l) m ls = refl

some-kept : (b : ℕ) (w : List ℕ) (ws : List (List ℕ)) → without_last_empty ((b ∷ w) ∷ ws) ≡ (b ∷ w) ∷ without_last_empty ws
some-kept b w [] = refl
some-kept b w (v ∷ ws) = refl

-- a line that is not the last ends with a line feed
record IsCut (l : List ℕ) (ls : List (List ℕ)) (bytes : List ℕ) : Type 0 where
  rest : List ℕ
  whole : bytes ≡ l ++ (10 ∷ rest)
  behind : lines_of rest ≡ ls

heads-same : (l m : List ℕ) (ls ms : List (List ℕ)) → l ∷ ls ≡ m ∷ ms → (l ≡ m) × (ls ≡ ms)
heads-same l m ls ms e = (cc, cc)

not-none : (l : List ℕ) (ls : List (List ℕ)) → [] ≡ l ∷ ls → ⊥
not-none l ls e = cc

byte-is : (b : ℕ) → nat_eq b 10 ≡ true → b ≡ 10
byte-is b e = eqb-true b 10 e

cut : (l m : List ℕ) (ls : List (List ℕ)) (bytes : List ℕ) → lines_of bytes ≡ l ∷ m ∷ ls → IsCut l (m ∷ ls) bytes
cut l m ls [] e = absurd (not-none l (m ∷ ls) e)
cut l m ls (b ∷ bs) e = by-feed (λ w f. cut w m ls bs f) (nat_eq b 10) refl e where
  parts : (w : List ℕ) × (ws : List (List ℕ)) × (split_at 10 bs ≡ w ∷ ws)
  parts = split_some 10 bs

  later : (ws : List (List ℕ)) (w : List ℕ) → split_at 10 bs ≡ w ∷ ws → without_last_empty ws ≡ m ∷ ls → lines_of bs ≡ w ∷ m ∷ ls
  later [] w p f = absurd (not-none m ls f)
  later (v ∷ ws) w p f = ap without_last_empty p ∙ first-kept w v ws ∙ ap (λ (xs : List (List ℕ)). w ∷ xs) f

  by-feed : ((w : List ℕ) → lines_of bs ≡ w ∷ m ∷ ls → IsCut w (m ∷ ls) bs) → (t : Bool) → nat_eq b 10 ≡ t → without_last_empty (cond t ([] ∷ split_at 10 bs) (onto_first b (split_at 10 bs))) ≡ l ∷ m ∷ ls → IsCut l (m ∷ ls) (b ∷ bs)
  by-feed rec true q f =
      let g : [] ∷ lines_of bs ≡ l ∷ m ∷ ls =
      sym (ap (λ (xs : List (List ℕ)). without_last_empty ([] ∷ xs)) parts.2 ∙ first-kept [] parts.0 parts.1 ∙ ap (λ (xs : List (List ℕ)). [] ∷ without_last_empty xs) (sym parts.2)) ∙ f in
      let h = heads-same [] l (lines_of bs) (m ∷ ls) g in
      record { rest = bs; whole = ap (λ (k : ℕ). k ∷ bs) (byte-is b q) ∙ ap (λ (x : List ℕ). x ++ (10 ∷ bs)) h.0; behind = h.1 }
  by-feed rec false q f =
      let g : (b ∷ parts.0) ∷ without_last_empty parts.1 ≡ l ∷ m ∷ ls = sym (ap (λ (xs : List (List ℕ)). without_last_empty (onto_first b xs)) parts.2 ∙ some-kept b parts.0 parts.1) ∙ f in
      let h = heads-same (b ∷ parts.0) l (without_last_empty parts.1) (m ∷ ls) g in
      let r = rec parts.0 (later parts.1 parts.0 parts.2 h.1) in
      record { rest = r.rest; whole = ap (λ (x : List ℕ). b ∷ x) r.whole ∙ ap (λ (x : List ℕ). x ++ (10 ∷ r.rest)) h.0; behind = r.behind }

-- and a line before a line feed is the first
first-line : (l rest : List ℕ) → IsTrue (lacks 10 l) → lines_of (l ++ (10 ∷ rest)) ≡ l ∷ lines_of rest
first-line l rest h =
    let parts = split_some 10 rest in
    ap without_last_empty (split_joined 10 l rest h ∙ ap (λ (xs : List (List ℕ)). l ∷ xs) parts.2) ∙ first-kept l parts.0 parts.1 ∙ ap (λ (xs : List (List ℕ)). l ∷ without_last_empty xs) (sym parts.2)

take-over : (xs ys : List ℕ) (n : ℕ) → take (length xs + n) (xs ++ ys) ≡ xs ++ take n ys
take-over [] ys n = let e : 0 + n ≡ n = omega arith in ap (λ (k : ℕ). take k ys) e
take-over (x ∷ xs) ys n = let e : suc (length xs) + n ≡ suc (length xs + n) = omega arith in ap (λ (k : ℕ). take k (x ∷ (xs ++ ys))) e ∙ ap (λ (zs : List ℕ). x ∷ zs) (take-over xs ys n)

take-line : (l rest : List ℕ) (room left : ℕ) → room ≡ length l + suc left → take room (l ++ (10 ∷ rest)) ≡ l ++ (10 ∷ take left rest)
take-line l rest room left e = ap (λ (k : ℕ). take k (l ++ (10 ∷ rest))) e ∙ take-over l (10 ∷ rest) (suc left)

-- ---- the header of a cover's certificate

decimal-short : (n : ℕ) → n < 2 ^ 32 → length (decimal n) ≤ 10
decimal-short n h = length-decimal-le 10 n (omega arith) (omega (arith, h)) (omega (arith, h))

room-for : (a b c : ℕ) → a ≤ 16 → b ≤ 17 → c ≤ 16 → (left : ℕ) × (64 ≡ a + suc (b + suc (c + suc left)))
room-for a b c h i j = (61 - (a + b + c), omega (arith, h, i, j))

bits-of-text : (c : Cover) (bytes : List ℕ) → IsTextOf c bytes → bits_in bytes ≡ Some (c.margin_bits, c.delta_bits)
bits-of-text c bytes t =
    let v = line_text (version c.version) in
    let m = line_text (margin c.margin_bits) in
    let d = line_text (delta c.delta_bits) in
    let behind : ℕ → List (List ℕ) = λ k. map line_text (drop k (cover_lines c)) in
    let k1 = cut v m (behind 2) bytes t.lines in
    let k2 = cut m d (behind 3) k1.rest k1.behind in
    let k3 = cut d (line_text (bound c.bound)) (behind 4) k2.rest k2.behind in
    let a = decimal-short c.version t.spelled.0.0 in
    let b = decimal-short c.margin_bits t.spelled.1.0.0 in
    let e = decimal-short c.delta_bits t.spelled.1.1.0.0 in
    let room = room-for (length v) (length m) (length d) (omega (arith, a)) (omega (arith, b)) (omega (arith, e)) in
    let left = room.0 in
    let tail = take left k3.rest in
    let whole : take header_room bytes ≡ v ++ (10 ∷ (m ++ (10 ∷ (d ++ (10 ∷ tail))))) =
    ap (take 64) (k1.whole ∙ ap (λ (x : List ℕ). v ++ (10 ∷ x)) (k2.whole ∙ ap (λ (x : List ℕ). m ++ (10 ∷ x)) k3.whole))
    ∙ take-line v (m ++ (10 ∷ (d ++ (10 ∷ k3.rest)))) 64 (length m + suc (length d + suc left)) room.1
    ∙ ap (λ (x : List ℕ). v ++ (10 ∷ x)) (take-line m (d ++ (10 ∷ k3.rest)) (length m + suc (length d + suc left)) (length d + suc left) refl
    ∙ ap (λ (x : List ℕ). m ++ (10 ∷ x)) (take-line d k3.rest (length d + suc left) left refl)) in
    let lines : lines_of (take header_room bytes) ≡ v ∷ m ∷ d ∷ lines_of tail =
    ap lines_of whole ∙ first-line v (m ++ (10 ∷ (d ++ (10 ∷ tail)))) (line_lacks_break (version c.version) t.spelled.0.0)
    ∙ ap (λ (xs : List (List ℕ)). v ∷ xs) (first-line m (d ++ (10 ∷ tail)) (line_lacks_break (margin c.margin_bits) t.spelled.1.0.0)
    ∙ ap (λ (xs : List (List ℕ)). m ∷ xs) (first-line d tail (line_lacks_break (delta c.delta_bits) t.spelled.1.1.0.0))) in
    ap (λ (xs : List (List ℕ)). bits_among (map parsed xs)) lines
    ∙ ap (λ (x : Parsed). bits_among (x ∷ parsed m ∷ parsed d ∷ map parsed (lines_of tail))) (spelled_line (version c.version) t.spelled.0)
    ∙ ap (λ (x : Parsed). bits_among (line (version c.version) ∷ x ∷ parsed d ∷ map parsed (lines_of tail))) (spelled_line (margin c.margin_bits) t.spelled.1.0)
    ∙ ap (λ (x : Parsed). bits_among (line (version c.version) ∷ line (margin c.margin_bits) ∷ x ∷ map parsed (lines_of tail))) (spelled_line (delta c.delta_bits) t.spelled.1.1.0)

-- ---- several

same-bits : (m n d e : ℕ) → ◌≡◌ {A = Option (ℕ × ℕ)} (Some (m, d)) (Some (n, e)) → (m ≡ n) × (d ≡ e)
same-bits m n d e h =
    let both : ◌≡◌ {A = ℕ × ℕ} (m, d) (n, e) = cc in (ap (λ (x : ℕ × ℕ). x.0) both, ap (λ (x : ℕ × ℕ). x.1) both)

abbrev HasBits : Cover → Cover → Type 0
HasBits first c = (c.margin_bits ≡ first.margin_bits) × (c.delta_bits ≡ first.delta_bits)

abbrev HasHeader : Option ℕ → Cover → Type 0
HasHeader b c = IsTrue (is_version c.version) × (c.bound ≡ b)

module _ (first : Cover) (bytes : List ℕ) (t : IsTextOf first bytes) where
  alike-others : (covers : List Cover) (parts : List (List ℕ)) → AreTextsOf covers parts → AllByRecursion (λ (x : List ℕ). bits_in x ≡ bits_in bytes) parts →
      AllByRecursion (HasBits first) covers
  alike-others [] [] ts h = tt
  alike-others (c ∷ covers) (x ∷ parts) ts h =
      (same-bits c.margin_bits first.margin_bits c.delta_bits first.delta_bits (sym (bits-of-text c x ts.0) ∙ h.0 ∙ bits-of-text first bytes t), alike-others covers parts ts.1 h.1)
  alike-others [] (x ∷ parts) ts h = absurd ts
  alike-others (c ∷ covers) [] ts h = absurd ts

headers : (p : Problem) (b : Option ℕ) (covers : List Cover) (parts : List (List ℕ)) → AreTextsOf covers parts → AreAllAccepted p b parts →
    AllByRecursion (HasHeader b) covers
headers p b [] [] ts h = tt
headers p b (c ∷ covers) (x ∷ parts) ts h = (accepted_has_header p b x h.0.0 h.0.1 c h.0.2 ts.0, headers p b covers parts ts.1 h.1)
headers p b [] (x ∷ parts) ts h = absurd ts
headers p b (c ∷ covers) [] ts h = absurd ts

all-map : (P Q : Cover → Type 0) → ((c : Cover) → P c → Q c) → (covers : List Cover) → AllByRecursion P covers → AllByRecursion Q covers
all-map P Q f [] h = tt
all-map P Q f (c ∷ covers) h = (f c h.0, all-map P Q f covers h.1)

alike-all : (p : Problem) (b : Option ℕ) (first : Cover) (others : List Cover) (parts : List (List ℕ)) → AreTextsOf (first ∷ others) parts → AreAllAccepted p b parts → AreAgreed parts → AreAlike first (first ∷ others)
alike-all p b first others [] ts all agreed = absurd ts
alike-all p b first others (x ∷ parts) ts all agreed =
    let bits = alike-others first x ts.0 others parts ts.1 agreed in
    let heads = headers p b (first ∷ others) (x ∷ parts) ts all in
    record {
      margin = (refl, all-map (HasBits first) (λ (c : Cover). c.margin_bits ≡ first.margin_bits) (λ c h. h.0) others bits);
      delta = (refl, all-map (HasBits first) (λ (c : Cover). c.delta_bits ≡ first.delta_bits) (λ c h. h.1) others bits);
      bound = (refl, all-map (HasHeader b) (λ (c : Cover). c.bound ≡ first.bound) (λ c h. h.1 ∙ sym heads.0.1) others heads.1);
    }

pub are_joinable : (p : Problem) (b : Option ℕ) (covers : List Cover) (parts : List (List ℕ)) → AreTextsOf covers parts → AreAllAccepted p b parts → AreAgreed parts → AreJoinable covers
are_joinable p b covers parts ts all agreed = record {
  alike = λ first others e.
      let a = alike-all p b first others parts (subst (λ (cs : List Cover). AreTextsOf cs parts) e ts) all agreed in
      subst (λ (cs : List Cover). AreAlike first cs) (sym e) a;
  versions = all-map (HasHeader b) (λ (c : Cover). IsTrue (is_version c.version)) (λ c h. h.0) covers (headers p b covers parts ts all);
}
