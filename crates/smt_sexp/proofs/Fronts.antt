-- What pieces tell of the fronts of a text.
use Rattle.std.proofs.Common.{◌≡◌, ℕ, ◌+◌, ◌<◌, ◌≤◌, List, [], ◌∷◌, ◌++◌, Bool, true, false, cond, Some, refl, ap, sym, ◌∙◌, subst, arith, length, take, drop, get_or, length-drop}
use Rattle.std.specs.Prelude.{not, nat_le, nat_eq, ◌&&◌, ◌^◌}
use Rattle.std.specs.Str.Parse.{digits_value}
use Rattle.std.proofs.lemmas.List.{append-nil, drop_more, drop-drop, length-take-le, nil_from_length, drop_all}
use Rattle.script_model.specs.Sexp.{Leaf, numeral, decimal}
use Rattle.smt_sexp.specs.Classes.{is_wide, begins_symbol, begins_point, leads_zero}
use Rattle.smt_sexp.specs.Lexicon.{Front, Said, token, fault, word, bad_byte, too_wide, open_token, wide, clash, numeral_front, decimal_front, number_front, point_or_end, one_fault, quoted_front, string_text, string_front, keyword_front, run, is_digit, is_symbol_byte, is_white, front, ends, slash}
use Rattle.smt_sexp.specs.FrontOf.{IsFrontOf, IsPieceOf, FirstFault, at_once, after_leaf, number_at, decimal_at, quoted_at, string_at, keyword_at}
use Rattle.smt_sexp.specs.declared.tokens.Piece.{Piece}
use Rattle.smt_sexp.specs.declared.tokens.Piece.TheVariants as piece
use Rattle.smt_sexp.specs.declared.tokens.Lexeme.{Lexeme}
use Rattle.smt_sexp.specs.declared.leaf.Leaf as leaf
use Rattle.smt_sexp.specs.declared.leaf.Leaf.TheVariants as leaves
use Rattle.smt_sexp.proofs.Runs.{length_run, take_run}
use Rattle.smt_sexp.proofs.Strings.{goes_on, quoted_end, quoted_is}

-- a piece of this size tells of a front
pub make : (bytes : List ℕ) (f : Front) (n : ℕ) (p : Piece) (found : Lexeme) → found ≡ record { size = n; piece = p } → n ≡ f.size → 0 < n → n ≤ length bytes → IsPieceOf (length bytes) f p → IsFrontOf bytes f found
make bytes f n p found e size some within tells =
    subst (IsFrontOf bytes f) (sym e) (record { size = size; some = some; within = within; tells = tells })

-- ---- numbers

abbrev pub literal_says : Bool → Bool → ℕ → Leaf → List (ℕ × Said)
literal_says w c n l = cond w ((0, fault too_wide) ∷ []) [] ++ ((0, token (word l)) ∷ []) ++ cond c ((n, fault bad_byte) ∷ []) []

pub says_wide : (w c : Bool) (n : ℕ) (l : Leaf) → w ≡ true → FirstFault (literal_says w c n l) 0 too_wide
says_wide true c n l h = at_once
says_wide false c n l h = absurd (cc)

pub says_clash : (w c : Bool) (n : ℕ) (l : Leaf) → w ≡ false → c ≡ true → FirstFault (literal_says w c n l) n bad_byte
says_clash false true n l h k = after_leaf
says_clash true c n l h k = absurd (cc)
says_clash false false n l h k = absurd (cc)

pub says_leaf : (w c : Bool) (n : ℕ) (l : Leaf) → w ≡ false → c ≡ false → literal_says w c n l ≡ (0, token (word l)) ∷ []
says_leaf false false n l h k = refl
says_leaf true c n l h k = absurd (cc)
says_leaf false true n l h k = absurd (cc)

wide_by : {A : Type 0} (x y : A) (t : Bool) → cond t x y ≡ cond (not t) y x
wide_by x y true = refl
wide_by x y false = refl

abbrev wide_fault : List (ℕ × Said)
wide_fault = (0, fault too_wide) ∷ []

wide_is : (t : Bool) → cond t [] wide_fault ≡ cond (not t) wide_fault []
wide_is t = wide_by [] wide_fault t

clash_is : (n : ℕ) (rest : List ℕ) → clash n rest ≡ cond (begins_symbol rest) ((n, fault bad_byte) ∷ []) []
clash_is n [] = refl
clash_is n (b ∷ rest) = refl

pub numeral_says : (digits rest : List ℕ) → (numeral_front digits rest).says ≡ literal_says (is_wide digits []) (begins_symbol rest) (length digits) (numeral digits)
numeral_says digits rest =
    ap (λ c. wide digits 0 ++ ((0, token (word (numeral digits))) ∷ []) ++ c) (clash_is (length digits) rest) ∙
    ap (λ w. w ++ ((0, token (word (numeral digits))) ∷ []) ++ cond (begins_symbol rest) ((length digits, fault bad_byte) ∷ []) [])
    (ap (λ ds. wide ds 0) (sym (append-nil digits)) ∙ wide_is (nat_le (digits_value 10 (digits ++ [])) (10 ^ 36) && nat_le 0 36))

pub decimal_says : (digits decimals rest : List ℕ) → (decimal_front digits decimals rest).says ≡ literal_says (is_wide digits decimals) (begins_symbol rest) (length digits + 1 + length decimals) (decimal digits decimals)
decimal_says digits decimals rest =
    ap (λ c. wide (digits ++ decimals) (length decimals) ++ ((0, token (word (decimal digits decimals))) ∷ []) ++ c) (clash_is (length digits + 1 + length decimals) rest) ∙
    ap (λ w. w ++ ((0, token (word (decimal digits decimals))) ∷ []) ++ cond (begins_symbol rest) ((length digits + 1 + length decimals, fault bad_byte) ∷ []) [])
    (wide_is (nat_le (digits_value 10 (digits ++ decimals)) (10 ^ 36) && nat_le (length decimals) 36))

abbrev pub behind_point : List ℕ → List ℕ → Front
behind_point digits rest = decimal_front digits (run is_digit rest) (drop (length (run is_digit rest)) rest)

point_is : (digits rest : List ℕ) → point_or_end digits rest ≡ cond (begins_point rest) (behind_point digits (drop 1 rest)) (numeral_front digits rest)
point_is digits [] = refl
point_is digits (b ∷ rest) = refl

pub number_is : (digits rest : List ℕ) → number_front digits rest ≡ cond (leads_zero digits) (one_fault (length digits) 1 bad_byte) (cond (begins_point rest) (behind_point digits (drop 1 rest)) (numeral_front digits rest))
number_is [] rest = point_is [] rest
number_is (b ∷ []) rest = point_is (b ∷ []) rest
number_is (b ∷ c ∷ digits) rest = ap (cond (nat_eq b 48) (one_fault (length (b ∷ c ∷ digits)) 1 bad_byte)) (point_is (b ∷ c ∷ digits) rest)

pub at_true : {A : Type 0} (t : Bool) (x y : A) → t ≡ true → cond t x y ≡ x
at_true t x y h = ap (λ b. cond b x y) h

pub at_false : {A : Type 0} (t : Bool) (x y : A) → t ≡ false → cond t x y ≡ y
at_false t x y h = ap (λ b. cond b x y) h

-- a zero that goes on
pub number_zero : (bytes : List ℕ) → leads_zero (run is_digit bytes) ≡ true → number_at bytes ≡ one_fault (length (run is_digit bytes)) 1 bad_byte
number_zero bytes z = number_is (run is_digit bytes) (drop (length (run is_digit bytes)) bytes) ∙ at_true _ _ _ z

pub number_point : (bytes : List ℕ) (n : ℕ) → n ≡ length (run is_digit bytes) → leads_zero (run is_digit bytes) ≡ false → begins_point (drop n bytes) ≡ true → decimal_at n bytes ≡ number_at bytes
number_point bytes n e z p =
    sym (number_is (run is_digit bytes) (drop (length (run is_digit bytes)) bytes) ∙ at_false _ _ _ z ∙
    at_true _ _ _ (ap (λ m. begins_point (drop m bytes)) (sym e) ∙ p) ∙
    ap (λ ds. behind_point ds (drop 1 (drop (length (run is_digit bytes)) bytes))) (sym (take_run is_digit bytes)) ∙
    ap (behind_point (take (length (run is_digit bytes)) bytes)) (drop-drop 1 (length (run is_digit bytes)) bytes) ∙
    ap (λ m. decimal_at m bytes) (sym e))

pub number_whole : (bytes : List ℕ) (n : ℕ) → n ≡ length (run is_digit bytes) → leads_zero (run is_digit bytes) ≡ false → begins_point (drop n bytes) ≡ false →
    numeral_front (take n bytes) (drop n bytes) ≡ number_at bytes
number_whole bytes n e z p =
    sym (number_is (run is_digit bytes) (drop (length (run is_digit bytes)) bytes) ∙ at_false _ _ _ z ∙
    at_false _ _ _ (ap (λ m. begins_point (drop m bytes)) (sym e) ∙ p) ∙
    ap (λ ds. numeral_front ds (drop (length (run is_digit bytes)) bytes)) (sym (take_run is_digit bytes)) ∙
    ap (λ m. numeral_front (take m bytes) (drop m bytes)) (sym e))

-- ---- what is found

-- n bytes of a text are its digits
pub record Digits (bytes : List ℕ) (n : ℕ) : Type 0 where
  pub some : 0 < n
  pub whole : n ≡ length (run is_digit bytes)

pub digits_within : (bytes : List ℕ) (n : ℕ) → n ≡ length (run is_digit bytes) → n ≤ length bytes
digits_within bytes n e = omega (arith, length_run is_digit bytes)

length_front : (bytes : List ℕ) (n : ℕ) → n ≡ length (run is_digit bytes) → n ≡ length (take n bytes)
length_front bytes n e = sym (length-take-le n bytes (digits_within bytes n e))

pub numeral_wide : (bytes : List ℕ) (n : ℕ) (found : Lexeme) → 0 < n → n ≡ length (run is_digit bytes) → is_wide (take n bytes) [] ≡ true →
    found ≡ record { size = n; piece = piece.TooWide } → IsFrontOf bytes (numeral_front (take n bytes) (drop n bytes)) found
numeral_wide bytes n found some e w is =
    make bytes (numeral_front (take n bytes) (drop n bytes)) n piece.TooWide found is (length_front bytes n e) some (digits_within bytes n e)
    (subst (λ s. FirstFault s 0 too_wide) (sym (numeral_says (take n bytes) (drop n bytes))) (says_wide (is_wide (take n bytes) []) (begins_symbol (drop n bytes)) (length (take n bytes)) (numeral (take n bytes)) w))

pub numeral_clash : (bytes : List ℕ) (n : ℕ) (found : Lexeme) → 0 < n → n ≡ length (run is_digit bytes) → is_wide (take n bytes) [] ≡ false → begins_symbol (drop n bytes) ≡ true →
    found ≡ record { size = n; piece = piece.BadByte n } → IsFrontOf bytes (numeral_front (take n bytes) (drop n bytes)) found
numeral_clash bytes n found some e w c is =
    make bytes (numeral_front (take n bytes) (drop n bytes)) n (piece.BadByte n) found is (length_front bytes n e) some (digits_within bytes n e) (
      digits_within bytes n e,
      subst (λ s. FirstFault s n bad_byte) (sym (numeral_says (take n bytes) (drop n bytes)))
          (subst (λ m. FirstFault (literal_says (is_wide (take n bytes) []) (begins_symbol (drop n bytes)) m (numeral (take n bytes))) n bad_byte) (length_front bytes n e)
          (says_clash (is_wide (take n bytes) []) (begins_symbol (drop n bytes)) n (numeral (take n bytes)) w c)),
    )

pub numeral_leaf : (bytes : List ℕ) (n : ℕ) (found : Lexeme) → 0 < n → n ≡ length (run is_digit bytes) → is_wide (take n bytes) [] ≡ false → begins_symbol (drop n bytes) ≡ false →
    found ≡ record { size = n; piece = piece.Word (leaves.Numeral (take n bytes)) } → IsFrontOf bytes (numeral_front (take n bytes) (drop n bytes)) found
numeral_leaf bytes n found some e w c is =
    make bytes (numeral_front (take n bytes) (drop n bytes)) n (piece.Word (leaves.Numeral (take n bytes))) found is (length_front bytes n e) some (digits_within bytes n e)
    (numeral_says (take n bytes) (drop n bytes) ∙ says_leaf (is_wide (take n bytes) []) (begins_symbol (drop n bytes)) (length (take n bytes)) (numeral (take n bytes)) w c)

-- the parts of a decimal: n digits, the point, k digits
module _ (bytes : List ℕ) (n k : ℕ) (lt : n < length bytes) (whole : n ≡ length (run is_digit bytes)) (part : k ≡ length (run is_digit (drop (n + 1) bytes))) (found : Lexeme) where
  abbrev digits : List ℕ
  digits = take n bytes

  abbrev decimals : List ℕ
  decimals = run is_digit (drop (n + 1) bytes)

  abbrev rest : List ℕ
  rest = drop (length (run is_digit (drop (n + 1) bytes))) (drop (n + 1) bytes)

  abbrev size : ℕ
  size = n + 1 + k

  decimal_size : size ≡ length digits + 1 + length decimals
  decimal_size = let e = length_front bytes n whole in omega (arith, e, part)

  decimal_within : size ≤ length bytes
  decimal_within = omega (arith, length_run is_digit (drop (n + 1) bytes), length-drop (n + 1) bytes, part)

  pub decimal_wide : is_wide digits decimals ≡ true → found ≡ record { size = size; piece = piece.TooWide } → IsFrontOf bytes (decimal_at n bytes) found
  decimal_wide w is =
      make bytes (decimal_at n bytes) size piece.TooWide found is decimal_size (omega arith) decimal_within
      (subst (λ s. FirstFault s 0 too_wide) (sym (decimal_says digits decimals rest)) (says_wide (is_wide digits decimals) (begins_symbol rest) (length digits + 1 + length decimals) (decimal digits decimals) w))

  pub decimal_clash : is_wide digits decimals ≡ false → begins_symbol rest ≡ true → found ≡ record { size = size; piece = piece.BadByte size } → IsFrontOf bytes (decimal_at n bytes) found
  decimal_clash w c is =
      make bytes (decimal_at n bytes) size (piece.BadByte size) found is decimal_size (omega arith) decimal_within (
        decimal_within,
        subst (λ s. FirstFault s size bad_byte) (sym (decimal_says digits decimals rest))
            (subst (λ m. FirstFault (literal_says (is_wide digits decimals) (begins_symbol rest) m (decimal digits decimals)) size bad_byte) decimal_size
            (says_clash (is_wide digits decimals) (begins_symbol rest) size (decimal digits decimals) w c)),
      )

  pub decimal_leaf : is_wide digits decimals ≡ false → begins_symbol rest ≡ false → found ≡ record { size = size; piece = piece.Word (leaves.Decimal digits decimals) } → IsFrontOf bytes (decimal_at n bytes) found
  decimal_leaf w c is =
      make bytes (decimal_at n bytes) size (piece.Word (leaves.Decimal digits decimals)) found is decimal_size (omega arith) decimal_within
      (decimal_says digits decimals rest ∙ says_leaf (is_wide digits decimals) (begins_symbol rest) (length digits + 1 + length decimals) (decimal digits decimals) w c)

pub number_zero_found : (bytes : List ℕ) (n : ℕ) (found : Lexeme) → n ≡ length (run is_digit bytes) → leads_zero (take n bytes) ≡ true → 0 < length bytes →
    found ≡ record { size = n; piece = piece.BadByte 1 } → IsFrontOf bytes (number_at bytes) found
number_zero_found bytes n found e z some is =
    let text : take n bytes ≡ run is_digit bytes = ap (λ m. take m bytes) e ∙ take_run is_digit bytes in
    let more = two_digits (take n bytes) z in
    let front = length_front bytes n e in
    subst (λ f. IsFrontOf bytes f found) (sym (number_zero bytes (ap leads_zero (sym text) ∙ z)))
    (make bytes (one_fault (length (run is_digit bytes)) 1 bad_byte) n (piece.BadByte 1) found is e (omega arith) (digits_within bytes n e) (omega arith, at_once))
  where
    two_digits : (ds : List ℕ) → leads_zero ds ≡ true → 1 < length ds
    two_digits [] h = absurd (cc)
    two_digits (d ∷ []) h = absurd (cc)
    two_digits (c ∷ d ∷ ds) h = omega arith

pub keyword_none : (bytes : List ℕ) (found : Lexeme) → 0 < length bytes → length (run is_symbol_byte (drop 1 bytes)) ≡ 0 →
    found ≡ record { size = 1; piece = piece.BadByte 0 } → IsFrontOf bytes (keyword_at bytes) found
keyword_none bytes found some none is =
    subst (λ r. IsFrontOf bytes (keyword_front r) found) (sym (nil_from_length (run is_symbol_byte (drop 1 bytes)) none))
    (make bytes (one_fault 1 0 bad_byte) 1 (piece.BadByte 0) found is refl (omega arith) some (omega arith, at_once))

-- a quoted symbol: n bytes between its bars
module _ (bytes : List ℕ) (n : ℕ) (some : 0 < length bytes) (e : n ≡ length (run goes_on (drop 1 bytes))) (found : Lexeme) where
  quoted_front_is : quoted_at bytes ≡ quoted_front (length bytes) (quoted_end n (drop 1 bytes) (drop n (drop 1 bytes)))
  quoted_front_is = ap (quoted_front (length bytes)) (quoted_is (drop 1 bytes) ∙ ap (λ m. quoted_end m (drop 1 bytes) (drop m (drop 1 bytes))) (sym e))

  pub quoted_unended : n ≡ length (drop 1 bytes) → found ≡ record { size = length bytes; piece = piece.Unended } → IsFrontOf bytes (quoted_at bytes) found
  quoted_unended all is =
      subst (λ f. IsFrontOf bytes f found) (sym (quoted_front_is ∙ ap (λ r. quoted_front (length bytes) (quoted_end n (drop 1 bytes) r)) (drop_all n (drop 1 bytes) (omega arith))))
      (make bytes (one_fault (length bytes) 0 open_token) (length bytes) piece.Unended found is refl some (omega arith) (refl, refl))

  next : n < length (drop 1 bytes) → quoted_at bytes ≡ quoted_front (length bytes) (cond (nat_eq (get_or (drop 1 bytes) n 0) 92) (slash n) (ends (take n (drop 1 bytes))))
  next lt = quoted_front_is ∙ ap (λ r. quoted_front (length bytes) (quoted_end n (drop 1 bytes) r)) (drop_more (drop 1 bytes) n 0 lt)

  pub quoted_slash : n < length (drop 1 bytes) → nat_eq (get_or (drop 1 bytes) n 0) 92 ≡ true → found ≡ record { size = length bytes; piece = piece.BadByte (n + 1) } → IsFrontOf bytes (quoted_at bytes) found
  quoted_slash lt back is =
      subst (λ f. IsFrontOf bytes f found) (sym (next lt ∙ ap (λ t. quoted_front (length bytes) (cond t (slash n) (ends (take n (drop 1 bytes))))) back))
      (make bytes (one_fault (length bytes) (n + 1) bad_byte) (length bytes) (piece.BadByte (n + 1)) found is refl some (omega arith) (omega (arith, length-drop 1 bytes), at_once))

  pub quoted_ends : n < length (drop 1 bytes) → nat_eq (get_or (drop 1 bytes) n 0) 92 ≡ false → found ≡ record { size = n + 2; piece = piece.Word (leaves.Symbol (take n (drop 1 bytes))) } → IsFrontOf bytes (quoted_at bytes) found
  quoted_ends lt other is =
      subst (λ f. IsFrontOf bytes f found) (sym (next lt ∙ ap (λ t. quoted_front (length bytes) (cond t (slash n) (ends (take n (drop 1 bytes))))) other))
      (make bytes (quoted_front (length bytes) (ends (take n (drop 1 bytes)))) (n + 2) (piece.Word (leaves.Symbol (take n (drop 1 bytes)))) found is
      (ap (λ m. m + 2) (sym (length-take-le n (drop 1 bytes) (omega arith)))) (omega arith) (omega (arith, length-drop 1 bytes)) refl)

pub string_some : (bytes text : List ℕ) (size : ℕ) (found : Lexeme) → 0 < length bytes → Some (text, size) ≡ string_text (drop 1 bytes) → size ≤ length (drop 1 bytes) →
    found ≡ record { size = size + 1; piece = piece.Word (leaves.String text) } → IsFrontOf bytes (string_at bytes) found
string_some bytes text size found some e within is =
    subst (λ o. IsFrontOf bytes (string_front (length bytes) o) found) e
    (make bytes (string_front (length bytes) (Some (text, size))) (size + 1) (piece.Word (leaves.String text)) found is refl (omega arith) (omega (arith, length-drop 1 bytes)) refl)

-- a byte that begins nothing
pub bad_first : (b : ℕ) (bs : List ℕ) (found : Lexeme) → is_white b ≡ false → nat_eq b 59 ≡ false → nat_eq b 40 ≡ false → nat_eq b 41 ≡ false → is_digit b ≡ false → is_symbol_byte b ≡ false →
    nat_eq b 124 ≡ false → nat_eq b 34 ≡ false → nat_eq b 58 ≡ false → found ≡ record { size = 1; piece = piece.BadByte 0 } → IsFrontOf (b ∷ bs) (front b bs) found
bad_first b bs found h1 h2 h3 h4 h5 h6 h7 h8 h9 is =
    subst (λ f. IsFrontOf (b ∷ bs) f found)
    (sym (at_false _ _ _ h1 ∙ at_false _ _ _ h2 ∙ at_false _ _ _ h3 ∙ at_false _ _ _ h4 ∙ at_false _ _ _ h5 ∙ at_false _ _ _ h6 ∙ at_false _ _ _ h7 ∙ at_false _ _ _ h8 ∙ at_false _ _ _ h9))
    (make (b ∷ bs) (one_fault 1 0 bad_byte) 1 (piece.BadByte 0) found is refl (omega arith) (omega arith) (omega arith, at_once))

-- a leaf that takes n bytes
abbrev pub word_of : ℕ → leaf.Leaf → Lexeme
word_of n l = record { size = n; piece = piece.Word l }
