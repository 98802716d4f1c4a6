-- What a share is read from.
use Rattle.std.proofs.Common.{◌≡◌, ◌<◌, ℕ, Bool, true, false, List, Option, Some, None, refl, sym, ap, ap₂, length, nat_lt, arith, ◌==◌, ◌∙◌}
use Rattle.std.specs.Prelude.{option_map, if◌then◌else◌, MatchOption}
use Rattle.std.specs.Borrow.{Bor}
use Rattle.std.specs.List.{position_or_len, before_first, after_first}
use Rattle.std.proofs.lemmas.Bool.Decides.{nat_tests}
use Rattle.std.proofs.lemmas.Str.Pattern.{IsSplitOnceResult, split_once_first}
use Rattle.clap.specs.Words.{Text}
use Rattle.command_line.specs.Words.{parts_of, is_slash}

abbrev seen_parts : Bor (List ℕ) × Bor (List ℕ) → Text × Text
seen_parts x = (x.0.now, x.1.now)

within : (m n : ℕ) → m < n → nat_lt m n ≡ true
within m n h = grind (arith, nat_tests)

not_within : (m n : ℕ) → m ≡ n → nat_lt m n ≡ false
not_within m n h = grind (arith, nat_tests)

pub parts_are : (text : Text) (r : Option (Bor (List ℕ) × Bor (List ℕ)))
    → MatchOption r (position_or_len is_slash text ≡ length text) (λ x. (position_or_len is_slash text < length text) × (x.0.now ≡ before_first is_slash text) × (x.1.now ≡ after_first is_slash text))
    → option_map seen_parts r ≡ parts_of text
unfolding parts_of
parts_are text None h = rw (not_within _ _ h) refl
parts_are text (Some x) h = rw (within _ _ h.0) (ap₂ (λ (a b : Text). Some (a, b)) h.1 h.2)

-- from the clause of `split_once`
pub split_is : (text : Text) (r : Option (Bor (List ℕ) × Bor (List ℕ))) → IsSplitOnceResult 47 text r → option_map seen_parts r ≡ parts_of text
split_is text r h = parts_are text r (split_once_first 47 text r h (omega arith))
