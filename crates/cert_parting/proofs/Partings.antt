-- The headers of certificates that were read, one after the other.
use Rattle.std.proofs.Common.{◌≡◌, ◌≢◌, ◌<◌, ◌≤◌, ◌+◌, ℕ, zero, suc, List, [], ◌∷◌, ◌++◌, Option, Some, None, IfSome, length, take, drop, refl, ap, sym, ◌∙◌, subst, arith, take-append-drop, take_all, take-take}
use Rattle.std.specs.Prelude.{slice_get}
use Rattle.std.specs.List.{AllByRecursion}
use Rattle.desk.specs.Sight.{Sight, IsFront, PartStep, part_in}
use Rattle.cert_parting.specs.Parting.{AreAgreed, IsFirstApart, bits_in, header_room, line_apart}
use Rattle.cert_parting.specs.Calls.{IsPartingOn}
use Rattle.cert_parting.specs.declared.parting.Place.{Place}
use Rattle.cert_parting.proofs.Fronts.{IsBehind, IsFrontOf, Split, front_end, front_start, front_step, longer, over_some, split_at, told_there}

-- ---- the front of one

pub record IsFrontRead (number : ℕ) (front : List ℕ) (old now : Sight) : Type 0 where
  pub same : now ≡ old
  pub front_is : IfSome (part_in number old) (IsFrontOf front)

pub front_begun : (number : ℕ) (front : List ℕ) (d : Sight) → front ≡ [] → IsFrontRead number front d d
front_begun number front d none = record { same = refl; front_is = subst (λ (l : List ℕ). IfSome (part_in number d) (IsFrontOf l)) (sym none) (front_start (part_in number d)) }

module _ (number n at : ℕ) (front buffer : List ℕ) (old now new : Sight) (so_far : IsFrontRead number front old now) (place : at ≡ length front) (step : PartStep number at n buffer now new) where
  behind-it : IfSome (part_in number old) (IsBehind front buffer n)
  behind-it =
      subst (λ (d : Sight). IfSome (part_in number d) (IsBehind front buffer n)) so_far.same
      (subst (λ (k : ℕ). IfSome (part_in number now) (λ held. IsFront n (length buffer) buffer (drop k held))) place step.front)

  pub front_more : (more : List ℕ) → more ≡ front ++ take n buffer → IsFrontRead number more old new
  front_more more e = record {
    same = step.same ∙ so_far.same;
    front_is = subst (λ (l : List ℕ). IfSome (part_in number old) (IsFrontOf l)) (sym e) (front_step front buffer n (part_in number old) so_far.front_is behind-it step.fits);
  }

  pub front_whole : n ≡ 0 → 0 < length buffer → length front < header_room → IfSome (part_in number old) (λ cert. front ≡ take header_room cert)
  front_whole none room short =
      over_some (part_in number old) (λ held. front ≡ held) (λ cert. front ≡ take header_room cert)
      (λ held e. e ∙ sym (take_all header_room held (subst (λ (l : List ℕ). length l ≤ header_room) e (omega (arith, short)))))
      (front_end front buffer n (part_in number old) none room so_far.front_is behind-it)

pub front_long : (number : ℕ) (front cut : List ℕ) (old now : Sight) → IsFrontRead number front old now → header_room ≤ length front → cut ≡ take header_room front →
    IfSome (part_in number old) (λ cert. cut ≡ take header_room cert)
front_long number front cut old now so_far long e =
    over_some (part_in number old) (IsFrontOf front) (λ cert. cut ≡ take header_room cert)
    (λ held h. e ∙ ap (take header_room) h.1 ∙ take-take header_room (length front) held long) so_far.front_is

-- ---- one after the other

-- those before a number agree with the first, whose bits are these
pub record AgreedSoFar (first : Option (ℕ × ℕ)) (number count : ℕ) (old now : Sight) : Type 0 where
  pub same : now ≡ old
  pub some : 0 < number
  pub within : number ≤ count
  pub bits : IfSome (part_in 0 old) (λ cert. first ≡ bits_in cert)
  pub agreed : (parts : List (List ℕ)) → old.parts ≡ Some parts → length parts ≡ count → AreAgreed (take number parts)

agreed-one : (parts : List (List ℕ)) → AreAgreed (take 1 parts)
agreed-one [] = tt
agreed-one (x ∷ parts) = tt

pub agreed_first : (first : Option (ℕ × ℕ)) (count : ℕ) (old now : Sight) → 0 < count → now ≡ old → IfSome (part_in 0 old) (λ cert. first ≡ bits_in cert) → AgreedSoFar first 1 count old now
agreed_first first count old now some same bits = record { same = same; some = omega arith; within = omega (arith, some); bits = bits; agreed = λ parts e n. agreed-one parts }

all-more : (P : List ℕ → Type 0) (xs : List (List ℕ)) (x : List ℕ) → AllByRecursion P xs → P x → AllByRecursion P (xs ++ x ∷ [])
all-more P [] x all h = (h, tt)
all-more P (y ∷ xs) x all h = (all.0, all-more P xs x all.1 h)

-- the first among those before a number
record HasFirst (parts before : List (List ℕ)) : Type 0 where
  first : List ℕ
  others : List (List ℕ)
  here : before ≡ first ∷ others
  is_first : slice_get parts 0 ≡ Some first

has-first : (parts : List (List ℕ)) (k : ℕ) → 0 < k → k < length parts → HasFirst parts (take k parts)
has-first [] k some less = absurd (omega (arith, less))
has-first (x ∷ parts) zero some less = absurd (omega (arith, some))
has-first (x ∷ parts) (suc k) some less = record { first = x; others = take k parts; here = refl; is_first = refl }

module _ (first bits : Option (ℕ × ℕ)) (number count : ℕ) (old now new : Sight) (so_far : AgreedSoFar first number count old now) (less : number < count) (told : IfSome (part_in number now) (λ cert. bits ≡ bits_in cert)) where
  module _ (parts : List (List ℕ)) (e : old.parts ≡ Some parts) (n : length parts ≡ count) where
    split : Split parts number
    split = split_at parts number (omega (arith, n, less))

    begun : HasFirst parts (take number parts)
    begun = has-first parts number so_far.some (omega (arith, n, less))

    bits-here : bits ≡ bits_in split.cert
    bits-here = told_there (λ cert. bits ≡ bits_in cert) number now parts split.cert (ap (λ (d : Sight). d.parts) so_far.same ∙ e) split.is_there told

    bits-first : first ≡ bits_in begun.first
    bits-first = told_there (λ cert. first ≡ bits_in cert) 0 old parts begun.first e begun.is_first so_far.bits

    agreed-front : AreAgreed (begun.first ∷ begun.others)
    agreed-front = subst AreAgreed begun.here (so_far.agreed parts e n)

    agreed-more : bits ≡ first → AreAgreed (take (suc number) parts)
    agreed-more same =
        subst AreAgreed (sym (split.more ∙ ap (λ (l : List (List ℕ)). l ++ split.cert ∷ []) begun.here))
        (all-more (λ (bytes : List ℕ). bits_in bytes ≡ bits_in begun.first) begun.others split.cert agreed-front (sym bits-here ∙ same ∙ bits-first))

    apart-here : (k line : ℕ) → k ≡ suc number → bits ≢ first → line ≡ line_apart first bits → IsFirstApart parts k line
    apart-here k line later other said = record {
      first = begun.first;
      before = begun.others;
      cert = split.cert;
      behind = split.behind;
      all = split.all ∙ ap (λ (l : List (List ℕ)). l ++ split.cert ∷ split.behind) begun.here;
      number = let long : suc (length begun.others) ≡ number = sym (ap (λ (l : List (List ℕ)). length l) begun.here) ∙ split.number in omega (arith, long, later);
      same = agreed-front;
      other = λ same. other (bits-here ∙ same ∙ sym bits-first);
      line_is = said ∙ ap (λ (o : Option (ℕ × ℕ)). line_apart o bits) bits-first ∙ ap (line_apart (bits_in begun.first)) bits-here;
    }

  pub agreed_next : (later : ℕ) → later ≡ suc number → new ≡ now → bits ≡ first → AgreedSoFar first later count old new
  agreed_next later e same alike = record {
    same = same ∙ so_far.same;
    some = omega (arith, e);
    within = omega (arith, e, less);
    bits = so_far.bits;
    agreed = λ parts f n. subst (λ (k : ℕ). AreAgreed (take k parts)) (sym e) (agreed-more parts f n alike);
  }

  pub apart_next : (place : Place) → place.number ≡ suc number → bits ≢ first → place.line ≡ line_apart first bits → IsPartingOn count old (Some place)
  apart_next place later other said = λ parts e n. apart-here parts e n place.number place.line later other said

pub all_agreed : (first : Option (ℕ × ℕ)) (number count : ℕ) (old now : Sight) → AgreedSoFar first number count old now → count ≤ number → IsPartingOn count old None
all_agreed first number count old now so_far over = λ parts e n. subst AreAgreed (take_all number parts (omega (arith, n, over))) (so_far.agreed parts e n)

pub none_agreed : (count : ℕ) (old : Sight) → count ≡ 0 → IsPartingOn count old None
none_agreed count old none = λ parts e n. empty parts (n ∙ none) where
  empty : (parts : List (List ℕ)) → length parts ≡ 0 → AreAgreed parts
  empty [] h = tt
  empty (x ∷ parts) h = absurd (omega (arith, h))
