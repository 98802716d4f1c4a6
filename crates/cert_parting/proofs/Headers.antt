-- What the first lines of a certificate say.
use Rattle.std.proofs.Common.{◌≡◌, ℕ, List, [], ◌∷◌, Option, Some, None, Result, Ok, Err, IfOk, map, refl, ap, ap₂, sym, ◌∙◌, subst}
use Rattle.cert_read.specs.CertLine.{CertLine, Parsed, line, parsed, too_long, bad_line, bad_number}
use Rattle.cert_read.specs.LineAnswers.{IsFault}
use Rattle.cert_read.specs.Reading.{IsLineAnswer, IsNextLine, lines_ahead}
use Rattle.cert_read.specs.State.{Reading}
use Rattle.cert_read.specs.Views.{line_of}
use Rattle.cert_read.specs.declared.fault.LineFault.{LineFault}
use Rattle.cert_read.specs.declared.fault.LineFault.TheVariants.{BadLine, BadNumber, LineTooLong, Memory}
use Rattle.cert_read.specs.declared.line.Line.{Line}
use Rattle.cert_parting.specs.Calls.{IsSilent, SaysNext}
use Rattle.cert_parting.specs.Parting.{bits_among, bits_of, bits_of_lines}

-- ---- the next line

pub next_is : (ls : List (List ℕ)) (old new : Reading) (o : Option Line) → IsNextLine ls old new (Ok o) → SaysNext ls new o
next_is [] old new None h = tt
next_is [] old new (Some said) h = let e : Ok (Some said) ≡ Ok None = h.0 in cc
next_is (l ∷ ls) old new None h = absurd h
next_is (l ∷ ls) old new (Some said) h = (l, ls, refl, h.0, h.2)

silent-if : (p : Parsed) (ls : List Parsed) (f : LineFault) → (f ≡ Memory → ⊥) → IsFault f p → IsSilent (p ∷ ls)
silent-if p ls BadLine other h = subst (λ (x : Parsed). IsSilent (x ∷ ls)) (sym h) tt
silent-if p ls BadNumber other h = subst (λ (x : Parsed). IsSilent (x ∷ ls)) (sym h) tt
silent-if p ls LineTooLong other h = subst (λ (x : Parsed). IsSilent (x ∷ ls)) (sym h) tt
silent-if p ls Memory other h = absurd (other refl)

pub next_faulty : (ls : List (List ℕ)) (old new : Reading) (f : LineFault) → (f ≡ Memory → ⊥) → IsNextLine ls old new (Err f) → SaysNext ls new None
next_faulty [] old new f other h = tt
next_faulty (l ∷ ls) old new f other h = silent-if (parsed l) (map parsed ls) f other h.0

-- ---- the bits

pub none_first : (ls : List Parsed) → IsSilent ls → bits_among ls ≡ None
none_first [] h = refl
none_first (line l ∷ ls) h = absurd h
none_first (too_long ∷ ls) h = refl
none_first (bad_line ∷ ls) h = refl
none_first (bad_number ∷ ls) h = refl

none_second : (l : CertLine) (ls : List Parsed) → IsSilent ls → bits_among (line l ∷ ls) ≡ None
none_second l [] h = refl
none_second l (line k ∷ ls) h = absurd h
none_second l (too_long ∷ ls) h = refl
none_second l (bad_line ∷ ls) h = refl
none_second l (bad_number ∷ ls) h = refl

none_third : (l k : CertLine) (ls : List Parsed) → IsSilent ls → bits_among (line l ∷ line k ∷ ls) ≡ None
none_third l k [] h = refl
none_third l k (line m ∷ ls) h = absurd h
none_third l k (too_long ∷ ls) h = refl
none_third l k (bad_line ∷ ls) h = refl
none_third l k (bad_number ∷ ls) h = refl

module _ (ls : List (List ℕ)) (r1 : Reading) (v : Line) (first : SaysNext ls r1 (Some v)) where
  parted : map parsed ls ≡ line (line_of v) ∷ map parsed (lines_ahead r1)
  parted =
      ap (map parsed) first.2
      ∙ ap₂ (λ (p : Parsed) (ps : List Parsed). p ∷ ps) first.3 (ap (map parsed) (sym first.4))

  pub bits_none_second : (r2 : Reading) → SaysNext (lines_ahead r1) r2 None → bits_of_lines ls ≡ None
  bits_none_second r2 h = ap bits_among parted ∙ none_second (line_of v) (map parsed (lines_ahead r1)) h

  module _ (r2 : Reading) (m : Line) (second : SaysNext (lines_ahead r1) r2 (Some m)) where
    parted-on : map parsed (lines_ahead r1) ≡ line (line_of m) ∷ map parsed (lines_ahead r2)
    parted-on =
        ap (map parsed) second.2
        ∙ ap₂ (λ (p : Parsed) (ps : List Parsed). p ∷ ps) second.3 (ap (map parsed) (sym second.4))

    front : map parsed ls ≡ line (line_of v) ∷ line (line_of m) ∷ map parsed (lines_ahead r2)
    front = parted ∙ ap (λ (ps : List Parsed). line (line_of v) ∷ ps) parted-on

    pub bits_none_third : (r3 : Reading) → SaysNext (lines_ahead r2) r3 None → bits_of_lines ls ≡ None
    bits_none_third r3 h = ap bits_among front ∙ none_third (line_of v) (line_of m) (map parsed (lines_ahead r2)) h

    pub bits_said : (r3 : Reading) (d : Line) → SaysNext (lines_ahead r2) r3 (Some d) → bits_of_lines ls ≡ bits_of (line_of m) (line_of d)
    bits_said r3 d h =
        ap bits_among front
        ∙ ap (λ (ps : List Parsed). bits_among (line (line_of v) ∷ line (line_of m) ∷ ps))
        (ap (map parsed) h.2 ∙ ap (λ (p : Parsed). p ∷ map parsed h.1) h.3)
