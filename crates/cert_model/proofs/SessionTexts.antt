-- The texts of parts: accepted, with the lines of the main trees where they stand.
use Rattle.std.proofs.Common.{◌≡◌, ℕ, List, [], ◌∷◌, Bool, Option, Some, map, ◌∙◌}
use Rattle.std.specs.Prelude.{slice_get}
use Rattle.poly_graph.specs.Problem.{Problem}
use Rattle.cover_model.specs.State.{Loosenings}
use Rattle.cert_read.specs.CertLine.{CertLine}
use Rattle.cert_model.specs.Due.{Standing}
use Rattle.cert_model.specs.Accepted.{lines_course, certificate_text}
use Rattle.cert_model.specs.Laws.{CanBeWritten}
use Rattle.cert_model.specs.Session.{session_next, session_start, session_ended, session_verdict, AreAccepted, stands_in, session_standing}
use Rattle.cert_model.specs.SessionLaws.{WrittenPart, session_lines, session_text, AreLawfulParts, values_of_parts, standings_of_parts, is_session_header}
use Rattle.cert_model.proofs.Spells.{verdict_spelled, standing_spelled}
use Rattle.cert_model.proofs.SessionWrites.{parts_accepted, parts_stand}

module _ (p : Problem) (e : Bool) (next : Problem × Bool) (later : List (Problem × Bool)) (b : Option ℕ) where
  pub session_text_has_lines : (ls : List CertLine) → CanBeWritten ls →
      session_verdict ((p, e) ∷ next ∷ later) b (certificate_text ls) ≡ session_ended (lines_course (session_next p (next ∷ later) b) 0 session_start ls)
  session_text_has_lines ls h = verdict_spelled (session_next p (next ∷ later) b) session_ended session_start ls h.0 h.1

  module _ (s : Loosenings) (parts : List WrittenPart) (f : is_session_header s) (g : AreLawfulParts s p [] (next ∷ later) parts) (h : CanBeWritten (session_lines s b parts)) where
    pub session_accepted : AreAccepted ((p, e) ∷ next ∷ later) b (session_text s b parts) s (values_of_parts s p (next ∷ later) parts)
    session_accepted = session_text_has_lines (session_lines s b parts) h ∙ parts_accepted p (next ∷ later) b s parts f g

    pub session_stands : (k : ℕ) (xs : List Standing) → slice_get (standings_of_parts s p (next ∷ later) parts) k ≡ Some xs →
        session_standing ((p, e) ∷ next ∷ later) b (session_text s b parts) k ≡ map (λ (x : Standing). record { loosenings = s; line = x }) xs
    session_stands k xs i =
        standing_spelled (session_next p (next ∷ later) b) (stands_in k) session_start (session_lines s b parts) h.0
        ∙ parts_stand p (next ∷ later) b k s parts f g xs i
