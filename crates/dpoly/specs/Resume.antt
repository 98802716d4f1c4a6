-- A certificate that goes on from one that was read.
use Rattle.std.specs.Prelude.{◌≡◌, ℕ, List, Option, Result, Ok, Err}
use Rattle.command_line.specs.Words.{Resume}
use Rattle.poly_graph.specs.Problem.{Problem}
use Rattle.cover_model.specs.State.{Loosenings}
use Rattle.cert_model.specs.Due.{Standing, Value}
use Rattle.cert_model.specs.Accepted.{IsAccepted, verdict}
use Rattle.cert_check.specs.declared.fault.CertFault.{CertFault}
use Rattle.cert_check.specs.Feeding.{IsRefusalOrMemory}
use Rattle.cert_base.specs.declared.base.Base.{Base}
use Rattle.cert_base.specs.Base.{IsBase}
use Rattle.cert_resume.specs.Answer.{TellsOfOwn}
use Rattle.cert_resume.specs.declared.answer.Cover.{Cover}
use Rattle.cert_resume.specs.declared.request.Request.{Request}
use Rattle.check_run.specs.Resumed.{IsMore, share_of, share_text}
use Rattle.dpoly.specs.declared.answers.SearchAnswer.{SearchAnswer}

-- what the words ask of the search
abbrev pub request_of : Resume → Request
request_of words = record {
  least_bits = words.least_bits;
  budget = words.budget;
  workers = words.workers;
  share = record { number = words.share.number; count = words.share.count };
}

-- the certificate and the answer go on from one that is accepted
pub record TellsMore (p : Problem) (b : Option ℕ) (words : Resume) (cert_in : List ℕ) (told : SearchAnswer) : Type 0 where
  pub loosenings : Loosenings
  pub read : Value
  pub accepted : IsAccepted p b cert_in loosenings read
  pub more : IsMore p b words cert_in loosenings read told.cert.items told.text.items

-- so it is, or the certificate has the fault, or there was no memory
abbrev pub IsToldMore : Problem → Option ℕ → Resume → List ℕ → Result SearchAnswer CertFault → Type 0
IsToldMore p b words cert_in (Ok told) = TellsMore p b words cert_in told
IsToldMore p b words cert_in (Err f) = IsRefusalOrMemory (verdict p b cert_in) f

-- the base is that of some certificate
abbrev pub IsSomeBase : Problem → Base → Type 0
IsSomeBase p base = (bytes : List ℕ) × IsBase p base.bound bytes base

-- the text of the answer, of whatever states the cover tells of, at this margin
abbrev pub SaysShare : Problem → Resume → ℕ → Cover → List ℕ → Type 0
SaysShare p words margin_bits x text = (s : Loosenings) → s.margin_bits ≡ margin_bits → (own : List Standing) → TellsOfOwn x.own own → text ≡ share_text p words.budget (share_of words) s own x.others
