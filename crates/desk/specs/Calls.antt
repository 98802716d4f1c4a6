-- How many calls a port has seen.
use Rattle.std.specs.Prelude.{◌≡◌, ◌+◌, ◌-◌, ◌^◌, ℕ, min}
use Rattle.desk.specs.declared.desk.Port.{Port}
use Rattle.desk.specs.declared.desk.Port.TheVariants.{Script, CertIn, Part, Answer, CertOut, Draft}
use Rattle.desk.specs.declared.calls.Calls.{Calls}

abbrev pub calls_on : Port → Calls → ℕ
calls_on Script c = c.script
calls_on CertIn c = c.cert_in
calls_on Part c = c.part
calls_on Answer c = c.answer
calls_on CertOut c = c.cert_out
calls_on Draft c = c.draft

-- one more call on a port, up to the last number of 64 bits
abbrev pub IsCounted : Port → Calls → Calls → Type 0
IsCounted p old new = calls_on p new ≡ min (calls_on p old + 1) (2 ^ 64 - 1)

abbrev pub no_calls : Calls
no_calls = record { script = 0; cert_in = 0; part = 0; answer = 0; cert_out = 0; draft = 0 }
