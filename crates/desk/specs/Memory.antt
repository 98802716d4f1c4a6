-- What the desks in memory tell.
use Rattle.std.specs.Prelude.{ℕ, List, [], Some, drop, map, string_bytes, Contains}
use Rattle.std.specs.declared.vec.Vec.{Vec}
use Rattle.std.specs.declared.alloc.Global.{Global}
use Rattle.desk.specs.declared.desk.Port.{Port}
use Rattle.desk.specs.declared.calls.Calls.{Calls}
use Rattle.desk.specs.declared.calls.Fault.{Fault}
use Rattle.desk.specs.Calls.{calls_on}
use Rattle.desk.specs.declared.memory.Source.{Source}
use Rattle.desk.specs.declared.memory.Start.{Start}
use Rattle.desk.specs.declared.memory.SteadyDesk.{SteadyDesk}
use Rattle.desk.specs.declared.memory.MemoryDesk.{MemoryDesk}
use Rattle.desk.specs.Sight.{Sight}

-- a port and the bytes of its name
abbrev pub start_of : Start → Port × List ℕ
start_of s = (s.port, string_bytes s.name)

-- what is left to read of a port's bytes
abbrev pub left_in : Source → List ℕ
left_in s = drop s.at s.bytes.items

-- the bytes of each certificate that is read at any place
abbrev pub parts_of : Vec (Vec ℕ Global) Global → List (List ℕ)
parts_of parts = map (λ part. part.items) parts.items

abbrev pub steady_sight : SteadyDesk → Sight
steady_sight d = record {
  script = Some (left_in d.script);
  cert_in = Some (left_in d.cert_in);
  parts = Some (parts_of d.parts);
  answer = Some d.answer.items;
  cert_out = Some d.cert_out.items;
  draft = Some d.draft.items;
  starts = Some (map start_of d.starts.items);
  in_faults = 0;
  out_faults = 0;
}

abbrev pub memory_sight : MemoryDesk → Sight
memory_sight d = record (steady_sight d.steady) { in_faults = d.in_faults; out_faults = d.out_faults }

-- the calls that are to fail, in the order in which they were listed
abbrev pub faults_of : MemoryDesk → List Fault
faults_of d = d.faults.items

-- how many calls each port has seen
abbrev pub calls_of : MemoryDesk → Calls
calls_of d = d.calls

-- the next call on the port is one that is to fail
abbrev pub IsDue : MemoryDesk → Port → Type 0
IsDue d p = Contains (faults_of d) (record { port = p; call = calls_on p (calls_of d) })

-- these bytes to read, no certificate that is read at any place, nothing written or started, and no failure
abbrev pub unused_sight : List ℕ → List ℕ → Sight
unused_sight script cert_in = record {
  script = Some script;
  cert_in = Some cert_in;
  parts = Some [];
  answer = Some [];
  cert_out = Some [];
  draft = Some [];
  starts = Some [];
  in_faults = 0;
  out_faults = 0;
}
