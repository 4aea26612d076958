use Rattle.std.proofs.Common.{◌<◌, ℕ, List, ◌∷◌, length, take}
use Rattle.hm_script.specs.Spelling.{hex_text}
use Rattle.hm_io.specs.Streams.{SinkState}
use Rattle.hm_report.specs.Sends.{GoesOn}
use Rattle.hm_report.proofs.outlet.put_hex.Given as goal

-- the digits so far were added
pub record SoFar (before now : SinkState) (kept keeps bytes : List ℕ) (count : ℕ) : Type 0 where
  pub goes : GoesOn before now kept keeps (32 ∷ hex_text (take count bytes))
  pub room : length keeps < 8192

abbrev pub invariant-loop-byte : goal.invariant-loop-byte
invariant-loop-byte g l =
    SoFar (g.K.Sink.state l.fn.sink) (g.K.Sink.state l.sink) l.fn.out l.out l.bytes l.byte-index
