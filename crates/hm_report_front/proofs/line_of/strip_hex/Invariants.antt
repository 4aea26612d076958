use Rattle.std.proofs.Common.{◌≡◌, ◌++◌, take}
use Rattle.hm_script.specs.Spelling.{hex_text}
use Rattle.hm_report_front.proofs.line_of.strip_hex.Given as goal

abbrev pub invariant-loop-byte : goal.invariant-loop-byte
invariant-loop-byte l = l.text ≡ hex_text (take l.byte-index l.bytes) ++ l.rest
