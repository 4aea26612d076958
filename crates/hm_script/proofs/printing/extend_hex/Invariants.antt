use Rattle.std.proofs.Common.{◌≡◌, ◌++◌, take}
use Rattle.hm_script.specs.Spelling.{hex_text}
use Rattle.hm_script.proofs.printing.extend_hex.Given as goal

-- the digits of the bytes so far were added
abbrev pub invariant-loop-byte : goal.invariant-loop-byte
invariant-loop-byte l = l.text ≡ l.fn.text ++ hex_text (take l.byte-index l.bytes)
