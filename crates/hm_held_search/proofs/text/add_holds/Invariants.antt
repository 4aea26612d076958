use Rattle.std.proofs.Common.{◌≡◌, ◌++◌, take}
use Rattle.hm_held_search.specs.Text.{hold_lines}
use Rattle.hm_held_search.proofs.text.add_holds.Given as goal

-- the lines of the holds so far
abbrev pub invariant-loop-hold : goal.invariant-loop-hold
invariant-loop-hold l = l.text ≡ l.fn.text ++ hold_lines (take l.hold-index l.holds)
