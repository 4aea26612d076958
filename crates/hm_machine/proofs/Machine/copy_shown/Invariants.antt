use Rattle.std.proofs.Common.{◌≡◌, ℕ, ◌+◌, ◌<◌, get_or, true}
use Rattle.std.specs.Prelude.{is_some}
use Rattle.hm_history.specs.Memory.Plain.{rights_of}
use Rattle.hm_history.specs.Memory.Words.{page_of}
use Rattle.hm_world.specs.WorldValue.{now}
use Rattle.hm_machine.specs.Showing.{shown_at}
use Rattle.hm_machine.proofs.Machine.copy_shown.Given as goal

abbrev pub invariant-loop-at : goal.invariant-loop-at
invariant-loop-at g l = record {
  areas : (k : ℕ) → k < l.at → is_some (rights_of (now l.self).after.plain l.proc (page_of (l.addr + k))) ≡ true;
  bytes : (k : ℕ) → k < l.at → get_or l.into k 0 ≡ shown_at (now l.self).after l.proc (l.addr + k);
}
