use Rattle.std.proofs.Common.{◌≡◌, ℕ, ◌<◌, false, length, slice_index_or}
use Rattle.hm_linux.specs.WholeSnapshot.{torn_after}
use Rattle.hm_linux_steps.specs.Notes.{noted_in}
use Rattle.hm_linux_steps.proofs.noting.torn_after.Given as goal

abbrev pub invariant-loop-at : goal.invariant-loop-at
invariant-loop-at g l = record {
  len : length l.torn ≡ 16;
  so_far : (k : ℕ) → k < l.at → slice_index_or l.torn k false
      ≡ torn_after (g.W.Reads.program l.world) (record { state = g.W.Reads.state l.world; noted = noted_in l.notes }) l.actor l.kind k;
}
