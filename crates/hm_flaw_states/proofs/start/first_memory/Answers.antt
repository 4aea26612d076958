use Rattle.std.proofs.Common.{refl}
use Rattle.hm_flaw_states.specs.Joined.{joined}
use Rattle.hm_flaw_states.proofs.Exacts.{paced_first}
use Rattle.hm_flaw_states.proofs.Nexts.{starts_on, windows_first}
use Rattle.hm_flaw_states.proofs.start.first_memory.Goals as goal

pub invariant_of-result : goal.invariant_of-result
invariant_of-result c = record {
  windows = windows_first _ c.in_ok-locking.locking.seqs.value.kept c.in_ok-processes.ensures.mirrors c.in_ok-locking.ensures.seqs;
  paced = paced_first c.in_ok-locking.locking.seqs.value.kept c.in_ok-locking.ensures.seqs;
}

pub returns : goal.returns
returns c = λ p t goings.
    starts_on p (joined (record {
      entries = 0;
      been = c.first_been.result;
      processes = c.in_ok-processes.processes;
      pages = c.in_ok-pages.pages;
      devices = c.in_ok-devices.devices;
      locking = c.in_ok-locking.locking;
      windows = windows_first _ c.in_ok-locking.locking.seqs.value.kept c.in_ok-processes.ensures.mirrors c.in_ok-locking.ensures.seqs;
      paced = paced_first c.in_ok-locking.locking.seqs.value.kept c.in_ok-locking.ensures.seqs;
    }) t) (record {
      entries = refl;
      been = c.first_been.ensures;
      spaces = c.in_ok-processes.ensures.spaces;
      bytes = c.in_ok-processes.ensures.bytes;
      mirrors = c.in_ok-processes.ensures.mirrors;
      places = c.in_ok-pages.ensures.places;
      placed = c.in_ok-pages.ensures.placed;
      held = c.in_ok-pages.ensures.held;
      commits = c.in_ok-pages.ensures.commits;
      withdrawn = c.in_ok-devices.ensures.withdrawn;
      removed = c.in_ok-devices.ensures.removed;
      tables = c.in_ok-devices.ensures.tables;
      locks = c.in_ok-locking.ensures.locks;
      maps = c.in_ok-locking.ensures.maps;
      seqs = c.in_ok-locking.ensures.seqs;
      guards = c.in_ok-locking.ensures.guards;
      contents = c.in_ok-devices.ensures.contents;
      goings = goings;
    })
