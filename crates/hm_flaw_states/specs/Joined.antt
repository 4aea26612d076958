-- A state made of its parts.
use Rattle.hm_flaw_states.specs.declared.groups.ActorParts.{ActorParts}
use Rattle.hm_flaw_states.specs.declared.groups.MemoryParts.{MemoryParts}
use Rattle.hm_flaw_states.specs.declared.state.FlawState.{FlawState}

-- the state of these parts
abbrev pub joined : MemoryParts → ActorParts → FlawState
joined m a = record {
  entries = m.entries;
  been = m.been;
  spaces = m.processes.spaces;
  bytes = m.processes.bytes;
  mirrors = m.processes.mirrors;
  places = m.pages.places;
  placed = m.pages.placed;
  held = m.pages.held;
  commits = m.pages.commits;
  marks = m.devices.marks;
  tables = m.devices.tables;
  locks = m.locking.locks;
  maps = m.locking.maps;
  seqs = m.locking.seqs;
  guards = m.locking.guards;
  contents = m.devices.contents;
  tasks = a.tasks;
  few = a.few;
  windows = m.windows;
  paced = m.paced;
}
