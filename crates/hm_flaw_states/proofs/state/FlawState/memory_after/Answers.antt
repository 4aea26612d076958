use Rattle.std.proofs.Common.{◌+◌, refl, ap}
use Rattle.hm_history.specs.Memory.Sequences.{Sequences}
use Rattle.hm_flaw_states.specs.Joined.{joined}
use Rattle.hm_spaces.proofs.SpacesKept.{taken_fits}
use Rattle.hm_flaw_states.specs.States.{plain_in}
use Rattle.hm_flaw_states.proofs.Exacts.{paced_more}
use Rattle.hm_flaw_states.proofs.Nexts.{memory_on, windows_on}
use Rattle.hm_flaw_states.proofs.state.FlawState.memory_after.Goals as goal

pub invariant_of-result : goal.invariant_of-result
invariant_of-result c =
    let p = c.in_ok-processes in
    let l = c.in_ok-locking in
    let e = c.args.entry.now in
    record {
      windows = windows_on c.args.self.now e.actor e.kind p.processes.mirrors.value l.locking.seqs.value.kept.intervals p.ensures.mirrors (ap (λ (s : Sequences). s.interval) (l.ensures.seqs e.actor));
      paced = l.ensures.paced c.args.self.now.entries c.args.self.now.paced;
    }

pub returns : goal.returns
returns c = λ t.
    let p = c.in_ok-processes in
    let l = c.in_ok-locking in
    let e = c.args.entry.now in
    memory_on c.args.self.now e (joined (record {
      entries = c.args.self.now.entries + 1;
      been = c.been_after.result;
      processes = p.processes;
      pages = c.in_ok-pages.pages;
      devices = c.in_ok-devices.devices;
      locking = l.locking;
      windows = windows_on c.args.self.now e.actor e.kind p.processes.mirrors.value l.locking.seqs.value.kept.intervals p.ensures.mirrors (ap (λ (s : Sequences). s.interval) (l.ensures.seqs e.actor));
      paced = l.ensures.paced c.args.self.now.entries c.args.self.now.paced;
    }) t) (record {
      entries = refl;
      been = c.been_after.ensures;
      spaces = c.in_ok-processes.ensures.spaces;
      bytes = c.in_ok-processes.ensures.bytes;
      mirrors = c.in_ok-processes.ensures.mirrors;
      place = c.in_ok-pages.ensures.place;
      placed = c.in_ok-pages.ensures.placed;
      held = c.in_ok-pages.ensures.held;
      commits = c.in_ok-pages.ensures.commits;
      withdrawn = c.in_ok-devices.ensures.withdrawn;
      removed = c.in_ok-devices.ensures.removed;
      table = c.in_ok-devices.ensures.table;
      frames = c.in_ok-locking.ensures.frames;
      maps = c.in_ok-locking.ensures.maps;
      seqs = c.in_ok-locking.ensures.seqs;
      guards = c.in_ok-locking.ensures.guards;
      contents = c.in_ok-devices.ensures.contents;
    })

pub processes_after-requires : goal.processes_after-requires
processes_after-requires c = record { areas = taken_fits (plain_in c.args.self.now) c.args.entry.now.kind c.requires.answers; page = c.requires.page }

pub locking_after-requires : goal.locking_after-requires
locking_after-requires c = paced_more c.args.self.now.seqs.value.kept c.args.self.now.entries 2000000 c.requires.room c.args.self.now.paced
