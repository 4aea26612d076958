-- A state before the first entry, and after an entry, from its parts.
use Rattle.std.proofs.Common.{◌≡◌, ℕ, ◌+◌, false, Option, None, List, [], map, refl, sym, ap, ◌∙◌}
use Rattle.std.proofs.Math.Path.{fun_ext}
use Rattle.std.specs.Rc.{rc_value}
use Rattle.hm_base.specs.Program.{Program}
use Rattle.hm_history.specs.Memory.Plain.{Plain, MirrorState, plain_start, plain_next}
use Rattle.hm_history.specs.Memory.Places.{places_next}
use Rattle.hm_history.specs.Memory.Sequences.{Sequences, Interval, sequences_start, sequences_next}
use Rattle.hm_history.specs.Memory.Locks.{map_next, frame_next}
use Rattle.hm_history.specs.Memory.Contents.{contents_next}
use Rattle.hm_history.specs.Memory.After.{After, after_entry}
use Rattle.hm_history.specs.Kernel.Going.{State, Going, going_from, state_start}
use Rattle.hm_history.specs.declared.Entry.{Entry}
use Rattle.hm_history.specs.declared.Kind.{Kind}
use Rattle.hm_folds.proofs.PlainParts.{same_plain, been_alone}
use Rattle.hm_folds.proofs.SeqSteps.{same_state}
use Rattle.hm_folds.specs.Been.{been_of, been_next}
use Rattle.hm_folds.specs.Kept.{interval_at}
use Rattle.hm_folds.specs.declared.intervals.KeptInterval.{KeptInterval}
use Rattle.hm_race_keys.specs.Arrays.{flag_in, lock_in}
use Rattle.hm_race_keys.specs.FrameTables.{held_in, lockers_in}
use Rattle.hm_race_keys.specs.PagePlaces.{places_in}
use Rattle.hm_race_keys.specs.declared.sparse.Item.{Item}
use Rattle.hm_race_states.specs.Bytes.{bytes_in}
use Rattle.hm_race_states.specs.Mirrors.{mirrors_in}
use Rattle.hm_race_states.specs.Small.{unguarded}
use Rattle.hm_flaw_states.specs.Exact.{exact_in}
use Rattle.hm_race_states.specs.Spaces.{bare, spaces_in}
use Rattle.hm_race_states.specs.States.{goings_in}
use Rattle.hm_race_states.specs.declared.mirrors.RaceMirror.{RaceMirror}
use Rattle.hm_flaw_states.specs.declared.exact_seqs.ExactParts.{ExactParts}
use Rattle.hm_flaw_states.specs.FrameBytes.{contents_in}
use Rattle.hm_flaw_states.specs.OwnTables.{table_in}
use Rattle.hm_flaw_states.specs.Commits.{commits_in, commits_next}
use Rattle.hm_flaw_states.specs.Placed.{pages_in, placed_next}
use Rattle.hm_flaw_states.specs.Seqs.{guards_in, seqs_in}
use Rattle.hm_flaw_states.specs.States.{device_of, plain_in, all_places, locks_in, state_in}
use Rattle.hm_flaw_states.specs.Windows.{SameWindows, window_of, window_in}
use Rattle.hm_flaw_states.specs.declared.state.FlawState.{FlawState}
use Rattle.hm_flaw_states.proofs.Wholes.{same_places, same_locks, same_after}
use Rattle.hm_flaw_states.proofs.Erasing.{no_bytes}
use Rattle.hm_flaw_states.proofs.NextParts.{placed_goes, commits_go, seqs_go}
use Rattle.hm_flaw_states.proofs.Windows.{devices_go, windows_go}

-- ---- after an entry

-- what is kept after an entry, part by part
pub record PartsGo (x : FlawState) (e : Entry) (y : FlawState) : Type 0 where
  pub entries : y.entries ≡ x.entries + 1
  pub been : been_of y.been ≡ been_next (been_of x.been) e.kind
  pub spaces : spaces_in y.spaces.value ≡ bare (plain_next (plain_in x) e.kind)
  pub bytes : bytes_in y.bytes.value ≡ (plain_next (plain_in x) e.kind).bytes
  pub mirrors : mirrors_in y.mirrors.value ≡ (plain_next (plain_in x) e.kind).mirrors
  pub place : places_in y.places.value ≡ (places_next (all_places x) e.kind).place
  pub placed : pages_in y.placed.value.pages.items ≡ placed_next (pages_in x.placed.value.pages.items) e.kind
  pub held : held_in y.held.value ≡ (places_next (all_places x) e.kind).held
  pub commits : commits_in y.commits.value ≡ commits_next (commits_in x.commits.value) e.kind
  pub withdrawn : flag_in y.marks.value.withdrawn ≡ (places_next (all_places x) e.kind).withdrawn
  pub removed : flag_in y.marks.value.removed ≡ (places_next (all_places x) e.kind).removed
  pub table : table_in y.tables.value ≡ (places_next (all_places x) e.kind).table
  pub frames : lockers_in y.locks.value ≡ frame_next (locks_in x) (all_places x) e.actor e.kind
  pub maps : lock_in y.maps.value.locks ≡ map_next (locks_in x) e.actor e.kind
  pub seqs : (a : ℕ) → exact_in y.seqs.value.kept ≡ unguarded (sequences_next (exact_in x.seqs.value.kept) a e.kind)
  pub guards : guards_in y.guards.value.guards.items ≡ (sequences_next (seqs_in x.seqs.value x.guards.value) e.actor e.kind).guard
  pub contents : contents_in y.contents.value ≡ contents_next (plain_in x) (all_places x) (contents_in x.contents.value) e.kind

module _ (x : FlawState) (e : Entry) (y : FlawState) (p : PartsGo x e y) where
  plain_on : plain_in y ≡ plain_next (plain_in x) e.kind
  plain_on = same_plain _ _ (ap (λ (z : Plain). z.there) p.spaces) (ap (λ (z : Plain). z.named) p.spaces) (p.been ∙ been_alone (plain_in x) e.kind) (ap (λ (z : Plain). z.areas) p.spaces) p.bytes p.mirrors

  places_on : all_places y ≡ places_next (all_places x) e.kind
  places_on = same_places _ _ p.place (p.placed ∙ placed_goes (all_places x) e.kind) p.held (p.commits ∙ commits_go (all_places x) e.kind) p.withdrawn p.removed p.table
      (ap (λ (f : ℕ → Option MirrorState). λ (m : ℕ). device_of (f m)) p.mirrors ∙ devices_go (plain_in x) (all_places x) e.kind refl)

  seqs_on : seqs_in y.seqs.value y.guards.value ≡ sequences_next (seqs_in x.seqs.value x.guards.value) e.actor e.kind
  seqs_on = seqs_go (seqs_in x.seqs.value x.guards.value) (seqs_in y.seqs.value y.guards.value) e.actor e.kind (p.seqs e.actor) p.guards

  pub memory_on : (state_in y).after ≡ after_entry (state_in x).after e
  memory_on = same_after _ _ p.entries plain_on places_on seqs_on (same_locks _ _ p.maps p.frames) p.contents

-- mirrors and intervals after an entry have the same windows
pub windows_on : (x : FlawState) (a : ℕ) (k : Kind) (ms : List (Item RaceMirror)) (xs : List (Option KeptInterval)) → mirrors_in ms ≡ (plain_next (plain_in x) k).mirrors → interval_at xs ≡ (sequences_next (exact_in x.seqs.value.kept) a k).interval → SameWindows ms xs
windows_on x a k ms xs e h m =
    ap (λ (f : ℕ → Option MirrorState). window_of (f m)) e
    ∙ (windows_go (plain_in x) (exact_in x.seqs.value.kept) a k x.windows m ∙ sym (ap (λ (f : ℕ → Option Interval). window_in (f m)) h))

-- ---- before the first entry

-- before the first entry neither mirrors nor intervals have windows
pub windows_first : (ms : List (Item RaceMirror)) (x : ExactParts) → ms ≡ [] → exact_in x ≡ sequences_start → SameWindows ms x.intervals
windows_first ms x none start m = ap (λ (xs : List (Item RaceMirror)). window_of (mirrors_in xs m)) none ∙ sym (ap (λ (s : Sequences). window_in (s.interval m)) start)

-- what is kept before the first entry, part by part
pub record PartsStart (c : Program) (y : FlawState) : Type 0 where
  pub entries : y.entries ≡ 0
  pub been : been_of y.been ≡ plain_start.been
  pub spaces : spaces_in y.spaces.value ≡ bare plain_start
  pub bytes : y.bytes.value ≡ []
  pub mirrors : y.mirrors.value ≡ []
  pub places : y.places.value ≡ []
  pub placed : pages_in y.placed.value.pages.items ≡ []
  pub held : y.held.value ≡ []
  pub commits : y.commits.value ≡ []
  pub withdrawn : (d : ℕ) → flag_in y.marks.value.withdrawn d ≡ false
  pub removed : (d : ℕ) → flag_in y.marks.value.removed d ≡ false
  pub tables : y.tables.value ≡ []
  pub locks : y.locks.value ≡ []
  pub maps : (a : ℕ) → lock_in y.maps.value.locks a ≡ None
  pub seqs : exact_in y.seqs.value.kept ≡ sequences_start
  pub guards : (a : ℕ) → guards_in y.guards.value.guards.items a ≡ None
  pub contents : y.contents.value ≡ []
  pub goings : (a : ℕ) → goings_in (map rc_value y.tasks.items) a ≡ going_from c a 0

abbrev whole_made : After → (ℕ → Going) → State
whole_made a b = record { after = a; going = b }

pub same_whole : (s t : State) → s.after ≡ t.after → s.going ≡ t.going → s ≡ t
same_whole s t a b = ap (λ x. whole_made x s.going) a ∙ ap (λ x. whole_made t.after x) b

pub starts_on : (c : Program) (y : FlawState) → PartsStart c y → state_in y ≡ state_start c
starts_on c y p = same_whole _ _
    (same_after _ _ p.entries
    (same_plain _ _ (ap (λ (z : Plain). z.there) p.spaces) (ap (λ (z : Plain). z.named) p.spaces) p.been (ap (λ (z : Plain). z.areas) p.spaces) (ap bytes_in p.bytes) (ap mirrors_in p.mirrors))
    (same_places _ _ (ap places_in p.places) p.placed (ap held_in p.held) (ap commits_in p.commits) (fun_ext p.withdrawn) (fun_ext p.removed) (ap table_in p.tables)
    (ap (λ (ms : List (Item RaceMirror)). λ (m : ℕ). device_of (mirrors_in ms m)) p.mirrors))
    (same_state _ _ (ap (λ (z : Sequences). z.seq) p.seqs) (ap (λ (z : Sequences). z.active) p.seqs) (ap (λ (z : Sequences). z.interval) p.seqs) (fun_ext p.guards))
    (same_locks _ _ (fun_ext p.maps) (ap lockers_in p.locks))
    (ap contents_in p.contents ∙ no_bytes))
    (fun_ext p.goings)
