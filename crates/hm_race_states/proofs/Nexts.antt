-- A state after an entry, part by part.
use Rattle.std.proofs.Common.{◌≡◌, ℕ, ◌==◌, ◌&&◌, if◌then◌else◌, Bool, true, false, Option, Some, None, [], map, refl, sym, ap, ◌∙◌}
use Rattle.std.proofs.Math.Path.{fun_ext}
use Rattle.std.specs.Rc.{rc_value}
use Rattle.hm_base.specs.Pages.{covers}
use Rattle.hm_base.specs.Program.{Program}
use Rattle.hm_base.specs.declared.Frame.{Frame}
use Rattle.hm_base.specs.declared.Place.{Place}
use Rattle.hm_history.specs.Memory.Contents.{zeros}
use Rattle.hm_history.specs.Memory.Plain.{Plain, MirrorState, plain_start, plain_next, owner, written_for}
use Rattle.hm_history.specs.Memory.Places.{Places, TableEntry, places_next}
use Rattle.hm_history.specs.Memory.Sequences.{Sequences, sequences_start, sequences_next}
use Rattle.hm_history.specs.Memory.Locks.{Locks, locks_start, map_next, frame_next, frame_placed, left_behind, orphan, with_lock}
use Rattle.hm_history.specs.Memory.Words.{names}
use Rattle.hm_base.specs.declared.ops.Op.{Op}
use Rattle.hm_history.specs.Kernel.Going.{State, Going, first_stack, op_at, going_next, state_start, state_next}
use Rattle.hm_history.specs.declared.Who.{Who}
use Rattle.hm_history.specs.declared.Kind.{Kind}
use Rattle.hm_history.specs.declared.Entry.{Entry}
use Rattle.hm_history.specs.declared.locks.MapLock.{MapLock}
use Rattle.hm_race_laws.specs.Positions.{placeless, forget_going, forget_stack}
use Rattle.hm_race_laws.specs.Numbers.{mirror_of, small_going, small_stack}
use Rattle.hm_race_laws.specs.Blur.{tidied, unlisted}
use Rattle.hm_race_keys.specs.FrameTables.{held_in, lockers_in}
use Rattle.hm_race_keys.specs.PagePlaces.{places_in}
use Rattle.hm_race_keys.specs.TableEntries.{table_in, entry_of}
use Rattle.hm_race_keys.specs.Sparse.{found}
use Rattle.hm_race_keys.specs.declared.table_entries.Mapping.{Mapping}
use Rattle.hm_race_keys.specs.Trail.{place_next, held_next, withdrawn_next, removed_next, table_next, lockers_next, entry_old}
use Rattle.hm_race_states.specs.Afters.{bytes_next}
use Rattle.hm_race_states.specs.Goings.{blurred_goings, goings_with}
use Rattle.hm_race_states.specs.Bytes.{bytes_in}
use Rattle.hm_race_states.specs.Mirrors.{mirrors_in}
use Rattle.hm_race_states.specs.Parts.{joined, ProcessesStart, PlacesStart, ActorsStart, ProcessesGo, PlacesGo, ActorsGo}
use Rattle.hm_race_states.specs.Small.{kept_seqs, settled, unguarded}
use Rattle.hm_race_states.specs.Spaces.{bare}
use Rattle.hm_race_states.specs.States.{goings_in, state_in}
use Rattle.hm_race_states.specs.declared.parts.ActorParts.{ActorParts}
use Rattle.hm_race_states.specs.declared.parts.PlaceParts.{PlaceParts}
use Rattle.hm_race_states.specs.declared.parts.ProcessParts.{ProcessParts}
use Rattle.hm_race_states.specs.declared.state.RaceState.{RaceState}
use Rattle.hm_race_states.proofs.Blurring.{unguarded_going}
use Rattle.hm_race_states.proofs.Seens.{orphans}
use Rattle.hm_folds.proofs.PlainParts.{mirrors_alone}

-- a state that has these parts
abbrev state_by : Plain → (ℕ → ℕ → ℕ) → (ℕ → Option MirrorState) → (ℕ → ℕ → Place) → (Frame → Bool) → (ℕ → Bool) → (ℕ → Bool) → (ℕ → ℕ → Option TableEntry) → Sequences → (ℕ → Option MapLock) → (Frame → Option ℕ) → (ℕ → Going) → State
state_by s bytes mirrors place held withdrawn removed table q map frame going = record {
  after = record {
    length = 0;
    plain = record { there = s.there; named = s.named; been = λ p. false; areas = s.areas; bytes = bytes; mirrors = mirrors };
    places = record { place = place; placed = []; held = held; committed_to = λ f. None; withdrawn = withdrawn; removed = removed; table = table; device = λ m. None };
    sequences = q;
    locks = record { map = map; frame = frame };
    contents = λ f. zeros;
  };
  going = going;
}

same_by : {x0 y0 : Plain} {x1 y1 : ℕ → ℕ → ℕ} {x2 y2 : ℕ → Option MirrorState} {x3 y3 : ℕ → ℕ → Place} {x4 y4 : Frame → Bool} {x5 y5 x6 y6 : ℕ → Bool} {x7 y7 : ℕ → ℕ → Option TableEntry} {x8 y8 : Sequences} {x9 y9 : ℕ → Option MapLock} {xa ya : Frame → Option ℕ} {xb yb : ℕ → Going}
    → x0 ≡ y0 → x1 ≡ y1 → x2 ≡ y2 → x3 ≡ y3 → x4 ≡ y4 → x5 ≡ y5 → x6 ≡ y6 → x7 ≡ y7 → x8 ≡ y8 → x9 ≡ y9 → xa ≡ ya → xb ≡ yb
    → state_by x0 x1 x2 x3 x4 x5 x6 x7 x8 x9 xa xb ≡ state_by y0 y1 y2 y3 y4 y5 y6 y7 y8 y9 ya yb
same_by {x0} {y0} {x1} {y1} {x2} {y2} {x3} {y3} {x4} {y4} {x5} {y5} {x6} {y6} {x7} {y7} {x8} {y8} {x9} {y9} {xa} {ya} {xb} {yb} e0 e1 e2 e3 e4 e5 e6 e7 e8 e9 ea eb =
    ap (λ (z : Plain). state_by z x1 x2 x3 x4 x5 x6 x7 x8 x9 xa xb) e0
    ∙ (ap (λ (z : ℕ → ℕ → ℕ). state_by y0 z x2 x3 x4 x5 x6 x7 x8 x9 xa xb) e1
    ∙ (ap (λ (z : ℕ → Option MirrorState). state_by y0 y1 z x3 x4 x5 x6 x7 x8 x9 xa xb) e2
    ∙ (ap (λ (z : ℕ → ℕ → Place). state_by y0 y1 y2 z x4 x5 x6 x7 x8 x9 xa xb) e3
    ∙ (ap (λ (z : Frame → Bool). state_by y0 y1 y2 y3 z x5 x6 x7 x8 x9 xa xb) e4
    ∙ (ap (λ (z : ℕ → Bool). state_by y0 y1 y2 y3 y4 z x6 x7 x8 x9 xa xb) e5
    ∙ (ap (λ (z : ℕ → Bool). state_by y0 y1 y2 y3 y4 y5 z x7 x8 x9 xa xb) e6
    ∙ (ap (λ (z : ℕ → ℕ → Option TableEntry). state_by y0 y1 y2 y3 y4 y5 y6 z x8 x9 xa xb) e7
    ∙ (ap (λ (z : Sequences). state_by y0 y1 y2 y3 y4 y5 y6 y7 z x9 xa xb) e8
    ∙ (ap (λ (z : ℕ → Option MapLock). state_by y0 y1 y2 y3 y4 y5 y6 y7 y8 z xa xb) e9
    ∙ (ap (λ (z : Frame → Option ℕ). state_by y0 y1 y2 y3 y4 y5 y6 y7 y8 y9 z xb) ea
    ∙ ap (λ (z : ℕ → Going). state_by y0 y1 y2 y3 y4 y5 y6 y7 y8 y9 ya z) eb))))))))))

spaces_go : (s : Plain) (k : Kind) → bare (plain_next (bare s) k) ≡ bare (plain_next s k)
spaces_go s (Kind.Mapped p r w) = refl
spaces_go s (Kind.Unmapped p r) = refl
spaces_go s (Kind.Protected p r w) = refl
spaces_go s (Kind.Stored x at bs) = refl
spaces_go s (Kind.Added m at was now) = refl
spaces_go s (Kind.Named p child) = refl
spaces_go s (Kind.Forked p child) = refl
spaces_go s (Kind.Exited p) = refl
spaces_go s (Kind.Attached m d p r q) = refl
spaces_go s (Kind.Detaching m q) = refl
spaces_go s (Kind.Detached m) = refl
spaces_go s _ = refl

owner_goes : (s : Plain) (x : Who) → owner (record plain_start { bytes = s.bytes; mirrors = s.mirrors }) x ≡ owner s x
owner_goes s (Who.Cpu p) = refl
owner_goes s (Who.Mirror m) = refl

bytes_go : (s : Plain) (k : Kind) → bytes_next s.bytes s.mirrors k ≡ (plain_next s k).bytes
bytes_go s (Kind.Mapped p r w) = refl
bytes_go s (Kind.Stored x at bs) = ap (λ o. written_for s.bytes o at bs) (owner_goes s x)
bytes_go s (Kind.Added m at was now) = refl
bytes_go s (Kind.Forked p child) = refl
bytes_go s _ = refl

place_goes : (t : Places) (k : Kind) → place_next t.place k ≡ (places_next t k).place
place_goes t (Kind.Place p v x) = refl
place_goes t _ = refl

held_goes : (t : Places) (k : Kind) → held_next t.held k ≡ (places_next t k).held
held_goes t (Kind.Take f) = refl
held_goes t (Kind.Drop f) = refl
held_goes t _ = refl

withdrawn_goes : (t : Places) (k : Kind) → withdrawn_next t.withdrawn k ≡ (places_next t k).withdrawn
withdrawn_goes t (Kind.Withdrawn d) = refl
withdrawn_goes t _ = refl

removed_goes : (t : Places) (k : Kind) → removed_next t.removed k ≡ (places_next t k).removed
removed_goes t (Kind.Removed d) = refl
removed_goes t _ = refl

pub map_goes : (s : Locks) (a : ℕ) (k : Kind) → map_next (record locks_start { map = s.map }) a k ≡ map_next s a k
map_goes s a (Kind.Rlock p) = refl
map_goes s a (Kind.Wlock p) = refl
map_goes s a _ = refl

left_goes : (s : Locks) (t : Places) (o : Option Frame) → left_behind (record locks_start { frame = s.frame }) t o ≡ left_behind s t o
left_goes s t None = refl
left_goes s t (Some f) = refl

placed_goes : (s : Locks) (old : Place) (a : ℕ) (y : Place) → frame_placed (record locks_start { frame = s.frame }) old a y ≡ frame_placed s old a y
placed_goes s Place.Empty a Place.Empty = refl
placed_goes s Place.Empty a Place.Zero = refl
placed_goes s Place.Empty a (Place.Sys k x) = refl
placed_goes s Place.Empty a (Place.Own e k x) = refl
placed_goes s Place.Empty a (Place.Moving g x) = refl
placed_goes s Place.Empty a (Place.Exclusive k i) = refl
placed_goes s Place.Zero a Place.Empty = refl
placed_goes s Place.Zero a Place.Zero = refl
placed_goes s Place.Zero a (Place.Sys k x) = refl
placed_goes s Place.Zero a (Place.Own e k x) = refl
placed_goes s Place.Zero a (Place.Moving g x) = refl
placed_goes s Place.Zero a (Place.Exclusive k i) = refl
placed_goes s (Place.Sys n w) a Place.Empty = refl
placed_goes s (Place.Sys n w) a Place.Zero = refl
placed_goes s (Place.Sys n w) a (Place.Sys k x) = refl
placed_goes s (Place.Sys n w) a (Place.Own e k x) = refl
placed_goes s (Place.Sys n w) a (Place.Moving g x) = refl
placed_goes s (Place.Sys n w) a (Place.Exclusive k i) = refl
placed_goes s (Place.Own d n w) a Place.Empty = refl
placed_goes s (Place.Own d n w) a Place.Zero = refl
placed_goes s (Place.Own d n w) a (Place.Sys k x) = refl
placed_goes s (Place.Own d n w) a (Place.Own e k x) = refl
placed_goes s (Place.Own d n w) a (Place.Moving g x) = refl
placed_goes s (Place.Own d n w) a (Place.Exclusive k i) = refl
placed_goes s (Place.Moving f w) a Place.Empty = refl
placed_goes s (Place.Moving f w) a Place.Zero = refl
placed_goes s (Place.Moving f w) a (Place.Sys k x) = refl
placed_goes s (Place.Moving f w) a (Place.Own e k x) = refl
placed_goes s (Place.Moving f w) a (Place.Moving g x) = refl
placed_goes s (Place.Moving f w) a (Place.Exclusive k i) = refl
placed_goes s (Place.Exclusive n b) a Place.Empty = refl
placed_goes s (Place.Exclusive n b) a Place.Zero = refl
placed_goes s (Place.Exclusive n b) a (Place.Sys k x) = refl
placed_goes s (Place.Exclusive n b) a (Place.Own e k x) = refl
placed_goes s (Place.Exclusive n b) a (Place.Moving g x) = refl
placed_goes s (Place.Exclusive n b) a (Place.Exclusive k i) = refl

-- the frame that an entry leaves without a name
orphan_goes : (s : Locks) (t : Places) (k : Kind) → orphan (record locks_start { frame = s.frame }) t k ≡ orphan s t k
orphan_goes s t (Kind.Place p v x) = left_goes s (places_next t (Kind.Place p v x)) (names (t.place p v))
orphan_goes s t _ = refl

lockers_go : (s : Locks) (t : Places) (a : ℕ) (k : Kind) → lockers_next s.frame a k (entry_old t.place k) (orphan (record locks_start { frame = s.frame }) t k) ≡ frame_next s t a k
lockers_go s t a (Kind.Take f) = refl
lockers_go s t a (Kind.Done f) = refl
lockers_go s t a (Kind.Drop f) = refl
lockers_go s t a (Kind.Place p v x) = ap (λ f. with_lock f (orphan (record locks_start { frame = s.frame }) t (Kind.Place p v x)) (Some a)) (placed_goes s (t.place p v) a x) ∙ ap (λ o. with_lock (frame_placed s (t.place p v) a x) o (Some a)) (orphan_goes s t (Kind.Place p v x))
lockers_go s t a _ = refl

without_from : (b : Bool) (x y : TableEntry) (z : Option TableEntry) → placeless (Some y) ≡ Some x → (if b then Some x else placeless z) ≡ placeless (if b then Some y else z)
without_from true x y z e = sym e
without_from false x y z e = refl

erased_from : (b : Bool) (z : Option TableEntry) → (if b then None else placeless z) ≡ placeless (if b then None else z)
erased_from true z = refl
erased_from false z = refl

table_goes : (t : Places) (k : Kind) → table_next (λ m v. placeless (t.table m v)) k ≡ (λ m v. placeless ((places_next t k).table m v))
table_goes t (Kind.Set m v f w from) = fun_ext (λ q. fun_ext (λ u. without_from ((q == m) && (u == v)) (record { target = f; right = w; from = 0 }) (record { target = f; right = w; from = from }) (t.table q u) refl))
table_goes t (Kind.Told m r q) = fun_ext (λ k. fun_ext (λ u. erased_from ((k == m) && covers r u) (t.table k u)))
table_goes t (Kind.Detaching m q) = fun_ext (λ k. fun_ext (λ u. erased_from ((k == m) && true) (t.table k u)))
table_goes t (Kind.Detached m) = fun_ext (λ k. fun_ext (λ u. erased_from ((k == m) && true) (t.table k u)))
table_goes t _ = refl

-- what is kept of a table has no positions
entry_plain : (o : Option Mapping) → entry_of o ≡ placeless (entry_of o)
entry_plain None = refl
entry_plain (Some x) = refl

table_plain : (x : RaceState) → table_in x.tables.value ≡ (λ m v. placeless (table_in x.tables.value m v))
table_plain x = fun_ext (λ m. fun_ext (λ v. entry_plain (found x.tables.value m v)))

-- what is kept after an entry, group by group, is the next state without positions and absolute sequences
pub record PartsGo (c : Program) (x : RaceState) (e : Entry) (p : ProcessParts) (q : PlaceParts) (a : ActorParts) : Type 0 where
  pub processes : ProcessesGo x e.kind p
  pub places : PlacesGo x e.actor e.kind q
  pub actors : ActorsGo x e.actor e.kind a
  pub seqs : kept_seqs p.seqs.value ≡ settled (sequences_next (kept_seqs x.seqs.value) e.actor e.kind)
  pub goings : (n : ℕ) → goings_in (map rc_value a.tasks.items) n
      ≡ blurred_goings c (sequences_next (kept_seqs x.seqs.value) e.actor e.kind) (state_next c (state_in x) e).going n

module _ (c : Program) (x : RaceState) (e : Entry) (p : ProcessParts) (q : PlaceParts) (a : ActorParts) (g : PartsGo c x e p q a) where
  abbrev u : State
  u = state_in x

  lockers : lockers_in q.locks.value ≡ frame_next u.after.locks u.after.places e.actor e.kind
  lockers = g.places.locks ∙ (ap (λ o. lockers_next u.after.locks.frame e.actor e.kind (entry_old u.after.places.place e.kind) o) (orphans x e.kind) ∙ lockers_go u.after.locks u.after.places e.actor e.kind)

  tables : table_in q.tables.value ≡ (λ m v. placeless ((places_next u.after.places e.kind).table m v))
  tables = g.places.table ∙ (ap (λ f. table_next f e.kind) (table_plain x) ∙ table_goes u.after.places e.kind)

  pub parts_on : unlisted (state_in (joined p q a)) ≡ tidied c (state_next c (state_in x) e)
  parts_on = same_by
      (g.processes.spaces ∙ spaces_go u.after.plain e.kind)
      (g.processes.bytes ∙ bytes_go u.after.plain e.kind)
      (g.processes.mirrors ∙ mirrors_alone u.after.plain e.kind)
      (g.places.place ∙ place_goes u.after.places e.kind)
      (g.places.held ∙ held_goes u.after.places e.kind)
      (g.actors.withdrawn ∙ withdrawn_goes u.after.places e.kind)
      (g.actors.removed ∙ removed_goes u.after.places e.kind)
      tables
      g.seqs
      (g.actors.maps ∙ map_goes u.after.locks e.actor e.kind)
      lockers
      (fun_ext g.goings)

-- actors after one of them went on
pub goings_on : (c : Program) (x : RaceState) (e : Entry) (s : Sequences) (g : Going) → s ≡ unguarded (sequences_next (kept_seqs x.seqs.value) e.actor e.kind) → g ≡ going_next c (state_in x).after e.actor ((state_in x).going e.actor) e.kind
    → (a : ℕ) → blurred_goings c s (goings_with (map rc_value x.tasks.items) e.actor g) a ≡ blurred_goings c (sequences_next (kept_seqs x.seqs.value) e.actor e.kind) (state_next c (state_in x) e).going a
goings_on c x e s g se ge a =
    ap (λ (z : Sequences). blurred_goings c z (goings_with (map rc_value x.tasks.items) e.actor g) a) se
    ∙ (unguarded_going c (sequences_next (kept_seqs x.seqs.value) e.actor e.kind) a (goings_with (map rc_value x.tasks.items) e.actor g a)
    ∙ ap (λ (z : Going). forget_going (small_going c (sequences_next (kept_seqs x.seqs.value) e.actor e.kind) a (goings_with (map rc_value x.tasks.items) e.actor z a))) ge)

-- the first phases have neither positions nor sequences
first_same : (s : Sequences) (m : ℕ) (o : Option Op) → first_stack o ≡ forget_stack (small_stack s m (first_stack o))
first_same s m None = refl
first_same s m (Some (Op.Load p at n)) = refl
first_same s m (Some (Op.Store p at bs)) = refl
first_same s m (Some (Op.DeviceLoad d at n)) = refl
first_same s m (Some (Op.DeviceStore d at bs)) = refl
first_same s m (Some (Op.Add d at k)) = refl
first_same s m (Some (Op.Evict d)) = refl
first_same s m (Some (Op.Remove d)) = refl
first_same s m (Some _) = refl

-- what is kept before the first entry, group by group
pub starts_on : (c : Program) (p : ProcessParts) (q : PlaceParts) (r : ActorParts) → ProcessesStart p → PlacesStart q → ActorsStart c r
    → unlisted (state_in (joined p q r)) ≡ tidied c (state_start c)
starts_on c p q r sp sq sr = same_by sp.spaces (ap bytes_in sp.bytes) (ap mirrors_in sp.mirrors) (ap places_in sq.places) (ap held_in sq.held) (fun_ext sr.withdrawn) (fun_ext sr.removed) (ap table_in sq.tables) sp.seqs (fun_ext sr.maps) (ap lockers_in sq.locks)
    (fun_ext (λ a. sr.goings a ∙ ap {B = Going} (λ z. record { index = 0; stack = z; pages = [] }) (first_same sequences_start (mirror_of (op_at c a 0)) (op_at c a 0))))
