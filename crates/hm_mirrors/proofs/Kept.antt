-- The mirrors go on showing those of the history, whatever the entry.
use Rattle.std.proofs.Common.{◌≡◌, ℕ, ◌<◌, Bool, true, false, ◌==◌, if◌then◌else◌, Option, Some, None, is_none, List, length, refl, sym, ap, subst, ◌∙◌, arith}
use Rattle.std.specs.Prelude.{option_map}
use Rattle.hm_base.specs.Pages.{Pages, covers}
use Rattle.hm_base.specs.declared.Frame.{Frame}
use Rattle.hm_history.specs.Memory.Words.{with_at}
use Rattle.hm_history.specs.Memory.Plain.{Plain, MirrorState, mirror_passes, with_attachment, plain_next}
use Rattle.hm_history.specs.Memory.Places.{Places, TableEntry, with_entry, erased_table, places_next}
use Rattle.hm_history.specs.declared.Kind.{Kind}
use Rattle.hm_history.specs.declared.TableRight.{TableRight}
use Rattle.mirror_tables.specs.Entries as kept
use Rattle.mirror_tables.specs.declared.entry.MirrorEntry.{MirrorEntry}
use Rattle.hm_mirrors.specs.Entries.{entry_for, shown_entry, is_kept_right}
use Rattle.hm_mirrors.specs.Mirrors.{mirror_at, entry_in, with_mirror, attached, standing_as, erased_in, set_in, with_room, changed_mirror, mirrors_next, reserved}
use Rattle.hm_mirrors.specs.Shown.{attachment_of, state_of, HasWindow, MirrorsShown, MirrorsFit}
use Rattle.hm_mirrors.specs.declared.info.MirrorStage.{MirrorStage}
use Rattle.hm_mirrors.specs.declared.info.Mirror.{Mirror}
use Rattle.hm_mirrors.proofs.Tables.{entry_set, entry_erased, shown_kept, erased_here, erased_else, set_here, set_else}
use Rattle.hm_history.proofs.Updates.{other_at, here_at, with_case, at_set, len_set}

-- what one mirror shows
abbrev pub state_in : Option Mirror → Option MirrorState
state_in o = option_map state_of (option_map (λ x. x.info) o)

abbrev pub shown_in : ℕ → Option Mirror → Option TableEntry
shown_in v o = option_map shown_entry (entry_in v o)

abbrev pub device_in : Option Mirror → Option ℕ
device_in o = option_map (λ x. x.device) (option_map (λ x. x.info) o)

-- from one state to another mirror m changes to x
record IsChange (m : ℕ) (x : Option Mirror) (mirrors next_mirrors : ℕ → Option MirrorState) (table next_table : ℕ → ℕ → Option TableEntry) (device next_device : ℕ → Option ℕ) : Type 0 where
  state_here : m < 32 → state_in x ≡ next_mirrors m
  window_here : m < 32 → HasWindow x
  entry_here : (v : ℕ) → m < 32 → shown_in v x ≡ next_table m v
  device_here : m < 32 → device_in x ≡ next_device m
  state_else : (k : ℕ) → (k ≡ m → ⊥) → next_mirrors k ≡ mirrors k
  entry_else : (k v : ℕ) → (k ≡ m → ⊥) → next_table k v ≡ table k v
  device_else : (k : ℕ) → (k ≡ m → ⊥) → next_device k ≡ device k

each_of : (P : ℕ → Option Mirror → Type 0) (xs : List (Option Mirror)) (m : ℕ) (x : Option Mirror) → length xs ≡ 32 → (m < 32 → P m x) → ((k : ℕ) → (k ≡ m → ⊥) → k < 32 → P k (mirror_at xs k)) → (k : ℕ) → k < 32 → P k (mirror_at (with_mirror xs m x) k)
each_of P xs m x n here other k l =
    subst (P k) (sym (at_set (mirror_at xs) xs m x None k (omega (arith, n)) refl))
    (with_case P (mirror_at xs) m x k (λ e. here (omega arith)) (λ ne. other k ne l))

changed : (m : ℕ) (x : Option Mirror) (mirrors next_mirrors : ℕ → Option MirrorState) (table next_table : ℕ → ℕ → Option TableEntry) (device next_device : ℕ → Option ℕ) (xs : List (Option Mirror))
    → MirrorsShown mirrors table device xs → IsChange m x mirrors next_mirrors table next_table device next_device → MirrorsShown next_mirrors next_table next_device (with_mirror xs m x)
changed m x mirrors next_mirrors table next_table device next_device xs h c = record {
  len = len_set xs m x 32 h.len;
  infos = each_of (λ k o. state_in o ≡ next_mirrors k) xs m x h.len c.state_here (λ k ne l. h.infos k l ∙ sym (c.state_else k ne));
  windows = each_of (λ k o. HasWindow o) xs m x h.len c.window_here (λ k ne l. h.windows k l);
  entries = λ k v l. each_of (λ k o. shown_in v o ≡ next_table k v) xs m x h.len (c.entry_here v) (λ k ne l. h.entries k v l ∙ sym (c.entry_else k v ne)) k l;
  devices = each_of (λ k o. device_in o ≡ next_device k) xs m x h.len c.device_here (λ k ne l. h.devices k l ∙ sym (c.device_else k ne));
}

-- a mirror comes
none_in : (o : Option Mirror) → is_none (state_in o) ≡ true → o ≡ None
none_in None e = refl
none_in (Some x) e = absurd (let b : ⊥ = cc in b)

attached_kept : (s : Plain) (t : Places) (m d p : ℕ) (r : Pages) (xs : List (Option Mirror)) → MirrorsShown s.mirrors t.table t.device xs → is_none (s.mirrors m) ≡ true
    → MirrorsShown (with_at s.mirrors m (Some (record { dev = d; proc = p; window = r; stage = attachment_of MirrorStage.Attached }))) t.table (with_at t.device m (Some d)) (with_mirror xs m (Some (attached d p r)))
attached_kept s t m d p r xs h f = changed m (Some (attached d p r)) s.mirrors _ t.table t.table t.device _ xs h (record {
  state_here = λ l. sym (here_at s.mirrors m _);
  window_here = λ l. refl;
  entry_here = λ v l. let none = none_in (mirror_at xs m) (ap (λ o. is_none o) (h.infos m l) ∙ f) in sym (ap (shown_in v) none) ∙ h.entries m v l;
  device_here = λ l. sym (here_at t.device m (Some d));
  state_else = λ k ne. other_at s.mirrors m k _ ne;
  entry_else = λ k v ne. refl;
  device_else = λ k ne. other_at t.device m k (Some d) ne;
})

-- a mirror goes
standing_state : (a : MirrorStage) (o : Option Mirror) → state_in (option_map (standing_as a) o) ≡ with_attachment (attachment_of a) (state_in o)
standing_state a None = refl
standing_state a (Some x) = refl

standing_window : (a : MirrorStage) (o : Option Mirror) → HasWindow (option_map (standing_as a) o)
standing_window a None = tt
standing_window a (Some x) = refl

standing_entry : (a : MirrorStage) (v : ℕ) (o : Option Mirror) → shown_in v (option_map (standing_as a) o) ≡ None
standing_entry a v None = refl
standing_entry a v (Some x) = refl

standing_device : (a : MirrorStage) (o : Option Mirror) → device_in (option_map (standing_as a) o) ≡ device_in o
standing_device a None = refl
standing_device a (Some x) = refl

standing_kept : (s : Plain) (t : Places) (a : MirrorStage) (m : ℕ) (xs : List (Option Mirror)) → MirrorsShown s.mirrors t.table t.device xs
    → MirrorsShown (with_at s.mirrors m (with_attachment (attachment_of a) (s.mirrors m))) (erased_table t.table m (λ v. true)) t.device (changed_mirror (standing_as a) xs m)
standing_kept s t a m xs h = changed m (option_map (standing_as a) (mirror_at xs m)) s.mirrors _ t.table _ t.device t.device xs h (record {
  state_here = λ l. standing_state a (mirror_at xs m) ∙ ap (with_attachment (attachment_of a)) (h.infos m l) ∙ sym (here_at s.mirrors m _);
  window_here = λ l. standing_window a (mirror_at xs m);
  entry_here = λ v l. standing_entry a v (mirror_at xs m) ∙ sym (erased_here t.table m (λ v. true) v);
  device_here = λ l. standing_device a (mirror_at xs m) ∙ h.devices m l;
  state_else = λ k ne. other_at s.mirrors m k _ ne;
  entry_else = λ k v ne. erased_else t.table m (λ v. true) k v ne;
  device_else = λ k ne. refl;
})

-- a table changes, and nothing else of its mirror
same_state : (f : Mirror → kept.Table) (o : Option Mirror) → state_in (option_map (λ (x : Mirror). record x { table = f x }) o) ≡ state_in o
same_state f None = refl
same_state f (Some x) = refl

same_device : (f : Mirror → kept.Table) (o : Option Mirror) → device_in (option_map (λ (x : Mirror). record x { table = f x }) o) ≡ device_in o
same_device f None = refl
same_device f (Some x) = refl

same_window : (f : Mirror → List (ℕ × MirrorEntry)) (room : List ℕ) (o : Option Mirror) → HasWindow o → HasWindow (option_map (λ (x : Mirror). record x { table = kept.changed x.table (f x) room }) o)
same_window f room None h = tt
same_window f room (Some x) h = h

table_kept : (s : Plain) (t : Places) (m : ℕ) (room : List ℕ) (f : Mirror → List (ℕ × MirrorEntry)) (next_table : ℕ → ℕ → Option TableEntry) (xs : List (Option Mirror)) → MirrorsShown s.mirrors t.table t.device xs
    → ((v : ℕ) → m < 32 → shown_in v (option_map (λ (x : Mirror). record x { table = kept.changed x.table (f x) room }) (mirror_at xs m)) ≡ next_table m v) → ((k v : ℕ) → (k ≡ m → ⊥) → next_table k v ≡ t.table k v)
    → MirrorsShown s.mirrors next_table t.device (changed_mirror (λ (x : Mirror). record x { table = kept.changed x.table (f x) room }) xs m)
table_kept s t m room f next_table xs h here other = changed m (option_map (λ (x : Mirror). record x { table = kept.changed x.table (f x) room }) (mirror_at xs m)) s.mirrors s.mirrors t.table next_table t.device t.device xs h (record {
  state_here = λ l. same_state (λ (x : Mirror). kept.changed x.table (f x) room) (mirror_at xs m) ∙ h.infos m l;
  window_here = λ l. same_window f room (mirror_at xs m) (h.windows m l);
  entry_here = here;
  device_here = λ l. same_device (λ (x : Mirror). kept.changed x.table (f x) room) (mirror_at xs m) ∙ h.devices m l;
  state_else = λ k ne. refl;
  entry_else = other;
  device_else = λ k ne. refl;
})

-- a mirror is told
if_none : {X : Type 0} (b : Bool) → (let o : Option X = None in o) ≡ (if b then None else None)
if_none true = refl
if_none false = refl

through : (b : Bool) (o : Option MirrorEntry) → option_map shown_entry (if b then None else o) ≡ (if b then None else option_map shown_entry o)
through true o = refl
through false o = refl

erased_entry : (room : List ℕ) (v : ℕ) (r : Pages) (o : Option Mirror) → shown_in v (option_map (erased_in room r) o) ≡ (if covers r v then None else shown_in v o)
erased_entry room v r None = if_none (covers r v)
erased_entry room v r (Some x) = ap (option_map shown_entry) (entry_erased x.table r v room) ∙ through (covers r v) (kept.entry_at x.table v)

told_kept : (s : Plain) (t : Places) (room : List ℕ) (m : ℕ) (r : Pages) (xs : List (Option Mirror)) → MirrorsShown s.mirrors t.table t.device xs → MirrorsShown s.mirrors (erased_table t.table m (covers r)) t.device (changed_mirror (erased_in room r) xs m)
told_kept s t room m r xs h = table_kept s t m room (λ x. kept.without_span x.table r) (erased_table t.table m (covers r)) xs h
    (λ v l. erased_entry room v r (mirror_at xs m) ∙ ap (λ (o : Option TableEntry). if covers r v then None else o) (h.entries m v l) ∙ sym (erased_here t.table m (covers r) v))
    (λ k v ne. erased_else t.table m (covers r) k v ne)

-- an entry is set
either : (b : Bool) (e : MirrorEntry) (x : TableEntry) (o : Option MirrorEntry) → shown_entry e ≡ x → option_map shown_entry (if b then Some e else o) ≡ (if b then Some x else option_map shown_entry o)
either true e x o q = ap Some q
either false e x o q = refl

set_entry : (room : List ℕ) (page v : ℕ) (e : MirrorEntry) (x : TableEntry) (o : Option Mirror) → is_none (state_in o) ≡ false → shown_entry e ≡ x → shown_in v (option_map (set_in room page e) o) ≡ (if v == page then Some x else shown_in v o)
set_entry room page v e x None n q = absurd (let b : ⊥ = cc in b)
set_entry room page v e x (Some y) n q = ap (option_map shown_entry) (entry_set y.table page v room e) ∙ either (v == page) e x (kept.entry_at y.table v) q

there : (test : MirrorState → Bool) (o : Option MirrorState) → mirror_passes test o ≡ true → is_none o ≡ false
there test None e = absurd (let b : ⊥ = cc in b)
there test (Some x) e = refl

set_kept : (s : Plain) (t : Places) (room : List ℕ) (m page : ℕ) (f : Option Frame) (w : TableRight) (from : ℕ) (xs : List (Option Mirror)) → MirrorsShown s.mirrors t.table t.device xs → mirror_passes (λ x. covers x.window page) (s.mirrors m) ≡ true → is_kept_right f w ≡ true
    → MirrorsShown s.mirrors (with_entry t.table m page (record { target = f; right = w; from = from })) t.device (changed_mirror (set_in room page (entry_for f w from)) xs m)
set_kept s t room m page f w from xs h i k = table_kept s t m room (λ x. kept.with_entry x.table page (entry_for f w from)) (with_entry t.table m page (record { target = f; right = w; from = from })) xs h
    (λ v l. set_entry room page v (entry_for f w from) _ (mirror_at xs m) (ap (λ o. is_none o) (h.infos m l) ∙ there (λ x. covers x.window page) (s.mirrors m) i) (shown_kept f w from k)
    ∙ ap (λ (o : Option TableEntry). if v == page then Some (record { target = f; right = w; from = from }) else o) (h.entries m v l) ∙ sym (set_here t.table m page v _))
    (λ k v ne. set_else t.table m page k v _ ne)

pub mirrors_kept : (s : Plain) (t : Places) (k : Kind) (room : List ℕ) (xs : List (Option Mirror)) → MirrorsShown s.mirrors t.table t.device xs → MirrorsFit s.mirrors k
    → MirrorsShown (plain_next s k).mirrors (places_next t k).table (places_next t k).device (mirrors_next room k xs)
mirrors_kept s t (Kind.Attached m d p r q) room xs h f = attached_kept s t m d p r xs h f
mirrors_kept s t (Kind.Detaching m q) room xs h f = standing_kept s t MirrorStage.Detaching m xs h
mirrors_kept s t (Kind.Detached m) room xs h f = standing_kept s t MirrorStage.Gone m xs h
mirrors_kept s t (Kind.Told m r q) room xs h f = told_kept s t room m r xs h
mirrors_kept s t (Kind.Set m v g w from) room xs h f = set_kept s t room m v g w from xs h f.0 f.1
mirrors_kept s t k room xs h f = h

-- more room changes nothing that is shown
room_entry : (room : List ℕ) (v : ℕ) (o : Option Mirror) → shown_in v (option_map (with_room room) o) ≡ shown_in v o
room_entry room v None = refl
room_entry room v (Some x) = refl

pub reserved_kept : (s : Plain) (t : Places) (k : Kind) (room : List ℕ) (xs : List (Option Mirror)) → MirrorsShown s.mirrors t.table t.device xs → MirrorsShown s.mirrors t.table t.device (reserved room k xs)
reserved_kept s t (Kind.Set m v f w from) room xs h = table_kept s t m room (λ x. x.table.entries) t.table xs h (λ v l. room_entry room v (mirror_at xs m) ∙ h.entries m v l) (λ k v ne. refl)
reserved_kept s t k room xs h = h
