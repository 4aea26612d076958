-- No legal history breaks the rules of tables: what is known of tables is kept by each entry.
use Rattle.std.proofs.Common.{refl, ap, sym, subst, ◌∙◌, cond, arith, inl, inr}
use Rattle.std.proofs.lemmas.Bool.{true≢false, false≢true, and_parts, eqb-true}
use Rattle.std.proofs.lemmas.Bool.Decides.{nat_tests}
use Rattle.std.proofs.lemmas.Option.{none-some}
use Rattle.std.specs.Prelude.{◌≡◌, ℕ, ◌+◌, ◌<◌, ◌≤◌, Bool, true, false, not, ◌&&◌, ◌||◌, ◌==◌, ◌⊎◌, nat_lt, nat_le, if◌then◌else◌, Option}
use Rattle.std.specs.Prelude.{Some, None, is_some, is_none, IsTrue, List, [], ◌∷◌, ◌++◌, map, filter, find, flat_map, option_map, fold, length}
use Rattle.std.specs.List.{list_any}
use Rattle.hm_base.specs.Program.{Program, IsScript}
use Rattle.hm_base.specs.Pages.{Pages, covers, one_page}
use Rattle.hm_base.specs.declared.Frame.{Frame}
use Rattle.hm_base.specs.declared.ops.Op.{Op}
use Rattle.hm_history.specs.Memory.Words.{numbers, page_of}
use Rattle.hm_history.specs.Memory.Plain.{MirrorState, mirror_owner, mirror_passes, is_attached_state}
use Rattle.hm_history.specs.Memory.Places as places
use Rattle.hm_history.specs.Memory.Places.{Places, TableEntry, places_next, places_accept, with_entry, erased_table, table_reads, table_writes}
use Rattle.hm_history.specs.Memory.Places.{table_sole, entry_passes, may_write}
use Rattle.hm_history.specs.Memory.Sequences.{interval_seq}
use Rattle.hm_history.specs.Memory.After.{After}
use Rattle.hm_history.specs.Kernel.Going.{State, op_at, state_next}
use Rattle.hm_history.specs.Kernel.Legal.{Legal}
use Rattle.hm_history.specs.declared.TableRight.{TableRight}
use Rattle.hm_history.specs.declared.Kind.{Kind}
use Rattle.hm_history.specs.declared.Entry.{Entry}
use Rattle.hm_laws.specs.Past.{Past}
use Rattle.hm_laws.specs.Sound.{Sound}
use Rattle.hm_laws.specs.Allowed.{Allowed}
use Rattle.hm_laws.proofs.State.Invalidations.{in_filter, in_numbers}
use Rattle.hm_laws.proofs.State.TableEntries.{entry_of}
use Rattle.hm_laws.proofs.Migration.Setup.{at_itself}
use Rattle.hm_protocol.specs.declared.events.Event.{Event}
use Rattle.hm_protocol.specs.declared.rules.Rule.{Rule}
use Rattle.hm_protocol.specs.declared.rules.Joint.{Joint}
use Rattle.hm_protocol.specs.Words.{drop_if, is_sole, is_read, is_empty}
use Rattle.hm_protocol.specs.Known.{Slot, Call, Known, known_start, is_slot, in_span, is_own, leaves_seq}
use Rattle.hm_protocol.specs.Noted.{known_next, known, call, after_set}
use Rattle.hm_protocol.specs.Tests.{write_entry, look_again}
use Rattle.hm_protocol.specs.Callbacks as callbacks
use Rattle.hm_protocol.specs.Callbacks.{entries_left, is_late, is_stale, is_copied, leaves, left_first, erases, erase, erase_in_time, own_entries}
use Rattle.hm_protocol.specs.Rules.{first_call}
use Rattle.hm_protocol.specs.Projection.{project, events_in, comes_to, top_of, erased, all_erased, window_of, begins_removal, entry_frame}
use Rattle.hm_protocol.specs.Laws.{IsKept, IsJointKept}
use Rattle.hm_protocol.proofs.Fits.{Fits, AllFit, in_fits, comes_ok, is_erasing, removal_ok}
use Rattle.hm_protocol.proofs.Fields.{set_keeps}
use Rattle.hm_protocol.proofs.Steps.{GoBy, Keeps, by, by_thread, never, through, and_more, watched, calm_left, calm_right}
use Rattle.hm_protocol.proofs.Detached.{owned_is}
use Rattle.hm_protocol.proofs.Slots.{table_wrong, AllSlots, sole_slot, SoleSlots, slots_left, still_any, Clean, AllClean}
use Rattle.hm_protocol.proofs.Slots.{Tables, KnowsTables, tables_kept}
use Rattle.hm_protocol.proofs.Erasing.{among, ErasingKnown, erasing_step, erasing_fewer, Telling, telling_step, telling_fewer, AllIn}
use Rattle.hm_protocol.proofs.Erasing.{all_gone, erase_all, set_tables}

-- ---- uses

none_slot : (f : ℕ → ℕ → Option TableEntry) (test : Slot → Bool)
    → ((x : Slot) (e : TableEntry) → f x.mirror x.page ≡ Some e → e.right ≡ x.right → test x ≡ true → ⊥) → (xs : List Slot)
    → AllSlots f xs → list_any test xs ≡ false
none_slot f test h [] l = refl
none_slot f test h (x ∷ xs) l = by_bool (test x) refl (none_slot f test h xs l.1)
  where
    by_bool : (b : Bool) → test x ≡ b → list_any test xs ≡ false → (b || list_any test xs) ≡ false
    by_bool true e g = absurd (h x l.0.0 l.0.1.0 l.0.1.1 e)
    by_bool false e g = g

write_not_read : (w : TableRight) → may_write w ≡ true → is_read w ≡ true → ⊥
write_not_read TableRight.Read h g = absurd (false≢true h)
write_not_read TableRight.Write h g = absurd (false≢true g)
write_not_read TableRight.Sole h g = absurd (false≢true g)

sole_is : (w : TableRight) → places.is_sole w ≡ true → is_sole w ≡ true
sole_is TableRight.Read h = h
sole_is TableRight.Write h = h
sole_is TableRight.Sole h = h

one_covers : (v u : ℕ) → covers (one_page v) u ≡ true → u ≡ v
one_covers v u h = grind (arith, nat_tests)

-- a write goes through an entry for writes
writes_rightly : (s : Places) (k : Known) (m p v : ℕ) → table_writes s m p v ≡ true → KnowsTables s.table k
    → list_any (λ x. in_span m (one_page v) x && is_read x.right) k.slots ≡ false
writes_rightly s k m p v h kn = let x : (e : TableEntry) × (s.table m v ≡ Some e) × (may_write e.right ≡ true) =
    entry_of (λ x. may_write x.right) (s.table m v) (and_parts (entry_passes (λ x. may_write x.right) (s.table m v)) _ (and_parts (table_reads s m p v) _ h).1).0 in
    none_slot s.table (λ x. in_span m (one_page v) x && is_read x.right) (λ y e q i t. wrong x.0 x.1 x.2 y e q i t) k.slots kn.slots
  where
    same_entry : (d e : TableEntry) → Some d ≡ Some e → d ≡ e
    same_entry d e q = cc

    wrong : (d : TableEntry) → s.table m v ≡ Some d → may_write d.right ≡ true → (y : Slot) (e : TableEntry)
        → s.table y.mirror y.page ≡ Some e → e.right ≡ y.right → (in_span m (one_page v) y && is_read y.right) ≡ true → ⊥
    wrong d q w y e i r t = let b : (in_span m (one_page v) y ≡ true) × (is_read y.right ≡ true) = and_parts (in_span m (one_page v) y) (is_read y.right) t in
        let c : ((y.mirror == m) ≡ true) × (covers (one_page v) y.page ≡ true) = and_parts (y.mirror == m) (covers (one_page v) y.page) b.0 in
        let same : d ≡ e = same_entry d e (sym q ∙ (ap (λ n. s.table n v) (sym (eqb-true y.mirror m c.0)) ∙ (ap (s.table y.mirror) (sym (one_covers v y.page c.1)) ∙ i))) in
        write_not_read d.right w (ap is_read (ap (λ (z : TableEntry). z.right) same ∙ r) ∙ b.1)

-- an addition goes to an entry for one actor
adds_rightly : (s : Places) (k : Known) (a m p v : ℕ) → table_sole s a m p v ≡ true → KnowsTables s.table k
    → list_any (sole_slot m v) k.slots ≡ true
adds_rightly s k a m p v h kn = let x : (e : TableEntry) × (s.table m v ≡ Some e) × ((places.is_sole e.right && places.is_exclusive_of (s.place p v) a e.target) ≡ true) =
    entry_of (λ x. places.is_sole x.right && places.is_exclusive_of (s.place p v) a x.target) (s.table m v) h in
    kn.sole m v x.0 x.1 (sole_is x.0.right (and_parts (places.is_sole x.0.right) _ x.2).0)

-- ---- events that leave tables

-- the entry changes tables, or says that it erased
abbrev is_special : Kind → Bool
is_special (Kind.Set m v f w from) = true
is_special (Kind.Attached m d p r q) = true
is_special k = is_erasing k

each : (c : Program) (proc : ℕ → Option ℕ) (s : Places) (i : ℕ) (b : Bool) (j : Kind) → is_special j ≡ false
    → IsTrue (places_accept c proc s i j) → (k : Known) (a : ℕ) (x : Event) → Fits b j x → KnowsTables s.table k
    → (table_wrong k (by a x) ≡ false) × KnowsTables s.table (known_next k (by a x))
each c proc s i b j pl acc k a (Event.Insert m p r d) fits kn = absurd (false≢true (sym pl ∙ ap is_special fits.1.1.1))
each c proc s i b j pl acc k a (Event.Set m v g w) fits kn = absurd (false≢true (sym pl ∙ ap is_special fits.1.1.1))
each c proc s i b j pl acc k a (Event.Tell m r q) fits kn = absurd (false≢true (sym pl ∙ ap is_special fits))
each c proc s i b j pl acc k a (Event.Erase m v) fits kn = absurd (false≢true (sym pl ∙ erasing_special j fits))
  where
    erasing_special : (j : Kind) → is_erasing j ≡ true → is_special j ≡ true
    erasing_special (Kind.Set m v f w from) h = refl
    erasing_special (Kind.Attached m d p r q) h = refl
    erasing_special j h = h
each c proc s i b j pl acc k a (Event.Use m r false) fits kn = (refl, tables_kept s.table k a (Event.Use m r false) refl kn)
each c proc s i b j pl acc k a (Event.Use m r true) fits kn =
    let x : (p : ℕ) × (table_writes s m p (page_of fits.0) ≡ true) =
    owned_is (proc m) (λ p. table_writes s m p (page_of fits.0)) (subst (λ j. IsTrue (places_accept c proc s i j)) fits.1.1.1 acc) in (
      ap (λ b. b || false) (ap (λ r. list_any (λ x. in_span m r x && is_read x.right) k.slots) fits.1.1.0
          ∙ writes_rightly s k m x.0 (page_of fits.0) x.1 kn),
      tables_kept s.table k a (Event.Use m r true) refl kn,
    )
each c proc s i b j pl acc k a (Event.Add m v) fits kn =
    let x : (p : ℕ) × (table_sole s i m p (page_of fits.0) ≡ true) =
    owned_is (proc m) (λ p. table_sole s i m p (page_of fits.0)) (subst (λ j. IsTrue (places_accept c proc s i j)) fits.1.1.1.1 acc) in (
      ap (λ b. false || not b) (ap (λ v. list_any (sole_slot m v) k.slots) fits.1.1.1.0
          ∙ adds_rightly s k i m x.0 (page_of fits.0) x.1 kn),
      tables_kept s.table k a (Event.Add m v) refl kn,
    )
each c proc s i b j pl acc k a x fits kn = (refl, tables_kept s.table k a x refl kn)

quiet : (c : Program) (proc : ℕ → Option ℕ) (s : Places) (b : Bool) (j : Kind) → is_special j ≡ false → (a : ℕ)
    → IsTrue (places_accept c proc s a j) → (xs : List Event) → AllFit b j xs → (k : Known) → KnowsTables s.table k
    → GoBy table_wrong k (by_thread a xs) (KnowsTables s.table)
quiet c proc s b j pl a acc xs fits k kn = through table_wrong (KnowsTables s.table) b j a (λ k x. each c proc s a b j pl acc k a x) xs fits k kn

still : (c : Program) (s : Places) (a : ℕ) (xs : List Event) → AllFit false (Kind.Migrated 0) xs → (k : Known)
    → KnowsTables s.table k → GoBy table_wrong k (by_thread a xs) (KnowsTables s.table)
still c s a xs fits k kn = quiet c (λ m. None) s false (Kind.Migrated 0) refl a refl xs fits k kn

-- ---- what an entry erases

-- the entries of a mirror lie in its window
in_window_of : (c : Program) (s : After) (t : Past) (m v : ℕ) (e : TableEntry) → Sound c s t → s.places.table m v ≡ Some e
    → among v (window_of s m) ≡ true
in_window_of c s t m v e so h = by_mirror (s.plain.mirrors m) refl
  where
    in_numbers_of : (first count v : ℕ) → covers (record { first = first; count = count }) v ≡ true → among v (numbers first count) ≡ true
    in_numbers_of first count v k = let p : (nat_le first v ≡ true) × (nat_lt v (first + count) ≡ true) = and_parts (nat_le first v) (nat_lt v (first + count)) k in
        in_numbers v first count (below first v p.0) (above v (first + count) p.1)
      where
        below : (n k : ℕ) → nat_le n k ≡ true → n ≤ k
        below n k h = grind (arith, nat_tests)

        above : (n k : ℕ) → nat_lt n k ≡ true → n < k
        above n k h = grind (arith, nat_tests)

    by_mirror : (x : Option MirrorState) → s.plain.mirrors m ≡ x
        → among v (elim x [ None ↦ [] | Some y ↦ numbers y.window.first y.window.count ]) ≡ true
    by_mirror None q = absurd (none-some e (sym (so.tables.unattached m v (ap (mirror_passes is_attached_state) q)) ∙ h))
    by_mirror (Some y) q = in_numbers_of y.window.first y.window.count v (so.tables.entered m v e y h q).in_window

erased_sub : (f : ℕ → ℕ → Option TableEntry) (m : ℕ) (test : ℕ → Bool) (n v : ℕ) (e : TableEntry) → erased_table f m test n v ≡ Some e → f n v ≡ Some e
erased_sub f m test n v e = by_bool ((n == m) && test v)
  where
    by_bool : (b : Bool) → (if b then None else f n v) ≡ Some e → f n v ≡ Some e
    by_bool true h = absurd (none-some e h)
    by_bool false h = h

-- what is erased of a mirror is said
all_said : (c : Program) (s : After) (t : Past) (g : ℕ → ℕ → Option TableEntry) (m : ℕ) (test : ℕ → Bool) → Sound c s t
    → ((n v : ℕ) → g n v ≡ erased_table s.places.table m test n v) → (n v : ℕ) (e : TableEntry) → s.places.table n v ≡ Some e
    → (g n v ≡ s.places.table n v) ⊎ ((n ≡ m) × ((false || among v (filter (λ v. is_some (s.places.table m v) && is_none (g m v)) (window_of s m))) ≡ true))
all_said c s t g m test so pw n v e h = by_bool ((n == m) && test v) refl
  where
    by_bool : (b : Bool) → ((n == m) && test v) ≡ b
        → (g n v ≡ s.places.table n v) ⊎ ((n ≡ m) × (among v (filter (λ v. is_some (s.places.table m v) && is_none (g m v)) (window_of s m)) ≡ true))
    by_bool false q = inl (pw n v ∙ ap (λ b. if b then None else s.places.table n v) q)
    by_bool true q = let same : (n ≡ m) = eqb-true n m (and_parts (n == m) (test v) q).0 in
        let mine : (s.places.table m v ≡ Some e) = ap (λ i. s.places.table i v) (sym same) ∙ h in
        let none : (g m v ≡ None) = ap (λ i. g i v) (sym same) ∙ (pw n v ∙ ap (λ b. if b then None else s.places.table n v) q) in
        inr (
          same,
          in_filter (λ v. is_some (s.places.table m v) && is_none (g m v)) v (window_of s m)
              (ap (λ o. is_some o && is_none (g m v)) mine ∙ ap is_none none) (in_window_of c s t m v e so mine),
        )

none_passes : (o p : Option TableEntry) → (is_some o && is_none p) ≡ true → p ≡ None
none_passes None p h = absurd (false≢true h)
none_passes (Some x) None h = refl
none_passes (Some x) (Some y) h = absurd (false≢true h)

-- a mirror's entries are erased by an entry that is no callback
erased_events : (c : Program) (s : After) (t : Past) (g : ℕ → ℕ → Option TableEntry) (a m : ℕ) (test : ℕ → Bool) → Sound c s t
    → ((n v : ℕ) → g n v ≡ erased_table s.places.table m test n v) → (k : Known) → KnowsTables s.places.table k
    → GoBy table_wrong k (by_thread a (map (λ v. Event.Erase m v) (filter (λ v. is_some (s.places.table m v) && is_none (g m v)) (window_of s m)))) (KnowsTables g)
erased_events c s t g a m test so pw k kn =
    let test2 : ℕ → Bool = λ v. is_some (s.places.table m v) && is_none (g m v) in
    let all : GoBy table_wrong k (by_thread a (map (λ v. Event.Erase m v) (filter test2 (window_of s m)))) (ErasingKnown s.places.table g m (λ u. false || among u (filter test2 (window_of s m)))) =
    erase_all m a test2 (ErasingKnown s.places.table g m)
    (λ gone k v h x. erasing_step s.places.table g m a gone k v (none_passes (s.places.table m v) (g m v) h) x)
    (erasing_fewer s.places.table g m) (window_of s m) (λ u. false) k (
      record {
        slots = kn.slots;
        sole = λ n v e q i. kn.sole n v e (erased_sub s.places.table m test n v e (sym (pw n v) ∙ q)) i;
        none_there = λ v q. absurd (false≢true q);
      },
      kn.clean,
    ) in (
      all.0,
      record {
        slots = all_gone s.places.table g m (λ u. false || among u (filter test2 (window_of s m))) _ (all_said c s t g m test so pw) all.1.0.slots all.1.0.none_there;
        sole = all.1.0.sole;
        clean = all.1.1;
      },
    )

-- a callback erases all of its span
nothing_here : (f : ℕ → ℕ → Option TableEntry) (m : ℕ) (r : Pages) (gone : ℕ → Bool) (xs : List Slot)
    → ((v : ℕ) (e : TableEntry) → f m v ≡ Some e → covers r v ≡ true → gone v ≡ true) → AllSlots f xs → AllIn m r xs
    → ((v : ℕ) → gone v ≡ true → list_any (is_slot m v) xs ≡ false) → xs ≡ []
nothing_here f m r gone [] h l i n = refl
nothing_here f m r gone (x ∷ xs) h l i n =
    let p : ((x.mirror == m) ≡ true) × (covers r x.page ≡ true) = and_parts (x.mirror == m) (covers r x.page) i.0 in
    absurd (true≢false (sym (first_there (ap (λ b. b && (x.page == x.page)) p.0 ∙ at_itself x.page))
    ∙ n x.page (h x.page l.0.0 (ap (λ i. f i x.page) (sym (eqb-true x.mirror m p.0)) ∙ l.0.1.0) p.1)))
  where
    first_there : is_slot m x.page x ≡ true → (is_slot m x.page x || list_any (is_slot m x.page) xs) ≡ true
    first_there e = ap (λ b. b || list_any (is_slot m x.page) xs) e

slots_in : (f : ℕ → ℕ → Option TableEntry) (m : ℕ) (r : Pages) (xs : List Slot) → AllSlots f xs → AllSlots f (filter (in_span m r) xs) × AllIn m r (filter (in_span m r) xs)
slots_in f m r [] l = (tt, tt)
slots_in f m r (x ∷ xs) l = by_bool (in_span m r x) refl (slots_in f m r xs l.1)
  where
    by_bool : (b : Bool) → in_span m r x ≡ b → AllSlots f (filter (in_span m r) xs) × AllIn m r (filter (in_span m r) xs)
        → AllSlots f (cond b (x ∷ filter (in_span m r) xs) (filter (in_span m r) xs)) × AllIn m r (cond b (x ∷ filter (in_span m r) xs) (filter (in_span m r) xs))
    by_bool true e g = ((l.0, g.0), (e, g.1))
    by_bool false e g = g

clean_more : (xs : List Call) (x : Call) → AllClean xs → Clean x → AllClean (xs ++ x ∷ [])
clean_more [] x l h = (h, tt)
clean_more (y ∷ xs) x l h = (l.0, clean_more xs x l.1 h)

told_events : (c : Program) (s : After) (t : Past) (g : ℕ → ℕ → Option TableEntry) (a m q n : ℕ) (r : Pages) → Sound c s t
    → ((n v : ℕ) → g n v ≡ erased_table s.places.table m (covers r) n v) → (k : Known) → KnowsTables s.places.table k
    → GoBy table_wrong k (by_thread a (Event.Tell m r q ∷ (map (λ v. Event.Erase m v) (filter (λ v. is_some (s.places.table m v) && is_none (g m v)) (window_of s m)) ++ Event.Told m n true ∷ []))) (KnowsTables g)
told_events c s t g a m q n r so pw k kn = ((refl, rest.0), rest.1)
  where
    f : ℕ → ℕ → Option TableEntry
    f = s.places.table

    test : ℕ → Bool
    test = λ v. is_some (s.places.table m v) && is_none (g m v)

    vs : List ℕ
    vs = filter (λ v. is_some (s.places.table m v) && is_none (g m v)) (window_of s m)

    here : AllSlots s.places.table (filter (in_span m r) k.slots) × AllIn m r (filter (in_span m r) k.slots)
    here = slots_in s.places.table m r k.slots kn.slots

    start : Telling s.places.table g m r (λ u. false) k.slots (k.calls ++ call k a m r q ∷ [])
    start = record {
      erasing = record {
        slots = kn.slots;
        sole = λ n v e q i. kn.sole n v e (erased_sub s.places.table m (covers r) n v e (sym (pw n v) ∙ q)) i;
        none_there = λ v q. absurd (false≢true q);
      };
      before = k.calls;
      last = call k a m r q;
      is = refl;
      clean = kn.clean;
      after = refl;
      left = refl;
      copied = refl;
      here = here.0;
      span = here.1;
      none_there = λ v q. absurd (false≢true q);
    }

    gone_in : (v : ℕ) (e : TableEntry) → s.places.table m v ≡ Some e → covers r v ≡ true
        → (false || among v (filter (λ v. is_some (s.places.table m v) && is_none (g m v)) (window_of s m))) ≡ true
    gone_in v e h k = by_case (all_said c s t g m (covers r) so pw m v e h)
      where
        none : g m v ≡ None
        none = pw m v ∙ ap (λ b. if b && covers r v then None else s.places.table m v) (at_itself m) ∙ ap (λ b. if b then None else s.places.table m v) k

        by_case : (g m v ≡ s.places.table m v) ⊎ ((m ≡ m) × ((false || among v (filter (λ v. is_some (s.places.table m v) && is_none (g m v)) (window_of s m))) ≡ true))
            → (false || among v (filter (λ v. is_some (s.places.table m v) && is_none (g m v)) (window_of s m))) ≡ true
        by_case (inl x) = absurd (none-some e (sym none ∙ (x ∙ h)))
        by_case (inr x) = x.1

    last : (l : Known) → Telling s.places.table g m r (λ u. false || among u (filter (λ v. is_some (s.places.table m v) && is_none (g m v)) (window_of s m))) l.slots l.calls
        → KnowsTables g l
    last l x = record {
      slots = all_gone s.places.table g m _ l.slots (all_said c s t g m (covers r) so pw) x.erasing.slots x.erasing.none_there;
      sole = x.erasing.sole;
      clean = subst AllClean (sym x.is) (clean_more x.before x.last x.clean (nothing_here s.places.table m r _ x.last.here gone_in x.here x.span x.none_there, (x.left, x.copied)));
    }

    rest : GoBy table_wrong (known_next k (by a (Event.Tell m r q)))
        (by_thread a (map (λ v. Event.Erase m v) (filter (λ v. is_some (s.places.table m v) && is_none (g m v)) (window_of s m)) ++ Event.Told m n true ∷ [])) (KnowsTables g)
    rest = and_more table_wrong
        (λ l. Telling s.places.table g m r (λ u. false || among u (filter (λ v. is_some (s.places.table m v) && is_none (g m v)) (window_of s m))) l.slots l.calls)
        (KnowsTables g) (known_next k (by a (Event.Tell m r q))) a
        (map (λ v. Event.Erase m v) (filter (λ v. is_some (s.places.table m v) && is_none (g m v)) (window_of s m))) (Event.Told m n true ∷ [])
        (erase_all m a (λ v. is_some (s.places.table m v) && is_none (g m v)) (λ i l. Telling s.places.table g m r i l.slots l.calls)
        (λ gone k v h x. telling_step s.places.table g m a r gone k v (none_passes (s.places.table m v) (g m v) h) x)
        (λ i j l h x. telling_fewer s.places.table g m r i j l.slots l.calls h x) (window_of s m) (λ u. false) (known_next k (by a (Event.Tell m r q))) start)
        (λ l x. ((refl, tt), tables_kept g l a (Event.Told m n true) refl (last l x)))

-- ---- the events of an entry

tables_of : (g : ℕ → ℕ → Option TableEntry) (l : Known) (ss : List Slot) (xs : List Call) → l.slots ≡ ss → l.calls ≡ xs → Tables g ss xs
    → KnowsTables g l
tables_of g l ss xs p q kn = record {
  slots = subst (AllSlots g) (sym p) kn.slots;
  sole = subst (SoleSlots g) (sym p) kn.sole;
  clean = subst AllClean (sym q) kn.clean;
}

as_table : (f g : ℕ → ℕ → Option TableEntry) (k : Known) → f ≡ g → KnowsTables f k → KnowsTables g k
as_table f g k e kn = subst (λ f. KnowsTables f k) e kn

set_event : (f : ℕ → ℕ → Option TableEntry) (l : Known) (a m v : ℕ) (fr : Option Frame) (w : TableRight) (from : ℕ) → KnowsTables f l
    → KnowsTables (with_entry f m v (record { target = fr; right = w; from = from })) (known_next l (by a (Event.Set m v (entry_frame fr) w)))
set_event f l a m v fr w from kn =
    let n : Known = record l {
      slots = record { mirror = m; page = v; right = w; at = l.at } ∷ drop_if (is_slot m v) l.slots;
      calls = map (after_set m v) l.calls;
    } in
    tables_of (with_entry f m v (record { target = fr; right = w; from = from })) (known_next l (by a (Event.Set m v (entry_frame fr) w)))
    (record { mirror = m; page = v; right = w; at = l.at } ∷ drop_if (is_slot m v) l.slots) (map (after_set m v) l.calls)
    (set_keeps (λ k. k.slots) (λ k t m. refl) (λ k t f. refl) n a m v w) (set_keeps (λ k. k.calls) (λ k t m. refl) (λ k t f. refl) n a m v w)
    (set_tables f m v l.at (record { target = fr; right = w; from = from }) l.slots l.calls kn)

-- a mirror that is inserted has no entries
insert_event : (f : ℕ → ℕ → Option TableEntry) (l : Known) (a m p d q : ℕ) (r : Pages) → ((v : ℕ) → f m v ≡ None) → KnowsTables f l
    → KnowsTables f (known_next (known_next l (by a (Event.Insert m p r (Some d)))) (by a (Event.Inserted m q true)))
insert_event f l a m p d q r none kn = record {
  slots = slots_left f (λ x. x.mirror == m) l.slots kn.slots;
  sole = λ n v e h i. still_any (sole_slot n v) (λ x. x.mirror == m) (λ x t s. other n v e h x t s) l.slots (kn.sole n v e h i);
  clean = kn.clean;
}
  where
    other : (n v : ℕ) (e : TableEntry) → f n v ≡ Some e → (x : Slot) → sole_slot n v x ≡ true → (x.mirror == m) ≡ true → ⊥
    other n v e h x t s = none-some e (sym (none v) ∙ (ap (λ i. f i v) (sym (eqb-true x.mirror m s)
        ∙ eqb-true x.mirror n (and_parts (x.mirror == n) _ (and_parts (is_slot n v x) _ t).0).0) ∙ h))

-- nothing is said to be erased if nothing is
none_erased : (s u : After) (m : ℕ) → s.places.table ≡ u.places.table → erased s u m ≡ []
none_erased s u m e = ap (map (λ v. Event.Erase m v)) (none_left (window_of s m))
  where
    no_test : (o p : Option TableEntry) → o ≡ p → (is_some o && is_none p) ≡ false
    no_test None p h = refl
    no_test (Some x) None h = absurd (none-some x (sym h))
    no_test (Some x) (Some y) h = refl

    none_left : (vs : List ℕ) → filter (λ v. is_some (s.places.table m v) && is_none (u.places.table m v)) vs ≡ []
    none_left [] = refl
    none_left (v ∷ vs) = ap (λ b. cond b (v ∷ filter (λ v. is_some (s.places.table m v) && is_none (u.places.table m v)) vs)
        (filter (λ v. is_some (s.places.table m v) && is_none (u.places.table m v)) vs)) (no_test (s.places.table m v) (u.places.table m v) (ap (λ f. f m v) e))
        ∙ none_left vs

none_erased_all : (s u : After) (ms : List ℕ) → s.places.table ≡ u.places.table → flat_map (erased s u) ms ≡ []
none_erased_all s u [] e = refl
none_erased_all s u (m ∷ ms) e = ap (λ xs. xs ++ flat_map (erased s u) ms) (none_erased s u m e) ∙ none_erased_all s u ms e

-- the events before the entry's own, and then those
from_still : (c : Program) (t : State) (a : ℕ) (j : Kind) (o : Op) (k : Known) (g : ℕ → ℕ → Option TableEntry) (ys : List Event)
    → KnowsTables t.after.places.table k
    → ((l : Known) → KnowsTables t.after.places.table l → GoBy table_wrong l (by_thread a ys) (KnowsTables g))
    → GoBy table_wrong k (by_thread a (comes_to t.after o (t.going a).pages (top_of (t.going a).stack) j ++ ys)) (KnowsTables g)
from_still c t a j o k g ys kn h = and_more table_wrong (KnowsTables t.after.places.table) (KnowsTables g) k a
    (comes_to t.after o (t.going a).pages (top_of (t.going a).stack) j) ys
    (still c t.after.places a (comes_to t.after o (t.going a).pages (top_of (t.going a).stack) j)
    (comes_ok false (Kind.Migrated 0) t.after o (t.going a).pages (top_of (t.going a).stack) j) k kn) h

-- what an entry makes of tables
entry : (c : Program) (t u : State) (p : Past) (a : ℕ) (j : Kind) (o : Option Op) (k : Known)
    → (places_next t.after.places j).table ≡ u.after.places.table → Sound c t.after p
    → IsTrue (places_accept c (mirror_owner t.after.plain) t.after.places a j)
    → ((m d q z : ℕ) (r : Pages) → j ≡ Kind.Attached m d q r z → (v : ℕ) → t.after.places.table m v ≡ None) → is_some o ≡ true
    → KnowsTables t.after.places.table k
    → GoBy table_wrong k (by_thread a (events_in t u a j o)) (KnowsTables u.after.places.table)
entry c t u p a j None k up so acc fresh h kn = absurd (false≢true h)
entry c t u p a (Kind.Set m v f w from) (Some o) k up so acc fresh h kn =
    from_still c t a (Kind.Set m v f w from) o k u.after.places.table (Event.Set m v (entry_frame f) w ∷ []) kn
    (λ l n. (
      (refl, tt),
      as_table _ u.after.places.table (known_next l (by a (Event.Set m v (entry_frame f) w))) up
          (set_event t.after.places.table l a m v f w from n),
    ))
entry c t u p a (Kind.Attached m d q r z) (Some o) k up so acc fresh h kn =
    from_still c t a (Kind.Attached m d q r z) o k u.after.places.table (Event.Insert m q r (Some d) ∷ Event.Inserted m z true ∷ []) kn
    (λ l n. (
      (refl, (refl, tt)),
      as_table t.after.places.table u.after.places.table
          (known_next (known_next l (by a (Event.Insert m q r (Some d)))) (by a (Event.Inserted m z true))) up
          (insert_event t.after.places.table l a m q d z r (fresh m d q z r refl) n),
    ))
entry c t u p a (Kind.Told m r q) (Some o) k up so acc fresh h kn =
    from_still c t a (Kind.Told m r q) o k u.after.places.table _ kn
    (λ l n. told_events c t.after p u.after.places.table a m q (interval_seq u.after.sequences m) r so (λ n v. ap (λ f. f n v) (sym up)) l n)
entry c t u p a (Kind.Detaching m q) (Some o) k up so acc fresh h kn =
    from_still c t a (Kind.Detaching m q) o k u.after.places.table (Event.Remove m ∷ erased t.after u.after m) kn
    (λ l n. let more : GoBy table_wrong (known_next l (by a (Event.Remove m))) (by_thread a (erased t.after u.after m)) (KnowsTables u.after.places.table) =
    erased_events c t.after p u.after.places.table a m (λ v. true) so (λ n v. ap (λ f. f n v) (sym up)) (known_next l (by a (Event.Remove m)))
    (tables_kept t.after.places.table l a (Event.Remove m) refl n) in ((refl, more.0), more.1))
entry c t u p a (Kind.Detached m) (Some o) k up so acc fresh h kn =
    from_still c t a (Kind.Detached m) o k u.after.places.table
    (begins_removal (top_of (t.going a).stack) m ++ erased t.after u.after m ++ Event.Removed m ∷ []) kn
    (λ l n. and_more table_wrong (KnowsTables u.after.places.table) (KnowsTables u.after.places.table) l a
    (begins_removal (top_of (t.going a).stack) m ++ erased t.after u.after m) (Event.Removed m ∷ [])
    (and_more table_wrong (KnowsTables t.after.places.table) (KnowsTables u.after.places.table) l a
    (begins_removal (top_of (t.going a).stack) m) (erased t.after u.after m)
    (still c t.after.places a (begins_removal (top_of (t.going a).stack) m) (removal_ok false (Kind.Migrated 0) (top_of (t.going a).stack) m) l n)
    (λ i n. erased_events c t.after p u.after.places.table a m (λ v. true) so (λ n v. ap (λ f. f n v) (sym up)) i n))
    (λ i n. ((refl, tt), tables_kept u.after.places.table i a (Event.Removed m) refl n)))
entry c t u p a (Kind.End q r z) (Some o) k up so acc fresh h kn =
    from_still c t a (Kind.End q r z) o k u.after.places.table (Event.End q r ∷ all_erased t.after u.after) kn
    (λ l n. subst (λ xs. GoBy table_wrong l (by_thread a (Event.End q r ∷ xs)) (KnowsTables u.after.places.table))
    (sym (none_erased_all t.after u.after (numbers 0 32) up)) (
      (refl, tt),
      as_table t.after.places.table u.after.places.table (known_next l (by a (Event.End q r))) up
          (tables_kept t.after.places.table l a (Event.End q r) refl n),
    ))
entry c t u p a (Kind.Copied f g part) (Some o) k up so acc fresh h kn =
    from_still c t a (Kind.Copied f g part) o k u.after.places.table (all_erased t.after u.after) kn
    (λ l n. subst (λ xs. GoBy table_wrong l (by_thread a xs) (KnowsTables u.after.places.table))
    (sym (none_erased_all t.after u.after (numbers 0 32) up)) (tt, as_table t.after.places.table u.after.places.table l up n))
entry c t u p a (Kind.Evicted i) (Some o) k up so acc fresh h kn =
    from_still c t a (Kind.Evicted i) o k u.after.places.table [] kn (λ l n. (tt, as_table t.after.places.table u.after.places.table l up n))
entry c t u p a j (Some o) k up so acc fresh h kn =
    let all : GoBy table_wrong k (by_thread a (events_in t u a j (Some o))) (KnowsTables t.after.places.table) =
    quiet c (mirror_owner t.after.plain) t.after.places (is_some (u.after.locks.map a)) j refl a acc (events_in t u a j (Some o)) (in_fits t u a j (Some o)) k kn in
    (all.0, as_table t.after.places.table u.after.places.table (fold known_next k (by_thread a (events_in t u a j (Some o)))) up all.1)

no_mirror : (x : Option MirrorState) → is_none x ≡ true → mirror_passes is_attached_state x ≡ false
no_mirror None h = refl
no_mirror (Some x) h = absurd (false≢true h)

keeps : (c : Program) → Keeps c table_wrong (λ k t. KnowsTables t.after.places.table k)
keeps c t e k s kn = entry c t (state_next c t e) s.past e.actor e.kind (op_at c e.actor (t.going e.actor).index) k refl
    s.now.sound s.places (λ m d q z r i v. s.now.sound.tables.unattached m v (no_mirror (t.after.plain.mirrors m)
    (and_parts (t.after.plain.there q) (is_none (t.after.plain.mirrors m)) (subst (Allowed c t.after s.past e.actor) i s.turn.allowed).1).1))
    (ap is_some s.turn.is_op) kn

-- what is known of tables after a legal history
tables_known : (c : Program) → IsScript c → (h : List Entry) → Legal c h
    → GoBy table_wrong known_start (project c h) (λ l. (u : State) × KnowsTables u.after.places.table l)
tables_known c sc h legal = watched c table_wrong (λ k t. KnowsTables t.after.places.table k) sc (keeps c)
    (record { slots = tt; sole = λ m v e q. absurd (none-some e q); clean = tt }) h legal

-- no legal history breaks `write-entry`
pub write_entry_kept : IsKept Rule.WriteEntry
write_entry_kept c sc h legal = never write_entry known_start (project c h)
    (calm_left write_entry look_again known_start (project c h) (tables_known c sc h legal).0)

-- no legal history breaks `look-again`
pub look_again_kept : IsKept Rule.LookAgain
look_again_kept c sc h legal = never look_again known_start (project c h)
    (calm_right write_entry look_again known_start (project c h) (tables_known c sc h legal).0)

-- ---- callbacks that left nothing

none_of_calls : (f : Call → Bool) → ((x : Call) → Clean x → f x ≡ false) → (xs : List Call) → AllClean xs → find f xs ≡ None
none_of_calls f h [] l = refl
none_of_calls f h (x ∷ xs) l = ap (λ b. cond b (Some x) (find f xs)) (h x l.0) ∙ none_of_calls f h xs l.1

pub none_left_behind : (k : Known) (x : Call) → Clean x → entries_left k x ≡ false
none_left_behind k x c = ap (λ ys. is_some x.after && (not (is_empty ys) && (not (is_own k x) || not (leaves_seq x)))) c.1.0
    ∙ no_way (is_some x.after)
  where
    no_way : (b : Bool) → (b && false) ≡ false
    no_way true = refl
    no_way false = refl

leaves_none : (k : Known) (x : Call) → Clean x → leaves k x ≡ false
leaves_none k x c = ap (λ b. b && (not (is_late x) && (not (is_own k x) || (x.alone && is_stale x)))) (none_left_behind k x c)

not_copied : (x : Call) → x.copied ≡ 0 → is_copied false x ≡ false
not_copied x h = by_stale x.stale
  where
    by_stale : (o : Option (List Slot × Bool)) → elim o as (λ o. Bool) [ None ↦ false | Some y ↦ nat_lt 0 x.copied && (is_empty y.0 && (true || y.1)) ] ≡ false
    by_stale None = refl
    by_stale (Some y) = ap (λ n. nat_lt 0 n && (is_empty y.0 && (true || y.1))) h

pub kept_by : (f : Known → Call → Bool) → ((k : Known) (x : Call) → Clean x → f k x ≡ false) → (c : Program) → IsScript c → (h : List Entry)
    → Legal c h → first_call f (known (project c h)) ≡ None
kept_by f g c sc h legal = ap (option_map (λ (x : Call). x.at))
    (none_of_calls (f (known (project c h))) (g (known (project c h))) (known (project c h)).calls (tables_known c sc h legal).1.1.clean)

-- no legal history breaks `erase`
pub erase_kept : IsKept Rule.Erase
erase_kept c sc h legal = kept_by erase (λ k x l. ap (λ b. b && (not x.erased && ((is_own k x || (is_some x.ended && left_first k x))
    && not (list_any is_late k.calls)))) (leaves_none k x l)) c sc h legal

-- no legal history breaks `erase-all`
pub erase_all_kept : IsKept Rule.EraseAll
erase_all_kept c sc h legal = kept_by callbacks.erase_all (λ k x l. ap (λ b. b && (x.erased
    || (not (is_own k x) && (is_some x.ended && (not (left_first k x) && erases k x.mirror))))) (leaves_none k x l)) c sc h legal

-- no legal history breaks `erase-in-time`
pub erase_in_time_kept : IsKept Rule.EraseInTime
erase_in_time_kept c sc h legal = kept_by erase_in_time (λ k x l. ap (λ ys. not (is_empty ys) && (x.late == length ys)) l.1.0) c sc h legal

-- no legal history breaks `own-entries`
pub own_entries_kept : IsKept Rule.OwnEntries
own_entries_kept c sc h legal = kept_by own_entries (λ k x l. ap (λ b. is_own k x && (not (leaves_seq x) && (x.alone && b))) (not_copied x l.1.1)
    ∙ no_way (is_own k x) (not (leaves_seq x)) x.alone) c sc h legal
  where
    no_way : (b d e : Bool) → (b && (d && (e && false))) ≡ false
    no_way false d e = refl
    no_way true false e = refl
    no_way true true false = refl
    no_way true true true = refl

-- no legal history breaks the joint rule of erasing
pub entries_left_kept : IsJointKept Joint.EntriesLeft
entries_left_kept c sc h legal = kept_by entries_left none_left_behind c sc h legal
