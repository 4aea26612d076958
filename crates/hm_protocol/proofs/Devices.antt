-- No legal history breaks `own-device`: a `Set` names a frame of the system or of the mirror's device.
use Rattle.std.proofs.Common.{refl, ap, sym, subst, ◌∙◌}
use Rattle.std.proofs.lemmas.Bool.{true≢false, false≢true, not_from_true, eqb-true}
use Rattle.std.proofs.lemmas.Option.{none-some}
use Rattle.std.specs.Prelude.{◌≡◌, ℕ, Bool, true, false, ◌==◌, if◌then◌else◌, Option, Some, None, is_some, IsTrue}
use Rattle.std.specs.Prelude.{List, [], ◌∷◌}
use Rattle.hm_base.specs.Pages.{Pages}
use Rattle.hm_base.specs.Program.{Program}
use Rattle.hm_base.specs.declared.Frame.{Frame}
use Rattle.hm_base.specs.declared.PoolId.{PoolId}
use Rattle.hm_base.specs.declared.ops.Op.{Op}
use Rattle.hm_history.specs.Memory.Words.{with_at}
use Rattle.hm_history.specs.Memory.Plain.{owned, mirror_owner}
use Rattle.hm_history.specs.Memory.Places.{Places, places_next, places_accept, is_for_device}
use Rattle.hm_history.specs.Kernel.Going.{State, op_at, state_next}
use Rattle.hm_history.specs.declared.Kind.{Kind}
use Rattle.hm_protocol.specs.declared.events.Event.{Event}
use Rattle.hm_protocol.specs.declared.rules.Rule.{Rule}
use Rattle.hm_protocol.specs.Words.{device_of, private_to, is_other}
use Rattle.hm_protocol.specs.Known.{Known, known_start}
use Rattle.hm_protocol.specs.Noted.{noted, known_next}
use Rattle.hm_protocol.specs.Tests.{own_device}
use Rattle.hm_protocol.specs.Projection.{project, events_in, comes_to, entry_frame, in_trace, top_of}
use Rattle.hm_protocol.specs.Laws.{IsKept}
use Rattle.hm_protocol.proofs.Fits.{Fits, AllFit, in_fits, comes_ok}
use Rattle.hm_protocol.proofs.Fields.{at_set, at_end, at_refused, held_keeps, pass_keeps}
use Rattle.hm_protocol.proofs.Steps.{GoBy, Keeps, by, by_thread, never, through, and_more, watched}

-- the entry attaches a mirror
abbrev is_attach : Kind → Bool
is_attach (Kind.Attached m d p r q) = true
is_attach k = false

-- the event is an insert
abbrev is_insert : Event → Bool
is_insert (Event.Insert m p r d) = true
is_insert x = false

-- the devices of mirrors that were attached are known
abbrev KnowsDevices : (ℕ → Option ℕ) → Known → Type 0
KnowsDevices s k = (m d : ℕ) → s m ≡ Some d → k.device m ≡ Some d

walk_device : (f : ℕ → Option ℕ) (m n d : ℕ) (e : Option ℕ) → f n ≡ Some d
    → (if is_some (f m) then f else with_at f m e) n ≡ Some d
walk_device f m n d e h = by_known (f m) refl
  where
    by_known : (o : Option ℕ) → f m ≡ o → (if is_some o then f else with_at f m e) n ≡ Some d
    by_known (Some i) q = h
    by_known None q = by_same (n == m) refl
      where
        by_same : (b : Bool) → (n == m) ≡ b → (if b then e else f n) ≡ Some d
        by_same false r = h
        by_same true r = absurd (none-some d (sym q ∙ (ap f (sym (eqb-true n m r)) ∙ h)))

device_kept : (k : Known) (a : ℕ) (x : Event) (n d : ℕ) → is_insert x ≡ false → k.device n ≡ Some d
    → (noted k a x).device n ≡ Some d
device_kept k a (Event.Insert m p r e) n d h g = absurd (true≢false h)
device_kept k a (Event.Walk m r q locked e) n d h g = walk_device k.device m n d e g
device_kept k a (Event.Set m v f w) n d h g =
    at_set (λ k. k.device n) (λ k t m. refl) (λ k t f. refl) (λ k ss xs. refl) k a m v f w ∙ g
device_kept k a (Event.End p r) n d h g = at_end (λ k. k.device n) (λ k us xs. refl) k a p r ∙ g
device_kept k a (Event.Told m q true) n d h g = g
device_kept k a (Event.Told m q false) n d h g = at_refused (λ k. k.device n) (λ k us xs. refl) k a m q ∙ g
device_kept k a (Event.Take f) n d h g = held_keeps (λ k. k.device n) (λ k fs. refl) k f (device_of f) ∙ g
device_kept k a (Event.Pass f) n d h g = pass_keeps (λ k. k.device n) (λ k p. refl) k (device_of f) ∙ g
device_kept k a x n d h g = g

no_insert : (b : Bool) (j : Kind) (x : Event) → is_attach j ≡ false → Fits b j x → is_insert x ≡ false
no_insert b j (Event.Insert m p r d) g h = absurd (false≢true (sym g ∙ ap is_attach h.1.1.1))
no_insert b j x g h = refl

other_device : (o : Option ℕ) (e d : ℕ) → o ≡ Some e → (e == d) ≡ true → is_other o d ≡ false
other_device o e d q h = ap (λ o. is_other o d) q ∙ not_from_true (e == d) h

for_pool : (o : Option ℕ) (s : Option ℕ) (pool : PoolId) (number : ℕ) → ((d : ℕ) → s ≡ Some d → o ≡ Some d)
    → IsTrue (owned s (λ d. elim pool [ PoolId.System ↦ true | PoolId.Device e ↦ d == e ]))
    → elim (private_to (in_trace (record { pool = pool; number = number }))) as (λ x. Bool) [
      | None ↦ false
      | Some d ↦ is_other o d
    ] ≡ false
for_pool o s PoolId.System number g h = refl
for_pool o None (PoolId.Device d) number g h = absurd (false≢true h)
for_pool o (Some e) (PoolId.Device d) number g h = other_device o e d (g e refl) h

for_entry : (o s : Option ℕ) (f : Option Frame) → ((d : ℕ) → s ≡ Some d → o ≡ Some d)
    → IsTrue (owned s (is_for_device f))
    → elim (private_to (entry_frame f)) as (λ x. Bool) [ None ↦ false | Some d ↦ is_other o d ] ≡ false
for_entry o s None g h = refl
for_entry o s (Some f) g h = for_pool o s f.pool f.number g h

not_wrong : (c : Program) (proc : ℕ → Option ℕ) (s : Places) (a : ℕ) (b : Bool) (j : Kind) (k : Known) (t : ℕ) (x : Event)
    → IsTrue (places_accept c proc s a j) → KnowsDevices s.device k → Fits b j x → own_device k (by t x) ≡ false
not_wrong c proc s a b j k t (Event.Set m v g w) acc kn h =
    ap (λ f. elim (private_to f) as (λ x. Bool) [ None ↦ false | Some d ↦ is_other (k.device m) d ]) h.1.0
    ∙ for_entry (k.device m) (s.device m) h.0 (kn m)
    (subst (λ j. IsTrue (places_accept c proc s a j)) h.1.1.1 acc)
not_wrong c proc s a b j k t x acc kn h = refl

same_device : (s : Places) (k : Kind) → is_attach k ≡ false → (m : ℕ) → (places_next s k).device m ≡ s.device m
same_device s (Kind.Attached n d p r q) h m = absurd (true≢false h)
same_device s k h m = refl

quiet : (c : Program) (proc : ℕ → Option ℕ) (s : Places) (a : ℕ) (b : Bool) (j : Kind) → IsTrue (places_accept c proc s a j)
    → is_attach j ≡ false → (xs : List Event) → AllFit b j xs → (k : Known) → KnowsDevices s.device k
    → GoBy own_device k (by_thread a xs) (KnowsDevices s.device)
quiet c proc s a b j acc g xs h k kn = through own_device (KnowsDevices s.device) b j a
    (λ k x fits n. (not_wrong c proc s a b j k a x acc n fits, λ m d q. device_kept k a x m d (no_insert b j x g fits) (n m d q)))
    xs h k kn

inserted : (s : ℕ → Option ℕ) (k : Known) (a m d p q : ℕ) (r : Pages) → KnowsDevices s k
    → KnowsDevices (with_at s m (Some d)) (known_next (known_next k (by a (Event.Insert m p r (Some d)))) (by a (Event.Inserted m q true)))
inserted s k a m d p q r kn n e h = by_same (n == m) h
  where
    by_same : (b : Bool) → (if b then Some d else s n) ≡ Some e → (if b then Some d else k.device n) ≡ Some e
    by_same true g = g
    by_same false g = kn n e g

-- the events of an entry
entry : (c : Program) (t u : State) (a : ℕ) (j : Kind) (o : Option Op) (k : Known)
    → ((m : ℕ) → u.after.places.device m ≡ (places_next t.after.places j).device m)
    → IsTrue (places_accept c (mirror_owner t.after.plain) t.after.places a j) → is_some o ≡ true
    → KnowsDevices t.after.places.device k
    → GoBy own_device k (by_thread a (events_in t u a j o)) (KnowsDevices u.after.places.device)
entry c t u a (Kind.Attached m d p r q) (Some o) k up acc h kn = let g = t.going a in
    and_more own_device (KnowsDevices t.after.places.device) (KnowsDevices u.after.places.device) k a
    (comes_to t.after o g.pages (top_of g.stack) (Kind.Attached m d p r q))
    (Event.Insert m p r (Some d) ∷ Event.Inserted m q true ∷ [])
    (quiet c (mirror_owner t.after.plain) t.after.places a false (Kind.Evicted 0) refl refl
    (comes_to t.after o g.pages (top_of g.stack) (Kind.Attached m d p r q))
    (comes_ok false (Kind.Evicted 0) t.after o g.pages (top_of g.stack) (Kind.Attached m d p r q)) k kn)
    (λ l n. ((refl, (refl, tt)), λ v e z. inserted t.after.places.device l a m d p q r n v e (sym (up v) ∙ z)))
entry c t u a j None k up acc h kn = absurd (false≢true h)
entry c t u a j (Some o) k up acc h kn = let g : GoBy own_device k (by_thread a (events_in t u a j (Some o))) (KnowsDevices t.after.places.device) =
    quiet c (mirror_owner t.after.plain) t.after.places a (is_some (u.after.locks.map a)) j acc refl
    (events_in t u a j (Some o)) (in_fits t u a j (Some o)) k kn in
    (g.0, λ m d q. g.1 m d (sym (same_device t.after.places j refl m) ∙ (sym (up m) ∙ q)))

keeps : (c : Program) → Keeps c own_device (λ k t. KnowsDevices t.after.places.device k)
keeps c t e k s kn = entry c t (state_next c t e) e.actor e.kind (op_at c e.actor (t.going e.actor).index) k (λ m. refl) s.places
    (ap is_some s.turn.is_op) kn

-- no legal history breaks `own-device`
pub own_device_kept : IsKept Rule.OwnDevice
own_device_kept c sc h legal = never own_device known_start (project c h)
    (watched c own_device (λ k t. KnowsDevices t.after.places.device k) sc (keeps c) (λ m d q. absurd (none-some d q)) h legal).0
