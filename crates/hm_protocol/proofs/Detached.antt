-- No legal history breaks `stop-at-detach`: a mirror that was removed is not attached, and has no table.
use Rattle.std.proofs.Common.{refl, ap, sym, subst, ◌∙◌, inl, inr}
use Rattle.std.proofs.lemmas.Bool.{true≢false, false≢true, and_parts, cases_eq, eqb-true}
use Rattle.std.specs.Prelude.{◌≡◌, ℕ, Bool, true, false, not, ◌||◌, ◌==◌, ◌⊎◌, if◌then◌else◌, Option, Some, None, is_some}
use Rattle.std.specs.Prelude.{IsTrue, List, [], ◌∷◌, ◌++◌}
use Rattle.hm_base.specs.Program.{Program}
use Rattle.hm_base.specs.Pages.{Pages}
use Rattle.hm_base.specs.declared.ops.Op.{Op}
use Rattle.hm_history.specs.Memory.Words.{with_at, page_of}
use Rattle.hm_history.specs.Memory.Plain.{Plain, MirrorState, mirror_owner, mirror_passes, is_attached_state, is_detaching_state, owned, plain_next}
use Rattle.hm_history.specs.Memory.Plain.{Attachment, with_attachment}
use Rattle.hm_history.specs.Memory.Places.{TableEntry, places_accept, table_reads, table_writes, table_sole, entry_passes}
use Rattle.hm_history.specs.Memory.After.{After}
use Rattle.hm_history.specs.Kernel.Going.{State, op_at, state_next}
use Rattle.hm_history.specs.declared.Who.{Who}
use Rattle.hm_history.specs.declared.Kind.{Kind}
use Rattle.hm_history.proofs.Updates.{here_at, other_at}
use Rattle.hm_laws.specs.Past.{Past}
use Rattle.hm_laws.specs.Sound.{Sound}
use Rattle.hm_laws.specs.Allowed.{Allowed}
use Rattle.hm_laws.proofs.Migration.Setup.{at_itself}
use Rattle.hm_protocol.specs.declared.events.Event.{Event}
use Rattle.hm_protocol.specs.declared.rules.Rule.{Rule}
use Rattle.hm_protocol.specs.Words.{device_of}
use Rattle.hm_protocol.specs.Known.{Known, known_start}
use Rattle.hm_protocol.specs.Noted.{known_next}
use Rattle.hm_protocol.specs.Tests.{stop_at_detach}
use Rattle.hm_protocol.specs.Projection.{project, events_in, comes_to, top_of, begins_removal, erased}
use Rattle.hm_protocol.specs.Laws.{IsKept}
use Rattle.hm_protocol.proofs.Fits.{Fits, AllFit, in_fits, comes_ok, removal_ok, erased_ok, both}
use Rattle.hm_protocol.proofs.Fields.{at_set, at_end, at_refused, held_keeps, pass_keeps}
use Rattle.hm_protocol.proofs.Steps.{GoBy, Keeps, by, by_thread, never, through, and_more, watched}

-- a mirror is there and not attached
abbrev is_out : Option MirrorState → Bool
is_out None = false
is_out (Some x) = not (is_attached_state x)

-- a removed mirror is so
abbrev KnowsGone : (ℕ → Option MirrorState) → Known → Type 0
KnowsGone s k = (m : ℕ) → k.gone m ≡ true → is_out (s m) ≡ true

-- the entry attaches or detaches a mirror
abbrev is_moving : Kind → Bool
is_moving (Kind.Attached m d p r q) = true
is_moving (Kind.Detached m) = true
is_moving k = false

-- it goes through the mirror's table, or sets an entry there
abbrev touches : Kind → ℕ → Bool
touches (Kind.Set n v f w from) m = n == m
touches (Kind.Loaded (Who.Mirror n) at bs) m = n == m
touches (Kind.Stored (Who.Mirror n) at bs) m = n == m
touches (Kind.Added n at was now) m = n == m
touches k m = false

not_gone : (s : ℕ → Option MirrorState) (k : Known) (m : ℕ) → is_out (s m) ≡ false → KnowsGone s k → k.gone m ≡ false
not_gone s k m h kn = by_bool (k.gone m) refl
  where
    by_bool : (b : Bool) → k.gone m ≡ b → k.gone m ≡ false
    by_bool false e = e
    by_bool true e = absurd (true≢false (sym (kn m e) ∙ h))

each : (s : ℕ → Option MirrorState) (b : Bool) (j : Kind) → is_moving j ≡ false → ((m : ℕ) → touches j m ≡ true → is_out (s m) ≡ false)
    → (k : Known) (a : ℕ) (x : Event) → Fits b j x → KnowsGone s k
    → (stop_at_detach k (by a x) ≡ false) × KnowsGone s (known_next k (by a x))
each s b j mv on k a (Event.Insert m p r d) fits kn = absurd (false≢true (sym mv ∙ ap is_moving fits.1.1.1))
each s b j mv on k a (Event.Removed m) fits kn = absurd (false≢true (sym mv ∙ ap is_moving fits))
each s b j mv on k a (Event.Use m r false) fits kn =
    (not_gone s k m (on m (ap (λ j. touches j m) fits.1.1.1 ∙ at_itself m)) kn, kn)
each s b j mv on k a (Event.Use m r true) fits kn =
    (not_gone s k m (on m (ap (λ j. touches j m) fits.1.1.1 ∙ at_itself m)) kn, kn)
each s b j mv on k a (Event.Add m v) fits kn =
    (not_gone s k m (on m (ap (λ j. touches j m) fits.1.1.1.1 ∙ at_itself m)) kn, kn)
each s b j mv on k a (Event.Set m v g w) fits kn = (
  not_gone s k m (on m (ap (λ j. touches j m) fits.1.1.1 ∙ at_itself m)) kn,
  λ n e. kn n (sym (at_set (λ k. k.gone n) (λ k t m. refl) (λ k t f. refl) (λ k ss xs. refl) k a m v g w) ∙ e),
)
each s b j mv on k a (Event.End p r) fits kn = (refl, λ n e. kn n (sym (at_end (λ k. k.gone n) (λ k us xs. refl) k a p r) ∙ e))
each s b j mv on k a (Event.Told m q true) fits kn = (refl, kn)
each s b j mv on k a (Event.Told m q false) fits kn = (refl, λ n e. kn n (sym (at_refused (λ k. k.gone n) (λ k us xs. refl) k a m q) ∙ e))
each s b j mv on k a (Event.Take f) fits kn = (refl, λ n e. kn n (sym (held_keeps (λ k. k.gone n) (λ k fs. refl) k f (device_of f)) ∙ e))
each s b j mv on k a (Event.Pass f) fits kn = (refl, λ n e. kn n (sym (pass_keeps (λ k. k.gone n) (λ k p. refl) k (device_of f)) ∙ e))
each s b j mv on k a x fits kn = (refl, kn)

quiet : (s : ℕ → Option MirrorState) (b : Bool) (j : Kind) → is_moving j ≡ false
    → ((m : ℕ) → touches j m ≡ true → is_out (s m) ≡ false) → (a : ℕ) (xs : List Event) → AllFit b j xs → (k : Known)
    → KnowsGone s k → GoBy stop_at_detach k (by_thread a xs) (KnowsGone s)
quiet s b j mv on a xs fits k kn = through stop_at_detach (KnowsGone s) b j a (λ k x. each s b j mv on k a x) xs fits k kn

still : (s : ℕ → Option MirrorState) (a : ℕ) (xs : List Event) → AllFit false (Kind.Evicted 0) xs → (k : Known)
    → KnowsGone s k → GoBy stop_at_detach k (by_thread a xs) (KnowsGone s)
still s a xs fits k kn = quiet s false (Kind.Evicted 0) refl (λ m e. absurd (false≢true e)) a xs fits k kn

-- what is changed of mirrors by an entry that neither attaches nor detaches one
out_kept : (s : Plain) (j : Kind) → is_moving j ≡ false → (m : ℕ) → is_out (s.mirrors m) ≡ true → is_out ((plain_next s j).mirrors m) ≡ true
out_kept s (Kind.Detaching n q) h m e = by_number (cases_eq m n)
  where
    gone_now : (x : Option MirrorState) → is_out x ≡ true → is_out (with_attachment Attachment.Detaching x) ≡ true
    gone_now None e = e
    gone_now (Some x) e = refl

    by_number : (m ≡ n) ⊎ (m ≡ n → ⊥) → is_out (with_at s.mirrors n (with_attachment Attachment.Detaching (s.mirrors n)) m) ≡ true
    by_number (inl q) = ap (λ m. is_out (with_at s.mirrors n (with_attachment Attachment.Detaching (s.mirrors n)) m)) q
        ∙ (ap is_out (here_at s.mirrors n (with_attachment Attachment.Detaching (s.mirrors n)))
        ∙ gone_now (s.mirrors n) (ap (λ m. is_out (s.mirrors m)) (sym q) ∙ e))
    by_number (inr ne) = ap is_out (other_at s.mirrors n m (with_attachment Attachment.Detaching (s.mirrors n)) ne) ∙ e
out_kept s (Kind.Attached n d p r q) h m e = absurd (true≢false h)
out_kept s (Kind.Detached n) h m e = absurd (true≢false h)
out_kept s j h m e = e

attached_now : (s : ℕ → Option MirrorState) (k : Known) (a m d p q : ℕ) (r : Pages) (x : MirrorState) → KnowsGone s k
    → KnowsGone (with_at s m (Some x)) (known_next (known_next k (by a (Event.Insert m p r (Some d)))) (by a (Event.Inserted m q true)))
attached_now s k a m d p q r x kn n = by_bool (n == m)
  where
    by_bool : (b : Bool) → (if b then false else k.gone n) ≡ true → is_out (if b then Some x else s n) ≡ true
    by_bool true e = absurd (false≢true e)
    by_bool false e = kn n e

detached_now : (s : ℕ → Option MirrorState) (k : Known) (a m : ℕ) → is_some (s m) ≡ true → KnowsGone s k
    → KnowsGone (with_at s m (with_attachment Attachment.Gone (s m))) (known_next k (by a (Event.Removed m)))
detached_now s k a m h kn n = by_bool (n == m)
  where
    gone_now : (x : Option MirrorState) → is_some x ≡ true → is_out (with_attachment Attachment.Gone x) ≡ true
    gone_now None e = absurd (false≢true e)
    gone_now (Some x) e = refl

    by_bool : (b : Bool) → (if b then true else k.gone n) ≡ true → is_out (if b then with_attachment Attachment.Gone (s m) else s n) ≡ true
    by_bool true e = gone_now (s m) h
    by_bool false e = kn n e

-- the events of an entry
entry : (t u : State) (a : ℕ) (j : Kind) (o : Option Op) (k : Known)
    → ((m : ℕ) → u.after.plain.mirrors m ≡ (plain_next t.after.plain j).mirrors m)
    → ((m : ℕ) → touches j m ≡ true → is_out (t.after.plain.mirrors m) ≡ false)
    → ((m : ℕ) → j ≡ Kind.Detached m → is_some (t.after.plain.mirrors m) ≡ true) → is_some o ≡ true
    → KnowsGone t.after.plain.mirrors k → GoBy stop_at_detach k (by_thread a (events_in t u a j o)) (KnowsGone u.after.plain.mirrors)
entry t u a j None k up on there h kn = absurd (false≢true h)
entry t u a (Kind.Attached m d p r q) (Some o) k up on there h kn = let g = t.going a in let s : ℕ → Option MirrorState = t.after.plain.mirrors in
    and_more stop_at_detach (KnowsGone s) (KnowsGone u.after.plain.mirrors) k a
    (comes_to t.after o g.pages (top_of g.stack) (Kind.Attached m d p r q)) (Event.Insert m p r (Some d) ∷ Event.Inserted m q true ∷ [])
    (still s a (comes_to t.after o g.pages (top_of g.stack) (Kind.Attached m d p r q))
    (comes_ok false (Kind.Evicted 0) t.after o g.pages (top_of g.stack) (Kind.Attached m d p r q)) k kn)
    (λ l n. ((refl, (refl, tt)), λ i e. ap is_out (up i) ∙ attached_now s l a m d p q r _ n i e))
entry t u a (Kind.Detached m) (Some o) k up on there h kn = let g = t.going a in let s : ℕ → Option MirrorState = t.after.plain.mirrors in
    and_more stop_at_detach (KnowsGone s) (KnowsGone u.after.plain.mirrors) k a
    (comes_to t.after o g.pages (top_of g.stack) (Kind.Detached m))
    (begins_removal (top_of g.stack) m ++ erased t.after u.after m ++ Event.Removed m ∷ [])
    (still s a (comes_to t.after o g.pages (top_of g.stack) (Kind.Detached m))
    (comes_ok false (Kind.Evicted 0) t.after o g.pages (top_of g.stack) (Kind.Detached m)) k kn)
    (λ l n. and_more stop_at_detach (KnowsGone s) (KnowsGone u.after.plain.mirrors) l a
    (begins_removal (top_of g.stack) m ++ erased t.after u.after m) (Event.Removed m ∷ [])
    (still s a (begins_removal (top_of g.stack) m ++ erased t.after u.after m)
    (both false (Kind.Evicted 0) (begins_removal (top_of g.stack) m) (erased t.after u.after m)
    (removal_ok false (Kind.Evicted 0) (top_of g.stack) m) (erased_ok false (Kind.Evicted 0) refl t.after u.after m)) l n)
    (λ i n. ((refl, tt), λ v e. ap is_out (up v) ∙ detached_now s i a m (there m refl) n v e)))
entry t u a j (Some o) k up on there h kn = let s : ℕ → Option MirrorState = t.after.plain.mirrors in
    let all : GoBy stop_at_detach k (by_thread a (events_in t u a j (Some o))) (KnowsGone s) =
    quiet s (is_some (u.after.locks.map a)) j refl on a (events_in t u a j (Some o)) (in_fits t u a j (Some o)) k kn in
    (all.0, λ m e. ap is_out (up m) ∙ out_kept t.after.plain j refl m (all.1 m e))

-- ---- who goes through a table

attached_is_in : (x : Option MirrorState) → mirror_passes is_attached_state x ≡ true → is_out x ≡ false
attached_is_in None h = refl
attached_is_in (Some x) h = ap not h

has_table : (c : Program) (s : After) (t : Past) (m v : ℕ) (test : TableEntry → Bool) → Sound c s t
    → entry_passes test (s.places.table m v) ≡ true → is_out (s.plain.mirrors m) ≡ false
has_table c s t m v test so h = by_bool (mirror_passes is_attached_state (s.plain.mirrors m)) refl
  where
    by_bool : (b : Bool) → mirror_passes is_attached_state (s.plain.mirrors m) ≡ b → is_out (s.plain.mirrors m) ≡ false
    by_bool true e = attached_is_in (s.plain.mirrors m) e
    by_bool false e = absurd (false≢true (sym (ap (entry_passes test) (so.tables.unattached m v e)) ∙ h))

pub owned_is : (o : Option ℕ) (f : ℕ → Bool) → IsTrue (owned o f) → (p : ℕ) × (f p ≡ true)
owned_is None f h = absurd (false≢true h)
owned_is (Some p) f h = (p, h)

touched : (c : Program) (s : After) (t : Past) (a : ℕ) (j : Kind) → Sound c s t → Allowed c s t a j
    → IsTrue (places_accept c (mirror_owner s.plain) s.places a j) → (m : ℕ) → touches j m ≡ true → is_out (s.plain.mirrors m) ≡ false
touched c s t a (Kind.Set n v f w from) so ok acc m e = ap (λ m. is_out (s.plain.mirrors m)) (sym (eqb-true n m e))
    ∙ (ap is_out ok.is ∙ ap not ok.attached)
touched c s t a (Kind.Loaded (Who.Mirror n) at bs) so ok acc m e = let x : (p : ℕ) × (table_reads s.places n p (page_of at) ≡ true) =
    owned_is (mirror_owner s.plain n) (λ p. table_reads s.places n p (page_of at)) acc in
    ap (λ m. is_out (s.plain.mirrors m)) (sym (eqb-true n m e)) ∙ has_table c s t n (page_of at) _ so x.1
touched c s t a (Kind.Stored (Who.Mirror n) at bs) so ok acc m e = let x : (p : ℕ) × (table_writes s.places n p (page_of at) ≡ true) =
    owned_is (mirror_owner s.plain n) (λ p. table_writes s.places n p (page_of at)) acc in
    ap (λ m. is_out (s.plain.mirrors m)) (sym (eqb-true n m e))
    ∙ has_table c s t n (page_of at) _ so (and_parts (table_reads s.places n x.0 (page_of at)) _ x.1).0
touched c s t a (Kind.Added n at was now) so ok acc m e = let x : (p : ℕ) × (table_sole s.places a n p (page_of at) ≡ true) =
    owned_is (mirror_owner s.plain n) (λ p. table_sole s.places a n p (page_of at)) acc in
    ap (λ m. is_out (s.plain.mirrors m)) (sym (eqb-true n m e)) ∙ has_table c s t n (page_of at) _ so x.1
touched c s t a j so ok acc m e = absurd (false≢true e)

was_there : (x : Option MirrorState) (test also : MirrorState → Bool) → (mirror_passes test x || mirror_passes also x) ≡ true → is_some x ≡ true
was_there None test also h = h
was_there (Some x) test also h = refl

keeps : (c : Program) → Keeps c stop_at_detach (λ k t. KnowsGone t.after.plain.mirrors k)
keeps c t e k s kn = entry t (state_next c t e) e.actor e.kind (op_at c e.actor (t.going e.actor).index) k (λ m. refl)
    (touched c t.after s.past e.actor e.kind s.now.sound s.turn.allowed s.places)
    (λ m q. was_there (t.after.plain.mirrors m) is_attached_state is_detaching_state (subst (Allowed c t.after s.past e.actor) q s.turn.allowed).0)
    (ap is_some s.turn.is_op) kn

-- no legal history breaks `stop-at-detach`
pub stop_at_detach_kept : IsKept Rule.StopAtDetach
stop_at_detach_kept c sc h legal = never stop_at_detach known_start (project c h)
    (watched c stop_at_detach (λ k t. KnowsGone t.after.plain.mirrors k) sc (keeps c) (λ m e. absurd (false≢true e)) h legal).0
