-- After the events of an entry, look-ups under way meet no callback, but for those of the mirror that it tells.
use Rattle.std.proofs.Common.{refl, ap, sym, subst, ◌∙◌, inl, inr}
use Rattle.std.proofs.lemmas.Bool.{false≢true}
use Rattle.std.specs.Prelude.{◌≡◌, ℕ, ◌<◌, ◌⊎◌, true, false, not, ◌&&◌, Option}
use Rattle.std.specs.Prelude.{Some}
use Rattle.std.specs.Prelude.{is_some, List, [], ◌∷◌, ◌++◌, fold}
use Rattle.hm_base.specs.Program.{Program}
use Rattle.hm_base.specs.Pages.{Pages}
use Rattle.hm_base.specs.declared.Frame.{Frame}
use Rattle.hm_base.specs.declared.ops.Op.{Op}
use Rattle.hm_history.specs.Memory.Sequences.{interval_seq}
use Rattle.hm_history.specs.Memory.After.{After}
use Rattle.hm_history.specs.Kernel.Operation.{op_mirror}
use Rattle.hm_history.specs.Kernel.Going.{State, op_at, state_next}
use Rattle.hm_history.specs.Kernel.Due.{process_seq}
use Rattle.hm_history.specs.declared.TableRight.{TableRight}
use Rattle.hm_history.specs.declared.Kind.{Kind}
use Rattle.hm_history.specs.declared.Entry.{Entry}
use Rattle.hm_history.specs.declared.phases.Migrating.{Migrating}
use Rattle.hm_history.specs.declared.phases.MoveStep.{MoveStep}
use Rattle.hm_history.specs.declared.phases.Phase.{Phase}
use Rattle.hm_laws.specs.Facts.{Within}
use Rattle.hm_protocol.specs.declared.events.Event.{Event}
use Rattle.hm_protocol.specs.Known.{Known, is_migrated, is_look_up}
use Rattle.hm_protocol.specs.Noted.{known_next}
use Rattle.hm_protocol.specs.Projection.{comes_to, events_by, erased, entry_frame, top_of}
use Rattle.hm_protocol.proofs.Fits.{events_fit, comes_ok, erased_ok}
use Rattle.hm_protocol.proofs.Steps.{Step, by, by_thread}
use Rattle.hm_protocol.proofs.Calls.{cores}
use Rattle.hm_protocol.proofs.ComesFrom.{turn_from, ComesFrom, SetAt}
use Rattle.hm_protocol.proofs.Stands.{Stand, stand, seq_at}
use Rattle.hm_protocol.proofs.Unmet.{Unmet, AllBefore}
use Rattle.hm_protocol.proofs.Seeing.{begun_unmet, Seen, Sets, seen_next, unheard}
use Rattle.hm_protocol.proofs.MovedRecords.{in_turn}
use Rattle.hm_protocol.proofs.RecordsKept.{Migrates}
use Rattle.hm_protocol.proofs.Entries.{known_after, events_are}
use Rattle.hm_protocol.proofs.MigrationSets.{AllMigrate, set_by_migration}

-- a look-up under way: its sequence is below that of its process, and as long as it is the interval's it meets none
pub record Held (s : After) (k : Known) (a : ℕ) (o : Op) (q : ℕ) : Type 0 where
  pub page : ℕ
  pub within : Within s.plain (op_mirror o) page
  pub below : q < process_seq s (op_mirror o)
  pub unmet : interval_seq s.sequences (op_mirror o) ≡ q → Unmet k a (op_mirror o)

-- each look-up under way is so
abbrev pub AllHeld : Program → Known → State → Type 0
AllHeld c k t = (a : ℕ) (o : Op) → op_at c a (t.going a).index ≡ Some o → (q : ℕ)
    → seq_at (t.going a).stack ≡ Some q → Held t.after k a o q

-- a look-up of the actor in the mirror is under way with the interval's sequence
pub record Lasting (c : Program) (t : State) (a m : ℕ) : Type 0 where
  pub op : Op
  pub seq : ℕ
  pub is_op : op_at c a (t.going a).index ≡ Some op
  pub looks : seq_at (t.going a).stack ≡ Some seq
  pub mirror : m ≡ op_mirror op
  pub same : interval_seq t.after.sequences m ≡ seq

-- what an entry leaves of such look-ups, and which it adds
abbrev pub Still : Kind → ℕ → (ℕ → ℕ → Type 0) → ℕ → ℕ → Type 0
Still (Kind.Told n r q) a W b m = W b m × (m ≡ n → ⊥)
Still (Kind.Begin n q) a W b m = W b m ⊎ ((b ≡ a) × (m ≡ n))
Still j a W b m = W b m

-- ---- the events of an entry

after_comes : (W : ℕ → ℕ → Type 0) (s : After) (a : ℕ) (o : Op) (xs : List Migrating) (top : Phase) (j : Kind)
    (k : Known)
    → Seen W k → Seen W (fold known_next k (by_thread a (comes_to s o xs top j)))
after_comes W s a o xs top j k se = (unheard W false (Kind.Evicted 0) refl a (comes_to s o xs top j)
    (comes_ok false (Kind.Evicted 0) s o xs top j) k se).1

after_told : (W : ℕ → ℕ → Type 0) (s u : After) (a n z y : ℕ) (r : Pages) (k : Known) → Seen W k
    → Seen (λ b m. W b m × (m ≡ n → ⊥)) (fold known_next k (by_thread a
    (Event.Tell n r z ∷ (erased s u n ++ Event.Told n y true ∷ []))))
after_told W s u a n z y r k se = subst (Seen (λ b m. W b m × (m ≡ n → ⊥)))
    (sym (in_turn a (erased s u n) (Event.Told n y true ∷ []) (known_next k (by a (Event.Tell n r z)))))
    (seen_next (λ b m. W b m × (m ≡ n → ⊥)) erased_all a (Event.Told n y true) (λ b m w. w.1) refl tt
    (record { before = was.before; unmet = λ b m w. was.unmet b m w.0; none_stale = was.none_stale }))
  where
    told : Known
    told = known_next k (by a (Event.Tell n r z))

    erased_all : Known
    erased_all = fold known_next (known_next k (by a (Event.Tell n r z))) (by_thread a (erased s u n))

    was : Seen W (fold known_next (known_next k (by a (Event.Tell n r z))) (by_thread a (erased s u n)))
    was = (unheard W false (Kind.Evicted 0) refl a (erased s u n) (erased_ok false (Kind.Evicted 0) refl s u n) told
        (seen_next W k a (Event.Tell n r z) (λ b m w. tt) refl tt se)).1

after_begin : (W : ℕ → ℕ → Type 0) (a n q : ℕ) (k : Known) → Seen W k
    → Seen (λ b m. W b m ⊎ ((b ≡ a) × (m ≡ n))) (known_next k (by a (Event.Begin n q)))
after_begin W a n q k se = record {
  before = next.before;
  unmet = λ b m w. pick b m w;
  none_stale = next.none_stale;
}
  where
    next : Seen W (known_next k (by a (Event.Begin n q)))
    next = seen_next W k a (Event.Begin n q) (λ b m w. tt) refl tt se

    pick : (b m : ℕ) → W b m ⊎ ((b ≡ a) × (m ≡ n)) → Unmet (known_next k (by a (Event.Begin n q))) b m
    pick b m (inl w) = next.unmet b m w
    pick b m (inr (e, f)) = subst (λ b. Unmet (known_next k (by a (Event.Begin n q))) b m) (sym e)
        (subst (λ m. Unmet (known_next k (by a (Event.Begin n q))) a m) (sym f) (begun_unmet k a n q se.before))

after_events : (W : ℕ → ℕ → Type 0) (s u : After) (a : ℕ) (o : Op) (xs : List Migrating) (stack : List Phase)
    (after : Phase)
    (j : Kind) (k : Known)
    → ((m v : ℕ) (f : Option Frame) (w : TableRight) (from : ℕ) → j ≡ Kind.Set m v f w from
    → Sets k a (Event.Set m v (entry_frame f) w))
    → Seen W k → Seen (Still j a W) (fold known_next k (by_thread a (events_by s u a o xs stack after j)))
after_events W s u a o xs stack after (Kind.Told n r z) k sets se = after_told W s u a n z
    (interval_seq u.sequences n) r k se
after_events W s u a o xs stack after (Kind.Begin n q) k sets se = after_begin W a n q k se
after_events W s u a o xs stack after (Kind.Set m v f w from) k sets se =
    seen_next W k a (Event.Set m v (entry_frame f) w) (λ b m w. tt) refl (sets m v f w from refl) se
after_events W s u a o xs stack after j k sets se =
    (unheard W (is_some (u.locks.map a)) j refl a (events_by s u a o xs stack after j)
    (events_fit (is_some (u.locks.map a)) s u a o xs stack after j refl) k se).1

-- who sets a table: a look-up under way, or another that is none
set_ok : (W : ℕ → ℕ → Type 0) (s : After) (a : ℕ) (o : Op) (xs : List Migrating) (top : Phase) (below : List Phase)
    (m v from : ℕ) (f : Option Frame) (w : TableRight) (k : Known)
    → ((q : ℕ) → seq_at (top ∷ below) ≡ Some q → m ≡ op_mirror o → interval_seq s.sequences m ≡ q → W a m)
    → ((step : MoveStep) → stand (top ∷ below) ≡ Stand.Moves step → Migrates o step (k.moves a) xs)
    → Seen W (fold known_next k (by_thread a (comes_to s o xs top (Kind.Set m v f w from))))
    → SetAt s o xs top m v w
    → Sets (fold known_next k (by_thread a (comes_to s o xs top (Kind.Set m v f w from)))) a
    (Event.Set m v (entry_frame f) w)
set_ok W s a o xs (Phase.Noted n at q x) below m v from f w k lasts moves se h = λ e. se.unmet a m
    (lasts q refl h.0 h.1)
set_ok W s a o xs (Phase.Decide touch) below m v from f w k lasts moves se h = λ e. absurd (false≢true (sym none ∙ e))
  where
    none : is_look_up (fold known_next k (by_thread a (comes_to s o xs (Phase.Decide touch) (Kind.Set m v f w from)))) a
        v w ≡ false
    none = ap (λ b. not b && not (is_migrated ((fold known_next k
        (by_thread a (comes_to s o xs (Phase.Decide touch) (Kind.Set m v f w from)))).moves a) v)) h
set_ok W s a o xs (Phase.Moves step n) below m v from f w k lasts moves se h = λ e.
    absurd (false≢true (sym (set_by_migration s o xs step n m v from f w k a (moves step refl) h) ∙ e))
set_ok W s a o xs top below m v from f w k lasts moves se h = absurd h

-- ---- a state

-- what holds of what is known and of the state
pub record Commits (c : Program) (k : Known) (t : State) : Type 0 where
  pub before : AllBefore k.at (cores k)
  pub held : AllHeld c k t
  pub migrate : AllMigrate c k t
  pub none_stale : k.stale ≡ []

lasting_seen : (c : Program) (k : Known) (t : State) → Commits c k t → Seen (Lasting c t) k
lasting_seen c k t co = record {
  before = co.before;
  unmet = λ a m w. subst (Unmet k a) (sym w.mirror) ((co.held a w.op w.is_op w.seq w.looks).unmet
      (ap (interval_seq t.after.sequences) (sym w.mirror) ∙ w.same));
  none_stale = co.none_stale;
}

-- look-ups after an entry
pub seen_after : (c : Program) (t : State) (e : Entry) (k : Known) → Step c t e → Commits c k t
    → Seen (Still e.kind e.actor (Lasting c t)) (known_after c t e k)
seen_after c t e k s co =
    subst (λ es. Seen (Still e.kind e.actor (Lasting c t)) (fold known_next k (by_thread e.actor es)))
    (sym (events_are c t u e.actor e.kind s.turn.op s.turn.top s.turn.below s.turn.is_op s.turn.is_stack))
    (subst (Seen (Still e.kind e.actor (Lasting c t)))
    (sym (in_turn e.actor (comes_to t.after s.turn.op (t.going e.actor).pages s.turn.top e.kind)
    (events_by t.after u.after e.actor s.turn.op (t.going e.actor).pages (s.turn.top ∷ s.turn.below)
    (top_of (u.going e.actor).stack) e.kind) k))
    (after_events (Lasting c t) t.after u.after e.actor s.turn.op (t.going e.actor).pages (s.turn.top ∷ s.turn.below)
    (top_of (u.going e.actor).stack) e.kind l sets come))
  where
    u : State
    u = state_next c t e

    l : Known
    l = fold known_next k (by_thread e.actor (comes_to t.after s.turn.op (t.going e.actor).pages s.turn.top e.kind))

    come : Seen (Lasting c t)
        (fold known_next k (by_thread e.actor (comes_to t.after s.turn.op (t.going e.actor).pages s.turn.top e.kind)))
    come = after_comes (Lasting c t) t.after e.actor s.turn.op (t.going e.actor).pages s.turn.top e.kind k
        (lasting_seen c k t co)

    sets : (m v : ℕ) (f : Option Frame) (w : TableRight) (from : ℕ) → e.kind ≡ Kind.Set m v f w from
        → Sets (fold known_next k
        (by_thread e.actor (comes_to t.after s.turn.op (t.going e.actor).pages s.turn.top e.kind))) e.actor
        (Event.Set m v (entry_frame f) w)
    sets m v f w from q =
        subst (λ j. Sets (fold known_next k
        (by_thread e.actor (comes_to t.after s.turn.op (t.going e.actor).pages s.turn.top j)))
        e.actor (Event.Set m v (entry_frame f) w)) (sym q)
        (set_ok (Lasting c t) t.after e.actor s.turn.op (t.going e.actor).pages s.turn.top s.turn.below m v from f w k
        (λ z g i h. record {
          op = s.turn.op;
          seq = z;
          is_op = s.turn.is_op;
          looks = ap seq_at s.turn.is_stack ∙ g;
          mirror = i;
          same = h;
        })
        (λ step g. co.migrate e.actor s.turn.op s.turn.is_op step (ap stand s.turn.is_stack ∙ g))
        (subst (λ j. Seen (Lasting c t)
        (fold known_next k (by_thread e.actor (comes_to t.after s.turn.op (t.going e.actor).pages s.turn.top j)))) q
        come)
        (subst (ComesFrom t.after s.turn.op (t.going e.actor).pages s.turn.top) q (turn_from c t e s)))
