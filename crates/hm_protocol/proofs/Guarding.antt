-- What is known of callbacks holds of the state after each entry, and no event breaks a rule of invalidations.
use Rattle.std.proofs.Common.{refl, ap, sym, subst, ◌∙◌}
use Rattle.std.proofs.lemmas.Bool.{true≢false, false≢true, and_parts, eqb-true}
use Rattle.std.specs.Prelude.{◌≡◌, ℕ, Bool, true, false, ◌&&◌, ◌||◌, ◌==◌, if◌then◌else◌, Option}
use Rattle.std.specs.Prelude.{List, [], ◌∷◌, ◌++◌, map, filter}
use Rattle.std.specs.List.{list_any}
use Rattle.hm_base.specs.Pages.{Pages}
use Rattle.hm_base.specs.declared.Frame.{Frame}
use Rattle.hm_history.specs.Memory.Sequences.{Sequences}
use Rattle.hm_history.specs.declared.TableRight.{TableRight}
use Rattle.hm_history.specs.declared.Kind.{Kind}
use Rattle.hm_history.proofs.Tests.{no_test}
use Rattle.hm_protocol.specs.declared.events.Event.{Event}
use Rattle.hm_protocol.specs.declared.events.Traced.{Traced}
use Rattle.hm_protocol.specs.Words.{device_of, drop_if, is_it, is_empty, is_sole}
use Rattle.hm_protocol.specs.Known.{Call, Look, Early, Known, goes_on, is_telling, is_early, is_invalidated}
use Rattle.hm_protocol.specs.Known.{is_slot, meets, is_look_up}
use Rattle.hm_protocol.specs.Noted.{noted, known_next, after_set, set_by, commit, moving, too_early, begun_last, is_walked, is_last}
use Rattle.hm_protocol.specs.Tests.{detach_waits, exclusive_waits, set_unless_invalidated, is_migrated_set}
use Rattle.hm_protocol.proofs.Fits.{Fits, AllFit}
use Rattle.hm_protocol.proofs.Fields.{held_keeps, pass_keeps}
use Rattle.hm_protocol.proofs.Steps.{GoBy, by, by_thread, through}
use Rattle.hm_protocol.proofs.Tellings.{Tells}
use Rattle.hm_protocol.proofs.Calls.{core, cores, cores_keep, under_keeps, mapped, CallOk, AllCalls}
use Rattle.hm_protocol.proofs.Calls.{GuardKnown, AllPast, KnowsCalls, none_such, none_left, telling_says, all_past}

-- an event breaks a rule of invalidations
abbrev pub told_wrong : Known → Traced → Bool
told_wrong k s = detach_waits k s || (exclusive_waits k s || set_unless_invalidated k s)

pub knows_same : (s : Sequences) (k l : Known) → l.under ≡ k.under → cores l ≡ cores k → l.early ≡ k.early → l.stale ≡ k.stale
    → KnowsCalls s k → KnowsCalls s l
knows_same s k l u c e p kn = record {
  guards = λ t. subst (λ us. GuardKnown (s.guard t) (us t)) (sym u) (kn.guards t);
  calls = subst (λ us. AllCalls s us (cores l)) (sym u) (subst (AllCalls s k.under) (sym c) kn.calls);
  none_early = e ∙ kn.none_early;
  past = subst AllPast (sym p) kn.past;
}

-- nobody tells the mirror now
abbrev pub Untold : Sequences → ℕ → Type 0
Untold s m = (t q : ℕ) → Tells s t m q → ⊥

none_telling : (s : Sequences) (k : Known) (m : ℕ) → Untold s m → KnowsCalls s k → list_any (is_telling m) k.calls ≡ false
none_telling s k m un kn = none_such s k.under (is_telling m) (λ x h e. un x.thread x.seq (telling_says s k.under m x h e)) k.calls kn.calls

none_invalidated : (s : Sequences) (k : Known) (m : ℕ) → Untold s m → KnowsCalls s k → is_invalidated k m ≡ false
none_invalidated s k m un kn = none_such s k.under (λ x. is_telling m x && is_it x.after x.seq)
    (λ x h e. un x.thread x.seq (telling_says s k.under m x h (and_parts (is_telling m x) (is_it x.after x.seq) e).0)) k.calls kn.calls

-- a sequence that nobody was told who is told now
pub not_early : (s : Sequences) (k : Known) (m q : ℕ) → ((t z : ℕ) → Tells s t m z → z ≡ q → ⊥) → KnowsCalls s k → is_early k m q ≡ false
not_early s k m q un kn = none_such s k.under (λ x. is_telling m x && (x.seq == q))
    (λ x h e. let p : (is_telling m x ≡ true) × ((x.seq == q) ≡ true) = and_parts (is_telling m x) (x.seq == q) e in
    un x.thread x.seq (telling_says s k.under m x h p.0) (eqb-true x.seq q p.1)) k.calls kn.calls

-- ---- a `Set`

-- a commit that meets only what is over
none_goes : (s : Sequences) (k : Known) (l : Look) (m : ℕ) → Untold s m → KnowsCalls s k → list_any goes_on (filter (meets l m) k.calls) ≡ false
none_goes s k l m un kn = none_left s k.under (meets l m) goes_on (λ x h e g. un x.thread x.seq (told x h e g)) k.calls kn.calls
  where
    told : (x : Call) → CallOk s k.under (core x) → meets l m x ≡ true → goes_on x ≡ true → Tells s x.thread m x.seq
    told x h e g = subst (λ m. Tells s x.thread m x.seq) (eqb-true x.mirror m (and_parts (x.mirror == m) _ e).0) (h.1 g).tells

past_commit : (s : Sequences) (k : Known) (t m : ℕ) → Untold s m → KnowsCalls s k → KnowsCalls s (commit k t m)
past_commit s k t m un kn = record {
  guards = kn.guards;
  calls = kn.calls;
  none_early = kn.none_early;
  past = by_bool (is_empty (filter (meets (k.looks t m) m) k.calls));
}
  where
    by_bool : (b : Bool) → AllPast (if b then k.stale else k.stale ++ (k.at, list_any goes_on (filter (meets (k.looks t m) m) k.calls)) ∷ [])
    by_bool true = kn.past
    by_bool false = all_past k.stale _ kn.past (none_goes s k (k.looks t m) m un kn, tt)

set_known : (s : Sequences) (k : Known) (t m v : ℕ) (w : TableRight) → Untold s m → KnowsCalls s k → KnowsCalls s (set_by k t m v w)
set_known s k t m v w un kn = by_bool (is_look_up k t v w) (is_sole w)
  where
    by_bool : (b d : Bool) → KnowsCalls s (if b then commit k t m else if d then k else moving k t (λ y. record y { set = v ∷ y.set }))
    by_bool true d = past_commit s k t m un kn
    by_bool false true = kn
    by_bool false false = record { guards = kn.guards; calls = kn.calls; none_early = kn.none_early; past = kn.past }

table_set : (s : Sequences) (k : Known) (m v : ℕ) (w : TableRight) → KnowsCalls s k → KnowsCalls s (record k {
  slots = record { mirror = m; page = v; right = w; at = k.at } ∷ drop_if (is_slot m v) k.slots;
  calls = map (after_set m v) k.calls;
})
table_set s k m v w kn = record {
  guards = kn.guards;
  calls = subst (AllCalls s k.under) (sym (mapped (after_set m v) (λ x. refl) k.calls)) kn.calls;
  none_early = kn.none_early;
  past = kn.past;
}

not_invalidated : (b d : Bool) (w : Bool) → b ≡ false → ((w && b) || (d && b)) ≡ false
not_invalidated true d w h = absurd (true≢false h)
not_invalidated false true true h = refl
not_invalidated false true false h = refl
not_invalidated false false true h = refl
not_invalidated false false false h = refl

-- ---- a look-up that begins or walks

last_of_none : (t m : ℕ) (l : Look) (xs : List Early) → xs ≡ [] → begun_last t m l xs ≡ []
last_of_none t m l xs e = ap (begun_last t m l) e ∙ by_bool (is_walked l.stage && l.itself)
  where
    by_bool : (b : Bool) → (if b then drop_if (is_last t m) [] else map (λ x. if is_last t m x then record x { last = false } else x) []) ≡ []
    by_bool true = refl
    by_bool false = refl

pub none_more : (k : Known) (t m q : ℕ) (b : Bool) (xs : List Early) → xs ≡ [] → is_early k m q ≡ false → xs ++ too_early k t m q b ≡ []
none_more k t m q b xs e h = ap (λ ys. ys ++ too_early k t m q b) e
    ∙ ap (λ d. if d then record { thread = t; mirror = m; last = b; at = k.at } ∷ [] else []) h

-- a walk with a sequence that nobody was told who is told now
pub walk_known : (s : Sequences) (k : Known) (a m q : ℕ) (r : Pages) (locked : Bool) (d : Option ℕ)
    → ((t z : ℕ) → Tells s t m z → z ≡ q → ⊥) → KnowsCalls s k
    → (told_wrong k (by a (Event.Walk m r q locked d)) ≡ false) × KnowsCalls s (known_next k (by a (Event.Walk m r q locked d)))
walk_known s k a m q r locked d un kn = (
  refl,
  record {
    guards = kn.guards;
    calls = kn.calls;
    none_early = none_more k a m q true k.early kn.none_early (not_early s k m q un kn);
    past = kn.past;
  },
)

begin_known : (s : Sequences) (k : Known) (a m q : ℕ) → ((t z : ℕ) → Tells s t m z → z ≡ q → ⊥) → KnowsCalls s k
    → KnowsCalls s (known_next k (by a (Event.Begin m q)))
begin_known s k a m q un kn = record {
  guards = kn.guards;
  calls = kn.calls;
  none_early = none_more k a m q false (begun_last a m (k.looks a m) k.early) (last_of_none a m (k.looks a m) k.early kn.none_early)
      (not_early s k m q un kn);
  past = kn.past;
}

-- ---- any event but those of invalidations, and walks

-- the entry says an event of an invalidation or a walk
abbrev pub is_special : Kind → Bool
is_special (Kind.Start p r q) = true
is_special (Kind.End p r q) = true
is_special (Kind.Told m r q) = true
is_special (Kind.Rlock p) = true
is_special k = false

-- what an entry asks that may set, begin or detach
pub record Asks (s : Sequences) (j : Kind) : Type 0 where
  pub sets : (m v : ℕ) (f : Option Frame) (w : TableRight) (from : ℕ) → j ≡ Kind.Set m v f w from → Untold s m
  pub begins : (m q : ℕ) → j ≡ Kind.Begin m q → (t z : ℕ) → Tells s t m z → z ≡ q → ⊥
  pub detaches : (m : ℕ) → j ≡ Kind.Detached m → Untold s m
  pub plain : is_special j ≡ false

-- an entry that does nothing of this asks nothing
pub no_asks : (s : Sequences) → Asks s (Kind.Evicted 0)
no_asks s = record {
  sets = λ m v f w from e. no_test (ap (λ (k : Kind). elim k [ Kind.Evicted n ↦ false | _ ↦ true ]) e);
  begins = λ m q e. no_test (ap (λ (k : Kind). elim k [ Kind.Evicted n ↦ false | _ ↦ true ]) e);
  detaches = λ m e. no_test (ap (λ (k : Kind). elim k [ Kind.Evicted n ↦ false | _ ↦ true ]) e);
  plain = refl;
}

each : (s : Sequences) (b : Bool) (j : Kind) → Asks s j → (k : Known) (a : ℕ) (x : Event) → Fits b j x → KnowsCalls s k
    → (told_wrong k (by a x) ≡ false) × KnowsCalls s (known_next k (by a x))
each s b j asks k a (Event.Start p r why d) fits kn = absurd (false≢true (sym asks.plain ∙ ap is_special fits.1))
each s b j asks k a (Event.End p r) fits kn = absurd (false≢true (sym asks.plain ∙ ap is_special fits.1))
each s b j asks k a (Event.Tell m r q) fits kn = absurd (false≢true (sym asks.plain ∙ ap is_special fits))
each s b j asks k a (Event.Told m q done) fits kn = absurd (false≢true (sym asks.plain ∙ ap is_special fits.1.1))
each s b j asks k a (Event.Walk m r q locked d) fits kn = absurd (false≢true (sym asks.plain ∙ ap is_special fits.1.1))
each s b j asks k a (Event.Begin m q) fits kn = (refl, begin_known s k a m q (asks.begins m q fits) kn)
each s b j asks k a (Event.Removed m) fits kn = (
  ap (λ b. b || (false || false)) (none_telling s k m (asks.detaches m fits) kn),
  record { guards = kn.guards; calls = kn.calls; none_early = kn.none_early; past = kn.past },
)
each s b j asks k a (Event.Set m v g w) fits kn = let un : Untold s m = asks.sets m v fits.0 w fits.1.1.0 fits.1.1.1 in (
  not_invalidated (is_invalidated k m) (is_migrated_set (k.moves a) (λ y. true) v w) (is_sole w) (none_invalidated s k m un kn),
  set_known s (record k {
    slots = record { mirror = m; page = v; right = w; at = k.at } ∷ drop_if (is_slot m v) k.slots;
    calls = map (after_set m v) k.calls;
  }) a m v w un (table_set s k m v w kn),
)
each s b j asks k a (Event.Erase m v) fits kn = (
  refl,
  knows_same s k (noted k a (Event.Erase m v)) refl
      (cores_keep k a (Event.Erase m v) refl) refl refl kn,
)
each s b j asks k a (Event.Paged p) fits kn = (
  refl,
  knows_same s k (noted k a (Event.Paged p)) refl
      (cores_keep k a (Event.Paged p) refl) refl refl kn,
)
each s b j asks k a (Event.Take f) fits kn = (
  refl,
  knows_same s k (noted k a (Event.Take f)) (under_keeps k a (Event.Take f) refl)
      (cores_keep k a (Event.Take f) refl) (held_keeps (λ k. k.early) (λ k fs. refl) k f (device_of f))
      (held_keeps (λ k. k.stale) (λ k fs. refl) k f (device_of f)) kn,
)
each s b j asks k a (Event.Pass f) fits kn = (
  refl,
  knows_same s k (noted k a (Event.Pass f)) (under_keeps k a (Event.Pass f) refl)
      (cores_keep k a (Event.Pass f) refl) (pass_keeps (λ k. k.early) (λ k p. refl) k (device_of f))
      (pass_keeps (λ k. k.stale) (λ k p. refl) k (device_of f)) kn,
)
each s b j asks k a x fits kn = (refl, kn)

-- events of such an entry
pub quiet : (s : Sequences) (b : Bool) (j : Kind) → Asks s j → (a : ℕ) (xs : List Event) → AllFit b j xs → (k : Known)
    → KnowsCalls s k → GoBy told_wrong k (by_thread a xs) (KnowsCalls s)
quiet s b j asks a xs fits k kn = through told_wrong (KnowsCalls s) b j a (λ k x. each s b j asks k a x) xs fits k kn
