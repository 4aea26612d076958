-- No legal history breaks the rules of invalidations: what is known of callbacks is kept by each entry.
use Rattle.std.proofs.Common.{refl, ap, sym, subst, ◌∙◌, arith}
use Rattle.std.proofs.lemmas.Bool.{false≢true, and_parts}
use Rattle.std.proofs.lemmas.Bool.Decides.{nat_tests}
use Rattle.std.specs.Prelude.{◌≡◌, ℕ, ◌<◌, ◌≤◌, Bool, true, false, not, ◌&&◌, ◌||◌, ◌==◌, Option, Some, None}
use Rattle.std.specs.Prelude.{is_some, is_none, option_map, cond, ⊤, List, [], ◌∷◌, ◌++◌, map, filter, find, fold}
use Rattle.std.specs.List.{list_any}
use Rattle.hm_base.specs.Program.{Program, IsScript}
use Rattle.hm_base.specs.Pages.{Pages, covers, one_page}
use Rattle.hm_base.specs.declared.Frame.{Frame}
use Rattle.hm_base.specs.declared.ops.Op.{Op}
use Rattle.hm_history.specs.Memory.Plain.{MirrorState, mirror_proc, mirror_dev}
use Rattle.hm_history.specs.Memory.Sequences.{Sequences, Interval, sequences_next, sequences_accept, interval_seq, interval_proc}
use Rattle.hm_history.specs.Memory.After.{After}
use Rattle.hm_history.specs.Memory.Words.{page_of}
use Rattle.hm_history.specs.Kernel.Operation.{op_mirror, op_piece}
use Rattle.hm_history.specs.Kernel.Going.{State, op_at, state_next, touch_page}
use Rattle.hm_history.specs.Kernel.Legal.{Legal}
use Rattle.hm_history.specs.declared.TableRight.{TableRight}
use Rattle.hm_history.specs.declared.Kind.{Kind}
use Rattle.hm_history.specs.declared.Entry.{Entry}
use Rattle.hm_history.specs.declared.phases.Migrating.{Migrating}
use Rattle.hm_history.specs.declared.phases.Touch.{Touch}
use Rattle.hm_history.specs.declared.phases.Phase.{Phase}
use Rattle.hm_history.proofs.Tests.{no_test}
use Rattle.hm_laws.specs.Past.{Past}
use Rattle.hm_laws.specs.Sound.{SequenceRules, Sound, Pairing, Paired}
use Rattle.hm_laws.specs.Allowed.{Allowed}
use Rattle.hm_laws.specs.Facts.{facts, HoldsAll}
use Rattle.hm_laws.proofs.Kept.Mirrors.{interval_of}
use Rattle.hm_laws.proofs.State.Invalidations.{start_says}
use Rattle.hm_laws.proofs.State.MirrorInterval.{Mirrored, mirrored, same_proc}
use Rattle.hm_protocol.specs.declared.events.Event.{Event}
use Rattle.hm_protocol.specs.declared.events.Reason.{Reason}
use Rattle.hm_protocol.specs.declared.rules.Rule.{Rule}
use Rattle.hm_protocol.specs.declared.rules.Joint.{Joint}
use Rattle.hm_protocol.specs.Words.{is_other, is_empty}
use Rattle.hm_protocol.specs.Known.{Inside, Call, Early, Known, known_start, is_own}
use Rattle.hm_protocol.specs.Noted.{known_next, known}
use Rattle.hm_protocol.specs.Tests.{detach_waits, exclusive_waits, set_unless_invalidated}
use Rattle.hm_protocol.specs.Callbacks.{set_sequence, own_sequence_left, own_events, own_sequence, is_stale, is_copied}
use Rattle.hm_protocol.specs.Rules.{first_call}
use Rattle.hm_protocol.specs.Projection.{project, events_in, comes_to, top_of, walk_of, piece_and_seq, erased, all_erased, reason_of, body_at, window_of}
use Rattle.hm_protocol.specs.Laws.{IsKept, IsJointKept}
use Rattle.hm_protocol.proofs.Fits.{in_fits, comes_ok, all_erased_ok}
use Rattle.hm_protocol.proofs.Steps.{Calm, GoBy, Keeps, by, by_thread, never, and_more, watched, calm_left, calm_right}
use Rattle.hm_protocol.proofs.Tellings.{Tells, tells_kept, told_now, told_seq, not_detached, is_process, is_interval, is_end}
use Rattle.hm_protocol.proofs.Calls.{core, AllCalls, AllPast, KnowsCalls}
use Rattle.hm_protocol.proofs.Guarding.{told_wrong, Asks, Untold, no_asks, quiet, walk_known, is_special}
use Rattle.hm_protocol.proofs.Guarded.{advance, started, ended, told_entry}

-- ---- what an entry asks

no_interval : (x : Option MirrorState) (y : Option Interval) (d : Option ℕ) → is_none x ≡ true → Paired x y d → y ≡ None
no_interval None None d h p = refl
no_interval None (Some y) d h p = absurd p
no_interval (Some x) y d h p = absurd (false≢true h)

free_number : (c : Program) (s : After) (t : Past) (a n d p : ℕ) (r : Pages) (z : ℕ) → Sound c s t
    → Allowed c s t a (Kind.Attached n d p r z) → s.sequences.interval n ≡ None
free_number c s t a n d p r z so ok = no_interval (s.plain.mirrors n) (s.sequences.interval n) (s.places.device n)
    (and_parts (s.plain.there p) (is_none (s.plain.mirrors n)) ok.1).1 (so.mirrors.paired n)

pub below_itself : (n m k : ℕ) → n ≡ k → m ≡ k → n < m → ⊥
below_itself n m k e g l = omega (arith, e, g, l)

-- while a mirror is told nothing is set in its table
set_untold : (c : Program) (s : After) (t : Past) (a m v : ℕ) (f : Option Frame) (w : TableRight) (from : ℕ) → Sound c s t
    → Allowed c s t a (Kind.Set m v f w from) → Untold s.sequences m
set_untold c s t a m v f w from so ok u q x = below_itself (interval_seq s.sequences m) (s.sequences.seq ok.mirror.proc) q
    (is_interval s.sequences u m q x) proc ok.below
  where
    y : (y : Interval) × ((s.sequences.interval m ≡ Some y) × Pairing ok.mirror y (s.places.device m))
    y = let z : (y : Interval) × (s.sequences.interval m ≡ Some y) × Pairing ok.mirror y (s.places.device m) =
        interval_of s.plain.mirrors s.sequences.interval s.places.device so.mirrors m ok.mirror ok.is in (z.0, (z.1, z.2))

    proc : s.sequences.seq ok.mirror.proc ≡ q
    proc = ap s.sequences.seq (sym y.1.1.proc ∙ sym (ap (λ (o : Option Interval). elim o as (λ o. ℕ) [ None ↦ 0 | Some y ↦ y.proc ]) y.1.0))
        ∙ is_process s.sequences u m q x

-- nor does a look-up begin with what it was told
begin_other : (s : Sequences) (a m q : ℕ) → sequences_accept s a (Kind.Begin m q) ≡ true → (t z : ℕ) → Tells s t m z → z ≡ q → ⊥
begin_other s a m q acc t z x e = let h : ((q == interval_seq s m) && not (q == s.seq (interval_proc s m))) ≡ true =
    (and_parts (is_some (s.interval m)) _ acc).1 in
    apart q (s.seq (interval_proc s m)) (is_process s t m z x ∙ e) (and_parts (q == interval_seq s m) _ h).1
  where
    apart : (q n : ℕ) → n ≡ q → not (q == n) ≡ true → ⊥
    apart q n e h = grind (arith, nat_tests)

walk_below : (s : After) (m q : ℕ) (test : MirrorState → Bool) → Mirrored s m test
    → q < s.sequences.seq (mirror_proc s.plain m) → (u z : ℕ) → Tells s.sequences u m z → z ≡ q → ⊥
walk_below s m q test w l u z x e = below_itself q (s.sequences.seq (mirror_proc s.plain m)) z (sym e)
    (ap s.sequences.seq (sym (same_proc s m test w)) ∙ is_process s.sequences u m z x) l

walk_zero : (s : Sequences) (m : ℕ) → SequenceRules s → (u z : ℕ) → Tells s u m z → z ≡ 0 → ⊥
walk_zero s m h u z x e = not_zero (s.seq (interval_proc s m)) (h.positive (interval_proc s m)) (is_process s u m z x ∙ e)
  where
    not_zero : (n : ℕ) → 2 ≤ n → n ≡ 0 → ⊥
    not_zero n l e = omega (arith, l, e)

-- a look-up's walk has a sequence below what is told
walks_below : (c : Program) (s : After) (t : Past) (a : ℕ) (o : Op) (xs : List Migrating) (top : Phase) (below : List Phase)
    → Sound c s t → HoldsAll s t a (facts o xs (top ∷ below)) → (u z : ℕ) → Tells s.sequences u (op_mirror o) z
    → z ≡ (piece_and_seq top).1 → ⊥
walks_below c s t a o xs (Phase.Begun k at q) [] so f u z x e =
    walk_below s (op_mirror o) q (λ x. covers x.window (touch_page o (Touch.Walk k at q)))
    (mirrored c s t (op_mirror o) (λ x. covers x.window (touch_page o (Touch.Walk k at q))) so f.0.1) f.0.2.1 u z x e
walks_below c s t a o xs (Phase.Begun k at q) (y ∷ ys) so f u z x e = f.0
walks_below c s t a o xs top below so f u z x e = walk_zero s.sequences (op_mirror o) so.sequences u z x e

-- the walk of an entry that takes the lock
walks_by : (s : After) (k : Known) (a : ℕ) (locked : Bool) (o : Op) (top : Phase)
    → ((u z : ℕ) → Tells s.sequences u (op_mirror o) z → z ≡ (piece_and_seq top).1 → ⊥)
    → KnowsCalls s.sequences k → GoBy told_wrong k (by_thread a (walk_of s locked o top)) (KnowsCalls s.sequences)
walks_by s k a locked (Op.DeviceLoad m at n) top h kn = one_event (walk_known s.sequences k a m (piece_and_seq top).1
    (one_page (page_of (op_piece (Op.DeviceLoad m at n) (piece_and_seq top).0).0)) locked (Some (mirror_dev s.plain m)) h kn)
  where
    one_event : {A B : Type 0} → A × B → (A × ⊤) × B
    one_event x = ((x.0, tt), x.1)
walks_by s k a locked (Op.DeviceStore m at bs) top h kn = one_event (walk_known s.sequences k a m (piece_and_seq top).1
    (one_page (page_of (op_piece (Op.DeviceStore m at bs) (piece_and_seq top).0).0)) locked (Some (mirror_dev s.plain m)) h kn)
  where
    one_event : {A B : Type 0} → A × B → (A × ⊤) × B
    one_event x = ((x.0, tt), x.1)
walks_by s k a locked o top h kn = (tt, kn)

-- what such an entry asks
asks_of : (c : Program) (s : After) (t : Past) (a : ℕ) (j : Kind) → Sound c s t → Allowed c s t a j
    → sequences_accept s.sequences a j ≡ true → is_special j ≡ false → Asks s.sequences j
asks_of c s t a j so ok acc pl = record {
  sets = λ m v f w from e. set_untold c s t a m v f w from so (subst (Allowed c s t a) e ok);
  begins = λ m q e. begin_other s.sequences a m q (subst (λ j. sequences_accept s.sequences a j ≡ true) e acc);
  detaches = λ m e u q x. not_detached s.sequences a u m q so.sequences (subst (λ j. sequences_accept s.sequences a j ≡ true) e acc) x;
  plain = pl;
}

-- the entry starts an invalidation
abbrev is_start : Kind → Bool
is_start (Kind.Start p r q) = true
is_start k = false

-- it tells a mirror
abbrev is_told : Kind → Bool
is_told (Kind.Told m r q) = true
is_told k = false

-- what an entry makes of it
entry : (c : Program) (t u : State) (p : Past) (a : ℕ) (j : Kind) (o : Option Op) (k : Known)
    → sequences_next t.after.sequences a j ≡ u.after.sequences → Sound c t.after p → Allowed c t.after p a j
    → sequences_accept t.after.sequences a j ≡ true
    → ((l : Known) (locked : Bool) (i : Op) → o ≡ Some i → KnowsCalls t.after.sequences l
    → GoBy told_wrong l (by_thread a (walk_of t.after locked i (top_of (t.going a).stack))) (KnowsCalls t.after.sequences))
    → is_some o ≡ true → KnowsCalls t.after.sequences k
    → GoBy told_wrong k (by_thread a (events_in t u a j o)) (KnowsCalls u.after.sequences)
entry c t u p a j None k up so ok acc walks h kn = absurd (false≢true h)
entry c t u p a (Kind.Start q r z) (Some o) k up so ok acc walks h kn = let g = t.going a in let s : Sequences = t.after.sequences in
    let x : Reason × Option ℕ = reason_of t.after o (body_at (top_of (u.going a).stack)) in
    and_more told_wrong (KnowsCalls s) (KnowsCalls u.after.sequences) k a
    (comes_to t.after o g.pages (top_of g.stack) (Kind.Start q r z)) (Event.Start q r x.0 x.1 ∷ [])
    (quiet s false (Kind.Evicted 0) (no_asks s) a (comes_to t.after o g.pages (top_of g.stack) (Kind.Start q r z))
    (comes_ok false (Kind.Evicted 0) t.after o g.pages (top_of g.stack) (Kind.Start q r z)) k kn)
    (λ l n. (
      (refl, tt),
      subst (λ w. KnowsCalls w (known_next l (by a (Event.Start q r x.0 x.1)))) up
          (started s l a q z r x.0 x.1 (start_says s a q r z acc)
          (λ b m v y. tells_kept s a (Kind.Start q r z) b m v so.sequences acc (λ n d p r z e. no_test (ap is_start (sym e))) (λ e. absurd (false≢true e)) y) n),
    ))
entry c t u p a (Kind.End q r z) (Some o) k up so ok acc walks h kn = let g = t.going a in let s : Sequences = t.after.sequences in
    and_more told_wrong (KnowsCalls s) (KnowsCalls u.after.sequences) k a
    (comes_to t.after o g.pages (top_of g.stack) (Kind.End q r z)) (Event.End q r ∷ all_erased t.after u.after)
    (quiet s false (Kind.Evicted 0) (no_asks s) a (comes_to t.after o g.pages (top_of g.stack) (Kind.End q r z))
    (comes_ok false (Kind.Evicted 0) t.after o g.pages (top_of g.stack) (Kind.End q r z)) k kn)
    (λ l n. and_erased l (subst (λ w. KnowsCalls w (known_next l (by a (Event.End q r)))) up
    (ended s l a q z r acc
    (λ b m v ne y. tells_kept s a (Kind.End q r z) b m v so.sequences acc (λ n d p r z e. no_test (ap is_end (sym e))) (λ e. ne) y) n)))
  where
    and_erased : (l : Known) → KnowsCalls u.after.sequences (known_next l (by a (Event.End q r)))
        → GoBy told_wrong l (by_thread a (Event.End q r ∷ all_erased t.after u.after)) (KnowsCalls u.after.sequences)
    and_erased l n = let more : GoBy told_wrong (known_next l (by a (Event.End q r))) (by_thread a (all_erased t.after u.after)) (KnowsCalls u.after.sequences) =
        quiet u.after.sequences false (Kind.Evicted 0) (no_asks u.after.sequences) a (all_erased t.after u.after)
        (all_erased_ok false (Kind.Evicted 0) refl t.after u.after) (known_next l (by a (Event.End q r))) n in
        ((refl, more.0), more.1)
entry c t u p a (Kind.Told m r q) (Some o) k up so ok acc walks h kn = let g = t.going a in let s : Sequences = t.after.sequences in
    let x : Tells (sequences_next s a (Kind.Told m r q)) a m q = told_now s a m r q acc (told_seq s a m r q acc) in
    and_more told_wrong (KnowsCalls s) (KnowsCalls u.after.sequences) k a
    (comes_to t.after o g.pages (top_of g.stack) (Kind.Told m r q))
    (Event.Tell m r q ∷ (erased t.after u.after m ++ Event.Told m (interval_seq u.after.sequences m) true ∷ []))
    (quiet s false (Kind.Evicted 0) (no_asks s) a (comes_to t.after o g.pages (top_of g.stack) (Kind.Told m r q))
    (comes_ok false (Kind.Evicted 0) t.after o g.pages (top_of g.stack) (Kind.Told m r q)) k kn)
    (λ l n. subst (λ w. GoBy told_wrong l
    (by_thread a (Event.Tell m r q ∷ (erased t.after u.after m ++ Event.Told m (interval_seq u.after.sequences m) true ∷ []))) (KnowsCalls w)) up
    (told_entry s (interval_seq u.after.sequences m) a m q r
    (filter (λ v. is_some (t.after.places.table m v) && is_none (u.after.places.table m v)) (window_of t.after m)) acc
    (ap (λ w. interval_seq w m) (sym up) ∙ is_interval (sequences_next s a (Kind.Told m r q)) a m q x) x
    (λ b i v y. tells_kept s a (Kind.Told m r q) b i v so.sequences acc (λ n d p r z e. no_test (ap is_told (sym e))) (λ e. absurd (false≢true e)) y) l n))
entry c t u p a (Kind.Rlock q) (Some o) k up so ok acc walks h kn = let g = t.going a in let s : Sequences = t.after.sequences in
    and_more told_wrong (KnowsCalls s) (KnowsCalls u.after.sequences) k a
    (comes_to t.after o g.pages (top_of g.stack) (Kind.Rlock q)) (walk_of t.after (is_some (u.after.locks.map a)) o (top_of g.stack))
    (quiet s false (Kind.Evicted 0) (no_asks s) a (comes_to t.after o g.pages (top_of g.stack) (Kind.Rlock q))
    (comes_ok false (Kind.Evicted 0) t.after o g.pages (top_of g.stack) (Kind.Rlock q)) k kn)
    (λ l n. subst (λ w. GoBy told_wrong l (by_thread a (walk_of t.after (is_some (u.after.locks.map a)) o (top_of g.stack))) (KnowsCalls w)) up
    (walks l (is_some (u.after.locks.map a)) o refl n))
entry c t u p a j (Some o) k up so ok acc walks h kn = let s : Sequences = t.after.sequences in
    let all : GoBy told_wrong k (by_thread a (events_in t u a j (Some o))) (KnowsCalls s) =
    quiet s (is_some (u.after.locks.map a)) j (asks_of c t.after p a j so ok acc refl) a (events_in t u a j (Some o))
    (in_fits t u a j (Some o)) k kn in
    let l : Known = fold known_next k (by_thread a (events_in t u a j (Some o))) in (
      all.0,
      subst (λ w. KnowsCalls w l) up (advance s (sequences_next s a j) l (λ t g. g)
          (λ b m v y. tells_kept s a j b m v so.sequences acc
          (λ n d p' r z e. free_number c t.after p a n d p' r z so (subst (Allowed c t.after p a) e ok)) (λ e. absurd (false≢true e)) y) all.1),
    )

keeps : (c : Program) → Keeps c told_wrong (λ k t. KnowsCalls t.after.sequences k)
keeps c t e k s kn = entry c t (state_next c t e) s.past e.actor e.kind (op_at c e.actor (t.going e.actor).index) k refl
    s.now.sound s.turn.allowed s.sequences walks (ap is_some s.turn.is_op) kn
  where
    walks : (l : Known) (locked : Bool) (i : Op) → op_at c e.actor (t.going e.actor).index ≡ Some i → KnowsCalls t.after.sequences l
        → GoBy told_wrong l (by_thread e.actor (walk_of t.after locked i (top_of (t.going e.actor).stack))) (KnowsCalls t.after.sequences)
    walks l locked i q n = subst (λ st. GoBy told_wrong l (by_thread e.actor (walk_of t.after locked i (top_of st))) (KnowsCalls t.after.sequences))
        (sym s.turn.is_stack) (walks_by t.after l e.actor locked i s.turn.top
        (walks_below c t.after s.past e.actor i (t.going e.actor).pages s.turn.top s.turn.below s.now.sound
        (subst (λ i. HoldsAll t.after s.past e.actor (facts i (t.going e.actor).pages (s.turn.top ∷ s.turn.below))) (same_op i (sym s.turn.is_op ∙ q)) s.turn.known)) n)
      where
        same_op : (i : Op) → Some s.turn.op ≡ Some i → s.turn.op ≡ i
        same_op i e = cc

-- what is known after a legal history
all_known : (c : Program) → IsScript c → (h : List Entry) → Legal c h
    → GoBy told_wrong known_start (project c h) (λ l. (u : State) × KnowsCalls u.after.sequences l)
all_known c sc h legal = watched c told_wrong (λ k t. KnowsCalls t.after.sequences k) sc (keeps c)
    (record { guards = λ t. refl; calls = tt; none_early = refl; past = tt }) h legal

-- no legal history breaks `detach-waits`
pub detach_waits_kept : IsKept Rule.DetachWaits
detach_waits_kept c sc h legal = never detach_waits known_start (project c h)
    (calm_left detach_waits (λ k s. exclusive_waits k s || set_unless_invalidated k s) known_start (project c h) (all_known c sc h legal).0)

sets_calm : (c : Program) → IsScript c → (h : List Entry) → Legal c h
    → Calm (λ k s. exclusive_waits k s || set_unless_invalidated k s) known_start (project c h)
sets_calm c sc h legal = calm_right detach_waits (λ k s. exclusive_waits k s || set_unless_invalidated k s) known_start (project c h)
    (all_known c sc h legal).0

-- no legal history breaks `exclusive-waits`
pub exclusive_waits_kept : IsKept Rule.ExclusiveWaits
exclusive_waits_kept c sc h legal = never exclusive_waits known_start (project c h)
    (calm_left exclusive_waits set_unless_invalidated known_start (project c h) (sets_calm c sc h legal))

-- no legal history breaks `set-unless-invalidated`
pub set_unless_invalidated_kept : IsKept Rule.SetUnlessInvalidated
set_unless_invalidated_kept c sc h legal = never set_unless_invalidated known_start (project c h)
    (calm_right exclusive_waits set_unless_invalidated known_start (project c h) (sets_calm c sc h legal))

-- no legal history breaks `begin-waits`
pub begin_waits_kept : IsKept Rule.BeginWaits
begin_waits_kept c sc h legal = ap (λ es. option_map (λ (x : Early). x.at) (find (λ (x : Early). true) es))
    (all_known c sc h legal).1.1.none_early

none_under : (xs : List (ℕ × Bool)) → AllPast xs → find (λ x. x.1) xs ≡ None
none_under [] h = refl
none_under (x ∷ xs) h = ap (λ b. cond b (Some x) (find (λ x. x.1) xs)) h.0 ∙ none_under xs h.1

-- no legal history breaks `compare`
pub compare_kept : IsKept Rule.Compare
compare_kept c sc h legal = ap (option_map (λ x. x.0)) (none_under (known (project c h)).stale (all_known c sc h legal).1.1.past)

sets_own : (k : Known) (x : Call) → x.after ≡ Some x.seq → set_sequence k x ≡ false
sets_own k x h = ap (λ b. b && not (own_sequence_left k x)) (ap (λ o. is_other o x.seq) h ∙ not_other x.seq)
  where
    not_other : (n : ℕ) → not (n == n) ≡ false
    not_other n = grind (arith, nat_tests)

none_leaves : (s : Sequences) (under : ℕ → List Inside) (k : Known) (xs : List Call) → AllCalls s under (map core xs)
    → find (set_sequence k) xs ≡ None
none_leaves s under k [] l = refl
none_leaves s under k (x ∷ xs) l = ap (λ b. cond b (Some x) (find (set_sequence k) xs)) (sets_own k x l.0.0) ∙ none_leaves s under k xs l.1

-- no legal history breaks `set-sequence`
pub set_sequence_kept : IsKept Rule.SetSequence
set_sequence_kept c sc h legal = let x : (u : State) × KnowsCalls u.after.sequences (known (project c h)) = (all_known c sc h legal).1 in
    ap (option_map (λ (x : Call). x.at))
    (none_leaves x.0.after.sequences (known (project c h)).under (known (project c h)) (known (project c h)).calls x.1.calls)

leaves_none : (k : Known) (x : Call) → x.after ≡ Some x.seq → own_sequence_left k x ≡ false
leaves_none k x h = ap (λ b. is_own k x && (b && (is_empty x.had || not (is_empty x.left)))) (ap (λ o. is_other o x.seq) h ∙ not_other x.seq)
    ∙ no_way (is_own k x)
  where
    not_other : (n : ℕ) → not (n == n) ≡ false
    not_other n = grind (arith, nat_tests)

    no_way : (b : Bool) → (b && false) ≡ false
    no_way true = refl
    no_way false = refl

-- a rule that asks that a callback leaves the sequence of its own migration is kept
none_own : (s : Sequences) (under : ℕ → List Inside) (k : Known) (f : Call → Bool)
    → ((x : Call) → own_sequence_left k x ≡ false → f x ≡ false) → (xs : List Call) → AllCalls s under (map core xs)
    → find f xs ≡ None
none_own s under k f h [] l = refl
none_own s under k f h (x ∷ xs) l = ap (λ b. cond b (Some x) (find f xs)) (h x (leaves_none k x l.0.0)) ∙ none_own s under k f h xs l.1

-- no legal history breaks `own-events`
pub own_events_kept : IsKept Rule.OwnEvents
own_events_kept c sc h legal = let x : (u : State) × KnowsCalls u.after.sequences (known (project c h)) = (all_known c sc h legal).1 in
    let k : Known = known (project c h) in ap (option_map (λ (x : Call). x.at))
    (none_own x.0.after.sequences k.under k (own_events k)
    (λ y e. ap (λ b. (b && not (list_any (set_sequence k) k.calls)) && is_stale y) e) k.calls x.1.calls)

-- no legal history breaks `own-sequence`
pub own_sequence_kept : IsKept Rule.OwnSequence
own_sequence_kept c sc h legal = let x : (u : State) × KnowsCalls u.after.sequences (known (project c h)) = (all_known c sc h legal).1 in
    let k : Known = known (project c h) in ap (option_map (λ (x : Call). x.at))
    (none_own x.0.after.sequences k.under k (own_sequence k)
    (λ y e. ap (λ b. (b && not (list_any (set_sequence k) k.calls)) && (is_copied true y && not (list_any (own_events k) k.calls))) e) k.calls x.1.calls)

-- no legal history breaks the joint rule of own migrations
pub own_sequence_left_kept : IsJointKept Joint.OwnSequenceLeft
own_sequence_left_kept c sc h legal = let x : (u : State) × KnowsCalls u.after.sequences (known (project c h)) = (all_known c sc h legal).1 in
    let k : Known = known (project c h) in ap (option_map (λ (x : Call). x.at))
    (none_own x.0.after.sequences k.under k (own_sequence_left k) (λ y e. e) k.calls x.1.calls)

-- no callback passes a test that asks that it leaves the sequence of its own migration
pub own_by : (f : Known → Call → Bool) → ((k : Known) (x : Call) → own_sequence_left k x ≡ false → f k x ≡ false) → (c : Program)
    → IsScript c → (h : List Entry) → Legal c h → first_call f (known (project c h)) ≡ None
own_by f g c sc h legal = let x : (u : State) × KnowsCalls u.after.sequences (known (project c h)) = (all_known c sc h legal).1 in
    let k : Known = known (project c h) in ap (option_map (λ (x : Call). x.at))
    (none_own x.0.after.sequences k.under k (f k) (g k) k.calls x.1.calls)
