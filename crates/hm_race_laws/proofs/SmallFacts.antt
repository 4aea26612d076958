-- What the facts of hm_laws say of noted sequences, and of look-ups that begin.
use Rattle.std.proofs.Common.{◌≡◌, ℕ, ◌<◌, true, false, ◌==◌, ◌&&◌, Option, Some, None, is_none, List, [], ◌∷◌, refl, sym, ap, subst}
use Rattle.std.specs.Prelude.{⊤}
use Rattle.std.proofs.lemmas.Bool.{and_parts}
use Rattle.hm_base.specs.Pages.{one_page, covers}
use Rattle.hm_base.specs.Program.{Program}
use Rattle.hm_base.specs.declared.Frame.{Frame}
use Rattle.hm_base.specs.declared.Place.{Place}
use Rattle.hm_base.specs.declared.ops.Op.{Op}
use Rattle.hm_history.specs.Memory.Words.{page_of}
use Rattle.hm_base.specs.Pages.{lies_in}
use Rattle.hm_history.specs.Memory.Plain.{is_attached_state, MirrorState, mirror_passes, mirror_proc, in_window}
use Rattle.hm_history.specs.Memory.Sequences.{Interval, interval_seq}
use Rattle.hm_history.specs.Memory.Locks.{writer}
use Rattle.hm_history.specs.Memory.After.{After}
use Rattle.hm_history.specs.Kernel.Operation.{op_piece, op_mirror, op_writes}
use Rattle.hm_history.specs.Kernel.Going.{State, Going, op_at, touch_page}
use Rattle.hm_history.specs.Kernel.Due.{process_seq, rlock, is_invalidating, begin_look_up, answer_of_piece, is_usable, due_mirror, due_add, due_cpu, due_piece, due_fetched, due_phase, due_top, due_in, has_exclusive, suits, progress}
use Rattle.hm_history.specs.declared.Kind.{Kind}
use Rattle.hm_history.specs.declared.Entry.{Entry}
use Rattle.hm_history.specs.declared.Progress.{Progress}
use Rattle.hm_history.specs.declared.phases.Migrating.{Migrating}
use Rattle.hm_history.specs.declared.phases.Touch.{Touch}
use Rattle.hm_history.specs.declared.phases.Touch.TheVariants.{Cpu, Walk, Sole}
use Rattle.hm_history.specs.declared.phases.Body.{Body}
use Rattle.hm_history.specs.declared.phases.Phase.{Phase}
use Rattle.hm_history.specs.declared.phases.Next.{Next}
use Rattle.hm_history.specs.declared.phases.Next.TheVariants.{Do, Wait}
use Rattle.hm_laws.specs.Past.{Past}
use Rattle.hm_laws.specs.Sound.{Paired}
use Rattle.hm_laws.specs.Allowed.{Allowed}
use Rattle.hm_laws.specs.Facts.{facts, HoldsAll, Touches, Within, under, beneath}
use Rattle.hm_laws.proofs.Due.Good.{either, either_option}
use Rattle.hm_race_laws.specs.Numbers.{small_sequences}
use Rattle.hm_race_laws.proofs.SmallDues.{Ruled}
use Rattle.hm_race_laws.proofs.SmallStacks.{BeginsWell, BeginsAt}
use Rattle.hm_race_laws.proofs.SmallNoted.{NotedOk, NotedTouch, NotedStack, Newcomer, begins_well}
use Rattle.hm_race_laws.proofs.SmallNext.{OpensAt}

noted_is : (s : After) (m v q : ℕ) → Ruled s → Within s.plain m v → q < process_seq s m → NotedOk s.sequences m q
noted_is s m v q so w l = by (s.plain.mirrors m) (s.sequences.interval m) refl (so.mirrors.paired m) w l
  where
    by : (x : Option MirrorState) (y : Option Interval) → s.sequences.interval m ≡ y → Paired x y (s.places.device m) → mirror_passes (λ z. covers z.window v) x ≡ true → q < s.sequences.seq (elim x as (λ z. ℕ) [ None ↦ 0 | Some z ↦ z.proc ]) → NotedOk s.sequences m q
    by None y e p h k = cc
    by (Some x) None e p h k = absurd p
    by (Some x) (Some y) e p h k = record { interval = y; is = e; below = subst (λ z. q < s.sequences.seq z) (sym p.proc) k }

touch_noted : (s : After) (t : Past) (a : ℕ) (o : Op) (touch : Touch) → Ruled s → Touches s t a o touch → NotedTouch s.sequences (op_mirror o) touch
touch_noted s t a o (Cpu k) so h = tt
touch_noted s t a o (Walk k at q) so h = noted_is s (op_mirror o) (touch_page o (Walk k at q)) q so h.1 h.2.1
touch_noted s t a o Sole so h = tt

under_noted : (s : After) (t : Past) (a : ℕ) (o : Op) (l : List Phase) → Ruled s → HoldsAll s t a (under o l) → NotedStack s.sequences (op_mirror o) l
under_noted s t a o (Phase.Decide touch ∷ []) so h = (touch_noted s t a o touch so h.0, tt)
under_noted s t a o (Phase.GiveUp (Some touch) ∷ []) so h = (touch_noted s t a o touch so h.0, tt)
under_noted s t a o (Phase.GiveUp None ∷ []) so h = (tt, tt)
under_noted s t a o (Phase.Frames v n ∷ []) so h = (tt, tt)
under_noted s t a o l so h = absurd h.0

beneath_noted : (s : After) (t : Past) (a : ℕ) (o : Op) (xs : List Migrating) (fs : List Frame) (l : List Phase) → Ruled s → HoldsAll s t a (beneath o xs fs l) → NotedStack s.sequences (op_mirror o) l
beneath_noted s t a o xs fs (Phase.Moves step v ∷ []) so h = (tt, tt)
beneath_noted s t a o xs fs l so h = under_noted s t a o l so h

stack_noted : (s : After) (t : Past) (a : ℕ) (o : Op) (xs : List Migrating) (l : List Phase) → Ruled s → HoldsAll s t a (facts o xs l) → NotedStack s.sequences (op_mirror o) l
stack_noted s t a o xs [] so h = tt
stack_noted s t a o xs (Phase.Begin ∷ []) so h = (tt, tt)
stack_noted s t a o xs (Phase.Detaching q ∷ []) so h = (tt, tt)
stack_noted s t a o xs (Phase.Pages v ∷ []) so h = (tt, tt)
stack_noted s t a o xs (Phase.Locked ∷ []) so h = (tt, tt)
stack_noted s t a o xs (Phase.Ready ∷ []) so h = (tt, tt)
stack_noted s t a o xs (Phase.Answer ∷ []) so h = (tt, tt)
stack_noted s t a o xs (Phase.Guard q r met told (Body.Zap n) ∷ Phase.Answer ∷ []) so h = (tt, (tt, tt))
stack_noted s t a o xs (Phase.Drop f ∷ Phase.Guard q r met told (Body.Zap n) ∷ Phase.Answer ∷ []) so h = (tt, (tt, (tt, tt)))
stack_noted s t a o xs (Phase.Guard q r met told (Body.Narrow n) ∷ Phase.Answer ∷ []) so h = (tt, (tt, tt))
stack_noted s t a o xs (Phase.Guard q r met told (Body.Fork n half) ∷ Phase.Answer ∷ []) so h = (tt, (tt, tt))
stack_noted s t a o xs (Phase.Guard q r met told Body.Nothing ∷ Phase.Answer ∷ []) so h = (tt, (tt, tt))
stack_noted s t a o xs (Phase.Piece k ∷ []) so h = (tt, tt)
stack_noted s t a o xs (Phase.Fetched was ∷ []) so h = (tt, tt)
stack_noted s t a o xs (Phase.Begun k at q ∷ []) so h = (touch_noted s t a o (Walk k at q) so h.0, tt)
stack_noted s t a o xs (Phase.Noted k at q x ∷ []) so h = (touch_noted s t a o (Walk k at q) so h.0, tt)
stack_noted s t a o xs (Phase.Decide touch ∷ []) so h = (touch_noted s t a o touch so h.0, tt)
stack_noted s t a o xs (Phase.Taken touch g Place.Zero ∷ []) so h = absurd h.0
stack_noted s t a o xs (Phase.Taken touch g over ∷ []) so h = (touch_noted s t a o touch so h.0, tt)
stack_noted s t a o xs (Phase.Armed touch g over ∷ []) so h = (touch_noted s t a o touch so h.0, tt)
stack_noted s t a o xs (Phase.Guard q r met told (Body.Replace over g) ∷ Phase.Decide touch ∷ []) so h = (tt, (touch_noted s t a o touch so h.1.1.1.0, tt))
stack_noted s t a o xs (Phase.Guard q r met told Body.Nothing ∷ Phase.Decide touch ∷ []) so h = (tt, (touch_noted s t a o touch so h.1.1.1.0, tt))
stack_noted s t a o xs (Phase.Guard q r met told Body.Restore ∷ Phase.Decide touch ∷ []) so h = (tt, (touch_noted s t a o touch so h.1.1.1.0, tt))
stack_noted s t a o xs (Phase.Guard q r met told (Body.Seize f) ∷ Phase.Decide touch ∷ []) so h = (tt, (touch_noted s t a o touch so h.1.1.1.0, tt))
stack_noted s t a o xs (Phase.Drop f ∷ Phase.Guard q r met told Body.Nothing ∷ Phase.Decide touch ∷ []) so h = (tt, (tt, (touch_noted s t a o touch so h.1.1.1.1.0, tt)))
stack_noted s t a o xs (Phase.Drop f ∷ Phase.Decide touch ∷ []) so h = (tt, (touch_noted s t a o touch so h.1.1.1.0, tt))
stack_noted s t a o xs (Phase.Frames v n ∷ []) so h = (tt, tt)
stack_noted s t a o xs (Phase.GiveUp touch ∷ []) so h = under_noted s t a o (Phase.GiveUp touch ∷ []) so h.1.1
stack_noted s t a o xs (Phase.Guard q r met told (Body.Catch f) ∷ l) so h = (tt, under_noted s t a o l so h.1.1.1.1)
stack_noted s t a o xs (Phase.Guard q r met told (Body.Freeze f) ∷ Phase.Emptying g at ∷ l) so h = (tt, (tt, under_noted s t a o l so h.1.1.1.1.1))
stack_noted s t a o xs (Phase.Guard q r met told Body.Nothing ∷ Phase.Emptying f at ∷ l) so h = (tt, (tt, under_noted s t a o l so h.1.1.1))
stack_noted s t a o xs (Phase.Emptying f at ∷ l) so h = (tt, under_noted s t a o l so h.1.1.1)
stack_noted s t a o xs (Phase.Copy f g k ∷ Phase.Copied i j ∷ l) so h = (tt, (tt, under_noted s t a o l so h.1.1.1.1.1.1.1))
stack_noted s t a o xs (Phase.Copied f g ∷ l) so h = (tt, under_noted s t a o l so h.1.1.1.1)
stack_noted s t a o xs (Phase.Finish f None ∷ l) so h = (tt, beneath_noted s t a o xs (f ∷ []) l so h.1.1.1.1)
stack_noted s t a o xs (Phase.Finish f (Some g) ∷ l) so h = (tt, beneath_noted s t a o xs (f ∷ g ∷ []) l so h.1.1.1.1)
stack_noted s t a o xs (Phase.Settle g ∷ l) so h = (tt, beneath_noted s t a o xs (g ∷ []) l so h.1.1.1.1)
stack_noted s t a o xs (Phase.Moves step v ∷ []) so h = (tt, tt)
stack_noted s t a o xs (Phase.Guard q r met told (Body.Select n) ∷ Phase.Moves step v ∷ []) so h = (tt, (tt, tt))
stack_noted s t a o xs (Phase.Guard q r met told (Body.Freeze f) ∷ Phase.Moves step v ∷ []) so h = (tt, (tt, tt))
stack_noted s t a o xs (Phase.Guard q r met told Body.Nothing ∷ Phase.Moves step v ∷ []) so h = (tt, (tt, tt))
stack_noted s t a o xs (Phase.Copy f g k ∷ Phase.Moves step v ∷ []) so h = (tt, (tt, tt))
stack_noted s t a o xs (Phase.Guard q r met told (Body.Fresh g) ∷ Phase.Moves step v ∷ []) so h = (tt, (tt, tt))
stack_noted s t a o xs (Phase.Lost u g ∷ Phase.Moves step v ∷ []) so h = (tt, (tt, tt))
stack_noted s t a o xs (Phase.Drop g ∷ Phase.Moves step v ∷ []) so h = (tt, (tt, tt))
stack_noted s t a o xs l so h = absurd h.0

pub known_noted : (s : After) (t : Past) (a : ℕ) (o : Op) (g : Going) → Ruled s → HoldsAll s t a (facts o g.pages g.stack) → NotedStack s.sequences (op_mirror o) g.stack
known_noted s t a o g so h = stack_noted s t a o g.pages g.stack so h

-- a mirror that comes was not there
pub newcomer : (c : Program) (s : After) (t : Past) (a : ℕ) (k : Kind) → Ruled s → Allowed c s t a k → Newcomer s.sequences k
newcomer c s t a (Kind.Attached m d p r q) so ok = by (s.plain.mirrors m) (s.sequences.interval m) refl (so.mirrors.paired m) (and_parts (s.plain.there p) (is_none (s.plain.mirrors m)) ok.1).1
  where
    by : (x : Option MirrorState) (y : Option Interval) → s.sequences.interval m ≡ y → Paired x y (s.places.device m) → is_none x ≡ true → s.sequences.interval m ≡ None
    by None None e p h = e
    by None (Some y) e p h = absurd p
    by (Some x) y e p h = cc
newcomer c s t a _ so ok = tt

-- a look-up begins with its interval's sequence, which is not the process's
abbrev Opens : After → Op → Next → Type 0
Opens s o (Do k) = BeginsWell s.sequences s.sequences (small_sequences s.sequences) (op_mirror o) k
Opens s o (Wait y) = ⊤

begins_open : (s : After) (o : Op) (v : ℕ) → Ruled s → in_window s.plain (op_mirror o) (one_page v) ≡ true → Opens s o (begin_look_up s (op_mirror o))
begins_open s o v so w = either (Opens s o) (is_invalidating s (op_mirror o)) _ _ (λ e. tt) (λ e. by (s.plain.mirrors (op_mirror o)) (s.sequences.interval (op_mirror o)) refl (so.mirrors.paired (op_mirror o)) w e)
  where
    by : (x : Option MirrorState) (y : Option Interval) → s.sequences.interval (op_mirror o) ≡ y → Paired x y (s.places.device (op_mirror o)) → mirror_passes (λ z. is_attached_state z && lies_in (one_page v) z.window) x ≡ true →
        (elim y as (λ z. ℕ) [ None ↦ 0 | Some z ↦ z.seq ] == s.sequences.seq (elim x as (λ z. ℕ) [ None ↦ 0 | Some z ↦ z.proc ])) ≡ false → Opens s o (Do (Kind.Begin (op_mirror o) (interval_seq s.sequences (op_mirror o))))
    by None y e p h k = cc
    by (Some x) None e p h k = absurd p
    by (Some x) (Some y) e p h k = begins_well s.sequences (op_mirror o) (interval_seq s.sequences (op_mirror o)) so.sequences y e refl (subst (λ q. (y.seq == s.sequences.seq q) ≡ false) (sym p.proc) k)

rlock_open : (s : After) (o : Op) (p : ℕ) → Opens s o (rlock s p)
rlock_open s o p = either_option (Opens s o) (writer s.locks p) _ _ (λ e. tt) (λ b e. tt)

add_open : (s : After) (a : ℕ) (o : Op) (m at : ℕ) → Opens s o (due_add s a o m at)
add_open s a o m at = either (Opens s o) (in_window s.plain m (one_page (page_of at))) _ _ (λ e. either (Opens s o) (has_exclusive s a m (page_of at)) _ _ (λ d. tt) (λ d. rlock_open s o (mirror_proc s.plain m))) (λ e. tt)

mirror_open : (s : After) (o : Op) (k : ℕ) → Ruled s → Opens s o (Do (answer_of_piece s o k)) → Opens s o (due_mirror s o k (op_mirror o))
mirror_open s o k so h = either (Opens s o) (in_window s.plain (op_mirror o) (one_page (page_of (op_piece o k).0))) _ _ (λ w. either (Opens s o) (is_usable (op_writes o) (s.places.table (op_mirror o) (page_of (op_piece o k).0))) _ _ (λ e. h) (λ e. begins_open s o (page_of (op_piece o k).0) so w)) (λ e. tt)

cpu_open : (s : After) (o : Op) (k p : ℕ) → Opens s o (Do (answer_of_piece s o k)) → Opens s o (due_cpu s o k p)
cpu_open s o k p h = either (Opens s o) (s.plain.there p) _ _ (λ e. either (Opens s o) (suits (op_writes o) (s.places.place p (page_of (op_piece o k).0))) _ _ (λ d. h) (λ d. rlock_open s o p)) (λ e. tt)

piece_open : (s : After) (a : ℕ) (o : Op) (k : ℕ) → Ruled s → Opens s o (due_piece s a o k)
piece_open s a (Op.Add m at n) k so = add_open s a (Op.Add m at n) m at
piece_open s a (Op.DeviceLoad m at n) k so = mirror_open s (Op.DeviceLoad m at n) k so tt
piece_open s a (Op.DeviceStore m at bs) k so = mirror_open s (Op.DeviceStore m at bs) k so tt
piece_open s a (Op.Load p at n) k so = cpu_open s (Op.Load p at n) k p tt
piece_open s a (Op.Store p at bs) k so = cpu_open s (Op.Store p at bs) k p tt
piece_open s a _ k so = tt

fetched_open : (s : After) (a : ℕ) (o : Op) (old : ℕ) → Opens s o (due_fetched s a o old)
fetched_open s a (Op.Add m at n) old = either (Opens s (Op.Add m at n)) (has_exclusive s a m (page_of at)) _ _ (λ d. tt) (λ d. add_open s a (Op.Add m at n) m at)
fetched_open s a _ old = tt

abbrev OpensTop : After → Op → Phase → Next → Type 0
OpensTop s o top (Do k) = BeginsAt s.sequences s.sequences (small_sequences s.sequences) (op_mirror o) top k
OpensTop s o top (Wait y) = ⊤

free : (s : After) (o : Op) (z : Next) → OpensTop s o Phase.Begin z
free s o (Do k) = tt
free s o (Wait y) = tt

top_opens : (c : Program) (s : After) (a : ℕ) (o : Op) (xs : List Migrating) (top : Phase) → Ruled s → OpensTop s o top (due_phase c s a o xs top)
top_opens c s a o xs (Phase.Piece n) so = piece_open s a o n so
top_opens c s a o xs (Phase.Fetched old) so = fetched_open s a o old
top_opens c s a o xs (Phase.Begun n at q) so = rlock_open s o (mirror_proc s.plain (op_mirror o))
top_opens c s a o xs top so = free s o (due_phase c s a o xs top)

abbrev kind_in : Kind → Progress → Kind
kind_in k (Progress.Did e) = e.kind
kind_in k y = k

pub opens_at : (c : Program) (u : State) (e : Entry) → Ruled u.after → due_in c u e.actor ≡ Progress.Did e → OpensAt u.after (op_at c e.actor (u.going e.actor).index) (u.going e.actor).stack e.kind
opens_at c u e so d = by (op_at c e.actor (u.going e.actor).index) (u.going e.actor).stack d
  where
    next : (o : Op) (top : Phase) (z : Next) → OpensTop u.after o top z → progress e.actor z ≡ Progress.Did e → BeginsAt u.after.sequences u.after.sequences (small_sequences u.after.sequences) (op_mirror o) top e.kind
    next o top (Do k) h p = subst (λ j. BeginsAt u.after.sequences u.after.sequences (small_sequences u.after.sequences) (op_mirror o) top j) (ap (kind_in k) p) h
    next o top (Wait y) h p = cc

    by : (x : Option Op) (l : List Phase) → due_top c u.after e.actor x (u.going e.actor).pages l ≡ Progress.Did e → OpensAt u.after x l e.kind
    by None l p = tt
    by (Some o) [] p = tt
    by (Some o) (top ∷ l) p = next o top (due_phase c u.after e.actor o (u.going e.actor).pages top) (top_opens c u.after e.actor o (u.going e.actor).pages top so) p
