-- An operation that begins where its actor meets nobody ends within its bound.
use Rattle.std.proofs.Common.{◌≡◌, ℕ, zero, suc, ◌<◌, ◌⊎◌, inl, inr, true, Some, List, [], ◌∷◌, ◌++◌, refl, sym, ap, ◌∙◌, subst, arith, length, fold}
use Rattle.std.specs.Prelude.{count_by, All, slice_index_or}
use Rattle.hm_base.specs.Program.{Program, IsScript}
use Rattle.hm_base.specs.declared.cause.Cause.{Cause}
use Rattle.hm_base.specs.declared.ops.Op.{Op}
use Rattle.hm_history.specs.Kernel.Quiet.{quiet_bound}
use Rattle.hm_history.specs.Kernel.Stacks.{first_phase}
use Rattle.hm_history.specs.Kernel.Going.{State, Going, op_at, first_stack, state_next, state_of}
use Rattle.hm_history.specs.declared.Entry.{Entry}
use Rattle.hm_history.specs.declared.Kind.{Kind}
use Rattle.hm_history.specs.declared.phases.Migrating.{Migrating}
use Rattle.hm_history.specs.declared.phases.Phase.{Phase}
use Rattle.hm_history.specs.Memory.After.{After}
use Rattle.hm_history.specs.Kernel.Operation.{is_migration}
use Rattle.hm_laws.specs.Records.{Among}
use Rattle.hm_laws.proofs.Histories.Sound.{small}
use Rattle.hm_quiet_laws.specs.Keeping.{IsThere, WasDealt}
use Rattle.hm_quiet_laws.specs.Quiet.{QuietMoves, SelectedMove, selected}
use Rattle.hm_quiet_laws.specs.Rest.{IsAtRest, OthersRest}
use Rattle.hm_quiet_laws.specs.Quiet.{EndsSoon, QuietEnds}
use Rattle.hm_quiet_laws.specs.Quiet.{DrainsHaveRoom}
use Rattle.hm_quiet_laws.proofs.alone.EndsWell.{EndsWell, ends, ends_well}
use Rattle.hm_quiet_laws.proofs.keeping.MigrationsEnd.{all_well, StaysWell, LastWell, well_more, migrations_end}
use Rattle.hm_quiet_laws.proofs.alone.Ends.{At, DueAlong, Ends, EachFalls}
use Rattle.hm_quiet_laws.proofs.counts.CountsKept.{counting}
use Rattle.hm_quiet_laws.proofs.StartsWithinBound.{first_bound}
use Rattle.hm_quiet_laws.proofs.alone.TurnsAlong.{Stood, stood_at, along_due, along_turns, state_after}
use Rattle.hm_quiet_laws.proofs.spans.BeginsFall.{OnSimple}
use Rattle.hm_quiet_laws.proofs.spans.OperationsFall.{simple_falls}
use Rattle.hm_quiet_laws.proofs.accesses.GuardsFall.{OnAccess}
use Rattle.hm_quiet_laws.proofs.accesses.OperationsFall.{access_falls}
use Rattle.hm_quiet_laws.proofs.migrations.StepsFall.{OnMoves}
use Rattle.hm_quiet_laws.proofs.migrations.OperationsFall.{moves_falls}
use Rattle.hm_quiet_laws.proofs.alone.RunsOut.{EachEnds}
use Rattle.hm_quiet_laws.proofs.drains.DrainHasRoom.{drain_has_room}
use Rattle.hm_quiet_laws.proofs.evictions.FramesFall.{OnFrames}
use Rattle.hm_quiet_laws.proofs.evictions.OperationsFall.{frames_falls}
use Rattle.hm_history.proofs.Going.{own_actor}

at_first : (c : Program) (u : State) (a : ℕ) (o : Op) → op_at c a (u.going a).index ≡ Some o → IsAtRest c u a → At c u a (u.going a).index o [] (first_phase o ∷ [])
at_first c u a o e r = record {
  index = refl;
  is_op = e;
  pages = ap (λ (g : Going). g.pages) r;
  stack = ap (λ (g : Going). g.stack) r ∙ ap first_stack e;
}

-- it does at a state
pub ends_first : (c : Program) (o : Op) (Stays : List Phase → Type 0) → IsScript c → EachFalls c o Stays → Stays (first_phase o ∷ []) → (u : State) (a : ℕ) → Stood c u → op_at c a (u.going a).index ≡ Some o → IsAtRest c u a → OthersRest c u a → Ends c u a (u.going a).index (quiet_bound c o)
ends_first c o Stays sc each on u a st e r ot = ends c o Stays a (u.going a).index (small c sc) (counting c sc) each (quiet_bound c o) u st.past [] (first_phase o) [] (at_first c u a o e r) on st.stands st.counted ot
    (first_bound c u.after a o ((counting c sc).few u st.past st.stands st.counted))

-- and after a history
along_own : (c : Program) (u : State) (a : ℕ) (es : List Entry) → DueAlong c u a es → All (λ e. e.actor ≡ a) es
along_own c u a [] d k x l = absurd (omega arith)
along_own c u a (e ∷ es) d zero x l = own_actor c u a e d.0
along_own c u a (e ∷ es) d (suc k) x l = along_own c (state_next c u e) a es d.1 k x (omega arith)

pub soon : (c : Program) (h : List Entry) (a n : ℕ) → Ends c (state_of c h) a ((state_of c h).going a).index n → EndsSoon c h a n
soon c h a n z = record {
  entries = z.entries;
  few = z.few;
  are_due = along_due c h a z.entries z.due;
  own = along_own c (state_of c h) a z.entries z.due;
  by_turns = λ room. along_turns c h a z.entries z.due room;
  ended = ap (λ (u : State). u.going a) (state_after c h z.entries) ∙ z.ended;
}

-- each operation does
pub each_ends : (c : Program) → IsScript c → EachEnds c
each_ends c sc (Op.Map p r w) u a st e r1 ot = ends_first c (Op.Map p r w) OnSimple sc (simple_falls c (Op.Map p r w) refl) refl u a st e r1 ot
each_ends c sc (Op.Unmap p r) u a st e r1 ot = ends_first c (Op.Unmap p r) OnSimple sc (simple_falls c (Op.Unmap p r) refl) refl u a st e r1 ot
each_ends c sc (Op.Protect p r w) u a st e r1 ot = ends_first c (Op.Protect p r w) OnSimple sc (simple_falls c (Op.Protect p r w) refl) refl u a st e r1 ot
each_ends c sc (Op.Exit p) u a st e r1 ot = ends_first c (Op.Exit p) OnSimple sc (simple_falls c (Op.Exit p) refl) refl u a st e r1 ot
each_ends c sc (Op.Fork p d) u a st e r1 ot = ends_first c (Op.Fork p d) OnSimple sc (simple_falls c (Op.Fork p d) refl) refl u a st e r1 ot
each_ends c sc (Op.Attach m d p r) u a st e r1 ot = ends_first c (Op.Attach m d p r) OnSimple sc (simple_falls c (Op.Attach m d p r) refl) refl u a st e r1 ot
each_ends c sc (Op.Detach m) u a st e r1 ot = ends_first c (Op.Detach m) OnSimple sc (simple_falls c (Op.Detach m) refl) refl u a st e r1 ot
each_ends c sc (Op.Snap m r) u a st e r1 ot = ends_first c (Op.Snap m r) OnSimple sc (simple_falls c (Op.Snap m r) refl) refl u a st e r1 ot
each_ends c sc (Op.Load p i n) u a st e r1 ot = ends_first c (Op.Load p i n) OnAccess sc (access_falls c (Op.Load p i n) refl) refl u a st e r1 ot
each_ends c sc (Op.Store p i n) u a st e r1 ot = ends_first c (Op.Store p i n) OnAccess sc (access_falls c (Op.Store p i n) refl) refl u a st e r1 ot
each_ends c sc (Op.DeviceLoad m i n) u a st e r1 ot = ends_first c (Op.DeviceLoad m i n) OnAccess sc (access_falls c (Op.DeviceLoad m i n) refl) refl u a st e r1 ot
each_ends c sc (Op.DeviceStore m i n) u a st e r1 ot = ends_first c (Op.DeviceStore m i n) OnAccess sc (access_falls c (Op.DeviceStore m i n) refl) refl u a st e r1 ot
each_ends c sc (Op.Exclusive m v) u a st e r1 ot = ends_first c (Op.Exclusive m v) OnAccess sc (access_falls c (Op.Exclusive m v) refl) refl u a st e r1 ot
each_ends c sc (Op.Add m i n) u a st e r1 ot = ends_first c (Op.Add m i n) OnAccess sc (access_falls c (Op.Add m i n) refl) refl u a st e r1 ot
each_ends c sc (Op.Evict d) u a st e r1 ot = ends_first c (Op.Evict d) OnFrames sc (frames_falls c (Op.Evict d) refl) refl u a st e r1 ot
each_ends c sc (Op.Remove d) u a st e r1 ot = ends_first c (Op.Remove d) OnFrames sc (frames_falls c (Op.Remove d) refl) refl u a st e r1 ot
each_ends c sc (Op.ToDevice m r) u a st e r1 ot = ends_first c (Op.ToDevice m r) OnMoves sc (moves_falls c (Op.ToDevice m r) refl) refl u a st e r1 ot
each_ends c sc (Op.ToSystem m r) u a st e r1 ot = ends_first c (Op.ToSystem m r) OnMoves sc (moves_falls c (Op.ToSystem m r) refl) refl u a st e r1 ot

pub quiet_ends : QuietEnds
quiet_ends c h a o b = soon c h a (quiet_bound c o) (each_ends c b.script o (state_of c h) a (stood_at c h b.script b.were_due) b.is_next b.rests b.others)

pub drains_have_room : DrainsHaveRoom
drains_have_room c h d = drain_has_room c d.script (each_ends c d.script) h d.were_due d.rest d.room

-- a migration moves what it selected, but for what it has no frame for, and what is skipped
among_at : (xs : List Migrating) (k : ℕ) (d : Migrating) → k < length xs → Among xs (slice_index_or xs k d)
among_at [] k d l = absurd (omega arith)
among_at (x ∷ xs) zero d l = inl refl
among_at (x ∷ xs) (suc k) d l = inr (among_at xs k d (omega arith))

all_of : (P : Migrating → Type 0) (xs : List Migrating) → ((x : Migrating) → Among xs x → P x) → All P xs
all_of P xs h k d l = h (slice_index_or xs k d) (among_at xs k d l)

first_well : (c : Program) (s : After) (o : Op) → is_migration o ≡ true → StaysWell c o s [] (first_phase o ∷ []) []
first_well c s (Op.ToDevice m r) i = (refl, tt, tt, refl, tt)
first_well c s (Op.ToSystem m r) i = (refl, tt, tt, refl, tt)
first_well c s o i = cc

pub selected_move : SelectedMove
unfolding soon
selected_move c h a o i b = record {
  all = record { soon = soon c h a (quiet_bound c o) z.ends; well = ap all_well z.split ∙ well_more z.front a z.last z.well.1 z.well.2 };
  front = z.front;
  last = record { actor = a; kind = z.last };
  split = z.split;
  each = subst (All (WasDealt c o z.front)) (sym same) (all_of (WasDealt c o z.front) ((fold (state_next c) u z.front).going a).pages z.well.0.each);
  there = subst (λ (v : State). All (λ x. x.moved ≡ true → IsThere v.after o x.page) (v.going a).pages) (sym (state_after c h z.front)) (all_of (λ x. x.moved ≡ true → IsThere (fold (state_next c) u z.front).after o x.page) ((fold (state_next c) u z.front).going a).pages z.well.3);
  tells = subst (λ xs. (z.last ≡ Kind.Migrated (count_by (λ x. x.moved) xs)) ⊎ (z.last ≡ Kind.Refused Cause.Outside)) (sym same) z.well.0.tells;
}
  where
    u : State
    u = state_of c h

    st : Stood c u
    st = stood_at c h b.script b.were_due

    z : EndsWell c u a (u.going a).index (quiet_bound c o) [] (LastWell c o)
    z = ends_well c o (StaysWell c o) (LastWell c o) a (u.going a).index (small c b.script) (counting c b.script) (migrations_end c o i) (quiet_bound c o) u st.past [] (first_phase o) [] [] (at_first c u a o b.is_next b.rests) (first_well c u.after o i) st.stands st.counted b.others (first_bound c u.after a o ((counting c b.script).few u st.past st.stands st.counted))

    same : selected c (h ++ z.front) a ≡ ((fold (state_next c) u z.front).going a).pages
    same = ap (λ (v : State). (v.going a).pages) (state_after c h z.front)

pub quiet_moves : QuietMoves
quiet_moves c h a o i b = (selected_move c h a o i b).all
