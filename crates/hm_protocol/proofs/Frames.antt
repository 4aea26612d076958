-- No legal history breaks the rules of devices' frames: what is known of them, of which devices are withdrawn and which
-- frames are held, holds of the state.
use Rattle.std.proofs.Common.{refl, cond, arith, ap, sym, subst, ◌∙◌}
use Rattle.std.proofs.lemmas.Bool.{true≢false, false≢true, eqb-true}
use Rattle.std.proofs.lemmas.Bool.Decides.{nat_tests}
use Rattle.std.specs.Prelude.{◌≡◌, ℕ, Bool, true, false, not, ◌&&◌, ◌||◌, ◌==◌, if◌then◌else◌, Option, Some, None, is_some}
use Rattle.std.specs.Prelude.{⊤, List, [], ◌∷◌, ◌++◌}
use Rattle.std.specs.List.{list_any}
use Rattle.hm_base.specs.Program.{Program, IsScript}
use Rattle.hm_base.specs.declared.Frame.{Frame}
use Rattle.hm_base.specs.declared.PoolId.{PoolId}
use Rattle.hm_base.specs.declared.ops.Op.{Op}
use Rattle.hm_history.specs.Memory.Words.{with_frame, dev_frame, same_frame}
use Rattle.hm_history.specs.Memory.Places.{Places, places_next, is_withdrawn}
use Rattle.hm_history.specs.Kernel.Going.{State, op_at, state_next}
use Rattle.hm_history.specs.Kernel.Legal.{Legal}
use Rattle.hm_history.specs.declared.Kind.{Kind}
use Rattle.hm_history.specs.declared.Entry.{Entry}
use Rattle.hm_history.proofs.Frames.{frame_itself}
use Rattle.hm_history.proofs.Updates.{here_at}
use Rattle.hm_history.proofs.Tests.{no_test}
use Rattle.hm_laws.specs.Allowed.{Allowed}
use Rattle.hm_laws.proofs.Kept.Pools.{free_says}
use Rattle.hm_protocol.specs.declared.events.TraceFrame.{TraceFrame}
use Rattle.hm_protocol.specs.declared.events.Event.{Event}
use Rattle.hm_protocol.specs.declared.events.Traced.{Traced}
use Rattle.hm_protocol.specs.declared.rules.Rule.{Rule}
use Rattle.hm_protocol.specs.Words.{device_of, is_it, is_same, drop_if}
use Rattle.hm_protocol.specs.Known.{Known, known_start}
use Rattle.hm_protocol.specs.Noted.{noted, known_next, held_more}
use Rattle.hm_protocol.specs.Tests.{take_from_there, evict_first, wait_for_locked, withdraw_first}
use Rattle.hm_protocol.specs.Projection.{project, events_in, comes_to, in_trace, top_of, if_device, home_over}
use Rattle.hm_protocol.specs.Laws.{IsKept}
use Rattle.hm_protocol.proofs.Fits.{Fits, AllFit, in_fits, comes_ok, over_ok}
use Rattle.hm_protocol.proofs.Fields.{at_set, at_end, at_refused, pass_keeps}
use Rattle.hm_protocol.proofs.Steps.{Calm, GoBy, Keeps, by, by_thread, never, through, and_more, watched, calm_left, calm_right}

-- one of the rules of frames is broken
abbrev frames_wrong : Known → Traced → Bool
frames_wrong k s = take_from_there k s || (withdraw_first k s || (evict_first k s || wait_for_locked k s))

-- what is held by what is known is held
abbrev AllHeld : (Frame → Bool) → List TraceFrame → Type 0
AllHeld h [] = ⊤
AllHeld h (x ∷ xs) = ((d : ℕ) × ((n : ℕ) × ((x ≡ TraceFrame.Private d n) × (h (dev_frame d n) ≡ true)))) × AllHeld h xs

-- withdrawn devices are known, and of held frames no others
abbrev KnowsFrames : (ℕ → Bool) → (Frame → Bool) → Known → Type 0
KnowsFrames w h k = ((d : ℕ) → k.withdrawn d ≡ w d) × AllHeld h k.held

-- the entry takes a frame
abbrev is_take : Kind → Bool
is_take (Kind.Take f) = true
is_take k = false

-- it drops one
abbrev is_drop : Kind → Bool
is_drop (Kind.Drop f) = true
is_drop k = false

-- it withdraws a device
abbrev is_withdrawal : Kind → Bool
is_withdrawal (Kind.Withdrawn d) = true
is_withdrawal k = false

-- it removes one
abbrev is_removal : Kind → Bool
is_removal (Kind.Removed d) = true
is_removal k = false

all_kept : (h g : Frame → Bool) → ((d n : ℕ) → h (dev_frame d n) ≡ true → g (dev_frame d n) ≡ true)
    → (xs : List TraceFrame) → AllHeld h xs → AllHeld g xs
all_kept h g m [] l = tt
all_kept h g m (x ∷ xs) l = ((l.0.0, (l.0.1.0, (l.0.1.1.0, m l.0.0 l.0.1.0 l.0.1.1.1))), all_kept h g m xs l.1)

-- none of them is of a device of which none is held
none_of : (h : Frame → Bool) (d : ℕ) → ((n : ℕ) → h (dev_frame d n) ≡ false) → (xs : List TraceFrame) → AllHeld h xs
    → list_any (λ f. is_it (device_of f) d) xs ≡ false
none_of h d e [] l = refl
none_of h d e (x ∷ xs) l = ap (λ b. b || list_any (λ f. is_it (device_of f) d) xs) (one (l.0.0 == d) refl) ∙ none_of h d e xs l.1
  where
    one : (b : Bool) → (l.0.0 == d) ≡ b → is_it (device_of x) d ≡ false
    one false q = ap (λ f. is_it (device_of f) d) l.0.1.1.0 ∙ q
    one true q = absurd (true≢false (sym l.0.1.1.1 ∙ (ap (λ m. h (dev_frame m l.0.1.0)) (eqb-true l.0.0 d q) ∙ e l.0.1.0)))

frames_kept : (w : ℕ → Bool) (h : Frame → Bool) (k l : Known) → ((d : ℕ) → l.withdrawn d ≡ k.withdrawn d) → l.held ≡ k.held
    → KnowsFrames w h k → KnowsFrames w h l
frames_kept w h k l p q kn = (λ d. p d ∙ kn.0 d, subst (AllHeld h) (sym q) kn.1)

-- a frame is taken that is held then
taken : (w : ℕ → Bool) (h : Frame → Bool) (k : Known) (pool : PoolId) (n : ℕ) → h (record { pool = pool; number = n }) ≡ true
    → KnowsFrames w h k
    → KnowsFrames w h (held_more k (in_trace (record { pool = pool; number = n })) (device_of (in_trace (record { pool = pool; number = n }))))
taken w h k PoolId.System n g kn = kn
taken w h k (PoolId.Device d) n g kn = by_bool (k.withdrawn d)
  where
    by_bool : (b : Bool) → KnowsFrames w h (if b then k else record k { held = TraceFrame.Private d n ∷ k.held })
    by_bool true = kn
    by_bool false = (kn.0, ((d, (n, (refl, g))), kn.1))

-- the frame is not of a withdrawn device
not_withdrawn : (c : Program) (w : ℕ → Bool) (k : Known) (s : Places) (pool : PoolId) (n : ℕ) → ((d : ℕ) → k.withdrawn d ≡ s.withdrawn d)
    → is_withdrawn s pool ≡ false
    → elim (device_of (in_trace (record { pool = pool; number = n }))) as (λ x. Bool) [ None ↦ false | Some d ↦ k.withdrawn d ] ≡ false
not_withdrawn c w k s PoolId.System n g h = refl
not_withdrawn c w k s (PoolId.Device d) n g h = g d ∙ h

-- each event that fits an entry, for which this holds if it takes a frame or removes a device
each : (c : Program) (s : Places) (h : Frame → Bool) (b : Bool) (j : Kind)
    → ((f : Frame) → j ≡ Kind.Take f → (h f ≡ true) × (is_withdrawn s f.pool ≡ false))
    → ((d : ℕ) → j ≡ Kind.Removed d → (s.withdrawn d ≡ true) × ((n : ℕ) → h (dev_frame d n) ≡ false))
    → is_drop j ≡ false → is_withdrawal j ≡ false → (k : Known) (a : ℕ) (x : Event) → Fits b j x
    → KnowsFrames s.withdrawn h k
    → (frames_wrong k (by a x) ≡ false) × KnowsFrames s.withdrawn h (known_next k (by a x))
each c s h b j takes goes nd nw k a (Event.Take g) fits kn = let f : Frame = fits.0 in
    subst (λ g. (frames_wrong k (by a (Event.Take g)) ≡ false) × KnowsFrames s.withdrawn h (known_next k (by a (Event.Take g))))
    (sym fits.1.0) (
      ap (λ b. b || (false || (false || false))) (not_withdrawn c s.withdrawn k s f.pool f.number kn.0 (takes f fits.1.1).1),
      taken s.withdrawn h k f.pool f.number (takes f fits.1.1).0 kn,
    )
each c s h b j takes goes nd nw k a (Event.Gone d) fits kn = (
  ap (λ b. not b || ((not (k.passed d) && (b && list_any (λ f. is_it (device_of f) d) k.held)) || (k.passed d && (b && list_any (λ f. is_it (device_of f) d) k.held))))
      (kn.0 d ∙ (goes d fits).0)
      ∙ ap (λ b. (not (k.passed d) && b) || (k.passed d && b)) (none_of h d (goes d fits).1 k.held kn.1)
      ∙ both_ways (k.passed d),
  kn,
)
  where
    both_ways : (b : Bool) → ((not b && false) || (b && false)) ≡ false
    both_ways true = refl
    both_ways false = refl
each c s h b j takes goes nd nw k a (Event.Free g) fits kn = absurd (false≢true (sym nd ∙ ap is_drop fits.1.1))
each c s h b j takes goes nd nw k a (Event.Withdraw d) fits kn = absurd (false≢true (sym nw ∙ ap is_withdrawal fits))
each c s h b j takes goes nd nw k a (Event.Set m v f w) fits kn = (
  refl,
  frames_kept s.withdrawn h k (noted k a (Event.Set m v f w))
      (λ d. at_set (λ k. k.withdrawn d) (λ k t m. refl) (λ k t f. refl) (λ k ss xs. refl) k a m v f w)
      (at_set (λ k. k.held) (λ k t m. refl) (λ k t f. refl) (λ k ss xs. refl) k a m v f w) kn,
)
each c s h b j takes goes nd nw k a (Event.End p r) fits kn = (
  refl,
  frames_kept s.withdrawn h k (noted k a (Event.End p r))
      (λ d. at_end (λ k. k.withdrawn d) (λ k us xs. refl) k a p r) (at_end (λ k. k.held) (λ k us xs. refl) k a p r) kn,
)
each c s h b j takes goes nd nw k a (Event.Told m q true) fits kn = (refl, kn)
each c s h b j takes goes nd nw k a (Event.Told m q false) fits kn = (
  refl,
  frames_kept s.withdrawn h k (noted k a (Event.Told m q false))
      (λ d. at_refused (λ k. k.withdrawn d) (λ k us xs. refl) k a m q) (at_refused (λ k. k.held) (λ k us xs. refl) k a m q) kn,
)
each c s h b j takes goes nd nw k a (Event.Pass f) fits kn = (
  refl,
  frames_kept s.withdrawn h k (noted k a (Event.Pass f))
      (λ d. pass_keeps (λ k. k.withdrawn d) (λ k p. refl) k (device_of f)) (pass_keeps (λ k. k.held) (λ k p. refl) k (device_of f)) kn,
)
each c s h b j takes goes nd nw k a x fits kn = (refl, kn)

-- events that neither free a frame nor withdraw a device
quiet : (c : Program) (s : Places) (h : Frame → Bool) (b : Bool) (j : Kind)
    → ((f : Frame) → j ≡ Kind.Take f → (h f ≡ true) × (is_withdrawn s f.pool ≡ false))
    → ((d : ℕ) → j ≡ Kind.Removed d → (s.withdrawn d ≡ true) × ((n : ℕ) → h (dev_frame d n) ≡ false))
    → is_drop j ≡ false → is_withdrawal j ≡ false → (a : ℕ) (xs : List Event) → AllFit b j xs → (k : Known)
    → KnowsFrames s.withdrawn h k → GoBy frames_wrong k (by_thread a xs) (KnowsFrames s.withdrawn h)
quiet c s h b j takes goes nd nw a xs fits k kn =
    through frames_wrong (KnowsFrames s.withdrawn h) b j a (λ k x. each c s h b j takes goes nd nw k a x) xs fits k kn

-- those of an entry that does none of this
still : (c : Program) (s : Places) (h : Frame → Bool) (a : ℕ) (xs : List Event) → AllFit false (Kind.Evicted 0) xs → (k : Known)
    → KnowsFrames s.withdrawn h k → GoBy frames_wrong k (by_thread a xs) (KnowsFrames s.withdrawn h)
still c s h a xs fits k kn = quiet c s h false (Kind.Evicted 0) (λ f e. no_test (ap is_take e)) (λ d e. no_test (ap is_removal e))
    refl refl a xs fits k kn

other_frame : (d n e m : ℕ) (b : Bool) → ((d == e) && (n == m)) ≡ false → b ≡ true
    → (if (e == d) && (m == n) then false else b) ≡ true
other_frame d n e m b q h = grind (arith, nat_tests)

-- a frame is dropped
drop_one : (h : Frame → Bool) (d n : ℕ) (xs : List TraceFrame) → AllHeld h xs
    → AllHeld (with_frame h (dev_frame d n) false) (drop_if (is_same (TraceFrame.Private d n)) xs)
drop_one h d n [] l = tt
drop_one h d n (x ∷ xs) l = subst (λ x. AllHeld g (drop_if (is_same (TraceFrame.Private d n)) (x ∷ xs))) (sym l.0.1.1.0)
    (by_bool ((d == l.0.0) && (n == l.0.1.0)) refl (drop_one h d n xs l.1))
  where
    g : Frame → Bool
    g = with_frame h (dev_frame d n) false

    by_bool : (b : Bool) → ((d == l.0.0) && (n == l.0.1.0)) ≡ b → AllHeld g (drop_if (is_same (TraceFrame.Private d n)) xs)
        → AllHeld (with_frame h (dev_frame d n) false) (cond (not b) (TraceFrame.Private l.0.0 l.0.1.0 ∷ drop_if (is_same (TraceFrame.Private d n)) xs) (drop_if (is_same (TraceFrame.Private d n)) xs))
    by_bool true q r = r
    by_bool false q r = ((l.0.0, (l.0.1.0, (refl, other_frame d n l.0.0 l.0.1.0 (h (dev_frame l.0.0 l.0.1.0)) q l.0.1.1.1))), r)

dropped : (s : Places) (h : Frame → Bool) (a : ℕ) (pool : PoolId) (n : ℕ) (ys : List Event)
    → ((k : Known) → KnowsFrames s.withdrawn (with_frame h (record { pool = pool; number = n }) false) k
    → GoBy frames_wrong k (by_thread a ys) (KnowsFrames s.withdrawn (with_frame h (record { pool = pool; number = n }) false)))
    → (k : Known) → KnowsFrames s.withdrawn h k
    → GoBy frames_wrong k (by_thread a (if_device (record { pool = pool; number = n }) (Event.Free (in_trace (record { pool = pool; number = n }))) ++ ys))
    (KnowsFrames s.withdrawn (with_frame h (record { pool = pool; number = n }) false))
dropped s h a PoolId.System n ys more k kn =
    more k (kn.0, all_kept h (with_frame h (record { pool = PoolId.System; number = n }) false) (λ d m g. g) k.held kn.1)
dropped s h a (PoolId.Device d) n ys more k kn =
    let l : Known = known_next k (by a (Event.Free (TraceFrame.Private d n))) in
    let g : GoBy frames_wrong l (by_thread a ys) (KnowsFrames s.withdrawn (with_frame h (dev_frame d n) false)) =
    more l (kn.0, drop_one h d n k.held kn.1) in
    ((refl, g.0), g.1)

taken_is : {f g : Frame} → Kind.Take f ≡ Kind.Take g → g ≡ f
taken_is e = ap (λ (k : Kind). elim k as (λ k. Frame) [ Kind.Take f ↦ f | _ ↦ dev_frame 0 0 ]) (sym e)

here_frame : (h : Frame → Bool) (f : Frame) → with_frame h f true f ≡ true
here_frame h f = ap (λ b. if b then true else h f) (frame_itself f)

more_held : (h : Frame → Bool) (f g : Frame) → h g ≡ true → with_frame h f true g ≡ true
more_held h f g q = by_bool (same_frame g f)
  where
    by_bool : (b : Bool) → (if b then true else h g) ≡ true
    by_bool true = refl
    by_bool false = q

-- what an entry does to frames
entry : (c : Program) (t u : State) (a : ℕ) (j : Kind) (o : Option Op) (k : Known)
    → ((d : ℕ) → u.after.places.withdrawn d ≡ (places_next t.after.places j).withdrawn d)
    → ((f : Frame) → u.after.places.held f ≡ (places_next t.after.places j).held f)
    → ((f : Frame) → j ≡ Kind.Take f → is_withdrawn t.after.places f.pool ≡ false)
    → ((d : ℕ) → j ≡ Kind.Removed d → (t.after.places.withdrawn d ≡ true) × ((n : ℕ) → t.after.places.held (dev_frame d n) ≡ false))
    → is_some o ≡ true → KnowsFrames t.after.places.withdrawn t.after.places.held k
    → GoBy frames_wrong k (by_thread a (events_in t u a j o)) (KnowsFrames u.after.places.withdrawn u.after.places.held)
entry c t u a j None k up held takes goes h kn = absurd (false≢true h)
entry c t u a (Kind.Withdrawn d) (Some o) k up held takes goes h kn = let g = t.going a in let s : Places = t.after.places in
    and_more frames_wrong (KnowsFrames s.withdrawn s.held) (KnowsFrames u.after.places.withdrawn u.after.places.held) k a
    (comes_to t.after o g.pages (top_of g.stack) (Kind.Withdrawn d)) (Event.Withdraw d ∷ [])
    (still c s s.held a (comes_to t.after o g.pages (top_of g.stack) (Kind.Withdrawn d))
    (comes_ok false (Kind.Evicted 0) t.after o g.pages (top_of g.stack) (Kind.Withdrawn d)) k kn)
    (λ l n. (
      (refl, tt),
      (
        (λ e. ap (λ b. if e == d then true else b) (n.0 e) ∙ sym (up e)),
        all_kept s.held u.after.places.held (λ e m q. held (dev_frame e m) ∙ q) l.held n.1,
      ),
    ))
entry c t u a (Kind.Drop f) (Some o) k up held takes goes h kn = let g = t.going a in let s : Places = t.after.places in
    let more : ((k : Known) → KnowsFrames s.withdrawn (with_frame s.held f false) k
    → GoBy frames_wrong k (by_thread a (home_over t.after o (top_of g.stack))) (KnowsFrames s.withdrawn (with_frame s.held f false))) =
    still c s (with_frame s.held f false) a (home_over t.after o (top_of g.stack))
    (over_ok false (Kind.Evicted 0) t.after o (top_of g.stack)) in
    let all : GoBy frames_wrong k (by_thread a (events_in t u a (Kind.Drop f) (Some o))) (KnowsFrames s.withdrawn (with_frame s.held f false)) =
    and_more frames_wrong (KnowsFrames s.withdrawn s.held) (KnowsFrames s.withdrawn (with_frame s.held f false)) k a
    (comes_to t.after o g.pages (top_of g.stack) (Kind.Drop f))
    (if_device f (Event.Free (in_trace f)) ++ home_over t.after o (top_of g.stack))
    (still c s s.held a (comes_to t.after o g.pages (top_of g.stack) (Kind.Drop f))
    (comes_ok false (Kind.Evicted 0) t.after o g.pages (top_of g.stack) (Kind.Drop f)) k kn)
    (dropped s s.held a f.pool f.number (home_over t.after o (top_of g.stack)) more) in
    (all.0, ((λ e. all.1.0 e ∙ sym (up e)), all_kept (with_frame s.held f false) u.after.places.held (λ e m q. held (dev_frame e m) ∙ q) _ all.1.1))
entry c t u a (Kind.Take f) (Some o) k up held takes goes h kn = let s : Places = t.after.places in
    let all : GoBy frames_wrong k (by_thread a (events_in t u a (Kind.Take f) (Some o))) (KnowsFrames s.withdrawn (with_frame s.held f true)) =
    quiet c s (with_frame s.held f true) (is_some (u.after.locks.map a)) (Kind.Take f)
    (λ g e. (ap (λ g. with_frame s.held f true g) (taken_is e) ∙ here_frame s.held f, takes g e)) (λ d e. no_test (ap is_removal e)) refl refl a
    (events_in t u a (Kind.Take f) (Some o)) (in_fits t u a (Kind.Take f) (Some o)) k
    (kn.0, all_kept s.held (with_frame s.held f true) (λ e m q. more_held s.held f (dev_frame e m) q) k.held kn.1) in
    (all.0, ((λ e. all.1.0 e ∙ sym (up e)), all_kept (with_frame s.held f true) u.after.places.held (λ e m q. held (dev_frame e m) ∙ q) _ all.1.1))
entry c t u a j (Some o) k up held takes goes h kn = let s : Places = t.after.places in
    let all : GoBy frames_wrong k (by_thread a (events_in t u a j (Some o))) (KnowsFrames s.withdrawn s.held) =
    quiet c s s.held (is_some (u.after.locks.map a)) j (λ f e. no_test (ap is_take e)) goes refl refl a
    (events_in t u a j (Some o)) (in_fits t u a j (Some o)) k kn in
    (all.0, ((λ e. all.1.0 e ∙ sym (up e)), all_kept s.held u.after.places.held (λ e m q. held (dev_frame e m) ∙ q) _ all.1.1))

frames_keep : (c : Program) → Keeps c frames_wrong (λ k t. KnowsFrames t.after.places.withdrawn t.after.places.held k)
frames_keep c t e k s kn = entry c t (state_next c t e) e.actor e.kind (op_at c e.actor (t.going e.actor).index) k
    (λ d. refl) (λ f. refl) takes goes (ap is_some s.turn.is_op) kn
  where
    takes : (f : Frame) → e.kind ≡ Kind.Take f → is_withdrawn t.after.places f.pool ≡ false
    takes f q = (free_says c t.after.places f.pool f (subst (Allowed c t.after s.past e.actor) q s.turn.allowed)).3

    goes : (d : ℕ) → e.kind ≡ Kind.Removed d
        → (t.after.places.withdrawn d ≡ true) × ((n : ℕ) → t.after.places.held (dev_frame d n) ≡ false)
    goes d q = (
      (subst (Allowed c t.after s.past e.actor) q s.turn.allowed).0,
      λ n. subst (λ j. (places_next t.after.places j).held (dev_frame d n) ≡ false) q
          (s.next.sound.pools.emptied d n (subst (λ j. (places_next t.after.places j).removed d ≡ true) (sym q)
          (here_at t.after.places.removed d true))),
    )

all_calm : (c : Program) → IsScript c → (h : List Entry) → Legal c h → Calm frames_wrong known_start (project c h)
all_calm c sc h legal = (watched c frames_wrong (λ k t. KnowsFrames t.after.places.withdrawn t.after.places.held k) sc
    (frames_keep c) ((λ d. refl), tt) h legal).0

-- no legal history breaks `take-from-there`
pub take_from_there_kept : IsKept Rule.TakeFromThere
take_from_there_kept c sc h legal = never take_from_there known_start (project c h)
    (calm_left take_from_there (λ k s. withdraw_first k s || (evict_first k s || wait_for_locked k s)) known_start (project c h)
    (all_calm c sc h legal))

-- none breaks one of the others
others_calm : (c : Program) → IsScript c → (h : List Entry) → Legal c h
    → Calm (λ k s. withdraw_first k s || (evict_first k s || wait_for_locked k s)) known_start (project c h)
others_calm c sc h legal =
    calm_right take_from_there (λ k s. withdraw_first k s || (evict_first k s || wait_for_locked k s)) known_start (project c h)
    (all_calm c sc h legal)

-- no legal history breaks `withdraw-first`
pub withdraw_first_kept : IsKept Rule.WithdrawFirst
withdraw_first_kept c sc h legal = never withdraw_first known_start (project c h)
    (calm_left withdraw_first (λ k s. evict_first k s || wait_for_locked k s) known_start (project c h) (others_calm c sc h legal))

held_calm : (c : Program) → IsScript c → (h : List Entry) → Legal c h
    → Calm (λ k s. evict_first k s || wait_for_locked k s) known_start (project c h)
held_calm c sc h legal = calm_right withdraw_first (λ k s. evict_first k s || wait_for_locked k s) known_start (project c h)
    (others_calm c sc h legal)

-- no legal history breaks `evict-first`
pub evict_first_kept : IsKept Rule.EvictFirst
evict_first_kept c sc h legal = never evict_first known_start (project c h)
    (calm_left evict_first wait_for_locked known_start (project c h) (held_calm c sc h legal))

-- no legal history breaks `wait-for-locked`
pub wait_for_locked_kept : IsKept Rule.WaitForLocked
wait_for_locked_kept c sc h legal = never wait_for_locked known_start (project c h)
    (calm_right evict_first wait_for_locked known_start (project c h) (held_calm c sc h legal))
