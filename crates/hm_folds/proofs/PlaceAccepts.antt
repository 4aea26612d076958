-- What the fold reads is what the definition's tests ask.
use Rattle.std.proofs.Common.{◌≡◌, ℕ, ◌-◌, Bool, true, false, not, ◌==◌, ◌&&◌, Option, Some, None, List, refl, sym, ap, ◌∙◌}
use Rattle.std.specs.Prelude.{unwrap_or, if◌then◌else◌, Result, Ok, Err, OnOk}
use Rattle.std.proofs.lemmas.Bool.{not-true}
use Rattle.std.proofs.Math.Path.{fun_ext}
use Rattle.hm_base.specs.Program.{Program}
use Rattle.hm_base.specs.declared.PoolId.{PoolId}
use Rattle.hm_base.specs.declared.Frame.{Frame}
use Rattle.hm_base.specs.declared.Place.{Place}
use Rattle.hm_base.specs.PlaceWords.{is_frame, writable}
use Rattle.hm_history.specs.Memory.Words.{least}
use Rattle.hm_history.specs.Memory.Places.{Places, TableEntry, frame_of, pool_size, is_withdrawn, lowest_free, held_from, one_writer, places_next, places_accept, stands_for, is_target, is_exclusive, may_read, may_write, table_reads, table_writes}
use Rattle.hm_history.specs.declared.Kind.{Kind}
use Rattle.hm_history.specs.declared.Who.{Who}
use Rattle.hm_history.specs.declared.TableRight.{TableRight}
use Rattle.hm_history.specs.declared.TableRight.TheVariants.{Read, Write, Sole}
use Rattle.hm_history.proofs.Frames.{pool_itself}
use Rattle.hm_folds.specs.HeldFrames.{held_at, frames_in}
use Rattle.hm_folds.specs.Commits.{committed_at}
use Rattle.hm_folds.specs.Shares.{shares_at}
use Rattle.hm_folds.specs.Standing.{share_of, backing_by, one_writer_after, entry_allows, may_access, accepts_frames, with_mirrors}
use Rattle.hm_folds.specs.Places.{PlacesShown}
use Rattle.hm_folds.specs.declared.shares.Shares.{Shares}
use Rattle.hm_folds.specs.declared.places.PlaceState.{PlaceState}
use Rattle.hm_folds.proofs.LeastHeld.{least_is}
use Rattle.hm_folds.proofs.PastPages.{by_entry}
use Rattle.hm_folds.proofs.PlaceSteps.{place_decided, commit_decided}
use Rattle.std.proofs.Math.Bool.{and-true}

-- frames
pub free_shown : (c : Program) (s : Places) (x : PlaceState) → PlacesShown c s x → (pool : PoolId) →
    least (λ n. not (held_at x.held.pools (frame_of pool n))) 0 (frames_in x.held.pools pool) ≡ least (λ n. not (s.held (frame_of pool n))) 0 (pool_size c pool)
free_shown c s x h pool =
    ap (λ (t : ℕ → Bool). least t 0 (frames_in x.held.pools pool)) (fun_ext (λ n. ap not (h.held (frame_of pool n)))) ∙ ap (least (λ n. not (s.held (frame_of pool n))) 0) (h.frames pool)

pub held_shown : (c : Program) (s : Places) (x : PlaceState) → PlacesShown c s x → (d from : ℕ) →
    least (λ n. held_at x.held.pools (frame_of (PoolId.Device d) n)) from (frames_in x.held.pools (PoolId.Device d) - from) ≡ held_from c s d from
held_shown c s x h d from =
    ap (λ (t : ℕ → Bool). least t from (frames_in x.held.pools (PoolId.Device d) - from)) (fun_ext (λ n. h.held (frame_of (PoolId.Device d) n)))
    ∙ ap (λ k. least (λ n. s.held (frame_of (PoolId.Device d) n)) from (k - from)) (h.frames (PoolId.Device d))

-- the lowest free frame, unless the pool is withdrawn
abbrev pub lowest_by : PoolId → Bool → Option ℕ → Option Frame
lowest_by pool w o = elim w [ true ↦ None | false ↦ elim o [ None ↦ None | Some n ↦ Some (frame_of pool n) ] ]

pub lowest_shown : (c : Program) (s : Places) (x : PlaceState) → PlacesShown c s x → (pool : PoolId) (w : Bool) (o : Option ℕ) → w ≡ is_withdrawn s pool →
    o ≡ least (λ n. not (held_at x.held.pools (frame_of pool n))) 0 (frames_in x.held.pools pool) → lowest_by pool w o ≡ lowest_free c s pool
lowest_shown c s x h pool w o e f = ap (λ b. lowest_by pool b o) e ∙ ap (lowest_by pool (is_withdrawn s pool)) (f ∙ free_shown c s x h pool)

pub none_shown : (c : Program) (s : Places) (pool : PoolId) → is_withdrawn s pool ≡ true → None ≡ lowest_free c s pool
none_shown c s pool e = ap (λ b. lowest_by pool b (least (λ n. not (s.held (frame_of pool n))) 0 (pool_size c pool))) (sym e)

pub next_is : (f : Frame) (o : Option ℕ) (n : ℕ) → o ≡ Some n → (n == f.number) ≡ is_frame (lowest_by f.pool false o) f
next_is f o n e = ap (λ b. b && (n == f.number)) (sym (pool_itself f.pool)) ∙ ap (λ p. is_frame (lowest_by f.pool false p) f) (sym e)

-- places
pub same_after : (F : Frame → Shares) (o p : Option Frame) (m n : Shares) (from to : Option Frame) (k l : Shares) → o ≡ p → m ≡ n → from ≡ to → k ≡ l → one_writer_after F o m from k ≡ one_writer_after F p n to l
same_after F o p m n from to k l a b d e =
    ap (λ z. one_writer_after F z m from k) a ∙ ap (λ z. one_writer_after F p z from k) b ∙ ap (λ z. one_writer_after F p n z k) d ∙ ap (one_writer_after F p n to) e

pub accepts_place : (c : Program) (s : Places) (x : PlaceState) → PlacesShown c s x → (p v : ℕ) (y : Place) → let to = committed_at x.commits.pools in
    one_writer_after (shares_at x.standing.pools) (backing_by to y) (share_of y) (backing_by to (s.place p v)) (share_of (s.place p v)) ≡ one_writer (places_next s (Kind.Place p v y))
accepts_place c s x h p v y = place_decided s h.tables.once h.tables.listed h.one (shares_at x.standing.pools) h.standing (committed_at x.commits.pools) h.committed p v y

pub accepts_commit : (c : Program) (s : Places) (x : PlaceState) → PlacesShown c s x → (f g : Frame) (m : Shares) (t : Frame) → m ≡ shares_at x.moving.pools f → t ≡ unwrap_or (committed_at x.commits.pools f) f →
    one_writer_after (shares_at x.standing.pools) (Some g) m (Some t) m ≡ one_writer (places_next s (Kind.Committed f g))
accepts_commit c s x h f g m t e d =
    ap (λ z. one_writer_after (shares_at x.standing.pools) (Some g) m (Some z) m) d
    ∙ commit_decided s h.tables.once h.one (shares_at x.standing.pools) h.standing (committed_at x.commits.pools f) f g m (h.committed f) (e ∙ h.moving f)

-- the second test decides where the first passes, and the first where it fails
pub and_then : (a b : Bool) → a ≡ true → b ≡ (a && b)
and_then a b e = ap (λ z. z && b) (sym e)

pub and_else : (a b : Bool) → a ≡ false → false ≡ (a && b)
and_else a b e = ap (λ z. z && b) (sym e)

-- tables
swapped : (r t e w : Bool) → (r && ((e && w) && t)) ≡ ((r && (t && e)) && w)
swapped true true true w = and_true w
  where
    and_true : (b : Bool) → (b && true) ≡ b
    and_true true = refl
    and_true false = refl
swapped true true false w = refl
swapped true false true w = and_false w
  where
    and_false : (b : Bool) → (b && false) ≡ false
    and_false true = refl
    and_false false = refl
swapped true false false w = refl
swapped false t e w = refl

-- the tests of an entry in the order in which the fold makes them
pub entry_form : (s : Places) (e : TableEntry) (x : Place) (w : Bool) →
    ((if w then may_write e.right else may_read e.right) && ((not (is_exclusive x) && (if w then writable x else true)) && is_target (stands_for s x) e.target)) ≡ entry_allows s e x w
entry_form s e x false = swapped (may_read e.right) (is_target (stands_for s x) e.target) (not (is_exclusive x)) true ∙ and-true (may_read e.right && (is_target (stands_for s x) e.target && not (is_exclusive x)))
entry_form s e x true = by e.right
  where
    by : (r : TableRight) → (may_write r && ((not (is_exclusive x) && writable x) && is_target (stands_for s x) e.target)) ≡ ((may_read r && (is_target (stands_for s x) e.target && not (is_exclusive x))) && (may_write r && writable x))
    by Read = sym (no_more (is_target (stands_for s x) e.target && not (is_exclusive x)))
      where
        no_more : (b : Bool) → (b && false) ≡ false
        no_more true = refl
        no_more false = refl
    by Write = swapped true (is_target (stands_for s x) e.target) (not (is_exclusive x)) (writable x)
    by Sole = refl

pub table_form : (s : Places) (m p v : ℕ) (w : Bool) (e : TableEntry) → Some e ≡ s.table m v → entry_allows s e (s.place p v) w ≡ (if w then table_writes s m p v else table_reads s m p v)
table_form s m p v true e h = ap (λ o. by_entry s o (s.place p v) true) h
table_form s m p v false e h = ap (λ o. by_entry s o (s.place p v) false) h

-- an entry that is accepted is so in what it changes of frames and places
pub accepts_so : (c : Program) (proc : ℕ → Option ℕ) (s : Places) (a : ℕ) (k : Kind) → places_accept c proc s a k ≡ true → accepts_frames c s k ≡ true
accepts_so c proc s a (Kind.Place p v x) h = h
accepts_so c proc s a (Kind.Committed f g) h = h
accepts_so c proc s a (Kind.Take f) h = h
accepts_so c proc s a (Kind.Drop f) h = h
accepts_so c proc s a (Kind.Removed d) h = h
accepts_so c proc s a k h = refl

-- accesses
pub loaded_is : (c : Program) (proc : ℕ → Option ℕ) (s : Places) (a : ℕ) (x : Who) (at : ℕ) (bs : List ℕ) → may_access proc s x at false ≡ places_accept c proc s a (Kind.Loaded x at bs)
loaded_is c proc s a (Who.Cpu p) at bs = refl
loaded_is c proc s a (Who.Mirror m) at bs = refl

pub stored_is : (c : Program) (proc : ℕ → Option ℕ) (s : Places) (a : ℕ) (x : Who) (at : ℕ) (bs : List ℕ) → may_access proc s x at true ≡ places_accept c proc s a (Kind.Stored x at bs)
stored_is c proc s a (Who.Cpu p) at bs = refl
stored_is c proc s a (Who.Mirror m) at bs = refl

-- all other tests are of frames
pub others_accept : (c : Program) (proc : ℕ → Option ℕ) (s : Places) (a : ℕ) (k : Kind) → ((x : Who) (at : ℕ) (bs : List ℕ) → k ≡ Kind.Loaded x at bs → ⊥) → ((x : Who) (at : ℕ) (bs : List ℕ) → k ≡ Kind.Stored x at bs → ⊥) →
    ((m v : ℕ) (f : Option Frame) (w : TableRight) (from : ℕ) → k ≡ Kind.Set m v f w from → ⊥) → ((m at : ℕ) (bs : List ℕ) → k ≡ Kind.Fetched m at bs → ⊥) → ((m at was now : ℕ) → k ≡ Kind.Added m at was now → ⊥) →
    accepts_frames c s k ≡ places_accept c proc s a k
others_accept c proc s a (Kind.Loaded x at bs) l t n f d = absurd (l x at bs refl)
others_accept c proc s a (Kind.Stored x at bs) l t n f d = absurd (t x at bs refl)
others_accept c proc s a (Kind.Set m v o w from) l t n f d = absurd (n m v o w from refl)
others_accept c proc s a (Kind.Fetched m at bs) l t n f d = absurd (f m at bs refl)
others_accept c proc s a (Kind.Added m at was now) l t n f d = absurd (d m at was now refl)
others_accept c proc s a k l t n f d = refl

-- of an entry that changes no frame and no place only the mirrors count
pub others_step : (s : Places) (k : Kind) → ((p v : ℕ) (x : Place) → k ≡ Kind.Place p v x → ⊥) → ((f g : Frame) → k ≡ Kind.Committed f g → ⊥) → ((f : Frame) → k ≡ Kind.Take f → ⊥) → ((f : Frame) → k ≡ Kind.Drop f → ⊥) →
    ((d : ℕ) → k ≡ Kind.Withdrawn d → ⊥) → ((d : ℕ) → k ≡ Kind.Removed d → ⊥) → with_mirrors s k ≡ places_next s k
others_step s (Kind.Place p v x) a b d e f g = absurd (a p v x refl)
others_step s (Kind.Committed x y) a b d e f g = absurd (b x y refl)
others_step s (Kind.Take x) a b d e f g = absurd (d x refl)
others_step s (Kind.Drop x) a b d e f g = absurd (e x refl)
others_step s (Kind.Withdrawn x) a b d e f g = absurd (f x refl)
others_step s (Kind.Removed x) a b d e f g = absurd (g x refl)
others_step s k a b d e f g = refl

pub and_last : (a b : Bool) → b ≡ true → a ≡ (a && b)
and_last a b e = sym (and-true a) ∙ ap (λ z. a && z) (sym e)

-- the frame that the next `take` gives is free
pub free_of : (c : Program) (s : Places) (x : PlaceState) → PlacesShown c s x → (f : Frame) → least (λ n. not (held_at x.held.pools (frame_of f.pool n))) 0 (frames_in x.held.pools f.pool) ≡ Some f.number → s.held f ≡ false
free_of c s x h f e = sym (h.held f) ∙ not-true (held_at x.held.pools f) (least_is (λ n. not (held_at x.held.pools (frame_of f.pool n))) 0 (frames_in x.held.pools f.pool) f.number e).there

pub ok_then : {A E : Type 0} (r : Result A E) (P Q : Type 0) → (P → Q) → OnOk r P → OnOk r Q
ok_then (Ok x) P Q f h = f h
ok_then (Err e) P Q f h = h
