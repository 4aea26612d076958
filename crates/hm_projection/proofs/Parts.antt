-- What is said before an entry and after it is all that the entry tells.
use Rattle.std.proofs.Common.{◌≡◌, ℕ, true, false, Option, Some, None, List, [], ◌∷◌, ◌++◌, map, cond, refl, sym, ap, ◌∙◌, append_assoc}
use Rattle.std.specs.Prelude.{◌&&◌, filter, flat_map, is_none, is_some}
use Rattle.std.proofs.lemmas.List.{append-nil}
use Rattle.hm_base.specs.declared.ops.Op.{Op}
use Rattle.hm_history.proofs.Updates.{here_at}
use Rattle.hm_history.specs.Memory.After.{After, after_entry}
use Rattle.hm_history.specs.Memory.Places.{TableEntry}
use Rattle.hm_history.specs.Memory.Words.{numbers}
use Rattle.hm_history.specs.declared.Entry.{Entry}
use Rattle.hm_history.specs.Kernel.Going.{coming}
use Rattle.hm_history.specs.declared.KeptAt.{KeptAt}
use Rattle.hm_history.specs.declared.KeptWhy.{KeptWhy}
use Rattle.hm_history.specs.declared.Kind.{Kind}
use Rattle.hm_history.specs.declared.Who.{Who}
use Rattle.hm_history.specs.declared.locks.MapLock.{MapLock}
use Rattle.hm_history.specs.declared.phases.Body.{Body}
use Rattle.hm_history.specs.declared.phases.Migrating.{Migrating}
use Rattle.hm_history.specs.declared.phases.Phase.{Phase}
use Rattle.hm_projection.specs.Tables.{erases}
use Rattle.hm_projection.specs.Told.{asked_of, kept_by, page_or, reason_by, told_after, told_before, told_first, told_of_frames, told_of_walk}
use Rattle.hm_protocol.specs.Projection.{all_erased, begins_removal, body_at, comes_to, erased, events_by, kept, page_in, reason_of, record_at, top_of, walk_of, window_of}
use Rattle.hm_protocol.specs.declared.events.Event.{Event}
use Rattle.hm_protocol.specs.declared.events.Reason.{Reason}

-- the page of a fault is that of the first phase that decides
pub first_decides : (o : Op) (x : Phase) (xs : List Phase) → page_in o (x ∷ xs) ≡ page_or o x (page_in o xs)
first_decides o (Phase.Decide touch) xs = refl
first_decides o x xs = refl

-- the reason, by what is known before the entry
pub reason_is : (s : After) (o : Op) (body : Body) → reason_of s o body ≡ reason_by (asked_of s o) body
reason_is s (Op.Unmap p r) body = refl
reason_is s (Op.Protect p r w) body = refl
reason_is s (Op.Fork p child) body = refl
reason_is s (Op.Exit p) body = refl
reason_is s o (Body.Select v) = refl
reason_is s o (Body.Fresh g) = refl
reason_is s o (Body.Catch f) = refl
reason_is s o (Body.Seize f) = refl
reason_is s o body = refl

-- what is kept, by why it is
kept_is : (s : After) (o : Op) (x : Option Migrating) (stack : List Phase) (what : KeptAt) (why : KeptWhy) → kept s o x stack what why ≡ kept_by s o x stack what why
kept_is s o x stack what why = by what why x stack
  where
    by : (what : KeptAt) (why : KeptWhy) (x : Option Migrating) (stack : List Phase) → kept s o x stack what why ≡ kept_by s o x stack what why
    by (KeptAt.Frame f) (KeptWhy.LockedBy b) None (Phase.Lost v g ∷ below) = refl
    by (KeptAt.Frame f) (KeptWhy.LockedBy b) (Some y) (Phase.Lost v g ∷ below) = refl
    by (KeptAt.Frame f) KeptWhy.Lost None (Phase.Lost v g ∷ below) = refl
    by (KeptAt.Frame f) KeptWhy.Lost (Some y) (Phase.Lost v g ∷ below) = refl
    by (KeptAt.Frame f) KeptWhy.NoFrame None (Phase.Lost v g ∷ below) = refl
    by (KeptAt.Frame f) KeptWhy.NoFrame (Some y) (Phase.Lost v g ∷ below) = refl
    by (KeptAt.Frame f) KeptWhy.NotHere None (Phase.Lost v g ∷ below) = refl
    by (KeptAt.Frame f) KeptWhy.NotHere (Some y) (Phase.Lost v g ∷ below) = refl
    by (KeptAt.Frame f) KeptWhy.Skipped None (Phase.Lost v g ∷ below) = refl
    by (KeptAt.Frame f) KeptWhy.Skipped (Some y) (Phase.Lost v g ∷ below) = refl
    by (KeptAt.Page u) (KeptWhy.LockedBy b) None (Phase.Lost v g ∷ below) = refl
    by (KeptAt.Page u) (KeptWhy.LockedBy b) (Some y) (Phase.Lost v g ∷ below) = refl
    by (KeptAt.Page u) KeptWhy.Lost None (Phase.Lost v g ∷ below) = refl
    by (KeptAt.Page u) KeptWhy.Lost (Some y) (Phase.Lost v g ∷ below) = refl
    by (KeptAt.Page u) KeptWhy.NoFrame None (Phase.Lost v g ∷ below) = refl
    by (KeptAt.Page u) KeptWhy.NoFrame (Some y) (Phase.Lost v g ∷ below) = refl
    by (KeptAt.Page u) KeptWhy.NotHere None (Phase.Lost v g ∷ below) = refl
    by (KeptAt.Page u) KeptWhy.NotHere (Some y) (Phase.Lost v g ∷ below) = refl
    by (KeptAt.Page u) KeptWhy.Skipped None (Phase.Lost v g ∷ below) = refl
    by (KeptAt.Page u) KeptWhy.Skipped (Some y) (Phase.Lost v g ∷ below) = refl
    by what why x stack = refl

-- ---- entries that erase nothing

none_pass : (f : ℕ → Option TableEntry) (vs : List ℕ) → filter (λ v. is_some (f v) && is_none (f v)) vs ≡ []
none_pass f [] = refl
none_pass f (v ∷ vs) = by (f v) (none_pass f vs)
  where
    by : (x : Option TableEntry) → filter (λ v. is_some (f v) && is_none (f v)) vs ≡ []
        → cond (is_some x && is_none x) (v ∷ filter (λ v. is_some (f v) && is_none (f v)) vs) (filter (λ v. is_some (f v) && is_none (f v)) vs) ≡ []
    by None h = h
    by (Some e) h = h

none_of : {X Y : Type 0} (f : X → List Y) → ((x : X) → f x ≡ []) → (xs : List X) → flat_map f xs ≡ []
none_of f h [] = refl
none_of f h (x ∷ xs) = ap (λ ys. ys ++ flat_map f xs) (h x) ∙ none_of f h xs

-- an entry that leaves the tables erases nothing
nothing_erased : (s u : After) → u.places.table ≡ s.places.table → all_erased s u ≡ []
nothing_erased s u same = none_of (erased s u) by (numbers 0 32)
  where
    by : (m : ℕ) → erased s u m ≡ []
    by m = ap (λ (f : ℕ → ℕ → Option TableEntry). map (λ v. Event.Erase m v) (filter (λ v. is_some (s.places.table m v) && is_none (f m v)) (window_of s m))) same
        ∙ ap (map (λ v. Event.Erase m v)) (none_pass (s.places.table m) (window_of s m))

-- ---- an entry

-- nothing before or after it
alone : {X : Type 0} (xs : List X) → (xs ++ []) ++ [] ≡ xs
alone xs = append-nil (xs ++ []) ∙ append-nil xs

-- what an entry tells, without what a migration has come to before it
told_is : (s : After) (a : ℕ) (k : Kind) (o : Op) (xs : List Migrating) (stack : List Phase) (after : Phase)
    → (told_first (top_of stack) k ++ (erases s k ++ (told_of_walk s o (top_of stack) k ++ told_of_frames s o xs stack k)))
    ++ told_after (after_entry s (record { actor = a; kind = k })) (asked_of s o) after k
    ≡ events_by s (after_entry s (record { actor = a; kind = k })) a o xs stack after k
told_is s a (Kind.Detaching m q) o xs stack after =
    let u = after_entry s (record { actor = a; kind = Kind.Detaching m q }) in
    ap (λ ys. Event.Remove m ∷ ys) (alone (erased s u m))
told_is s a (Kind.Detached m) o xs stack after =
    let u = after_entry s (record { actor = a; kind = Kind.Detached m }) in
    ap (λ ys. (begins_removal (top_of stack) m ++ ys) ++ Event.Removed m ∷ []) (append-nil (erased s u m))
told_is s a (Kind.Told m r q) o xs stack after =
    let u = after_entry s (record { actor = a; kind = Kind.Told m r q }) in
    ap (λ ys. Event.Tell m r q ∷ (ys ++ told_after u (asked_of s o) after (Kind.Told m r q))) (append-nil (erased s u m))
told_is s a (Kind.Start p r q) o xs stack after =
    ap (λ (x : Reason × Option ℕ). Event.Start p r x.0 x.1 ∷ []) (sym (reason_is s o (body_at after)))
told_is s a (Kind.End p r q) o xs stack after =
    let u = after_entry s (record { actor = a; kind = Kind.End p r q }) in
    ap (λ ys. Event.End p r ∷ ys) (sym (nothing_erased s u refl))
told_is s a (Kind.Copied f g part) o xs stack after =
    sym (nothing_erased s (after_entry s (record { actor = a; kind = Kind.Copied f g part })) refl)
told_is s a (Kind.Rlock p) o xs stack after =
    alone (walk_of s true o (top_of stack))
    ∙ ap (λ (x : Option MapLock). walk_of s (is_some x) o (top_of stack)) (sym (here_at s.locks.map a (Some (record { proc = p; writes = false }))))
told_is s a (Kind.Runlock p) o xs stack after = alone _
told_is s a (Kind.Retry m) o xs stack after = alone _
told_is s a (Kind.Failed x at n why) o xs stack after = alone _
told_is s a (Kind.Take g) o xs stack after = append-nil _
told_is s a (Kind.Drop f) o xs stack after = append-nil _
told_is s a (Kind.Done f) o xs stack after = append-nil _
told_is s a (Kind.Committed f g) o xs stack after = append-nil _
told_is s a (Kind.Place p v x) o xs stack after = append-nil _
told_is s a (Kind.Kept what why) o xs stack after = append-nil _ ∙ sym (kept_is s o (record_at (coming s o xs (top_of stack))) stack what why)
told_is s a (Kind.Loaded (Who.Mirror m) at bs) o xs stack after = refl
told_is s a (Kind.Loaded (Who.Cpu p) at bs) o xs stack after = refl
told_is s a (Kind.Stored (Who.Mirror m) at bs) o xs stack after = refl
told_is s a (Kind.Stored (Who.Cpu p) at bs) o xs stack after = refl
told_is s a k o xs stack after = refl

-- all that an entry tells of an operation
pub all_told : (s : After) (e : Entry) (o : Op) (xs : List Migrating) (stack : List Phase) (after : Phase)
    → told_before s o xs stack e.kind ++ told_after (after_entry s e) (asked_of s o) after e.kind
    ≡ comes_to s o xs (top_of stack) e.kind ++ events_by s (after_entry s e) e.actor o xs stack after e.kind
all_told s e o xs stack after =
    append_assoc (comes_to s o xs (top_of stack) e.kind) _ _
    ∙ ap (λ ys. comes_to s o xs (top_of stack) e.kind ++ ys) (told_is s e.actor e.kind o xs stack after)
