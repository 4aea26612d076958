-- A state stays tidy as long as each entry keeps the rules of places.
use Rattle.std.proofs.Common.{◌≡◌, ℕ, Bool, true, false, not, Option, Some, None, List, [], ◌∷◌, refl, sym, ap, ◌∙◌, subst, fold}
use Rattle.std.specs.Prelude.{is_none}
use Rattle.std.proofs.lemmas.Bool.{and_parts, not-true}
use Rattle.hm_base.specs.Program.{Program, IsScript}
use Rattle.hm_base.specs.PlaceWords.{is_frame, names}
use Rattle.hm_base.specs.declared.Frame.{Frame}
use Rattle.hm_base.specs.declared.Place.{Place}
use Rattle.hm_history.specs.Memory.After.{After, after, after_entry, after_nothing}
use Rattle.hm_history.specs.Memory.Contents.{backing}
use Rattle.hm_history.specs.Memory.Places.{Places, frame_of, holds_target, is_withdrawn, lowest_free, lowest_named, one_writer, places_accept, places_next, pool_size}
use Rattle.hm_history.specs.Memory.Words.{least}
use Rattle.hm_history.specs.Kernel.Going.{state_of}
use Rattle.hm_history.specs.Laws.{DueFrom}
use Rattle.hm_history.specs.declared.Entry.{Entry}
use Rattle.hm_history.specs.declared.Kind.{Kind}
use Rattle.hm_history.proofs.Frames.{frame_same, is_frame_from}
use Rattle.hm_tables.specs.Shown.{is_once}
use Rattle.hm_tables.proofs.TablesKept.{listed_next, once_next}
use Rattle.hm_folds.specs.Standing.{backing_by, is_backed, one_writer_after, share_of, shares_where}
use Rattle.hm_folds.proofs.LeastHeld.{least_is}
use Rattle.hm_folds.proofs.PlaceAccepts.{lowest_by}
use Rattle.hm_folds.proofs.PlaceSteps.{backed_by, named_dropped, named_placed, named_taken, none_names, place_decided, take_one_writer}
use Rattle.hm_laws.proofs.State.AllowedAccepts.{one_writer_is}
use Rattle.hm_laws.specs.Laws.{HistoryStands}
use Rattle.hm_flaw_parts.specs.declared.judged.Judging.{Judging}
use Rattle.hm_flaw_states.specs.Tidy.{IsTidy, TidyFor}

-- ---- one entry more

pub tidy_next : (c : Program) (proc : ℕ → Option ℕ) (s : Places) (a : ℕ) (k : Kind) → IsTidy s → places_accept c proc s a k ≡ true → IsTidy (places_next s k)
tidy_next c proc s a (Kind.Place p v x) t h =
    let parts = and_parts (holds_target s (names x)) (one_writer (places_next s (Kind.Place p v x))) h in
    record {
      once = once_next p v s.placed t.once;
      listed = listed_next s.place s.placed t.listed p v x;
      named = named_placed s t.named p v x parts.0;
      one = parts.1;
    }
tidy_next c proc s a (Kind.Committed f g) t h = record { once = t.once; listed = t.listed; named = t.named; one = h }
tidy_next c proc s a (Kind.Take f) t h = record {
  once = t.once;
  listed = t.listed;
  named = named_taken s t.named f;
  one = (and_parts _ (one_writer (places_next s (Kind.Take f))) h).1;
}
tidy_next c proc s a (Kind.Drop f) t h = record {
  once = t.once;
  listed = t.listed;
  named = named_dropped s t.named f (none_names s t.listed f (and_parts (s.held f) (is_none (lowest_named s f)) h).1);
  one = t.one;
}
tidy_next c proc s a _ t h = record { once = t.once; listed = t.listed; named = t.named; one = t.one }

-- ---- after a set-up

once_more : (s : Places) (k : Kind) → is_once s.placed ≡ true → is_once (places_next s k).placed ≡ true
once_more s (Kind.Place p v x) h = once_next p v s.placed h
once_more s _ h = h

once_along : (s : After) (h : List Entry) → is_once s.places.placed ≡ true → is_once (fold after_entry s h).places.placed ≡ true
once_along s [] o = o
once_along s (e ∷ h) o = once_along (after_entry s e) h (once_more s.places e.kind o)

-- the state after entries that were due is tidy
pub tidy_after : HistoryStands → (c : Program) → IsScript c → (h : List Entry) → DueFrom c [] h → IsTidy (state_of c h).after.places
tidy_after law c sc h d =
    let z = law c sc h d in
    let s = (after h).places in
    subst (λ (u : After). IsTidy u.places) (sym z.same_after) (record {
      once = once_along after_nothing h refl;
      listed = z.rules.places.listed;
      named = λ p v f e. z.rules.frames.names_held p v f (is_frame_from (names (s.place p v)) f e);
      one = one_writer_is s s.held (after h).locks.frame z.rules.frames;
    })

pub tidy_for : (j : Judging) (s : Places) → IsTidy s → TidyFor j s
tidy_for Judging.AllParts s t = t
tidy_for Judging.AnswersAlone s t = tt

-- ---- what the shares of frames decide

pub place_one : (s : Places) → IsTidy s → (p v : ℕ) (x : Place) →
    one_writer_after (λ (f : Frame). shares_where s (is_backed s f)) (backing s x) (share_of x) (backing s (s.place p v)) (share_of (s.place p v)) ≡ one_writer (places_next s (Kind.Place p v x))
place_one s t p v x =
    let shares = λ (f : Frame). shares_where s (is_backed s f) in
    ap (λ (o : Option Frame). one_writer_after shares o (share_of x) (backing s (s.place p v)) (share_of (s.place p v))) (sym (backed_by s.committed_to s (λ f. refl) x))
    ∙ (ap (λ (o : Option Frame). one_writer_after shares (backing_by s.committed_to x) (share_of x) o (share_of (s.place p v))) (sym (backed_by s.committed_to s (λ f. refl) (s.place p v)))
    ∙ place_decided s t.once t.listed t.one shares (λ f. refl) s.committed_to (λ f. refl) p v x)

pub take_one : (s : Places) → IsTidy s → (f : Frame) → s.held f ≡ false → one_writer (places_next s (Kind.Take f)) ≡ true
take_one s t f free = take_one_writer s t.named t.once t.one f free

-- the frame that a pool gives next is free
pub free_lowest : (c : Program) (s : Places) (f : Frame) → is_frame (lowest_free c s f.pool) f ≡ true → s.held f ≡ false
free_lowest c s f h = by (is_withdrawn s f.pool) (least (λ n. not (s.held (frame_of f.pool n))) 0 (pool_size c f.pool)) refl h
  where
    by : (w : Bool) (o : Option ℕ) → least (λ n. not (s.held (frame_of f.pool n))) 0 (pool_size c f.pool) ≡ o → is_frame (lowest_by f.pool w o) f ≡ true → s.held f ≡ false
    by true o e k = cc
    by false None e k = cc
    by false (Some n) e k =
        let same : frame_of f.pool n ≡ f = frame_same (frame_of f.pool n) f k in
        sym (ap s.held same) ∙ not-true (s.held (frame_of f.pool n)) (least_is (λ i. not (s.held (frame_of f.pool i))) 0 (pool_size c f.pool) n e).there
