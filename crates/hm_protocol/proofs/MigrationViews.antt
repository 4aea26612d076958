-- What an event makes of the migrations of its thread, as far as the rules of migrations read them.
use Rattle.std.proofs.Common.{refl, ap, ◌∙◌}
use Rattle.std.specs.Prelude.{◌≡◌, ℕ, Bool, true, false, not, ◌&&◌, ◌||◌, ◌==◌, if◌then◌else◌, ⊤, List, [], ◌∷◌}
use Rattle.std.specs.Prelude.{map, fold}
use Rattle.std.specs.List.{list_any}
use Rattle.hm_history.specs.declared.TableRight.{TableRight}
use Rattle.hm_history.proofs.Updates.{here_at}
use Rattle.hm_protocol.specs.declared.events.Event.{Event}
use Rattle.hm_protocol.specs.declared.events.TraceFrame.{TraceFrame}
use Rattle.hm_protocol.specs.declared.events.Traced.{Traced}
use Rattle.hm_protocol.specs.Words.{device_of, is_sole, drop_if}
use Rattle.hm_protocol.specs.Known.{Move, Known, is_look_up, is_slot}
use Rattle.hm_protocol.specs.Noted.{known_next, with_move, freed, outer, commit, moving, set_by, after_set}
use Rattle.hm_protocol.specs.Tests.{set_moved, drop_lost, is_kept_back, is_migrated_set}
use Rattle.hm_protocol.proofs.Fields.{moves_else, at_end, at_refused, held_keeps, pass_keeps}
use Rattle.hm_protocol.proofs.Steps.{GoBy, by, by_thread}

-- a migration, without what these rules do not read of it
pub record View : Type 0 where
  pub to_device : Bool
  pub source : List (ℕ × Bool)
  pub stayed : List (ℕ × TraceFrame)
  pub freed : List TraceFrame

abbrev pub view : Move → View
view y = record { to_device = y.to_device; source = y.source; stayed = y.stayed; freed = y.freed }

-- a thread's migrations
abbrev pub views : Known → ℕ → List View
views k a = map view (k.moves a)

-- the inner one changes
abbrev pub with_top : (View → View) → List View → List View
with_top f [] = []
with_top f (y ∷ ys) = f y ∷ ys

-- it is over
abbrev pub without_top : List View → List View
without_top [] = []
without_top (y ∷ ys) = ys

-- a migration has collected its pages
abbrev pub set_up_view : Bool → View
set_up_view to_device = record { to_device = to_device; source = []; stayed = []; freed = [] }

-- a frame was freed
abbrev pub freed_view : TraceFrame → View → View
freed_view f y = record y { freed = f ∷ y.freed }

-- what an event of the thread makes of them
abbrev pub view_next : List View → Event → List View
view_next vs (Event.Setup p r to_device d) = set_up_view to_device ∷ vs
view_next vs (Event.From v f w) = with_top (λ y. record y { source = (v, w) ∷ y.source }) vs
view_next vs (Event.Stayed v f) = with_top (λ y. record y { stayed = (v, f) ∷ y.stayed }) vs
view_next vs (Event.Finalize p) = without_top vs
view_next vs (Event.Free f) = map (freed_view f) vs
view_next vs x = vs

-- and its events, one by one
abbrev pub views_after : List View → List Event → List View
views_after vs xs = fold view_next vs xs

-- ---- the inner one

top_view : (f : Move → Move) (g : View → View) → ((y : Move) → view (f y) ≡ g (view y)) → (ys : List Move)
    → map view (with_move f ys) ≡ with_top g (map view ys)
top_view f g h [] = refl
top_view f g h (y ∷ ys) = ap (λ v. v ∷ map view ys) (h y)

same_view : (f : Move → Move) → ((y : Move) → view (f y) ≡ view y) → (ys : List Move)
    → map view (with_move f ys) ≡ map view ys
same_view f h [] = refl
same_view f h (y ∷ ys) = ap (λ v. v ∷ map view ys) (h y)

outer_view : (ys : List Move) → map view (outer ys) ≡ without_top (map view ys)
outer_view [] = refl
outer_view (y ∷ ys) = refl

freed_views : (f : TraceFrame) (ys : List Move) → map view (map (freed f) ys) ≡ map (freed_view f) (map view ys)
freed_views f [] = refl
freed_views f (y ∷ ys) = ap (λ vs. freed_view f (view y) ∷ vs) (freed_views f ys)

moving_here : (k : Known) (a : ℕ) (f : Move → Move) (vs : List View) → map view (with_move f (k.moves a)) ≡ vs
    → views (moving k a f) a ≡ vs
moving_here k a f vs h = ap (map view) (here_at k.moves a (with_move f (k.moves a))) ∙ h

-- ---- a `Set`

set_here : (k : Known) (a m v : ℕ) (w : TableRight) → views (set_by k a m v w) a ≡ views k a
set_here k a m v w = by_bool (is_look_up k a v w) (is_sole w)
  where
    by_bool : (b d : Bool)
        → views (if b then commit k a m else if d then k else moving k a (λ y. record y { set = v ∷ y.set })) a ≡ views
        k a
    by_bool true d = refl
    by_bool false true = refl
    by_bool false false = moving_here k a (λ y. record y { set = v ∷ y.set }) (views k a)
        (same_view (λ y. record y { set = v ∷ y.set }) (λ y. refl) (k.moves a))

-- ---- an event

pub view_here : (k : Known) (a : ℕ) (x : Event) → views (known_next k (by a x)) a ≡ view_next (views k a) x
view_here k a (Event.Setup p r to_device d) = ap (map view) (here_at k.moves a (record {
  at = k.at;
  span = r;
  to_device = to_device;
  source = [];
  moved = [];
  stayed = [];
  paged = false;
  set = [];
  freed = [];
} ∷ k.moves a))
view_here k a (Event.From v f w) = moving_here k a (λ y. record y { source = (v, w) ∷ y.source }) _
    (top_view (λ y. record y { source = (v, w) ∷ y.source }) (λ y. record y { source = (v, w) ∷ y.source }) (λ y. refl)
    (k.moves a))
view_here k a (Event.Moved v f) = moving_here k a (λ y. record y { moved = v ∷ y.moved }) (views k a)
    (same_view (λ y. record y { moved = v ∷ y.moved }) (λ y. refl) (k.moves a))
view_here k a (Event.Stayed v f) = moving_here k a (λ y. record y { stayed = (v, f) ∷ y.stayed }) _
    (top_view (λ y. record y { stayed = (v, f) ∷ y.stayed }) (λ y. record y { stayed = (v, f) ∷ y.stayed }) (λ y. refl)
    (k.moves a))
view_here k a (Event.Paged p) = moving_here k a (λ y. record y { paged = true }) (views k a)
    (same_view (λ y. record y { paged = true }) (λ y. refl) (k.moves a))
view_here k a (Event.Finalize p) = ap (map view) (here_at k.moves a (outer (k.moves a))) ∙ outer_view (k.moves a)
view_here k a (Event.Free f) =
    ap (map view) (here_at k.moves a (map (freed f) (k.moves a))) ∙ freed_views f (k.moves a)
view_here k a (Event.Set m v f w) = set_here (record k {
  slots = record { mirror = m; page = v; right = w; at = k.at } ∷ drop_if (is_slot m v) k.slots;
  calls = map (after_set m v) k.calls;
}) a m v w
view_here k a (Event.End p r) = at_end (λ k. views k a) (λ k us xs. refl) k a p r
view_here k a (Event.Told m q true) = refl
view_here k a (Event.Told m q false) = at_refused (λ k. views k a) (λ k us xs. refl) k a m q
view_here k a (Event.Take f) = held_keeps (λ k. views k a) (λ k fs. refl) k f (device_of f)
view_here k a (Event.Pass f) = pass_keeps (λ k. views k a) (λ k p. refl) k (device_of f)
view_here k a x = refl

pub view_there : (k : Known) (a b : ℕ) (x : Event) → (b ≡ a → ⊥) → views (known_next k (by a x)) b ≡ views k b
view_there k a b x ne = ap (map view) (moves_else k a x b ne)

-- ---- events that break no rule of what is seen of migrations

-- none of these events is wrong
abbrev pub CalmAt : (List View → Event → Bool) → List View → List Event → Type 0
CalmAt wrong vs [] = ⊤
CalmAt wrong vs (x ∷ xs) = (wrong vs x ≡ false) × CalmAt wrong (view_next vs x) xs

-- what is wrong by a test is wrong by what is seen of migrations
abbrev pub Seen_wrong : (Known → Traced → Bool) → (List View → Event → Bool) → Type 0
Seen_wrong test wrong = (k : Known) (a : ℕ) (x : Event) → wrong (views k a) x ≡ false → test k (by a x) ≡ false

-- after the events the thread's migrations are so, and those of others as before
pub record Went (k l : Known) (a : ℕ) (vs : List View) : Type 0 where
  pub here : views l a ≡ vs
  pub there : (b : ℕ) → (b ≡ a → ⊥) → views l b ≡ views k b

pub went : (test : Known → Traced → Bool) (wrong : List View → Event → Bool) → Seen_wrong test wrong → (a : ℕ)
    (xs : List Event) (k : Known) (vs : List View) → views k a ≡ vs → CalmAt wrong vs xs
    → GoBy test k (by_thread a xs) (λ l. Went k l a (views_after vs xs))
went test wrong says a [] k vs e calm = (tt, record { here = e; there = λ b ne. refl })
went test wrong says a (x ∷ xs) k vs e calm = let l : Known = known_next k (by a x) in
    let more : GoBy test l (by_thread a xs) (λ m. Went l m a (views_after (view_next vs x) xs)) =
    went test wrong says a xs l (view_next vs x) (view_here k a x ∙ ap (λ vs. view_next vs x) e) calm.1 in
    let last : Went k (fold known_next l (by_thread a xs)) a (views_after (view_next vs x) xs) = record {
      here = more.1.here;
      there = λ b ne. more.1.there b ne ∙ view_there k a b x ne;
    } in
    ((says k a x (ap (λ vs. wrong vs x) e ∙ calm.0), more.0), last)

-- ---- the rules `set-moved` and `drop-lost`

-- the page stayed
abbrev pub stays_in : List View → ℕ → Bool
stays_in [] v = false
stays_in (y ∷ ys) v = list_any (λ u. u.0 == v) y.stayed

-- a migration to a device keeps the frame of a page that stayed
abbrev pub keeps_one : List View → Bool
keeps_one [] = false
keeps_one (y ∷ ys) = y.to_device && list_any (λ x. is_kept_back y.freed x.1) y.stayed

abbrev pub move_wrong : List View → Event → Bool
move_wrong vs (Event.Set m v f w) = not (is_sole w) && stays_in vs v
move_wrong vs (Event.Finalize p) = keeps_one vs
move_wrong vs x = false

-- the two tests
abbrev pub moves_badly : Known → Traced → Bool
moves_badly k s = set_moved k s || drop_lost k s

none_set : (ys : List Move) (v : ℕ) (w : TableRight) → (not (is_sole w) && stays_in (map view ys) v) ≡ false
    → (is_migrated_set ys (λ y. list_any (λ u. u.0 == v) y.stayed) v w || false) ≡ false
none_set [] v w h = refl
none_set (y ∷ ys) v w h = by_bool (not (is_sole w)) _ (list_any (λ u. u.0 == v) y.stayed) h
  where
    by_bool : (b d e : Bool) → (b && e) ≡ false → ((b && (d && e)) || false) ≡ false
    by_bool false d e h = refl
    by_bool true false e h = refl
    by_bool true true false h = refl
    by_bool true true true h = h

none_kept : (k : Known) (a : ℕ) (ys : List Move) → k.moves a ≡ ys → keeps_one (map view ys) ≡ false
    → drop_lost k (by a (Event.Finalize 0)) ≡ false
none_kept k a [] e h = ap (λ ys. drop_lost (record k { moves = λ b. ys }) (by a (Event.Finalize 0))) e
none_kept k a (y ∷ ys) e h = ap (λ ys. drop_lost (record k { moves = λ b. ys }) (by a (Event.Finalize 0))) e ∙ h

pub moves_so : Seen_wrong moves_badly move_wrong
moves_so k a (Event.Set m v f w) h = none_set (k.moves a) v w h
moves_so k a (Event.Finalize p) h = none_kept k a (k.moves a) refl h
moves_so k a x h = refl
