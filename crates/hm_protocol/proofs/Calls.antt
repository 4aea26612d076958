-- What is known of callbacks, and which events leave it.
use Rattle.std.proofs.Common.{refl, ap, subst, ◌∙◌, cond}
use Rattle.std.proofs.lemmas.Bool.{true≢false, and_parts, eqb-true}
use Rattle.std.specs.Prelude.{◌≡◌, ℕ, ◌+◌, Bool, true, false, not, ◌&&◌, ◌||◌, ◌==◌, nat_lt, if◌then◌else◌, Option, Some, None, is_some}
use Rattle.std.specs.Prelude.{is_none, ⊤, List, [], ◌∷◌, ◌++◌, map, filter}
use Rattle.std.specs.List.{list_any}
use Rattle.hm_base.specs.Pages.{overlap}
use Rattle.hm_history.specs.Memory.Sequences.{Sequences, Guarded}
use Rattle.hm_protocol.specs.declared.events.Event.{Event}
use Rattle.hm_protocol.specs.Words.{device_of, drop_if}
use Rattle.hm_protocol.specs.Known.{Inside, Call, Move, Early, Known, goes_on, is_telling, is_own, is_slot}
use Rattle.hm_protocol.specs.Noted.{noted, after_erase, lost_one, after_set, after_paged, paged}
use Rattle.hm_protocol.proofs.Fields.{set_keeps, held_keeps, pass_keeps}
use Rattle.hm_protocol.proofs.Tellings.{Tells}

-- a callback without what became of entries
pub record Core : Type 0 where
  pub thread : ℕ
  pub mirror : ℕ
  pub seq : ℕ
  pub of : Option ℕ
  pub ended : Option ℕ
  pub at : ℕ
  pub after : Option ℕ

-- that of a callback
abbrev pub core : Call → Core
core x = record { thread = x.thread; mirror = x.mirror; seq = x.seq; of = x.of; ended = x.ended; at = x.at; after = x.after }

-- those of what is known
abbrev pub cores : Known → List Core
cores k = map core k.calls

pub mapped : (f : Call → Call) → ((x : Call) → core (f x) ≡ core x) → (xs : List Call) → map core (map f xs) ≡ map core xs
mapped f h [] = refl
mapped f h (x ∷ xs) = ap (λ c. c ∷ map core (map f xs)) (h x) ∙ ap (λ cs. core x ∷ cs) (mapped f h xs)

one_core : (b : Bool) (x y z : Call) → core x ≡ core z → core y ≡ core z → core (if b then x else y) ≡ core z
one_core true x y z h g = h
one_core false x y z h g = g

lost_core : (k : Known) (t : ℕ) (x : Call) → core (lost_one k t x) ≡ core x
lost_core k t x =
    let late : Call = record x { late = x.late + 1 } in
    let copied : Call = record x { copied = x.copied + 1 } in
    let fifth : Call = if list_any (λ y. nat_lt x.at y.at) (k.moves t) then copied else late in
    let fourth : Call = if is_some x.stale || not (x.thread == t) then x else fifth in
    let third : Call = if not (is_own k x) then late else fourth in
    let second : Call = if list_any (λ y. (y.thread == t) && is_none y.after) k.calls then x else third in
    one_core (is_none x.after) (record x { erased = x.erased || (x.thread == t) }) second x refl
    (one_core (list_any (λ y. (y.thread == t) && is_none y.after) k.calls) x third x refl
    (one_core (not (is_own k x)) late fourth x refl
    (one_core (is_some x.stale || not (x.thread == t)) x fifth x refl
    (one_core (list_any (λ y. nat_lt x.at y.at) (k.moves t)) copied late x refl refl))))

pub erase_core : (k : Known) (t m v : ℕ) (x : Call) → core (after_erase k t m v x) ≡ core x
erase_core k t m v x = one_core (list_any (is_slot m v) x.here) (lost_one k t (record x { here = drop_if (is_slot m v) x.here })) x x
    (lost_core k t (record x { here = drop_if (is_slot m v) x.here })) refl

paged_core : (k : Known) (t : ℕ) (y : Move) (x : Call) → core (after_paged k t y x) ≡ core x
paged_core k t y x = one_core
    ((x.thread == t) && (is_own k x && (is_none x.stale && (nat_lt x.at y.at && overlap y.span x.span))))
    (record x { stale = Some (filter (λ s. list_any (λ u. u.0 == s.page) y.source) x.here, y.to_device) }) x x refl refl

paged_cores : (k : Known) (t : ℕ) (ys : List Move) → map core (paged k t ys) ≡ map core k.calls
paged_cores k t [] = refl
paged_cores k t (y ∷ ys) = mapped (after_paged k t y) (paged_core k t y) k.calls

-- the event is of an invalidation or a callback
abbrev pub tells : Event → Bool
tells (Event.Start p r why d) = true
tells (Event.End p r) = true
tells (Event.Tell m r q) = true
tells (Event.Told m q done) = true
tells x = false

-- another event leaves callbacks
pub cores_keep : (k : Known) (a : ℕ) (x : Event) → tells x ≡ false → cores (noted k a x) ≡ cores k
cores_keep k a (Event.Start p r why d) h = absurd (true≢false h)
cores_keep k a (Event.End p r) h = absurd (true≢false h)
cores_keep k a (Event.Tell m r q) h = absurd (true≢false h)
cores_keep k a (Event.Told m q true) h = absurd (true≢false h)
cores_keep k a (Event.Told m q false) h = absurd (true≢false h)
cores_keep k a (Event.Set m v f w) h = set_keeps cores (λ k t m. refl) (λ k t f. refl) (record k {
  slots = record { mirror = m; page = v; right = w; at = k.at } ∷ drop_if (is_slot m v) k.slots;
  calls = map (after_set m v) k.calls;
}) a m v w ∙ mapped (after_set m v) (λ x. refl) k.calls
cores_keep k a (Event.Erase m v) h = mapped (after_erase k a m v) (erase_core k a m v) k.calls
cores_keep k a (Event.Paged p) h = paged_cores k a (k.moves a)
cores_keep k a (Event.Take f) h = held_keeps cores (λ k fs. refl) k f (device_of f)
cores_keep k a (Event.Pass f) h = pass_keeps cores (λ k p. refl) k (device_of f)
cores_keep k a x h = refl

-- nor does it change which invalidations are under way
pub under_keeps : (k : Known) (a : ℕ) (x : Event) → tells x ≡ false → (noted k a x).under ≡ k.under
under_keeps k a (Event.Start p r why d) h = absurd (true≢false h)
under_keeps k a (Event.End p r) h = absurd (true≢false h)
under_keeps k a (Event.Tell m r q) h = absurd (true≢false h)
under_keeps k a (Event.Told m q true) h = absurd (true≢false h)
under_keeps k a (Event.Told m q false) h = absurd (true≢false h)
under_keeps k a (Event.Set m v f w) h = set_keeps (λ k. k.under) (λ k t m. refl) (λ k t f. refl) (record k {
  slots = record { mirror = m; page = v; right = w; at = k.at } ∷ drop_if (is_slot m v) k.slots;
  calls = map (after_set m v) k.calls;
}) a m v w
under_keeps k a (Event.Take f) h = held_keeps (λ k. k.under) (λ k fs. refl) k f (device_of f)
under_keeps k a (Event.Pass f) h = pass_keeps (λ k. k.under) (λ k p. refl) k (device_of f)
under_keeps k a x h = refl

-- ---- what holds of callbacks

-- its invalidation is under way
abbrev pub core_goes : Core → Bool
core_goes c = is_some c.of && is_none c.ended

-- a callback under way, in the thread's one invalidation
pub record Going (s : Sequences) (under : ℕ → List Inside) (c : Core) : Type 0 where
  pub tells : Tells s c.thread c.mirror c.seq
  pub inside : Inside
  pub is_inside : under c.thread ≡ inside ∷ []
  pub is_of : c.of ≡ Some inside.at

-- a callback has returned with its own sequence, and stands while its invalidation goes on
abbrev pub CallOk : Sequences → (ℕ → List Inside) → Core → Type 0
CallOk s under c = (c.after ≡ Some c.seq) × (core_goes c ≡ true → Going s under c)

-- so each of them does
abbrev pub AllCalls : Sequences → (ℕ → List Inside) → List Core → Type 0
AllCalls s under [] = ⊤
AllCalls s under (c ∷ cs) = CallOk s under c × AllCalls s under cs

-- a thread's guard is known
abbrev pub GuardKnown : Option Guarded → List Inside → Type 0
GuardKnown None us = us ≡ []
GuardKnown (Some g) us = (y : Inside) × ((us ≡ y ∷ []) × ((y.proc ≡ g.proc) × (y.span ≡ g.span)))

-- no commit was made while an invalidation that it met was under way
abbrev pub AllPast : List (ℕ × Bool) → Type 0
AllPast [] = ⊤
AllPast (x ∷ xs) = (x.1 ≡ false) × AllPast xs

-- what is known of guards, callbacks, early look-ups and stale commits
pub record Knows (s : Sequences) (under : ℕ → List Inside) (cs : List Core) (early : List Early)
    (stale : List (ℕ × Bool)) : Type 0 where
  pub guards : (t : ℕ) → GuardKnown (s.guard t) (under t)
  pub calls : AllCalls s under cs
  pub none_early : early ≡ []
  pub past : AllPast stale

-- the same of what is known
abbrev pub KnowsCalls : Sequences → Known → Type 0
KnowsCalls s k = Knows s k.under (cores k) k.early k.stale

pub all_calls : (s u : Sequences) (f g : ℕ → List Inside) → ((c : Core) → CallOk s f c → CallOk u g c) → (cs : List Core)
    → AllCalls s f cs → AllCalls u g cs
all_calls s u f g h [] l = tt
all_calls s u f g h (c ∷ cs) l = (h c l.0, all_calls s u f g h cs l.1)

-- no callback passes a test that none of these passes
pub none_such : (s : Sequences) (under : ℕ → List Inside) (f : Call → Bool)
    → ((x : Call) → CallOk s under (core x) → f x ≡ true → ⊥) → (xs : List Call) → AllCalls s under (map core xs)
    → list_any f xs ≡ false
none_such s under f h [] l = refl
none_such s under f h (x ∷ xs) l = by_bool (f x) refl (none_such s under f h xs l.1)
  where
    by_bool : (b : Bool) → f x ≡ b → list_any f xs ≡ false → (b || list_any f xs) ≡ false
    by_bool true e g = absurd (h x l.0 e)
    by_bool false e g = g

-- nor one of those that are left by another test
pub none_left : (s : Sequences) (under : ℕ → List Inside) (f g : Call → Bool)
    → ((x : Call) → CallOk s under (core x) → f x ≡ true → g x ≡ true → ⊥) → (xs : List Call) → AllCalls s under (map core xs)
    → list_any g (filter f xs) ≡ false
none_left s under f g h [] l = refl
none_left s under f g h (x ∷ xs) l = by_bool (f x) (g x) refl refl (none_left s under f g h xs l.1)
  where
    by_bool : (b d : Bool) → f x ≡ b → g x ≡ d → list_any g (filter f xs) ≡ false
        → list_any g (cond b (x ∷ filter f xs) (filter f xs)) ≡ false
    by_bool false d e q r = r
    by_bool true true e q r = absurd (h x l.0 e q)
    by_bool true false e q r = ap (λ b. b || list_any g (filter f xs)) q ∙ r

-- a callback that has returned in this mirror, and whose invalidation is under way
pub telling_says : (s : Sequences) (under : ℕ → List Inside) (m : ℕ) (x : Call) → CallOk s under (core x) → is_telling m x ≡ true
    → Tells s x.thread m x.seq
telling_says s under m x h e = let p : ((x.mirror == m) ≡ true) × ((goes_on x && is_some x.after) ≡ true) =
    and_parts (x.mirror == m) (goes_on x && is_some x.after) e in
    subst (λ m. Tells s x.thread m x.seq) (eqb-true x.mirror m p.0) (h.1 (and_parts (goes_on x) (is_some x.after) p.1).0).tells

pub all_past : (xs ys : List (ℕ × Bool)) → AllPast xs → AllPast ys → AllPast (xs ++ ys)
all_past [] ys h g = g
all_past (x ∷ xs) ys h g = (h.0, all_past xs ys h.1 g)
