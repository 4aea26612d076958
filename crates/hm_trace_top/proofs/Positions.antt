-- Each position that is known after some events is that of one of them.
use Rattle.std.proofs.Common.{◌≡◌, ℕ, ◌+◌, ◌<◌, ◌==◌, Bool, true, false, ◌&&◌, ◌||◌, not, cond, Option, Some, None, is_none, List, [], ◌∷◌, ◌++◌, length, map, subst, arith}
use Rattle.std.specs.Prelude.{count_by, filter, find, fold, if◌then◌else◌, is_some, nat_lt, option_map}
use Rattle.std.specs.List.{list_any}
use Rattle.hm_base.specs.Pages.{overlap}
use Rattle.hm_history.specs.Memory.Words.{with_at}
use Rattle.hm_history.specs.declared.TableRight.{TableRight}
use Rattle.hm_protocol.specs.declared.events.Event.{Event}
use Rattle.hm_protocol.specs.declared.events.TraceFrame.{TraceFrame}
use Rattle.hm_protocol.specs.declared.events.Traced.{Traced}
use Rattle.hm_protocol.specs.Words.{device_of, drop_if, is_empty, is_it, is_sole}
use Rattle.hm_protocol.specs.Known.{Call, Early, Known, Look, Move, goes_on, is_current, is_early, is_look_up, is_own, is_slot, known_start, meets}
use Rattle.hm_protocol.specs.Noted.{after_end, after_erase, after_paged, after_set, began, begun_last, call, commit, held_more, is_last, is_walked, known, known_next, lost_one, moving, noted, over, paged, pass_over, returned, set_by, too_early}

-- ---- lists of what was at some position

-- all of these were before that position
abbrev Are : {X : Type 0} → (X → ℕ) → ℕ → List X → Type 0
Are at n [] = Unit {0}
Are at n (x ∷ xs) = (at x < n) × Are at n xs

are_map : {X : Type 0} (at : X → ℕ) (n : ℕ) (f : X → X) → ((x : X) → at x < n → at (f x) < n) → (xs : List X) → Are at n xs → Are at n (map f xs)
are_map at n f keeps [] h = tt
are_map at n f keeps (x ∷ xs) h = (keeps x h.0, are_map at n f keeps xs h.1)

are_append : {X : Type 0} (at : X → ℕ) (n : ℕ) (xs ys : List X) → Are at n xs → Are at n ys → Are at n (xs ++ ys)
are_append at n [] ys h k = k
are_append at n (x ∷ xs) ys h k = (h.0, are_append at n xs ys h.1 k)

one_kept : {X : Type 0} (at : X → ℕ) (n : ℕ) (b : Bool) (x : X) (xs : List X) → at x < n → Are at n xs → Are at n (cond b (x ∷ xs) xs)
one_kept at n true x xs h g = (h, g)
one_kept at n false x xs h g = g

are_filter : {X : Type 0} (at : X → ℕ) (n : ℕ) (test : X → Bool) (xs : List X) → Are at n xs → Are at n (filter test xs)
are_filter at n test [] h = tt
are_filter at n test (x ∷ xs) h = one_kept at n (test x) x (filter test xs) h.0 (are_filter at n test xs h.1)

are_more : {X : Type 0} (at : X → ℕ) (n : ℕ) (xs : List X) → Are at n xs → Are at (n + 1) xs
are_more at n [] h = tt
are_more at n (x ∷ xs) h = (omega (arith, h.0), are_more at n xs h.1)

one_found : {X : Type 0} (at : X → ℕ) (n : ℕ) (b : Bool) (x : X) (o : Option X) (i : ℕ) → at x < n → (option_map at o ≡ Some i → i < n) → option_map at (cond b (Some x) o) ≡ Some i → i < n
one_found at n true x o i h g e = let same : at x ≡ i = cc in subst (λ k. k < n) same h
one_found at n false x o i h g e = g e

pub are_found : {X : Type 0} (at : X → ℕ) (n : ℕ) (test : X → Bool) (xs : List X) (i : ℕ) → Are at n xs → option_map at (find test xs) ≡ Some i → i < n
are_found at n test [] i h e = absurd (let no : None ≡ Some i = e in cc)
are_found at n test (x ∷ xs) i h e = one_found at n (test x) x (find test xs) i h.0 (are_found at n test xs i h.1) e

-- ---- what is known

-- all that is known was before that position
pub record Past (k : Known) (n : ℕ) : Type 0 where
  pub calls : Are (λ (x : Call). x.at) n k.calls
  pub early : Are (λ (x : Early). x.at) n k.early
  pub stale : Are (λ (x : ℕ × Bool). x.0) n k.stale

abbrev call_at : Call → ℕ
call_at x = x.at

abbrev early_at : Early → ℕ
early_at x = x.at

abbrev stale_at : ℕ × Bool → ℕ
stale_at x = x.0

-- ---- callbacks

-- a callback is one of two, which were before that position
one_below : (n : ℕ) (b : Bool) (x y : Call) → call_at x < n → call_at y < n → call_at (if b then x else y) < n
one_below n true x y h g = h
one_below n false x y h g = g

end_below : (n i j : ℕ) (x : Call) → call_at x < n → call_at (after_end i j x) < n
end_below n i j x h = one_below n (is_it x.of i) (record x { ended = Some j }) x h h

lost_below : (n : ℕ) (k : Known) (t : ℕ) (x : Call) → call_at x < n → call_at (lost_one k t x) < n
lost_below n k t x h =
    let late : Call = record x { late = x.late + 1 } in
    let copied : Call = record x { copied = x.copied + 1 } in
    let fifth : Call = if list_any (λ y. nat_lt x.at y.at) (k.moves t) then copied else late in
    let fourth : Call = if is_some x.stale || not (x.thread == t) then x else fifth in
    let third : Call = if not (is_own k x) then late else fourth in
    let second : Call = if list_any (λ y. (y.thread == t) && is_none y.after) k.calls then x else third in
    one_below n (is_none x.after) (record x { erased = x.erased || (x.thread == t) }) second h
    (one_below n (list_any (λ y. (y.thread == t) && is_none y.after) k.calls) x third h
    (one_below n (not (is_own k x)) late fourth h
    (one_below n (is_some x.stale || not (x.thread == t)) x fifth h
    (one_below n (list_any (λ y. nat_lt x.at y.at) (k.moves t)) copied late h h))))

erase_below : (n : ℕ) (k : Known) (t m v : ℕ) (x : Call) → call_at x < n → call_at (after_erase k t m v x) < n
erase_below n k t m v x h =
    let left : Call = record x { here = drop_if (is_slot m v) x.here } in
    one_below n (list_any (is_slot m v) x.here) (lost_one k t left) x (lost_below n k t left h) h

paged_below : (n : ℕ) (k : Known) (t : ℕ) (y : Move) (x : Call) → call_at x < n → call_at (after_paged k t y x) < n
paged_below n k t y x h = one_below n
    ((x.thread == t) && (is_own k x && (is_none x.stale && (nat_lt x.at y.at && overlap y.span x.span))))
    (record x { stale = Some (filter (λ s. list_any (λ u. u.0 == s.page) y.source) x.here, y.to_device) }) x h h

returned_below : (n : ℕ) (k : Known) (t m q : ℕ) (x : Call) → k.at < n → call_at x < n → call_at (returned k t m q x) < n
returned_below n k t m q x b h = one_below n (is_current t m x) (record x {
  at = k.at;
  after = Some q;
  left = x.here;
  alone = count_by (λ y. (y.mirror == m) && (y.seq == x.seq)) k.calls == 1;
  stale = if list_any (λ y. not y.paged && overlap y.span x.span) (k.moves t) then Some ([], false) else None;
}) x b h

all_paged : (n : ℕ) (k : Known) (t : ℕ) (ys : List Move) → Are call_at n k.calls → Are call_at n (paged k t ys)
all_paged n k t [] h = h
all_paged n k t (y ∷ ys) h = are_map call_at n (after_paged k t y) (paged_below n k t y) k.calls h

-- ---- look-ups

early_below : (n : ℕ) (b : Bool) (x y : Early) → early_at x < n → early_at y < n → early_at (if b then x else y) < n
early_below n true x y h g = h
early_below n false x y h g = g

begun_below : (n t m : ℕ) (l : Look) (xs : List Early) → Are early_at n xs → Are early_at n (begun_last t m l xs)
begun_below n t m l xs h = by (is_walked l.stage && l.itself)
  where
    by : (b : Bool) → Are early_at n (if b then drop_if (is_last t m) xs else map (λ x. if is_last t m x then record x { last = false } else x) xs)
    by true = are_filter early_at n (λ x. not (is_last t m x)) xs h
    by false = are_map early_at n (λ x. if is_last t m x then record x { last = false } else x) (λ x g. early_below n (is_last t m x) (record x { last = false }) x g g) xs h

new_below : (n : ℕ) (k : Known) (t m q : ℕ) (walks : Bool) → k.at < n → Are early_at n (too_early k t m q walks)
new_below n k t m q walks b = by (is_early k m q)
  where
    by : (c : Bool) → Are early_at n (if c then record { thread = t; mirror = m; last = walks; at = k.at } ∷ [] else [])
    by true = (b, tt)
    by false = tt

-- ---- what has cases

over_past : (n : ℕ) (k : Known) (t : ℕ) (o : Option ℕ) → Past k n → Past (over k t o) n
over_past n k t None p = p
over_past n k t (Some i) p = record { calls = are_map call_at n (after_end i k.at) (end_below n i k.at) k.calls p.calls; early = p.early; stale = p.stale }

either_past : (n : ℕ) (b : Bool) (k u : Known) → Past k n → Past u n → Past (if b then k else u) n
either_past n true k u p q = p
either_past n false k u p q = q

commit_past : (n : ℕ) (k : Known) (t m : ℕ) → k.at < n → Past k n → Past (commit k t m) n
commit_past n k t m b p = record { calls = p.calls; early = p.early; stale = by (is_empty (filter (meets (k.looks t m) m) k.calls)) }
  where
    by : (c : Bool) → Are stale_at n (if c then k.stale else k.stale ++ (k.at, list_any goes_on (filter (meets (k.looks t m) m) k.calls)) ∷ [])
    by true = p.stale
    by false = are_append stale_at n k.stale _ p.stale (b, tt)

set_past : (n : ℕ) (k : Known) (t m v : ℕ) (w : TableRight) → k.at < n → Past k n → Past (set_by k t m v w) n
set_past n k t m v w b p =
    let moved : Known = moving k t (λ y. record y { set = v ∷ y.set }) in
    either_past n (is_look_up k t v w) (commit k t m) (if is_sole w then k else moved) (commit_past n k t m b p)
    (either_past n (is_sole w) k moved p (record { calls = p.calls; early = p.early; stale = p.stale }))

held_past : (n : ℕ) (k : Known) (f : TraceFrame) (o : Option ℕ) → Past k n → Past (held_more k f o) n
held_past n k f None p = p
held_past n k f (Some d) p = either_past n (k.withdrawn d) k (record k { held = f ∷ k.held }) p (record { calls = p.calls; early = p.early; stale = p.stale })

pass_past : (n : ℕ) (k : Known) (o : Option ℕ) → Past k n → Past (pass_over k o) n
pass_past n k None p = p
pass_past n k (Some d) p = either_past n (k.withdrawn d) (record k { passed = with_at k.passed d true }) k (record { calls = p.calls; early = p.early; stale = p.stale }) p

-- ---- an event more

noted_past : (n : ℕ) (k : Known) (t : ℕ) (e : Event) → k.at < n → Past k n → Past (noted k t e) n
noted_past n k t (Event.End p r) b h = over_past n k t _ h
noted_past n k t (Event.Tell m r q) b h = record { calls = are_append call_at n k.calls (call k t m r q ∷ []) h.calls (b, tt); early = h.early; stale = h.stale }
noted_past n k t (Event.Told m q true) b h = record { calls = are_map call_at n (returned k t m q) (λ x g. returned_below n k t m q x b g) k.calls h.calls; early = h.early; stale = h.stale }
noted_past n k t (Event.Told m q false) b h = over_past n (record k { calls = drop_if (is_current t m) k.calls }) t (began (find (is_current t m) k.calls))
    (record { calls = are_filter call_at n (λ x. not (is_current t m x)) k.calls h.calls; early = h.early; stale = h.stale })
noted_past n k t (Event.Begin m q) b h = record {
  calls = h.calls;
  early = are_append early_at n _ (too_early k t m q false) (begun_below n t m (k.looks t m) k.early h.early) (new_below n k t m q false b);
  stale = h.stale;
}
noted_past n k t (Event.Walk m r q locked d) b h = record {
  calls = h.calls;
  early = are_append early_at n k.early (too_early k t m q true) h.early (new_below n k t m q true b);
  stale = h.stale;
}
noted_past n k t (Event.Paged p) b h = record { calls = all_paged n k t (k.moves t) h.calls; early = h.early; stale = h.stale }
noted_past n k t (Event.Set m v f w) b h = set_past n (record k {
  slots = record { mirror = m; page = v; right = w; at = k.at } ∷ drop_if (is_slot m v) k.slots;
  calls = map (after_set m v) k.calls;
}) t m v w b (record { calls = are_map call_at n (after_set m v) (λ x g. g) k.calls h.calls; early = h.early; stale = h.stale })
noted_past n k t (Event.Erase m v) b h = record { calls = are_map call_at n (after_erase k t m v) (erase_below n k t m v) k.calls h.calls; early = h.early; stale = h.stale }
noted_past n k t (Event.Take f) b h = held_past n k f (device_of f) h
noted_past n k t (Event.Pass f) b h = pass_past n k (device_of f) h
noted_past n k t x b h = record { calls = h.calls; early = h.early; stale = h.stale }

more_past : (n : ℕ) (k : Known) → Past k n → Past k (n + 1)
more_past n k p = record { calls = are_more call_at n k.calls p.calls; early = are_more early_at n k.early p.early; stale = are_more stale_at n k.stale p.stale }

next_past : (k : Known) (s : Traced) → Past k k.at → Past (known_next k s) (k.at + 1)
next_past k s p =
    let here : k.at < k.at + 1 = omega arith in
    let q : Past (noted k s.thread s.event) (k.at + 1) = noted_past (k.at + 1) k s.thread s.event here (more_past k.at k p) in
    record { calls = q.calls; early = q.early; stale = q.stale }

all_past : (es : List Traced) (k : Known) (n : ℕ) → n ≡ k.at + length es → Past k k.at → Past (fold known_next k es) n
all_past [] k n e p = let same : k.at ≡ n = omega arith in subst (Past k) same p
all_past (s ∷ es) k n e p = all_past es (known_next k s) n (omega arith) (next_past k s p)

-- all that is known after these events was at one of them
pub known_past : (es : List Traced) → Past (known es) (length es)
known_past es = all_past es known_start (length es) (omega arith) (record { calls = tt; early = tt; stale = tt })
