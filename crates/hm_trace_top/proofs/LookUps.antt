-- Where a look-up began is where it is known to have begun.
use Rattle.std.proofs.Common.{◌≡◌, ℕ, ◌+◌, ◌==◌, Bool, true, false, ◌&&◌, ◌||◌, not, Option, Some, None, is_none, List, [], ◌∷◌, map, refl, sym, ap, ◌∙◌}
use Rattle.std.specs.Prelude.{find, fold, if◌then◌else◌}
use Rattle.std.proofs.lemmas.Bool.{eqb-true}
use Rattle.hm_history.specs.Memory.Words.{with_at}
use Rattle.hm_history.specs.declared.TableRight.{TableRight}
use Rattle.hm_protocol.specs.declared.events.Event.{Event}
use Rattle.hm_protocol.specs.declared.events.TraceFrame.{TraceFrame}
use Rattle.hm_protocol.specs.declared.events.Traced.{Traced}
use Rattle.hm_protocol.specs.Words.{device_of, drop_if, is_sole}
use Rattle.hm_protocol.specs.Known.{Known, Look, is_look_up, is_current, is_slot, known_start, no_look}
use Rattle.hm_protocol.specs.Noted.{after_set, began, commit, held_more, known_next, moving, noted, over, pass_over, set_by}
use Rattle.hm_trace_top.specs.Laws.{LookUpsAreKnown, begun_in}
use Rattle.hm_trace_top.specs.Origins.{begun_at, begun_by, begun_on, unbegun}
use Rattle.hm_trace_top.specs.declared.origins.Begun.{Begun}

-- ---- what changes no look-up

-- the same thread and mirror have the same look-up
same_look : (k : Known) (t m u n : ℕ) → (t == u) ≡ true → (m == n) ≡ true → k.looks u n ≡ k.looks t m
same_look k t m u n e f = sym (ap (λ x. k.looks x m) (eqb-true t u e) ∙ ap (k.looks u) (eqb-true m n f))

-- a look-up that has begun where it had begun
kept : (k : Known) (t m u n : ℕ) (l : Look) → begun_in l ≡ begun_in (k.looks u n) → begun_in (k.looks t m) ≡ begun_in (if (t == u) && (m == n) then l else k.looks t m)
kept k t m u n l same = by (t == u) (m == n) refl refl
  where
    by : (c d : Bool) → (t == u) ≡ c → (m == n) ≡ d → begun_in (k.looks t m) ≡ begun_in (if c && d then l else k.looks t m)
    by true true e f = ap begun_in (sym (same_look k t m u n e f)) ∙ sym same
    by true false e f = refl
    by false d e f = refl

over_same : (k : Known) (t m u : ℕ) (o : Option ℕ) → begun_in (k.looks t m) ≡ begun_in ((over k u o).looks t m)
over_same k t m u None = refl
over_same k t m u (Some i) = refl

either_same : (t m : ℕ) (c : Bool) (k u : Known) (b : Begun) → b ≡ begun_in (k.looks t m) → b ≡ begun_in (u.looks t m) → b ≡ begun_in ((if c then k else u).looks t m)
either_same t m true k u b e f = e
either_same t m false k u b e f = f

held_same : (k : Known) (t m : ℕ) (f : TraceFrame) (o : Option ℕ) → begun_in (k.looks t m) ≡ begun_in ((held_more k f o).looks t m)
held_same k t m f None = refl
held_same k t m f (Some d) = either_same t m (k.withdrawn d) k (record k { held = f ∷ k.held }) (begun_in (k.looks t m)) refl refl

pass_same : (k : Known) (t m : ℕ) (o : Option ℕ) → begun_in (k.looks t m) ≡ begun_in ((pass_over k o).looks t m)
pass_same k t m None = refl
pass_same k t m (Some d) = either_same t m (k.withdrawn d) (record k { passed = with_at k.passed d true }) k (begun_in (k.looks t m)) refl refl

set_same : (k : Known) (t m u n v : ℕ) (w : TableRight) → begun_in (k.looks t m) ≡ begun_in ((set_by k u n v w).looks t m)
set_same k t m u n v w =
    let moved : Known = moving k u (λ y. record y { set = v ∷ y.set }) in
    either_same t m (is_look_up k u v w) (commit k u n) (if is_sole w then k else moved) (begun_in (k.looks t m))
    (kept k t m u n (record (k.looks u n) { set = true }) refl)
    (either_same t m (is_sole w) k moved (begun_in (k.looks t m)) refl refl)

-- ---- what begins one

begins : (c : Bool) (b : Begun) (l x : Look) → begun_in l ≡ b → (if c then b else begun_in x) ≡ begun_in (if c then l else x)
begins true b l x e = sym e
begins false b l x e = refl

another : (c : Bool) (l : Look) → (if c then unbegun else begun_in l) ≡ begun_in (if c then no_look else l)
another true l = refl
another false l = refl

-- the walk has a sequence of its own
abbrev itself : ℕ → Look → Bool
itself q l = is_none l.begun || not (q == l.seq)

-- what has begun after it
abbrev walked_by : ℕ → ℕ → Bool → Look → Begun
walked_by i q c l = record { at = if c then Some i else l.begun; seq = q }

not_itself : (x y : Bool) → (x || not y) ≡ false → y ≡ true
not_itself true y e = absurd (let no : true ≡ false = e in cc)
not_itself false true e = refl
not_itself false false e = absurd (let no : true ≡ false = e in cc)

own_walk : (i q : ℕ) (l : Look) → (if itself q l then begun_at i q else begun_in l) ≡ walked_by i q (itself q l) l
own_walk i q l = by (itself q l) refl
  where
    with_seq : ℕ → Begun
    with_seq x = record { at = l.begun; seq = x }

    by : (c : Bool) → itself q l ≡ c → (if c then begun_at i q else begun_in l) ≡ walked_by i q c l
    by true e = refl
    by false e = ap with_seq (sym (eqb-true q l.seq (not_itself (is_none l.begun) (q == l.seq) e)))

walks : (k : Known) (t m u n q : ℕ) (l : Look) → begun_in l ≡ walked_by k.at q (itself q (k.looks u n)) (k.looks u n)
    → (if (t == u) && ((m == n) && itself q (k.looks t m)) then begun_at k.at q else begun_in (k.looks t m)) ≡ begun_in (if (t == u) && (m == n) then l else k.looks t m)
walks k t m u n q l is = by (t == u) (m == n) refl refl
  where
    of_look : Look → Begun
    of_look x = walked_by k.at q (itself q x) x

    by : (c d : Bool) → (t == u) ≡ c → (m == n) ≡ d → (if c && (d && itself q (k.looks t m)) then begun_at k.at q else begun_in (k.looks t m)) ≡ begun_in (if c && d then l else k.looks t m)
    by true true e f = own_walk k.at q (k.looks t m) ∙ ap of_look (sym (same_look k t m u n e f)) ∙ sym is
    by true false e f = refl
    by false d e f = refl

-- ---- an event more

event_known : (k : Known) (t m u : ℕ) (e : Event) → begun_by (t == u) m k.at (begun_in (k.looks t m)) e ≡ begun_in ((noted k u e).looks t m)
event_known k t m u (Event.Insert n p r d) = another (m == n) (k.looks t m)
event_known k t m u (Event.End p r) = over_same k t m u _
event_known k t m u (Event.Told n q false) = over_same (record k { calls = drop_if (is_current u n) k.calls }) t m u (began (find (is_current u n) k.calls))
event_known k t m u (Event.Begin n q) = begins ((t == u) && (m == n)) (begun_at k.at q) _ (k.looks t m) refl
event_known k t m u (Event.Walk n r q locked d) = walks k t m u n q _ refl
event_known k t m u (Event.Found n v f w) = kept k t m u n _ refl
event_known k t m u (Event.Walked n done) = kept k t m u n _ refl
event_known k t m u (Event.Set n v f w) = set_same (record k {
  slots = record { mirror = n; page = v; right = w; at = k.at } ∷ drop_if (is_slot n v) k.slots;
  calls = map (after_set n v) k.calls;
}) t m u n v w
event_known k t m u (Event.Take f) = held_same k t m f (device_of f)
event_known k t m u (Event.Pass f) = pass_same k t m (device_of f)
event_known k t m u x = refl

all_known : (es : List Traced) (k : Known) (t m : ℕ) → begun_on t m k.at (begun_in (k.looks t m)) es ≡ begun_in ((fold known_next k es).looks t m)
all_known [] k t m = refl
all_known (s ∷ ss) k t m = ap (λ b. begun_on t m (k.at + 1) b ss) (event_known k t m s.thread s.event) ∙ all_known ss (known_next k s) t m

pub look_ups_are_known : LookUpsAreKnown
look_ups_are_known es t m = all_known es known_start t m
