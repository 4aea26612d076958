-- An event goes back to events before it.
use Rattle.std.proofs.Common.{◌≡◌, inl, inr, ℕ, ◌+◌, ◌-◌, ◌<◌, ◌≤◌, ◌==◌, Bool, true, false, ◌&&◌, ◌||◌, not, Option, Some, None, is_none, List, [], ◌∷◌, length, take, drop, subst, arith}
use Rattle.std.specs.Prelude.{if◌then◌else◌, nat_lt, reverse}
use Rattle.std.proofs.lemmas.List.{length-reverse, length-take}
use Rattle.hm_protocol.specs.declared.events.Event.{Event}
use Rattle.hm_protocol.specs.declared.events.Traced.{Traced}
use Rattle.hm_trace_top.specs.Laws.{IsOrigin, OriginsAreBefore}
use Rattle.hm_trace_top.specs.Origins.{Step, begun_at, begun_by, begun_on, first_met, is_met, is_tell, kind_of, origin_at, origin_in, own_step, start_back, start_told, unbegun}
use Rattle.hm_trace_top.specs.declared.origins.Begun.{Begun}
use Rattle.hm_trace_top.specs.declared.origins.Kind.{Kind}
use Rattle.hm_trace_top.specs.declared.origins.Origin.{Origin}

-- a position that is there lies below this
abbrev Below : ℕ → Option ℕ → Type 0
Below n None = Unit {0}
Below n (Some j) = j < n

below_is : (n : ℕ) (o : Option ℕ) (j : ℕ) → Below n o → o ≡ Some j → j < n
below_is n None j h e = absurd (let no : None ≡ Some j = e in cc)
below_is n (Some i) j h e = let same : i ≡ j = cc in subst (λ k. k < n) same h

-- ---- look-ups

one_of : (n : ℕ) (c : Bool) (b d : Begun) → Below n b.at → Below n d.at → Below n (if c then b else d).at
one_of n true b d h g = h
one_of n false b d h g = g

by_below : (own : Bool) (m i n : ℕ) (b : Begun) (e : Event) → i < n → Below n b.at → Below n (begun_by own m i b e).at
by_below own m i n b (Event.Insert k p r d) lt h = one_of n (m == k) unbegun b tt h
by_below own m i n b (Event.Begin k q) lt h = one_of n (own && (m == k)) (begun_at i q) b lt h
by_below own m i n b (Event.Walk k r q locked d) lt h = one_of n (own && ((m == k) && (is_none b.at || not (q == b.seq)))) (begun_at i q) b lt h
by_below own m i n b e lt h = h

on_below : (t m i n : ℕ) (b : Begun) (es : List Traced) → i + length es ≤ n → Below n b.at → Below n (begun_on t m i b es).at
on_below t m i n b [] le h = h
on_below t m i n b (s ∷ ss) le h = on_below t m (i + 1) n (begun_by (t == s.thread) m i b s.event) ss (omega arith) (by_below (t == s.thread) m i n b s.event (omega arith) h)

either : (n : ℕ) (c : Bool) (o p : Option ℕ) → Below n o → Below n p → Below n (if c then o else p)
either n true o p h g = h
either n false o p h g = g

met_below : (m q from i n : ℕ) (es : List Traced) → i + length es ≤ n → Below n (first_met m q from i es)
met_below m q from i n [] le = tt
met_below m q from i n (s ∷ ss) le = either n (nat_lt from i && is_met m q s.event) (Some i) (first_met m q from (i + 1) ss) (let here : i < n = omega arith in here) (met_below m q from (i + 1) n ss (omega arith))

-- ---- invalidations

back_below : (t c n : ℕ) (rs : List Traced) → length rs ≤ n → Below n (start_back t c rs)
back_below t c n [] le = tt
back_below t c n (s ∷ rs) le = by (own_step (s.thread == t) s.event) (λ d. back_below t d n rs (omega arith)) (let here : length rs < n = omega arith in here)
  where
    by : (x : Step) → ((d : ℕ) → Below n (start_back t d rs)) → length rs < n → Below n (elim x as (λ y. Option ℕ) [
      | Step.Opens ↦ (if c == 0 then Some (length rs) else start_back t (c - 1) rs)
      | Step.Closes ↦ start_back t (c + 1) rs
      | Step.Stays ↦ start_back t c rs
    ])
    by Step.Opens h lt = either n (c == 0) (Some (length rs)) (start_back t (c - 1) rs) lt (h (c - 1))
    by Step.Closes h lt = h (c + 1)
    by Step.Stays h lt = h c

told_below : (m q n : ℕ) (rs : List Traced) → length rs ≤ n → Below n (start_told m q rs)
told_below m q n [] le = tt
told_below m q n (s ∷ rs) le = either n (is_tell m q s.event) (start_back s.thread 0 rs) (start_told m q rs) (back_below s.thread 0 n rs (omega arith)) (told_below m q n rs (omega arith))

-- ---- by rules

-- what it goes back to lies below this
abbrev Both : ℕ → Origin → Type 0
Both n o = Below n o.from × Below n o.met

met_of : (m n : ℕ) (q : ℕ) (es : List Traced) (o : Option ℕ) → length es ≤ n → Below n (elim o as (λ x. Option ℕ) [ None ↦ None | Some f ↦ first_met m q f 0 es ])
met_of m n q es None le = tt
met_of m n q es (Some f) le = met_below m q f 0 n es (omega arith)

at_below : (k : Kind) (es : List Traced) (t n : ℕ) (e : Event) → length es ≤ n → Both n (origin_at k es t e)
at_below Kind.LookUp es t n (Event.Set m v f w) le = (on_below t m 0 n unbegun es (omega arith) tt, tt)
at_below Kind.Stale es t n (Event.Set m v f w) le =
    (on_below t m 0 n unbegun es (omega arith) tt, met_of m n (begun_on t m 0 unbegun es).seq es (begun_on t m 0 unbegun es).at le)
at_below Kind.Callback es t n (Event.Told m q done) le = (back_below t 0 n (reverse es) (omega (arith, length-reverse es)), tt)
at_below Kind.Early es t n (Event.Begin m q) le = (told_below m q n (reverse es) (omega (arith, length-reverse es)), tt)
at_below Kind.Early es t n (Event.Walk m r q locked d) le = (told_below m q n (reverse es) (omega (arith, length-reverse es)), tt)
at_below k es t n e le = (tt, tt)

in_below : (k : Kind) (es fs : List Traced) (n : ℕ) → length es ≤ n → Both n (origin_in k es fs)
in_below k es [] n le = (tt, tt)
in_below k es (s ∷ ss) n le = at_below k es s.thread n s.event le

pub origins_are_before : OriginsAreBefore
origins_are_before r es i j h = by (in_below (kind_of r) (take i es) (drop i es) i (omega (arith, length-take i es))) h
  where
    by : Both i (origin_in (kind_of r) (take i es) (drop i es)) → IsOrigin j (origin_in (kind_of r) (take i es) (drop i es)) → j < i
    by b (inl e) = below_is i (origin_in (kind_of r) (take i es) (drop i es)).from j b.0 e
    by b (inr e) = below_is i (origin_in (kind_of r) (take i es) (drop i es)).met j b.1 e
