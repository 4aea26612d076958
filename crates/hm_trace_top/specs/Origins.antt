-- Which earlier events a verdict goes back to.
use Rattle.std.specs.Prelude.{ℕ, ◌+◌, ◌-◌, Bool, true, false, not, ◌&&◌, ◌||◌, ◌==◌, nat_lt, if◌then◌else◌, Option}
use Rattle.std.specs.Prelude.{Some, None, is_none, List, [], ◌∷◌, length, take, drop, reverse}
use Rattle.hm_protocol.specs.declared.events.Event.{Event}
use Rattle.hm_protocol.specs.declared.events.Traced.{Traced}
use Rattle.hm_protocol.specs.declared.rules.Rule.{Rule}
use Rattle.hm_trace_top.specs.declared.origins.Begun.{Begun}
use Rattle.hm_trace_top.specs.declared.origins.Kind.{Kind}
use Rattle.hm_trace_top.specs.declared.origins.Origin.{Origin}

-- ---- the look-up of an event

-- none has begun
abbrev pub unbegun : Begun
unbegun = record { at = None; seq = 0 }

-- a look-up begins here, with this sequence
abbrev pub begun_at : ℕ → ℕ → Begun
begun_at i q = record { at = Some i; seq = q }

-- after an event at a position, by whether it is of the thread: a `begin` of the mirror begins a look-up, and so does a
-- walk with a sequence of its own; another interval has none
abbrev pub begun_by : Bool → ℕ → ℕ → Begun → Event → Begun
begun_by own m i b (Event.Insert n p r d) = if m == n then unbegun else b
begun_by own m i b (Event.Begin n q) = if own && (m == n) then begun_at i q else b
begun_by own m i b (Event.Walk n r q locked d) =
    if own && ((m == n) && (is_none b.at || not (q == b.seq))) then begun_at i q else b
begun_by own m i b e = b

-- after some events, the first of which has this position
abbrev pub begun_on : ℕ → ℕ → ℕ → Begun → List Traced → Begun
begun_on t m i b [] = b
begun_on t m i b (s ∷ ss) = begun_on t m (i + 1) (begun_by (t == s.thread) m i b s.event) ss

-- a callback of the mirror returns, and leaves another sequence than this
abbrev pub is_met : ℕ → ℕ → Event → Bool
is_met m q (Event.Told n r true) = (n == m) && not (r == q)
is_met m q e = false

-- the first such event after a position, of some events, the first of which has position i
abbrev pub first_met : ℕ → ℕ → ℕ → ℕ → List Traced → Option ℕ
first_met m q from i [] = None
first_met m q from i (s ∷ ss) =
    if nat_lt from i && is_met m q s.event then Some i else first_met m q from (i + 1) ss

-- ---- the invalidation of an event

-- what an event of the thread does to its invalidations
pub data Step : Type 0 where
  Opens : Step
  Closes : Step
  Stays : Step

-- a `start` begins one; an `end`, or a callback that failed, ends the inner one
abbrev pub step_of : Event → Step
step_of (Event.Start p r why d) = Step.Opens
step_of (Event.End p r) = Step.Closes
step_of (Event.Told m q false) = Step.Closes
step_of e = Step.Stays

-- the same of any event, by whether it is of the thread
abbrev pub own_step : Bool → Event → Step
own_step own e = if own then step_of e else Step.Stays

-- going back through events, the last one first: where the thread's inner invalidation began that is under way, if so
-- many are closed by later events
abbrev pub start_back : ℕ → ℕ → List Traced → Option ℕ
start_back t c [] = None
start_back t c (s ∷ rs) = elim (own_step (s.thread == t) s.event) as (λ x. Option ℕ) [
  | Step.Opens ↦ (if c == 0 then Some (length rs) else start_back t (c - 1) rs)
  | Step.Closes ↦ start_back t (c + 1) rs
  | Step.Stays ↦ start_back t c rs
]

-- a callback of the mirror is given this sequence
abbrev pub is_tell : ℕ → ℕ → Event → Bool
is_tell m q (Event.Tell n r p) = (n == m) && (p == q)
is_tell m q e = false

-- going back: where the invalidation began whose callback was given this sequence last
abbrev pub start_told : ℕ → ℕ → List Traced → Option ℕ
start_told m q [] = None
start_told m q (s ∷ rs) = if is_tell m q s.event then start_back s.thread 0 rs else start_told m q rs

-- ---- by rules

-- to what a rule's verdict goes back
abbrev pub kind_of : Rule → Kind
kind_of Rule.Compare = Kind.Stale
kind_of Rule.CompareSequence = Kind.Stale
kind_of Rule.EntryRight = Kind.LookUp
kind_of Rule.BeginFirst = Kind.LookUp
kind_of Rule.BeginWaits = Kind.Early
kind_of Rule.SetSequence = Kind.Callback
kind_of Rule.Erase = Kind.Callback
kind_of Rule.EraseAll = Kind.Callback
kind_of Rule.EraseInTime = Kind.Callback
kind_of Rule.OwnEvents = Kind.Callback
kind_of Rule.OwnSequence = Kind.Callback
kind_of Rule.OwnEntries = Kind.Callback
kind_of r = Kind.Other

-- to nothing
abbrev pub no_origin : Origin
no_origin = record { from = None; met = None }

-- to this
abbrev pub from_one : Option ℕ → Origin
from_one o = record { from = o; met = None }

-- an entry that the thread set in the mirror, after these events: to its look-up
abbrev pub of_look_up : ℕ → ℕ → List Traced → Origin
of_look_up t m es = from_one (begun_on t m 0 unbegun es).at

-- and to the first callback that it met
abbrev pub with_met : ℕ → Begun → List Traced → Origin
with_met m b es = record {
  from = b.at;
  met = elim b.at [ None ↦ None | Some f ↦ first_met m b.seq f 0 es ];
}

-- the same of an entry that is stale
abbrev pub of_stale : ℕ → ℕ → List Traced → Origin
of_stale t m es = with_met m (begun_on t m 0 unbegun es) es

-- an event of this kind of rule, after these events
abbrev pub origin_at : Kind → List Traced → ℕ → Event → Origin
origin_at Kind.LookUp es t (Event.Set m v f w) = of_look_up t m es
origin_at Kind.Stale es t (Event.Set m v f w) = of_stale t m es
origin_at Kind.Callback es t (Event.Told m q done) = from_one (start_back t 0 (reverse es))
origin_at Kind.Early es t (Event.Begin m q) = from_one (start_told m q (reverse es))
origin_at Kind.Early es t (Event.Walk m r q locked d) = from_one (start_told m q (reverse es))
origin_at k es t e = no_origin

-- the event at a position, if it is there, which is the first of these
abbrev pub origin_in : Kind → List Traced → List Traced → Origin
origin_in k es [] = no_origin
origin_in k es (s ∷ ss) = origin_at k es s.thread s.event

-- the same of a rule, and the event at a position
abbrev pub origin_of : Rule → List Traced → ℕ → Origin
origin_of r es i = origin_in (kind_of r) (take i es) (drop i es)
