-- Uses since a look-up (the pattern of `mmu_interval_read_begin` and `mmu_interval_read_retry` in
-- Documentation/mm/hmm.rst), and narrowing under a guard: invalidate before the change.
use Rattle.std.specs.Prelude.{ℕ, ◌+◌, Bool, true, false, not, ◌&&◌, ◌||◌, ◌==◌, if◌then◌else◌, Option, Some, None, List}
use Rattle.std.specs.Prelude.{[], ◌∷◌, drop, take}
use Rattle.std.specs.List.{list_all}
use Rattle.hm_base.specs.Pages.{covers}
use Rattle.hm_base.specs.declared.Place.{Place}
use Rattle.hm_base.specs.declared.Place.TheVariants.{Empty, Zero, Sys, Own, Moving}
use Rattle.hm_history.specs.Memory.Words.{page_of, writable}
use Rattle.hm_history.specs.Memory.Sequences.{Sequences, all_told, guard_passes}
use Rattle.hm_history.specs.declared.Who.TheVariants.{Mirror}
use Rattle.hm_history.specs.declared.Kind.{Kind}
use Rattle.hm_history.specs.declared.Entry.{Entry}

-- the position of the last entry that passes the test, counted from `at`
abbrev pub last_from : (Entry → Bool) → ℕ → Option ℕ → List Entry → Option ℕ
last_from test at best [] = best
last_from test at best (e ∷ es) = last_from test (at + 1) (if test e then Some at else best) es

-- the position of the last entry that passes the test
abbrev pub last_where : (Entry → Bool) → List Entry → Option ℕ
last_where test h = last_from test 0 None h

-- the entry sets the mirror's table at the page
abbrev pub is_set_of : ℕ → ℕ → Kind → Bool
is_set_of m v (Kind.Set k u f w from) = (k == m) && (u == v)
is_set_of m v _ = false

-- the entry begins a look-up of the mirror
abbrev pub is_begin_of : ℕ → Kind → Bool
is_begin_of m (Kind.Begin k q) = k == m
is_begin_of m _ = false

-- the entry tells the mirror of the page
abbrev pub is_told_of : ℕ → ℕ → Kind → Bool
is_told_of m v (Kind.Told k r q) = (k == m) && covers r v
is_told_of m v _ = false

-- the position from which a `set` is to be untold
abbrev pub set_from : Kind → ℕ
set_from (Kind.Set k u f w from) = from
set_from _ = 0

-- FROM of the `set` of this actor at j is j, or the actor's last `begin` of that mirror before it
abbrev pub is_begin_before : List Entry → ℕ → ℕ → ℕ → ℕ → Bool
is_begin_before h a m j from = (from == j)
    || elim (last_where (λ e. (e.actor == a) && is_begin_of m e.kind) (take j h)) [
      | None ↦ false
      | Some i ↦ from == i
    ]

-- the `set` at this position goes back to a look-up since which its page was not told
abbrev pub at_set : List Entry → ℕ → ℕ → ℕ → List Entry → Bool
at_set h m v j [] = false
at_set h m v j (e ∷ es) = is_begin_before h e.actor m j (set_from e.kind)
    && list_all (λ x. not (is_told_of m v x.kind)) (drop (set_from e.kind + 1) h)

-- the mirror's entry on the page was set after a look-up since which nobody was told
abbrev pub is_untold : List Entry → ℕ → ℕ → Bool
is_untold h m v = elim (last_where (λ e. is_set_of m v e.kind) h) [
  | None ↦ false
  | Some j ↦ at_set h m v j (drop j h)
]

-- an access through a mirror uses only such a table entry
abbrev pub uses_untold : List Entry → Kind → Bool
uses_untold h (Kind.Loaded (Mirror m) a bs) = is_untold h m (page_of a)
uses_untold h (Kind.Stored (Mirror m) a bs) = is_untold h m (page_of a)
uses_untold h (Kind.Fetched m a bs) = is_untold h m (page_of a)
uses_untold h (Kind.Added m a was now) = is_untold h m (page_of a)
uses_untold h _ = true

-- the new place takes something from the old one: a mapping, its frame, or its write right
abbrev pub loses : Place → Place → Bool
loses (Sys n w) (Sys k x) = not (n == k) || (w && not x)
loses (Own d n w) (Own e k x) = not ((d == e) && (n == k)) || (w && not x)
loses (Moving f w) (Moving g x) = w && not x
loses (Moving f w) Empty = true
loses (Moving f w) x = w && not (writable x)
loses Zero Zero = false
loses Empty x = false
loses _ x = true

-- under a guard of the actor that has the page, and in which each interval that overlapped was told
abbrev pub is_guarded : Sequences → ℕ → ℕ → ℕ → Bool
is_guarded s a p v = guard_passes (λ g. (g.proc == p) && (covers g.span v && all_told g)) (s.guard a)

-- a place that takes something away comes under a guard in which all were told
abbrev pub narrows_guarded : Sequences → (ℕ → ℕ → Place) → ℕ → Kind → Bool
narrows_guarded s place a (Kind.Place p v x) = not (loses (place p v) x) || is_guarded s a p v
narrows_guarded s place a _ = true
