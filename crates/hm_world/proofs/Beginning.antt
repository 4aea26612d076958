-- The world before the first entry.
use Rattle.std.proofs.Common.{◌≡◌, None, List, [], sym, arith, subst}
use Rattle.hm_base.specs.Program.{Program, IsScript}
use Rattle.hm_history.specs.Kernel.Going.{state_start}
use Rattle.hm_history.specs.declared.Entry.{Entry}
use Rattle.hm_frames.specs.Pools.{fresh_pools}
use Rattle.hm_frames.proofs.Kept.{frames_start}
use Rattle.hm_tables.specs.Steps.{tables_start}
use Rattle.hm_tables.proofs.Starts.{tables_starts}
use Rattle.hm_spaces.specs.Spaces.{spaces_start}
use Rattle.hm_spaces.proofs.SpacesKept.{spaces_starts}
use Rattle.hm_notifiers.specs.NotifiersValue.{notifiers_start}
use Rattle.hm_notifiers.proofs.Start.{starts as notifiers_begin}
use Rattle.hm_mirrors.specs.Mirrors.{mirrors_start}
use Rattle.hm_mirrors.proofs.Fits.{starts as mirrors_begin}
use Rattle.hm_actors.specs.Actors.{actors_start}
use Rattle.hm_actors.proofs.ActorsKept.{actors_starts}
use Rattle.hm_world.specs.WorldValue.{now, opening}
use Rattle.hm_world.specs.Stands.{Parts, Shows, Stands}

first : (c : Program) (x : Parts) → Shows c (state_start c) x → Shows c (now (opening c)) x
unfolding now
first c x s = s

shows : (c : Program) (x : Parts) → IsScript c → x.frames ≡ fresh_pools c → x.tables ≡ tables_start c → x.spaces ≡ spaces_start → x.notifiers ≡ notifiers_start → x.mirrors ≡ mirrors_start → x.actors ≡ actors_start c → Shows c (state_start c) x
shows c x sc f t s n m a = record {
  frames = rw f (frames_start c sc);
  tables = rw t (tables_starts c sc);
  spaces = rw s spaces_starts;
  notifiers = rw n notifiers_begin;
  mirrors = rw m mirrors_begin;
  actors = rw a (actors_starts c);
}

pub begins : (c : Program) (h : List Entry) (x : Parts) → IsScript c → h ≡ [] → x.frames ≡ fresh_pools c → x.tables ≡ tables_start c → x.spaces ≡ spaces_start → x.notifiers ≡ notifiers_start → x.mirrors ≡ mirrors_start → x.actors ≡ actors_start c →
    Stands (record { script = c; history = h; halted = None }) x
begins c h x sc e f t s n m a = subst (λ (l : List Entry). Stands (record { script = c; history = l; halted = None }) x) (sym e)
    (record { script = sc; due = tt; few = omega arith; halted = tt; shows = first c x (shows c x sc f t s n m a) })
