-- What sequences and processes that are the same have alike.
use Rattle.std.proofs.Common.{◌≡◌, ℕ, Bool, true, false, Option, List, [], map, slice_index_or, refl, ap}
use Rattle.std.specs.Rc.{rc_value}
use Rattle.hm_base.specs.declared.area.Area.{Area}
use Rattle.hm_folds.specs.Kept.{interval_at}
use Rattle.hm_history.specs.Memory.Plain.{Plain}
use Rattle.hm_history.specs.Memory.Sequences.{Sequences, Interval}
use Rattle.hm_race_states.specs.SeqBy.{seq_by}
use Rattle.hm_race_states.specs.Small.{kept_seqs}
use Rattle.hm_race_states.specs.Spaces.{spaces_in}
use Rattle.hm_race_states.specs.declared.small.SmallSeqs.{SmallSeqs}
use Rattle.hm_race_states.specs.declared.spaces.RaceSpaces.{RaceSpaces}

same_odd : (a b : Bool) → seq_by a ≡ seq_by b → a ≡ b
same_odd true true e = refl
same_odd true false e = cc
same_odd false true e = cc
same_odd false false e = refl

pub odd_alike : (x y : SmallSeqs) → kept_seqs x ≡ kept_seqs y → (p : ℕ) → slice_index_or x.odd p false ≡ slice_index_or y.odd p false
odd_alike x y e p = same_odd (slice_index_or x.odd p false) (slice_index_or y.odd p false) (ap {B = ℕ} (λ (s : Sequences). s.seq p) e)

pub active_alike : (x y : SmallSeqs) → kept_seqs x ≡ kept_seqs y → (p : ℕ) → slice_index_or x.active p 0 ≡ slice_index_or y.active p 0
active_alike x y e p = ap {B = ℕ} (λ (s : Sequences). s.active p) e

pub intervals_alike : (x y : SmallSeqs) → kept_seqs x ≡ kept_seqs y → (m : ℕ) → interval_at x.intervals.items m ≡ interval_at y.intervals.items m
intervals_alike x y e m = ap {B = Option Interval} (λ (s : Sequences). s.interval m) e

pub there_alike : (x y : RaceSpaces) → spaces_in x ≡ spaces_in y → (p : ℕ) → slice_index_or x.there p false ≡ slice_index_or y.there p false
there_alike x y e p = ap {B = Bool} (λ (s : Plain). s.there p) e

pub named_alike : (x y : RaceSpaces) → spaces_in x ≡ spaces_in y → (p : ℕ) → slice_index_or x.named p false ≡ slice_index_or y.named p false
named_alike x y e p = ap {B = Bool} (λ (s : Plain). s.named p) e

pub areas_alike : (x y : RaceSpaces) → spaces_in x ≡ spaces_in y → (p : ℕ) → slice_index_or (map rc_value x.areas.items) p [] ≡ slice_index_or (map rc_value y.areas.items) p []
areas_alike x y e p = ap {B = List Area} (λ (s : Plain). s.areas p) e
