-- What the parts of legality ask of a history, kept entry by entry: two histories with one such state are judged alike.
use Rattle.std.specs.Prelude.{ℕ, ◌+◌, Bool, true, false, not, ◌&&◌, ◌||◌, ◌==◌, nat_le, if◌then◌else◌, Option, Some}
use Rattle.std.specs.Prelude.{None, is_none, List, [], ◌∷◌, fold}
use Rattle.hm_base.specs.Program.{Program}
use Rattle.hm_base.specs.declared.PoolId.{PoolId}
use Rattle.hm_history.specs.Memory.Words.{page_of}
use Rattle.hm_history.specs.Memory.Plain.{plain_accepts, mirror_owner}
use Rattle.hm_history.specs.Memory.Places.{places_accept, lowest_free}
use Rattle.hm_history.specs.Memory.Sequences.{sequences_accept}
use Rattle.hm_history.specs.Memory.Lookups.{narrows_guarded, is_set_of, is_begin_of, is_told_of, set_from}
use Rattle.hm_history.specs.Memory.After.{After, after_nothing, after_entry}
use Rattle.hm_history.specs.Kernel.Going.{Going}
use Rattle.hm_history.specs.Memory.Rules.{needs_full, is_finishing, is_no_frame}
use Rattle.hm_history.specs.Kernel.Legal.{kept_rightly}
use Rattle.hm_history.specs.declared.Who.{Who}
use Rattle.hm_history.specs.declared.Kind.{Kind}
use Rattle.hm_history.specs.declared.Entry.{Entry}
use Rattle.hm_laws.specs.Past.{is_position}
use Rattle.hm_flaws.specs.Parts.{Part}

-- the state; the positions of each actor's last `begin` of a mirror, and of the last `told` of a mirror's page; of the
-- last `set` of a mirror's page whether it goes back to a look-up, and its FROM; whether an actor's last entry but for
-- `place`, `done` and `drop` found no frame free
pub record Recalled : Type 0 where
  pub state : After
  pub begun : ℕ → ℕ → Option ℕ
  pub told : ℕ → ℕ → Option ℕ
  pub set : ℕ → ℕ → Option (Bool × ℕ)
  pub short : ℕ → Bool

-- before the first entry
abbrev pub recalled_start : Recalled
recalled_start =
    record {
      state = after_nothing;
      begun = λ a m. None;
      told = λ m v. None;
      set = λ m v. None;
      short = λ a. false;
    }

-- no frame of the system is free
abbrev pub is_full : Program → After → Bool
is_full c s = is_none (lowest_free c s.places PoolId.System)

-- the FROM of an entry that is a `set` is its own position, or that of its actor's last `begin` of the mirror
abbrev pub goes_back : Recalled → ℕ → Entry → Bool
goes_back n m e = (set_from e.kind == n.state.length) || is_position (n.begun e.actor m) (set_from e.kind)

-- after one entry more
abbrev pub recalled_next : Program → Recalled → Entry → Recalled
recalled_next c n e = record {
  state = after_entry n.state e;
  begun = λ a m. if (e.actor == a) && is_begin_of m e.kind then Some n.state.length else n.begun a m;
  told = λ m v. if is_told_of m v e.kind then Some n.state.length else n.told m v;
  set = λ m v. if is_set_of m v e.kind then Some (goes_back n m e, set_from e.kind) else n.set m v;
  short = λ a. if (e.actor == a) && not (is_finishing e.kind) then is_no_frame (e ∷ []) && is_full c n.state
      else n.short a;
}

-- after a history
abbrev pub recalled_of : Program → List Entry → Recalled
recalled_of c h = fold (recalled_next c) recalled_start h

-- ---- the parts, by what is recalled

-- the last `told`, if there was one, came no later than the position
abbrev pub told_by : Option ℕ → ℕ → Bool
told_by None from = true
told_by (Some i) from = nat_le (i + 1) (from + 1)

-- the last `set` goes back to a look-up, and nobody was told since
abbrev pub is_untold_by : Option (Bool × ℕ) → Option ℕ → Bool
is_untold_by None told = false
is_untold_by (Some x) told = x.0 && told_by told x.1

-- so it does for a mirror's page
abbrev pub untold_in : Recalled → ℕ → ℕ → Bool
untold_in n m v = is_untold_by (n.set m v) (n.told m v)

-- an access through a mirror uses only such a table entry
abbrev pub uses_untold_in : Recalled → Kind → Bool
uses_untold_in n (Kind.Loaded (Who.Mirror m) at bs) = untold_in n m (page_of at)
uses_untold_in n (Kind.Stored (Who.Mirror m) at bs) = untold_in n m (page_of at)
uses_untold_in n (Kind.Fetched m at bs) = untold_in n m (page_of at)
uses_untold_in n (Kind.Added m at was now) = untold_in n m (page_of at)
uses_untold_in n k = true

-- an entry fails for want of a frame only if none is free, or none was when its actor asked for one
abbrev pub fails_rightly_in : Program → Recalled → Entry → Bool
fails_rightly_in c n e = elim (needs_full e.kind) [ false ↦ true | true ↦ is_full c n.state || n.short e.actor ]

-- the entry meets this part
abbrev pub meets_part_in : Program → Recalled → (ℕ → Going) → Entry → Part → Bool
meets_part_in c n g e Part.Answers = plain_accepts n.state.plain e.kind
meets_part_in c n g e Part.Places = places_accept c (mirror_owner n.state.plain) n.state.places e.actor e.kind
meets_part_in c n g e Part.Frames = fails_rightly_in c n e
meets_part_in c n g e Part.Sequences = sequences_accept n.state.sequences e.actor e.kind
meets_part_in c n g e Part.Untold = uses_untold_in n e.kind
meets_part_in c n g e Part.Guarded = narrows_guarded n.state.sequences n.state.places.place e.actor e.kind
meets_part_in c n g e Part.Kept = kept_rightly c (record { after = n.state; going = g }) e

-- the first of these parts that the entry breaks
abbrev pub broken_part_in : List Part → Program → Recalled → (ℕ → Going) → Entry → Option Part
broken_part_in [] c n g e = None
broken_part_in (part ∷ parts) c n g e = elim (meets_part_in c n g e part) [
  | true ↦ broken_part_in parts c n g e
  | false ↦ Some part
]
