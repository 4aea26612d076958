-- What the parts of legality recall of a history beside its state.
use Rattle.std.specs.Prelude.{◌≡◌, ℕ, Bool, false, not, ◌&&◌, ◌==◌, if◌then◌else◌, Option, Some, None, option_map}
use Rattle.std.specs.Prelude.{List, [], ◌∷◌, slice_index_or}
use Rattle.hm_base.specs.Program.{Program}
use Rattle.hm_history.specs.Memory.Lookups.{is_begin_of, is_set_of, set_from}
use Rattle.hm_history.specs.Memory.After.{After, after_nothing, after_entry}
use Rattle.hm_history.specs.Memory.Rules.{is_finishing, is_no_frame}
use Rattle.hm_history.specs.declared.Entry.{Entry}
use Rattle.hm_history.specs.declared.Kind.{Kind}
use Rattle.hm_flaws.specs.Recalled.{Recalled, recalled_start, recalled_next, is_full, goes_back}
use Rattle.hm_race_keys.specs.Sparse.{found, mixed}
use Rattle.hm_flaw_parts.specs.Told.{told_in, with_told}
use Rattle.hm_flaw_parts.specs.declared.told_spans.ToldSpan.{ToldSpan}
use Rattle.hm_flaw_parts.specs.declared.values.Position.{Position}
use Rattle.hm_flaw_parts.specs.declared.values.SetMark.{SetMark}
use Rattle.hm_flaw_parts.specs.declared.marks.Marks.{Marks}

-- ---- what is kept, and what it stands for

-- as in what is recalled, but that spans that were told of stand in a list
pub record Marked : Type 0 where
  pub begun : ℕ → ℕ → Option ℕ
  pub told : List ToldSpan
  pub set : ℕ → ℕ → Option (Bool × ℕ)
  pub short : ℕ → Bool

-- before the first entry
abbrev pub marked_start : Marked
marked_start = record { begun = λ a m. None; told = []; set = λ m v. None; short = λ a. false }

-- what is recalled, by the state and the marks
abbrev pub recalled_by : After → Marked → Recalled
recalled_by s x = record { state = s; begun = x.begun; told = told_in x.told; set = x.set; short = x.short }

-- ---- one entry more

-- the spans after an entry at this position
abbrev pub told_next : ℕ → List ToldSpan → Kind → List ToldSpan
told_next n xs (Kind.Told m r q) = with_told (record { mirror = m; span = r; at = n }) xs
told_next n xs k = xs

-- the marks after an entry; s is the state before it
abbrev pub marked_next : Program → After → Marked → Entry → Marked
marked_next c s x e = record {
  begun = λ a m. if (e.actor == a) && is_begin_of m e.kind then Some s.length else x.begun a m;
  told = told_next s.length x.told e.kind;
  set =
      λ m v. if is_set_of m v e.kind then Some (goes_back (recalled_by s x) m e, set_from e.kind) else x.set m v;
  short =
      λ a. if (e.actor == a) && not (is_finishing e.kind) then is_no_frame (e ∷ []) && is_full c s else x.short a;
}

-- what is recalled after a history is given by its state and its marks
pub record MarksRecall : Type 0 where
  pub start : recalled_by after_nothing marked_start ≡ recalled_start
  pub next : (c : Program) (s : After) (x : Marked) (e : Entry)
      → recalled_by (after_entry s e) (marked_next c s x e) ≡ recalled_next c (recalled_by s x) e

-- ---- the values of the program

-- the position itself
abbrev pub at_of : Position → ℕ
at_of x = x.at

-- whether the `set` goes back to a look-up, and from where it is to be untold
abbrev pub set_of : SetMark → Bool × ℕ
set_of x = (x.goes_back, x.since)

-- the marks that are kept
abbrev pub marks_in : Marks → Marked
marks_in x = record {
  begun = λ a m. option_map at_of (found x.begun.value a m);
  told = x.told.value;
  set = λ m v. option_map set_of (found x.sets.value m v);
  short = λ a. slice_index_or x.short a false;
}

-- a sum with a position mixed in
abbrev pub mixed_position : Position → ℕ → ℕ
mixed_position x sum = mixed sum x.at

-- a sum with a `set` mixed in
abbrev pub mixed_set : SetMark → ℕ → ℕ
mixed_set x sum = mixed sum x.since
