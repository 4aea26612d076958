-- What variants note, as contracts see it.
use Rattle.std.specs.Prelude.{◌≡◌, ℕ, false, None, [], map, slice_index_or}
use Rattle.hm_linux.specs.Noted.{Noted}
use Rattle.hm_linux_steps.specs.declared.notes.Notes.{Notes}

-- what is noted
abbrev pub noted_in : Notes → Noted
noted_in x = record {
  references = λ a. slice_index_or (map (λ v. v.items) x.references.items) a [];
  locks = λ a. slice_index_or x.locks a None;
  busy = λ a. slice_index_or x.busy a false;
  torn = λ a. slice_index_or x.torn a false;
}

-- the same is noted of the actor in both
pub record SameAt (n m : Noted) (a : ℕ) : Type 0 where
  pub references : n.references a ≡ m.references a
  pub locks : n.locks a ≡ m.locks a
  pub busy : n.busy a ≡ m.busy a
  pub torn : n.torn a ≡ m.torn a
