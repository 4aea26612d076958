-- The states after a history.
use Rattle.std.specs.Prelude.{ℕ, ◌+◌, List, fold}
use Rattle.hm_history.specs.Memory.Plain.{Plain, plain_start, plain_next}
use Rattle.hm_history.specs.Memory.Places.{Places, places_start, places_next}
use Rattle.hm_history.specs.Memory.Sequences.{Sequences, sequences_start, sequences_next}
use Rattle.hm_history.specs.Memory.Locks.{Locks, locks_start, locks_next}
use Rattle.hm_base.specs.declared.Frame.{Frame}
use Rattle.hm_history.specs.Memory.Contents.{contents_next, zeros}
use Rattle.hm_history.specs.declared.Entry.{Entry}

-- the state after a history, part by part
pub record After : Type 0 where
  pub length : ℕ
  pub plain : Plain
  pub places : Places
  pub sequences : Sequences
  pub locks : Locks
  pub contents : Frame → ℕ → ℕ

-- before the first entry
abbrev pub after_nothing : After
after_nothing =
    record {
      length = 0;
      plain = plain_start;
      places = places_start;
      sequences = sequences_start;
      locks = locks_start;
      contents = λ f. zeros;
    }

-- after one entry more; each part reads the parts as they were before it
abbrev pub after_entry : After → Entry → After
after_entry s e = record {
  length = s.length + 1;
  plain = plain_next s.plain e.kind;
  places = places_next s.places e.kind;
  sequences = sequences_next s.sequences e.actor e.kind;
  locks = locks_next s.locks s.places e.actor e.kind;
  contents = contents_next s.plain s.places s.contents e.kind;
}

-- after a list of entries
abbrev pub after : List Entry → After
after h = fold after_entry after_nothing h
