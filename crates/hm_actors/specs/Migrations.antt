-- Where the records of the migrations under way are: in a slab, each under the key that its actor's task holds.
use Rattle.std.specs.Prelude.{◌≡◌, ◌⊎◌, ℕ, Option, Some, None, List, [], slice_index_or}
use Rattle.slab.specs.Slab.{Slab, get, ContainsKey}
use Rattle.hm_actors.specs.Actors.{RecordsValue, TaskValue}
use Rattle.hm_actors.specs.declared.tasks.Task.{Task}

-- what is read if no migration is under way
abbrev pub no_records : RecordsValue
no_records = record { items = []; spare = 0 }

-- the records of an item, or none
abbrev pub item_or_none : Option RecordsValue → RecordsValue
item_or_none None = no_records
item_or_none (Some x) = x

-- the records under a key, or none without a key
abbrev pub kept_at : Slab RecordsValue → Option ℕ → RecordsValue
kept_at m None = no_records
kept_at m (Some key) = item_or_none (get m key)

-- what contracts see of a task: the records that its key finds stand in it
abbrev pub task_shown : Slab RecordsValue → Task → TaskValue
task_shown m t =
    record {
      going = record { index = t.index; stack = t.stack; pages = (kept_at m t.migration).items };
      spare = (kept_at m t.migration).spare;
    }

-- the task of an actor that the script does not have
abbrev pub idle : Task
idle = record { index = 0; stack = []; migration = None }

-- the key of an actor
abbrev pub key_of : List Task → ℕ → Option ℕ
key_of xs a = (slice_index_or xs a idle).migration

-- a key, if there is one, finds an item
abbrev pub HasItem : Slab RecordsValue → Option ℕ → Type 0
HasItem m migration = (key : ℕ) → migration ≡ Some key → ContainsKey m key

-- each key finds an item, and no two actors have one key
pub record KeysFit (xs : List Task) (m : Slab RecordsValue) : Type 0 where
  pub held : (a : ℕ) → HasItem m (key_of xs a)
  pub own : (a b key : ℕ) → key_of xs a ≡ Some key → key_of xs b ≡ Some key → a ≡ b

-- one task's key goes from one to the next, and every other item stays
pub record Changes (old new : Slab RecordsValue) (before after : Option ℕ) : Type 0 where
  pub here : HasItem new after
  pub fresh : (key : ℕ) → after ≡ Some key → (before ≡ Some key) ⊎ (get old key ≡ None)
  pub others : (key : ℕ) → ContainsKey old key → (before ≡ Some key → ⊥) → get new key ≡ get old key
