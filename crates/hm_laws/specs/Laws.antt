-- The laws, as statements.
use Rattle.std.specs.Prelude.{◌≡◌, ℕ, ◌%◌, false, true, Some, is_some, List, [], IsTrue}
use Rattle.hm_base.specs.Program.{Program, IsScript}
use Rattle.hm_history.specs.Memory.Words.{page_of, is_empty_place}
use Rattle.hm_history.specs.Memory.Plain.{rights_of, plain_accepts, mirror_owner}
use Rattle.hm_history.specs.Memory.Places.{places_accept}
use Rattle.hm_history.specs.Memory.Sequences.{sequences_accept}
use Rattle.hm_history.specs.Memory.Lookups.{narrows_guarded}
use Rattle.hm_history.specs.Memory.Contents.{contents_of}
use Rattle.hm_history.specs.Memory.After.{After, after}
use Rattle.hm_history.specs.Kernel.Legal.{Legal}
use Rattle.hm_history.specs.Kernel.Run.{run}
use Rattle.hm_history.specs.Laws.{DueFrom}
use Rattle.hm_history.specs.declared.Entry.{Entry}
use Rattle.hm_history.specs.declared.Kind.{Kind}
use Rattle.hm_laws.specs.Past.{Past, past_next}
use Rattle.hm_laws.specs.Sound.{Sound}
use Rattle.hm_laws.specs.Allowed.{next, Allowed}
use Rattle.hm_laws.specs.Stands.{Stands}

-- the run of every script is legal
abbrev pub RunIsLegal : Type 0
RunIsLegal = (c : Program) → IsScript c → Legal c (run c)

-- every history of entries that were due is legal, in whatever order the actors took turns
abbrev pub HistoryIsLegal : Type 0
HistoryIsLegal = (c : Program) → IsScript c → (h : List Entry) → DueFrom c [] h → Legal c h

-- a page with a place shows its plain bytes, and one with an area and no place has zeros, unless somebody has the
-- process's mmap lock for writing and is emptying it
pub record ReadsRight (s : After) : Type 0 where
  pub placed : (p a : ℕ) → s.plain.there p ≡ true → is_empty_place (s.places.place p (page_of a)) ≡ false
      → contents_of s.places s.contents (s.places.place p (page_of a)) (a % 4096) ≡ s.plain.bytes p a
  pub untouched : (p a : ℕ) → s.plain.there p ≡ true
      → ((b : ℕ) → s.locks.map b ≡ Some (record { proc = p; writes = true }) → ⊥)
      → is_empty_place (s.places.place p (page_of a)) ≡ true → is_some (rights_of s.plain p (page_of a)) ≡ true
      → s.plain.bytes p a ≡ 0

-- after every such history each page shows what its process wrote
abbrev pub FramesRead : Type 0
FramesRead = (c : Program) → IsScript c → (h : List Entry) → DueFrom c [] h → ReadsRight (after h)

-- an allowed entry of any kind keeps the rules
abbrev pub RulesAreKept : Type 0
RulesAreKept =
    (c : Program) (s : After) (t : Past) (a : ℕ) (k : Kind) → Sound c s t → Allowed c s t a k
    → Sound c (next s a k) (past_next t s.length a k)

-- the entry passes the tests that legality makes of a state
pub record MayStand (c : Program) (s : After) (a : ℕ) (k : Kind) : Type 0 where
  pub answers : IsTrue (plain_accepts s.plain k)
  pub places : IsTrue (places_accept c (mirror_owner s.plain) s.places a k)
  pub sequences : IsTrue (sequences_accept s.sequences a k)
  pub guarded : IsTrue (narrows_guarded s.sequences s.places.place a k)

-- an allowed entry passes the tests of legality that a state decides
abbrev pub AllowedMayStand : Type 0
AllowedMayStand =
    (c : Program) (s : After) (t : Past) (a : ℕ) (k : Kind) → Sound c s t → Allowed c s t a k → MayStand c s a k

-- what stands after every history of entries that were due
abbrev pub HistoryStands : Type 0
HistoryStands = (c : Program) → IsScript c → (h : List Entry) → DueFrom c [] h → Stands c h
