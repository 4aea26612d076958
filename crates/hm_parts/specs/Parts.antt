-- Which parts of what a legal history asks of its next entry an entry meets, beside that it is due.
use Rattle.std.specs.Prelude.{◌≡◌, ◌↔◌, Bool, ◌&&◌, IsTrue, List}
use Rattle.hm_base.specs.Program.{Program}
use Rattle.hm_history.specs.Memory.Plain.{mirror_owner, plain_accepts}
use Rattle.hm_history.specs.Memory.Places.{places_accept}
use Rattle.hm_history.specs.Memory.Sequences.{sequences_accept}
use Rattle.hm_history.specs.Memory.Lookups.{uses_untold, narrows_guarded}
use Rattle.hm_history.specs.Memory.Rules.{fails_rightly}
use Rattle.hm_history.specs.Kernel.Legal.{MayFollow, kept_rightly}
use Rattle.hm_history.specs.Memory.After.{after}
use Rattle.hm_history.specs.Kernel.Due.{due}
use Rattle.hm_history.specs.Kernel.Going.{state_of}
use Rattle.hm_history.specs.declared.Entry.{Entry}
use Rattle.hm_history.specs.declared.Progress.{Progress}
use Rattle.hm_parts.specs.declared.parts.Parts.{Parts}

-- each field says whether the entry meets its part after the history
pub record AreParts (c : Program) (h : List Entry) (e : Entry) (x : Parts) : Type 0 where
  pub answers : x.answers ≡ plain_accepts (after h).plain e.kind
  pub places : x.places ≡ places_accept c (mirror_owner (after h).plain) (after h).places e.actor e.kind
  pub frames : x.frames ≡ fails_rightly c h e
  pub sequences : x.sequences ≡ sequences_accept (after h).sequences e.actor e.kind
  pub untold : x.untold ≡ uses_untold h e.kind
  pub guarded : x.guarded ≡ narrows_guarded (after h).sequences (after h).places.place e.actor e.kind
  pub kept : x.kept ≡ kept_rightly c (state_of c h) e

-- all parts are met
abbrev pub parts_hold : Parts → Bool
parts_hold x = x.answers && (x.places && (x.frames && (x.sequences && (x.untold && (x.guarded && x.kept)))))

-- the entry may follow the history if it is due and meets all parts, and only then
abbrev pub AllPartsSay : Type 0
AllPartsSay = (c : Program) (h : List Entry) (e : Entry) (x : Parts) → AreParts c h e x
    → (due c h e.actor ≡ Progress.Did e) × IsTrue (parts_hold x) ↔ MayFollow c h e
