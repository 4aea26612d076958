-- When what is kept is what the rules ask of a history.
use Rattle.std.specs.Prelude.{◌≡◌, ℕ, false, if◌then◌else◌, List, [], ◌∷◌, slice_index_or}
use Rattle.hm_base.specs.Program.{Program}
use Rattle.hm_flaws.specs.Recalled.{Recalled, fails_rightly_in, recalled_next, uses_untold_in}
use Rattle.hm_folds.specs.Kept.{sequences_of}
use Rattle.hm_folds.specs.Places.{PlacesShown, owners_of}
use Rattle.hm_folds.specs.Plain.{plain_of}
use Rattle.hm_history.specs.Memory.After.{After}
use Rattle.hm_history.specs.Memory.Lookups.{narrows_guarded}
use Rattle.hm_history.specs.Memory.Places.{places_accept}
use Rattle.hm_history.specs.Memory.Plain.{mirror_owner, plain_accepts}
use Rattle.hm_history.specs.Memory.Sequences.{sequences_accept}
use Rattle.hm_history.specs.declared.Entry.{Entry}
use Rattle.hm_parts.specs.Rules.{leads_on}
use Rattle.hm_parts.specs.Pasts.{AreRecalled}
use Rattle.hm_parts.specs.declared.follower.Follower.{Follower}
use Rattle.hm_parts.specs.declared.rules.Rules.{Rules}

-- ---- what is kept

-- each part of what is kept is that of what is recalled
pub record IsFollowed (c : Program) (r : Recalled) (x : Follower) : Type 0 where
  pub plain : plain_of x.plain ≡ r.state.plain
  pub shown : PlacesShown c r.state.places x.places
  pub owners : (m : ℕ) → owners_of x.places m ≡ mirror_owner r.state.plain m
  pub sequences : sequences_of x.sequences ≡ r.state.sequences
  pub pasts : AreRecalled r x.pasts
  pub short : (a : ℕ) → slice_index_or x.short a false ≡ r.short a

-- so of each script, and of all that may be recalled if this is kept
abbrev pub ForFollowed : Follower → (Program → Recalled → Type 0) → Type 0
ForFollowed x P = (c : Program) (r : Recalled) → IsFollowed c r x → P c r

-- what is kept stands for this state of the memory manager
pub record StandsFor (c : Program) (s : After) (x : Follower) : Type 0 where
  pub plain : plain_of x.plain ≡ s.plain
  pub shown : PlacesShown c s.places x.places
  pub sequences : sequences_of x.sequences ≡ s.sequences

-- ---- the rules, by what is recalled

-- which rules the entry keeps
abbrev pub rules_in : Program → Recalled → Entry → Rules
rules_in c r e = record {
  answers = plain_accepts r.state.plain e.kind;
  places = places_accept c (mirror_owner r.state.plain) r.state.places e.actor e.kind;
  frames = fails_rightly_in c r e;
  sequences = sequences_accept r.state.sequences e.actor e.kind;
  untold = uses_untold_in r e.kind;
  guarded = narrows_guarded r.state.sequences r.state.places.place e.actor e.kind;
  goes_on =
      leads_on
      (plain_accepts r.state.plain e.kind)
      (places_accept c (mirror_owner r.state.plain) r.state.places e.actor e.kind)
      (sequences_accept r.state.sequences e.actor e.kind)
      e.kind;
}

-- the same, a field for each rule
pub record AreRules (c : Program) (r : Recalled) (e : Entry) (x : Rules) : Type 0 where
  pub answers : x.answers ≡ plain_accepts r.state.plain e.kind
  pub places : x.places ≡ places_accept c (mirror_owner r.state.plain) r.state.places e.actor e.kind
  pub frames : x.frames ≡ fails_rightly_in c r e
  pub sequences : x.sequences ≡ sequences_accept r.state.sequences e.actor e.kind
  pub untold : x.untold ≡ uses_untold_in r e.kind
  pub guarded : x.guarded ≡ narrows_guarded r.state.sequences r.state.places.place e.actor e.kind
  pub goes_on : x.goes_on ≡ leads_on x.answers x.places x.sequences e.kind

-- which rules each of these entries keeps, up to the first after which there is no state
abbrev pub rules_on : Program → Recalled → List Entry → List Rules
rules_on c r [] = []
rules_on c r (e ∷ es) =
    let x = rules_in c r e in x ∷ (if x.goes_on then rules_on c (recalled_next c r e) es else [])
