-- Known states have not too many entries.
use Rattle.std.proofs.Common.{ℕ, zero, suc, ◌+◌, ◌≤◌, inl, inr, List, [], ◌∷◌, get_or, length, map, refl, arith}
use Rattle.hm_base.specs.Program.{Program}
use Rattle.hm_history.specs.Kernel.Going.{state_start}
use Rattle.hm_history.specs.declared.Entry.{Entry}
use Rattle.hm_history.proofs.Going.{lengths}
use Rattle.hm_race_laws.specs.Closed.{IsListed}
use Rattle.hm_flaws.specs.declared.flaws.Flaw.{Flaw}
use Rattle.hm_flaws.specs.declared.parts.Part.{Part}
use Rattle.hm_search.specs.Known.{AreKnown, IsKnown, KnownValue}
use Rattle.hm_flaw_parts.specs.Races.Races.{FlawPoint, flaw_system}
use Rattle.hm_flaw_search.specs.Finding.{HaveRoom}

each_room : (n : ℕ) (ns : List (KnownValue FlawPoint)) → n ≤ 2000000 → ((v : KnownValue FlawPoint) → IsListed ns v → n + length v.turns ≤ 2000000) → (at : ℕ) → n + length (get_or (map (λ v. v.turns) ns) at []) ≤ 2000000
each_room n [] few each at = omega (arith, few)
each_room n (v ∷ ns) few each zero = each v (inl refl)
each_room n (v ∷ ns) few each (suc at) = each_room n ns few (λ w l. each w (inr l)) at

pub room_at : (parts : List Part) (l : Flaw) (c : Program) (h : List Entry) → length h ≤ 2000000 → (known : List (KnownValue FlawPoint)) → AreKnown (flaw_system parts l c h) known → HaveRoom h known
room_at parts l c h few known are = each_room (length h) known few (λ v listed. room v (are v listed))
  where
    room : (v : KnownValue FlawPoint) → IsKnown (flaw_system parts l c h) v → length h + length v.turns ≤ 2000000
    room v k = omega (arith, k.adds, k.room, lengths c (state_start c) h)
