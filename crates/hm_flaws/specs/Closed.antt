-- When a search has shown that a driver with a flaw breaks no part of legality: each key that it knows stands for
-- entries after which no entry breaks a part, and whose next keys it knows. A key may be of any type.
use Rattle.std.specs.Prelude.{◌≡◌, ℕ, None, List, [], ◌∷◌, ◌++◌}
use Rattle.hm_base.specs.Program.{Program}
use Rattle.hm_history.specs.declared.Entry.{Entry}
use Rattle.hm_race_laws.specs.Closed.{IsListed}
use Rattle.hm_flaws.specs.declared.flaws.Flaw.{Flaw}
use Rattle.hm_flaws.specs.Flawed.{flawed_after}
use Rattle.hm_flaws.specs.Parts.{Part}
use Rattle.hm_flaws.specs.Judged.{Unbroken, IsDueBy, broken_by}
use Rattle.hm_flaws.specs.Recalled.{recalled_of}

-- an entry that is due after x has one that is due after y, which are alike: it breaks a part only if that one does,
-- and after the two they are alike again
pub record Matched (parts : List Part) (l : Flaw) (c : Program) (h : List Entry)
    (Alike : List Entry → List Entry → Type 0) (x y : List Entry) (e : Entry) : Type 0 where
  pub entry : Entry
  pub is_due : IsDueBy l c h y entry
  pub next : Alike (x ++ e ∷ []) (y ++ entry ∷ [])
  pub passes : broken_by parts l c h y entry ≡ None → broken_by parts l c h x e ≡ None

-- entries with equal keys are alike, and those that are alike go on alike
pub record IsLikeness {K : Type 0} (parts : List Part) (l : Flaw) (c : Program) (h : List Entry)
    (key : List Entry → K) (Alike : List Entry → List Entry → Type 0) : Type 0 where
  pub by_key : (x y : List Entry) → Unbroken parts l c h x → Unbroken parts l c h y → key x ≡ key y → Alike x y
  pub joined : (x y z : List Entry) → Alike x y → Alike y z → Alike x z
  pub goes_on : (x y : List Entry) (e : Entry) → Alike x y → IsDueBy l c h x e → Matched parts l c h Alike x y e

-- a key that is done: entries that stand for it, after which no entry breaks a part, and whose next keys are all listed
pub record IsSafe {K : Type 0} (parts : List Part) (l : Flaw) (c : Program) (h : List Entry) (key : List Entry → K)
    (ks : List K) (k : K) : Type 0 where
  pub entries : List Entry
  pub unbroken : Unbroken parts l c h entries
  pub has_key : key entries ≡ k
  pub passes : (e : Entry) → IsDueBy l c h entries e → broken_by parts l c h entries e ≡ None
  pub onward : (e : Entry) → IsDueBy l c h entries e → IsListed ks (key (entries ++ e ∷ []))

-- a search with nothing left to look at: the key of the set-up is listed, and each listed key is done
pub record AllSafe {K : Type 0} (parts : List Part) (l : Flaw) (c : Program) (h : List Entry) (key : List Entry → K)
    (ks : List K) : Type 0 where
  pub from : IsListed ks (key [])
  pub each : (k : K) → IsListed ks k → IsSafe parts l c h key ks k

-- equal keys are equal states of the driver and all others, and equal in what the parts ask of the history
abbrev pub TellsApart : List Part → Flaw → Program → List Entry → (List Entry → List ℕ) → Type 0
TellsApart parts l c h key =
    (x y : List Entry) → Unbroken parts l c h x → Unbroken parts l c h y → key x ≡ key y
    → (flawed_after l c h x ≡ flawed_after l c h y) × (recalled_of c (h ++ x) ≡ recalled_of c (h ++ y))
