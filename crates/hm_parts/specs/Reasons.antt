-- Reasons for which a page alone is kept.
use Rattle.hm_history.specs.declared.KeptWhy.{KeptWhy}

-- no frame is kept for the reason, and it asks for no lock and no free frame
abbrev pub IsOfPage : KeptWhy → Type 0
IsOfPage KeptWhy.NotHere = Unit {0}
IsOfPage KeptWhy.Skipped = Unit {0}
IsOfPage KeptWhy.Lost = Unit {0}
IsOfPage why = ⊥
