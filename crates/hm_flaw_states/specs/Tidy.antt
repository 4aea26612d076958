-- What judging by all parts asks of a state: what holds as long as each entry keeps the rules of places.
use Rattle.std.specs.Prelude.{◌≡◌, ℕ, true, false, ⊤}
use Rattle.std.specs.List.{list_any}
use Rattle.hm_base.specs.PlaceWords.{is_empty_place, is_frame, names}
use Rattle.hm_base.specs.declared.Frame.{Frame}
use Rattle.hm_history.specs.Memory.Places.{Places, is_page, one_writer}
use Rattle.hm_tables.specs.Shown.{is_once}
use Rattle.hm_flaw_parts.specs.declared.judged.Judging.{Judging}

-- the pages that have a place were placed, each stands once among these, what places name is held, and no place shares
-- what a writable one stands for
pub record IsTidy (s : Places) : Type 0 where
  pub once : is_once s.placed ≡ true
  pub listed : (p v : ℕ) → is_empty_place (s.place p v) ≡ false → list_any (is_page p v) s.placed ≡ true
  pub named : (p v : ℕ) (f : Frame) → is_frame (names (s.place p v)) f ≡ true → s.held f ≡ true
  pub one : one_writer s ≡ true

-- so it is if all parts are judged
abbrev pub TidyFor : Judging → Places → Type 0
TidyFor Judging.AllParts s = IsTidy s
TidyFor Judging.AnswersAlone s = ⊤
