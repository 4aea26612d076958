-- The steps that change a place, as the code takes them.
use Rattle.std.proofs.Common.{◌≡◌, ℕ, Option, List, set, sym, ap, ◌∙◌, subst}
use Rattle.hm_base.specs.declared.Frame.{Frame}
use Rattle.hm_base.specs.declared.Place.{Place}
use Rattle.hm_base.specs.PlaceWords.{names}
use Rattle.radix_tables.specs.Maps.{Map}
use Rattle.rev_maps.specs.Uses.{Uses}
use Rattle.hm_history.specs.declared.Kind.{Kind}
use Rattle.hm_tables.specs.Values.{Tables, table_of, place_of, table_with, size_in}
use Rattle.hm_tables.specs.Sound.{IsTables}
use Rattle.hm_tables.specs.Steps.{tables_next, uses_next, without_use_of, SaysOf, LosesUse, GainsUse, HasUseRoom, TablesFit, TablesRoom, TablesRange}
use Rattle.hm_tables.proofs.UsesKept.{loses_use}
use Rattle.hm_tables.proofs.UsesNext.{gains_after}
use Rattle.hm_tables.proofs.SoundKept.{tables_sound}

-- of a use
pub removes : (pools : List (List Uses)) (p v : ℕ) (old : Place) (o : Option Frame) → SaysOf pools p v old → o ≡ names old → LosesUse pools o p v
removes pools p v old o says e = subst (λ n. LosesUse pools n p v) (sym e) (loses_use pools p v old says)

pub adds : (pools : List (List Uses)) (p v : ℕ) (old new : Place) (o n : Option Frame) (out : List (List Uses)) → SaysOf pools p v old → HasUseRoom pools (names new) → o ≡ names old → out ≡ without_use_of p v o pools → n ≡ names new → GainsUse out n p v
adds pools p v old new o n out says room e f g =
    subst (λ z. GainsUse z n p v) (sym (f ∙ ap (λ r. without_use_of p v r pools) e))
    (subst (λ r. GainsUse (without_use_of p v (names old) pools) r p v) (sym g) (gains_after pools p v old says (names new) room))

-- of a place
pub says : (x : Tables) → IsTables x → (p v : ℕ) (old : Place) → old ≡ place_of x p v → SaysOf x.pools p v old
says x h p v old e = subst (SaysOf x.pools p v) (sym e) (h.exact p v)

pub has_room : (x t : Tables) → x ≡ t → (p v : ℕ) (y : Place) → TablesRoom (Kind.Place p v y) t → HasUseRoom x.pools (names y)
has_room x t s p v y room = subst (λ z. HasUseRoom z.pools (names y)) (sym s) room.1

-- the tables after the steps
pub is_next : (x : Tables) (p v : ℕ) (old y : Place) (pools : List (List Uses)) (tables : List Map) → old ≡ place_of x p v → pools ≡ uses_next p v old y x.pools →
    tables ≡ set x.processes p (table_with (table_of x p) v y) → ◌≡◌ {A = Tables} (record { processes = tables; pools = pools }) (tables_next (Kind.Place p v y) x)
is_next x p v old y pools tables e f g =
    ap (λ t. record { processes = t; pools = pools }) g
    ∙ ap (λ i. record { processes = set x.processes p (table_with (table_of x p) v y); pools = i }) (f ∙ ap (λ z. uses_next p v z y x.pools) e)

pub stays_sound : (x t : Tables) → x ≡ t → IsTables x → (p v : ℕ) (y : Place) (now : Tables) → now ≡ tables_next (Kind.Place p v y) x →
    TablesFit (size_in t.pools) (Kind.Place p v y) → TablesRange (Kind.Place p v y) → IsTables now
stays_sound x t s h p v y now e fits range =
    subst IsTables (sym e) (tables_sound x h p v y range.0 range.1 range.2 (subst (λ z. TablesFit (size_in z.pools) (Kind.Place p v y)) (sym s) fits))
