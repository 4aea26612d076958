-- Keys of one form have one number.
use Rattle.std.proofs.Common.{◌≡◌, ℕ, List, Option, [], map, sym, ap, ◌∙◌}
use Rattle.std.proofs.lemmas.List.{ext_get_or}
use Rattle.std.specs.Rc.{rc_value}
use Rattle.hm_base.specs.declared.Place.{Place}
use Rattle.hm_history.specs.Kernel.Going.{Going}
use Rattle.hm_history.specs.Memory.Places.{TableEntry}
use Rattle.hm_history.specs.declared.Kind.{Kind}
use Rattle.hm_race_laws.specs.Outcomes.{Point}
use Rattle.hm_race_keys.specs.Answers.{mixed_lists}
use Rattle.hm_race_keys.specs.PagePlaces.{mixed_place}
use Rattle.hm_race_keys.specs.Sparse.{mixed_items}
use Rattle.hm_race_keys.specs.TableEntries.{mixed_mapping}
use Rattle.hm_race_keys.specs.declared.sparse.Item.{Item}
use Rattle.hm_race_keys.specs.declared.table_entries.Mapping.{Mapping}
use Rattle.hm_race_keys.proofs.Ordered.{same_found}
use Rattle.hm_race_keys.proofs.Placing.{places_found}
use Rattle.hm_race_keys.proofs.TablesRead.{table_found}
use Rattle.hm_race_states.specs.Alike.{IsKey}
use Rattle.hm_race_states.specs.Buckets.{mixed_goings, key_number}
use Rattle.hm_race_states.specs.Keyed.{form_in}
use Rattle.hm_race_states.specs.States.{goings_in}
use Rattle.hm_race_states.specs.declared.key.StateKey.{StateKey}

-- the number, by what it is made of
abbrev number_by : List (List Kind) → (ℕ → Going) → List (Item Place) → List (Item Mapping) → ℕ
number_by said far places tables =
    mixed_items mixed_mapping (mixed_items mixed_place (mixed_goings (mixed_lists 1 said) 16 far) places) tables

same_parts : (a b : List (List Kind)) (f g : ℕ → Going) (p q : List (Item Place)) (t u : List (Item Mapping))
    → a ≡ b → f ≡ g → p ≡ q → t ≡ u → number_by a f p t ≡ number_by b g q u
same_parts a b f g p q t u d e h k =
    ap (λ z. number_by z f p t) d ∙ ap (λ z. number_by b z p t) e
    ∙ ap (λ z. number_by b g z t) h ∙ ap (λ z. number_by b g q z) k

same_answers : (x y : StateKey) → IsKey x → IsKey y → form_in x ≡ form_in y
    → x.answers.value.lists.items ≡ y.answers.value.lists.items
same_answers x y h k e =
    let none : List Kind = [] in
    ext_get_or none x.answers.value.lists.items y.answers.value.lists.items (h.sized ∙ sym k.sized)
    (λ i l. ap {B = List Kind} (λ (z : Point). z.answers i) e)

same_goings : (x y : StateKey) → form_in x ≡ form_in y
    → goings_in (map rc_value x.state.tasks.items) ≡ goings_in (map rc_value y.state.tasks.items)
same_goings x y e = ap {B = ℕ → Going} (λ (z : Point). z.state.going) e

same_places : (x y : StateKey) → IsKey x → IsKey y → form_in x ≡ form_in y
    → x.state.places.value ≡ y.state.places.value
same_places x y h k e =
    let found = places_found x.state.places.value y.state.places.value h.placed k.placed
    (λ p v. ap {B = Place} (λ (z : Point). z.state.after.places.place p v) e) in
    same_found 0 0 x.state.places.value y.state.places.value h.places k.places found

same_tables : (x y : StateKey) → IsKey x → IsKey y → form_in x ≡ form_in y
    → x.state.tables.value ≡ y.state.tables.value
same_tables x y h k e =
    let found = table_found x.state.tables.value y.state.tables.value
    (λ m v. ap {B = Option TableEntry} (λ (z : Point). z.state.after.places.table m v) e) in
    same_found 0 0 x.state.tables.value y.state.tables.value h.tables k.tables found

-- keys of one form have one number
pub same_number : (x y : StateKey) → IsKey x → IsKey y → form_in x ≡ form_in y → key_number x ≡ key_number y
same_number x y h k e =
    same_parts _ _ _ _ _ _ _ _ (same_answers x y h k e) (same_goings x y e) (same_places x y h k e)
    (same_tables x y h k e)
