use Rattle.std.proofs.Common.{◌≡◌, ℕ, List, true, false, ap, ◌∙◌}
use Rattle.std.specs.Prelude.{slice_get, slice_set, ◌==◌, ◌&&◌, if◌then◌else◌, is_ok, Result, Ok, Err, Some}
use Rattle.std.specs.List.{insert}
use Rattle.hm_race_keys.specs.Sparse.{rising_from, is_found, place_of, put, found}
use Rattle.hm_race_keys.specs.declared.sparse.Item.{Item}
use Rattle.hm_race_keys.proofs.Ordered.{put_over, put_between, put_rising, put_found, from_first}
use Rattle.hm_race_keys.proofs.sparse.Sparse.set.Goals as goal
use Rattle.hm_race_keys.proofs.sparse.Sparse.set.Goals.{in-Ok, in-Err}

rising_inserted : {V T E : Type 0} (o : Result T E) (ws ys : List (Item V)) (i : ℕ) (x : Item V) → ys ≡ (if is_ok o then insert ws i x else ws) → insert ws i x ≡ put x ws → rising_from 0 0 ws ≡ true → rising_from 0 0 ys ≡ true
rising_inserted (Ok y) ws ys i x e p r = ap (rising_from 0 0) (e ∙ p) ∙ put_rising x ws 0 0 r (from_first x)
rising_inserted (Err y) ws ys i x e p r = ap (rising_from 0 0) e ∙ r

found_put : {V : Type 0} (x : Item V) (ws ys vs : List (Item V)) (r k : ℕ) → ys ≡ put x ws → ws ≡ vs → found ys r k ≡ (if (r == x.row) && (k == x.number) then Some x.value else found vs r k)
found_put x ws ys vs r k e p = ap (λ zs. found zs r k) e ∙ (put_found x ws r k ∙ ap (λ zs. if (r == x.row) && (k == x.number) then Some x.value else found zs r k) p)

pub invariant_of-self : goal.invariant_of-self
invariant_of-self g c =
    let ws = c.self.inside.items.items in
    let x : Item g.row.V.Denot = record { number = c.args.number; row = c.args.row; value = c.args.value } in
    let at : c.place_of-place.result ≡ place_of c.args.row c.args.number ws = cc (c.place_of-place.ensures.place, c.as_slice.ensures.value) in
    let has : is_found c.args.row c.args.number (slice_get ws (place_of c.args.row c.args.number ws)) ≡ true = cc (at, c.has_at.ensures.has, c.as_slice-2.ensures.value, c.if-has_at.true) in
    ap (λ i. rising_from 0 0 (slice_set ws i x)) at ∙ (ap (rising_from 0 0) (put_over x ws has) ∙ put_rising x ws 0 0 c.self.invariant (from_first x))

pub returns-then-has_at-clause-ok : goal.returns-then-has_at-clause-ok
returns-then-has_at-clause-ok g c =
    let ws = c.self.inside.items.items in
    let x : Item g.row.V.Denot = record { number = c.args.number; row = c.args.row; value = c.args.value } in
    let at : c.place_of-place.result ≡ place_of c.args.row c.args.number ws = cc (c.place_of-place.ensures.place, c.as_slice.ensures.value) in
    let has : is_found c.args.row c.args.number (slice_get ws (place_of c.args.row c.args.number ws)) ≡ true = cc (at, c.has_at.ensures.has, c.as_slice-2.ensures.value, c.if-has_at.true) in
    λ r k. found_put x ws _ c.args.self.now r k (ap (λ i. slice_set ws i x) at ∙ put_over x ws has) c.self.view_is

pub invariant_of-self-2 : goal.invariant_of-self-2
invariant_of-self-2 g c =
    let ws = c.self.inside.items.items in
    let x : Item g.row.V.Denot = record { number = c.args.number; row = c.args.row; value = c.args.value } in
    let at : c.place_of-place.result ≡ place_of c.args.row c.args.number ws = cc (c.place_of-place.ensures.place, c.as_slice.ensures.value) in
    let has : is_found c.args.row c.args.number (slice_get ws (place_of c.args.row c.args.number ws)) ≡ false = cc (at, c.has_at.ensures.has, c.as_slice-2.ensures.value, c.if-has_at.false) in
    rising_inserted c.insert.result ws c.insert.new.self.items _ x c.insert.ensures.items (ap (λ i. insert ws i x) at ∙ put_between x ws has) c.self.invariant

pub returns-clause-ok : goal.returns-clause-ok
returns-clause-ok g c =
    let ws = c.self.inside.items.items in
    let x : Item g.row.V.Denot = record { number = c.args.number; row = c.args.row; value = c.args.value } in
    let at : c.place_of-place.result ≡ place_of c.args.row c.args.number ws = cc (c.place_of-place.ensures.place, c.as_slice.ensures.value) in
    let has : is_found c.args.row c.args.number (slice_get ws (place_of c.args.row c.args.number ws)) ≡ false = cc (at, c.has_at.ensures.has, c.as_slice-2.ensures.value, c.if-has_at.false) in
    elim c.match-insert.branch [
      | in-Ok w ↦ rw w.result-is (λ r k. found_put x ws _ c.args.self.now r k (w.in-Ok.ensures.items ∙ (ap (λ i. insert ws i x) at ∙ put_between x ws has)) c.self.view_is)
      | in-Err w ↦ rw w.result-is tt
    ]
