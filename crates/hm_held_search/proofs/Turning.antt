-- A turn of an actor at a key, if holds are kept.
use Rattle.std.proofs.Common.{◌≡◌, ℕ, ◌-◌, Bool, true, false, not, ◌&&◌, Option, Some, None, List, [], ◌∷◌, ◌++◌, length, refl, sym, ap, ◌∙◌, subst, arith}
use Rattle.std.specs.Prelude.{is_none, slice_get}
use Rattle.std.specs.List.{list_any}
use Rattle.std.proofs.lemmas.List.{length-append}
use Rattle.hm_base.specs.Program.{Program}
use Rattle.hm_history.specs.Kernel.Run.{is_entry}
use Rattle.hm_history.specs.declared.Entry.{Entry}
use Rattle.hm_flaws.specs.declared.flaws.Flaw.{Flaw}
use Rattle.hm_flaws.specs.declared.parts.Part.{Part}
use Rattle.hm_flaws.specs.Flawed.{due_by}
use Rattle.hm_flaw_parts.specs.Races.Races.{FlawPoint, broken_at, is_due_at, point_entry}
use Rattle.hm_flaw_states.specs.Keyed.{entries_in, form_in}
use Rattle.hm_flaw_states.specs.Turns.{IsTurned}
use Rattle.hm_flaw_states.specs.declared.key.FlawKey.{FlawKey}
use Rattle.hm_holds.specs.Held.{HeldPoint, held_go, held_on, held_turn, held_turned, holds_after}
use Rattle.hm_holds.specs.Holds.{stops_now}
use Rattle.hm_holds.specs.declared.holds.HoldState.{HoldState}
use Rattle.hm_held_search.specs.Keys.{held_form}
use Rattle.hm_held_search.specs.Races.{IsMade, holds_by, holds_last, holds_on}
use Rattle.hm_held_search.specs.declared.keys.HeldKey.{HeldKey}

-- the last of entries to which one more was added
last_added : (es : List Entry) (e : Entry) → slice_get (es ++ e ∷ []) (length es) ≡ Some e
last_added [] e = refl
last_added (x ∷ es) e = last_added es e

at_last : (es : List Entry) (e : Entry) → slice_get (es ++ e ∷ []) (length (es ++ e ∷ []) - 1) ≡ Some e
at_last es e =
    let place : length (es ++ e ∷ []) - 1 ≡ length es = omega (arith, length-append es (e ∷ [])) in
    ap (slice_get (es ++ e ∷ [])) place ∙ last_added es e

abbrev pub at : FlawPoint → List HoldState → HeldPoint
at p ss = record { point = p; holds = ss }

-- no hold stops the actor
abbrev pub is_free : List HoldState → ℕ → Bool
is_free ss a = not (list_any (λ s. stops_now s a) ss)

module _ (parts : List Part) (l : Flaw) (c : Program) (k : FlawKey) (ss : List HoldState) (a : ℕ) where
  -- a hold stops it
  pub held_stops : list_any (λ s. stops_now s a) ss ≡ true → held_go l c (at (form_in k) ss) a ≡ false
  held_stops stops = by (is_due_at l c (form_in k) a) ∙ refl
    where
      by : (b : Bool) → (b && is_free ss a) ≡ false
      by true = ap not stops
      by false = refl

  pub none_due : is_due_at l c (form_in k) a ≡ false → held_go l c (at (form_in k) ss) a ≡ false
  none_due none = ap (λ b. b && is_free ss a) none

  module _ (n : FlawKey) (z : IsTurned parts l c k a n) where
    due : is_due_at l c (form_in k) a ≡ true
    due = ap (λ (o : Option Part). is_none o && is_entry (due_by l c (form_in k).flawed a)) z.none ∙ ap is_entry z.due

    pub goes : list_any (λ s. stops_now s a) ss ≡ false → held_go l c (at (form_in k) ss) a ≡ true
    goes free = ap (λ b. b && is_free ss a) due ∙ ap not free

    holds_so : (o : Option Part) → broken_at parts c (form_in k) z.entry ≡ o → holds_by n ss ≡ holds_after ss z.entry o
    holds_so None b =
        ap (λ (y : Option (Entry × Part)). holds_on ss y (entries_in n)) (z.on b).1
        ∙ (ap (λ (es : List Entry). holds_on ss None es) (z.on b).0
        ∙ ap (holds_last ss) (at_last (entries_in k) z.entry))
    holds_so (Some part) b = ap (λ (y : Option (Entry × Part)). holds_on ss y (entries_in n)) (z.ended part b).1

    pub turns_to : list_any (λ s. stops_now s a) ss ≡ false → at (form_in n) (holds_by n ss) ≡ held_turn parts l c (at (form_in k) ss) a
    turns_to free =
        ap (λ (p : FlawPoint). at p (holds_by n ss)) z.form
        ∙ (ap (at (point_entry l c (form_in k) z.entry (broken_at parts c (form_in k) z.entry))) (holds_so (broken_at parts c (form_in k) z.entry) refl)
        ∙ (sym (ap (held_turned parts l c (at (form_in k) ss)) z.due)
        ∙ sym (ap (held_on parts l c (at (form_in k) ss) a) (goes free))))

-- the key that was made after a turn
pub next_so : (parts : List Part) (l : Flaw) (c : Program) (key k : HeldKey) (x : HeldPoint) (a : ℕ) (p n : FlawKey) (ss : List HoldState)
    → x ≡ held_form key → p ≡ key.race → ss ≡ key.holds.items → IsTurned parts l c p a n → IsMade n ss k → list_any (λ s. stops_now s a) key.holds.items ≡ false
    → (held_go l c x a ≡ true) × (held_form k ≡ held_turn parts l c x a)
next_so parts l c key k x a p n ss point race holds turned made free =
    let z = subst (λ (q : FlawKey). IsTurned parts l c q a n) race turned in (
      subst (λ (y : HeldPoint). held_go l c y a ≡ true) (sym point) (goes parts l c key.race key.holds.items a n z free),
      ap (λ (m : FlawKey). at (form_in m) k.holds.items) made.race
          ∙ (ap (at (form_in n)) (made.holds ∙ ap (holds_by n) holds)
          ∙ (turns_to parts l c key.race key.holds.items a n z free
          ∙ ap (λ (y : HeldPoint). held_turn parts l c y a) (sym point))),
    )
