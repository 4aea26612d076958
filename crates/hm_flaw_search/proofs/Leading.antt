-- Where a turn leads, with the driver and with the right one.
use Rattle.std.proofs.Common.{◌≡◌, ℕ, ◌+◌, ◌<◌, ◌≤◌, ◌⊎◌, inl, inr, Bool, true, false, Option, Some, None, List, [], ◌∷◌, length, get_or, take, refl, sym, ap, ◌∙◌, subst, arith}
use Rattle.std.specs.Prelude.{◌↔◌, IfOk, Result, Ok, Err}
use Rattle.std.proofs.lemmas.Bool.{cases_lt}
use Rattle.std.proofs.lemmas.List.{take_more}
use Rattle.std.proofs.lemmas.Option.{none-some}
use Rattle.hm_base.specs.Program.{Program}
use Rattle.hm_race_laws.specs.Closed.{IsListed}
use Rattle.hm_race_laws.proofs.Searching.{listed_cases}
use Rattle.hm_search.specs.declared.known.Known.{Known}
use Rattle.hm_search.proofs.Exploring.{listed_item}
use Rattle.hm_flaws.specs.declared.flaws.Flaw.{Flaw}
use Rattle.hm_flaws.specs.declared.parts.Part.{Part}
use Rattle.hm_flaws.specs.Flawed.{due_by}
use Rattle.hm_flaws.specs.Parts.{answers_alone}
use Rattle.hm_flaw_parts.specs.Races.Races.{FlawPoint, broken_at, is_due_at, point_entry, point_turn}
use Rattle.hm_flaw_parts.proofs.Systems.{turn_stays}
use Rattle.hm_flaw_states.specs.Keyed.{form_in}
use Rattle.hm_flaw_states.specs.Turns.{IsNextKey, IsTurned}
use Rattle.hm_flaw_states.specs.declared.key.FlawKey.{FlawKey}
use Rattle.hm_flaw_search.specs.Alike.{AllTurnAlike, LeadsAlike, TurnsAlike, entry_of}
use Rattle.hm_flaw_search.specs.Unused.{AreSameNext, KnownTurnAlike}
use Rattle.hm_flaw_search.proofs.Alike.{past_alike}
use Rattle.hm_flaw_search.proofs.Turning.{turned_point}

-- ---- one turn

module _ (c : Program) (k : FlawKey) (a : ℕ) where
  abbrev x : FlawPoint
  x = form_in k

  leads : (l : Flaw) (n : FlawKey) → IsTurned answers_alone l c k a n → point_turn answers_alone l c x a ≡ form_in n
  leads l n z = turned_point answers_alone l c x a z.entry z.none z.due ∙ sym z.form

  stays : (l : Flaw) → is_due_at l c x a ≡ false → point_turn answers_alone l c x a ≡ x
  stays l is = turn_stays answers_alone l c x a x.broken (due_by l c x.flawed a) refl is

  -- a turn that adds an entry does not lead back
  moves : (l : Flaw) (n : FlawKey) → IsTurned answers_alone l c k a n → x ≡ form_in n → ⊥
  moves l n z same = by (broken_at answers_alone c x z.entry) refl
    where
      by : (o : Option Part) → broken_at answers_alone c x z.entry ≡ o → ⊥
      by None b = omega (arith, ap (λ (y : FlawPoint). y.flawed.state.after.length) (same ∙ (z.form ∙ ap (point_entry l c x z.entry) b)))
      by (Some part) b = none-some part (sym z.none ∙ ap (λ (y : FlawPoint). y.broken) (same ∙ (z.form ∙ ap (point_entry l c x z.entry) b)))

  pub leads_by : (l : Flaw) (o p : Option FlawKey) → IsNextKey answers_alone l c k a o → IsNextKey answers_alone Flaw.NoFlaw c k a p → AreSameNext o p ↔ LeadsAlike l c x a
  leads_by l (Some n) (Some m) z y =
      let one = leads l n z in
      let other = leads Flaw.NoFlaw m y in
      (λ same. one ∙ (same ∙ sym other), λ alike. sym one ∙ (alike ∙ other))
  leads_by l (Some n) None z y = (λ no. absurd no, λ alike. moves l n z (sym (stays Flaw.NoFlaw y) ∙ (sym alike ∙ leads l n z)))
  leads_by l None (Some m) z y = (λ no. absurd no, λ alike. moves Flaw.NoFlaw m y (sym (stays l z) ∙ (alike ∙ leads Flaw.NoFlaw m y)))
  leads_by l None None z y = (λ t. stays l z ∙ sym (stays Flaw.NoFlaw y), λ alike. tt)

-- the entries are the same, and so it depends on where they lead
pub turns_by : {E : Type 0} (l : Flaw) (c : Program) (x : FlawPoint) (a : ℕ) (r : Result Bool E) → entry_of (due_by l c x.flawed a) ≡ entry_of (due_by Flaw.NoFlaw c x.flawed a) → IfOk r (λ b. (b ≡ true) ↔ LeadsAlike l c x a)
    → IfOk r (λ b. (b ≡ true) ↔ TurnsAlike l c x a)
turns_by l c x a (Ok b) same leads = (λ t. record { entry = same; leads = leads.0 t }, λ z. leads.1 z.leads)
turns_by l c x a (Err e) same leads = tt

-- ---- all actors

module _ (l : Flaw) (c : Program) (x : FlawPoint) where
  -- one actor more
  pub alike_on : (k a : ℕ) (b : Bool) → ((i : ℕ) → i < k → TurnsAlike l c x i) → a ≡ k → (b ≡ true) ↔ TurnsAlike l c x a → b ≡ true → (i : ℕ) → i < k + 1 → TurnsAlike l c x i
  alike_on k a b each this says is i less = by (cases_lt i k)
    where
      by : (i < k) ⊎ (k ≤ i) → TurnsAlike l c x i
      by (inl z) = each i z
      by (inr z) = let same : a ≡ i = omega (arith, this, z, less) in subst (TurnsAlike l c x) same (says.0 is)

  pub all_alike : (k n : ℕ) → n ≡ length c.actors → n ≤ k → ((i : ℕ) → i < k → TurnsAlike l c x i) → AllTurnAlike l c x
  all_alike k n all above each i = by (cases_lt i k)
    where
      by : (i < k) ⊎ (k ≤ i) → TurnsAlike l c x i
      by (inl z) = each i z
      by (inr z) = past_alike l c x i (omega (arith, all, above, z))

-- ---- all states that are known

-- the one at a place
pub listed_at : (ns : List (Known FlawKey)) (i : ℕ) (n : Known FlawKey) → i < length ns → n ≡ get_or ns i n → IsListed ns n
listed_at ns i n less is = subst (IsListed ns) (sym is) (listed_item ns i n less)

-- one state more
pub known_on : (l : Flaw) (c : Program) (ns : List (Known FlawKey)) (i : ℕ) (n : Known FlawKey) → i < length ns → n ≡ get_or ns i n → KnownTurnAlike l c (take i ns) → AllTurnAlike l c (form_in n.key) → KnownTurnAlike l c (take (i + 1) ns)
known_on l c ns i n less is so alike m listed = by (listed_cases (take i ns) (get_or ns i n ∷ []) m (subst (λ (xs : List (Known FlawKey)). IsListed xs m) (take_more ns i n less) listed))
  where
    by : IsListed (take i ns) m ⊎ IsListed (get_or ns i n ∷ []) m → AllTurnAlike l c (form_in m.key)
    by (inl k) = so m k
    by (inr (inl e)) = subst (λ (z : Known FlawKey). AllTurnAlike l c (form_in z.key)) (is ∙ e) alike
    by (inr (inr k)) = absurd k
