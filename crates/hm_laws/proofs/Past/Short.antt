-- Where a fault or a removal is being given up, its actor's last entry but for places, `done` and `drop` told that no
-- system frame was free.
use Rattle.std.proofs.Common.{◌≡◌, ℕ, zero, suc, ◌≤◌, Bool, true, false, ◌==◌, ◌&&◌, if◌then◌else◌, not, is_none, Option, Some, None, List, [], ◌∷◌, ◌++◌, refl, ap, ◌∙◌, arith, length, drop, take}
use Rattle.std.specs.List.{list_any}
use Rattle.std.proofs.lemmas.Bool.Decides.{nat_tests}
use Rattle.std.proofs.lemmas.List.{drop-append-le, take-append-le}
use Rattle.std.proofs.Math.Seq.{drop-append_seam, take-append_seam}
use Rattle.std.proofs.lemmas.Bool.{and_parts, and_from}
use Rattle.hm_base.specs.Program.{Program}
use Rattle.hm_base.specs.declared.PoolId.{PoolId}
use Rattle.hm_history.specs.Memory.Places.{lowest_free}
use Rattle.hm_history.specs.Memory.Lookups.{last_where}
use Rattle.hm_history.specs.Memory.After.{after}
use Rattle.hm_history.specs.Memory.Rules.{is_finishing, is_no_frame, was_short, system_is_full}
use Rattle.hm_history.specs.declared.KeptAt.{KeptAt}
use Rattle.hm_history.specs.declared.KeptWhy.{KeptWhy}
use Rattle.hm_history.specs.declared.Entry.{Entry}
use Rattle.hm_history.specs.declared.Kind.{Kind}
use Rattle.hm_history.specs.declared.phases.Phase.{Phase}
use Rattle.hm_laws.proofs.Past.Told.{last_snoc}

abbrev pub is_given : Phase → Bool
is_given (Phase.GiveUp y) = true
is_given top = false

abbrev pub gives : List Phase → Bool
gives st = list_any is_given st

-- one more entry, which is another actor's or a place, `done` or `drop`
within : (j : ℕ) (h : List Entry) → is_no_frame (drop j h) ≡ true → j ≤ length h
within zero h e = omega arith
within (suc j) [] e = cc
within (suc j) (x ∷ h) e = omega (arith, within j h e)

no_frame_more : (h es : List Entry) → is_no_frame h ≡ true → is_no_frame (h ++ es) ≡ true
no_frame_more [] es e = cc
no_frame_more (x ∷ h) es e = e

pub short_same : (c : Program) (h : List Entry) (a : ℕ) (e : Entry) → ((e.actor == a) && not (is_finishing e.kind)) ≡ false → was_short c h a ≡ true → was_short c (h ++ e ∷ []) a ≡ true
short_same c h a e n w = ap (λ (x : Option ℕ). elim x [ None ↦ false | Some j ↦ is_no_frame (drop j (h ++ e ∷ [])) && system_is_full c (take j (h ++ e ∷ [])) ]) (last_snoc (λ i. (i.actor == a) && not (is_finishing i.kind)) h e ∙ ap (λ b. if b then Some (length h) else last_where (λ i. (i.actor == a) && not (is_finishing i.kind)) h) n) ∙ by (last_where (λ i. (i.actor == a) && not (is_finishing i.kind)) h) w
  where
    by : (x : Option ℕ) → elim x as (λ y. Bool) [ None ↦ false | Some j ↦ is_no_frame (drop j h) && system_is_full c (take j h) ] ≡ true → elim x as (λ y. Bool) [ None ↦ false | Some j ↦ is_no_frame (drop j (h ++ e ∷ [])) && system_is_full c (take j (h ++ e ∷ [])) ] ≡ true
    by None k = cc
    by (Some j) k = let z = and_parts (is_no_frame (drop j h)) (system_is_full c (take j h)) k in
        and_from (is_no_frame (drop j (h ++ e ∷ []))) _ (ap is_no_frame (drop-append-le j h (e ∷ []) (within j h z.0)) ∙ no_frame_more (drop j h) (e ∷ []) z.0) (ap (system_is_full c) (take-append-le j h (e ∷ []) (within j h z.0)) ∙ z.1)

-- the entry tells it
pub short_new : (c : Program) (h : List Entry) (a : ℕ) (at : KeptAt) → lowest_free c (after h).places PoolId.System ≡ None → was_short c (h ++ record { actor = a; kind = Kind.Kept at KeptWhy.NoFrame } ∷ []) a ≡ true
short_new c h a at n = ap (λ (x : Option ℕ). elim x [ None ↦ false | Some j ↦ is_no_frame (drop j (h ++ e ∷ [])) && system_is_full c (take j (h ++ e ∷ [])) ]) (last_snoc (λ i. (i.actor == a) && not (is_finishing i.kind)) h e ∙ ap (λ b. if b then Some (length h) else last_where (λ i. (i.actor == a) && not (is_finishing i.kind)) h) (and_from (a == a) true (itself a) refl))
    ∙ and_from (is_no_frame (drop (length h) (h ++ e ∷ []))) _ (ap is_no_frame (drop-append_seam h (e ∷ []))) (ap (system_is_full c) (take-append_seam h (e ∷ [])) ∙ ap is_none n)
  where
    e : Entry
    e = record { actor = a; kind = Kind.Kept at KeptWhy.NoFrame }

    itself : (a : ℕ) → (a == a) ≡ true
    itself a = grind (arith, nat_tests)
