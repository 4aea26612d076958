-- Lists of passes.
use Rattle.std.proofs.Common.{◌≡◌, ℕ, zero, suc, ◌+◌, ◌<◌, List, [], ◌∷◌, ◌++◌, length, Option, Some, None, slice_get, Bool, true, false, sym, refl, ap, ◌∙◌, subst, ⊎_elim, inl, inr, arith}
use Rattle.std.proofs.lemmas.List.Sums.{sum_by_push, sum_by-cons}
use mathlib.Core.List.{IsPrefix}
use Rattle.hm_history.specs.declared.Entry.{Entry}
use Rattle.hm_base.specs.Program.{Program}
use Rattle.hm_history.specs.declared.Progress.{Progress}
use Rattle.hm_turns.specs.Sights.{Sight, Desk, joined, either_told}
use Rattle.hm_turns.specs.Stepping.{is_halted}
use Rattle.hm_history.specs.declared.StepError.{StepError}
use Rattle.hm_turns.proofs.Sums.{prefix_refl, prefix_trans, get_append, get_last}
use Rattle.std.proofs.lemmas.Option.{slice_get_within}
use Rattle.hm_workers.specs.Working.{AreOf, AllWork}
use Rattle.hm_workers.specs.Dealing.{shares_of, IsGathered, HaveEnded}

abbrev of_some : Sight → Option Sight → Sight
of_some d None = d
of_some d (Some x) = x

pub are_more : (d : Desk) (ps : List Sight) (q : Sight) → AreOf d ps → q.desk ≡ d → AreOf d (ps ++ q ∷ [])
are_more d [] q all own zero p e = ap (λ (o : Option Sight). (of_some q o).desk) (sym e) ∙ own
are_more d [] q all own (suc i) p e = absurd (let h = e in cc)
are_more d (x ∷ ps) q all own zero p e = all zero p e
are_more d (x ∷ ps) q all own (suc i) p e = are_more d ps q (λ j r a. all (suc j) r a) own i p e

pub shares_more : (ps : List Sight) (q : Sight) → shares_of (ps ++ q ∷ []) ≡ shares_of ps + q.shares
shares_more ps q = sum_by_push (λ (p : Sight). p.shares) ps q

pub are_less : (d : Desk) (all ps : List Sight) (q : Sight) → all ≡ ps ++ q ∷ [] → AreOf d all → AreOf d ps × (q.desk ≡ d)
are_less d all ps q is own = let own' = subst (AreOf d) is own in ((λ i p e. own' i p (get_append ps (q ∷ []) i (slice_get_within ps i p e) ∙ e)), own' (length ps) q (get_last ps q))

pub true_or : (a b : Option StepError) → is_halted a ≡ true → is_halted (either_told a b) ≡ true
true_or None b e = absurd (let h = e in cc)
true_or (Some x) b e = refl

or_true : (a b : Option StepError) → is_halted b ≡ true → is_halted (either_told a b) ≡ true
or_true None b e = e
or_true (Some x) b e = refl

pub halts_too : (a b : Option StepError) → ((e : StepError) → a ≡ Some e → b ≡ Some e) → is_halted a ≡ true → is_halted b ≡ true
halts_too None b same h = absurd (let g = h in cc)
halts_too (Some e) b same h = ap is_halted (same e refl)

pub halts_before : (a b : Option StepError) → ((e : StepError) → a ≡ Some e → b ≡ Some e) → is_halted b ≡ false → is_halted a ≡ false
halts_before None b same h = refl
halts_before (Some e) b same h = sym (ap is_halted (same e refl)) ∙ h

pub gathered_none : (v : Sight) → IsGathered v [] v
gathered_none v = record { first = prefix_refl v.list; told = λ t. t; each = λ i p e. absurd (let h = e in cc) }

-- what each pass that was taken in leaves in w
taken_in : (old v p w : Sight) (gone : List Sight) → IsGathered old gone v → w.told ≡ either_told v.told p.told → IsPrefix v.list w.list → IsPrefix p.list w.list
    → (i : ℕ) (q : Sight) → slice_get (p ∷ gone) i ≡ Some q → IsPrefix q.list w.list × (is_halted q.told ≡ true → is_halted w.told ≡ true)
taken_in old v p w gone k told one two zero q e = let same : p ≡ q = cc in subst (λ (z : Sight). IsPrefix z.list w.list × (is_halted z.told ≡ true → is_halted w.told ≡ true)) same (two, λ t. ap is_halted told ∙ or_true v.told p.told t)
taken_in old v p w gone k told one two (suc i) q e = let r = k.each i q e in (prefix_trans q.list v.list w.list r.0 one, λ t. ap is_halted told ∙ true_or v.told p.told (r.1 t))

pub gathered_more : (old v p w : Sight) (gone : List Sight) → IsGathered old gone v → w ≡ joined v p → IsPrefix v.list w.list → IsPrefix p.list w.list → IsGathered old (p ∷ gone) w
gathered_more old v p w gone k is one two = let told : w.told ≡ either_told v.told p.told = ap (λ (z : Sight). z.told) is in record {
  first = prefix_trans old.list v.list w.list k.first one;
  told = λ t. ap is_halted told ∙ true_or v.told p.told (k.told t);
  each = taken_in old v p w gone k told one two;
}

-- a pass that goes on after that
pub gathered_on : (old v w : Sight) (gone : List Sight) → IsGathered old gone v → IsPrefix v.list w.list → (is_halted v.told ≡ true → is_halted w.told ≡ true) → IsGathered old gone w
gathered_on old v w gone k later told = record {
  first = prefix_trans old.list v.list w.list k.first later;
  told = λ t. told (k.told t);
  each = λ i p at. let e = k.each i p at in (prefix_trans p.list v.list w.list e.0 later, λ t. told (e.1 t));
}

there_is : (ps : List Sight) (i : ℕ) → i < length ps → (p : Sight) × (slice_get ps i ≡ Some p)
there_is [] i lt = absurd (omega arith)
there_is (x ∷ ps) zero lt = (x, refl)
there_is (x ∷ ps) (suc i) lt = there_is ps i (omega arith)

same_shares : (ps qs : List Sight) → length qs ≡ length ps → ((i : ℕ) (p q : Sight) → slice_get ps i ≡ Some p → slice_get qs i ≡ Some q → q.shares ≡ p.shares) → shares_of qs ≡ shares_of ps
same_shares [] [] n each = refl
same_shares [] (q ∷ qs) n each = absurd (omega arith)
same_shares (p ∷ ps) [] n each = absurd (omega arith)
same_shares (p ∷ ps) (q ∷ qs) n each = let r = same_shares ps qs (omega arith) (λ i. each (suc i)) in let h = each 0 p q refl refl in omega (arith, sum_by-cons (λ (z : Sight). z.shares) q qs, sum_by-cons (λ (z : Sight). z.shares) p ps)

module _ (due : Program → List Entry → ℕ → Progress) (ps qs : List Sight) (w : AllWork due ps qs) where
  pub works_own : (d : Desk) → AreOf d ps → AreOf d qs
  works_own d own i q e = let lt = slice_get_within qs i q e in let n = w.count in let p = there_is ps i (omega arith) in (w.each i p.0 q p.1 e).0.desk ∙ own i p.0 p.1

  pub works_shares : shares_of qs ≡ shares_of ps
  works_shares = same_shares ps qs w.count (λ i p q a b. (w.each i p q a b).0.shares)

  pub works_ended : (d : Desk) (old new : Sight) (halted : Bool) → AreOf d ps → length ps ≡ length d.script.actors → IsGathered old qs new → (is_halted new.told ≡ true → halted ≡ true) → (h : List Entry) → h ≡ new.list → HaveEnded due d.script h halted
  works_ended d old new halted own n k stops h is a lt = let c = w.count in let p = there_is ps a (omega arith) in let q = there_is qs a (omega arith) in let r = w.each a p.0 q.0 p.1 q.1 in let seen = k.each a q.0 q.1 in
      let desk = works_own d own a q.0 q.1 in ⊎_elim
      (λ idle. inl (q.0.list, subst (IsPrefix q.0.list) (sym is) seen.0, ap (λ (s : Program). due s q.0.list a) (sym (ap (λ (z : Desk). z.script) desk)) ∙ idle))
      (λ told. inr (stops (seen.1 told))) r.1
