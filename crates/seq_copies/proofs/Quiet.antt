-- Entries that do not touch a process leave its plain bytes.
use Rattle.std.proofs.Common.{◌≡◌, ◌≢◌, ℕ, ◌+◌, ◌==◌, zero, suc, ◌<◌, ◌≤◌, List, [], ◌∷◌, length, take, get_or, Option, Some, None, refl, sym, ap, ◌∙◌, arith, false, ne_eqb, add-zero}
use Rattle.std.specs.Prelude.{slice_get}
use Rattle.std.proofs.lemmas.List.{take_more}
use Rattle.std.proofs.lemmas.Option.{slice_get-get_or}
use Rattle.std.proofs.lemmas.List.Sums.{fold-append}
use Rattle.hm_history.specs.Memory.After.{after, after_nothing, after_entry}
use Rattle.hm_history.specs.Memory.Plain.{Plain, plain_next, touched, owner, mirror_owner, with_bytes, written_for}
use Rattle.hm_history.specs.Memory.Words.{with_at}
use Rattle.hm_history.specs.declared.Entry.{Entry}
use Rattle.hm_history.specs.declared.Kind.{Kind}
use Rattle.hm_turns.specs.Touching.{touch_at, touched_after}

-- at another place the old value stands
other_place : {X : Type 0} (f : ℕ → X) (k : ℕ) (x : X) (q : ℕ) → Some k ≢ Some q → with_at f k x q ≡ f q
other_place f k x q other = let no : (q == k) ≡ false = ne_eqb q k (λ e. other (ap Some (sym e))) in rw no refl

-- a write for another process
other_write : (f : ℕ → ℕ → ℕ) (o : Option ℕ) (at : ℕ) (bs : List ℕ) (q : ℕ) → o ≢ Some q → written_for f o at bs q ≡ f q
other_write f None at bs q other = refl
other_write f (Some p) at bs q other = other_place f p (with_bytes (f p) at bs) q other

-- an entry that does not touch the process
pub untouched : (s : Plain) (k : Kind) (q : ℕ) → touched s k ≢ Some q → (plain_next s k).bytes q ≡ s.bytes q
untouched s (Kind.Mapped p r w) q other = other_place s.bytes p _ q other
untouched s (Kind.Stored x at bs) q other = other_write s.bytes (owner s x) at bs q other
untouched s (Kind.Added m at was now) q other = other_write s.bytes (mirror_owner s m) at (now ∷ []) q other
untouched s (Kind.Forked p c) q other = other_place s.bytes c (s.bytes p) q other
untouched s _ q other = refl

pub same_areas : (s : Plain) (k : Kind) (q : ℕ) → touched s k ≢ Some q → (plain_next s k).areas q ≡ s.areas q
same_areas s (Kind.Mapped p r w) q other = other_place s.areas p _ q other
same_areas s (Kind.Unmapped p r) q other = other_place s.areas p _ q other
same_areas s (Kind.Protected p r w) q other = other_place s.areas p _ q other
same_areas s (Kind.Forked p c) q other = other_place s.areas c (s.areas p) q other
same_areas s (Kind.Exited p) q other = other_place s.areas p [] q other
same_areas s _ q other = refl

-- what such entries leave: a part of the plain state
module _ {X : Type 0} (part : Plain → X) (q : ℕ) (same : (s : Plain) (k : Kind) → touched s k ≢ Some q → part (plain_next s k) ≡ part s) where
  -- one entry more, which does not touch the process
  quiet_entry : (h : List Entry) (i : ℕ) → i < length h → touch_at h i ≢ Some q → part (after (take (i + 1) h)).plain ≡ part (after (take i h)).plain
  unfolding touched_after
  quiet_entry [] i lt other = absurd (omega (arith, lt))
  quiet_entry (d ∷ h) i lt other =
      let es : List Entry = d ∷ h in
      let e : Entry = get_or es i d in
      let here : slice_get es i ≡ Some e = slice_get-get_or es i d lt in
      let apart : touched (after (take i es)).plain e.kind ≢ Some q = λ t. other (ap (touched_after (take i es)) here ∙ t) in
      ap (λ (xs : List Entry). part (after xs).plain) (take_more es i d lt)
      ∙ ap (λ s. part s.plain) (fold-append after_entry after_nothing (take i es) (e ∷ []))
      ∙ same (after (take i es)).plain e.kind apart

  -- so many entries more, none of which touches the process
  pub quiet_entries : (h : List Entry) (i n : ℕ) → i + n ≤ length h → ((k : ℕ) → i ≤ k → k < i + n → touch_at h k ≢ Some q) → part (after (take (i + n) h)).plain ≡ part (after (take i h)).plain
  quiet_entries h i zero within other = ap (λ k. part (after (take k h)).plain) (add-zero i)
  quiet_entries h i (suc n) within other =
      let next : i + suc n ≡ (i + n) + 1 = omega arith in
      ap (λ k. part (after (take k h)).plain) next
      ∙ quiet_entry h (i + n) (omega (arith, within)) (other (i + n) (omega arith) (omega arith))
      ∙ quiet_entries h i n (omega (arith, within)) (λ k above below. other k above (omega arith))
