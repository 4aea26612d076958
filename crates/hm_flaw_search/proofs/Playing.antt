-- A key after turns, one after the other, and the entries that led to it.
use Rattle.std.proofs.Common.{◌≡◌, ℕ, ◌+◌, ◌<◌, ◌≤◌, false, ◌&&◌, Option, Some, None, List, [], ◌∷◌, ◌++◌, length, take, refl, sym, ap, ◌∙◌, subst, get_or, arith}
use Rattle.std.specs.Prelude.{Err, IfOk, IfSome, Ok, Result, is_none}
use Rattle.std.proofs.lemmas.Bool.{false≢true}
use Rattle.std.proofs.lemmas.List.{take_more}
use Rattle.std.proofs.lemmas.List.Sums.{fold-append}
use Rattle.hm_base.specs.Program.{Program}
use Rattle.hm_history.specs.Kernel.Going.{state_start}
use Rattle.hm_history.proofs.Going.{lengths}
use Rattle.hm_flaw_states.specs.Follows.{Standing}
use Rattle.hm_flaw_states.specs.States.{state_in}
use Rattle.hm_flaw_states.specs.Tidy.{TidyFor}
use Rattle.hm_flaw_states.specs.Turns.{IsKept}
use Rattle.hm_flaw_states.specs.declared.state.FlawState.{FlawState}
use Rattle.hm_history.specs.Kernel.Run.{is_entry}
use Rattle.hm_history.specs.declared.Entry.{Entry}
use Rattle.hm_history.specs.declared.Progress.{Progress}
use Rattle.hm_flaws.specs.declared.flaws.Flaw.{Flaw}
use Rattle.hm_flaws.specs.declared.parts.Part.{Part}
use Rattle.hm_flaws.specs.Flawed.{due_by, flawed_after}
use Rattle.hm_flaws.specs.Judged.{Judged, judged, judged_entry, judged_from, judged_on, judged_turn}
use Rattle.hm_flaws.specs.Parts.{broken_part}
use Rattle.hm_flaws.specs.Races.{part_in}
use Rattle.hm_flaw_states.specs.Keyed.{form_in}
use Rattle.hm_flaw_states.specs.Turns.{IsNextKey, IsTurned}
use Rattle.hm_flaw_states.specs.declared.key.FlawKey.{FlawKey}
use Rattle.hm_flaw_parts.specs.Races.Races.{FlawPoint, broken_at, is_due_at, point_from, point_turn}
use Rattle.hm_flaw_parts.specs.Races.Judging.{point_after, point_of}
use Rattle.hm_flaw_parts.proofs.BrokenTurns.{no_entry}
use Rattle.hm_flaw_parts.proofs.MarkedTurns.{broken_same}
use Rattle.hm_flaw_parts.proofs.Systems.{turn_stays}
use Rattle.hm_flaw_parts.proofs.Turns.{in_step, turns_are_judged, turns_go}
use Rattle.hm_flaw_search.specs.Races.{FlawRaceValue, IsCopy, IsFlawRace, IsKeyOf}
use Rattle.hm_flaw_search.specs.Owing.{IsOwed, IsOwedAt, IsOwedNow, earlier, race_entries}
use Rattle.hm_flaw_search.specs.Played.{IsOwedAfter, IsPlayed, found_by, found_with}
use Rattle.hm_flaw_search.specs.declared.answer.Owed.{Owed}
use Rattle.hm_flaw_search.proofs.Owing.{owed_more}
use Rattle.hm_flaw_search.proofs.Turning.{judged_more, turned_point}

-- ---- one turn more

-- the point after it
point_more : (parts : List Part) (l : Flaw) (c : Program) (h : List Entry) (turns : List ℕ) (a : ℕ) → point_after parts l c h (turns ++ a ∷ []) ≡ point_turn parts l c (point_after parts l c h turns) a
point_more parts l c h turns a = fold-append (point_turn parts l c) (point_from c h) turns (a ∷ [])

module _ (parts : List Part) (l : Flaw) (c : Program) (h : List Entry) (turns : List ℕ) (a : ℕ) (k : FlawKey) (p : IsPlayed parts l c h turns k) where
  abbrev so_far : Judged
  so_far = judged parts l c h turns

  same : form_in k ≡ point_of c h so_far
  same = p.form ∙ turns_are_judged parts l c h turns

  -- nothing is due
  judged_stays : (o : Option (Entry × Part)) (q : Progress) → due_by l c so_far.flawed a ≡ q → (is_none (part_in o) && is_entry q) ≡ false → judged_on parts l c h o so_far a ≡ so_far
  judged_stays (Some y) q d is = refl
  judged_stays None (Progress.Did e) d is = absurd (false≢true (sym is))
  judged_stays None (Progress.Waiting why) d is = ap (judged_turn parts l c h so_far) d
  judged_stays None Progress.Idle d is = ap (judged_turn parts l c h so_far) d

  all_stays : is_due_at l c (form_in k) a ≡ false → judged parts l c h (turns ++ a ∷ []) ≡ so_far
  all_stays is = judged_more parts l c h turns a (judged_from c h) ∙ judged_stays so_far.broken (due_by l c so_far.flawed a) refl (subst (λ (x : FlawPoint). is_due_at l c x a ≡ false) same is)

  pub played_stays : is_due_at l c (form_in k) a ≡ false → IsPlayed parts l c h (turns ++ a ∷ []) k
  played_stays is = record {
    form = sym (turn_stays parts l c (form_in k) a (form_in k).broken (due_by l c (form_in k).flawed a) refl is) ∙ (ap (λ (x : FlawPoint). point_turn parts l c x a) p.form ∙ sym (point_more parts l c h turns a));
    entries = p.entries ∙ ap (λ (x : Judged). x.entries) (sym (all_stays is));
    broken = p.broken ∙ ap (λ (x : Judged). x.broken) (sym (all_stays is));
  }

  -- nothing is owed that was not
  pub owed_stays : is_due_at l c (form_in k) a ≡ false → (was now : Option Owed) → IsOwedAfter parts l c h turns was → IsOwedAt l c (form_in k) a now → IsOwedAfter parts l c h (turns ++ a ∷ []) (earlier was now)
  owed_stays is was now q r = subst (λ (x : Judged). IsOwed l c h (race_entries (found_by x)) (earlier was now)) (sym (all_stays is)) (by was now q r)
    where
      never : (w : Owed) → IsOwedNow l c (form_in k) a w → ⊥
      never w y = false≢true (sym is ∙ (ap (λ (o : Option Part). is_none o && is_entry (due_by l c (form_in k).flawed a)) y.none ∙ ap is_entry y.made))

      by : (was now : Option Owed) → IsOwedAfter parts l c h turns was → IsOwedAt l c (form_in k) a now → IsOwedAfter parts l c h turns (earlier was now)
      by (Some w) now q r = q
      by None None q r = q
      by None (Some w) q r = absurd (never w r)

  module _ (n : FlawKey) (z : IsTurned parts l c k a n) where
    abbrev breaks : Option Part
    breaks = broken_at parts c (form_in k) z.entry

    none_before : so_far.broken ≡ None
    none_before = no_entry so_far.broken (sym (ap (λ (x : FlawPoint). x.broken) same) ∙ z.none)

    is_due : due_by l c so_far.flawed a ≡ Progress.Did z.entry
    is_due = subst (λ (x : FlawPoint). due_by l c x.flawed a ≡ Progress.Did z.entry) same z.due

    breaks_so : breaks ≡ broken_part parts c (h ++ so_far.entries) so_far.flawed.state.going z.entry
    breaks_so = ap (λ (x : FlawPoint). broken_at parts c x z.entry) same ∙ broken_same parts c (h ++ so_far.entries) so_far.flawed z.entry (in_step parts l c h so_far (turns_go parts l c h turns))

    judged_on_so : judged parts l c h (turns ++ a ∷ []) ≡ judged_entry parts l c h so_far z.entry breaks
    judged_on_so =
        judged_more parts l c h turns a (judged_from c h)
        ∙ (ap (λ (o : Option (Entry × Part)). judged_on parts l c h o so_far a) none_before
        ∙ (ap (judged_turn parts l c h so_far) is_due
        ∙ ap (judged_entry parts l c h so_far z.entry) (sym breaks_so)))

    form_so : form_in n ≡ point_after parts l c h (turns ++ a ∷ [])
    form_so = z.form ∙ (sym (turned_point parts l c (form_in k) a z.entry z.none z.due) ∙ (ap (λ (x : FlawPoint). point_turn parts l c x a) p.form ∙ sym (point_more parts l c h turns a)))

    by_part : (o : Option Part) → breaks ≡ o → IsPlayed parts l c h (turns ++ a ∷ []) n
    by_part None b =
        let now : judged parts l c h (turns ++ a ∷ []) ≡ judged_entry parts l c h so_far z.entry None = judged_on_so ∙ ap (judged_entry parts l c h so_far z.entry) b in
        record {
          form = form_so;
          entries = (z.on b).0 ∙ (ap (λ (es : List Entry). es ++ z.entry ∷ []) p.entries ∙ ap (λ (x : Judged). x.entries) (sym now));
          broken = (z.on b).1 ∙ ap (λ (x : Judged). x.broken) (sym now);
        }
    by_part (Some part) b =
        let now : judged parts l c h (turns ++ a ∷ []) ≡ judged_entry parts l c h so_far z.entry (Some part) = judged_on_so ∙ ap (judged_entry parts l c h so_far z.entry) b in
        record {
          form = form_so;
          entries = (z.ended part b).0 ∙ (p.entries ∙ ap (λ (x : Judged). x.entries) (sym now));
          broken = (z.ended part b).1 ∙ ap (λ (x : Judged). x.broken) (sym now);
        }

    pub played_on : IsPlayed parts l c h (turns ++ a ∷ []) n
    played_on = by_part breaks refl

    -- ---- what is owed

    race_by : (o : Option Part) → race_entries (found_by (judged_entry parts l c h so_far z.entry o)) ≡ so_far.entries ++ z.entry ∷ []
    race_by None = refl
    race_by (Some part) = refl

    race_on : race_entries (found_by (judged parts l c h (turns ++ a ∷ []))) ≡ so_far.entries ++ z.entry ∷ []
    race_on = ap (λ (x : Judged). race_entries (found_by x)) judged_on_so ∙ race_by breaks

    race_so_far : race_entries (found_by so_far) ≡ so_far.entries
    race_so_far = ap (λ (o : Option (Entry × Part)). race_entries (found_with so_far.entries o)) none_before

    here : (form_in k).flawed ≡ flawed_after l c h so_far.entries
    here = ap (λ (x : FlawPoint). x.flawed) same ∙ (turns_go parts l c h turns).same

    pub owed_on : (was now : Option Owed) → IsOwedAfter parts l c h turns was → IsOwedAt l c (form_in k) a now → IsOwedAfter parts l c h (turns ++ a ∷ []) (earlier was now)
    owed_on was now q r = subst (λ (es : List Entry). IsOwed l c h es (earlier was now)) (sym race_on) (owed_more l c h so_far.entries z.entry a (form_in k) here z.none z.due was now (subst (λ (es : List Entry). IsOwed l c h es was) race_so_far q) r)

module _ (parts : List Part) (l : Flaw) (c : Program) (h : List Entry) (turns : List ℕ) (i a : ℕ) (k m : FlawKey) (o : Option FlawKey) (p : IsPlayed parts l c h (take i turns) k) (below : i < length turns) (is : a ≡ get_or turns i a) (next : IsNextKey parts l c k a o) where
  more : take i turns ++ a ∷ [] ≡ take (i + 1) turns
  more = ap (λ (j : ℕ). take i turns ++ j ∷ []) is ∙ sym (take_more turns i a below)

  pub goes_on : (n : FlawKey) → o ≡ Some n → m ≡ n → IsPlayed parts l c h (take (i + 1) turns) m
  goes_on n some same = subst (IsPlayed parts l c h (take (i + 1) turns)) (sym same) (subst (λ (ts : List ℕ). IsPlayed parts l c h ts n) more (played_on parts l c h (take i turns) a k p n (subst (IsNextKey parts l c k a) some next)))

  pub goes_not : o ≡ None → m ≡ k → IsPlayed parts l c h (take (i + 1) turns) m
  goes_not none same = subst (IsPlayed parts l c h (take (i + 1) turns)) (sym same) (subst (λ (ts : List ℕ). IsPlayed parts l c h ts k) more (played_stays parts l c h (take i turns) a k p (subst (IsNextKey parts l c k a) none next)))

  pub owed_goes : (was now : Option Owed) → IsOwedAfter parts l c h (take i turns) was → IsOwedAt l c (form_in k) a now → IsOwedAfter parts l c h (take (i + 1) turns) (earlier was now)
  owed_goes was now q r = subst (λ (ts : List ℕ). IsOwedAfter parts l c h ts (earlier was now)) more (by o next)
    where
      by : (o : Option FlawKey) → IsNextKey parts l c k a o → IsOwedAfter parts l c h (take i turns ++ a ∷ []) (earlier was now)
      by None is = owed_stays parts l c h (take i turns) a k p is was now q r
      by (Some n) z = owed_on parts l c h (take i turns) a k p n z was now q r

-- ---- what is kept

pub key_first : (r : FlawRaceValue) → IsFlawRace r → (k : FlawKey) → IsCopy r.first k → IsKeyOf r k (length r.set_up)
key_first r stands k copy =
    let first = stands.first in
    let kept : IsKept r.judging r.first = first.kept r.judging in
    record {
      kept = record {
        tidy = subst (λ (x : FlawState). TidyFor r.judging (state_in x).after.places) (sym copy.state) kept.tidy;
        standing = subst (λ (x : FlawState). Standing (state_in x)) (sym copy.state) kept.standing;
      };
      few = omega (arith, ap (λ (y : FlawPoint). y.flawed.state.after.length) (copy.form ∙ first.form), lengths r.script (state_start r.script) r.set_up);
    }

pub key_after : {E : Type 0} (r : FlawRaceValue) (x : Result (Option FlawKey) E) (k : FlawKey) (i : ℕ) → IsKeyOf r k i → IfOk x (λ o. IfSome o (IsKept r.judging)) → IfOk x (λ o. IfSome o (λ m. m.state.value.entries ≤ k.state.value.entries + 1))
    → IfOk x (λ o. IfSome o (λ m. IsKeyOf r m (i + 1)))
key_after r (Ok (Some m)) k i h kept count = record { kept = kept; few = omega (arith, h.few, count) }
key_after r (Ok None) k i h kept count = tt
key_after r (Err e) k i h kept count = tt

pub key_next : (r : FlawRaceValue) (o : Option FlawKey) (n m : FlawKey) (i : ℕ) → o ≡ Some n → m ≡ n → IfSome o (λ k. IsKeyOf r k (i + 1)) → IsKeyOf r m (i + 1)
key_next r o n m i some same h = subst (λ k. IsKeyOf r k (i + 1)) (sym same) (subst (λ x. IfSome x (λ k. IsKeyOf r k (i + 1))) some h)

pub key_stays : (r : FlawRaceValue) (k m : FlawKey) (i : ℕ) → m ≡ k → IsKeyOf r k i → IsKeyOf r m (i + 1)
key_stays r k m i same h = subst (λ x. IsKeyOf r x (i + 1)) (sym same) (record { kept = h.kept; few = omega (arith, h.few) })
