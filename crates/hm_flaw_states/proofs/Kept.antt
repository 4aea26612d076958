-- What holds of a key after a turn.
use Rattle.std.proofs.Common.{◌≡◌, ℕ, ◌+◌, ◌≤◌, Bool, true, false, Option, Some, None, List, [], ◌∷◌, ◌++◌, refl, sym, ap, ◌∙◌, subst, arith}
use Rattle.hm_base.specs.Program.{Program}
use Rattle.hm_history.specs.Memory.Places.{places_next}
use Rattle.hm_history.specs.Memory.Plain.{mirror_owner, plain_accepts}
use Rattle.hm_history.specs.declared.Entry.{Entry}
use Rattle.hm_history.specs.declared.Progress.{Progress}
use Rattle.hm_flaws.specs.Flawed.{Flawed, due_by}
use Rattle.hm_flaws.specs.declared.flaws.Flaw.{Flaw}
use Rattle.hm_flaws.specs.declared.parts.Part.{Part}
use Rattle.hm_flaw_parts.proofs.Turns.{due_to_own}
use Rattle.hm_flaw_parts.specs.Judged.{judged_parts}
use Rattle.hm_flaw_parts.specs.declared.judged.Judging.{Judging}
use Rattle.hm_flaw_parts.specs.Races.Races.{FlawPoint, broken_at, point_entry}
use Rattle.hm_flaw_states.specs.Follows.{Follows, Standing}
use Rattle.hm_flaw_states.specs.Keyed.{broken_in, entries_in, form_in}
use Rattle.hm_flaw_states.specs.Owns.{driver_in}
use Rattle.hm_flaw_states.specs.States.{state_in}
use Rattle.hm_flaw_states.specs.Turns.{IsKept, IsTurned}
use Rattle.hm_flaw_states.specs.declared.key.FlawKey.{FlawKey}
use Rattle.hm_flaw_states.specs.declared.owns.Own.{Own}
use Rattle.hm_flaw_states.specs.declared.state.FlawState.{FlawState}
use Rattle.hm_flaw_states.specs.Tidy.{TidyFor}
use Rattle.hm_flaw_states.proofs.Tidying.{tidy_next}

-- what the state that is kept goes on by
pub follows_kept : (l : Flaw) (c : Program) (x y : FlawState) (d o : Own) (e : Entry) → x ≡ y → d ≡ o → Follows l c y (driver_in o) e → Follows l c x (driver_in d) e
follows_kept l c x y d o e s t f =
    subst (λ (z : FlawState). Follows l c z (driver_in d) e) (sym s) (subst (λ (z : Own). Follows l c y (driver_in z) e) (sym t) f)

-- ---- what is due

-- ---- what breaks no part

met : (b : Bool) (part : Part) (rest : Option Part) → ◌≡◌ {A = Option Part} (elim b [ true ↦ rest | false ↦ Some part ]) None → b ≡ true
met true part rest e = refl
met false part rest e = cc

-- if the first part of two is met and none is broken, so is the second
second : (a b : Bool) (rest : Option Part) → ◌≡◌ {A = Option Part} (elim a [ true ↦ elim b [ true ↦ rest | false ↦ Some Part.Places ] | false ↦ Some Part.Answers ]) None → b ≡ true
second true true rest e = refl
second true false rest e = cc
second false b rest e = cc

pub answers_unbroken : (j : Judging) (c : Program) (x : FlawPoint) (e : Entry) → broken_at (judged_parts j) c x e ≡ None → plain_accepts x.flawed.state.after.plain e.kind ≡ true
answers_unbroken Judging.AllParts c x e n = met _ Part.Answers _ n
answers_unbroken Judging.AnswersAlone c x e n = met _ Part.Answers _ n

-- the state stays tidy if its places are judged
tidy_on : (j : Judging) (c : Program) (x : FlawPoint) (e : Entry) → TidyFor j x.flawed.state.after.places → broken_at (judged_parts j) c x e ≡ None → TidyFor j (places_next x.flawed.state.after.places e.kind)
tidy_on Judging.AllParts c x e t n =
    let s = x.flawed.state.after in
    tidy_next c (mirror_owner s.plain) s.places e.actor e.kind t (second (plain_accepts s.plain e.kind) _ _ n)
tidy_on Judging.AnswersAlone c x e t n = tt

-- the key with the entry among its entries
pub kept_on : (j : Judging) (l : Flaw) (c : Program) (k n : FlawKey) (e : Entry) → IsKept j k → broken_at (judged_parts j) c (form_in k) e ≡ None → form_in n ≡ point_entry l c (form_in k) e None
    → Standing (state_in n.state.value) → IsKept j n
kept_on j l c k n e h b f s = record {
  tidy = subst (λ (x : FlawPoint). TidyFor j x.flawed.state.after.places) (sym f) (tidy_on j c (form_in k) e h.tidy b);
  standing = s;
}

-- the key with an entry that broke a part beside them
pub kept_beside : (j : Judging) (k n : FlawKey) → IsKept j k → (form_in n).flawed ≡ (form_in k).flawed → IsKept j n
kept_beside j k n h same = record {
  tidy = subst (λ (x : Flawed). TidyFor j x.state.after.places) (sym same) h.tidy;
  standing = subst (λ (x : Flawed). Standing x.state) (sym same) h.standing;
}

-- what a turn goes on by
pub turn_follows : (j : Judging) (l : Flaw) (c : Program) (k : FlawKey) (a : ℕ) (e : Entry) → IsKept j k → k.state.value.entries ≤ 2000000 → due_by l c (form_in k).flawed a ≡ Progress.Did e → broken_at (judged_parts j) c (form_in k) e ≡ None
    → Follows l c k.state.value (driver_in k.own.value) e
turn_follows j l c k a e h few d b = record {
  is_due = due_to_own l c (form_in k).flawed a e d;
  answers = answers_unbroken j c (form_in k) e b;
  standing = h.standing;
  room = few;
}

-- ---- a turn

abbrev break_with : Entry → Option Part → Option (Entry × Part)
break_with e None = None
break_with e (Some part) = Some (e, part)

none≢some : (part : Part) (o : Option Part) → o ≡ None → o ≡ Some part → ⊥
none≢some part o e h = cc

pub turned_on : (parts : List Part) (l : Flaw) (c : Program) (k n : FlawKey) (a : ℕ) (e : Entry) → (form_in k).broken ≡ None → due_by l c (form_in k).flawed a ≡ Progress.Did e → broken_at parts c (form_in k) e ≡ None
    → form_in n ≡ point_entry l c (form_in k) e None → entries_in n ≡ entries_in k ++ e ∷ [] → broken_in n ≡ None → IsTurned parts l c k a n
turned_on parts l c k n a e none is b form trail broken = record {
  entry = e;
  none = none;
  due = is;
  form = form ∙ sym (ap (point_entry l c (form_in k) e) b);
  on = λ z. (trail, broken);
  ended = λ part z. absurd (none≢some part (broken_at parts c (form_in k) e) b z);
}

pub turned_ended : (parts : List Part) (l : Flaw) (c : Program) (k n : FlawKey) (a : ℕ) (e : Entry) (part : Part) → (form_in k).broken ≡ None → due_by l c (form_in k).flawed a ≡ Progress.Did e → broken_at parts c (form_in k) e ≡ Some part
    → form_in n ≡ point_entry l c (form_in k) e (Some part) → entries_in n ≡ entries_in k → broken_in n ≡ Some (e, part) → IsTurned parts l c k a n
turned_ended parts l c k n a e part none is b form trail broken = record {
  entry = e;
  none = none;
  due = is;
  form = form ∙ sym (ap (point_entry l c (form_in k) e) b);
  on = λ z. absurd (none≢some part (broken_at parts c (form_in k) e) z b);
  ended = λ other z. (trail, broken ∙ ap (λ (o : Option Part). break_with e o) (sym b ∙ z));
}

-- it adds one entry at most
pub count_on : (l : Flaw) (c : Program) (k n : FlawKey) (e : Entry) → form_in n ≡ point_entry l c (form_in k) e None → n.state.value.entries ≤ k.state.value.entries + 1
count_on l c k n e form = omega (arith, ap (λ (x : FlawPoint). x.flawed.state.after.length) form)

pub count_ended : (l : Flaw) (c : Program) (k n : FlawKey) (e : Entry) (part : Part) → form_in n ≡ point_entry l c (form_in k) e (Some part) → n.state.value.entries ≤ k.state.value.entries + 1
count_ended l c k n e part form = omega (arith, ap (λ (x : FlawPoint). x.flawed.state.after.length) form)
