-- A driver that does at each point what the right one does comes in all turns to what that comes to, and the other way round.
use Rattle.std.proofs.Common.{◌≡◌, ℕ, ◌≤◌, Bool, true, false, Option, Some, None, List, [], ◌∷◌, ◌++◌, length, refl, sym, ap, ◌∙◌, subst, append_assoc, append-nil}
use Rattle.std.specs.Prelude.{is_some}
use Rattle.std.proofs.lemmas.Bool.{false≢true}
use Rattle.std.proofs.lemmas.List.{append_cancel_left}
use Rattle.hm_base.specs.Program.{Program}
use Rattle.hm_base.specs.declared.ops.Op.{Op}
use Rattle.hm_history.specs.Kernel.Going.{op_at}
use Rattle.hm_history.specs.declared.Entry.{Entry}
use Rattle.hm_history.specs.declared.Progress.{Progress}
use Rattle.hm_history.specs.declared.phases.Phase.{Phase}
use Rattle.hm_history.proofs.Going.{no_op}
use Rattle.hm_flaws.specs.declared.flaws.Flaw.{Flaw}
use Rattle.hm_flaws.specs.declared.parts.Part.{Part}
use Rattle.hm_flaws.specs.Flawed.{Flawed, due_by, due_flawed_top, flawed_next, found}
use Rattle.hm_flaws.specs.Judged.{Judged, judged, judged_entry, judged_from, judged_on, judged_turn}
use Rattle.hm_flaws.specs.Parts.{answers_alone, broken_part}
use Rattle.hm_flaw_parts.specs.Judged.{judged_parts}
use Rattle.hm_flaw_parts.specs.declared.judged.Judging.{Judging}
use Rattle.hm_flaw_parts.specs.Marks.{marked_next}
use Rattle.hm_flaw_parts.specs.Races.Races.{FlawPoint, broken_at, point_entry, point_on, point_turn, point_turned}
use Rattle.hm_flaw_parts.specs.Races.Judging.{NoTurnsBreak, point_after, point_of}
use Rattle.hm_flaw_parts.proofs.BrokenTurns.{no_entry}
use Rattle.hm_flaw_parts.proofs.MarkedTurns.{broken_same}
use Rattle.hm_flaw_parts.proofs.Turns.{in_step, turns_are_judged, turns_go}
use Rattle.hm_flaw_search.specs.Alike.{AllTurnAlike, NeverDiffers, TurnsAlike, entry_of}
use Rattle.hm_flaw_search.proofs.Turning.{judged_more, turned_point}

-- ---- actors that the script has not

-- such an actor is idle
is_idle : (l : Flaw) (c : Program) (t : Flawed) (a : ℕ) → length c.actors ≤ a → due_by l c t a ≡ Progress.Idle
is_idle l c t a past = by (op_at c a (t.state.going a).index) (t.state.going a).stack (no_op c a (t.state.going a).index past)
  where
    by : (o : Option Op) (stack : List Phase) → o ≡ None → due_flawed_top l c t.driver (found l c t) a o (t.state.going a).pages stack ≡ Progress.Idle
    by None [] n = refl
    by None (x ∷ stack) n = refl
    by (Some o) stack n = absurd cc

-- a turn that adds nothing leads nowhere
stays : (parts : List Part) (l : Flaw) (c : Program) (x : FlawPoint) (a : ℕ) (o : Option Part) (p : Progress) → x.broken ≡ o → due_by l c x.flawed a ≡ p → entry_of p ≡ None → point_turn parts l c x a ≡ x
stays parts l c x a (Some part) p b d is = ap (λ (o : Option Part). point_on parts l c o x a) b
stays parts l c x a None (Progress.Did e) b d is = absurd cc
stays parts l c x a None (Progress.Waiting why) b d is = ap (λ (o : Option Part). point_on parts l c o x a) b ∙ ap (point_turned parts l c x) d
stays parts l c x a None Progress.Idle b d is = ap (λ (o : Option Part). point_on parts l c o x a) b ∙ ap (point_turned parts l c x) d

-- two turns that add nothing are alike
both_stay : (l : Flaw) (c : Program) (x : FlawPoint) (a : ℕ) → entry_of (due_by l c x.flawed a) ≡ None → entry_of (due_by Flaw.NoFlaw c x.flawed a) ≡ None → TurnsAlike l c x a
both_stay l c x a p q = record {
  entry = p ∙ sym q;
  leads = stays answers_alone l c x a x.broken (due_by l c x.flawed a) refl refl p ∙ sym (stays answers_alone Flaw.NoFlaw c x a x.broken (due_by Flaw.NoFlaw c x.flawed a) refl refl q);
}

pub past_alike : (l : Flaw) (c : Program) (x : FlawPoint) (a : ℕ) → length c.actors ≤ a → TurnsAlike l c x a
past_alike l c x a past = both_stay l c x a (ap entry_of (is_idle l c x.flawed a past)) (ap entry_of (is_idle Flaw.NoFlaw c x.flawed a past))

-- ---- parts

-- what breaks none of the parts that are judged gives no wrong answer
answers_kept : (j : Judging) (c : Program) (x : FlawPoint) (e : Entry) → broken_at (judged_parts j) c x e ≡ None → broken_at answers_alone c x e ≡ None
answers_kept Judging.AllParts c x e n = met _ _ n
  where
    met : (b : Bool) (rest : Option Part) → ◌≡◌ {A = Option Part} (elim b [ true ↦ rest | false ↦ Some Part.Answers ]) None → ◌≡◌ {A = Option Part} (elim b [ true ↦ None | false ↦ Some Part.Answers ]) None
    met true rest n = refl
    met false rest n = cc
answers_kept Judging.AnswersAlone c x e n = n

module _ (j : Judging) (l : Flaw) (c : Program) (h : List Entry) (whole : NoTurnsBreak (judged_parts j) l c h) where
  abbrev parts : List Part
  parts = judged_parts j

  abbrev comes : List ℕ → Judged
  comes turns = judged parts l c h turns

  abbrev rightly : List ℕ → Judged
  rightly turns = judged parts Flaw.NoFlaw c h turns

  -- the point after turns is that of what they come to
  same_point : (turns : List ℕ) → point_after parts l c h turns ≡ point_of c h (comes turns)
  same_point turns = turns_are_judged parts l c h turns

  none_broken : (turns : List ℕ) → (comes turns).broken ≡ None
  none_broken turns = no_entry (comes turns).broken (sym (ap (λ (x : FlawPoint). x.broken) (same_point turns)) ∙ whole turns)

  -- a turn more of a driver
  more : (k : Flaw) (turns : List ℕ) (a : ℕ) (x : Judged) → judged parts k c h turns ≡ x → x.broken ≡ None → judged parts k c h (turns ++ a ∷ []) ≡ judged_turn parts k c h x (due_by k c x.flawed a)
  more k turns a x is none =
      judged_more parts k c h turns a (judged_from c h)
      ∙ (ap (λ (y : Judged). judged_on parts k c h y.broken y a) is
      ∙ ap (λ (o : Option (Entry × Part)). judged_on parts k c h o x a) none)

  -- an entry that is due after these turns breaks no part
  breaks_none : (turns : List ℕ) (a : ℕ) (e : Entry) → due_by l c (comes turns).flawed a ≡ Progress.Did e → broken_part parts c (h ++ (comes turns).entries) (comes turns).flawed.state.going e ≡ None
  breaks_none turns a e d = by (broken_part parts c (h ++ (comes turns).entries) (comes turns).flawed.state.going e) refl
    where
      x : Judged
      x = comes turns

      by : (o : Option Part) → broken_part parts c (h ++ x.entries) x.flawed.state.going e ≡ o → broken_part parts c (h ++ x.entries) x.flawed.state.going e ≡ None
      by None b = b
      by (Some part) b =
          let now : comes (turns ++ a ∷ []) ≡ judged_entry parts l c h x e (Some part) = more l turns a x refl (none_broken turns) ∙ (ap (judged_turn parts l c h x) d ∙ ap (judged_entry parts l c h x e) b) in
          absurd (false≢true (sym (ap (λ (o : Option (Entry × Part)). is_some o) (none_broken (turns ++ a ∷ []))) ∙ ap (λ (y : Judged). is_some y.broken) now))

  -- so none at the point
  none_at : (turns : List ℕ) (a : ℕ) (e : Entry) → due_by l c (comes turns).flawed a ≡ Progress.Did e → broken_at answers_alone c (point_of c h (comes turns)) e ≡ None
  none_at turns a e d =
      answers_kept j c (point_of c h (comes turns)) e
      (broken_same parts c (h ++ (comes turns).entries) (comes turns).flawed e (in_step parts l c h (comes turns) (turns_go parts l c h turns)) ∙ breaks_none turns a e d)

  -- where a turn leads that adds an entry
  leads_to : (k : Flaw) (turns : List ℕ) (a : ℕ) (e : Entry) → due_by k c (comes turns).flawed a ≡ Progress.Did e → broken_at answers_alone c (point_of c h (comes turns)) e ≡ None
      → point_turn answers_alone k c (point_of c h (comes turns)) a ≡ point_entry k c (point_of c h (comes turns)) e None
  leads_to k turns a e d b =
      let x = point_of c h (comes turns) in
      turned_point answers_alone k c x a e (sym (ap (λ (y : FlawPoint). y.broken) (same_point turns)) ∙ whole turns) d ∙ ap (point_entry k c x e) b

  -- ---- from each point to all turns

  turn_on : (turns : List ℕ) (a : ℕ) → TurnsAlike l c (point_of c h (comes turns)) a → judged_turn parts l c h (comes turns) (due_by l c (comes turns).flawed a) ≡ judged_turn parts Flaw.NoFlaw c h (comes turns) (due_by Flaw.NoFlaw c (comes turns).flawed a)
  turn_on turns a alike = by (due_by l c x.flawed a) (due_by Flaw.NoFlaw c x.flawed a) refl refl alike.entry
    where
      x : Judged
      x = comes turns

      one : (e : Entry) → due_by l c x.flawed a ≡ Progress.Did e → due_by Flaw.NoFlaw c x.flawed a ≡ Progress.Did e → judged_turn parts l c h x (Progress.Did e) ≡ judged_turn parts Flaw.NoFlaw c h x (Progress.Did e)
      one e p q =
          let b = breaks_none turns a e p in
          let n = none_at turns a e p in
          let next : flawed_next l c x.flawed e ≡ flawed_next Flaw.NoFlaw c x.flawed e = ap (λ (y : FlawPoint). y.flawed) (sym (leads_to l turns a e p n) ∙ (alike.leads ∙ leads_to Flaw.NoFlaw turns a e q n)) in
          ap (judged_entry parts l c h x e) b ∙ (ap (λ (t : Flawed). record { flawed = t; entries = x.entries ++ e ∷ []; broken = None }) next ∙ sym (ap (judged_entry parts Flaw.NoFlaw c h x e) b))

      by : (p q : Progress) → due_by l c x.flawed a ≡ p → due_by Flaw.NoFlaw c x.flawed a ≡ q → entry_of p ≡ entry_of q → judged_turn parts l c h x p ≡ judged_turn parts Flaw.NoFlaw c h x q
      by (Progress.Did e) (Progress.Did f) p q is = let same : e ≡ f = cc in subst (λ (z : Entry). judged_turn parts l c h x (Progress.Did e) ≡ judged_turn parts Flaw.NoFlaw c h x (Progress.Did z)) same (one e p (q ∙ ap Progress.Did (sym same)))
      by (Progress.Did e) (Progress.Waiting why) p q is = absurd cc
      by (Progress.Did e) Progress.Idle p q is = absurd cc
      by (Progress.Waiting why) (Progress.Did f) p q is = absurd cc
      by (Progress.Waiting why) (Progress.Waiting other) p q is = refl
      by (Progress.Waiting why) Progress.Idle p q is = refl
      by Progress.Idle (Progress.Did f) p q is = absurd cc
      by Progress.Idle (Progress.Waiting other) p q is = refl
      by Progress.Idle Progress.Idle p q is = refl

  pub never_differs : ((turns : List ℕ) → AllTurnAlike l c (point_after parts l c h turns)) → NeverDiffers parts l c h
  never_differs each turns = go [] turns refl
    where
      step : (done : List ℕ) (a : ℕ) → comes done ≡ rightly done → comes (done ++ a ∷ []) ≡ rightly (done ++ a ∷ [])
      step done a same =
          more l done a (comes done) refl (none_broken done)
          ∙ (turn_on done a (subst (λ (y : FlawPoint). TurnsAlike l c y a) (same_point done) (each done a))
          ∙ sym (more Flaw.NoFlaw done a (comes done) (sym same) (none_broken done)))

      go : (done rest : List ℕ) → comes done ≡ rightly done → comes (done ++ rest) ≡ rightly (done ++ rest)
      go done [] same = subst (λ (ts : List ℕ). comes ts ≡ rightly ts) (sym (append-nil done)) same
      go done (a ∷ rest) same = subst (λ (ts : List ℕ). comes ts ≡ rightly ts) (append_assoc done (a ∷ []) rest) (go (done ++ a ∷ []) rest (step done a same))

  -- ---- from all turns to each point

  -- after an entry that breaks no part
  abbrev after_entry_of : Flaw → Judged → Entry → Judged
  after_entry_of k x e = record { flawed = flawed_next k c x.flawed e; entries = x.entries ++ e ∷ []; broken = None }

  with_entry : (k : Flaw) (x : Judged) (e : Entry) → (judged_turn parts k c h x (Progress.Did e)).broken ≡ None → judged_turn parts k c h x (Progress.Did e) ≡ after_entry_of k x e
  with_entry k x e none = by (broken_part parts c (h ++ x.entries) x.flawed.state.going e) refl
    where
      by : (o : Option Part) → broken_part parts c (h ++ x.entries) x.flawed.state.going e ≡ o → judged_turn parts k c h x (Progress.Did e) ≡ after_entry_of k x e
      by None b = ap (judged_entry parts k c h x e) b
      by (Some part) b = absurd (false≢true (sym (ap (λ (o : Option (Entry × Part)). is_some o) none) ∙ ap (λ (z : Judged). is_some z.broken) (ap (judged_entry parts k c h x e) b)))

  -- it changes something
  is_longer : (k : Flaw) (x : Judged) (e : Entry) → (judged_turn parts k c h x (Progress.Did e)).broken ≡ None → judged_turn parts k c h x (Progress.Did e) ≡ x → ⊥
  is_longer k x e none is =
      let last : e ∷ [] ≡ [] = append_cancel_left x.entries (e ∷ []) [] (ap (λ (y : Judged). y.entries) (sym (with_entry k x e none) ∙ is) ∙ sym (append-nil x.entries)) in
      cc

  module _ (turns : List ℕ) (a : ℕ) where
    abbrev x : Judged
    x = comes turns

    abbrev y : FlawPoint
    y = point_of c h x

    two_entries : (e f : Entry) → due_by l c x.flawed a ≡ Progress.Did e → due_by Flaw.NoFlaw c x.flawed a ≡ Progress.Did f → after_entry_of l x e ≡ after_entry_of Flaw.NoFlaw x f → TurnsAlike l c y a
    two_entries e f p q both =
        let last : e ∷ [] ≡ f ∷ [] = append_cancel_left x.entries (e ∷ []) (f ∷ []) (ap (λ (z : Judged). z.entries) both) in
        let is : e ≡ f = cc in
        let n = none_at turns a e p in
        let next : flawed_next l c x.flawed e ≡ flawed_next Flaw.NoFlaw c x.flawed e = ap (λ (z : Judged). z.flawed) both ∙ ap (flawed_next Flaw.NoFlaw c x.flawed) (sym is) in
        record {
          entry = ap entry_of p ∙ (ap (λ (z : Entry). entry_of (Progress.Did z)) is ∙ sym (ap entry_of q));
          leads =
              leads_to l turns a e p n
              ∙ (ap (λ (t : Flawed). record { flawed = t; marked = marked_next c y.flawed.state.after y.marked e; broken = None }) next
              ∙ sym (leads_to Flaw.NoFlaw turns a e (q ∙ ap Progress.Did (sym is)) n));
        }

    by_dues : (p q : Progress) → due_by l c x.flawed a ≡ p → due_by Flaw.NoFlaw c x.flawed a ≡ q → judged_turn parts l c h x p ≡ judged_turn parts Flaw.NoFlaw c h x q → (judged_turn parts l c h x p).broken ≡ None → TurnsAlike l c y a
    by_dues (Progress.Did e) (Progress.Did f) p q same none =
        two_entries e f p q (sym (with_entry l x e none) ∙ (same ∙ with_entry Flaw.NoFlaw x f (ap (λ (z : Judged). z.broken) (sym same) ∙ none)))
    by_dues (Progress.Did e) (Progress.Waiting why) p q same none = absurd (is_longer l x e none same)
    by_dues (Progress.Did e) Progress.Idle p q same none = absurd (is_longer l x e none same)
    by_dues (Progress.Waiting why) (Progress.Did f) p q same none = absurd (is_longer Flaw.NoFlaw x f (ap (λ (z : Judged). z.broken) (sym same) ∙ none) (sym same))
    by_dues (Progress.Waiting why) (Progress.Waiting other) p q same none = both_stay l c y a (ap entry_of p) (ap entry_of q)
    by_dues (Progress.Waiting why) Progress.Idle p q same none = both_stay l c y a (ap entry_of p) (ap entry_of q)
    by_dues Progress.Idle (Progress.Did f) p q same none = absurd (is_longer Flaw.NoFlaw x f (ap (λ (z : Judged). z.broken) (sym same) ∙ none) (sym same))
    by_dues Progress.Idle (Progress.Waiting other) p q same none = both_stay l c y a (ap entry_of p) (ap entry_of q)
    by_dues Progress.Idle Progress.Idle p q same none = both_stay l c y a (ap entry_of p) (ap entry_of q)

  pub each_alike : NeverDiffers parts l c h → (turns : List ℕ) → AllTurnAlike l c (point_after parts l c h turns)
  each_alike never turns a =
      let x = comes turns in
      let now = more l turns a x refl (none_broken turns) in
      let right = more Flaw.NoFlaw turns a x (sym (never turns)) (none_broken turns) in
      subst (λ (z : FlawPoint). TurnsAlike l c z a) (sym (same_point turns))
      (by_dues turns a (due_by l c x.flawed a) (due_by Flaw.NoFlaw c x.flawed a) refl refl (sym now ∙ (never (turns ++ a ∷ []) ∙ right)) (ap (λ (z : Judged). z.broken) (sym now) ∙ none_broken (turns ++ a ∷ [])))
