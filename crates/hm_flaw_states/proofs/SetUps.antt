-- A set-up that is made again, with one entry more.
use Rattle.std.proofs.Common.{◌≡◌, ℕ, zero, suc, ◌+◌, ◌<◌, ◌≤◌, true, List, [], ◌∷◌, ◌++◌, get_or, length, take, sym, ap, ◌∙◌, subst, arith}
use Rattle.std.proofs.lemmas.List.{length-take-le, take_more}
use Rattle.hm_base.specs.Program.{Program, IsScript}
use Rattle.hm_history.proofs.RunLemmas.{due_at}
use Rattle.hm_history.specs.Kernel.Due.{due, due_in}
use Rattle.hm_history.specs.Kernel.Going.{State, state_next, state_of, state_of-snoc, state_start}
use Rattle.hm_history.specs.Laws.{DueFrom}
use Rattle.hm_history.specs.Memory.After.{After, after}
use Rattle.hm_history.specs.Memory.Plain.{plain_accepts}
use Rattle.hm_history.specs.Kernel.Run.{is_entry}
use Rattle.hm_history.specs.declared.Entry.{Entry}
use Rattle.hm_history.specs.declared.Progress.{Progress}
use Rattle.hm_laws.proofs.Histories.Sound.{after_is}
use Rattle.hm_laws.proofs.State.AllowedAccepts.{answers_of}
use Rattle.hm_laws.specs.Laws.{HistoryStands}
use Rattle.hm_laws.specs.Stands.{Stands}
use Rattle.hm_history.proofs.Going.{lengths, own_actor}
use Rattle.hm_flaws.specs.Drivers.{Driver}
use Rattle.hm_flaws.specs.Laws.{RightIsDue}
use Rattle.hm_flaws.specs.declared.flaws.Flaw.{Flaw}
use Rattle.hm_flaw_parts.specs.Marks.{Marked, marked_next, marks_in}
use Rattle.hm_flaw_states.specs.States.{state_in}
use Rattle.hm_flaw_parts.proofs.MarkedTurns.{marked_more}
use Rattle.hm_flaw_parts.specs.Races.Races.{marked_of}
use Rattle.hm_flaw_states.specs.Follows.{Follows, Standing}
use Rattle.hm_flaw_states.specs.SetUps.{IsAfter, IsNext}
use Rattle.hm_flaw_states.specs.declared.set_ups.SoFar.{SoFar}

-- the memory is that after the entries
memory_after : (c : Program) (h : List Entry) (u : State) → u ≡ state_of c h → u.after ≡ after h
memory_after c h u is = ap (λ (v : State). v.after) is ∙ after_is c h

-- the marks with one entry more
marks_more : (c : Program) (s : After) (x : Marked) (h : List Entry) (e : Entry) → s ≡ after h → x ≡ marked_of c h → marked_next c s x e ≡ marked_of c (h ++ e ∷ [])
marks_more c s x h e is same =
    ap (λ (t : After). marked_next c t x e) is
    ∙ (ap (λ (y : Marked). marked_next c (after h) y e) same ∙ sym (marked_more c [] h e))

pub more_after : (c : Program) (h : List Entry) (x y : SoFar) (e : Entry) → IsAfter c h x → state_in y.state ≡ state_next c (state_in x.state) e
    → marks_in y.marks ≡ marked_next c (state_in x.state).after (marks_in x.marks) e → Standing (state_in y.state) → IsAfter c (h ++ e ∷ []) y
more_after c h x y e r s m st = record {
  state = s ∙ (ap (λ (u : State). state_next c u e) r.state ∙ sym (state_of-snoc c h e));
  marked = m ∙ marks_more c (state_in x.state).after (marks_in x.marks) h e (memory_after c h (state_in x.state) r.state) r.marked;
  standing = st;
}

-- the entry that is due in the state is that which is due after the history
pub due_here : (c : Program) (h : List Entry) (u : State) (a : ℕ) (d e : Entry) → u ≡ state_of c h → due_in c u a ≡ Progress.Did d → due c h a ≡ Progress.Did e → d ≡ e
due_here c h u a d e is now was =
    let both : Progress.Did d ≡ Progress.Did e = sym now ∙ (ap (λ (v : State). due_in c v a) is ∙ was) in
    cc

-- the next entry of a set-up whose entries were due
pub set_up_on : (c : Program) (h : List Entry) (i : ℕ) (d : Entry) (y : SoFar) → DueFrom c [] h → i < length h → d ≡ get_or h i d
    → ((e : Entry) → due c (take i h) d.actor ≡ Progress.Did e → IsAfter c (take i h ++ e ∷ []) y) → IsAfter c (take (i + 1) h) y
set_up_on c h i d y dues below is on = subst (λ (es : List Entry). IsAfter c es y) more (on d was)
  where
    was : due c (take i h) d.actor ≡ Progress.Did d
    was = subst (λ (x : Entry). due c (take i h) x.actor ≡ Progress.Did x) (sym is) (due_at c [] h i d below dues)

    more : take i h ++ d ∷ [] ≡ take (i + 1) h
    more = ap (λ (x : Entry). take i h ++ x ∷ []) is ∙ sym (take_more h i d below)

-- ---- the next entry

-- the entry that is due is one that the state may go on by
pub follows_next : HistoryStands → RightIsDue → (c : Program) → IsScript c → (x : SoFar) (a : ℕ) → IsNext c x a → (d : Driver) (e : Entry) → due_in c (state_in x.state) a ≡ Progress.Did e → Follows Flaw.NoFlaw c x.state d e
follows_next law same c sc x a n d e now = record {
  is_due = same c (record { state = state_in x.state; driver = d }) e.actor ∙ own;
  answers = ap (λ (s : After). plain_accepts s.plain e.kind) (memory_after c n.history (state_in x.state) n.after.state)
      ∙ answers_of c (after n.history) here.past e.actor e.kind (here.allows e (ap (λ (u : State). due_in c u e.actor) (sym n.after.state) ∙ own));
  standing = n.after.standing;
  room = omega (arith, n.few, ap (λ (u : State). u.after.length) n.after.state, lengths c (state_start c) n.history);
}
  where
    here : Stands c n.history
    here = law c sc n.history n.were_due

    own : due_in c (state_in x.state) e.actor ≡ Progress.Did e
    own = subst (λ b. due_in c (state_in x.state) b ≡ Progress.Did e) (sym (own_actor c (state_in x.state) a e now)) now

-- something is due there
pub is_next : (c : Program) (x : SoFar) (a : ℕ) → IsNext c x a → is_entry (due_in c (state_in x.state) a) ≡ true
is_next c x a n = ap (λ (u : State). is_entry (due_in c u a)) n.after.state ∙ ap is_entry n.is_due

due_taken : (c : Program) (g h : List Entry) (i : ℕ) → DueFrom c g h → DueFrom c g (take i h)
due_taken c g [] zero d = tt
due_taken c g [] (suc i) d = tt
due_taken c g (x ∷ h) zero d = tt
due_taken c g (x ∷ h) (suc i) d = (d.0, due_taken c (g ++ x ∷ []) h i d.1)

-- the next entry of a set-up is due after those before it
pub next_of_set_up : (c : Program) (h : List Entry) (i : ℕ) (d : Entry) (x : SoFar) → DueFrom c [] h → length h ≤ 2000000 → i < length h → d ≡ get_or h i d → IsAfter c (take i h) x → IsNext c x d.actor
next_of_set_up c h i d x dues few below is r = record {
  history = take i h;
  entry = d;
  after = r;
  were_due = due_taken c [] h i dues;
  is_due = subst (λ (y : Entry). due c (take i h) y.actor ≡ Progress.Did y) (sym is) (due_at c [] h i d below dues);
  few = omega (arith, few, below, length-take-le i h (omega (arith, below)));
}
