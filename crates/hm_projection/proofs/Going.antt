-- The events of a history, entry by entry.
use Rattle.std.proofs.Common.{◌≡◌, ℕ, ◌+◌, ◌<◌, None, Some, Option, List, [], ◌∷◌, ◌++◌, length, get_or, take, map, fold, refl, sym, ap, ◌∙◌, subst, append_assoc}
use Rattle.std.proofs.lemmas.List.{append-nil, take_more}
use Rattle.std.proofs.lemmas.List.Sums.{fold-append}
use Rattle.hm_base.specs.Program.{Program}
use Rattle.hm_base.specs.declared.ops.Op.{Op}
use Rattle.hm_history.proofs.RunLemmas.{due_at}
use Rattle.hm_history.specs.Kernel.Due.{due}
use Rattle.hm_history.specs.Kernel.Going.{State, op_at, state_next, state_of, state_of-snoc, state_start}
use Rattle.hm_history.specs.Laws.{DueFrom}
use Rattle.hm_history.specs.Memory.After.{after_nothing}
use Rattle.hm_history.specs.declared.Entry.{Entry}
use Rattle.hm_history.specs.declared.Progress.{Progress}
use Rattle.hm_projection.proofs.Parts.{all_told}
use Rattle.hm_projection.specs.Tables.{IsDriver}
use Rattle.hm_projection.specs.Told.{TellsBefore, asked_of, told_if, traced}
use Rattle.hm_projection.specs.declared.reasons.Asked.{Asked}
use Rattle.hm_projection.specs.declared.tables.Driver.{Driver}
use Rattle.hm_protocol.specs.Projection.{events_in, events_of, project, top_of, traced_next}
use Rattle.hm_protocol.specs.declared.events.Event.{Event}
use Rattle.hm_protocol.specs.declared.events.Traced.{Traced}
use Rattle.hm_world.specs.WorldValue.{WorldValue, grown, now, opening}

-- ---- a world and its states

pub now_is : (w : WorldValue) → now w ≡ state_of w.script w.history
unfolding now
now_is w = refl

-- the world that has gone on by an entry
pub world_next : (w u : WorldValue) (e : Entry) → u ≡ grown w e.actor e.kind → now u ≡ state_next w.script (now w) e
world_next w u e g =
    ap now g ∙ now_is (grown w e.actor e.kind) ∙ state_of-snoc w.script w.history e
    ∙ ap (λ (t : State). state_next w.script t e) (sym (now_is w))

-- ---- the events of an entry

told_next : (c : Program) (t : State) (e : Entry) (asked : Option Asked) (first all : List Event)
    → TellsBefore t.after (t.going e.actor) e.kind [] first (op_at c e.actor (t.going e.actor).index) asked
    → all ≡ first ++ told_if (state_next c t e).after asked (top_of ((state_next c t e).going e.actor).stack) e.kind
    → map (traced e.actor) all ≡ events_of c t (state_next c t e) e
told_next c t e asked first all before after = by (op_at c e.actor (t.going e.actor).index) before
  where
    by : (o : Option Op) → TellsBefore t.after (t.going e.actor) e.kind [] first o asked
        → map (traced e.actor) all ≡ map (traced e.actor) (events_in t (state_next c t e) e.actor e.kind o)
    by None b = ap (map (traced e.actor)) (after
        ∙ ap (λ (x : Option Asked). first ++ told_if (state_next c t e).after x (top_of ((state_next c t e).going e.actor).stack) e.kind) b.0
        ∙ append-nil first ∙ b.1)
    by (Some o) b = ap (map (traced e.actor)) (after
        ∙ ap (λ (x : Option Asked). first ++ told_if (state_next c t e).after x (top_of ((state_next c t e).going e.actor).stack) e.kind) b.0
        ∙ ap (λ es. es ++ told_if (state_next c t e).after (Some (asked_of t.after o)) (top_of ((state_next c t e).going e.actor).stack) e.kind) b.1
        ∙ all_told t.after e o (t.going e.actor).pages (t.going e.actor).stack (top_of ((state_next c t e).going e.actor).stack))

pub entry_told : (c : Program) (t u : State) (e : Entry) (asked : Option Asked) (first all : List Event) → u ≡ state_next c t e
    → TellsBefore t.after (t.going e.actor) e.kind [] first (op_at c e.actor (t.going e.actor).index) asked
    → all ≡ first ++ told_if u.after asked (top_of (u.going e.actor).stack) e.kind
    → map (traced e.actor) all ≡ events_of c t u e
entry_told c t u e asked first all is before after =
    subst (λ (v : State). map (traced e.actor) all ≡ events_of c t v e) (sym is)
    (told_next c t e asked first all before (subst (λ (v : State). all ≡ first ++ told_if v.after asked (top_of (v.going e.actor).stack) e.kind) is after))

-- ---- the events of a history

fold_state : (c : Program) (x : State × List Traced) (h : List Entry) → (fold (traced_next c) x h).0 ≡ fold (state_next c) x.0 h
fold_state c x [] = refl
fold_state c x (e ∷ h) = fold_state c (traced_next c x e) h

-- of one more entry
pub project_more : (c : Program) (h : List Entry) (e : Entry) → project c (h ++ e ∷ []) ≡ project c h ++ events_of c (state_of c h) (state_of c (h ++ e ∷ [])) e
project_more c h e =
    ap (λ (x : State × List Traced). x.1) (fold-append (traced_next c) (state_start c, []) h (e ∷ []))
    ∙ ap (λ (t : State). project c h ++ events_of c t (state_next c t e) e) (fold_state c (state_start c, []) h)
    ∙ ap (λ (u : State). project c h ++ events_of c (state_of c h) u e) (sym (state_of-snoc c h e))

-- the entries before a position were gone over
pub record SoFar (c : Program) (h : List Entry) (at : ℕ) (old new : List Traced) (w : WorldValue) (d : Driver) : Type 0 where
  pub script : w.script ≡ c
  pub history : w.history ≡ take at h
  pub running : w.halted ≡ None
  pub driver : IsDriver (now w).after d
  pub events : new ≡ old ++ project c (take at h)

pub starts : (c : Program) (h : List Entry) (old : List Traced) (w : WorldValue) (d : Driver) → w ≡ opening c → IsDriver after_nothing d → SoFar c h 0 old old w d
starts c h old w d is empty = record {
  script = ap (λ (t : WorldValue). t.script) is;
  history = ap (λ (t : WorldValue). t.history) is;
  running = ap (λ (t : WorldValue). t.halted) is;
  driver = subst (λ (t : State). IsDriver t.after d) (sym (ap now is ∙ now_is (opening c))) empty;
  events = sym (append-nil old);
}

pub is_due : (c : Program) (h : List Entry) (at : ℕ) (old new : List Traced) (w : WorldValue) (d : Driver) (e : Entry) → SoFar c h at old new w d → at < length h → e ≡ get_or h at e → DueFrom c [] h → due w.script w.history e.actor ≡ Progress.Did e
is_due c h at old new w d e s below is dues =
    subst (λ (y : Entry). due w.script w.history y.actor ≡ Progress.Did y) (sym is)
    (subst (λ (x : Program). due x w.history (get_or h at e).actor ≡ Progress.Did (get_or h at e)) (sym s.script)
    (subst (λ (g : List Entry). due c g (get_or h at e).actor ≡ Progress.Did (get_or h at e)) (sym s.history) (due_at c [] h at e below dues)))

pub goes_on : (c : Program) (h : List Entry) (at : ℕ) (old new newer : List Traced) (w u : WorldValue) (d x : Driver) (e : Entry) → SoFar c h at old new w d → at < length h → e ≡ get_or h at e
    → u ≡ grown w e.actor e.kind → IsDriver (now u).after x → newer ≡ new ++ events_of w.script (now w) (now u) e → SoFar c h (at + 1) old newer u x
goes_on c h at old new newer w u d x e s below is grew driver next = record {
  script = ap (λ (t : WorldValue). t.script) grew ∙ s.script;
  history = history;
  running = ap (λ (t : WorldValue). t.halted) grew ∙ s.running;
  driver = driver;
  events = next ∙ ap (λ es. es ++ events_of w.script (now w) (now u) e) s.events ∙ append_assoc old (project c (take at h)) _
      ∙ ap (λ es. old ++ es) (more ∙ sym (project_more c (take at h) e) ∙ ap (project c) (sym longer));
}
  where
    longer : take (at + 1) h ≡ take at h ++ e ∷ []
    longer = take_more h at e below ∙ ap (λ (y : Entry). take at h ++ y ∷ []) (sym is)

    history : u.history ≡ take (at + 1) h
    history = ap (λ (t : WorldValue). t.history) grew ∙ ap (λ (g : List Entry). g ++ e ∷ []) s.history ∙ sym longer

    before : now w ≡ state_of c (take at h)
    before = now_is w ∙ ap (λ (p : Program). state_of p w.history) s.script ∙ ap (state_of c) s.history

    after : now u ≡ state_of c (take at h ++ e ∷ [])
    after = world_next w u e grew ∙ ap (λ (p : Program). state_next p (now w) e) s.script ∙ ap (λ (t : State). state_next c t e) before ∙ sym (state_of-snoc c (take at h) e)

    more : project c (take at h) ++ events_of w.script (now w) (now u) e ≡ project c (take at h) ++ events_of c (state_of c (take at h)) (state_of c (take at h ++ e ∷ [])) e
    more = ap (λ (p : Program). project c (take at h) ++ events_of p (now w) (now u) e) s.script
        ∙ ap (λ (t : State). project c (take at h) ++ events_of c t (now u) e) before
        ∙ ap (λ (t : State). project c (take at h) ++ events_of c (state_of c (take at h)) t e) after
