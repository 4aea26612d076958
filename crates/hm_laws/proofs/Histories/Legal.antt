-- An entry that is due may follow.
use Rattle.std.proofs.Common.{◌≡◌, ℕ, Bool, true, false, ◌||◌, is_none, Some, None, List, [], ◌∷◌, ◌++◌, refl, sym, ap, ◌∙◌, subst, arith}
use Rattle.std.proofs.lemmas.Bool.{and_parts}
use Rattle.hm_base.specs.Program.{Program}
use Rattle.hm_base.specs.declared.PoolId.{PoolId}
use Rattle.hm_history.specs.Memory.Plain.{plain_accepts, mirror_proc, mirror_owner, owned}
use Rattle.hm_history.specs.Memory.Places.{TableEntry, lowest_free, places_accept, entry_passes, table_reads, table_writes, table_sole}
use Rattle.hm_history.proofs.Owners.{owned_proc}
use Rattle.hm_history.specs.Memory.Sequences.{sequences_accept}
use Rattle.hm_history.specs.Memory.Lookups.{narrows_guarded}
use Rattle.hm_history.specs.Memory.After.{After}
use Rattle.hm_history.specs.declared.Who.{Who}
use Rattle.hm_history.specs.declared.Kind.{Kind}
use Rattle.hm_laws.specs.Past.{Past, past_next}
use Rattle.hm_laws.specs.Allowed.{Allowed}
use Rattle.hm_laws.specs.Sound.{Sound}
use Rattle.hm_laws.proofs.State.TableEntries.{entry_of}
use Rattle.hm_laws.proofs.Past.Short.{is_given, gives}
use Rattle.hm_laws.proofs.Histories.Short.{ShortIs, short_start, short_on}
use Rattle.hm_laws.proofs.Past.Told.{PastIs, past_is_start, past_is_step, untold_entry}
use Rattle.hm_laws.proofs.Due.Good.{Fair}
use Rattle.hm_history.specs.Memory.After.{after}
use Rattle.hm_history.specs.Memory.Lookups.{is_untold, uses_untold}
use Rattle.hm_history.specs.Memory.Words.{page_of}
use Rattle.hm_base.specs.declared.ops.Op.{Op}
use Rattle.hm_history.specs.declared.phases.Migrating.{Migrating}
use Rattle.hm_history.specs.declared.phases.Phase.{Phase}
use Rattle.hm_history.specs.Kernel.Going.{State, op_at, going_next, state_start, state_of, state_of-snoc}
use Rattle.hm_history.specs.Kernel.Due.{due}
use Rattle.hm_history.specs.Laws.{DueFrom}
use Rattle.hm_history.specs.Memory.Rules.{wants_frame, fails_rightly, system_is_full, was_short}
use Rattle.hm_history.specs.Kernel.Legal.{kept_op, MayFollow, LegalFrom, Legal, kept_rightly}
use Rattle.hm_history.specs.declared.Entry.{Entry}
use Rattle.hm_history.specs.declared.Progress.{Progress}
use Rattle.hm_base.specs.Program.{IsScript}
use Rattle.hm_laws.specs.Past.{past_start}
use Rattle.hm_laws.specs.Stands.{Standing}
use Rattle.hm_laws.proofs.State.AllowedAccepts.{answers_of, sequences_of, guarded_of, places_of}
use Rattle.hm_laws.proofs.Histories.Sound.{Turn, Small, small, turn_of, at_start, after_is, standing_on}

-- no frame was free
abbrev gives_up : Phase → Bool
gives_up top = is_given top

gives_top : (u : State) (a : ℕ) (top : Phase) (below : List Phase) → (u.going a).stack ≡ top ∷ below → is_given top ≡ true → gives (u.going a).stack ≡ true
gives_top u a top below e g = ap gives e ∙ ap (λ b. b || gives below) g

short_is : (c : Program) (h : List Entry) (a : ℕ) (b : Bool) → was_short c h a ≡ true → elim b [ false ↦ true | true ↦ system_is_full c h || was_short c h a ] ≡ true
short_is c h a false e = refl
short_is c h a true e = by (system_is_full c h) (was_short c h a) e
  where
    by : (x y : Bool) → y ≡ true → (x || y) ≡ true
    by x y i = grind arith

full_is : (c : Program) (h : List Entry) (a : ℕ) (b : Bool) → (b ≡ true → lowest_free c (after h).places PoolId.System ≡ None) → elim b [ false ↦ true | true ↦ system_is_full c h || was_short c h a ] ≡ true
full_is c h a false f = refl
full_is c h a true f = by (system_is_full c h) (ap is_none (f refl))
  where
    by : (b : Bool) → b ≡ true → (b || was_short c h a) ≡ true
    by b e = grind arith

frames_of : (c : Program) (h : List Entry) (a : ℕ) (o : Op) (xs : List Migrating) (k : Kind) (top : Phase) → (gives_up top ≡ true → was_short c h a ≡ true) → Fair c (after h) a o xs k top → fails_rightly c h (record { actor = a; kind = k }) ≡ true
frames_of c h a o xs (Kind.Failed x at n why) (Phase.GiveUp y) short fair = short_is c h a (wants_frame why) (short refl)
frames_of c h a o xs (Kind.Failed x at n why) top short fair = full_is c h a (wants_frame why) fair
frames_of c h a o xs (Kind.Refused why) (Phase.GiveUp y) short fair = short_is c h a (wants_frame why) (short refl)
frames_of c h a o xs (Kind.Refused why) top short fair = full_is c h a (wants_frame why) fair
frames_of c h a o xs k top short fair = refl

-- no use of a told table entry
abbrev Untold : List Entry → After → Past → Type 0
Untold h s past = PastIs h s.length past s.places.table

entry_untold : (c : Program) (h : List Entry) (s : After) (past : Past) (m v : ℕ) → Sound c s past → Untold h s past → (test : TableEntry → Bool) → entry_passes test (s.places.table m v) ≡ true → is_untold h m v ≡ true
entry_untold c h s past m v so pa test e = let x = entry_of test (s.places.table m v) e in
    untold_entry h s.length past s.places.table pa m v x.0 x.1 (so.untold.untold m v x.0 x.1) (so.untold.set_rightly m v x.0 x.1)

reads_untold : (c : Program) (h : List Entry) (s : After) (past : Past) (m v : ℕ) → Sound c s past → Untold h s past → table_reads s.places m (mirror_proc s.plain m) v ≡ true → is_untold h m v ≡ true
reads_untold c h s past m v so pa e = entry_untold c h s past m v so pa _ e

sole_untold : (c : Program) (h : List Entry) (s : After) (past : Past) (a m v : ℕ) → Sound c s past → Untold h s past → owned (mirror_owner s.plain m) (λ p. table_sole s.places a m p v) ≡ true → is_untold h m v ≡ true
sole_untold c h s past a m v so pa e = let alone : table_sole s.places a m (mirror_proc s.plain m) v ≡ true = owned_proc s.plain m (λ p. table_sole s.places a m p v) e in entry_untold c h s past m v so pa _ alone

untold_of : (c : Program) (h : List Entry) (s : After) (past : Past) (a : ℕ) (k : Kind) → Sound c s past → Untold h s past → Allowed c s past a k → uses_untold h k ≡ true
untold_of c h s past a (Kind.Loaded (Who.Cpu p) at bs) so pa ok = refl
untold_of c h s past a (Kind.Stored (Who.Cpu p) at bs) so pa ok = refl
untold_of c h s past a (Kind.Loaded (Who.Mirror m) at bs) so pa ok = reads_untold c h s past m (page_of at) so pa (owned_proc s.plain m (λ p. table_reads s.places m p (page_of at)) ok.2)
untold_of c h s past a (Kind.Stored (Who.Mirror m) at bs) so pa ok = reads_untold c h s past m (page_of at) so pa (and_parts (table_reads s.places m (mirror_proc s.plain m) (page_of at)) _ (owned_proc s.plain m (λ p. table_writes s.places m p (page_of at)) ok.2)).0
untold_of c h s past a (Kind.Fetched m at bs) so pa ok = sole_untold c h s past a m (page_of at) so pa ok.1
untold_of c h s past a (Kind.Added m at was now) so pa ok = sole_untold c h s past a m (page_of at) so pa ok.1
untold_of c h s past a k so pa ok = refl

-- reasons
kept_of : (c : Program) (u : State) (a : ℕ) (o : Op) (k : Kind) (top : Phase) → op_at c a (u.going a).index ≡ Some o → Fair c u.after a o (u.going a).pages k top → kept_rightly c u (record { actor = a; kind = k }) ≡ true
kept_of c u a o (Kind.Kept at why) top e fair = ap (λ x. kept_op c u.after a x (u.going a).pages at why) e ∙ fair
kept_of c u a o k top e fair = refl

pub may_follow : (c : Program) (h : List Entry) (e : Entry) (t : Past) → Small c → Standing c (state_of c h) t → Untold h (state_of c h).after t → ShortIs c h (state_of c h) → due c h e.actor ≡ Progress.Did e → MayFollow c h e
may_follow c h e t sm st pa short d = record {
  is_due = d;
  rules = record {
    answers = subst (λ s. plain_accepts s.plain e.kind ≡ true) (after_is c h) (answers_of c (state_of c h).after t e.actor e.kind ok);
    places = subst (λ s. places_accept c (mirror_owner s.plain) s.places e.actor e.kind ≡ true) (after_is c h) (places_of c (state_of c h).after t e.actor e.kind st.sound ok);
    frames = frames_of c h e.actor ok_turn.op (u.going e.actor).pages e.kind ok_turn.top (λ g. (short e.actor (gives_top (state_of c h) e.actor ok_turn.top ok_turn.below ok_turn.is_stack g)).1) (subst (λ s. Fair c s e.actor ok_turn.op (u.going e.actor).pages e.kind ok_turn.top) (after_is c h) ok_turn.fair);
    sequences = subst (λ s. sequences_accept s.sequences e.actor e.kind ≡ true) (after_is c h) (sequences_of c (state_of c h).after t e.actor e.kind ok);
    untold = untold_of c h (state_of c h).after t e.actor e.kind st.sound pa ok;
    guarded = subst (λ s. narrows_guarded s.sequences s.places.place e.actor e.kind ≡ true) (after_is c h) (guarded_of c (state_of c h).after t e.actor e.kind ok);
  };
  kept = kept_of c (state_of c h) e.actor ok_turn.op e.kind ok_turn.top ok_turn.is_op ok_turn.fair;
}
  where
    u : State
    u = state_of c h

    ok_turn : Turn c (state_of c h).after t e.actor e.kind ((state_of c h).going e.actor) (going_next c (state_of c h).after e.actor ((state_of c h).going e.actor) e.kind)
    ok_turn = turn_of c (state_of c h) t e sm st d

    ok : Allowed c (state_of c h).after t e.actor e.kind
    ok = ok_turn.allowed

untold_on : (c : Program) (h : List Entry) (e : Entry) (t : Past) → Untold h (state_of c h).after t → Untold (h ++ e ∷ []) (state_of c (h ++ e ∷ [])).after (past_next t (state_of c h).after.length e.actor e.kind)
untold_on c h e t pa = subst (λ (u : State). Untold (h ++ e ∷ []) u.after (past_next t (state_of c h).after.length e.actor e.kind)) (sym (state_of-snoc c h e)) (past_is_step h (state_of c h).after.places t (state_of c h).after.length e pa)

legal_from : (c : Program) (h es : List Entry) (t : Past) → Small c → Standing c (state_of c h) t → Untold h (state_of c h).after t → ShortIs c h (state_of c h) → DueFrom c h es → LegalFrom c h es
legal_from c h [] t sm st pa short d = tt
legal_from c h (e ∷ es) t sm st pa short d = (may_follow c h e t sm st pa short d.0, legal_from c (h ++ e ∷ []) es (past_next t (state_of c h).after.length e.actor e.kind) sm (standing_on c h e t sm st d.0) (untold_on c h e t pa) (short_on c h e t sm st short d.0) d.1)

pub every_history : (c : Program) → IsScript c → (h : List Entry) → DueFrom c [] h → Legal c h
every_history c sc h d = legal_from c [] h past_start (small c sc) (at_start c (small c sc)) (past_is_start (state_start c).after.places.table (λ m v. refl)) (short_start c) d
