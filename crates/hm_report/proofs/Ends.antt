-- As many operations of an actor have ended as its entries tell.
use Rattle.std.proofs.Common.{◌≡◌, ℕ, ◌+◌, Bool, true, false, nat_lt, inl, inr, Option, None, Some, List, [], ◌∷◌, ◌++◌, length, refl, sym, subst, ap, append_assoc, append-nil}
use Rattle.std.specs.Prelude.{slice_get}
use Rattle.std.proofs.lemmas.Bool.{false≢true}
use Rattle.std.proofs.lemmas.List.Sums.{fold-append}
use Rattle.hm_base.specs.Program.{Program}
use Rattle.hm_base.specs.declared.ops.Op.{Op}
use Rattle.hm_base.specs.declared.Frame.{Frame}
use Rattle.hm_history.specs.Memory.Words.{with_at}
use Rattle.hm_history.specs.Memory.After.{After}
use Rattle.hm_history.specs.Kernel.Operation.{op_pieces, op_mirror}
use Rattle.hm_history.specs.Kernel.Stacks.{after_top}
use Rattle.hm_history.specs.Kernel.Going.{Going, op_at, ops_of, first_stack, going_from, seen_at, coming, coming_page, recorded, going_on, going_top, going_next, state_of, state_of-snoc, touch_page, touch_proc}
use Rattle.hm_history.specs.Kernel.Due.{due, due_top, due_phase, progress}
use Rattle.hm_history.specs.Laws.{DueFrom}
use Rattle.hm_history.specs.declared.Kind.{Kind}
use Rattle.hm_history.specs.declared.Entry.{Entry}
use Rattle.hm_history.specs.declared.Progress.{Progress}
use Rattle.hm_history.specs.declared.phases.Migrating.{Migrating}
use Rattle.hm_history.specs.declared.phases.Seen.{Seen}
use Rattle.hm_history.specs.declared.phases.Phase.{Phase}
use Rattle.hm_history.specs.declared.phases.Next.{Next}
use Rattle.hm_history.specs.declared.phases.Next.TheVariants.{Do, Wait}
use Rattle.hm_report.specs.declared.ended.EndedOps.{EndedOps}
use Rattle.hm_report.specs.Kinds.{is_answer, finishes}
use Rattle.hm_report.specs.Ended.{answered, ended_at, ended_next, ended_start, all_next, ended_after}
use Rattle.hm_report.specs.Counted.{EndsAreCounted}
use Rattle.hm_report.proofs.Fits.{fits, goes, answer_goes, is_over, next_at, fits_push, fits_below, fits_base, first_fits}
use Rattle.hm_report.proofs.Areas.{begin_goes, locked_goes, ready_goes, answer_phase_goes, detaching_goes, pages_goes, piece_phase_goes, fetched_goes, rlock_is}
use Rattle.hm_report.proofs.Faults.{decide_goes, noted_goes, taken_goes, give_up_goes}
use Rattle.hm_report.proofs.Emptied.{guard_goes, alone_goes, copy_goes, copied_goes, finish_goes, settle_goes, frames_goes, moves_goes, Migrates, Evicts}
use Rattle.hm_report.proofs.Counting.{same_or_not}
use Rattle.hm_history.proofs.Updates.{here_at, other_at}

lost_goes : (o : Op) (n : ℕ) (g : Frame) (below : List Phase) → fits o n below ≡ true → fits o n (Phase.Drop g ∷ below) ≡ true
lost_goes o n g below h = fits_push o n (Phase.Drop g) below refl h

-- a kind that is due at once
do_at : (P : Kind → Type 0) (j k : Kind) → Do j ≡ Do k → P j → P k
do_at P j k e h = let same : j ≡ k = cc in subst P same h

-- the stack after a due entry of its actor
pub moved_goes : (c : Program) (s : After) (a : ℕ) (o : Op) (n : ℕ) (xs : List Migrating) (top : Phase) (below : List Phase) (k : Kind) (see : Kind → Seen)
    → fits o n (top ∷ below) ≡ true → ((j : Kind) → (see j).page ≡ coming_page (coming s o xs top)) → due_phase c s a o xs top ≡ Do k → goes o n k (after_top o top below k (see k)) ≡ true
moved_goes c s a o n xs Phase.Begin below k see h page due = next_at (λ j. goes o n j (after_top o Phase.Begin below j (see j)) ≡ true) _ k due (begin_goes s a o n (fits_base o n Phase.Begin below refl h))
moved_goes c s a o n xs Phase.Locked below k see h page due = do_at (λ j. goes o n j (after_top o Phase.Locked below j (see j)) ≡ true) _ k due (locked_goes s o n see (fits_base o n Phase.Locked below refl h))
moved_goes c s a o n xs Phase.Ready below k see h page due = do_at (λ j. goes o n j (after_top o Phase.Ready below j (see j)) ≡ true) _ k due (ready_goes s o n see (fits_base o n Phase.Ready below refl h))
moved_goes c s a o n xs Phase.Answer below k see h page due = do_at (λ j. goes o n j (after_top o Phase.Answer below j (see j)) ≡ true) _ k due (answer_phase_goes s o n (fits_base o n Phase.Answer below refl h))
moved_goes c s a o n xs (Phase.Detaching q) below k see h page due = next_at (λ j. goes o n j (after_top o (Phase.Detaching q) below j (see j)) ≡ true) _ k due (detaching_goes s o n (op_mirror o) q)
moved_goes c s a o n xs (Phase.Pages v) below k see h page due = do_at (λ j. goes o n j (after_top o (Phase.Pages v) below j (see j)) ≡ true) _ k due (pages_goes s o n v (fits_base o n (Phase.Pages v) below refl h))
moved_goes c s a o n xs (Phase.Piece i) below k see h page due = next_at (λ j. goes o n j (after_top o (Phase.Piece i) below j (see j)) ≡ true) _ k due (piece_phase_goes s a o n i see (fits_base o n (Phase.Piece i) below refl h))
moved_goes c s a o n xs (Phase.Fetched old) below k see h page due = next_at (λ j. goes o n j (after_top o (Phase.Fetched old) below j (see j)) ≡ true) _ k due (fetched_goes s a o n old see (fits_base o n (Phase.Fetched old) below refl h))
moved_goes c s a o n xs (Phase.Begun i at q) below k see h page due = next_at (λ j. goes o n j (after_top o (Phase.Begun i at q) below j (see j)) ≡ true) _ k due (rlock_is (λ j. goes o n j (after_top o (Phase.Begun i at q) below j (see j)) ≡ true) s _ (fits_base o n (Phase.Begun i at q) below refl h))
moved_goes c s a o n xs (Phase.Decide touch) below k see h page due = next_at (λ j. goes o n j (after_top o (Phase.Decide touch) below j (see j)) ≡ true) _ k due (decide_goes c s a o n touch (touch_proc s o) (touch_page o touch) see (fits_base o n (Phase.Decide touch) below refl h))
moved_goes c s a o n xs (Phase.Noted i at q x) below k see h page due = next_at (λ j. goes o n j (after_top o (Phase.Noted i at q x) below j (see j)) ≡ true) _ k due (noted_goes s o n i at q x (fits_base o n (Phase.Noted i at q x) below refl h))
moved_goes c s a o n xs (Phase.Taken touch g x) below k see h page due = next_at (λ j. goes o n j (after_top o (Phase.Taken touch g x) below j (see j)) ≡ true) _ k due (taken_goes s o n touch g x (touch_proc s o) (touch_page o touch) (fits_base o n (Phase.Taken touch g x) below refl h))
moved_goes c s a o n xs (Phase.Armed touch g x) below k see h page due = do_at (λ j. goes o n j (after_top o (Phase.Armed touch g x) below j (see j)) ≡ true) _ k due (fits_base o n (Phase.Armed touch g x) below refl h)
moved_goes c s a o n xs (Phase.Guard p r met told body) below k see h page due = do_at (λ j. goes o n j (after_top o (Phase.Guard p r met told body) below j (see j)) ≡ true) _ k due (guard_goes s a o n p r met told body below see (fits_below o n (Phase.Guard p r met told body) below refl h))
moved_goes c s a o n xs (Phase.Drop f) below k see h page due = do_at (λ j. goes o n j (after_top o (Phase.Drop f) below j (see j)) ≡ true) _ k due (fits_below o n (Phase.Drop f) below refl h)
moved_goes c s a o n xs (Phase.Emptying f at) below k see h page due = do_at (λ j. goes o n j (after_top o (Phase.Emptying f at) below j (see j)) ≡ true) _ k due (alone_goes c s o n f at below see (fits_below o n (Phase.Emptying f at) below refl h))
moved_goes c s a o n xs (Phase.Copy f g i) below k see h page due = do_at (λ j. goes o n j (after_top o (Phase.Copy f g i) below j (see j)) ≡ true) _ k due (copy_goes o n f g i below (fits_below o n (Phase.Copy f g i) below refl h))
moved_goes c s a o n xs (Phase.Copied f g) below k see h page due = do_at (λ j. goes o n j (after_top o (Phase.Copied f g) below j (see j)) ≡ true) _ k due (copied_goes o n f g below (fits_below o n (Phase.Copied f g) below refl h))
moved_goes c s a o n xs (Phase.Finish f to) below k see h page due = do_at (λ j. goes o n j (after_top o (Phase.Finish f to) below j (see j)) ≡ true) _ k due (finish_goes s o n f to below (fits_below o n (Phase.Finish f to) below refl h))
moved_goes c s a o n xs (Phase.Settle g) below k see h page due = do_at (λ j. goes o n j (after_top o (Phase.Settle g) below j (see j)) ≡ true) _ k due (settle_goes s o n g below (fits_below o n (Phase.Settle g) below refl h))
moved_goes c s a o n xs (Phase.GiveUp touch) below k see h page due = do_at (λ j. goes o n j (after_top o (Phase.GiveUp touch) below j (see j)) ≡ true) _ k due (give_up_goes o n touch (fits_base o n (Phase.GiveUp touch) below refl h))
moved_goes c s a o n xs (Phase.Frames v m) below k see h page due = next_at (Evicts o n v m see) _ k due (frames_goes c s a o n v m see (fits_base o n (Phase.Frames v m) below refl h))
moved_goes c s a o n xs (Phase.Moves step v) below k see h page due =
    let come = coming s o xs (Phase.Moves step v) in
    let went = do_at (Migrates o n step (coming_page come) see) _ k due (moves_goes c s o n step xs come see (fits_base o n (Phase.Moves step v) below refl h)) in
    subst (λ y. Migrates o n step y see k) (sym (page k)) went
moved_goes c s a o n xs (Phase.Lost v g) below k see h page due = do_at (λ j. goes o n j (after_top o (Phase.Lost v g) below j (see j)) ≡ true) _ k due (lost_goes o n g below (fits_below o n (Phase.Lost v g) below refl h))

abbrev pub StackFits : Option Op → ℕ → List Phase → Type 0
StackFits None n stack = stack ≡ []
StackFits (Some o) n stack = fits o n stack ≡ true

-- the count and the definition agree on one actor
pub record Agrees (c : Program) (a : ℕ) (g : Going) (n : EndedOps) : Type 0 where
  pub index : g.index ≡ n.operations
  pub stack : StackFits (op_at c a g.index) n.pieces g.stack

first_stack_fits : (op : Option Op) → StackFits op 0 (first_stack op)
first_stack_fits None = refl
first_stack_fits (Some o) = first_fits o

agrees_from : (c : Program) (a i : ℕ) → Agrees c a (going_from c a i) (record { operations = i; pieces = 0 })
agrees_from c a i = record { index = refl; stack = first_stack_fits (op_at c a i) }

agrees_over : (c : Program) (a i : ℕ) (stack : List Phase) (xs : List Migrating) → is_over stack ≡ true → Agrees c a (going_on c a i stack xs) (record { operations = i + 1; pieces = 0 })
agrees_over c a i [] xs over = agrees_from c a (i + 1)
agrees_over c a i (x ∷ below) xs over = absurd (false≢true over)

agrees_on : (c : Program) (a i n : ℕ) (o : Op) (stack : List Phase) (xs : List Migrating) → op_at c a i ≡ Some o → fits o n stack ≡ true → Agrees c a (going_on c a i stack xs) (record { operations = i; pieces = n })
agrees_on c a i n o [] xs op fit = absurd (false≢true fit)
agrees_on c a i n o (x ∷ below) xs op fit = record { index = refl; stack = subst (λ y. StackFits y n (x ∷ below)) (sym op) fit }

answered_agrees : (c : Program) (a i n : ℕ) (o : Op) (stack : List Phase) (xs : List Migrating) (more : Bool) → op_at c a i ≡ Some o
    → elim more [ true ↦ fits o (n + 1) stack | false ↦ is_over stack ] ≡ true
    → Agrees c a (going_on c a i stack xs) (elim more [ true ↦ record { operations = i; pieces = n + 1 } | false ↦ record { operations = i + 1; pieces = 0 } ])
answered_agrees c a i n o stack xs true op went = agrees_on c a i (n + 1) o stack xs op went
answered_agrees c a i n o stack xs false op went = agrees_over c a i stack xs went

finished_agrees : (c : Program) (a i n : ℕ) (o : Op) (stack : List Phase) (xs : List Migrating) (over : Bool) → op_at c a i ≡ Some o
    → elim over [ true ↦ is_over stack | false ↦ fits o n stack ] ≡ true
    → Agrees c a (going_on c a i stack xs) (elim over [ true ↦ record { operations = i + 1; pieces = 0 } | false ↦ record { operations = i; pieces = n } ])
finished_agrees c a i n o stack xs true op went = agrees_over c a i stack xs went
finished_agrees c a i n o stack xs false op went = agrees_on c a i n o stack xs op went

entry_agrees : (c : Program) (a i n : ℕ) (o : Op) (k : Kind) (stack : List Phase) (xs : List Migrating) (answers : Bool) → op_at c a i ≡ Some o
    → elim answers [ true ↦ answer_goes o n stack | false ↦ elim (finishes o k) [ true ↦ is_over stack | false ↦ fits o n stack ] ] ≡ true
    → Agrees c a (going_on c a i stack xs) (elim answers [ true ↦ answered o (record { operations = i; pieces = n }) | false ↦ elim (finishes o k) [ true ↦ record { operations = i + 1; pieces = 0 } | false ↦ record { operations = i; pieces = n } ] ])
entry_agrees c a i n o k stack xs true op went = answered_agrees c a i n o stack xs (nat_lt (n + 1) (length (op_pieces o))) op went
entry_agrees c a i n o k stack xs false op went = finished_agrees c a i n o stack xs (finishes o k) op went

-- a due entry keeps them so
abbrev kind_in : Kind → Progress → Kind
kind_in k (Progress.Did e) = e.kind
kind_in k _ = k

progress_do : (a : ℕ) (x : Next) (k : Kind) → progress a x ≡ Progress.Did (record { actor = a; kind = k }) → x ≡ Do k
progress_do a (Do j) k e = let same : j ≡ k = ap (kind_in k) e in ap Do same
progress_do a (Wait w) k e = cc

op_agrees : (c : Program) (s : After) (a i n : ℕ) (stack : List Phase) (xs : List Migrating) (k : Kind) (op : Option Op) → op_at c a i ≡ op → StackFits op n stack
    → due_top c s a op xs stack ≡ Progress.Did (record { actor = a; kind = k })
    → Agrees c a (elim op [ None ↦ record { index = i; stack = stack; pages = xs } | Some o ↦ going_top c s a (record { index = i; stack = stack; pages = xs }) o stack k ]) (ended_at op (record { operations = i; pieces = n }) k)
op_agrees c s a i n stack xs k None at fit due = cc
op_agrees c s a i n [] xs k (Some o) at fit due = cc
op_agrees c s a i n (top ∷ below) xs k (Some o) at fit due =
    let see : Kind → Seen = λ j. seen_at s o xs top j in
    let went = moved_goes c s a o n xs top below k see fit (λ j. refl) (progress_do a (due_phase c s a o xs top) k due) in
    entry_agrees c a i n o k (after_top o top below k (see k)) (recorded top (see k).page xs k) (is_answer k) at went

going_agrees : (c : Program) (s : After) (a : ℕ) (g : Going) (n : EndedOps) (k : Kind) → Agrees c a g n → due_top c s a (op_at c a g.index) g.pages g.stack ≡ Progress.Did (record { actor = a; kind = k })
    → Agrees c a (going_next c s a g k) (ended_next (ops_of c a) n k)
going_agrees c s a g n k h due =
    let went = op_agrees c s a g.index n.pieces g.stack g.pages k (op_at c a g.index) refl h.stack due in
    let P : ℕ → Type 0 = λ i. Agrees c a (going_next c s a g k) (ended_at (slice_get (ops_of c a) i) (record { operations = i; pieces = n.pieces }) k) in
    subst P h.index went

-- all actors, entry by entry
abbrev AllAgree : Program → List Entry → Type 0
AllAgree c h = (a : ℕ) → Agrees c a ((state_of c h).going a) (ended_after c h a)

entry_keeps : (c : Program) (h : List Entry) (e : Entry) → AllAgree c h → due c h e.actor ≡ Progress.Did e → AllAgree c (h ++ e ∷ [])
entry_keeps c h e all is_due a =
    let s = state_of c h in
    let f = ended_after c h in
    let counted : ended_after c (h ++ e ∷ []) ≡ all_next c f e = fold-append (all_next c) (λ b. ended_start) h (e ∷ []) in
    let b = e.actor in
    let x = going_next c s.after b (s.going b) e.kind in
    let y = ended_next (ops_of c b) (f b) e.kind in
    let here : Agrees c a (with_at s.going b x a) (with_at f b y a) = elim (same_or_not a b) [
      | inl same ↦ subst (λ q. Agrees c q (with_at s.going b x q) (with_at f b y q)) (sym same)
          (subst (λ q. Agrees c b q (with_at f b y b)) (sym (here_at s.going b x)) (subst (λ q. Agrees c b x q) (sym (here_at f b y)) (going_agrees c s.after b (s.going b) (f b) e.kind (all b) is_due)))
      | inr other ↦ subst (λ q. Agrees c a q (with_at f b y a)) (sym (other_at s.going b a x other)) (subst (λ q. Agrees c a (s.going a) q) (sym (other_at f b a y other)) (all a))
    ] in
    subst (λ q. Agrees c a ((state_of c (h ++ e ∷ [])).going a) (q a)) (sym counted) (subst (λ q. Agrees c a (q.going a) (all_next c f e a)) (sym (state_of-snoc c h e)) here)

entries_keep : (c : Program) (h es : List Entry) → AllAgree c h → DueFrom c h es → AllAgree c (h ++ es)
entries_keep c h [] all d = subst (AllAgree c) (sym (append-nil h)) all
entries_keep c h (e ∷ es) all d = subst (AllAgree c) (append_assoc h (e ∷ []) es) (entries_keep c (h ++ e ∷ []) es (entry_keeps c h e all d.0) d.1)

pub ends_are_counted : (c : Program) (h : List Entry) → DueFrom c [] h → EndsAreCounted c h
ends_are_counted c h d a = (entries_keep c [] h (λ b. agrees_from c b 0) d a).index
