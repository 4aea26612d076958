-- What is left falls at each entry, so the operation ends: with an invariant on the state, the records, the stack and the
-- entries so far, and a claim of the last entry.
use Rattle.std.proofs.Common.{◌≡◌, ℕ, zero, suc, ◌<◌, ◌≤◌, List, [], ◌∷◌, ◌++◌, sym, refl, ap, ◌∙◌, subst, arith, fold, append_assoc, append-nil}
use Rattle.std.specs.Prelude.{⊤}
use Rattle.hm_base.specs.Program.{Program}
use Rattle.hm_base.specs.declared.ops.Op.{Op}
use Rattle.hm_history.specs.Memory.After.{After}
use Rattle.hm_history.specs.Kernel.Stacks.{stack_after}
use Rattle.hm_history.specs.Kernel.Going.{State, Going, going_on, going_next, state_next, seen_at, recorded}
use Rattle.hm_history.specs.Kernel.Due.{due_in, due_phase, progress}
use Rattle.hm_history.specs.declared.Kind.{Kind}
use Rattle.hm_history.specs.declared.Entry.{Entry}
use Rattle.hm_history.specs.declared.Progress.{Progress}
use Rattle.hm_history.specs.declared.phases.Migrating.{Migrating}
use Rattle.hm_history.specs.declared.phases.Phase.{Phase}
use Rattle.hm_history.specs.declared.phases.Next.{Next}
use Rattle.hm_history.specs.declared.phases.Next.TheVariants.{Do, Wait}
use Rattle.hm_history.proofs.Updates.{here_at}
use Rattle.hm_laws.specs.Past.{Past, past_next}
use Rattle.hm_laws.specs.Sound.{Sound}
use Rattle.hm_laws.specs.Allowed.{next}
use Rattle.hm_laws.specs.Facts.{facts, HoldsAll}
use Rattle.hm_laws.specs.Stands.{Standing}
use Rattle.hm_laws.proofs.Histories.Sound.{Small, turn}
use Rattle.hm_laws.proofs.Waits.WaitsFor.{NoWait}
use Rattle.hm_laws.proofs.Due.Good.{Good}
use Rattle.hm_laws.proofs.Due.EachGood.{due_ok}
use Rattle.hm_quiet_laws.specs.Rest.{OthersRest}
use Rattle.hm_quiet_laws.proofs.measure.Left.{left}
use Rattle.hm_quiet_laws.proofs.measure.Counts.{Counted, Few}
use Rattle.hm_quiet_laws.proofs.alone.NeverWaits.{Alone, alone, goes_alone}
use Rattle.hm_quiet_laws.proofs.alone.Falls.{Falls}
use Rattle.hm_quiet_laws.proofs.alone.Ends.{Ends, At, Counting, StepsTo, EachFalls, due_at, knows_at, going_at, others_stay, others_rest}

pub record EndsWell (c : Program) (u : State) (a i n : ℕ) (done : List Entry) (Last : After → List Migrating → List Entry → Kind → Type 0) : Type 0 where
  pub ends : Ends c u a i n
  pub front : List Entry
  pub last : Kind
  pub split : ends.entries ≡ front ++ record { actor = a; kind = last } ∷ []
  pub well : Last (fold (state_next c) u front).after ((fold (state_next c) u front).going a).pages (done ++ front) last

-- the next stack: at the operation's end the claim, and else the invariant
abbrev pub Onward : (After → List Migrating → List Phase → List Entry → Type 0) → (After → List Migrating → List Entry → Kind → Type 0) → After → ℕ → List Migrating → List Entry → Kind → List Migrating → List Phase → Type 0
Onward Stays Last s a xs done k ys [] = Last s xs done k
Onward Stays Last s a xs done k ys (x ∷ l) = Stays (next s a k) ys (x ∷ l) (done ++ record { actor = a; kind = k } ∷ [])

abbrev pub StepsWell : Program → After → ℕ → Op → List Migrating → Phase → List Phase → List Entry → (After → List Migrating → List Phase → List Entry → Type 0) → (After → List Migrating → List Entry → Kind → Type 0) → Next → Type 0
StepsWell c s a o xs top below done Stays Last (Do k) = Falls c s a o xs top below (Do k) × Onward Stays Last s a xs done k (recorded top (seen_at s o xs top k).page xs k) (stack_after o (top ∷ below) k (seen_at s o xs top k))
StepsWell c s a o xs top below done Stays Last (Wait y) = ⊤

abbrev pub EachWell : Program → Op → (After → List Migrating → List Phase → List Entry → Type 0) → (After → List Migrating → List Entry → Kind → Type 0) → Type 0
EachWell c o Stays Last = (s : After) (t : Past) (a : ℕ) (xs : List Migrating) (top : Phase) (below : List Phase) (done : List Entry) → Sound c s t → Few c s → Alone s a → HoldsAll s t a (facts o xs (top ∷ below)) → Stays s xs (top ∷ below) done → Good c s t a o xs top below (due_phase c s a o xs top) →
    StepsWell c s a o xs top below done Stays Last (due_phase c s a o xs top)

record Went (c : Program) (u : State) (a : ℕ) (o : Op) (xs : List Migrating) (top : Phase) (below : List Phase) (done : List Entry) (Stays : After → List Migrating → List Phase → List Entry → Type 0) (Last : After → List Migrating → List Entry → Kind → Type 0) : Type 0 where
  kind : Kind
  is_due : due_in c u a ≡ Progress.Did (record { actor = a; kind = kind })
  steps : StepsWell c u.after a o xs top below done Stays Last (Do kind)

goes : (c : Program) (u : State) (t : Past) (a i : ℕ) (o : Op) (xs : List Migrating) (top : Phase) (below : List Phase) (done : List Entry) (Stays : After → List Migrating → List Phase → List Entry → Type 0) (Last : After → List Migrating → List Entry → Kind → Type 0) → Small c → Counting c → EachWell c o Stays Last → At c u a i o xs (top ∷ below) → Stays u.after xs (top ∷ below) done → Standing c u t → Counted c u → OthersRest c u a → Went c u a o xs top below done Stays Last
goes c u t a i o xs top below done Stays Last sm ct each at sy sd cd ot = by (due_phase c u.after a o xs top) (due_at c u a i o xs top below at) (goes_alone c u.after t a o xs top below sd.sound al known) (each u.after t a xs top below done sd.sound (ct.few u t sd cd) al known sy (due_ok c u.after t a o xs (sm.ops a i o at.is_op) (sm.few a i o at.is_op) sd.sound top below known))
  where
    known : HoldsAll u.after t a (facts o xs (top ∷ below))
    known = knows_at c u t a i o xs (top ∷ below) at sd

    al : Alone u.after a
    al = alone c u t a sd ot

    by : (y : Next) → due_in c u a ≡ progress a y → NoWait y → StepsWell c u.after a o xs top below done Stays Last y → Went c u a o xs top below done Stays Last
    by (Do k) e w st = record { kind = k; is_due = e; steps = st }
    by (Wait y) e w st = absurd w

pub ends_well : (c : Program) (o : Op) (Stays : After → List Migrating → List Phase → List Entry → Type 0) (Last : After → List Migrating → List Entry → Kind → Type 0) (a i : ℕ) → Small c → Counting c → EachWell c o Stays Last → (n : ℕ) (u : State) (t : Past) (xs : List Migrating) (top : Phase) (below : List Phase) (done : List Entry) → At c u a i o xs (top ∷ below) → Stays u.after xs (top ∷ below) done → Standing c u t → Counted c u → OthersRest c u a →
    left c u.after a o xs (top ∷ below) ≤ n → EndsWell c u a i n done Last
ends_well c o Stays Last a i sm ct each zero u t xs top below done at sy sd cd ot le = absurd (omega (arith, le, (goes c u t a i o xs top below done Stays Last sm ct each at sy sd cd ot).steps.0))
ends_well c o Stays Last a i sm ct each (suc n) u t xs top below done at sy sd cd ot le = by (ends_well c o Stays Last a i sm ct each n) w.kind w.is_due w.steps
  where
    w : Went c u a o xs top below done Stays Last
    w = goes c u t a i o xs top below done Stays Last sm ct each at sy sd cd ot

    by : ((v : State) (z : Past) (ys : List Migrating) (y : Phase) (l : List Phase) (more : List Entry) → At c v a i o ys (y ∷ l) → Stays v.after ys (y ∷ l) more → Standing c v z → Counted c v → OthersRest c v a → left c v.after a o ys (y ∷ l) ≤ n → EndsWell c v a i n more Last) → (k : Kind) → due_in c u a ≡ Progress.Did (record { actor = a; kind = k }) → StepsWell c u.after a o xs top below done Stays Last (Do k) → EndsWell c u a i (suc n) done Last
    by again k d st = on (stack_after o (top ∷ below) k (seen_at u.after o xs top k)) st.0 st.1 (here_at u.going a (going_next c u.after a (u.going a) k) ∙ going_at c u a i o xs top below k at)
      where
        e : Entry
        e = record { actor = a; kind = k }

        v : State
        v = state_next c u e

        ys : List Migrating
        ys = recorded top (seen_at u.after o xs top k).page xs k

        sd2 : Standing c v (past_next t u.after.length a k)
        sd2 = turn c u t e sm sd d

        more : EndsWell c v a i n (done ++ e ∷ []) Last → EndsWell c u a i (suc n) done Last
        more z = record {
          ends = record {
            entries = e ∷ z.ends.entries;
            few = omega (arith, z.ends.few);
            due = (d, z.ends.due);
            ended = z.ends.ended;
            others = λ b ne. z.ends.others b ne ∙ others_stay c u a k b ne;
          };
          front = e ∷ z.front;
          last = z.last;
          split = ap (λ l. e ∷ l) z.split;
          well = subst (λ l. Last (fold (state_next c) v z.front).after ((fold (state_next c) v z.front).going a).pages l z.last) (append_assoc done (e ∷ []) z.front) z.well;
        }

        on : (l : List Phase) → left c (next u.after a k) a o ys l < left c u.after a o xs (top ∷ below) → Onward Stays Last u.after a xs done k ys l → v.going a ≡ going_on c a i l ys → EndsWell c u a i (suc n) done Last
        on [] f s g = record {
          ends = record {
            entries = e ∷ [];
            few = omega arith;
            due = (d, tt);
            ended = g;
            others = λ b ne. others_stay c u a k b ne;
          };
          front = [];
          last = k;
          split = refl;
          well = subst (λ l. Last u.after l (done ++ []) k) (sym at.pages) (subst (λ l. Last u.after xs l k) (sym (append-nil done)) s);
        }
        on (x ∷ l) f s g = more (again v (past_next t u.after.length a k) ys x l (done ++ e ∷ [])
            (record { index = ap (λ (z : Going). z.index) g; is_op = at.is_op; pages = ap (λ (z : Going). z.pages) g; stack = ap (λ (z : Going). z.stack) g })
            s sd2 (ct.kept u t e sd d cd) (others_rest c u a k ot) (omega (arith, f, le)))

-- with an invariant on the stack alone, and nothing to say of the last entry
plainly : (c : Program) (s : After) (a : ℕ) (o : Op) (xs : List Migrating) (top : Phase) (below : List Phase) (done : List Entry) (Stays : List Phase → Type 0) (n : Next) → StepsTo c s a o xs top below Stays n → StepsWell c s a o xs top below done (λ _ _ st _. Stays st) (λ _ _ _ _. ⊤) n
plainly c s a o xs top below done Stays (Wait y) h = tt
plainly c s a o xs top below done Stays (Do k) h = (h.0, on (stack_after o (top ∷ below) k (seen_at s o xs top k)) h.1)
  where
    on : (l : List Phase) → Stays l → Onward (λ _ _ st _. Stays st) (λ _ _ _ _. ⊤) s a xs done k (recorded top (seen_at s o xs top k).page xs k) l
    on [] h = tt
    on (x ∷ l) h = h

pub ends : (c : Program) (o : Op) (Stays : List Phase → Type 0) (a i : ℕ) → Small c → Counting c → EachFalls c o Stays → (n : ℕ) (u : State) (t : Past) (xs : List Migrating) (top : Phase) (below : List Phase) → At c u a i o xs (top ∷ below) → Stays (top ∷ below) → Standing c u t → Counted c u → OthersRest c u a →
    left c u.after a o xs (top ∷ below) ≤ n → Ends c u a i n
ends c o Stays a i sm ct each n u t xs top below at sy sd cd ot le =
    (ends_well c o (λ _ _ st _. Stays st) (λ _ _ _ _. ⊤) a i sm ct (λ s z b ys y l done so fw al h st g. plainly c s b o ys y l done Stays (due_phase c s b o ys y) (each s z b ys y l so fw al h st g)) n u t xs top below [] at sy sd cd ot le).ends
