-- The laws of loads, from the rules of legal histories.
use Rattle.std.proofs.Common.{◌≡◌, ℕ, zero, suc, ◌+◌, ◌^◌, ◌<◌, ◌≤◌, Bool, true, false, ◌&&◌, is_some, is_none, Option, Some, None, List, [], ◌∷◌, ◌++◌, length, slice_index, slice_get, take, refl, sym, ap, ◌∙◌, subst, arith, append_assoc, append-nil}
use Rattle.std.specs.Prelude.{option_map}
use Rattle.std.proofs.lemmas.Bool.Decides.{nat_tests}
use Rattle.std.proofs.lemmas.Option.{slice_get_within}
use Rattle.hm_base.specs.Program.{Program}
use Rattle.hm_history.specs.Memory.Words.{page_of, same_bytes, bytes_from}
use Rattle.hm_history.specs.Memory.Plain.{Plain, plain_accepts, rights_of, proc_of, plain_bytes, cause_at}
use Rattle.hm_history.specs.Memory.After.{After, after}
use Rattle.hm_history.specs.Kernel.Going.{state_of, going_next}
use Rattle.hm_history.specs.Laws.{DueFrom}
use Rattle.hm_history.specs.Kernel.Legal.{MayFollow, LegalFrom}
use Rattle.hm_history.specs.declared.Who.{Who}
use Rattle.hm_history.specs.declared.Kind.{Kind}
use Rattle.hm_history.specs.declared.Entry.{Entry}
use Rattle.hm_history.specs.declared.phases.Next.{Next}
use Rattle.hm_history.specs.declared.phases.Next.TheVariants.{Do}
use Rattle.hm_laws.specs.Allowed.{InPage}
use Rattle.hm_laws.specs.Past.{Past, past_start}
use Rattle.hm_laws.specs.Stands.{Standing}
use Rattle.hm_laws.proofs.Histories.Sound.{Turn, small, turn_of, at_start, after_is, standing_after}
use Rattle.hm_why.specs.Sources.{ComesFrom}
use Rattle.hm_why.specs.Laws.{IsLegal, IsLoad, process_at, LoadsHaveSources, LoadsLieInAPage}
use Rattle.hm_why.proofs.LoadsDue.{Reads, Next_reads, reads_due}
use Rattle.hm_why.proofs.Values.{Answers, has_source}

-- an entry of a legal history may follow those before it
may_follow : (c : Program) (g h : List Entry) (i : ℕ) (e : Entry) → LegalFrom c g h → slice_get h i ≡ Some e → MayFollow c (g ++ take i h) e
may_follow c g [] i e l is = cc
may_follow c g (x ∷ h) zero e l is = subst (λ y. MayFollow c (g ++ []) y) (some_is x e is) (subst (λ y. MayFollow c y x) (sym (append-nil g)) l.0)
  where
    some_is : (x e : Entry) → Some x ≡ Some e → x ≡ e
    some_is x e is = cc
may_follow c g (x ∷ h) (suc i) e l is = subst (λ y. MayFollow c y e) (append_assoc g (x ∷ []) (take i h)) (may_follow c (g ++ x ∷ []) h i e l.1 is)

-- its entries were due, and so were those of its front
dues : (c : Program) (g h : List Entry) (i : ℕ) → LegalFrom c g h → DueFrom c g (take i h)
dues c g [] zero l = tt
dues c g [] (suc i) l = tt
dues c g (x ∷ h) zero l = tt
dues c g (x ∷ h) (suc i) l = (l.0.is_due, dues c (g ++ x ∷ []) h i l.1)

next_is : (n : Next) (k : Kind) → n ≡ Do k → Next_reads n → Reads k
next_is n k e h = subst Next_reads e h

-- what holds at a load
record At (h : List Entry) (i at : ℕ) (x : Who) (bs : List ℕ) : Type 0 where
  long : i ≤ length h
  answers : Answers h i
  accepted : plain_accepts (after (take i h)).plain (Kind.Loaded x at bs) ≡ true
  in_page : InPage at (length bs)
  low : (p v : ℕ) → is_some (rights_of (after (take i h)).plain p v) ≡ true → v < 2 ^ 36

at_entry : (h : List Entry) → IsLegal h → (i at : ℕ) (x : Who) (bs : List ℕ) (e : Entry) → slice_get h i ≡ Some e → e.kind ≡ Kind.Loaded x at bs → At h i at x bs
at_entry h l i at x bs e is k = record {
  long = omega (arith, slice_get_within h i e is);
  answers = record { passes = λ j y below at_j. (may_follow l.script [] h j y l.legal at_j).rules.answers };
  accepted = subst (λ y. plain_accepts (after (take i h)).plain y ≡ true) k may.rules.answers;
  in_page = subst Reads k (next_is _ _ turn.is_due (reads_due l.script u e.actor turn.op _ turn.top (length l.script.devices) ((small l.script l.is_script).ops e.actor _ turn.op turn.is_op)));
  low = λ p v. subst (λ (s : After). is_some (rights_of s.plain p v) ≡ true → v < 2 ^ 36) (after_is l.script g) (st.1.sound.processes.area_below p v);
}
  where
    g : List Entry
    g = take i h

    may : MayFollow l.script g e
    may = may_follow l.script [] h i e l.legal is

    st : (t : Past) × Standing l.script (state_of l.script g) t
    st = standing_after l.script [] g past_start (small l.script l.is_script) (at_start l.script (small l.script l.is_script)) (dues l.script [] h i l.legal)

    u : After
    u = (state_of l.script g).after

    turn : Turn l.script u st.0 e.actor e.kind ((state_of l.script g).going e.actor) (going_next l.script u e.actor ((state_of l.script g).going e.actor) e.kind)
    turn = turn_of l.script (state_of l.script g) st.0 e (small l.script l.is_script) st.1 may.is_due

at_load : (h : List Entry) → IsLegal h → (i at : ℕ) (x : Who) (bs : List ℕ) → IsLoad h i x at bs → At h i at x bs
at_load h l i at x bs is = by (slice_get h i) refl is
  where
    by : (y : Option Entry) → slice_get h i ≡ y → option_map (λ (e : Entry). e.kind) y ≡ Some (Kind.Loaded x at bs) → At h i at x bs
    by None e k = cc
    by (Some y) e k = at_entry h l i at x bs y e (same y.kind (Kind.Loaded x at bs) k)
      where
        same : (a b : Kind) → Some a ≡ Some b → a ≡ b
        same a b h = cc

-- a byte of a list that equals another
byte_is : (f : ℕ → ℕ) (bs : List ℕ) (at k : ℕ) → same_bytes bs (bytes_from f at (length bs)) ≡ true → k < length bs → slice_index bs k ≡ f (at + k)
byte_is f [] at k h l = absurd (omega arith)
byte_is f (b ∷ bs) at zero h l = grind (arith, nat_tests)
byte_is f (b ∷ bs) at (suc k) h l = byte_is f bs (at + 1) k (grind (arith, nat_tests)) (omega arith) ∙ ap f next
  where
    next : at + 1 + k ≡ at + suc k
    next = omega arith

page_is : (at n k : ℕ) → InPage at n → k < n → page_of (at + k) ≡ page_of at
page_is at n k h l = grind arith

no_cause : (s : Plain) (x : Who) (v : ℕ) → is_none (cause_at s x v false) ≡ true → is_some (rights_of s (proc_of s x) v) ≡ true
no_cause s x v h = grind (arith, nat_tests)

split : (s : Plain) (x : Who) (at : ℕ) (bs : List ℕ) → plain_accepts s (Kind.Loaded x at bs) ≡ true → (is_some (rights_of s (proc_of s x) (page_of at)) ≡ true) × (same_bytes bs (plain_bytes s x at (length bs)) ≡ true)
split s x at bs h = by (is_none (cause_at s x (page_of at) false)) refl h
  where
    by : (b : Bool) → is_none (cause_at s x (page_of at) false) ≡ b → (b && same_bytes bs (plain_bytes s x at (length bs))) ≡ true → (is_some (rights_of s (proc_of s x) (page_of at)) ≡ true) × (same_bytes bs (plain_bytes s x at (length bs)) ≡ true)
    by true e k = (no_cause s x (page_of at) e, k)
    by false e k = cc

pub loads_lie_in_a_page : LoadsLieInAPage
loads_lie_in_a_page h l i at x bs is = (ends, λ k below. page_is at (length bs) k a.in_page below)
  where
    a : At h i at x bs
    a = at_load h l i at x bs is

    low : page_of at < 2 ^ 36
    low = a.low _ (page_of at) (split (after (take i h)).plain x at bs a.accepted).0

    ends : at + length bs ≤ 2 ^ 48
    ends = omega (arith, low, a.in_page)

pub loads_have_sources : LoadsHaveSources
loads_have_sources h l i at x bs is k below =
    subst (λ v. (j : ℕ) × ComesFrom h i p (at + k) v j) (sym (byte_is (s.bytes p) bs at k parts.1 below))
    (has_source h i a.long a.answers p (at + k) (subst (λ v. is_some (rights_of s p v) ≡ true) (sym (page_is at (length bs) k a.in_page below)) parts.0))
  where
    a : At h i at x bs
    a = at_load h l i at x bs is

    s : Plain
    s = (after (take i h)).plain

    p : ℕ
    p = process_at h i x

    parts : (is_some (rights_of s p (page_of at)) ≡ true) × (same_bytes bs (plain_bytes s x at (length bs)) ≡ true)
    parts = split s x at bs a.accepted
