-- What is kept goes on following a history.
use Rattle.std.proofs.Common.{◌≡◌, ℕ, suc, ◌<◌, ◌^◌, ◌==◌, Bool, true, false, if◌then◌else◌, Option, Some, None, List, slice_get, take, unwrap_or, refl, sym, ap, ◌∙◌, arith}
use Rattle.std.specs.Prelude.{option_map}
use Rattle.std.proofs.Math.Path.{fun_ext}
use Rattle.std.proofs.lemmas.Bool.Decides.{nat_tests}
use Rattle.hm_history.specs.Memory.Words.{with_at}
use Rattle.hm_history.specs.Memory.Plain.{Plain, MirrorState, Attachment, Attached, Detaching, Gone, plain_next, mirror_owner, mirror_proc, with_attachment}
use Rattle.hm_history.specs.Memory.After.{after}
use Rattle.hm_history.specs.declared.Who.{Who}
use Rattle.hm_history.specs.declared.Kind.{Kind}
use Rattle.hm_history.specs.declared.Entry.{Entry}
use Rattle.hm_why.specs.Sources.{Effect, Gives, Copies, Leaves, effect, owners_at, source_by, source_of}
use Rattle.hm_why.specs.Laws.{process_at}
use Rattle.hm_why.specs.Writers.{owner_in, source_in, process_in, owners_next, IsNoted}
use Rattle.hm_why.specs.Follows.{Follows}
use Rattle.hm_why.specs.declared.writers.Writers.{Writers}
use Rattle.hm_why.proofs.Values.{after_next}

stays : (t : Attachment) (x : Option MirrorState) → option_map (λ (y : MirrorState). y.proc) (with_attachment t x) ≡ option_map (λ (y : MirrorState). y.proc) x
stays t None = refl
stays t (Some x) = refl

kept : (s : Plain) (n m : ℕ) (t : Attachment) → option_map (λ (y : MirrorState). y.proc) (with_at s.mirrors n (with_attachment t (s.mirrors n)) m) ≡ mirror_owner s m
kept s n m t = by (m == n) refl
  where
    by : (b : Bool) → (m == n) ≡ b → option_map (λ (y : MirrorState). y.proc) (if b then with_attachment t (s.mirrors n) else s.mirrors m) ≡ mirror_owner s m
    by true e = stays t (s.mirrors n) ∙ ap (mirror_owner s) (sym (eq_from e))
      where
        eq_from : (m == n) ≡ true → m ≡ n
        eq_from e = grind (arith, nat_tests)
    by false e = refl

-- the processes of mirrors after an entry
owners_after : (s : Plain) (k : Kind) (m : ℕ) → mirror_owner (plain_next s k) m ≡ owners_next k (mirror_owner s) m
owners_after s (Kind.Attached n d p r q) m = by (m == n)
  where
    by : (b : Bool) → option_map (λ (y : MirrorState). y.proc) (if b then Some (record { dev = d; proc = p; window = r; stage = Attached }) else s.mirrors m) ≡ (if b then Some p else mirror_owner s m)
    by true = refl
    by false = refl
owners_after s (Kind.Detaching n q) m = kept s n m Detaching
owners_after s (Kind.Detached n) m = kept s n m Gone
owners_after s k m = refl

-- an entry of the history was noted
pub one_more : (h : List Entry) (i : ℕ) (e : Entry) (w v : Writers) → slice_get h i ≡ Some e → Follows w h i → IsNoted w v i e.kind → Follows v h (suc i)
one_more h i e w v is f n = record {
  sized = n.sized;
  owners = λ m. n.owners m ∙ ap (λ own. owners_next e.kind own m) same ∙ sym (owners_after s e.kind m) ∙ sym (ap (λ t. mirror_owner t.plain m) (after_next h i e is));
  sources = λ q b low. n.sources q b low ∙ ap (λ own. source_by (effect own e.kind q b) i (source_in w) q b) same ∙ by (effect (owners_at h i) e.kind q b) q b low ∙ sym (does q b);
}
  where
    s : Plain
    s = (after (take i h)).plain

    same : owner_in w ≡ owners_at h i
    same = fun_ext f.owners

    does : (q b : ℕ) → source_of h (suc i) q b ≡ source_by (effect (owners_at h i) e.kind q b) i (source_of h i) q b
    does q b = ap (λ (z : Option Entry). source_by (elim (option_map (λ (e : Entry). e.kind) z) as (λ _. Effect) [ None ↦ Leaves | Some k ↦ effect (owners_at h i) k q b ]) i (source_of h i) q b) is

    by : (x : Effect) (q b : ℕ) → b < 2 ^ 48 → source_by x i (source_in w) q b ≡ source_by x i (source_of h i) q b
    by Gives q b low = refl
    by (Copies p) q b low = f.sources p b low
    by Leaves q b low = f.sources q b low

-- the process of an access
owner_proc : (s : Plain) (m : ℕ) → unwrap_or (mirror_owner s m) 0 ≡ mirror_proc s m
owner_proc s m = by (s.mirrors m)
  where
    by : (x : Option MirrorState) → unwrap_or (option_map (λ (y : MirrorState). y.proc) x) 0 ≡ (elim x as (λ _. ℕ) [ None ↦ 0 | Some y ↦ y.proc ])
    by None = refl
    by (Some y) = refl

pub process_is : (h : List Entry) (i : ℕ) (w : Writers) → Follows w h i → (x : Who) → process_in w x ≡ process_at h i x
process_is h i w f (Who.Cpu p) = refl
process_is h i w f (Who.Mirror m) = ap (λ y. unwrap_or y 0) (f.owners m) ∙ owner_proc (after (take i h)).plain m
