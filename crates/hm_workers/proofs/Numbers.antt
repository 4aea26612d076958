-- Passes with their places.
use Rattle.std.proofs.Common.{◌≡◌, ℕ, zero, suc, ◌+◌, ◌<◌, List, [], ◌∷◌, ◌++◌, length, Some, Bool, false, not, if◌then◌else◌, slice_get, get_or, sym, refl, ap, ◌∙◌, subst, arith, append_assoc}
use Rattle.hm_turns.specs.Sights.{Sight, Desk}
use Rattle.hm_workers.specs.declared.workers.Job.{Job}
use Rattle.hm_history.specs.declared.Entry.{Entry}
use Rattle.hm_base.specs.Program.{Program}
use Rattle.hm_history.specs.declared.Progress.{Progress}
use Rattle.hm_workers.specs.Working.{numbered, AreOf, DoesJob, AllWork}

abbrev pub job : ℕ → Sight → Job
job n p = record { actor = n; pass = p }

pub numbered_more : (n : ℕ) (xs : List Sight) (p : Sight) → numbered n (xs ++ p ∷ []) ≡ numbered n xs ++ job (n + length xs) p ∷ []
numbered_more n [] p = let e : n ≡ n + 0 = omega arith in ap (λ (k : ℕ). job k p ∷ []) e
numbered_more n (x ∷ xs) p = let e : suc n + length xs ≡ n + suc (length xs) = omega arith in ap (λ (l : List Job). job n x ∷ l) (numbered_more (suc n) xs p ∙ ap (λ (k : ℕ). numbered (suc n) xs ++ job k p ∷ []) e)

pub all_more : (ys zs rest all : List Sight) (x : Sight) → ys ++ rest ≡ all → rest ≡ x ∷ zs → (ys ++ x ∷ []) ++ zs ≡ all
all_more ys zs rest all x e is = append_assoc ys (x ∷ []) zs ∙ (ap (λ (l : List Sight). ys ++ l) (sym is) ∙ e)

pub pushed : {X : Type 0} (ok bad : Bool) (xs ys zs : List X) → bad ≡ false → ok ≡ not bad → ys ≡ (if ok then zs else xs) → ys ≡ zs
pushed ok bad xs ys zs e n is = is ∙ ap (λ (b : Bool). if b then zs else xs) (n ∙ ap not e)

pub length-numbered : (n : ℕ) (ps : List Sight) → length (numbered n ps) ≡ length ps
length-numbered n [] = refl
length-numbered n (x ∷ ps) = ap suc (length-numbered (suc n) ps)

pub numbered_at : (n : ℕ) (ps : List Sight) (i : ℕ) (d : Job) (e : Sight) → i < length ps → get_or (numbered n ps) i d ≡ job (n + i) (get_or ps i e)
numbered_at n [] i d e lt = absurd (omega arith)
numbered_at n (x ∷ ps) zero d e lt = let z : n ≡ n + 0 = omega arith in ap (λ (k : ℕ). job k x) z
numbered_at n (x ∷ ps) (suc i) d e lt = let z : suc n + i ≡ n + suc i = omega arith in numbered_at (suc n) ps i d e (omega arith) ∙ ap (λ (k : ℕ). job k (get_or ps i e)) z

get_of : (ps : List Sight) (i : ℕ) (d : Sight) → i < length ps → slice_get ps i ≡ Some (get_or ps i d)
get_of [] i d lt = absurd (omega arith)
get_of (x ∷ ps) zero d lt = refl
get_of (x ∷ ps) (suc i) d lt = get_of ps i d (omega arith)

pub got : (ps : List Sight) (i : ℕ) (p : Sight) → slice_get ps i ≡ Some p → (i < length ps) × (get_or ps i p ≡ p)
got [] i p e = absurd (let h = e in cc)
got (x ∷ ps) zero p e = (omega arith, (let h = e in cc))
got (x ∷ ps) (suc i) p e = let r = got ps i p e in let l = r.0 in (omega arith, r.1)

pub jobs_fine : (ps : List Sight) (jobs : List Job) (desk : Desk) (i : ℕ) (x : Job) → jobs ≡ numbered 0 ps → AreOf desk ps → i < length jobs → x ≡ get_or jobs i x → (x.pass.desk ≡ desk) × (x.actor < length ps)
jobs_fine ps jobs desk i x is own lt e = let long = ap (λ (l : List Job). length l) is ∙ length-numbered 0 ps in let small : i < length ps = omega arith in
    let here : x ≡ job (0 + i) (get_or ps i x.pass) = e ∙ (ap (λ (l : List Job). get_or l i x) is ∙ numbered_at 0 ps i x x.pass small) in
    let place = ap (λ (j : Job). j.actor) here in
    (ap (λ (j : Job). j.pass.desk) here ∙ own i (get_or ps i x.pass) (get_of ps i x.pass small), omega arith)

pub all_work : (due : Program → List Entry → ℕ → Progress) (ps qs : List Sight) (jobs : List Job) → jobs ≡ numbered 0 ps → length qs ≡ length jobs
    → ((i : ℕ) (p : Sight) (j : Job) → i < length jobs → DoesJob due (get_or jobs i j) (get_or qs i p)) → AllWork due ps qs
all_work due ps qs jobs is count each = let long = ap (λ (l : List Job). length l) is ∙ length-numbered 0 ps in record {
  count = count ∙ long;
  each = λ i p q at at'. let a = got ps i p at in let b = got qs i q at' in let lt = a.0 in let first : 0 + i ≡ i = omega arith in
      let here : get_or jobs i (job i p) ≡ job i p = ap (λ (l : List Job). get_or l i (job i p)) is ∙ (numbered_at 0 ps i (job i p) p lt ∙ (λ k. job (first k) (a.1 k))) in
      subst (λ (z : Job × Sight). DoesJob due z.0 z.1) (λ k. (here k, b.1 k)) (each i q (job i p) (omega arith));
}
