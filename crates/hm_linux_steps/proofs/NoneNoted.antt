-- Where nothing is noted.
use Rattle.std.proofs.Common.{◌≡◌, ℕ, zero, suc, Bool, false, Option, Some, None, List, [], ◌∷◌, replicate, refl, sym, ap, ◌∙◌}
use Rattle.std.proofs.Math.Path.{fun_ext}
use Rattle.std.specs.Prelude.{slice_index_or, slice_get}
use Rattle.hm_base.specs.Program.{Program}
use Rattle.hm_base.specs.declared.Frame.{Frame}
use Rattle.hm_base.specs.declared.ops.Op.{Op}
use Rattle.hm_history.specs.declared.Kind.{Kind}
use Rattle.hm_history.specs.declared.phases.Phase.{Phase}
use Rattle.hm_linux.specs.declared.variant.Variant.{Variant}
use Rattle.hm_linux.specs.Instead.{noted_next, noted_top}
use Rattle.std.proofs.lemmas.Option.{same_Some}
use Rattle.hm_linux.specs.Noted.{Noted, Varied, nothing_noted}

pub same_noted : (f g : ℕ → List Frame) (h i : ℕ → Option Frame) (j k m n : ℕ → Bool) → f ≡ g → h ≡ i → j ≡ k → m ≡ n
    → ◌≡◌ {A = Noted} (record { references = f; locks = h; busy = j; torn = m }) (record { references = g; locks = i; busy = k; torn = n })
same_noted f g h i j k m n p q r s = cc

-- what is noted at a phase
pub top_noted : (l : Variant) (c : Program) (t : Varied) (a : ℕ) (k : Kind) (x : Option Op) (st : List Phase) (o : Op) (top : Phase) → x ≡ Some o → slice_get st 0 ≡ Some top → noted_next l c t a k o top ≡ noted_top l c t a k x st
top_noted l c t a k None st o top p q = cc
top_noted l c t a k (Some y) [] o top p q = cc
top_noted l c t a k (Some y) (z ∷ zs) o top p q = ap (λ (u : Op). noted_next l c t a k u top) (sym (same_Some y o p)) ∙ ap (noted_next l c t a k y) (sym (same_Some z top q))

pub none_noted : (xs : List (List Frame)) → xs ≡ replicate 16 []
    → ◌≡◌ {A = Noted} (record {
      references = λ a. slice_index_or xs a [];
      locks = λ a. slice_index_or (replicate 16 None) a None;
      busy = λ a. slice_index_or (replicate 16 false) a false;
      torn = λ a. slice_index_or (replicate 16 false) a false;
    }) nothing_noted
none_noted xs e =
    same_noted (λ a. slice_index_or xs a []) (λ a. []) (λ a. slice_index_or (replicate 16 None) a None) (λ a. None) (λ a. slice_index_or (replicate 16 false) a false) (λ a. false) (λ a. slice_index_or (replicate 16 false) a false) (λ a. false)
    (fun_ext (λ a. ap (λ (ys : List (List Frame)). slice_index_or ys a []) e ∙ alike [] 16 a))
    (fun_ext (λ a. alike None 16 a)) (fun_ext (λ a. alike false 16 a)) (fun_ext (λ a. alike false 16 a))
  where
    alike : {X : Type 0} (x : X) (n a : ℕ) → slice_index_or (replicate n x) a x ≡ x
    alike x zero a = refl
    alike x (suc n) zero = refl
    alike x (suc n) (suc a) = alike x n a
