-- Lists of actors, one more at a time.
use Rattle.std.proofs.Common.{Global, get_or, option_map, ◌≡◌, ℕ, ◌+◌, ◌<◌, ◌≤◌, ◌⊎◌, inl, inr, Some, List, [], ◌∷◌, ◌++◌, length, map, slice_get, refl, sym, ap, ◌∙◌, arith}
use Rattle.std.proofs.lemmas.Bool.{cases_eq, cases_lt}
use Rattle.std.proofs.lemmas.Bool.Decides.{nat_tests}
use Rattle.std.proofs.lemmas.Grind.{elements}
use Rattle.std.proofs.lemmas.List.{map-append}
use Rattle.std.proofs.lemmas.Option.{slice_get_past, slice_get-map, slice_get_read}
use Rattle.std.specs.Rc.{rc_value}
use Rattle.std.specs.declared.rc.Rc.{Rc}
use Rattle.hm_base.specs.Program.{Program}
use Rattle.hm_history.specs.Memory.Words.{with_at}
use Rattle.hm_history.specs.Memory.Sequences.{Sequences}
use Rattle.hm_history.specs.Kernel.Going.{Going, first_stack, going_from}
use Rattle.hm_race_states.specs.Tasks.{going_in}
use Rattle.hm_race_states.specs.States.{going_at, goings_in}
use Rattle.hm_race_states.specs.Goings.{blurred_goings, goings_with}
use Rattle.hm_race_states.specs.declared.tasks.RaceTask.{RaceTask}
use Rattle.hm_history.proofs.Going.{no_op}

end_get : (xs : List RaceTask) (g : RaceTask) (n a : ℕ) → length xs ≡ n → n ≡ a → slice_get (xs ++ g ∷ []) a ≡ Some g
end_get xs g n a l e = grind (arith, elements)

front_get : (xs : List RaceTask) (g : RaceTask) (a : ℕ) → a < length xs → slice_get (xs ++ g ∷ []) a ≡ slice_get xs a
front_get xs g a l = grind (arith, elements)

-- one actor more
pub pushed : (xs ys : List RaceTask) (g : RaceTask) (n : ℕ) (P : ℕ → Going) → ys ≡ xs ++ g ∷ [] → length xs ≡ n → ((a : ℕ) → a < n → goings_in xs a ≡ P a) → going_in g ≡ P n → (a : ℕ) → a < n + 1 → goings_in ys a ≡ P a
pushed xs ys g n P e l below here a j = by (cases_eq n a)
  where
    by : (n ≡ a) ⊎ (n ≡ a → ⊥) → goings_in ys a ≡ P a
    by (inl i) = ap (λ zs. goings_in zs a) e ∙ (ap going_at (end_get xs g n a l i) ∙ (here ∙ ap P i))
    by (inr ne) = ap (λ zs. goings_in zs a) e ∙ (ap going_at (front_get xs g a (omega (arith, j, ne, l))) ∙ below a (omega (arith, j, ne)))

-- an actor that a list has not
pub past : (xs : List RaceTask) (a : ℕ) → length xs ≤ a → goings_in xs a ≡ record { index = 0; stack = []; pages = [] }
past xs a l = ap going_at (slice_get_past xs a l)

there : (f : ℕ → Going) (b : ℕ) (g : Going) (a : ℕ) → b < a → with_at f b g a ≡ f a
there f b g a l = grind (arith, nat_tests)

-- all actors, when each that the list has is as it should be
pub all_there : (c : Program) (s : Sequences) (ts xs : List RaceTask) (b : ℕ) (g : Going) (n : ℕ) → length ts ≡ n → length xs ≡ n → b < n → ((a : ℕ) → a < n → goings_in xs a ≡ blurred_goings c s (goings_with ts b g) a) → (a : ℕ) → goings_in xs a ≡ blurred_goings c s (goings_with ts b g) a
all_there c s ts xs b g n k l low below a = by (cases_lt a n)
  where
    by : (a < n) ⊎ (n ≤ a) → goings_in xs a ≡ blurred_goings c s (goings_with ts b g) a
    by (inl j) = below a j
    by (inr j) = past xs a (omega (arith, j, l)) ∙ sym (ap (λ f. blurred_goings c s (λ i. f) a) (there (goings_in ts) b g a (omega (arith, j, low)) ∙ past ts a (omega (arith, j, k))))

-- all actors before their first entries
pub all_first : (c : Program) (xs : List RaceTask) (n : ℕ) → length c.actors ≤ n → length xs ≡ n → ((a : ℕ) → a < n → goings_in xs a ≡ going_from c a 0) → (a : ℕ) → goings_in xs a ≡ going_from c a 0
all_first c xs n few l below a = by (cases_lt a n)
  where
    by : (a < n) ⊎ (n ≤ a) → goings_in xs a ≡ going_from c a 0
    by (inl j) = below a j
    by (inr j) = past xs a (omega (arith, j, l)) ∙ sym (ap {B = Going} (λ o. record { index = 0; stack = first_stack o; pages = [] }) (no_op c a 0 (omega (arith, j, few))))

-- shared actors
pub mapped_more : (xs ys : List (Rc RaceTask Global)) (t : Rc RaceTask Global) → ys ≡ xs ++ t ∷ [] → map rc_value ys ≡ map rc_value xs ++ t.value ∷ []
mapped_more xs ys t e = ap (map rc_value) e ∙ map-append rc_value xs (t ∷ [])

pub one_more : (xs ys : List (Rc RaceTask Global)) (t : Rc RaceTask Global) (n : ℕ) → ys ≡ xs ++ t ∷ [] → length (map rc_value xs) ≡ n → length (map rc_value ys) ≡ n + 1
one_more xs ys t n e l = ap length (mapped_more xs ys t e) ∙ longer (map rc_value xs) t.value n l
  where
    longer : (zs : List RaceTask) (z : RaceTask) (n : ℕ) → length zs ≡ n → length (zs ++ z ∷ []) ≡ n + 1
    longer zs z n l = grind (arith, elements)

pub task_there : (xs : List (Rc RaceTask Global)) (n i : ℕ) (t : Rc RaceTask Global) → n ≡ i → i < length xs → t ≡ get_or xs n t → goings_in (map rc_value xs) i ≡ going_in t.value
task_there xs n i t e l is = ap going_at (slice_get-map rc_value xs i ∙ ap (option_map rc_value) (slice_get_read xs (length xs) i t refl l (is ∙ ap (λ k. get_or xs k t) e)))
