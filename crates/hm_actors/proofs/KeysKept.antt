-- The keys of the tasks fit the slab, and a change of one task's item shows in no other.
use Rattle.std.proofs.Common.{◌≡◌, ℕ, ◌<◌, ◌⊎◌, inl, inr, Option, Some, None, IsSome, List, length, refl, sym, ap, ◌∙◌, subst, arith, slice_set, slice_index_or, map}
use Rattle.std.proofs.Math.Seq.{map-set_same}
use Rattle.std.proofs.lemmas.Bool.{cases_eq}
use Rattle.std.proofs.lemmas.List.{ext_get_or, length-map, length-set, set-get_or}
use Rattle.std.proofs.Math.ListN.{get_or-map}
use Rattle.std.proofs.lemmas.Grind.{elements}
use Rattle.slab.specs.Slab.{Slab, get, ContainsKey}
use Rattle.hm_actors.specs.Actors.{RecordsValue, TaskValue, nobody, task_of, goings}
use Rattle.hm_actors.specs.Migrations.{item_or_none, kept_at, task_shown, idle, key_of, KeysFit, Changes}
use Rattle.hm_actors.specs.declared.tasks.Task.{Task}

-- what the tasks show, one by one
pub shown_at : (m : Slab RecordsValue) (xs : List Task) (a : ℕ) → task_of (map (task_shown m) xs) a ≡ task_shown m (slice_index_or xs a idle)
shown_at m xs a = get_or-map (task_shown m) xs a idle

task_here : (xs : List Task) (a : ℕ) (t : Task) → t ≡ slice_index_or xs a t → a < length xs → slice_index_or xs a idle ≡ t
task_here xs a t e l = grind (arith, elements)

pub shown_is : (m : Slab RecordsValue) (xs : List Task) (ys : List TaskValue) → map (task_shown m) xs ≡ ys → (i a : ℕ) → i ≡ a → (t : Task) → t ≡ slice_index_or xs i t → i < length xs → task_shown m t ≡ task_of ys a
shown_is m xs ys e i a p t q l = ap (task_shown m) (sym (task_here xs i t q l)) ∙ sym (shown_at m xs i) ∙ ap (λ (n : ℕ). task_of (map (task_shown m) xs) n) p ∙ ap (λ (z : List TaskValue). task_of z a) e

pub pages_at : (m : Slab RecordsValue) (xs : List Task) (ys : List TaskValue) → map (task_shown m) xs ≡ ys → (a : ℕ) → (kept_at m (key_of xs a)).items ≡ (task_of ys a).going.pages
pages_at m xs ys e a = ap (λ (d : TaskValue). d.going.pages) (sym (shown_at m xs a)) ∙ ap (λ (z : List TaskValue). (task_of z a).going.pages) e

set_here : (xs : List Task) (a b : ℕ) (u : Task) → a < length xs → b ≡ a → slice_index_or (slice_set xs a u) b idle ≡ u
set_here xs a b u l e = grind (arith, elements)

set_there : (xs : List Task) (a b : ℕ) (u : Task) → (b ≡ a → ⊥) → slice_index_or (slice_set xs a u) b idle ≡ slice_index_or xs b idle
set_there xs a b u e = grind (arith, elements)

shown_here : (ys : List TaskValue) (a b : ℕ) (d : TaskValue) → a < length ys → b ≡ a → task_of (slice_set ys a d) b ≡ d
shown_here ys a b d l e = grind (arith, elements)

shown_there : (ys : List TaskValue) (a b : ℕ) (d : TaskValue) → (b ≡ a → ⊥) → task_of (slice_set ys a d) b ≡ task_of ys b
shown_there ys a b d e = grind (arith, elements)

-- a task whose item stays shows the same
kept_same : (old new : Slab RecordsValue) (key : Option ℕ) → ((k : ℕ) → key ≡ Some k → get new k ≡ get old k) → kept_at new key ≡ kept_at old key
kept_same old new None h = refl
kept_same old new (Some k) h = ap item_or_none (h k refl)

shown_same : (old new : Slab RecordsValue) (t : Task) → ((k : ℕ) → t.migration ≡ Some k → get new k ≡ get old k) → task_shown new t ≡ task_shown old t
shown_same old new t h = ap (λ (r : RecordsValue). record { going = record { index = t.index; stack = t.stack; pages = r.items }; spare = r.spare }) (kept_same old new t.migration h)

none_held : (o : Option RecordsValue) → o ≡ None → IsSome o → ⊥
none_held None e h = cc
none_held (Some x) e h = cc

module _ (xs : List Task) (old new : Slab RecordsValue) (a : ℕ) (t u : Task) (fit : KeysFit xs old) (at : t ≡ slice_index_or xs a t) (below : a < length xs) (moved : Changes old new t.migration u.migration) where
  here : slice_index_or xs a idle ≡ t
  here = task_here xs a t at below

  -- the item of another task stays
  other_stays : (b key : ℕ) → (b ≡ a → ⊥) → key_of xs b ≡ Some key → get new key ≡ get old key
  other_stays b key ne p = moved.others key (fit.held b key p) (λ z. ne (fit.own b a key p (ap (λ (x : Task). x.migration) here ∙ z)))

  here_is : (b : ℕ) → b ≡ a → key_of (slice_set xs a u) b ≡ u.migration
  here_is b e = ap (λ (x : Task). x.migration) (set_here xs a b u below e)

  there_is : (b : ℕ) → (b ≡ a → ⊥) → key_of (slice_set xs a u) b ≡ key_of xs b
  there_is b ne = ap (λ (x : Task). x.migration) (set_there xs a b u ne)

  held_next : (b key : ℕ) → (b ≡ a) ⊎ (b ≡ a → ⊥) → key_of (slice_set xs a u) b ≡ Some key → ContainsKey new key
  held_next b key (inl e) p = moved.here key (sym (here_is b e) ∙ p)
  held_next b key (inr ne) p = let q : key_of xs b ≡ Some key = sym (there_is b ne) ∙ p in
      subst (λ (o : Option RecordsValue). IsSome o) (sym (other_stays b key ne q)) (fit.held b key q)

  -- another task does not hold the changed task's key
  apart : (b key : ℕ) → (b ≡ a → ⊥) → key_of xs b ≡ Some key → (t.migration ≡ Some key) ⊎ (get old key ≡ None) → ⊥
  apart b key ne p (inl z) = ne (fit.own b a key p (ap (λ (x : Task). x.migration) here ∙ z))
  apart b key ne p (inr z) = none_held (get old key) z (fit.held b key p)

  own_next : (b d key : ℕ) → (b ≡ a) ⊎ (b ≡ a → ⊥) → (d ≡ a) ⊎ (d ≡ a → ⊥) → key_of (slice_set xs a u) b ≡ Some key → key_of (slice_set xs a u) d ≡ Some key → b ≡ d
  own_next b d key (inl e) (inl f) p q = e ∙ sym f
  own_next b d key (inl e) (inr ne) p q = absurd (apart d key ne (sym (there_is d ne) ∙ q) (moved.fresh key (sym (here_is b e) ∙ p)))
  own_next b d key (inr ne) (inl f) p q = absurd (apart b key ne (sym (there_is b ne) ∙ p) (moved.fresh key (sym (here_is d f) ∙ q)))
  own_next b d key (inr ne) (inr nf) p q = fit.own b d key (sym (there_is b ne) ∙ p) (sym (there_is d nf) ∙ q)

  pub keys_kept : KeysFit (slice_set xs a u) new
  keys_kept = record { held = λ b key p. held_next b key (cases_eq b a) p; own = λ b d key p q. own_next b d key (cases_eq b a) (cases_eq d a) p q }

  shown_next : (b : ℕ) → (b ≡ a) ⊎ (b ≡ a → ⊥) → task_of (map (task_shown new) (slice_set xs a u)) b ≡ task_of (slice_set (map (task_shown old) xs) a (task_shown new u)) b
  shown_next b (inl e) = shown_at new (slice_set xs a u) b ∙ ap (task_shown new) (set_here xs a b u below e) ∙ sym (shown_here (map (task_shown old) xs) a b (task_shown new u) (subst (λ (n : ℕ). a < n) (sym (length-map xs (task_shown old))) below) e)
  shown_next b (inr ne) = shown_at new (slice_set xs a u) b ∙ ap (task_shown new) (set_there xs a b u ne)
      ∙ shown_same old new (slice_index_or xs b idle) (λ k p. other_stays b k ne p)
      ∙ sym (shown_at old xs b) ∙ sym (shown_there (map (task_shown old) xs) a b (task_shown new u) ne)

  lengths : length (map (task_shown new) (slice_set xs a u)) ≡ length (slice_set (map (task_shown old) xs) a (task_shown new u))
  lengths = length-map (slice_set xs a u) (task_shown new) ∙ length-set xs a u ∙ sym (length-map xs (task_shown old)) ∙ sym (length-set (map (task_shown old) xs) a (task_shown new u))

  pub shown_set : map (task_shown new) (slice_set xs a u) ≡ slice_set (map (task_shown old) xs) a (task_shown new u)
  shown_set = ext_get_or nobody _ _ lengths (λ b l. shown_next b (cases_eq b a))

  -- what an actor shows after the change
  pub stepped : (ys : List TaskValue) → map (task_shown old) xs ≡ ys → (n : ℕ) → a ≡ n → (d : TaskValue) → task_shown new u ≡ d → map (task_shown new) (slice_set xs a u) ≡ slice_set ys n d
  stepped ys e n p d q = shown_set ∙ ap (λ (z : TaskValue). slice_set (map (task_shown old) xs) a z) q
      ∙ ap (λ (i : ℕ). slice_set (map (task_shown old) xs) i d) p ∙ ap (λ (z : List TaskValue). slice_set z n d) e

  pub changed : (n : ℕ) → a ≡ n → task_of (map (task_shown new) (slice_set xs a u)) n ≡ task_shown new u
  changed n p = shown_at new (slice_set xs a u) n ∙ ap (task_shown new) (set_here xs a n u below (sym p))

  pub stays : (ys : List TaskValue) → map (task_shown old) xs ≡ ys → (n : ℕ) → a ≡ n → task_shown new u ≡ task_shown old t → map (task_shown new) (slice_set xs a u) ≡ ys
  stays ys e n p q = stepped ys e n p (task_of ys n) (q ∙ shown_is old xs ys e a n p t at below) ∙ set-get_or ys n nobody

  pub goings_stay : (ys : List TaskValue) → map (task_shown old) xs ≡ ys → (n : ℕ) → a ≡ n → (task_shown new u).going ≡ (task_shown old t).going → goings (map (task_shown new) (slice_set xs a u)) ≡ goings ys
  goings_stay ys e n p q = ap goings (stepped ys e n p (task_shown new u) refl)
      ∙ map-set_same (λ (x : TaskValue). x.going) ys n (task_shown new u) nobody (q ∙ ap (λ (x : TaskValue). x.going) (shown_is old xs ys e a n p t at below))

-- tasks without a migration
abbrev pub NoKeys : List Task → Type 0
NoKeys xs = (a : ℕ) → key_of xs a ≡ None
