use Rattle.std.proofs.Common.{◌≡◌, ◌≢◌, ℕ, ◌^◌, ◌<◌, ◌≤◌, ap, ◌∙◌, Some, ◌⊎◌, inl, inr, arith}
use Rattle.std.proofs.lemmas.Bool.{cases_eq}
use Rattle.radix_tables.specs.declared.levels.Levels.{Levels}
use Rattle.radix_tables.specs.Levels.{IsLevels, room_of, word_of}
use Rattle.radix_tables.specs.Maps.{next_word}
use Rattle.radix_tables.proofs.Made.{word_below}
use Rattle.radix_tables.proofs.Pairs.{least_word, map_empty, map_some}
use Rattle.radix_tables.proofs.radix.Radix.give_back.Goals as goal

-- a word lies before the last page's end, or is none
none_at : (l : Levels) → IsLevels l → (v : ℕ) → ((v : ℕ) → 0 ≤ v → v < 2 ^ 36 → word_of l v ≡ 0) → word_of l v ≡ 0
none_at l h v n = by (cases_eq (word_of l v) 0)
  where
    by : (word_of l v ≡ 0) ⊎ (word_of l v ≢ 0) → word_of l v ≡ 0
    by (inl z) = z
    by (inr d) = n v (omega arith) (word_below l h v d)

pub returns-in-None : goal.returns-in-None
returns-in-None c =
    let l = c.self.inside.levels in
    let n = c.give_back.new.self in
    map_empty (word_of l) (room_of l) (word_of n) (room_of n) _ c.self.view_is (λ v. none_at l c.self.invariant.levels v c.in-None.ensures) c.give_back.ensures.words c.give_back.ensures.room

pub returns-in-Some : goal.returns-in-Some
returns-in-Some c =
    let l = c.self.inside.levels in
    map_some c.args.self.now 0 (2 ^ 36) _
    (least_word (word_of l) (room_of l) 0 (2 ^ 36) (Some _) c.in-Some.ensures (word_below l c.self.invariant.levels) ∙ ap (λ m. next_word m 0 (2 ^ 36)) c.self.view_is)
