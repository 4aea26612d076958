-- The text of a script ends with the lines of its schedule.
use Rattle.std.proofs.Common.{◌≡◌, ℕ, List, [], ◌∷◌, ◌++◌, map, ap, ◌∙◌, append_assoc}
use Rattle.std.specs.Prelude.{codes}
use Rattle.std.specs.Fmt.{decimal}
use Rattle.std.specs.List.{flat_map}
use Rattle.std.proofs.lemmas.Grind.{flat_map-append}
use Rattle.std.proofs.lemmas.List.{map-append}
use Rattle.std.proofs.lemmas.List.Folds.{flat_map-map}
use Rattle.hm_script.specs.Spelling.{line, text, header_words, device_lines, skip_lines, actor_lines, schedule_words}
use Rattle.hm_race_top.specs.Text.Schedule.{packed}
use Rattle.hm_race_top.specs.Text.Laws.{TurnsComeLast}

-- the last of five parts
last_part : {X : Type 0} (f : X → List ℕ) (a b c d e : List X) → flat_map f (a ++ (b ++ (c ++ (d ++ e)))) ≡ flat_map f (a ++ (b ++ (c ++ d))) ++ flat_map f e
last_part {X} f a b c d e =
    let regroup : a ++ (b ++ (c ++ (d ++ e))) ≡ (a ++ (b ++ (c ++ d))) ++ e = simp append_assoc in
    ap (λ (xs : List X). flat_map f xs) regroup ∙ flat_map-append f (a ++ (b ++ (c ++ d))) e

pub turns_come_last : TurnsComeLast
turns_come_last c turns =
    let front : List (List (List ℕ)) = header_words c.version ∷ (codes "frames" ∷ decimal c.frames ∷ []) ∷ device_lines 0 c.devices in
    let own = map schedule_words c.schedule in
    let more = map schedule_words (packed turns) in
    ap (λ (ls : List (List (List ℕ))). flat_map line (front ++ (skip_lines c.skip ++ (actor_lines 0 c.actors ++ ls)))) (map-append schedule_words c.schedule (packed turns))
    ∙ last_part line front (skip_lines c.skip) (actor_lines 0 c.actors) own more
    ∙ ap (λ (z : List ℕ). text c ++ z) (flat_map-map line schedule_words (packed turns))
