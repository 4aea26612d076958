-- What a call that makes room does to the map.
use Rattle.std.proofs.Common.{◌≡◌, ℕ, ◌^◌, ◌<◌, true, Result, Ok, Err, MatchResult, OnOk, OnErr, sym, ap, ◌∙◌}
use Rattle.radix_tables.specs.Levels.{IsSame, IsMade, room_of, word_of}
use Rattle.radix_tables.specs.Maps.{Map, map_of, pairs, pages, is_reserved}
use Rattle.radix_tables.specs.declared.levels.Levels.{Levels}
use Rattle.radix_tables.proofs.Pairs.{words_same, reserved_made, reserved_kept, map_same}

abbrev pub Made : {T E : Type 0} → Levels → Levels → ℕ → Result T E → Type 0
Made l m page r = MatchResult r (λ _. IsMade l m page) (λ _. IsSame l m)

pub made_words : {T E : Type 0} (l m : Levels) (page : ℕ) (r : Result T E) (map : Map) → map_of (word_of l) (room_of l) ≡ map → Made l m page r → pairs (word_of m) pages ≡ map.words
made_words l m page (Ok x) map e h = words_same (word_of l) (word_of m) h.words ∙ ap (λ (k : Map). k.words) e
made_words l m page (Err x) map e h = words_same (word_of l) (word_of m) h.words ∙ ap (λ (k : Map). k.words) e

pub made_kept : {T E : Type 0} (l m : Levels) (page : ℕ) (r : Result T E) (map : Map) → map_of (word_of l) (room_of l) ≡ map → Made l m page r →
    (v : ℕ) → is_reserved map v ≡ true → is_reserved (map_of (word_of m) (room_of m)) v ≡ true
made_kept l m page (Ok x) map e h v t = reserved_kept (word_of l) (word_of m) (room_of l) (room_of m) v h.kept (ap (λ (k : Map). is_reserved k v) e ∙ t)
made_kept l m page (Err x) map e h v t = reserved_kept (word_of l) (word_of m) (room_of l) (room_of m) v (λ b d z. d (sym (h.room b) ∙ z)) (ap (λ (k : Map). is_reserved k v) e ∙ t)

pub made_ok : {T E : Type 0} (l m : Levels) (page : ℕ) (r : Result T E) → page < 2 ^ 36 → Made l m page r → OnOk r (is_reserved (map_of (word_of m) (room_of m)) page ≡ true)
made_ok l m page (Ok x) b h = reserved_made (word_of m) (room_of m) page b h.made
made_ok l m page (Err x) b h = tt

pub made_err : {T E : Type 0} (l m : Levels) (page : ℕ) (r : Result T E) (map : Map) → map_of (word_of l) (room_of l) ≡ map → Made l m page r → OnErr r (map_of (word_of m) (room_of m) ≡ map)
made_err l m page (Ok x) map e h = tt
made_err l m page (Err x) map e h = map_same (word_of l) (word_of m) (room_of l) (room_of m) h.words h.room ∙ e
