-- What was recorded is read back from the words of its line.
use Rattle.std.proofs.Common.{◌≡◌, ℕ, Bool, true, false, List, ◌∷◌, ◌++◌, Ok, refl}
use Rattle.std.specs.Prelude.{codes}
use Rattle.std.specs.List.{list_all}
use Rattle.hm_protocol.specs.declared.events.Recorded.{Recorded}
use Rattle.hm_trace.specs.Lines.{recorded_at, words_at}
use Rattle.hm_trace.specs.Spelling.{recorded_words, word_if}
use Rattle.hm_trace.specs.declared.line.TraceLine.{TraceLine}
use Rattle.hm_trace.proofs.WordsAgain.{is_word}

abbrev made : Bool → Bool → Bool → Bool → Bool → Bool → Recorded
made s e u t f m = record { set = s; erase = e; uses = u; take = t; free = f; model = m }

told : (s e u t f m : Bool) → recorded_at (codes "names" ∷ recorded_words (made s e u t f m)) ≡ made s e u t f m
unfolding recorded_at
told true true true true true true = refl
told true true true true true false = refl
told true true true true false true = refl
told true true true true false false = refl
told true true true false true true = refl
told true true true false true false = refl
told true true true false false true = refl
told true true true false false false = refl
told true true false true true true = refl
told true true false true true false = refl
told true true false true false true = refl
told true true false true false false = refl
told true true false false true true = refl
told true true false false true false = refl
told true true false false false true = refl
told true true false false false false = refl
told true false true true true true = refl
told true false true true true false = refl
told true false true true false true = refl
told true false true true false false = refl
told true false true false true true = refl
told true false true false true false = refl
told true false true false false true = refl
told true false true false false false = refl
told true false false true true true = refl
told true false false true true false = refl
told true false false true false true = refl
told true false false true false false = refl
told true false false false true true = refl
told true false false false true false = refl
told true false false false false true = refl
told true false false false false false = refl
told false true true true true true = refl
told false true true true true false = refl
told false true true true false true = refl
told false true true true false false = refl
told false true true false true true = refl
told false true true false true false = refl
told false true true false false true = refl
told false true true false false false = refl
told false true false true true true = refl
told false true false true true false = refl
told false true false true false true = refl
told false true false true false false = refl
told false true false false true true = refl
told false true false false true false = refl
told false true false false false true = refl
told false true false false false false = refl
told false false true true true true = refl
told false false true true true false = refl
told false false true true false true = refl
told false false true true false false = refl
told false false true false true true = refl
told false false true false true false = refl
told false false true false false true = refl
told false false true false false false = refl
told false false false true true true = refl
told false false false true true false = refl
told false false false true false true = refl
told false false false true false false = refl
told false false false false true true = refl
told false false false false true false = refl
told false false false false false true = refl
told false false false false false false = refl

pub names_told : (r : Recorded) → words_at (codes "names" ∷ recorded_words r) ≡ Ok (TraceLine.Names r)
unfolding words_at
names_told r = rw (told r.set r.erase r.uses r.take r.free r.model) refl

-- a word that may be there, and others
one_word : (here : Bool) (w : List ℕ) (ws : List (List ℕ)) → is_word w ≡ true → list_all is_word ws ≡ true → list_all is_word (word_if here w ++ ws) ≡ true
one_word true w ws h k = rw (h, k) refl
one_word false w ws h k = k

last_word : (here : Bool) (w : List ℕ) → is_word w ≡ true → list_all is_word (word_if here w) ≡ true
last_word true w h = rw h refl
last_word false w h = refl

pub names_words : (r : Recorded) → list_all is_word (codes "names" ∷ recorded_words r) ≡ true
names_words r =
    one_word r.set (codes "set") _ refl (one_word r.erase (codes "erase") _ refl (one_word r.uses (codes "use") _ refl (one_word r.take (codes "take") _ refl (one_word r.free (codes "free") _ refl (last_word r.model (codes "model") refl)))))
