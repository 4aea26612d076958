-- How far the words of a body were read.
use Rattle.std.proofs.Common.{◌≡◌, true, ℕ, ◌+◌, ◌≤◌, Bor, Option, List, ◌++◌}
use Rattle.hm_race_top.specs.Text.Conditions.Grammar.{bad_from}
use Rattle.hm_race_top.specs.Text.Conditions.Reading.{so_far, stands}
use Rattle.hm_race_top.specs.Text.Conditions.Tails.{tail_of, words_in, size_of}
use Rattle.hm_race_top.specs.declared.text.conditions.reading.Reading.{Reading}
use Rattle.hm_race_top.specs.declared.text.conditions.words.Place.{Place}

-- what has been read and what is left are the whole, and the number is that of the next word
pub record ReadTo (words rest : Option (Bor (List ℕ))) (r : Reading) (number : ℕ) : Type 0 where
  pub text : tail_of words ≡ so_far r ++ tail_of rest
  pub bad : bad_from 2 Place.Fresh (words_in words) ≡ bad_from number r.place (words_in rest)
  pub plain : stands r ≡ true
  pub few : number + size_of rest ≤ 2 + size_of words
