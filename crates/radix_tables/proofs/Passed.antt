-- The tables that a search passes over have nothing that it looks for.
use Rattle.std.proofs.Common.{◌≡◌, ℕ, ◌+◌, ◌*◌, ◌/◌, ◌%◌, ◌<◌, ◌≤◌, Bool, false, List, get_or, refl, sym, ap, ◌∙◌, arith}
use Rattle.std.proofs.lemmas.Nat.Bits.{bit_at-zero}
use Rattle.frame_pool.specs.Bits.{bit}
use Rattle.radix_tables.specs.Walks.{table_in}
use Rattle.radix_tables.specs.Levels.{AreBits, from_second, from_third, word_of}
use Rattle.radix_tables.specs.declared.levels.Levels.{Levels}
use Rattle.radix_tables.proofs.Tables.{table_entry}
use Rattle.radix_tables.proofs.TableBits.{table_bit}

pub none_passed : (test : ℕ → Bool) (g : ℕ → ℕ) (l : Levels) (second bits : List ℕ) (t block end : ℕ) → second ≡ l.second.items → AreBits test l.words.items bits → t ≡ table_in (from_third l) (block / 64) → end ≤ (block / 64 + 1) * 64 →
    ((n : ℕ) → block < n → n < end → get_or bits (get_or second (t * 64 + n % 64) 0) 0 ≡ 0) → ((w : ℕ) → test w ≡ false → g w ≡ 0) →
    (v : ℕ) → (block + 1) * 64 ≤ v → v < end * 64 → g (word_of l v) ≡ 0
none_passed test g l second bits t block end s h e low z none v a b = none (word_of l v) (sym (h.each (table_in (from_second l) (v / 64) * 64 + v % 64)) ∙ clear)
  where
    same : v / 64 / 64 ≡ block / 64
    same = omega (arith, low, a, b)

    named : table_in (from_second l) (v / 64) ≡ get_or second (t * 64 + v / 64 % 64) 0
    named =
        table_entry l.second.items (from_third l) (v / 64) (λ q. absurd (omega (arith, a, q)))
        ∙ ap (λ (k : ℕ). get_or l.second.items (k * 64 + v / 64 % 64) 0) (ap (table_in (from_third l)) same ∙ sym e)
        ∙ ap (λ (xs : List ℕ). get_or xs (t * 64 + v / 64 % 64) 0) (sym s)

    clear : bit bits (table_in (from_second l) (v / 64) * 64 + v % 64) ≡ false
    clear = table_bit bits (table_in (from_second l) (v / 64)) v ∙ rw (ap (λ (k : ℕ). get_or bits k 0) named ∙ z (v / 64) (omega (arith, a)) (omega (arith, b)), bit_at-zero (v % 64)) refl
