-- Where the bytes of an access are.
use Rattle.std.specs.Prelude.{ℕ, List}
use Rattle.hm_base.specs.declared.bytes.Store.{Store}
use Rattle.hm_base.specs.declared.bytes.Store.TheVariants.{Short, Long}

-- the bytes
abbrev pub bytes_in : Store → List ℕ
bytes_in (Short few) = few
bytes_in (Long items) = items.value.items
