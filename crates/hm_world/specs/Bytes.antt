-- The byte that an address of a process shows.
use Rattle.std.specs.Prelude.{ℕ, ◌%◌, if◌then◌else◌, Option, Some, None, is_some}
use Rattle.hm_history.specs.Memory.After.{After}
use Rattle.hm_history.specs.Memory.Contents.{contents_of}
use Rattle.hm_history.specs.Memory.Plain.{rights_of}
use Rattle.hm_history.specs.Memory.Words.{page_of}

-- from the frame that the page's place stands for, if the page has an area
abbrev pub byte_shown : After → ℕ → ℕ → Option ℕ
byte_shown s p at =
    if is_some (rights_of s.plain p (page_of at)) then Some
    (contents_of s.places s.contents (s.places.place p (page_of at)) (at % 4096)) else None
