-- What the pages of a process show.
use Rattle.std.specs.Prelude.{ℕ, ◌%◌}
use Rattle.hm_history.specs.Memory.After.{After}
use Rattle.hm_history.specs.Memory.Contents.{contents_of}
use Rattle.hm_history.specs.Memory.Words.{page_of}

-- the byte at an address, of the frame that its page's place stands for
abbrev pub shown_at : After → ℕ → ℕ → ℕ
shown_at s p x = contents_of s.places s.contents (s.places.place p (page_of x)) (x % 4096)
