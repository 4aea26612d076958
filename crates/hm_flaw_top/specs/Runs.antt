-- What the program hmmwithout does with the words after its name.
use Rattle.std.specs.Prelude.{ℕ, List, ◌++◌, codes}
use Rattle.hm_edge.specs.Traffic.{Traffic}
use Rattle.hm_edge.specs.declared.status.Status.{Status}
use Rattle.hm_flaw_top.specs.Withouts.{Withouts}

-- the name that its messages begin with
abbrev pub name : List ℕ
name = codes "hmmwithout"

-- what it says if a word is bad
abbrev pub usage : List ℕ
usage =
    codes "usage: hmmwithout RULE [--holds] | right [--holds] | --all [--answers] [--most MOST], with RULE "
    ++ (codes "one of compare compare-sequence entry-right mmap-lock own-device begin-waits begin-first "
    ++ (codes "set-sequence erase erase-all erase-in-time own-events own-sequence own-entries stop-at-detach "
    ++ (codes "write-entry detach-waits copy-all clear set-moved set-right set-unless-invalidated drop-lost "
    ++ (codes "take-from-there evict-first withdraw-first wait-for-locked exclusive-waits look-again, or of the "
    ++ (codes "memory manager's own: tell-first end-last fork-narrows fault-looks-again bring-home freeze-others "
    ++ codes "freeze-first fresh-looks-again fresh-right back-right lock-page put-back drop-unnamed")))))

-- what the words ask for was done
abbrev pub Runs : List (List ℕ) → Traffic → Status → Type 0
Runs = Withouts
