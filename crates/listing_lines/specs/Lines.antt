-- The lines of `listing`, as bytes. Assumes nothing: these are definitions.
use Rattle.std.specs.Prelude.{ℕ, [], ◌∷◌, reverse, eqb, take}
use Rattle.base.specs.Lists.{pick}
use Rattle.base.specs.Le.{Bytes, le_number}
use Rattle.listing_text.specs.Text.{decimal, hex, line}

-- 01: "`refused K N` (record K from 1, 0 the committee)"
unfoldable pub refused_line : ℕ → ℕ → Bytes
refused_line k n = line (114 ∷ 101 ∷ 102 ∷ 117 ∷ 115 ∷ 101 ∷ 100 ∷ []) (decimal k ∷ decimal n ∷ [])

-- 01: "kind (1 processed, 2 late, 3 unknown)"
unfoldable pub event_name : ℕ → Bytes
event_name kind =
    pick (eqb kind 1) (112 ∷ 114 ∷ 111 ∷ 99 ∷ 101 ∷ 115 ∷ 115 ∷ 101 ∷ 100 ∷ [])
    (pick (eqb kind 2) (108 ∷ 97 ∷ 116 ∷ 101 ∷ [])
    (117 ∷ 110 ∷ 107 ∷ 110 ∷ 111 ∷ 119 ∷ 110 ∷ []))

-- 01: "`processed K S O`, `late`, `unknown` likewise (statement, offset)"
unfoldable pub event_line : ℕ → ℕ → ℕ → ℕ → Bytes
event_line kind k s o = line (event_name kind) (decimal k ∷ decimal s ∷ decimal o ∷ [])

-- 01: "the digest's first four bytes": as a number, the first one highest
unfoldable pub head_of : Bytes → ℕ
head_of digest = le_number (reverse (take 4 digest))

-- 01: "`final ROUND AUTHOR D OFFSET BLOCKS STAKE` ascending, D the digest's first four bytes as 8 lowercase hex digits (the rest decimal)":
-- head is the number of these four bytes
unfoldable pub final_line : ℕ → ℕ → ℕ → ℕ → ℕ → ℕ → Bytes
final_line round author head offset blocks stake =
    line (102 ∷ 105 ∷ 110 ∷ 97 ∷ 108 ∷ []) (decimal round ∷ decimal author ∷ hex 8 head ∷ decimal offset ∷ decimal blocks ∷ decimal stake ∷ [])

-- 01: "`end` with accepted, refused, processed, pending offsets, final"
unfoldable pub end_line : ℕ → ℕ → ℕ → ℕ → ℕ → Bytes
end_line accepted refused processed pending final =
    line (101 ∷ 110 ∷ 100 ∷ []) (decimal accepted ∷ decimal refused ∷ decimal processed ∷ decimal pending ∷ decimal final ∷ [])
