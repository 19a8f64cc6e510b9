-- Words as bytes. Assumes nothing: these are definitions.
use Rattle.std.specs.Prelude.{ℕ, zero, suc, ◌/◌, ◌%◌, Bool, eqb, length, take, drop}
use mathlib.Core.List.{List, [], ◌∷◌, map, flatten}
use Rattle.base.specs.Le.{Bytes, le_number, le_bytes}

-- 01: "Stakes and words cross as 8 bytes each", "8-byte stakes, missing bytes zero": the first n words (fewer bytes are a number whose high bytes are zero)
unfoldable pub words_in : ℕ → Bytes → List ℕ
words_in zero s = []
words_in (suc n) s = le_number (take 8 s) ∷ words_in n (drop 8 s)

-- the bytes are whole words
unfoldable pub whole_words : Bytes → Bool
whole_words s = eqb (length s % 8) 0

-- all the words
unfoldable pub words_of : Bytes → List ℕ
words_of s = words_in (length s / 8) s

-- the bytes of the words, one after the other
unfoldable pub bytes_of : List ℕ → Bytes
bytes_of ws = flatten (map (le_bytes 8) ws)
