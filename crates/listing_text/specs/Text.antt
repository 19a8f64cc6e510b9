-- Text in bytes: numbers, fields and lines, and what writing them leaves. Assumes nothing: these are definitions.
use Rattle.std.specs.Prelude.{ℕ, zero, suc, ◌+◌, ◌/◌, ◌%◌, ◌≤◌, ◌≡◌, ltb, length}
use mathlib.Core.List.{List, [], ◌∷◌, ◌++◌, map, flatten}
use Rattle.std.proofs.lemmas.List.Edits.{sets}
use Rattle.base.specs.Lists.{pick}
use Rattle.base.specs.Le.{Bytes}

-- the decimal digits of a number of at most k of them
unfoldable pub digits_in : ℕ → ℕ → Bytes
digits_in zero n = []
digits_in (suc k) n = pick (ltb n 10) ((48 + n) ∷ []) (digits_in k (n / 10) ++ ((48 + n % 10) ∷ []))

-- a word in decimal: it has at most 20 digits
unfoldable pub decimal : ℕ → Bytes
decimal n = digits_in 20 n

-- 0 to 9, a to f
unfoldable pub hex_digit : ℕ → ℕ
hex_digit d = pick (ltb d 10) (48 + d) (87 + d)

-- the last k hex digits of a number
unfoldable pub hex : ℕ → ℕ → Bytes
hex zero n = []
hex (suc k) n = hex k (n / 16) ++ (hex_digit (n % 16) ∷ [])

-- each field after a space
unfoldable pub fields : List Bytes → Bytes
fields fs = flatten (map (λ f. 32 ∷ f) fs)

unfoldable pub line : Bytes → List Bytes → Bytes
line name fs = name ++ (fields fs ++ (10 ∷ []))

-- each number in decimal, after a space
unfoldable pub numbers : List ℕ → Bytes
numbers ns = fields (map decimal ns)

-- a name, the numbers, and one byte after them: the line end, or the space before a field that is no number
unfoldable pub number_line : Bytes → List ℕ → ℕ → Bytes
number_line name ns last = name ++ (numbers ns ++ (last ∷ []))

-- a text stands in a buffer from `at` on, up to `to`, and no other byte has changed
pub record Wrote (before after : Bytes) (at to : ℕ) (text : Bytes) : Type 0 where
  pub bytes : after ≡ sets before at text
  pub end : to ≡ at + length text
  pub fits : to ≤ length before
