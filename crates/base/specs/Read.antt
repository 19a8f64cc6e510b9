-- Reading from the front of a list of bytes or words: what was read with what is left, or nothing. Assumes nothing: these are definitions.
use Rattle.std.specs.Prelude.{ℕ, zero, suc, Bool, List, [], ◌∷◌, leb, length, take, drop}
use Rattle.std.proofs.Math.Option.{Option, none, some, map}
use Rattle.base.specs.Lists.{pick, is_empty}
use Rattle.base.specs.Le.{le_number}

pub record Part (A : Type 0) : Type 0 where
  pub value : A
  pub rest : List ℕ

abbrev pub Read : Type 0 → Type 0
Read A = List ℕ → Option (Part A)

unfoldable pub give : {A : Type 0} → A → Read A
give a s = some (record { value = a; rest = s })

unfoldable pub fail : {A : Type 0} → Read A
fail s = none

-- what follows a part that was read; nothing where none was
unfoldable pub onward : {A B : Type 0} → Option (Part A) → (A → Read B) → Option (Part B)
onward none f = none
onward (some p) f = f p.value p.rest

infixl 20 ◌>>=◌
unfoldable pub ◌>>=◌ : {A B : Type 0} → Read A → (A → Read B) → Read B
◌>>=◌ m f s = onward (m s) f

-- n bytes or words
unfoldable pub items : ℕ → Read (List ℕ)
items n s = pick (leb n (length s)) (some (record { value = take n s; rest = drop n s })) none

-- a number of n bytes
unfoldable pub number : ℕ → Read ℕ
number n = do
  bs ← items n
  give (le_number bs)

-- go on only where the test holds
unfoldable pub given : {A : Type 0} → Bool → Read A → Read A
given t m = pick t m fail

-- the same n times, in order
unfoldable pub repeated : {A : Type 0} → ℕ → Read A → Read (List A)
repeated zero m = give []
repeated (suc n) m = do
  a ← m
  rest ← repeated n m
  give (a ∷ rest)

-- all of it, with nothing after
unfoldable pub complete : {A : Type 0} → Option (Part A) → Option A
complete none = none
complete (some p) = pick (is_empty p.rest) (some p.value) none

-- the first of a list with the others, or nothing
unfoldable pub and_others : {A : Type 0} → Option (Part A) → (List ℕ → Option (List A)) → Option (List A)
and_others none f = none
and_others (some p) f = map (λ xs. p.value ∷ xs) (f p.rest)

-- the same up to the end, at most n times
unfoldable pub up_to : {A : Type 0} → ℕ → Read A → List ℕ → Option (List A)
up_to zero m s = pick (is_empty s) (some []) none
up_to (suc n) m s = pick (is_empty s) (some []) (and_others (m s) (up_to n m))

-- as often as it can be where each takes a byte at least: up to the end, or nothing
unfoldable pub to_end : {A : Type 0} → Read A → List ℕ → Option (List A)
to_end m s = up_to (length s) m s
