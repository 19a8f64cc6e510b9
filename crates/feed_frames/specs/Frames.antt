-- The records that a call is lent, each after its length. Assumes nothing: these are definitions.
use Rattle.std.specs.Prelude.{ℕ, zero, suc, ◌+◌, List, [], ◌∷◌, eqb, leb, length, take, drop}
use Rattle.base.specs.Lists.{pick}
use Rattle.base.specs.Le.{Bytes, le_at}

-- each record after its length in four bytes. A length past the end, or one to three stray bytes, is one last record of no bytes, which is
-- malformed (20). The first n records: s has never more of them than bytes
unfoldable pub records_up_to : ℕ → Bytes → List Bytes
records_up_to zero s = []
records_up_to (suc n) s =
    let size : ℕ = le_at 4 s 0 in
    pick (eqb (length s) 0) []
    (pick (leb (4 + size) (length s)) (take size (drop 4 s) ∷ records_up_to n (drop (4 + size) s))
    ([] ∷ []))

unfoldable pub records_in : Bytes → List Bytes
records_in s = records_up_to (length s) s
