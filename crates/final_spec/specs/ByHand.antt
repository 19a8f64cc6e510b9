-- The relations of Ancestry are met by an example: a certificate and finality. Assumes nothing: these are definitions.
use Rattle.std.specs.Prelude.{ℕ, true, false, List, [], ◌∷◌}
use Rattle.committee.specs.Committee.{Committee}
use Rattle.record_spec.specs.Reference.{BlockReference, TransactionLocator}
use Rattle.record_spec.specs.Block.{share, accept, Block}
use Rattle.final_spec.specs.Ancestry.{Certificate, Final}

abbrev pub ref : ℕ → ℕ → BlockReference
ref a r = record { authority = a; round = r; digest = [] }

-- of two owners, author 0 shares in round 1, author 1 accepts in round 2; both include the vote in round 3
abbrev pub the : TransactionLocator
the = record { block = ref 0 1; offset = 0 }

abbrev pub shared : Block
shared = record { reference = ref 0 1; marked = false; includes = []; statements = share [] ∷ [] }

abbrev pub voted : Block
voted = record { reference = ref 1 2; marked = true; includes = ref 0 1 ∷ []; statements = accept the ∷ [] }

abbrev pub top : ℕ → Block
top a = record { reference = ref a 3; marked = false; includes = ref 1 2 ∷ []; statements = [] }

abbrev pub stored : List Block
stored = top 1 ∷ top 0 ∷ voted ∷ shared ∷ []

abbrev pub two : Committee
two = 1 ∷ 1 ∷ []

pub record ByHand : Type 0 where
  pub certificate : Certificate two stored the 0
  -- final, though the accept stands in a marked block
  pub final : Final two stored the
