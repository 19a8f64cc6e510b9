-- What a refused vote promises. Assumes nothing: these are definitions.
use Rattle.std.specs.Prelude.{ℕ, ◌≡◌, true}
use Rattle.base.specs.Le.{Bytes}
use Rattle.base.specs.Checks.{refused}
use Rattle.committee.specs.Committee.{AuthorityIndex, Committee}
use Rattle.record_spec.specs.Claims.{are_bytes}
use Rattle.host_add.specs.Add.{add_of}

pub record Claims : Type 0 where
  -- 01: "it refuses, in this order and changing nothing": the bytes of an aggregator are as they were
  pub refused_add : (c : Committee) (b : Bytes) (a : AuthorityIndex) (n : ℕ) → are_bytes b ≡ true → (add_of c b a).answer ≡ refused n
      → (add_of c b a).aggregator ≡ b
