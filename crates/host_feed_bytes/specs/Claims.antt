-- What a refused feed promises. Assumes nothing: these are definitions.
use Rattle.std.specs.Prelude.{ℕ, ◌≡◌, true}
use Rattle.base.specs.Le.{Bytes}
use Rattle.base.specs.Checks.{refused}
use Rattle.committee.specs.Committee.{Committee}
use Rattle.record_spec.specs.Claims.{are_bytes}
use Rattle.host_feed_bytes.specs.Feed.{feed_of}

pub record Claims : Type 0 where
  -- 01: "A refusal writes nothing": the bytes that a refused feed was lent are as they were
  pub refused_feed : (c : Committee) (s t v rec : Bytes) (n : ℕ) → are_bytes t ≡ true → are_bytes v ≡ true → (feed_of c s t v rec).answer ≡ refused n
      → ((feed_of c s t v rec).store ≡ s) × (((feed_of c s t v rec).table ≡ t) × ((feed_of c s t v rec).events ≡ v))
