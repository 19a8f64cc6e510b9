-- What feeding makes of store and table in a run of `listing`. Assumes nothing: these are definitions.
use Rattle.std.specs.Prelude.{ℕ, ◌≡◌, List, replicate}
use Rattle.base.specs.Le.{Bytes}
use Rattle.committee.specs.Committee.{Committee}
use Rattle.mission_theorems.specs.Feeds.{Feed, Engine, fresh, run}

abbrev pub engine : Bytes → List ℕ → Engine
engine s t = record { store = s; table = t }

-- store and table stand as some list of feeds leaves them: the third statement speaks of every such list
pub record FedFrom (c : Committee) (g : Engine) (s : Bytes) (t : List ℕ) : Type 0 where
  pub feeds : List Feed
  pub leaves : run c g feeds ≡ engine s t

-- 01: "It lends a store of 65,536 bytes, a table and a work slice of 6,145 words each": the store fresh, the table of zeros
unfoldable pub start : Engine
start = fresh (replicate 65520 0) 6145
