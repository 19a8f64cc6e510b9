-- Records, stores and lists of feeds that differ in payloads, but not in length. Assumes nothing: these are definitions.
use Rattle.std.specs.Prelude.{ℕ, ◌≡◌, List, [], ◌∷◌, map, length, replicate}
use Rattle.std.proofs.Math.Option
use Rattle.base.specs.Le.{Bytes}
use Rattle.base.specs.Checks.{Answer}
use Rattle.committee.specs.Committee.{Committee}
use Rattle.record_spec.specs.Block.{Statement, share, accept, reject, vote_range, Block}
use Rattle.store_spec.specs.Layout.{Record, read_record}
use Rattle.store_spec.specs.Store.{records_of, store_in_order}
use Rattle.feed_spec.specs.Feed.{Lent, Fed}
use Rattle.load_spec.specs.Needs.{without_payloads}
use Rattle.mission_theorems.specs.Feeds.{Feed, Engine, outcome, run}
use Rattle.mission_theorems.specs.ThirdStatement.{Start}

-- ---- records

-- what is left of a record where its payloads are not looked at: how many bytes it has, and the rest of its block
pub record Shape : Type 0 where
  pub size : ℕ
  pub block : Block

unfoldable pub shape : Record → Shape
shape r = record { size = length r.bytes; block = without_payloads r.block }

-- as many bytes, and the same block but for its payloads; or neither can be read (20)
unfoldable pub Apart : Bytes → Bytes → Type 0
Apart r q = Option.map shape (read_record r) ≡ Option.map shape (read_record q)

-- a payload of as many bytes, all zero
unfoldable pub blanked : Statement → Statement
blanked (share payload) = share (replicate (length payload) 0)
blanked (accept l) = accept l
blanked (reject l other) = reject l other
blanked (vote_range r) = vote_range r

unfoldable pub with_blanks : Block → Block
with_blanks b = record { reference = b.reference; marked = b.marked; includes = b.includes; statements = map blanked b.statements }

-- ---- stores

-- as long, both in order or neither, and their records as above
pub record HeldApart (c : Committee) (s r : Bytes) : Type 0 where
  pub size : length s ≡ length r
  pub order : store_in_order c s ≡ store_in_order c r
  pub records : map shape (records_of s) ≡ map shape (records_of r)

-- what two feeds are lent; no answer reads the work slice
pub record LentApart (c : Committee) (m n : Lent) : Type 0 where
  pub store : HeldApart c m.store n.store
  pub table : m.table ≡ n.table
  pub work : length m.work ≡ length n.work
  pub events : m.events ≡ n.events

-- ---- lists of feeds

pub record FeedApart (f g : Feed) : Type 0 where
  pub bytes : Apart f.bytes g.bytes
  pub work : length f.work ≡ length g.work
  pub events : f.events ≡ g.events

pub data EachApart : List Feed → List Feed → Type 0 where
  no_feeds : EachApart [] []
  and_feed : {f g : Feed} {fs gs : List Feed} → FeedApart f g → EachApart fs gs → EachApart (f ∷ fs) (g ∷ gs)

-- from fresh stores of one length and tables of as many words
pub record StartApart (t u : Start) : Type 0 where
  pub past : length t.past ≡ length u.past
  pub words : t.words ≡ u.words
  pub feeds : EachApart t.feeds u.feeds

-- ---- what is told of feeds

-- what a feed answers, and the table and the events that it leaves
pub record Told : Type 0 where
  pub answer : Answer ℕ
  pub table : List ℕ
  pub events : List ℕ

unfoldable pub tell : Fed → Told
tell f = record { answer = f.answer; table = f.table; events = f.events }

-- of each feed of a list, the last first
unfoldable pub told : Committee → Engine → List Feed → List Told
told c g [] = []
told c g (f ∷ earlier) = tell (outcome c (run c g earlier) f) ∷ told c g earlier
