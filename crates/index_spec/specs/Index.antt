-- The index: voters beside the store, in words. Assumes nothing: these are definitions.
use Rattle.std.specs.Prelude.{ℕ, ◌+◌, ◌≡◌, Bool, false, ltb, length, get_or, take, drop, set}
use mathlib.Core.List.{List, [], ◌∷◌, ◌++◌, map, flatten}
use Rattle.std.proofs.lemmas.List.Edits.{sets}
use Rattle.base.specs.Lists.{same}
use Rattle.base.specs.Le.{Bytes, le_number}
use Rattle.record_spec.specs.Block.{Block}
use Rattle.final_spec.specs.Finality.{blocks_of}
use Rattle.index_spec.specs.Runs.{Run}
use Rattle.index_spec.specs.Part.{part_in}

-- ---- words

-- 02: "digest (4 words, little-endian)"
unfoldable pub digest_words : Bytes → List ℕ
digest_words d = le_number (take 8 d) ∷ le_number (take 8 (drop 8 d)) ∷ le_number (take 8 (drop 16 d)) ∷ le_number (take 8 (drop 24 d)) ∷ []

-- 02: "author, round, digest (4 words, little-endian), start, end, votes low, votes high"
unfoldable pub run_words : Run → List ℕ
run_words x =
    (x.reference.authority ∷ x.reference.round ∷ digest_words x.reference.digest)
    ++ (x.start ∷ x.end ∷ x.votes.low ∷ x.votes.high ∷ [])

-- 02: "a run count and its runs"
unfoldable pub part_words : List Run → List ℕ
part_words xs = length xs ∷ flatten (map run_words xs)

-- ---- the index of a list of blocks, the newest first

-- a block with its part
pub record Indexed : Type 0 where
  pub block : Block
  pub runs : List Run

-- each block's part is that among the blocks up to it
unfoldable pub indexed : List Block → List Indexed
indexed [] = []
indexed (b ∷ older) = record { block = b; runs = part_in (b ∷ older) b.reference } ∷ indexed older

-- 02: "for each stored block in order of arrival a run count and its runs"
unfoldable pub body_words : List Indexed → List ℕ
body_words [] = []
body_words (x ∷ older) = body_words older ++ part_words x.runs

-- 02: "words used (fresh 1)"
unfoldable pub used_words : List Indexed → ℕ
used_words xs = 1 + length (body_words xs)

-- 02: "words used (fresh 1), then for each stored block in order of arrival a run count and its runs"
unfoldable pub index_words : List Block → List ℕ
index_words bs = used_words (indexed bs) ∷ body_words (indexed bs)

-- 02: "the one worked out afresh from the store"
unfoldable pub index_of : Bytes → List ℕ
index_of s = index_words (blocks_of s)

-- 02: "the index starts as a fresh store's"
unfoldable pub fresh_index : List ℕ
fresh_index = 1 ∷ []

-- ---- the index as lent

-- its used part; nothing where there are no words
unfoldable pub used_part : List ℕ → List ℕ
used_part ix = take (get_or ix 0 0) ix

-- 02: "An index that disagrees with the store answers 54"
unfoldable pub index_agrees : List Block → List ℕ → Bool
index_agrees bs ix = same (used_part ix) (index_words bs)

-- 02: "an index slice too short for the new part answers 55"
unfoldable pub index_short : List Block → List ℕ → Bool
index_short bs ix = ltb (length ix) (used_words (indexed bs))

-- an index of these blocks, where the slice was ix before: the words past the used part stay
unfoldable pub index_holding : List Block → List ℕ → List ℕ
index_holding bs ix = index_words bs ++ drop (used_words (indexed bs)) ix

-- 02: "Feeding a block appends that block's part only": its words after the used ones, and the used word changed
unfoldable pub appended : List ℕ → List Run → List ℕ
appended ix part = set (sets ix (get_or ix 0 0) (part_words part)) 0 (get_or ix 0 0 + length (part_words part))

-- 02: "After any list of feeds with it": the index as it goes from feed to feed with the store, from a fresh one; a refused feed leaves it
pub data Kept : List Block → List ℕ → Type 0 where
  fresh : (past : List ℕ) → Kept [] (fresh_index ++ past)
  fed : {bs : List Block} {ix : List ℕ} (b : Block) → Kept bs ix → index_short (b ∷ bs) ix ≡ false → Kept (b ∷ bs) (appended ix (part_in (b ∷ bs) b.reference))
