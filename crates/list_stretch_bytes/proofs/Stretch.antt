-- The 80 bytes of a stretch. Assumes nothing.
use mathlib.Core.Path.{◌≡◌, refl, sym, ap, ◌∙◌}
use mathlib.Core.List.{List, [], ◌∷◌, ◌++◌, map, flatten, reverse, reverse_aux, append_assoc, append-nil}
use Prim.Native.Nat.{ℕ, ◌+◌}
use native.Mathlib.Omega.{arith}
use lib.ListN.{length, take, length-append}
use lib.Seq.{sets, take_at}
use Rattle.base.specs.Le.{Bytes, le_bytes}
use Rattle.base.proofs.Le.{AllBytes, bytes_append, bytes_le_bytes, length_le_bytes, sets_append}
use Rattle.committee.specs.Committee.{Stake}
use Rattle.record_spec.specs.Reference.{locator}
use Rattle.record_spec.specs.Record.{reference_bytes, locator_bytes}
use Rattle.words.specs.Words.{words_in, bytes_of}
use Rattle.words.proofs.Words.{length_bytes_of, bytes_of_words_in}
use Rattle.types.specs.Values.{be_bytes, digest_bytes, as_reference, as_locator}
use Rattle.types.specs.declared.BlockDigest as digest
use Rattle.types.specs.declared.TransactionLocator as locators
use Rattle.record_reference_bytes.proofs.Written.{length_digest_bytes, length_locator_bytes}
use Rattle.list_stretches_spec.specs.Stretches.{FinalStretch}
use Rattle.list_stretches_spec.specs.Bulk.{stretch_words, stretch_bytes}
use Rattle.list_stretch_bytes.specs.Step.{final_stretch}

pub eighty : (t : FinalStretch) → length (stretch_bytes t) ≡ 80
unfolding stretch_bytes stretch_words words_in
eighty t = length_bytes_of (stretch_words t)

-- the words of a stretch after each other
after_words : (xs ys : List ℕ) → bytes_of (xs ++ ys) ≡ bytes_of xs ++ bytes_of ys
unfolding bytes_of flatten
after_words [] ys = refl
after_words (x ∷ xs) ys = ap (λ (l : List ℕ). le_bytes 8 x ++ l) (after_words xs ys) ∙ sym (append_assoc (le_bytes 8 x) (bytes_of xs) (bytes_of ys))

-- a locator, and three words
module _ (t : FinalStretch) where
  three : Bytes
  three = le_bytes 8 t.end ++ (le_bytes 8 t.blocks ++ le_bytes 8 t.stake)

  last_four : List ℕ
  last_four = t.first ∷ t.end ∷ t.blocks ∷ t.stake ∷ []

  four : bytes_of last_four ≡ le_bytes 8 t.first ++ three
  unfolding bytes_of flatten three last_four
  four = rw (append-nil (le_bytes 8 t.stake))

  two : (ws : List ℕ) → bytes_of (t.block.authority ∷ t.block.round ∷ ws) ≡ le_bytes 8 t.block.authority ++ (le_bytes 8 t.block.round ++ bytes_of ws)
  unfolding bytes_of flatten
  two ws = refl

  pub stretch_laid : AllBytes t.block.digest → length t.block.digest ≡ 32
      → stretch_bytes t ≡ locator_bytes (locator t.block t.first) ++ (le_bytes 8 t.end ++ (le_bytes 8 t.blocks ++ le_bytes 8 t.stake))
  unfolding stretch_bytes stretch_words locator_bytes reference_bytes locator last_four three
  stretch_laid a h =
      let d = t.block.digest in
      let x = le_bytes 8 t.block.authority in
      let y = le_bytes 8 t.block.round in
      let o = le_bytes 8 t.first in
      two (words_in 4 d ++ last_four)
      ∙ rw (after_words (words_in 4 d) last_four, bytes_of_words_in 4 d a h, four)
      (sym (rw (append_assoc (x ++ (y ++ d)) o three, append_assoc x (y ++ d) (o ++ three), append_assoc y d (o ++ three))))

  pub locator_length : length t.block.digest ≡ 32 → length (locator_bytes (locator t.block t.first)) ≡ 56
  unfolding locator_bytes reference_bytes locator
  locator_length h = simp (length-append, length_le_bytes) (omega (arith, h))

  -- the first 56 bytes are the locator
  pub first_locator : AllBytes t.block.digest → length t.block.digest ≡ 32 → take 56 (stretch_bytes t) ≡ locator_bytes (locator t.block t.first)
  first_locator a h = rw (stretch_laid a h) (take_at (locator_bytes (locator t.block t.first)) _ 56 (locator_length h))

-- ---- a stretch that the code holds

reversed_bytes : (xs ys : List ℕ) → AllBytes xs → AllBytes ys → AllBytes (reverse_aux xs ys)
unfolding reverse_aux
reversed_bytes [] ys h k = k
reversed_bytes (x ∷ xs) ys h k = reversed_bytes xs (x ∷ ys) h.1 (h.0, k)

word_bytes : (v : ℕ) → AllBytes (be_bytes 8 v)
unfolding be_bytes reverse
word_bytes v = reversed_bytes (le_bytes 8 v) [] (bytes_le_bytes 8 v) tt

digest_bytes_lem : (d : digest.BlockDigest) → AllBytes (digest_bytes d)
unfolding digest_bytes
digest_bytes_lem d =
    bytes_append (be_bytes 8 d.0) _ (word_bytes d.0)
    (bytes_append (be_bytes 8 d.1) _ (word_bytes d.1) (bytes_append (be_bytes 8 d.2) _ (word_bytes d.2) (word_bytes d.3)))

held_laid : (l : locators.TransactionLocator) (end blocks : ℕ) (stake : Stake)
    → stretch_bytes (final_stretch (as_locator l) end blocks stake) ≡ locator_bytes (as_locator l)
    ++ (le_bytes 8 end ++ (le_bytes 8 blocks ++ le_bytes 8 stake))
unfolding final_stretch as_locator as_reference locator
held_laid l end blocks stake =
    stretch_laid (final_stretch (as_locator l) end blocks stake) (digest_bytes_lem l.block.digest) (length_digest_bytes l.block.digest)

-- written part by part
pub stretch_written : (out : Bytes) (i : ℕ) (l : locators.TransactionLocator) (end blocks : ℕ) (stake : Stake)
    → sets (sets (sets (sets out i (locator_bytes (as_locator l))) (i + 56) (le_bytes 8 end)) (i + 56 + 8) (le_bytes 8 blocks)) (i + 56 + 16) (le_bytes 8 stake)
    ≡ sets out i (stretch_bytes (final_stretch (as_locator l) end blocks stake))
stretch_written out i l end blocks stake =
    let a = locator_bytes (as_locator l) in
    let e = le_bytes 8 end in
    let b = le_bytes 8 blocks in
    let k = le_bytes 8 stake in
    let last : i + 56 + 8 + 8 ≡ i + 56 + 16 = omega arith in
    sym (rw (
      held_laid l end blocks stake,
      sets_append a (e ++ (b ++ k)) out i,
      length_locator_bytes l,
      sets_append e (b ++ k) (sets out i a) (i + 56),
      length_le_bytes 8 end,
      sets_append b k (sets (sets out i a) (i + 56) e) (i + 56 + 8),
      length_le_bytes 8 blocks,
      last,
    ))
