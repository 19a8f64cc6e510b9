-- Runs against words. Assumes nothing.
use mathlib.Core.Path.{◌≡◌, refl, sym, ap, ◌∙◌}
use mathlib.Core.Bool.{Bool, ◌&&◌, and-true, and_assoc}
use mathlib.Core.List.{List, [], ◌∷◌, ◌++◌, reverse, reverse-reverse}
use Prim.Native.Nat.{ℕ, suc, ◌+◌, ◌^◌, ◌≤◌, ◌<◌}
use native.Mathlib.Omega.{arith}
use native.Mathlib.Numerals.{towards_suc}
use native.Mathlib.Nat.{add-zero, add_assoc}
use lib.Dec.{eqb}
use lib.ListN.{length, get_or, take, drop, set}
use lib.Seq.{sets, get_or-drop, take_at, drop-drop, take-length}
use Rattle.base.specs.Le.{le_number, le_bytes}
use Rattle.base.proofs.Le.{le_number_le_bytes, sets_append}
use Rattle.base.proofs.Loops.{drop_next}
use Rattle.types.specs.Values.{be_bytes, digest_bytes}
use Rattle.record_reference_bytes.proofs.Written.{length_be_bytes, next_word}
use Rattle.types.specs.declared.BlockDigest as digest
use Rattle.index_spec.specs.Runs.{Run, run}
use Rattle.index_spec.specs.Index.{digest_words, run_words}
use Rattle.index_spec.specs.Walk.{run_from}
use Rattle.index_runs.specs.Values.{digest_at, starts_with}

-- turned twice a word is as it was
turned_back : (n r v : ℕ) → be_bytes n r ≡ le_bytes n v → be_bytes n v ≡ le_bytes n r
unfolding be_bytes
turned_back n r v e = ap reverse (sym e) ∙ reverse-reverse (le_bytes n r)

-- the number of a word's bytes, the highest first
turned_number : (r v : ℕ) → r < 256 ^ 8 → be_bytes 8 r ≡ le_bytes 8 v → le_number (be_bytes 8 v) ≡ r
turned_number r v h e = ap le_number (turned_back 8 r v e) ∙ le_number_le_bytes 8 r h

-- a digest's four words, lowest byte first
module _ (d : digest.BlockDigest) (a b c e : ℕ) where
  pub digest_turned : a < 256 ^ 8 → b < 256 ^ 8 → c < 256 ^ 8 → e < 256 ^ 8
      → be_bytes 8 a ≡ le_bytes 8 d.0 → be_bytes 8 b ≡ le_bytes 8 d.1 → be_bytes 8 c ≡ le_bytes 8 d.2 → be_bytes 8 e ≡ le_bytes 8 d.3
      → digest_words (digest_bytes d) ≡ a ∷ b ∷ c ∷ e ∷ []
  unfolding digest_words digest_bytes
  digest_turned ha hb hc he ea eb ec ee =
      let w0 : List ℕ = be_bytes 8 d.0 in
      let w1 : List ℕ = be_bytes 8 d.1 in
      let w2 : List ℕ = be_bytes 8 d.2 in
      let w3 : List ℕ = be_bytes 8 d.3 in
      let last : take 8 w3 ≡ w3 = ap (λ (n : ℕ). take n w3) (sym (length_be_bytes 8 d.3)) ∙ take-length w3 in
      rw (
        take_at w0 (w1 ++ (w2 ++ w3)) 8 (length_be_bytes 8 d.0),
        next_word 0 d.0 (w1 ++ (w2 ++ w3)),
        next_word 8 d.0 (w1 ++ (w2 ++ w3)),
        next_word 16 d.0 (w1 ++ (w2 ++ w3)),
        take_at w1 (w2 ++ w3) 8 (length_be_bytes 8 d.1),
        next_word 0 d.1 (w2 ++ w3),
        next_word 8 d.1 (w2 ++ w3),
        take_at w2 w3 8 (length_be_bytes 8 d.2),
        next_word 0 d.2 w3,
        last,
        turned_number a d.0 ha ea,
        turned_number b d.1 hb eb,
        turned_number c d.2 hc ec,
        turned_number e d.3 he ee,
      )

-- ---- words that begin so

pub starts_on : (v : ℕ) (vs ws : List ℕ) (i : ℕ) → i < length ws → starts_with (v ∷ vs) (drop i ws) ≡ eqb (get_or ws i 0) v && starts_with vs (drop (i + 1) ws)
unfolding starts_with
starts_on v vs ws i h = rw (drop_next ws i h)

-- ---- a run at a position

pub run_at : (ix : List ℕ) (p : ℕ)
    → run_from (drop p ix)
    ≡ run (record { authority = get_or ix p 0; round = get_or ix (p + 1) 0; digest = digest_at ix (p + 2) }) (get_or ix (p + 6) 0) (get_or ix (p + 7) 0)
    (record { low = get_or ix (p + 8) 0; high = get_or ix (p + 9) 0 })
unfolding run_from run digest_at
run_at ix p =
    rw (
      get_or-drop p ix 0 0,
      add-zero p,
      get_or-drop p ix 1 0,
      get_or-drop p ix 2 0,
      get_or-drop p ix 3 0,
      get_or-drop p ix 4 0,
      get_or-drop p ix 5 0,
      get_or-drop p ix 6 0,
      get_or-drop p ix 7 0,
      get_or-drop p ix 8 0,
      get_or-drop p ix 9 0,
      add_assoc p 2 1,
      add_assoc p 2 2,
      add_assoc p 2 3,
    )

-- the tests of the words, one after the other
module _ (ix : List ℕ) (p : ℕ) where
  and : (s : Bool) {t u : Bool} → t ≡ u → s && t ≡ s && u
  and s e = ap (λ (x : Bool). s && x) e

  on : (k v : ℕ) (vs : List ℕ) → p + k < length ix → {t : Bool} → starts_with vs (drop (p + (k + 1)) ix) ≡ t → starts_with (v ∷ vs) (drop (p + k) ix) ≡ eqb
      (get_or ix (p + k) 0) v && t
  on k v vs j e = starts_on v vs ix (p + k) j ∙ and (eqb (get_or ix (p + k) 0) v) (ap (λ (n : ℕ). starts_with vs (drop n ix)) (add_assoc p k 1) ∙ e)

  pub four_words : (a b c d : ℕ) → p + 4 ≤ length ix
      → starts_with (a ∷ b ∷ c ∷ d ∷ []) (drop p ix) ≡ eqb (get_or ix p 0) a &&
      (eqb (get_or ix (p + 1) 0) b && (eqb (get_or ix (p + 2) 0) c && eqb (get_or ix (p + 3) 0) d))
  unfolding starts_with
  four_words a b c d h =
      starts_on a (b ∷ c ∷ d ∷ []) ix p (omega arith)
      ∙ and (eqb (get_or ix p 0) a)
      (on 1 b (c ∷ d ∷ []) (omega arith) (on 2 c (d ∷ []) (omega arith) (starts_on d [] ix (p + 3) (omega arith) ∙ and-true (eqb (get_or ix (p + 3) 0) d))))

starts_append : (vs us ws : List ℕ) → starts_with (vs ++ us) ws ≡ starts_with vs ws && starts_with us (drop (length vs) ws)
unfolding starts_with
starts_append [] us ws = refl
starts_append (v ∷ vs) us [] = refl
starts_append (v ∷ vs) us (w ∷ ws) = ap (λ (t : Bool). eqb w v && t) (starts_append vs us ws) ∙ sym
    (and_assoc (eqb w v) (starts_with vs ws) (starts_with us (drop (length vs) ws)))

-- author, round, digest, and the four words after it
pub run_starts : (ix : List ℕ) (p : ℕ) (x : Run) → p + 10 ≤ length ix
    → starts_with (run_words x) (drop p ix)
    ≡ eqb (get_or ix p 0) x.reference.authority
    && (eqb (get_or ix (p + 1) 0) x.reference.round
    && (starts_with (digest_words x.reference.digest) (drop (p + 2) ix) && starts_with (x.start ∷ x.end ∷ x.votes.low ∷ x.votes.high ∷ [])
    (drop (p + 6) ix)))
unfolding run_words starts_with digest_words
run_starts ix p x h =
    let ds = digest_words x.reference.digest in
    let vs : List ℕ = x.start ∷ x.end ∷ x.votes.low ∷ x.votes.high ∷ [] in
    rw (
      starts_on x.reference.authority (x.reference.round ∷ (ds ++ vs)) ix p (omega arith),
      starts_on x.reference.round (ds ++ vs) ix (p + 1) (omega arith),
      add_assoc p 1 1,
      starts_append ds vs (drop (p + 2) ix),
      drop-drop 4 (p + 2) ix,
      add_assoc p 2 4,
    )

-- ---- a run stored

pub four_stores : (ix : List ℕ) (p a b c d : ℕ) → set (set (set (set ix p a) (p + 1) b) (p + 2) c) (p + 3) d ≡ sets ix p (a ∷ b ∷ c ∷ d ∷ [])
four_stores ix p a b c d = simp towards_suc

-- author and round, the words of the digest, and the four words after them
pub run_stores : (ix : List ℕ) (p a r s e l h : ℕ) (ds : List ℕ) → length ds ≡ 4
    → set (set (set (set (sets (set (set ix p a) (p + 1) r) (p + 2) ds) (p + 6) s) (p + 7) e) (p + 8) l) (p + 9) h ≡ sets ix p
    ((a ∷ r ∷ ds) ++ (s ∷ e ∷ l ∷ h ∷ []))
run_stores ix p a r s e l h ds k =
    let six : p + length (a ∷ r ∷ ds) ≡ p + 6 = omega arith in
    let nine : p + 9 ≡ suc (p + 8) = omega arith in
    rw (sets_append (a ∷ r ∷ ds) (s ∷ e ∷ l ∷ h ∷ []) ix p, six, nine) (simp towards_suc)
