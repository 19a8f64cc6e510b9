-- What the loop of the merge holds at each turn. Assumes nothing.
use mathlib.Core.Path.{◌≡◌, refl, sym, subst, ◌∙◌}
use mathlib.Core.Bool.{true, false}
use mathlib.Core.List.{List}
use Prim.Native.Nat.{ℕ, ◌+◌, ◌-◌, ◌*◌, ◌≤◌, ◌<◌}
use native.Mathlib.Omega.{arith}
use lib.ListN.{length, get_or, drop}
use lib.Seq.{sets}
use Rattle.base.specs.Le.{Bytes}
use Rattle.committee.specs.Committee.{Committee, is_quorum}
use Rattle.committee_set.specs.AuthoritySet.{AuthoritySet, inserted, stake_of}
use Rattle.record_spec.specs.Reference.{TransactionLocator}
use Rattle.record_spec.specs.Block.{Block, author}
use Rattle.index_spec.specs.Runs.{Run}
use Rattle.index_spec.specs.Certified.{part_certifies}
use Rattle.index_spec.specs.Walk.{run_from, part_at}
use Rattle.sorted_step.proofs.Runs.{part_next, length_part}
use Rattle.sorted_spec.specs.Sorted.{reply_words, reply_of, asked}
use Rattle.sorted_step.specs.Step.{Beside, reply_from, step_words, SettledReply, Settled, Listed, PartWords}
use Rattle.sorted_step.specs.declared.Side.{Side}
use Rattle.sorted_step.specs.declared.Side.TheVariants as side
use Rattle.sorted_step.proofs.Words.{certifies_nobody, certifies_voters, certifies_marked}
use Rattle.sorted_step.proofs.Cursors.{at, Behind, behind_start, behind_on, behind_pass, named_inside, named_before, named_end}
use Rattle.sorted_step.proofs.Merging.{Merging, merging_start, merging_stays, merging_grows, merging_rest, merging_end}

-- a block that is merged: what of it the merge knows
pub record Merged (a : ℕ) (b : Block) : Type 0 where
  pub unmarked : b.marked ≡ false
  pub by : author b ≡ a

-- both cursors, and what is written
pub record Merges (c : Committee) (a : ℕ) (part : List ℕ) (bytes : Bytes) (ws₀ ws : List ℕ) (i j : ℕ) : Type 0 where
  pub listed : i ≤ length (asked bytes)
  pub counted : j ≤ get_or part 0 0
  pub behind : Behind (part_at part 0) bytes (length (asked bytes)) i j
  pub merging : Merging c (Merged a) (part_at part 0) (asked bytes) ws₀ ws i

-- where a locator stands, as it was found
pub found_side : {x y : Run} {l m : TransactionLocator} {r s : Side} → Beside x l r → x ≡ y → l ≡ m → r ≡ s → Beside y m s
found_side {x} {y} {l} {m} {r} {s} h e f g = subst (Beside y m) g (subst (λ (k : TransactionLocator). Beside y k r) f (subst (λ (z : Run). Beside z l r) e h))

module _ (c : Committee) (a : ℕ) (part : List ℕ) (bytes : Bytes) (ws₀ : List ℕ) where
  pub merges_start : Merges c a part bytes ws₀ ws₀ 0 0
  merges_start = record {
    listed = omega arith;
    counted = omega arith;
    behind = behind_start (part_at part 0) bytes (length (asked bytes));
    merging =
        merging_start c (Merged a) (part_at part 0) (asked bytes) ws₀;
  }

  module _ (p : PartWords part) (l : Listed bytes (asked bytes)) (s : Settled c (length (asked bytes)) ws₀) (ws : List ℕ) (i j : ℕ)
      (g : Merges c a part bytes ws₀ ws i j) where
    xs : List Run
    xs = part_at part 0

    pub merges_out : get_or part 0 0 ≤ j → (b : Block) → Merged a b → ws ≡ step_words c b (part_at part 0) (asked bytes) ws₀
    unfolding xs
    merges_out h =
        let m = length_part part in
        merging_end c (Merged a) xs (asked bytes) ws₀ bytes l s ws
        (merging_rest c (Merged a) xs (asked bytes) ws₀ bytes l s (length (asked bytes) - i) ws i (omega (arith, g.listed)) g.merging
        (λ k n o b e. certifies_nobody c b xs (at bytes k) (named_end xs bytes (length (asked bytes)) i j g.behind (omega (arith, m)) k n o)))

    pub merges_end : length (asked bytes) ≤ i → (b : Block) → Merged a b → ws ≡ step_words c b (part_at part 0) (asked bytes) ws₀
    unfolding xs
    merges_end h = let e : i ≡ length (asked bytes) = omega (arith, g.listed) in
        merging_end c (Merged a) xs (asked bytes) ws₀ bytes l s ws (subst (Merging c (Merged a) xs (asked bytes) ws₀ ws) e g.merging)

    module _ (h : i < length (asked bytes)) (k : j < get_or part 0 0) where
      pub merges_past : Beside (run_from (drop (10 * j + 1) part)) (at bytes i) side.Past → Merges c a part bytes ws₀ ws i (j + 1)
      unfolding xs
      merges_past t =
          record {
            listed = g.listed;
            counted = omega arith;
            behind = behind_pass xs bytes (length (asked bytes)) i j g.behind
                (run_from (drop (10 * j + 1) part)) (asked bytes) l refl (part_next part j k) t;
            merging = g.merging;
          }

      stays : ((b : Block) → Merged a b → part_certifies c b xs (at bytes i) ≡ false) → Merges c a part bytes ws₀ ws (i + 1) j
      unfolding xs
      stays f =
          record {
            listed = omega arith;
            counted = g.counted;
            behind = behind_on xs bytes (length (asked bytes)) i j g.behind;
            merging = merging_stays c
                (Merged a) xs (asked bytes) ws₀ bytes l s ws i h g.merging f;
          }

      pub merges_before : Beside (run_from (drop (10 * j + 1) part)) (at bytes i) side.Before → Merges c a part bytes ws₀ ws (i + 1) j
      unfolding xs
      merges_before t = stays λ b e. certifies_nobody c b xs (at bytes i)
          (named_before xs bytes (length (asked bytes)) i j g.behind p.names p.runs _ (part_next part j k) h t)

      module _ (v : AuthoritySet) (e : v ≡ (run_from (drop (10 * j + 1) part)).votes) (t : Beside (run_from (drop (10 * j + 1) part)) (at bytes i) side.Inside)
        where
          voters : (b : Block) → Merged a b → part_certifies c b xs (at bytes i) ≡ is_quorum c (stake_of c v)
          unfolding xs
          voters b m = certifies_voters c b xs (at bytes i) v m.unmarked
              (named_inside xs bytes (length (asked bytes)) i j g.behind p.names p.runs _ (part_next part j k) h t ∙ sym e)

          pub merges_few : is_quorum c (stake_of c v) ≡ false → Merges c a part bytes ws₀ ws (i + 1) j
          merges_few q = stays λ b m. voters b m ∙ q

          pub merges_grows : is_quorum c (stake_of c v) ≡ true → Merges c a part bytes ws₀
              (sets ws (3 * i) (reply_words (reply_of c (inserted (reply_from (drop (3 * i) ws)).authors a)))) (i + 1) j
          unfolding xs
          merges_grows q =
              record {
                listed = omega arith;
                counted = g.counted;
                behind = behind_on xs bytes (length (asked bytes)) i j g.behind;
                merging = merging_grows c (Merged a) xs (asked bytes) ws₀ bytes l s a (λ b m. m.by) ws i h g.merging (λ b m. unfold xs in (voters b m ∙ q));
              }

    -- the reply that is asked for is as it was before the step
    pub merges_room : i < length (asked bytes) → (3 * i + 3 ≤ length ws) × SettledReply c (drop (3 * i) ws)
    merges_room h =
        let n = g.merging.long in
        let m = s.long in
        (omega arith, subst (SettledReply c) (sym g.merging.kept) (s.each i h))

-- a marked block changes no reply
pub marked_stays : (c : Committee) (b : Block) (xs : List Run) (bytes : Bytes) (ls : List TransactionLocator) (ws : List ℕ) → Listed bytes ls → Settled c
    (length ls) ws → b.marked ≡ true
    → ws ≡ step_words c b xs ls ws
marked_stays c b xs bytes ls ws l s m =
    merging_end c marked xs ls ws bytes l s ws
    (merging_rest c marked xs ls ws bytes l s (length ls) ws 0 (omega arith) (merging_start c marked xs ls ws)
    (λ k n o d e. certifies_marked c d xs (at bytes k) e)) b m
  where
    marked : Block → Type 0
    marked d = d.marked ≡ true
