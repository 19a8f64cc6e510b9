-- The replies after the steps of the blocks that were passed. Assumes nothing.
use mathlib.Core.Path.{◌≡◌, refl, sym, ap, subst, ◌∙◌}
use mathlib.Core.Bool.{Bool, true, false}
use mathlib.Core.List.{List, [], ◌∷◌, ◌++◌, map, map-append, flatten}
use Prim.Native.Nat.{ℕ, zero, suc, ◌+◌, ◌-◌, ◌*◌, ◌≤◌, ◌<◌}
use native.Mathlib.Omega.{arith}
use native.Mathlib.Numerals.{add-one}
use lib.ListN.{length, get_or, take, drop, set, replicate, length-map, length-append, length-replicate}
use lib.Seq.{take_all, take-suc-set, drop-append_seam}
use borrow.Author.Tests.{le-ltb}
use Rattle.base.specs.Lists.{pick}
use Rattle.base.specs.Le.{Bytes, le_at}
use Rattle.base.proofs.Lists.{Every, none_of, and}
use Rattle.committee.specs.Committee.{Committee, broken, total_stake, is_quorum}
use Rattle.committee_set.specs.AuthoritySet.{inserted, stake_of}
use Rattle.record_spec.specs.Reference.{TransactionLocator}
use Rattle.record_spec.specs.Block.{Block, author}
use Rattle.record_spec.specs.Record.{well_formed, block_in}
use Rattle.store_spec.specs.Layout.{Record, blocks}
use Rattle.store_spec.specs.Accept.{all_accepted}
use Rattle.store_spec.specs.Store.{records_of, store_in_order}
use Rattle.store_spec.specs.Entry.{record_at, block_at}
use Rattle.store_spec.proofs.Loops.{entry_room, record-part}
use Rattle.store_spec.proofs.Lookups.{accepted_older}
use Rattle.store_spec.proofs.Store.{in_order_lem}
use Rattle.final_spec.specs.Finality.{blocks_of}
use Rattle.final_spec.proofs.Asked.{in_order_stored}
use Rattle.final_spec.proofs.Claimed.{well_stored}
use Rattle.index_spec.specs.Runs.{Run}
use Rattle.index_spec.specs.Part.{part_in}
use Rattle.index_spec.specs.Index.{Indexed, indexed}
use Rattle.index_spec.specs.Walk.{part_at}
use Rattle.index_spec.specs.Certified.{part_certifies}
use Rattle.committee_set.proofs.Votes.{stake_nobody}
use Rattle.sorted_spec.specs.Sorted.{Reply, no_reply, reply_words, reply_of, step_reply, step, single_reply, first_blocks, replies_after, asked}
use Rattle.sorted_spec.proofs.Replies.{replies_single}
use Rattle.sorted_step.specs.Step.{replies_from, replies_words, step_words, Settled, PartWords}
use Rattle.sorted_step.proofs.Words.{replies_back, settled_words}
use Rattle.sorted_walk.proofs.Arriving.{Arriving, arriving_start, Arrived}

-- ---- replies

length_step : (c : Committee) (b : Block) (xs : List Run) (ls : List TransactionLocator) (qs : List Reply) → length qs ≡ length ls → length
    (step c b xs ls qs) ≡ length ls
unfolding step
length_step c b xs [] qs h = refl
length_step c b xs (l ∷ ls) [] h = absurd (omega arith)
length_step c b xs (l ∷ ls) (q ∷ qs) h = ap suc (length_step c b xs ls qs (omega arith))

length_after : (c : Committee) (ls : List TransactionLocator) (xs : List Indexed) → length (replies_after c ls xs) ≡ length ls
unfolding replies_after
length_after c [] [] = refl
length_after c (l ∷ ls) [] = ap suc (length_after c ls [])
length_after c ls (x ∷ xs) = length_step c x.block x.runs ls (replies_after c ls xs) (length_after c ls xs)

abbrev OfAuthors : Committee → Reply → Type 0
OfAuthors c q = q ≡ reply_of c q.authors

none_settled : (c : Committee) → OfAuthors c no_reply
unfolding no_reply reply_of is_quorum stake_of
none_settled c = sym (rw (stake_nobody c 0, le-ltb (2 * total_stake c) 0 (omega arith)))

step_settled : (c : Committee) (b : Block) (xs : List Run) (ls : List TransactionLocator) (qs : List Reply) → Every (OfAuthors c) qs → Every (OfAuthors c)
    (step c b xs ls qs)
unfolding step step_reply reply_of
step_settled c b xs [] qs h = none_of
step_settled c b xs (l ∷ ls) [] h = none_of
step_settled c b xs (l ∷ ls) (q ∷ qs) (and h hs) = and (go (part_certifies c b xs l)) (step_settled c b xs ls qs hs)
  where
    go : (t : Bool) → OfAuthors c (pick t (reply_of c (inserted q.authors (author b))) q)
    go true = refl
    go false = h

settled_after : (c : Committee) (ls : List TransactionLocator) (xs : List Indexed) → Every (OfAuthors c) (replies_after c ls xs)
unfolding replies_after
settled_after c [] [] = none_of
settled_after c (l ∷ ls) [] = and (none_settled c) (settled_after c ls [])
settled_after c ls (x ∷ xs) = step_settled c x.block x.runs ls (replies_after c ls xs) (settled_after c ls xs)

-- before any block
none_words : (c : Committee) (ls : List TransactionLocator) → replies_words (replies_after c ls []) ≡ replicate (3 * length ls) 0
unfolding replies_after replies_words reply_words no_reply flatten
none_words c [] = refl
none_words c (l ∷ ls) =
    let e : 3 * suc (length ls) ≡ suc (suc (suc (3 * length ls))) = omega arith in
    rw e (ap (λ (ws : List ℕ). 0 ∷ 0 ∷ 0 ∷ ws) (none_words c ls))

-- ---- the walk

-- k blocks were passed, and these are the replies after their steps
pub record Answering (c : Committee) (s bytes : Bytes) (ws : List ℕ) (k at p : ℕ) : Type 0 where
  pub older : List Record
  pub arriving : Arriving s older k at p
  pub replies : ws ≡ replies_words (replies_after c (asked bytes) (indexed (blocks older)))

-- what the functions know at each turn
pub answering_start : (c : Committee) (s bytes : Bytes) (ws : List ℕ) → ws ≡ replicate (3 * length (asked bytes)) 0 → Answering c s bytes ws 0 16 1
unfolding indexed
answering_start c s bytes ws h = record { older = []; arriving = arriving_start s; replies = h ∙ sym (none_words c (asked bytes)) }

module _ (c : Committee) (s bytes : Bytes) (ws : List ℕ) (k at p : ℕ) (g : Answering c s bytes ws k at p) where
  after : List Reply
  after = replies_after c (asked bytes) (indexed (blocks g.older))

  many : length after ≡ length (asked bytes)
  unfolding after
  many = length_after c (asked bytes) (indexed (blocks g.older))

  pub answering_settled : Settled c (length (asked bytes)) ws
  unfolding after
  answering_settled =
      subst (λ (us : List ℕ). Settled c (length (asked bytes)) us) (sym g.replies)
      (subst (λ (n : ℕ). Settled c n (replies_words after)) many (settled_words c after (settled_after c (asked bytes) (indexed (blocks g.older)))))

  module _ (ix : List ℕ) (a : Arrived s ix g.older k at p) (end next : ℕ) (e : end ≡ at + 8 + le_at 4 s (at + 4)) (f : next ≡ p + 1 + 10 * get_or ix p 0) where
    rec_is : take (end - (at + 8)) (drop (at + 8) s) ≡ record_at s at
    rec_is = record-part s at end e

    block_is : block_in (take (end - (at + 8)) (drop (at + 8) s)) ≡ a.next.block
    block_is = ap block_in rec_is ∙ (unfold block_at in a.block)

    part_is : take (next - p) (drop p ix) ≡ take (1 + 10 * get_or ix p 0) (drop p ix)
    part_is = let n : next - p ≡ 1 + 10 * get_or ix p 0 = omega arith in ap (λ (m : ℕ). take m (drop p ix)) n

    -- what the step asks of its record and its part
    pub step_ready : (well_formed (take (end - (at + 8)) (drop (at + 8) s)) ≡ true) ×
        ((author (block_in (take (end - (at + 8)) (drop (at + 8) s))) < 128) × PartWords (take (next - p) (drop p ix)))
    step_ready = (
      ap well_formed rec_is ∙ (entry_room s at a.entry).formed,
      (
        subst (λ (b : Block). author b < 128) (sym block_is) a.small,
        subst PartWords
            (sym part_is) a.words,
      ),
    )

    pub answering_next : (us : List ℕ) → us ≡ step_words c (block_in (take (end - (at + 8)) (drop (at + 8) s))) (part_at (take (next - p) (drop p ix)) 0)
        (asked bytes) ws → Answering c s bytes us (k + 1) end next
    unfolding step_words after replies_after indexed
    answering_next us h =
        record {
          older = a.next ∷ g.older;
          arriving = subst (λ (n : ℕ). Arriving s (a.next ∷ g.older) (k + 1) end n) (sym f)
              (subst (λ (n : ℕ). Arriving s (a.next ∷ g.older) (k + 1) n (p + 1 + 10 * get_or ix p 0)) (sym e) a.onward);
          replies =
              h
              ∙ ap (λ (b : Block). replies_words (step c b (part_at (take (next - p) (drop p ix)) 0) (asked bytes) (replies_from (length (asked bytes)) ws)))
              block_is
              ∙ ap (λ (xs : List Run). replies_words (step c a.next.block xs (asked bytes) (replies_from (length (asked bytes)) ws)))
              (ap (λ (us' : List ℕ). part_at us' 0) part_is ∙ a.runs)
              ∙ ap (λ (qs : List Reply). replies_words (step c a.next.block (part_in (a.next.block ∷ blocks g.older) a.next.block.reference)
              (asked bytes) qs)) (ap (λ (n : ℕ). replies_from n ws) (sym many) ∙ ap (replies_from (length after)) g.replies ∙ replies_back after);
        }

-- 02: "after k steps these are the replies for the first k blocks alone"
pub answered_first : (c : Committee) (s bytes : Bytes) → broken c ≡ false → store_in_order c s ≡ true → (ws : List ℕ) (k at p : ℕ)
    → Answering c s bytes ws k at p
    → ws ≡ replies_words (map (single_reply c (first_blocks k (blocks_of s))) (asked bytes))
unfolding blocks_of first_blocks
answered_first c s bytes b o ws k at p g =
    let newer : List Record = g.arriving.newer in
    let older : List Record = g.older in
    let all : blocks_of s ≡ blocks newer ++ blocks older = ap blocks g.arriving.all ∙ map-append (λ (r : Record). r.block) newer older in
    let many : length (blocks_of s) - k ≡ length (blocks newer) =
    omega (arith, ap length all, length-append (blocks newer) (blocks older), length-map older (λ (r : Record). r.block), g.arriving.many) in
    let first : drop (length (blocks_of s) - k) (blocks_of s) ≡ blocks older =
    ap (λ (n : ℕ). drop n (blocks_of s)) many ∙ ap (λ (bs : List Block). drop (length (blocks newer)) bs) all
    ∙ drop-append_seam (blocks newer) (blocks older) in
    let accepted : all_accepted c older ≡ true = accepted_older c newer older
    (subst (λ (rs : List Record). all_accepted c rs ≡ true) g.arriving.all (in_order_lem c s o).accepted) in
    g.replies
    ∙ ap replies_words (replies_single c (asked bytes) (well_stored c (blocks older)
    (record { sound = b; records = older; accepted = accepted; blocks = refl })))
    ∙ ap (λ (bs : List Block). replies_words (map (single_reply c bs) (asked bytes))) (sym first)

-- as many steps as there are blocks
pub answered_all : (c : Committee) (s bytes : Bytes) → broken c ≡ false → store_in_order c s ≡ true → (n : ℕ) → n ≡ length (records_of s)
    → replies_words (map (single_reply c (first_blocks n (blocks_of s))) (asked bytes)) ≡ replies_words (replies_after c (asked bytes) (indexed (blocks_of s)))
unfolding blocks_of first_blocks
answered_all c s bytes b o n e =
    let m : length (blocks_of s) - n ≡ 0 = omega (arith, e, length-map (records_of s) (λ (r : Record). r.block)) in
    rw m (ap replies_words (sym (replies_single c (asked bytes) (in_order_stored c s o))))

-- ---- words cleared one after the other

replicate_next : (i : ℕ) → ◌++◌ {A = ℕ} (replicate i 0) (0 ∷ []) ≡ replicate (suc i) 0
replicate_next zero = refl
replicate_next (suc i) = ap (λ (ws : List ℕ). 0 ∷ ws) (replicate_next i)

pub cleared_on : (ws : List ℕ) (i : ℕ) → i < length ws → take i ws ≡ replicate i 0 → take (i + 1) (set ws i 0) ≡ replicate (i + 1) 0
cleared_on ws i h e = rw (add-one i, take-suc-set ws i 0 h, e) (replicate_next i)

pub cleared_end : (ws : List ℕ) (i : ℕ) → length ws ≤ i → take i ws ≡ replicate i 0 → ws ≡ replicate (length ws) 0
cleared_end ws i h e =
    let are : ws ≡ replicate i 0 = sym (take_all i ws h) ∙ e in
    are ∙ ap (λ (n : ℕ). replicate n 0) (sym (ap length are ∙ length-replicate i 0))
