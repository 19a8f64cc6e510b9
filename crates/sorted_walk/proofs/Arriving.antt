-- The stored blocks and their parts one after the other, in order of arrival. Assumes nothing.
use mathlib.Core.Path.{◌≡◌, refl, sym, ap, subst, ◌∙◌}
use mathlib.Core.Bool.{true, false}
use mathlib.Core.List.{List, [], ◌∷◌, ◌++◌, append-nil, append_assoc, map-append}
use Prim.Native.Nat.{ℕ, ◌+◌, ◌*◌, ◌≤◌, ◌<◌}
use native.Mathlib.Omega.{arith}
use native.Mathlib.Nat.{add-zero}
use lib.ListN.{length, get_or, take, drop, length-append, length-drop}
use lib.Seq.{take_at, get_or-drop}
use Rattle.base.specs.Lists.{◌∈◌, here, there}
use Rattle.base.specs.Le.{Bytes, le_at}
use Rattle.base.proofs.Le.{AllBytes}
use Rattle.base.proofs.Lists.{every_in}
use Rattle.base.proofs.Members.{in_right}
use Rattle.committee.specs.Committee.{Committee, broken}
use Rattle.record_spec.specs.Reference.{BlockReference, TransactionLocator, locator}
use Rattle.record_spec.specs.Block.{Block, author}
use Rattle.record_spec.proofs.Records.{ReferenceFits, BlockFits}
use Rattle.store_spec.specs.Layout.{Record, blocks, used_by, Entry, entries}
use Rattle.store_spec.specs.Store.{block_count, records_of, store_in_order}
use Rattle.store_spec.specs.Entry.{is_entry, block_at}
use Rattle.store_spec.proofs.Store.{in_order_lem}
use Rattle.store_spec.proofs.Walk.{Stands, Walked, then}
use Rattle.store_spec.proofs.Check.{Readable, is_readable, order_laid}
use Rattle.store_spec.proofs.Loops.{is_entry_lem, block_at_lem}
use Rattle.store_spec.proofs.Search.{laid_out_lem}
use Rattle.final_spec.specs.Ancestry.{VotesFor, by_share, by_vote, by_accept, by_range}
use Rattle.final_spec.specs.Voters.{voters}
use Rattle.final_spec.specs.Finality.{blocks_of}
use Rattle.final_spec.specs.Claims.{Stored}
use Rattle.final_spec.proofs.Claimed.{small_authors}
use Rattle.final_spec.proofs.Votes.{is_spanned, votes_for_lem}
use Rattle.index_spec.specs.Runs.{Run}
use Rattle.index_spec.specs.Part.{RunsOf, part_in}
use Rattle.index_spec.specs.Index.{part_words, indexed, body_words, used_words, index_agrees}
use Rattle.index_spec.specs.Walk.{part_at}
use Rattle.index_spec.proofs.Parts.{part_runs}
use Rattle.index_spec.proofs.Grown.{used_grows}
use Rattle.index_spec.proofs.Fitting.{run_span}
use Rattle.index_spec.proofs.Reading.{part_back, part_length}
use Rattle.index_spec.proofs.Checking.{agrees_part}
use Rattle.sorted_step.specs.Step.{PartWords}
use Rattle.final_spec.proofs.Fits.{block_fits}

-- ---- references of runs fit

vote_fits : (b : Block) (l : TransactionLocator) → BlockFits b → VotesFor b l → ReferenceFits l.block
vote_fits b l f (by_share e h) = subst ReferenceFits e f.reference
vote_fits b l f (by_vote (by_accept m)) = (every_in b.statements _ f.statements m).block
vote_fits b l f (by_vote (by_range r m e h k)) = subst ReferenceFits e (every_in b.statements _ f.statements m).block

run_fits : (bs : List Block) → ((b : Block) → b ∈ bs → BlockFits b) → (r : BlockReference) (x : Run) → x ∈ part_in bs r → ReferenceFits x.reference
unfolding locator
run_fits bs f r x m =
    let p = run_span bs r x m x.start (omega arith) ((part_runs bs r).stretches x m).full in
    vote_fits p.0 (locator x.reference x.start) (f p.0 p.1) (votes_for_lem p.0 _ (is_spanned p.0 _ p.2))

-- ---- a part in its words

part_read : (xs : List Run) → ((x : Run) → x ∈ xs → ReferenceFits x.reference) → part_at (part_words xs) 0 ≡ xs
part_read xs f = part_back (part_words xs) 0 xs [] (sym (append-nil (part_words xs))) f

part_first : (xs : List Run) (rest : List ℕ) → get_or (part_words xs ++ rest) 0 0 ≡ length xs
unfolding part_words
part_first xs rest = refl

-- a block's part, as the step takes it
part_formed : (bs : List Block) (r : BlockReference) → ((x : Run) → x ∈ part_in bs r → ReferenceFits x.reference) → PartWords (part_words (part_in bs r))
part_formed bs r f =
    let xs : List Run = part_in bs r in
    record {
      long = part_length xs ∙ ap (λ (n : ℕ). 1 + 10 * n) (sym (ap (λ (ws : List ℕ). get_or ws 0 0) (sym (append-nil (part_words xs))) ∙ part_first xs []));
      names = λ l. voters bs l r;
      runs = subst (RunsOf (λ l. voters bs l r)) (sym (part_read xs f)) (part_runs bs r);
    }

-- ---- the walk

-- the k blocks of these records were passed: where the next record and the next part begin
pub record Arriving (s : Bytes) (older : List Record) (k at p : ℕ) : Type 0 where
  pub newer : List Record
  pub all : records_of s ≡ newer ++ older
  pub many : length older ≡ k
  pub place : at ≡ used_by older
  pub part : p ≡ used_words (indexed (blocks older))

pub arriving_start : (s : Bytes) → Arriving s [] 0 16 1
unfolding used_by used_words body_words indexed
arriving_start s = record { newer = records_of s; all = sym (append-nil (records_of s)); many = refl; place = refl; part = refl }

-- the last of a list
last_of : {A : Type 0} (xs : List A) → 0 < length xs → (front : List A) × (x : A) × (xs ≡ front ++ x ∷ [])
last_of [] h = absurd (omega arith)
last_of (x ∷ []) h = ([], x, refl)
last_of {A} (x ∷ y ∷ ys) h =
    let r = last_of (y ∷ ys) (omega arith) in
    (x ∷ r.0, r.1, ap (λ (zs : List A). x ∷ zs) r.2)

walked_stands : (s : Bytes) (newer : List Record) (r : Record) (older : List Record) → Walked s (newer ++ r ∷ older) → Stands s (used_by older) r
walked_stands s [] r older (then w h) = h
walked_stands s (q ∷ newer) r older (then w h) = walked_stands s newer r older w

entry_in : (newer : List Record) (r : Record) (older : List Record) → record { position = used_by older; bytes = r.bytes; block = r.block } ∈ entries
    (newer ++ r ∷ older)
unfolding entries
entry_in [] r older = here
entry_in (q ∷ newer) r older = there (entry_in newer r older)

block_in_lem : (newer : List Record) (r : Record) (older : List Record) → r.block ∈ blocks (newer ++ r ∷ older)
block_in_lem [] r older = here
block_in_lem (q ∷ newer) r older = there (block_in_lem newer r older)

-- the record that is next, and what stands where
pub record Arrived (s : Bytes) (ix : List ℕ) (older : List Record) (k at p : ℕ) : Type 0 where
  pub next : Record
  pub entry : is_entry s at ≡ true
  pub block : block_at s at ≡ next.block
  pub small : author next.block < 128
  pub inside : p + (1 + 10 * get_or ix p 0) ≤ length ix
  pub words : PartWords (take (1 + 10 * get_or ix p 0) (drop p ix))
  pub runs : part_at (take (1 + 10 * get_or ix p 0) (drop p ix)) 0 ≡ part_in (next.block ∷ blocks older) next.block.reference
  pub onward : Arriving s (next ∷ older) (k + 1) (at + 8 + le_at 4 s (at + 4)) (p + 1 + 10 * get_or ix p 0)

module _ (c : Committee) (s : Bytes) (ix : List ℕ) (sound : broken c ≡ false) (ordered : store_in_order c s ≡ true) (bytes : AllBytes s)
    (agrees : index_agrees (blocks_of s) ix ≡ true) where
  stored : Stored c (blocks_of s)
  unfolding blocks_of
  stored = record { sound = sound; records = records_of s; accepted = (in_order_lem c s ordered).accepted; blocks = refl }

  pub counted : length (records_of s) ≡ le_at 2 s 8
  unfolding block_count
  counted = (is_readable s (laid_out_lem s (order_laid c s ordered)).tested).many

  pub headed : 16 ≤ length s
  headed = (is_readable s (laid_out_lem s (order_laid c s ordered)).tested).header.long

  pub arrived : (older : List Record) (k at p : ℕ) → Arriving s older k at p → k < length (records_of s) → Arrived s ix older k at p
  unfolding blocks_of used_by
  arrived older k at p g h =
      let long : 0 < length g.newer = omega (arith, g.many, ap length g.all, length-append g.newer older) in
      let z = last_of g.newer long in
      let front : List Record = z.0 in
      let r : Record = z.1 in
      let b : Block = r.block in
      let all : records_of s ≡ front ++ r ∷ older = g.all ∙ ap (λ (xs : List Record). xs ++ older) z.2 ∙ append_assoc front (r ∷ []) older in
      let reads : Readable s = is_readable s (laid_out_lem s (order_laid c s ordered)).tested in
      let st : Stands s (used_by older) r = walked_stands s front r older (subst (Walked s) all reads.walked) in
      let st₁ : Stands s at r = subst (λ (n : ℕ). Stands s n r) (sym g.place) st in
      let bs : blocks_of s ≡ blocks front ++ (b ∷ blocks older) = ap (λ (rs : List Record). blocks rs) all ∙ map-append (λ x. x.block) front (r ∷ older) in
      let xs : List Run = part_in (b ∷ blocks older) b.reference in
      let here-is = agrees_part (blocks front) b (blocks older) ix (subst (λ (ds : List Block). index_agrees ds ix ≡ true) bs agrees) in
      let e : Entry = record { position = used_by older; bytes = r.bytes; block = r.block } in
      let words : drop p ix ≡ part_words xs ++ here-is.0 = ap (λ (n : ℕ). drop n ix) g.part ∙ here-is.1 in
      let fits : (x : Run) → x ∈ xs → ReferenceFits x.reference = run_fits (b ∷ blocks older)
      (λ d m. block_fits s bytes d (subst (λ (ds : List Block). d ∈ ds) (sym bs) (in_right (blocks front) m))) b.reference in
      let first : get_or ix p 0 ≡ get_or (drop p ix) 0 0 = ap (λ (n : ℕ). get_or ix n 0) (sym (add-zero p)) ∙ sym (get_or-drop p ix 0 0) in
      let count : get_or ix p 0 ≡ length xs = first ∙ ap (λ (ws : List ℕ). get_or ws 0 0) words ∙ part_first xs here-is.0 in
      let size : length (part_words xs) ≡ 1 + 10 * get_or ix p 0 = part_length xs ∙ ap (λ (n : ℕ). 1 + 10 * n) (sym count) in
      let taken : take (1 + 10 * get_or ix p 0) (drop p ix) ≡ part_words xs = ap (take (1 + 10 * get_or ix p 0)) words ∙ take_at (part_words xs) here-is.0
      (1 + 10 * get_or ix p 0) size in
      record {
        next = r;
        entry = subst (λ (n : ℕ). is_entry s n ≡ true) (sym g.place)
            (is_entry_lem s e (laid_out_lem s (order_laid c s ordered)).tested
            (subst (λ (rs : List Record). e ∈ entries rs) (sym all) (entry_in front r older)));
        block = block_at_lem s at r st₁;
        small = small_authors c (blocks_of s) stored b (subst (λ (rs : List Record). b ∈ blocks rs) (sym all) (block_in_lem front r older));
        inside = omega (arith, ap length words, length-append (part_words xs) here-is.0, length-drop p ix);
        words = subst PartWords (sym taken) (part_formed (b ∷ blocks older) b.reference fits);
        runs = ap (λ (ws : List ℕ). part_at ws 0) taken ∙ part_read xs fits;
        onward = record {
          newer = front;
          all = all;
          many = omega (arith, g.many);
          place = omega (arith, g.place, st₁.size);
          part = omega (arith, g.part, size, used_grows b (blocks older));
        };
      }
