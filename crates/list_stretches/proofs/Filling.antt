-- A slice filled with stretches by a sweep. Assumes nothing.
use mathlib.Core.Path.{◌≡◌, refl, ap, ◌∙◌}
use mathlib.Core.Bool.{Bool, true, false}
use mathlib.Core.List.{List}
use mathlib.Core.Option.{Option, none, some}
use Prim.Native.Nat.{ℕ, ◌+◌, ◌-◌, ◌*◌, ◌<◌}
use native.Mathlib.Omega.{arith}
use lib.ListN.{length, length-map}
use lib.Seq.{sets}
use Rattle.base.specs.Lists.{keep}
use Rattle.base.specs.Le.{Bytes}
use Rattle.base.specs.Checks.{Answer, answered}
use Rattle.committee.specs.Committee.{Committee}
use Rattle.committee_set.specs.AuthoritySet.{stake_of}
use Rattle.record_spec.specs.Reference.{TransactionLocator, locator}
use Rattle.record_spec.specs.Block.{Block}
use Rattle.types.specs.Values.{as_locator}
use Rattle.types.specs.declared.TransactionLocator as types
use Rattle.store_spec.specs.Layout.{Entry, entries, ascending}
use Rattle.store_spec.specs.Store.{records_of}
use Rattle.final_spec.specs.Finality.{blocks_of}
use Rattle.final_spec.proofs.Certifying.{ascending_count, entries_count}
use Rattle.final_readings_spec.specs.Readings.{Reading, certifies_in, certifiers_in}
use Rattle.final_readings_spec.specs.Answers.{as_reading}
use Rattle.list_readings_spec.specs.Answers.{is_ordinary}
use Rattle.final_readings_spec.specs.Finality.{certifying_positions_in}
use Rattle.list_stretches_spec.specs.Stretches.{Listing, last_locator, stretch_at, stretch_end, stretches}
use Rattle.list_stretches_spec.specs.Bulk.{Given, given_after, stretch_bytes, stretch_room, bytes_after}
use Rattle.list_stretches_spec.proofs.Spreading.{shown_ends}
use Rattle.list_readings_spec.specs.Lists.{listing}
use Rattle.list_readings_spec.proofs.Least.{lists_lawful}
use Rattle.final_certifying.specs.declared.Certifiers.{Certifiers}
use Rattle.list_walk.specs.Walk.{Certify}
use Rattle.list_lanes.specs.declared.Wanted.{Wanted}
use Rattle.list_stretch_bytes.specs.Step.{final_stretch, Filled}
use Rattle.list_stretch_bytes.proofs.Filling.{stretches_none, stretches_full, stretch_parts, fill_start, fill_more, fill_bytes, given_last, given_more}
use Rattle.list_marked.specs.Marked.{list_for}
use Rattle.list_shown.specs.Shown.{Reaching}
use Rattle.list_shown.proofs.Reaching.{after_stretch}

-- as many certifying positions as certifying blocks
certifying_many : (reading : Reading) (c : Committee) (s : Bytes) (l : TransactionLocator) → length (certifying_positions_in reading c s l) ≡ length
    (certifiers_in reading c (blocks_of s) l)
unfolding certifying_positions_in certifiers_in blocks_of
certifying_many reading c s l =
    let p : (Entry → Bool) = λ e. certifies_in reading c (blocks_of s) l e.block in
    length-map (keep p (ascending (entries (records_of s)))) (λ e. e.position) ∙ ascending_count p (entries (records_of s)) ∙ entries_count
    (certifies_in reading c (blocks_of s) l) (records_of s)

pub offset_of : (g : types.TransactionLocator) → g.offset ≡ (as_locator g).offset
unfolding as_locator locator
offset_of g = refl

module _ (w : Wanted) (c : Committee) (s : Bytes) (out₀ : Bytes) where
  abbrev bs : List Block
  bs = blocks_of s

  abbrev list : Listing
  list = list_for w c bs

  abbrev room : ℕ
  room = stretch_room out₀

  -- n stretches after a locator are written, and the sweep stands where it goes on
  pub record Done (after : Option TransactionLocator) (h : TransactionLocator) (out : Bytes) (n : ℕ) : Type 0 where
    pub last : Option TransactionLocator
    pub filled : Filled c bs list room after out₀ out last n
    pub reaching : Reaching w c s last h

  abbrev pub Doing : TransactionLocator → TransactionLocator → Bytes → ℕ → Type 0
  Doing h₀ h out n = (after : Option TransactionLocator) → Reaching w c s after h₀ → Done after h out n

  pub doing_start : (h₀ : TransactionLocator) → Doing h₀ h₀ out₀ 0
  doing_start h₀ after r = record { last = after; filled = fill_start c bs list room after out₀; reaching = r }

  module _ (h₀ h : TransactionLocator) (out : Bytes) (n : ℕ) (d : Doing h₀ h out n) where
    -- none follows
    pub done_last : ((last : Option TransactionLocator) → Reaching w c s last h → list.next last ≡ none) → (after : Option TransactionLocator) → Reaching w c
        s after h₀
        → (answered (record { stretches = n; more = false }) ≡ answered (given_after list after (stretches c bs list room after))) ×
        (out ≡ bytes_after (stretches c bs list room after) out₀)
    done_last none_left after r =
        let x = d after r in
        let e = none_left x.last x.reaching in
        let z = stretches_none c bs list (room - n) x.last e in (
          ap {B = Answer Given} answered (given_last c bs list room after out₀ out x.last n x.filled z e),
          fill_bytes c bs list room after out₀ out
              x.last n x.filled z,
        )

    module _ (l : TransactionLocator) (is : (last : Option TransactionLocator) → Reaching w c s last h → list.next last ≡ some l) where
      -- the slice is full
      pub done_more : n ≡ room → (after : Option TransactionLocator) → Reaching w c s after h₀
          → (answered (record { stretches = n; more = true }) ≡ answered (given_after list after (stretches c bs list room after))) ×
          (out ≡ bytes_after (stretches c bs list room after) out₀)
      done_more q after r =
          let x = d after r in
          let z = stretches_full c bs list (room - n) x.last (omega arith) in (
            ap {B = Answer Given} answered (given_more c bs list room after out₀ out x.last n x.filled z l (is x.last x.reaching)),
            fill_bytes c bs
                list room after out₀ out x.last n x.filled z,
          )

      -- one stretch more
      pub doing_more : list.shows l ≡ true → n < room → (f : Certifiers) → Certify (as_reading w.reading) c s l f → (h' : TransactionLocator) → h' ≡
          locator l.block (stretch_end bs list l)
          → (end stake : ℕ) → end ≡ h'.offset → stake ≡ stake_of c f.authors → (out' : Bytes) → out' ≡ sets out (80 * n)
          (stretch_bytes (final_stretch l end f.blocks stake)) → Doing h₀ h' out' (n + 1)
      unfolding last_locator stretch_at Certify certifiers_in listing locator
      doing_more shown less f cert h' e end stake q p out' wr after r =
          let x = d after r in
          let far = (shown_ends c bs list (lists_lawful (is_ordinary w.list) (as_reading w.reading) c bs) l shown).longer in
          let parts = stretch_parts c bs list l end f.blocks stake (q ∙ ap (λ (m : TransactionLocator). m.offset) e)
          (cert.0 ∙ certifying_many (as_reading w.reading) c s l) (p ∙ ap (stake_of c) cert.1) in
          record {
            last = some (locator l.block (stretch_end bs list l - 1));
            filled = rw (wr, parts) (fill_more c bs list room after out₀ out x.last n x.filled less (omega arith) l (is x.last x.reaching));
            reaching = rw e (after_stretch w c s l.block (stretch_end bs list l) (omega (arith, far)));
          }

  -- nothing to write
  pub begun_last : (after : Option TransactionLocator) → list.next after ≡ none
      → (answered (record { stretches = 0; more = false }) ≡ answered (given_after list after (stretches c bs list room after))) ×
      (out₀ ≡ bytes_after (stretches c bs list room after) out₀)
  begun_last after e =
      let f = fill_start c bs list room after out₀ in
      let z = stretches_none c bs list (room - 0) after e in
      (ap {B = Answer Given} answered (given_last c bs list room after out₀ out₀ after 0 f z e), fill_bytes c bs list room after out₀ out₀ after 0 f z)
