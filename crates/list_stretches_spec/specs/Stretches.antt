-- Stretches of a list of final locators: neighbours with the same certifying blocks. Assumes nothing: these are definitions.
use Rattle.std.specs.Prelude.{ℕ, zero, suc, ◌-◌, ◌≤◌, ◌<◌, ◌≡◌, Bool, true, false, not, ◌&&◌, ◌||◌, ltb, eqb, length}
use mathlib.Core.List.{List, [], ◌∷◌, map, flatten}
use Rattle.std.proofs.Math.Option.{Option, none, some}
use Rattle.base.specs.Lists.{pick, all_of, keep, is_none}
use Rattle.committee.specs.Committee.{Committee, Stake}
use Rattle.committee_set.specs.AuthoritySet.{set_of, stake_of}
use Rattle.record_spec.specs.Reference.{BlockReference, TransactionLocator, TransactionLocatorRange, locator, new_range, same_reference, locators}
use Rattle.record_spec.specs.Block.{Block, author, spans}
use Rattle.final_spec.specs.Voters.{certifies, is_final}
use Rattle.final_spec.specs.NextFinal.{least_final}

-- ---- a list of final locators over some stored blocks

-- which locators it shows, which blocks certify one, the least that it shows after a given one, and the offsets of a block at which any of
-- this may change
pub record Listing : Type 0 where
  pub shows : TransactionLocator → Bool
  pub certifies : TransactionLocator → Block → Bool
  pub next : Option TransactionLocator → Option TransactionLocator
  pub edges : BlockReference → List ℕ

-- where a vote for locators of a block begins and ends; nothing of a vote for those of another block
unfoldable pub edges_of : BlockReference → TransactionLocatorRange → List ℕ
edges_of r q = pick (same_reference q.block r) (q.start ∷ q.end ∷ []) []

-- where the votes of some blocks for locators of a block begin and end, by the ranges that f gives for each of them
unfoldable pub edges_by : (Block → List TransactionLocatorRange) → List Block → BlockReference → List ℕ
edges_by f bs r = flatten (map (λ b. flatten (map (edges_of r) (f b))) bs)

-- every final locator: 01's list
abbrev pub wide : Committee → List Block → Listing
wide c bs = record { shows = is_final c bs; certifies = certifies c bs; next = least_final c bs; edges = edges_by spans bs }

-- ---- a stretch

-- locators of one block, from the first offset to the end (excluded), with the number of certifying blocks and the stake of their authors,
-- which are the same for each of them
pub record FinalStretch : Type 0 where
  pub block : BlockReference
  pub first : ℕ
  pub end : ℕ
  pub blocks : ℕ
  pub stake : Stake

unfoldable pub stretch_locators : FinalStretch → List TransactionLocator
stretch_locators t = locators (new_range t.block t.first t.end)

unfoldable pub last_locator : FinalStretch → TransactionLocator
last_locator t = locator t.block (t.end - 1)

-- ---- where a stretch ends

unfoldable pub agree : Bool → Bool → Bool
agree true u = u
agree false u = not u

-- the same of the blocks certify the one as certify the other
unfoldable pub certified_alike : List Block → Listing → TransactionLocator → TransactionLocator → Bool
certified_alike bs k l m = all_of (λ b. agree (k.certifies l b) (k.certifies m b)) bs

-- the stretch of a locator goes on at an offset of its block: the list shows that one too, with the same certifying blocks
unfoldable pub goes_on : List Block → Listing → TransactionLocator → ℕ → Bool
goes_on bs k l o = k.shows (locator l.block o) && certified_alike bs k l (locator l.block o)

-- the longest run of neighbouring offsets from a locator on that are shown with the same certifying blocks ends there: what that means
pub record EndsAt (bs : List Block) (k : Listing) (l : TransactionLocator) (end : ℕ) : Type 0 where
  pub longer : l.offset < end
  pub goes : (o : ℕ) → l.offset ≤ o → o < end → goes_on bs k l o ≡ true
  pub stops : goes_on bs k l end ≡ false

-- the same, computed: only an edge can be the end

-- the lesser of the best so far, 0 where there is none, and a number above o
unfoldable pub nearer : ℕ → ℕ → ℕ → ℕ
nearer o best e = pick (ltb o e && (eqb best 0 || ltb e best)) e best

unfoldable pub nearest : ℕ → ℕ → List ℕ → ℕ
nearest o best [] = best
nearest o best (e ∷ es) = nearest o (nearer o best e) es

-- the least of some edges above the locator's offset at which its stretch does not go on; 0 where there is none
unfoldable pub end_among : List Block → Listing → TransactionLocator → List ℕ → ℕ
end_among bs k l es = nearest l.offset 0 (keep (λ o. not (goes_on bs k l o)) es)

unfoldable pub stretch_end : List Block → Listing → TransactionLocator → ℕ
stretch_end bs k l = end_among bs k l (k.edges l.block)

-- ---- the stretches, as the single questions asked on would give them

-- 01: "certifying blocks, their authors' stake", "each author once"
unfoldable pub stretch_at : Committee → List Block → Listing → TransactionLocator → FinalStretch
stretch_at c bs k l =
    record {
      block = l.block;
      first = l.offset;
      end = stretch_end bs k l;
      blocks = length (keep (k.certifies l) bs);
      stake = stake_of c (set_of (map author (keep (k.certifies l) bs)));
    }

unfoldable pub from_found : Option TransactionLocator → (TransactionLocator → List FinalStretch) → List FinalStretch
from_found none f = []
from_found (some l) f = f l

-- at most n stretches: each begins at the least locator after the given one, the next is asked for after its last locator
unfoldable pub stretches : Committee → List Block → Listing → ℕ → Option TransactionLocator → List FinalStretch
stretches c bs k zero after = []
stretches c bs k (suc n) after =
    from_found (k.next after) λ l.
    stretch_at c bs k l ∷ stretches c bs k n (some (last_locator (stretch_at c bs k l)))

-- the last locator of the stretches, else the one given
unfoldable pub reached : Option TransactionLocator → List FinalStretch → Option TransactionLocator
reached after [] = after
reached after (t ∷ ts) = reached (some (last_locator t)) ts

-- the list shows a locator after the given one
unfoldable pub more_follow : Listing → Option TransactionLocator → Bool
more_follow k after = not (is_none (k.next after))
