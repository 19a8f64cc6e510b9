-- From one entry of a store to the next. Assumes nothing.
use mathlib.Core.Path.{◌≡◌, refl, sym, ap, ◌∙◌}
use mathlib.Core.Logic.{◌⊎◌, inl, inr}
use mathlib.Core.Bool.{true}
use mathlib.Core.List.{List, [], ◌∷◌, ◌++◌}
use Prim.Native.Nat.{ℕ, ◌+◌, ◌≤◌, ◌<◌}
use native.Mathlib.Omega.{arith}
use lib.ListN.{length}
use Rattle.base.specs.Lists.{◌∈◌, here, there}
use Rattle.base.specs.Le.{Bytes, le_at}
use Rattle.base.proofs.Lists.{every_in}
use Rattle.store_spec.specs.Layout.{Record, used_by, Entry, entries}
use Rattle.store_spec.specs.Store.{records_of, used_length}
use Rattle.store_spec.specs.Entry.{is_entry, readable}
use Rattle.store_spec.proofs.Check.{is_readable}
use Rattle.store_spec.proofs.Store.{entries_below}
use Rattle.store_spec.proofs.Loops.{EntryAt, entry_at, is_entry_lem}
use Rattle.store_spec.proofs.Lookups.{Split, split_at_entry, used_more}
use Rattle.pending_question.specs.Step.{OnEntry, Passed}

-- what stands where older records end
pub stands_next : (newer older : List Record) → ((d : Entry) × (d ∈ entries (newer ++ older)) × (d.position ≡ used_by older)) ⊎
    (used_by older ≡ used_by (newer ++ older))
unfolding entries
stands_next [] older = inr refl
stands_next (r ∷ newer) older = go (stands_next newer older)
  where
    go : ((d : Entry) × (d ∈ entries (newer ++ older)) × (d.position ≡ used_by older)) ⊎ (used_by older ≡ used_by (newer ++ older))
        → ((d : Entry) × (d ∈ entries ((r ∷ newer) ++ older)) × (d.position ≡ used_by older)) ⊎ (used_by older ≡ used_by ((r ∷ newer) ++ older))
    go (inl x) = inl (x.0, there x.1, x.2)
    go (inr e) = inl (record { position = used_by (newer ++ older); bytes = r.bytes; block = r.block }, here, sym e)

nothing_between : (newer older : List Record) (own : Record) (d : Entry) → d ∈ entries (newer ++ own ∷ older) → d.position < used_by (own ∷ older)
    → d.position ≤ used_by older
unfolding entries
nothing_between [] older own d here h = omega arith
nothing_between [] older own d (there m) h = omega (arith, every_in (entries older) d (entries_below older) m)
nothing_between (r ∷ newer) older own d here h = absurd (omega (arith, used_more newer (own ∷ older)))
nothing_between (r ∷ newer) older own d (there m) h = nothing_between newer older own d m h

module _ (s : Bytes) (p end : ℕ) (h : is_entry s p ≡ true) (e : end ≡ p + 8 + le_at 4 s (p + 4)) where
  found : EntryAt s p
  found = entry_at s p h

  split : Split (records_of s) found.entry
  split = split_at_entry (records_of s) found.entry found.stored

  place : p ≡ used_by split.older
  place = sym found.place ∙ ap (λ (x : Entry). x.position) split.is

  after : end ≡ used_by (split.own ∷ split.older)
  unfolding used_by
  after = omega (arith, e, place, found.stands.size, ap (λ (x : Entry). length x.bytes) split.is)

  -- the next entry stands where one ends, or the entries end there
  pub entry_next : readable s ≡ true → OnEntry s end
  entry_next r = go (stands_next split.newer (split.own ∷ split.older))
    where
      go : ((d : Entry) × (d ∈ entries (split.newer ++ split.own ∷ split.older)) × (d.position ≡ used_by (split.own ∷ split.older)))
          ⊎ (used_by (split.own ∷ split.older) ≡ used_by (split.newer ++ split.own ∷ split.older)) → OnEntry s end
      go (inl x) = inl (rw (after, ← x.2) (is_entry_lem s x.0 r (rw split.are x.1)))
      go (inr q) = inr (rw split.are (after ∙ q))

  -- and none between
  pub passed_next : (q : ℕ) → p < q → Passed s p q → Passed s end q
  passed_next q l f d m u = omega (arith, nothing_between split.newer split.older split.own d (rw split.are at m) (omega (arith, after)), place)

-- before the used length an entry stands
pub inner : (s : Bytes) (at : ℕ) → readable s ≡ true → OnEntry s at → at < used_length s → is_entry s at ≡ true
inner s at r (inl h) l = h
inner s at r (inr e) l = absurd (omega (arith, (is_readable s r).used))

-- and from it on there is none
pub ended : (s : Bytes) (at : ℕ) → readable s ≡ true → OnEntry s at → used_length s ≤ at → at ≡ used_by (records_of s)
ended s at r (inl h) l =
    let x : EntryAt s at = entry_at s at h in
    absurd (omega (arith, every_in (entries (records_of s)) x.entry (entries_below (records_of s)) x.stored, x.place, (is_readable s r).used))
ended s at r (inr e) l = e

-- an entry stands where the entries have not ended
pub stands_on : (s : Bytes) (at : ℕ) → OnEntry s at → (at ≡ used_by (records_of s) → ⊥) → is_entry s at ≡ true
stands_on s at (inl h) f = h
stands_on s at (inr e) f = absurd (f e)
