-- The list in bulk, asked on, is what the single questions give. Assumes nothing.
use mathlib.Core.Path.{◌≡◌, sym, ap, subst, ◌∙◌}
use mathlib.Core.Logic.{◌⊎◌, inl, inr}
use mathlib.Core.Bool.{Bool, true, false}
use mathlib.Core.List.{List, [], ◌++◌, map, map-append, append-nil}
use mathlib.Core.Option.{Option}
use Prim.Native.Nat.{ℕ}
use native.Mathlib.Omega.{arith}
use lib.ListN.{length}
use Rattle.base.specs.Lists.{◌∈◌, all_of}
use Rattle.base.specs.Le.{Bytes}
use Rattle.base.specs.Checks.{checked, passes}
use Rattle.base.proofs.Lists.{flatten_append}
use Rattle.base.proofs.Members.{in_append}
use Rattle.committee.specs.Committee.{Committee, broken}
use Rattle.record_spec.specs.Reference.{TransactionLocator}
use Rattle.record_spec.specs.Block.{Block}
use Rattle.store_spec.specs.Store.{store_in_order}
use Rattle.store_spec.specs.Shares.{is_stored_share}
use Rattle.final_spec.specs.NextFinal.{AskedOn, next_final_checks}
use Rattle.final_spec.specs.Finality.{blocks_of}
use Rattle.list_stretches_spec.specs.Stretches.{Listing, wide, FinalStretch, stretch_locators, stretch_at, stretches, reached, more_follow}
use Rattle.list_stretches_spec.specs.Bulk.{stretch_room, list_stretches, Given, given_after}
use Rattle.list_stretches_spec.specs.Claims.{Lawful, Gives, WideGives, Longest, Alike, Spread, StretchesAlike}
use Rattle.list_stretches_spec.proofs.Spreading.{begun, shown_ends, spread, longest}
use Rattle.list_stretches_spec.proofs.Wide.{wide_lawful_lem, wide_gives_lem, stretch_in, alike_at, stretches_alike}
use Rattle.list_ordinary_spec.specs.FinalShares.{is_final_share, SharesAskedOn}
use Rattle.list_ordinary_spec.specs.Ordinary.{ordinary}
use Rattle.list_ordinary_spec.specs.Claims.{OrdinaryGives}
use Rattle.list_ordinary_spec.proofs.Ordinary.{ordinary_lawful, ordinary_gives, goes_share}
use Rattle.list_theorems.specs.Bulk.{held, Answered, StretchesOn, last, onward, spread_out}

-- the answer says whether more follow
says_more : (c : Committee) (s : Bytes) (k : Listing) (out : Bytes) (after : Option TransactionLocator) (more : Bool) → broken c ≡ false → store_in_order c s ≡
    true
    → Answered c s k out after more → more_follow k (reached after (held c s k out after)) ≡ more
unfolding list_stretches given_after next_final_checks checked passes all_of
says_more c s k out after more b h e = let z : given_after k after (held c s k out after) ≡ record { stretches = length (held c s k out after); more = more } =
    cc in ap (λ (g : Given). g.more) z

spread_append : (ts us : List FinalStretch) → spread_out (ts ++ us) ≡ spread_out ts ++ spread_out us
unfolding spread_out
spread_append ts us = rw (map-append stretch_locators ts us) (flatten_append (map stretch_locators ts) (map stretch_locators us))

module _ (c : Committee) (s : Bytes) (b : broken c ≡ false) (h : store_in_order c s ≡ true) where
  abbrev bs : List Block
  bs = blocks_of s

  -- ---- any lawful list

  module _ (k : Listing) (law : Lawful bs k) where
    -- what the single questions give after a locator, through the stretches that a slice holds
    through : (out : Bytes) (after : Option TransactionLocator) (ls : List TransactionLocator) → Gives k after ls → Spread k (stretch_room out) after ls
        (held c s k out after)
    through out after ls g = spread c bs k law (stretch_room out) after ls g

    spread_on : {after : Option TransactionLocator} {ts : List FinalStretch} → StretchesOn c s k after ts → (ls : List TransactionLocator) → Gives k after ls
        → spread_out ts ≡ ls
    unfolding spread_out
    spread_on {after} (last out e) ls g =
        let a = through out after ls g in
        let none_left : a.rest ≡ [] = a.none_left.0 (says_more c s k out after false b h e) in
        sym (a.splits ∙ ap (λ (r : List TransactionLocator). spread_out (held c s k out after) ++ r) none_left ∙ append-nil (spread_out (held c s k out after)))
    spread_on {after} (onward {ts} out e on) ls g =
        let a = through out after ls g in
        spread_append (held c s k out after) ts ∙ ap (λ (r : List TransactionLocator). spread_out (held c s k out after) ++ r)
        (spread_on on a.rest a.onward) ∙ sym a.splits

    -- what holds of every stretch that a slice holds, holds of all
    each_on : (P : FinalStretch → Type 0) → ((n : ℕ) (after : Option TransactionLocator) (x : FinalStretch) → x ∈ stretches c bs k n after → P x)
        → {after : Option TransactionLocator} {ts : List FinalStretch} → StretchesOn c s k after ts → (x : FinalStretch) → x ∈ ts → P x
    each_on P f {after} (last out e) x m = f (stretch_room out) after x m
    each_on P f {after} (onward {ts} out e on) x m = split (λ i. each_on P f on x i) (in_append (held c s k out after) m)
      where
        split : (x ∈ ts → P x) → (x ∈ held c s k out after) ⊎ (x ∈ ts) → P x
        split later (inl i) = f (stretch_room out) after x i
        split later (inr i) = later i

    pub longest_on : {after : Option TransactionLocator} {ts : List FinalStretch} → StretchesOn c s k after ts → (x : FinalStretch) → x ∈ ts → Longest bs k x
    longest_on on x m = each_on (λ y. Longest bs k y) (longest c bs k law) on x m

  -- ---- the wide list

  pub wide_spread : {after : Option TransactionLocator} {ts : List FinalStretch} → StretchesOn c s (wide c bs) after ts → (ls : List TransactionLocator) →
      AskedOn c s after ls → spread_out ts ≡ ls
  unfolding WideGives
  wide_spread {after} on ls g = spread_on (wide c bs) (wide_lawful_lem c bs) on ls ((wide_gives_lem c s b h after ls).1 g)

  pub wide_alike_on : {after : Option TransactionLocator} {ts : List FinalStretch} → StretchesOn c s (wide c bs) after ts → (x : FinalStretch) → x ∈ ts →
      (l : TransactionLocator) → l ∈ stretch_locators x → Alike c s x l
  unfolding StretchesAlike
  wide_alike_on on x m = each_on (wide c bs) (wide_lawful_lem c bs) (λ y. (l : TransactionLocator) → l ∈ stretch_locators y → Alike c s y l)
      (stretches_alike c s h) on x m

  -- ---- the ordinary list

  pub ordinary_spread : {after : Option TransactionLocator} {ts : List FinalStretch} → StretchesOn c s (ordinary c bs) after ts →
      (ls : List TransactionLocator) → SharesAskedOn c s after ls → spread_out ts ≡ ls
  unfolding OrdinaryGives
  ordinary_spread {after} on ls g = spread_on (ordinary c bs) (ordinary_lawful c bs) on ls ((ordinary_gives c s b h after ls).1 g)

  -- a stretch of the ordinary list holds stored shares, alike
  shares_alike : (n : ℕ) (after : Option TransactionLocator) (x : FinalStretch) → x ∈ stretches c bs (ordinary c bs) n after → (l : TransactionLocator) → l ∈
      stretch_locators x
      → (is_stored_share bs l ≡ true) × Alike c s x l
  unfolding stretch_at
  shares_alike n after x m l i =
      let y = begun c bs (ordinary c bs) (ordinary_lawful c bs) n after x m in
      subst (λ (u : FinalStretch). l ∈ stretch_locators u → (is_stored_share bs l ≡ true) × Alike c s u l) y.stretch (at y.at y.shown) i
    where
      at : (a : TransactionLocator) → is_final_share c bs a ≡ true → l ∈ stretch_locators (stretch_at c bs (ordinary c bs) a) → (is_stored_share bs l ≡ true) ×
          Alike c s (stretch_at c bs (ordinary c bs) a) l
      at a f j =
          let e = shown_ends c bs (ordinary c bs) (ordinary_lawful c bs) a f in
          let z = stretch_in (stretch_at c bs (ordinary c bs) a) l j (omega (arith, e.longer)) in
          let g = goes_share c bs a z.0 (e.goes z.0 z.1.0 z.1.1.0) in
          let k = alike_at c s h a z.0 g.1 in
          subst (λ (q : TransactionLocator). (is_stored_share bs q ≡ true) × Alike c s (stretch_at c bs (ordinary c bs) a) q) z.1.1.1
          (g.0, record { final = k.final; certifying = k.certifying; many = k.many; stake = k.stake })

  pub ordinary_alike_on : {after : Option TransactionLocator} {ts : List FinalStretch} → StretchesOn c s (ordinary c bs) after ts → (x : FinalStretch) → x ∈
      ts → (l : TransactionLocator) → l ∈ stretch_locators x
      → (is_stored_share bs l ≡ true) × Alike c s x l
  ordinary_alike_on on x m = each_on (ordinary c bs) (ordinary_lawful c bs)
      (λ y. (l : TransactionLocator) → l ∈ stretch_locators y → (is_stored_share bs l ≡ true) × Alike c s y l) shares_alike on x m
