-- Who speaks in a block's ancestry, computed and as a relation, whatever a block says. Assumes nothing.
use mathlib.Core.Path.{◌≡◌, refl, sym, ap, ◌∙◌, subst}
use mathlib.Core.Logic.{◌⊎◌, inl, inr}
use mathlib.Core.Bool.{Bool, true, false, ◌||◌}
use mathlib.Core.List.{List, [], ◌∷◌, ◌++◌, map}
use Rattle.base.specs.Lists.{pick, any_of, ◌∈◌, here, there}
use Rattle.base.proofs.Tests.{or_cases, or_left, or_right, not_both, same_test}
use Rattle.base.proofs.Members.{in_empty, any_in, in_any, in_map, map_in}
use Rattle.committee.specs.Committee.{AuthorityIndex}
use Rattle.committee_set.specs.AuthoritySet.{AuthoritySet, nobody, member, united}
use Rattle.committee_set.proofs.Words.{Small, small_nobody, small_united, set_ext, united_nobody, nobody_united, united_assoc}
use Rattle.committee_set.proofs.Votes.{member_nobody, member_united}
use Rattle.record_spec.specs.Reference.{BlockReference, TransactionLocator, same_reference}
use Rattle.record_spec.specs.Block.{Block}
use Rattle.record_spec.proofs.References.{reference_refl, other_reference}
use Rattle.store_spec.proofs.Stored.{WellStored, fresh, stored, is_older, include_stored}
use Rattle.base.proofs.Lists.{map_same}
use Rattle.final_spec.specs.Voters.{Speech, unions, spoken}
use Rattle.final_spec.specs.Ancestry.{Ancestor, itself, included}
use Rattle.final_spec.proofs.Ancestors.{ancestor_grows, ancestor_older, descendant_stored, ancestor_kept, ancestor_only}

-- for whom some block of the inclusive ancestry speaks
pub record Speaker (own : Speech) (bs : List Block) (b : Block) (l : TransactionLocator) (a : AuthorityIndex) : Type 0 where
  pub speaking : Block
  pub ancestor : Ancestor bs speaking b
  pub heard : member (own speaking l) a ≡ true

-- a block among bs that speaks for a
pub record SpokenAmong (own : Speech) (bs : List Block) (l : TransactionLocator) (a : AuthorityIndex) : Type 0 where
  pub block : Block
  pub stands : block ∈ bs
  pub heard : member (own block l) a ≡ true

-- in the union of sets is who is in one of them
pub member_unions : (vs : List AuthoritySet) (a : AuthorityIndex) → member (unions vs) a ≡ any_of (λ v. member v a) vs
unfolding unions any_of
member_unions [] a = member_nobody a
member_unions (v ∷ vs) a = rw (member_united v (unions vs) a, member_unions vs a)

module _ (own : Speech) where
  together : (b : Block) (older : List Block) (l : TransactionLocator) (a : AuthorityIndex)
      → member (united (own b l) (unions (map (spoken own older l) b.includes))) a ≡ member (own b l) a || any_of (λ v. member v a)
      (map (spoken own older l) b.includes)
  together b older l a =
      member_united (own b l) (unions (map (spoken own older l) b.includes)) a
      ∙ ap (λ (t : Bool). member (own b l) a || t) (member_unions (map (spoken own older l) b.includes) a)

  module _ (h : Block) (older : List Block) (new : (d : Block) → d ∈ older → d.reference ≡ h.reference → ⊥)
      (found : (i : BlockReference) → i ∈ h.includes → (d : Block) × (d ∈ older) × (d.reference ≡ i)) (w : WellStored older)
      (l : TransactionLocator) (a : AuthorityIndex) where
    newest_set : spoken own (h ∷ older) l h.reference ≡ united (own h l) (unions (map (spoken own older l) h.includes))
    unfolding spoken
    newest_set = rw (reference_refl h.reference)

    newest : member (spoken own (h ∷ older) l h.reference) a ≡ member (own h l) a || any_of (λ v. member v a) (map (spoken own older l) h.includes)
    newest = rw newest_set (together h older l a)

    others : (b : Block) → b ∈ older → spoken own (h ∷ older) l b.reference ≡ spoken own older l b.reference
    unfolding spoken
    others b m = rw (other_reference h.reference b.reference (λ e. new b m (sym e)))

    older_set : (i : BlockReference) → ((d : Block) × (d ∈ older) × (d.reference ≡ i)) → spoken own older l i ≡ spoken own (h ∷ older) l i
    older_set i d = subst (λ (r : BlockReference). spoken own older l r ≡ spoken own (h ∷ older) l r) d.2 (sym (others d.0 d.1))

    newest_counted : ((b : Block) → b ∈ older → Speaker own older b l a → member (spoken own older l b.reference) a ≡ true)
        → {d : Block} → Ancestor (h ∷ older) d h → member (own d l) a ≡ true
        → member (own h l) a || any_of (λ v. member v a) (map (spoken own older l) h.includes) ≡ true
    newest_counted ih (itself m) v = or_left _ _ v
    newest_counted ih {d} (included {i = i} m k anc) v =
        let r = found i.reference k in
        let older-i : i ∈ older = is_older new r.1 r.2 (descendant_stored anc) in
        or_right (member (own h l) a) _
        (in_any (λ x. member x a) (in_map (spoken own older l) k)
        (ih i older-i (record { speaking = d; ancestor = ancestor_older new w older-i anc; heard = v })))

    counted_newest : ((b : Block) → b ∈ older → member (spoken own older l b.reference) a ≡ true → Speaker own older b l a)
        → (member (own h l) a ≡ true) ⊎ (any_of (λ v. member v a) (map (spoken own older l) h.includes) ≡ true) → Speaker own (h ∷ older) h l a
    counted_newest ih (inl k) = record { speaking = h; ancestor = itself here; heard = k }
    counted_newest ih (inr k) =
        let s = any_in (λ x. member x a) (map (spoken own older l) h.includes) k in
        let i = map_in (spoken own older l) h.includes s.1 in
        let d = found i.0 i.1 in
        let counted : member (spoken own older l d.0.reference) a ≡ true =
        ap (λ (r : BlockReference). member (spoken own older l r) a) d.2 ∙ ap (λ (x : AuthoritySet). member x a) i.2 ∙ s.2 in
        let v = ih d.0 d.1 counted in
        record {
          speaking = v.speaking;
          ancestor = included here (subst (λ (r : BlockReference). r ∈ h.includes) (sym d.2) i.1)
              (ancestor_grows (λ x m. there m) {d = v.speaking} v.ancestor);
          heard = v.heard;
        }

  -- every one who speaks is counted
  pub speaker_counted : {bs : List Block} → WellStored bs → (l : TransactionLocator) (a : AuthorityIndex) (b : Block) → b ∈ bs → Speaker own bs b l a
      → member (spoken own bs l b.reference) a ≡ true
  speaker_counted fresh l a b m v = absurd (in_empty m)
  speaker_counted (stored {b = h} {older = older} new found w) l a b here v =
      newest h older new found w l a ∙ newest_counted h older new found w l a (speaker_counted w l a) v.ancestor v.heard
  speaker_counted (stored {b = h} {older = older} new found w) l a b (there m) v =
      rw (others h older new found w l a b m)
      (speaker_counted w l a b m (record { speaking = v.speaking; ancestor = ancestor_older new w m v.ancestor; heard = v.heard }))

  -- and nobody else is
  pub counted_speaker : {bs : List Block} → WellStored bs → (l : TransactionLocator) (a : AuthorityIndex) (b : Block) → b ∈ bs
      → member (spoken own bs l b.reference) a ≡ true → Speaker own bs b l a
  counted_speaker fresh l a b m v = absurd (in_empty m)
  counted_speaker (stored {b = h} {older = older} new found w) l a b here v =
      counted_newest h older new found w l a (counted_speaker w l a) (or_cases (member (own h l) a) _ (sym (newest h older new found w l a) ∙ v))
  counted_speaker (stored {b = h} {older = older} new found w) l a b (there m) v =
      let k = counted_speaker w l a b m (rw (others h older new found w l a b m) at v) in
      record { speaking = k.speaking; ancestor = ancestor_grows (λ x j. there j) {d = k.speaking} k.ancestor; heard = k.heard }

  -- the step: a stored block's set is its own with its includes', all over the same blocks
  pub spoken_step : {bs : List Block} → WellStored bs → (l : TransactionLocator) (b : Block) → b ∈ bs → spoken own bs l b.reference ≡ united (own b l)
      (unions (map (spoken own bs l) b.includes))
  spoken_step fresh l b m = absurd (in_empty m)
  spoken_step (stored {b = h} {older = older} new found w) l b here =
      newest_set h older new found w l 0
      ∙ ap (λ (vs : List AuthoritySet). united (own h l) (unions vs))
      (map_same (spoken own older l) (spoken own (h ∷ older) l) h.includes (λ i m. older_set h older new found w l 0 i (found i m)))
  spoken_step (stored {b = h} {older = older} new found w) l b (there m) =
      others h older new found w l 0 b m ∙ spoken_step w l b m
      ∙ ap (λ (vs : List AuthoritySet). united (own b l) (unions vs))
      (map_same (spoken own older l) (spoken own (h ∷ older) l) b.includes (λ i k. older_set h older new found w l 0 i (include_stored w m i k)))

  -- 01: "they depend on that ancestry alone": where a block's ancestry among bs is stored among cs
  pub spoken_agree : {bs cs : List Block} → WellStored bs → WellStored cs → (b : Block) → b ∈ bs → ((x : Block) → Ancestor bs x b → x ∈ cs)
      → (l : TransactionLocator) (a : AuthorityIndex) → member (spoken own bs l b.reference) a ≡ member (spoken own cs l b.reference) a
  spoken_agree {bs} {cs} v w b m f l a =
      same_test _ _
      (λ h. speaker_counted w l a b stored_too (there_too (counted_speaker v l a b m h)))
      (λ h. speaker_counted v l a b m (back (counted_speaker w l a b stored_too h)))
    where
      stored_too : b ∈ cs
      stored_too = f b (itself m)

      there_too : Speaker own bs b l a → Speaker own cs b l a
      there_too k = record { speaking = k.speaking; ancestor = ancestor_kept f k.ancestor; heard = k.heard }

      back : Speaker own cs b l a → Speaker own bs b l a
      back k = record { speaking = k.speaking; ancestor = ancestor_only v w m f k.ancestor; heard = k.heard }

  -- where each block speaks for a set of two words, so do all together
  pub spoken_small : (bs : List Block) (l : TransactionLocator) → ((b : Block) → b ∈ bs → Small (own b l)) → (r : BlockReference) → Small (spoken own bs l r)
  unfolding spoken unions
  spoken_small [] l f r = small_nobody
  spoken_small (b ∷ older) l f r =
      split (same_reference b.reference r)
      (small_united (own b l) (unions (map (spoken own older l) b.includes)) (f b here)
      (together b.includes (spoken_small older l (λ x m. f x (there m)))))
      (spoken_small older l (λ x m. f x (there m)) r)
    where
      together : (is : List BlockReference) → ((i : BlockReference) → Small (spoken own older l i)) → Small (unions (map (spoken own older l) is))
      together [] g = small_nobody
      together (i ∷ is) g = small_united (spoken own older l i) (unions (map (spoken own older l) is)) (g i) (together is g)

      split : (t : Bool) {v w : AuthoritySet} → Small v → Small w → Small (pick t v w)
      split true h k = h
      split false h k = k

  -- so two stores that agree on a block's ancestry have the same two words
  pub spoken_equal : {bs cs : List Block} → WellStored bs → WellStored cs → (l : TransactionLocator)
      → ((x : Block) → x ∈ bs → Small (own x l)) → ((x : Block) → x ∈ cs → Small (own x l))
      → (b : Block) → b ∈ bs → ((x : Block) → Ancestor bs x b → x ∈ cs) → spoken own bs l b.reference ≡ spoken own cs l b.reference
  spoken_equal {bs} {cs} v w l f g b m h =
      set_ext (spoken own bs l b.reference) (spoken own cs l b.reference) (spoken_small bs l f b.reference) (spoken_small cs l g b.reference)
      (λ a k. spoken_agree v w b m h l a)

  -- ---- over any list of blocks: nothing is asked of how they are stored

  -- who is heard is heard from a block
  pub spoken_among : (bs : List Block) (l : TransactionLocator) (r : BlockReference) (a : AuthorityIndex) → member (spoken own bs l r) a ≡ true → SpokenAmong
      own bs l a
  unfolding spoken
  spoken_among [] l r a h = absurd (not_both h (member_nobody a))
  spoken_among (b ∷ older) l r a h = split (same_reference b.reference r) (λ i k. spoken_among older l i a k) h
    where
      later : SpokenAmong own older l a → SpokenAmong own (b ∷ older) l a
      later v = record { block = v.block; stands = there v.stands; heard = v.heard }

      newest_one : ((i : BlockReference) → member (spoken own older l i) a ≡ true → SpokenAmong own older l a)
          → (member (own b l) a ≡ true) ⊎ (any_of (λ v. member v a) (map (spoken own older l) b.includes) ≡ true) → SpokenAmong own (b ∷ older) l a
      newest_one ih (inl k) = record { block = b; stands = here; heard = k }
      newest_one ih (inr k) =
          let s = any_in (λ v. member v a) (map (spoken own older l) b.includes) k in
          let i = map_in (spoken own older l) b.includes s.1 in
          later (ih i.0 (ap (λ (v : AuthoritySet). member v a) i.2 ∙ s.2))

      split : (t : Bool) → ((i : BlockReference) → member (spoken own older l i) a ≡ true → SpokenAmong own older l a)
          → member (pick t (united (own b l) (unions (map (spoken own older l) b.includes))) (spoken own older l r)) a ≡ true → SpokenAmong own (b ∷ older)
          l a
      split true ih k = newest_one ih (or_cases (member (own b l) a) _ (sym (together b older l a) ∙ k))
      split false ih k = later (ih r k)

  -- where every block speaks at m for those for whom it speaks at l, so do all together
  pub spoken_mono : (l m : TransactionLocator) (bs : List Block) →
      ((d : Block) → d ∈ bs → (a : AuthorityIndex) → member (own d l) a ≡ true → member (own d m) a ≡ true)
      → (r : BlockReference) (a : AuthorityIndex) → member (spoken own bs l r) a ≡ true → member (spoken own bs m r) a ≡ true
  unfolding spoken
  spoken_mono l m [] f r a h = h
  spoken_mono l m (b ∷ older) f r a h = split (same_reference b.reference r) (λ i. spoken_mono l m older (λ d k. f d (there k)) i a) h
    where
      newest_too : ((i : BlockReference) → member (spoken own older l i) a ≡ true → member (spoken own older m i) a ≡ true)
          → (member (own b l) a ≡ true) ⊎ (any_of (λ v. member v a) (map (spoken own older l) b.includes) ≡ true)
          → member (own b m) a || any_of (λ v. member v a) (map (spoken own older m) b.includes) ≡ true
      newest_too ih (inl k) = or_left (member (own b m) a) _ (f b here a k)
      newest_too ih (inr k) =
          let s = any_in (λ v. member v a) (map (spoken own older l) b.includes) k in
          let i = map_in (spoken own older l) b.includes s.1 in
          or_right (member (own b m) a) _
          (in_any (λ v. member v a) (in_map (spoken own older m) i.1) (ih i.0 (ap (λ (v : AuthoritySet). member v a) i.2 ∙ s.2)))

      split : (t : Bool) → ((i : BlockReference) → member (spoken own older l i) a ≡ true → member (spoken own older m i) a ≡ true)
          → member (pick t (united (own b l) (unions (map (spoken own older l) b.includes))) (spoken own older l r)) a ≡ true
          → member (pick t (united (own b m) (unions (map (spoken own older m) b.includes))) (spoken own older m r)) a ≡ true
      split true ih k = together b older m a ∙ newest_too ih (or_cases (member (own b l) a) _ (sym (together b older l a) ∙ k))
      split false ih k = ih r k

  -- where no block speaks, nobody is heard
  pub spoken_nobody : (l : TransactionLocator) (bs : List Block) → ((d : Block) → d ∈ bs → own d l ≡ nobody) → (r : BlockReference) → spoken own bs l r ≡ nobody
  unfolding spoken unions united
  spoken_nobody l [] f r = refl
  spoken_nobody l (b ∷ older) f r = rw (f b here) (split (same_reference b.reference r) (spoken_nobody l older (λ d m. f d (there m))))
    where
      none_of : (is : List BlockReference) → ((i : BlockReference) → spoken own older l i ≡ nobody) → unions (map (spoken own older l) is) ≡ nobody
      none_of [] g = refl
      none_of (i ∷ is) g = rw (g i, none_of is g)

      split : (t : Bool) → ((i : BlockReference) → spoken own older l i ≡ nobody) → pick t (united nobody (unions (map (spoken own older l) b.includes)))
          (spoken own older l r) ≡ nobody
      split true g = rw (none_of b.includes g)
      split false g = g r

-- one more set
pub unions_more : (vs : List AuthoritySet) (v : AuthoritySet) → unions (vs ++ (v ∷ [])) ≡ united (unions vs) v
unfolding unions
unions_more [] v = united_nobody v ∙ sym (nobody_united v)
unions_more (x ∷ vs) v = ap (united x) (unions_more vs v) ∙ sym (united_assoc x (unions vs) v)
