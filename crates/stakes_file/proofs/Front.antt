-- Loading with room for every member: what was lent begins with the table. Assumes nothing.
use mathlib.Core.Path.{◌≡◌, refl, sym, ap, ◌∙◌}
use mathlib.Core.Bool.{Bool, true, false}
use mathlib.Core.List.{List, map}
use mathlib.Core.Option.{Option, none, some}
use Prim.Native.Nat.{ℕ, ◌≤◌, ◌<◌}
use native.Mathlib.Decide.{dec_lt}
use native.Mathlib.Omega.{arith}
use lib.Dec.{leb}
use lib.ListN.{length}
use lib.Seq.{sets, sets-eq, take_at}
use borrow.Author.Tests.{le-leb}
use Rattle.base.specs.Lists.{is_empty}
use Rattle.base.specs.Checks.{Answer, refused, answered}
use Rattle.base.specs.Le.{Bytes}
use Rattle.committee.specs.Committee.{Committee}
use Rattle.committee.proofs.Bounds.{few_members}
use Rattle.stakes_chain.specs.Chain.{chain_of}
use Rattle.stakes_names.specs.Names.{name_at, good_names}
use Rattle.base.proofs.Checks.{refused_answered}
use Rattle.stakes_file.specs.Load.{members_at, load_along, load, loaded_into}
use Rattle.stakes_file.specs.Answers.{as_load, stakes_in, members_at_most}
use Rattle.stakes_file.proofs.Loaded.{refused_same, small_refusal, load_empty, load_broken, load_some, along_bad, along_good}
use Rattle.stakes_file.proofs.Claimed.{load_sound}
use Rattle.std.specs.Prelude.{Err, Ok, Result}
use Rattle.base.specs.declared.refusal.Refusal.{Refusal}
use Rattle.base.specs.Refusals.{refusal_number}

-- a table that is loaded has at most 128 members
pub load_few : (f : Bytes) (c : Committee) → load f ≡ answered c → length c ≤ 128
load_few f c e = few_members c (load_sound f c e)

module _ (words out : List ℕ) (r : Result ℕ Refusal) (room : 128 ≤ length words) where
  front : (a : Answer Committee) → ((c : Committee) → a ≡ answered c → length c ≤ 128) → as_load r ≡ (loaded_into a words).answer → out ≡ (loaded_into a words
      ).stakes
      → members_at_most 128 r × (stakes_in r out ≡ a)
  unfolding as_load loaded_into stakes_in
  front (refused k) few h e = told r h
    where
      told : (q : Result ℕ Refusal) → as_load q ≡ refused k → members_at_most 128 q × (stakes_in q out ≡ refused k)
      told (Ok n) g = absurd (refused_answered {x = n} g refl)
      told (Err n) g = let z : refusal_number n ≡ k = cc in (omega arith, ap refused z)
  front (answered c) few h e = told r (rw fits at h) (rw fits at e)
    where
      small : length c ≤ 128
      small = few c refl

      fits : leb (length c) (length words) ≡ true
      fits = le-leb (length c) (length words) (omega (arith, small))

      told : (q : Result ℕ Refusal) → as_load q ≡ answered (length c) → out ≡ sets words 0 c → members_at_most 128 q × (stakes_in q out ≡ answered c)
      told (Ok n) g d =
          let z : n ≡ length c = cc in
          (omega (arith, small), ap answered (rw (d, sets-eq c words 0 (omega (arith, small))) (take_at c _ n (sym z))))
      told (Err n) g d = absurd (refused_answered {n = refusal_number n} refl g)

  pub loaded_front : (f : Bytes) → as_load r ≡ (loaded_into (load f) words).answer → out ≡ (loaded_into (load f) words).stakes
      → members_at_most 128 r × (stakes_in r out ≡ load f)
  loaded_front f h e = front (load f) (load_few f) h e

pub at_most : (m n : ℕ) (r : Result ℕ Refusal) → m ≤ n → members_at_most m r → members_at_most n r
at_most m n (Ok k) l h = omega arith
at_most m n (Err k) l h = omega arith

-- the numbers of loading are at most 57
pub load_most : (f : Bytes) (n : ℕ) → load f ≡ refused n → n ≤ 57
load_most f n e = go (is_empty f) refl
  where
    named : (is : List ℕ) (t : Bool) → good_names (map (name_at f) is) ≡ t → load_along f (some is) ≡ refused n → n ≤ 57
    named is false g d = let z : 57 ≡ n = refused_same (sym (along_bad f is g) ∙ d) in omega arith
    named is true g d = small (dec_lt 4 n)
      where
        small : Dec (4 < n) → n ≤ 57
        small (yes l) = absurd (small_refusal (members_at f is) (members_at f is) n l (sym (along_good f is g) ∙ d))
        small (no l) = omega arith

    chained : is_empty f ≡ false → (o : Option (List ℕ)) → chain_of f ≡ o → n ≤ 57
    chained h none d = let z : 56 ≡ n = refused_same (sym (load_broken f h d) ∙ e) in omega arith
    chained h (some is) d = named is (good_names (map (name_at f) is)) refl (sym (load_some f is h d) ∙ e)

    go : (t : Bool) → is_empty f ≡ t → n ≤ 57
    go true h = absurd (refused_answered e (load_empty f h))
    go false h = chained h (chain_of f) refl

pub members_fit : (m n : ℕ) (r : Result ℕ Refusal) → r ≡ Ok n → members_at_most m r → n ≤ m
members_fit m n r e h = rw e at h
