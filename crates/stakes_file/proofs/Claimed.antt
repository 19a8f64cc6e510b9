-- The claims about loading. Assumes nothing.
use mathlib.Core.Path.{◌≡◌, refl, sym, ap, ◌∙◌, subst}
use mathlib.Core.Bool.{Bool, true, false}
use mathlib.Core.List.{List, [], ◌∷◌, map}
use mathlib.Core.Option.{Option, none, some}
use Prim.Native.Nat.{ℕ}
use native.Mathlib.Omega.{arith}
use Rattle.base.specs.Lists.{is_empty, ◌∈◌, here, there}
use Rattle.base.specs.Checks.{passes, checked, refused, answered}
use Rattle.base.specs.Le.{Bytes, le_at, le_number}
use Rattle.base.proofs.Tests.{not_both}
use Rattle.committee.proofs.Computing.{computing}
use Rattle.committee.specs.Committee.{Committee, committee_checks, broken, course_committee}
use Rattle.stakes_chain.specs.Layout.{place}
use Rattle.stakes_chain.specs.Chain.{Chained, chain_of}
use Rattle.stakes_chain.proofs.Chains.{chain_found, off_chain_lem, part_same}
use Rattle.stakes_names.specs.Names.{name_at, good_names, WellNamed}
use Rattle.stakes_names.proofs.Names.{names_meant}
use Rattle.base.proofs.Checks.{refused_answered, checked_answered}
use Rattle.stakes_file.specs.Load.{stake_at, members_at, member_checks, load_along, load}
use Rattle.stakes_file.specs.Claims.{Loaded, LoadedMeant, NeverBroken, EmptyFile, BrokenChain, BadNames, ThenCommittee, OffChain, Claims}
use Rattle.stakes_file.proofs.Loaded.{refused_same, passes_sound, sound_passes, checked_passes, small_refusal, load_empty, load_broken, load_chained}
use Rattle.stakes_file.proofs.Loaded.{along_bad, along_good}

-- the names of a chain are good or not, and loading goes on or not
data Names (f : Bytes) (is : List ℕ) : Type 0 where
  bad : (WellNamed f is → ⊥) → load f ≡ refused 57 → Names f is
  good : WellNamed f is → load f ≡ checked (committee_checks (members_at f is)) (members_at f is) → Names f is

names_of : (f : Bytes) (is : List ℕ) → Chained f is → Names f is
names_of f is k = go (good_names (map (name_at f) is)) refl
  where
    go : (t : Bool) → good_names (map (name_at f) is) ≡ t → Names f is
    go true e = good ((names_meant f is k.once).0 e) (load_chained f is k ∙ along_good f is e)
    go false e = bad (λ w. not_both ((names_meant f is k.once).1 w) e) (load_chained f is k ∙ along_bad f is e)

broken_chain_lem : BrokenChain
unfolding BrokenChain
broken_chain_lem f h = (λ e is k. there e is (names_of f is k), λ g. back g (chain_of f) refl)
  where
    there : load f ≡ refused 56 → (is : List ℕ) → Names f is → ⊥
    there e is (bad w d) = let q : ◌≡◌ {A = ℕ} 56 57 = refused_same (sym e ∙ d) in omega arith
    there e is (good w d) = small_refusal (members_at f is) (members_at f is) 56 (omega arith) (sym d ∙ e)

    back : ((is : List ℕ) → Chained f is → ⊥) → (o : Option (List ℕ)) → chain_of f ≡ o → load f ≡ refused 56
    back g none e = load_broken f h e
    back g (some is) e = absurd (g is (chain_found f is e))

bad_names_lem : BadNames
unfolding BadNames
bad_names_lem f is k = (λ e. there e (names_of f is k), λ g. back g (names_of f is k))
  where
    there : load f ≡ refused 57 → Names f is → WellNamed f is → ⊥
    there e (bad w d) = w
    there e (good w d) = absurd (small_refusal (members_at f is) (members_at f is) 57 (omega arith) (sym d ∙ e))

    back : (WellNamed f is → ⊥) → Names f is → load f ≡ refused 57
    back g (bad w d) = d
    back g (good w d) = absurd (g w)

then_committee_lem : ThenCommittee
unfolding ThenCommittee
then_committee_lem f is k h = go (names_of f is k)
  where
    go : Names f is → load f ≡ checked (committee_checks (members_at f is)) (members_at f is)
    go (bad w d) = absurd (w h)
    go (good w d) = d

loaded_meant : LoadedMeant
unfolding LoadedMeant
loaded_meant f h c = (λ e. there e (chain_of f) refl, λ l. back l (names_of f l.indexes l.chained))
  where
    members_of : load f ≡ answered c → (is : List ℕ) → Chained f is → Names f is → Loaded f c
    members_of e is k (bad w d) = absurd (refused_answered d e)
    members_of e is k (good w d) =
        let p = checked_answered (committee_checks (members_at f is)) (members_at f is) c (sym d ∙ e) in
        record {
          indexes = is;
          chained = k;
          members = sym p.1;
          named = w;
          sound = subst (λ (m : Committee). broken m ≡ false) p.1 (passes_sound (members_at f is) p.0);
        }

    there : load f ≡ answered c → (o : Option (List ℕ)) → chain_of f ≡ o → Loaded f c
    there e none d = absurd (refused_answered (load_broken f h d) e)
    there e (some is) d = members_of e is (chain_found f is d) (names_of f is (chain_found f is d))

    back : (l : Loaded f c) → Names f l.indexes → load f ≡ answered c
    back l (bad w d) = absurd (w l.named)
    back l (good w d) =
        let m = members_at f l.indexes in
        let s : passes (committee_checks m) ≡ true = sound_passes m (subst (λ (n : Committee). broken n ≡ false) l.members l.sound) in
        d ∙ checked_passes (committee_checks m) m s ∙ ap answered (sym l.members)

course_sound : broken course_committee ≡ false
unfolding computing
course_sound = refl

pub load_sound : (f : Bytes) (c : Committee) → load f ≡ answered c → broken c ≡ false
load_sound f c e = go (is_empty f) refl
  where
    go : (t : Bool) → is_empty f ≡ t → broken c ≡ false
    go true h = let q = sym (load_empty f h) ∙ e in let s : course_committee ≡ c = cc in rw (← s) course_sound
    go false h = let l : Loaded f c = unfold LoadedMeant in (loaded_meant f h c).0 e in l.sound

empty_file_lem : EmptyFile
unfolding EmptyFile is_empty
empty_file_lem = load_empty [] refl

-- ---- records off the chain

map_same : {B : Type 0} (s t : ℕ → B) (is : List ℕ) → ((i : ℕ) → i ∈ is → s i ≡ t i) → map s is ≡ map t is
map_same s t [] f = refl
map_same s t (i ∷ is) f = rw (f i here, map_same s t is (λ j m. f j (there m)))

along_same : (f g : Bytes) (is : List ℕ) → map (name_at f) is ≡ map (name_at g) is → map (stake_at f) is ≡ map (stake_at g) is → load_along f (some is)
    ≡ load_along
    g (some is)
unfolding load_along member_checks members_at
along_same f g is n s = rw (n, s)

load_off_chain : OffChain
unfolding OffChain
load_off_chain f g is k a = load_chained f is k ∙ along_same f g is names stakes ∙ sym (load_chained g is (off_chain_lem f g is k a))
  where
    names : map (name_at f) is ≡ map (name_at g) is
    names = unfold name_at in map_same _ _ is (λ i m. part_same f g 16 2 (place i) (omega arith) (a.records i m))

    stakes : map (stake_at f) is ≡ map (stake_at g) is
    stakes = unfold stake_at le_at in map_same _ _ is (λ i m. ap le_number (part_same f g 8 18 (place i) (omega arith) (a.records i m)))

pub claimed : Claims
claimed =
    record {
      loaded = loaded_meant;
      never_broken = unfold NeverBroken in load_sound;
      empty_file = empty_file_lem;
      broken_chain = broken_chain_lem;
      bad_names = bad_names_lem;
      then_committee = then_committee_lem;
      off_chain = load_off_chain;
    }
