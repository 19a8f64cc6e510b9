-- A certificate and finality, shown by hand. Assumes nothing.
use Prim.Native.Nat.{ℕ}
use mathlib.Core.Path.{◌≡◌, refl}
use mathlib.Core.List.{[], ◌∷◌}
use native.Mathlib.Omega.{arith}
use lib.Dec.{lit<}
use Rattle.base.specs.Lists.{◌∈◌, here, there, Once, empty, also}
use Rattle.committee.specs.Committee.{AuthorityIndex}
use Rattle.committee.specs.Quorum.{HoldQuorum}
use Rattle.final_spec.specs.Ancestry.{itself, included, by_share, by_vote, by_accept, Voter, Certificate, Final}
use Rattle.final_spec.specs.ByHand.{the, shared, voted, top, stored, two, ByHand}
use Rattle.final_spec.proofs.Computing.{computing}

second : (a : ℕ) → top a ∈ stored → (o : AuthorityIndex) → o ∈ (1 ∷ []) → Voter stored (top a) the o
second a h o (there x4) = elim x4 [ ]
second a h o here =
    record { voting = voted; ancestor = included h here (itself (there (there here))); votes = by_vote (by_accept here); authored = refl }

both : (a : ℕ) → top a ∈ stored → (o : AuthorityIndex) → o ∈ (0 ∷ 1 ∷ []) → Voter stored (top a) the o
unfolding computing
both a h o here =
    record {
      voting = shared;
      ancestor = included h here (included (there (there here)) here (itself (there (there (there here)))));
      votes = by_share refl refl;
      authored = refl;
    }
both a h o (there m) = second a h o m

not_in : (o : AuthorityIndex) → ◌∈◌ {A = AuthorityIndex} o [] → ⊥
not_in o m = elim m [ ]

not_one : (o : AuthorityIndex) → o ≡ 0 → o ∈ (1 ∷ []) → ⊥
not_one o e here = let z : ◌≡◌ {A = ℕ} 1 0 = e in absurd (omega arith)
not_one o e (there m) = not_in o m

once : Once {A = AuthorityIndex} (0 ∷ 1 ∷ [])
once = also (not_one 0 refl) (also (not_in 1) empty)

voters : (a : ℕ) → top a ∈ stored → HoldQuorum two (Voter stored (top a) the)
unfolding computing
voters a h = record { owners = 0 ∷ 1 ∷ []; once = once; in_set = both a h; quorum = lit< tt }

certificate : (a : ℕ) → top a ∈ stored → Certificate two stored the a
certificate a h = record { block = top a; stored = h; unmarked = refl; quorum = voters a h; authored = refl }

certificates : (o : AuthorityIndex) → o ∈ (0 ∷ 1 ∷ []) → Certificate two stored the o
certificates o here = certificate 0 (there here)
certificates o (there m) = last o m
  where
    last : (o : AuthorityIndex) → o ∈ (1 ∷ []) → Certificate two stored the o
    last o (there x6) = elim x6 [ ]
    last o here = certificate 1 here

final : Final two stored the
unfolding computing
final = record { owners = 0 ∷ 1 ∷ []; once = once; in_set = certificates; quorum = lit< tt }

pub by_hand_lem : ByHand
by_hand_lem = record { certificate = certificate 0 (there here); final = final }
