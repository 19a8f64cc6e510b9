-- One set of voters within another, and unions of equal content. Assumes nothing.
use mathlib.Core.Path.{◌≡◌, sym, ap, ◌∙◌}
use mathlib.Core.List.{List, [], ◌∷◌}
use lib.Bits.{or_comm, or_self}
use Rattle.base.specs.Lists.{◌∈◌, here, there}
use Rattle.committee_set.specs.AuthoritySet.{AuthoritySet, nobody, united}
use Rattle.committee_set.proofs.Words.{united_assoc, united_nobody}
use Rattle.final_spec.specs.Voters.{unions}

abbrev pub Within : AuthoritySet → AuthoritySet → Type 0
Within v w = united w v ≡ w

united_comm : (v w : AuthoritySet) → united v w ≡ united w v
unfolding united
united_comm v w =
    let e = or_comm v.low w.low in
    let f = or_comm v.high w.high in
    λ i. record { low = e i; high = f i }

united_self : (v : AuthoritySet) → united v v ≡ v
unfolding united
united_self v =
    let e = or_self v.low in
    let f = or_self v.high in
    λ i. record { low = e i; high = f i }

pub within_nobody : (w : AuthoritySet) → Within nobody w
within_nobody w = united_nobody w

pub within_right : (v w : AuthoritySet) → Within w (united v w)
within_right v w = united_assoc v w w ∙ ap (united v) (united_self w)

pub within_left : (v w : AuthoritySet) → Within v (united v w)
within_left v w = rw (united_comm v w) (within_right w v)

pub within_trans : (u v w : AuthoritySet) → Within u v → Within v w → Within u w
within_trans u v w h k = ap (λ (x : AuthoritySet). united x u) (sym k) ∙ united_assoc w v u ∙ ap (united w) h ∙ k

pub within_both : (u v w : AuthoritySet) → Within u w → Within v w → Within (united u v) w
within_both u v w h k = sym (united_assoc w u v) ∙ ap (λ (x : AuthoritySet). united x v) h ∙ k

-- each within the other: the same
pub within_same : (v w : AuthoritySet) → Within v w → Within w v → v ≡ w
within_same v w h k = sym k ∙ united_comm v w ∙ h

-- the union of a list has each of them within it, and is within each set that has
pub in_unions : {v : AuthoritySet} (vs : List AuthoritySet) → v ∈ vs → Within v (unions vs)
unfolding unions
in_unions {v = v} [] x' = elim x' [ ]
in_unions {v} (x ∷ vs) here = within_left v (unions vs)
in_unions {v} (x ∷ vs) (there m) = within_trans v (unions vs) (united x (unions vs)) (in_unions vs m) (within_right x (unions vs))

pub unions_in : (vs : List AuthoritySet) (w : AuthoritySet) → ((v : AuthoritySet) → v ∈ vs → Within v w) → Within (unions vs) w
unfolding unions
unions_in [] w f = within_nobody w
unions_in (x ∷ vs) w f = within_both x (unions vs) w (f x here) (unions_in vs w (λ v m. f v (there m)))
