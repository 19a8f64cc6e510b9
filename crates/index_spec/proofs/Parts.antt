-- The computed part of a block names its voters, in the longest stretches. Assumes nothing.
use mathlib.Core.Path.{◌≡◌, refl, ap, ◌∙◌}
use mathlib.Core.Bool.{Bool, true, false, ◌||◌}
use mathlib.Core.List.{List, [], ◌∷◌, ◌++◌, map, flatten}
use Rattle.base.specs.Lists.{pick, any_of}
use Rattle.committee_set.specs.AuthoritySet.{AuthoritySet, nobody, inserted, united}
use Rattle.committee_set.proofs.Words.{united_nobody, nobody_united}
use Rattle.record_spec.specs.Reference.{BlockReference, TransactionLocator, TransactionLocatorRange, new_range, same_reference, covers}
use Rattle.record_spec.specs.Block.{Block, author, spans}
use Rattle.final_spec.specs.Voters.{votes_for, own_vote, unions, spoken, voters}
use Rattle.index_spec.specs.Runs.{Run, run, run_covers, votes_at, voters_in, stretched}
use Rattle.index_spec.specs.Part.{RunsOf, own_run, own_runs, part_from, part_in}
use Rattle.index_spec.proofs.Sets.{united_self}
use Rattle.index_spec.specs.Walk.{anywhere}
use Rattle.index_spec.proofs.Chain.{end}
use Rattle.index_spec.proofs.Relation.{chain_runs}
use Rattle.index_spec.proofs.Pointwise.{append_names}
use Rattle.index_spec.proofs.Ascending.{stretched_names, stretched_runs}

-- the runs of a block's own votes name its author where it votes
own_names : (b : Block) (l : TransactionLocator) (qs : List TransactionLocatorRange)
    → voters_in (map (own_run b) qs) l ≡ pick (any_of (λ q. covers q l) qs) (inserted nobody (author b)) nobody
unfolding voters_in votes_at run_covers own_run run new_range any_of
own_names b l [] = refl
own_names b l (q ∷ qs) = ap (united (votes_at (own_run b q) l)) (own_names b l qs) ∙ go (covers q l) (any_of (λ r. covers r l) qs)
  where
    go : (s t : Bool) → united (pick s (inserted nobody (author b)) nobody) (pick t (inserted nobody (author b)) nobody) ≡ pick (s || t)
        (inserted nobody (author b)) nobody
    go true true = united_self (inserted nobody (author b))
    go true false = united_nobody (inserted nobody (author b))
    go false t = nobody_united (pick t (inserted nobody (author b)) nobody)

pub own_runs_lem : (b : Block) (l : TransactionLocator) → voters_in (own_runs b) l ≡ own_vote b l
unfolding own_runs own_vote votes_for
own_runs_lem b l = own_names b l (spans b)

-- the parts of the includes name whom the includes' voters are
includes_name : (f : BlockReference → List Run) (g : BlockReference → AuthoritySet) (l : TransactionLocator) → ((r : BlockReference) → voters_in (f r) l ≡ g r)
    → (is : List BlockReference) → voters_in (flatten (map f is)) l ≡ unions (map g is)
unfolding voters_in unions flatten
includes_name f g l h [] = refl
includes_name f g l h (i ∷ is) =
    append_names (f i) (flatten (map f is)) l
    ∙ ap (λ (v : AuthoritySet). united v (voters_in (flatten (map f is)) l)) (h i)
    ∙ ap (united (g i)) (includes_name f g l h is)

pub from_names : (b : Block) (f : BlockReference → List Run) (g : BlockReference → AuthoritySet) (l : TransactionLocator) →
    ((r : BlockReference) → voters_in (f r) l ≡ g r)
    → voters_in (own_runs b ++ flatten (map f b.includes)) l ≡ united (own_vote b l) (unions (map g b.includes))
from_names b f g l h =
    append_names (own_runs b) (flatten (map f b.includes)) l
    ∙ ap (λ (v : AuthoritySet). united v (voters_in (flatten (map f b.includes)) l)) (own_runs_lem b l)
    ∙ ap (united (own_vote b l)) (includes_name f g l h b.includes)

-- a part names the voters
pub part_names : (bs : List Block) (l : TransactionLocator) (r : BlockReference) → voters_in (part_in bs r) l ≡ voters bs l r
unfolding part_in part_from spoken voters_in
part_names [] l r = refl
part_names (b ∷ older) l r = go (same_reference b.reference r) (part_names older l)
  where
    go : (t : Bool) → ((q : BlockReference) → voters_in (part_in older q) l ≡ voters older l q)
        → voters_in (pick t (stretched (own_runs b ++ flatten (map (part_in older) b.includes))) (part_in older r)) l
        ≡ pick t (united (own_vote b l) (unions (map (voters older l) b.includes))) (voters older l r)
    go true ih = stretched_names (own_runs b ++ flatten (map (part_in older) b.includes)) l ∙ from_names b (part_in older) (voters older l) l ih
    go false ih = ih r

-- and is its runs, as 02 says
pub part_runs : (bs : List Block) (r : BlockReference) → RunsOf (λ l. voters bs l r) (part_in bs r)
unfolding part_in part_from spoken voters_in
part_runs [] r = chain_runs {p = anywhere} (λ l. nobody) [] end (λ l. refl)
part_runs (b ∷ older) r = go (same_reference b.reference r) (part_runs older r)
  where
    go : (t : Bool) → RunsOf (λ l. voters older l r) (part_in older r)
        → RunsOf (λ l. pick t (united (own_vote b l) (unions (map (voters older l) b.includes))) (voters older l r))
        (pick t (stretched (own_runs b ++ flatten (map (part_in older) b.includes))) (part_in older r))
    go true ih = stretched_runs (λ l. united (own_vote b l) (unions (map (voters older l) b.includes)))
        (own_runs b ++ flatten (map (part_in older) b.includes))
        (λ l. from_names b (part_in older) (voters older l) l (part_names older l))
    go false ih = ih
