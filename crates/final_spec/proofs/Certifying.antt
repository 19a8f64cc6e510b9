-- The certifying blocks of the finality question: in ascending reference order, each of them once. Assumes nothing.
use mathlib.Core.Path.{◌≡◌, refl, sym, ap, ◌∙◌}
use mathlib.Core.Bool.{Bool, true, false}
use mathlib.Core.List.{List, [], ◌∷◌}
use Prim.Native.Nat.{suc}
use lib.ListN.{length, length-map}
use Rattle.base.specs.Lists.{pick, keep, ◌∈◌}
use Rattle.base.specs.Le.{Bytes}
use Rattle.base.proofs.Lists.{pairs_keep, pairs_pairwise}
use Rattle.base.proofs.Members.{in_keep, keep_in}
use Rattle.committee.specs.Committee.{Committee}
use Rattle.record_spec.specs.Reference.{TransactionLocator, reference_before}
use Rattle.record_spec.specs.Block.{Block}
use Rattle.store_spec.specs.Layout.{Record, Entry, reference_of, used_by, entries, placed, ascending}
use Rattle.store_spec.specs.Store.{records_of, store_in_order}
use Rattle.store_spec.proofs.Store.{in_order_lem}
use Rattle.store_spec.proofs.Chain.{Ascending, ascending_every, ascending_ascends, distinct}
use Rattle.store_spec.proofs.Accepted.{blocks}
use Rattle.store_spec.proofs.Lookups.{entry_block}
use Rattle.store_spec.proofs.Visit.{ascending_in, in_ascending}
use Rattle.final_spec.specs.Voters.{certifies, certifiers}
use Rattle.final_spec.specs.Finality.{blocks_of, certifying_positions}
use Rattle.final_spec.specs.Claims.{CertifyingEntry, CertifyingMeant}
use Rattle.final_spec.proofs.Finals.{certifies_true, true_certifies}
use Rattle.final_spec.proofs.Asked.{in_order_stored}

-- the certifying blocks of a store in order, in ascending reference order
certifying_ascends : (c : Committee) (s : Bytes) (l : TransactionLocator) → store_in_order c s ≡ true
    → Ascending (keep (λ e. certifies c (blocks_of s) l e.block) (ascending (entries (records_of s))))
certifying_ascends c s l h =
    pairs_keep (λ e. certifies c (blocks_of s) l e.block) (ascending (entries (records_of s)))
    (ascending_ascends (entries (records_of s)) (distinct c (records_of s) (in_order_lem c s h).accepted))

-- 01: "the number of certifying blocks": as many positions as certifiers
placed_count : (p : Entry → Bool) (e : Entry) (ds : List Entry) → length (keep p (placed e ds)) ≡ length (keep p (e ∷ ds))
unfolding placed keep
placed_count p e [] = refl
placed_count p e (d ∷ ds) = split (reference_before (reference_of e) (reference_of d)) (p d) (p e) refl refl (placed_count p e ds)
  where
    split : (t u v : Bool) → p d ≡ u → p e ≡ v → length (keep p (placed e ds)) ≡ length (pick v (e ∷ keep p ds) (keep p ds))
        → length (keep p (pick t (e ∷ d ∷ ds) (d ∷ placed e ds))) ≡ length
        (pick v (e ∷ pick u (d ∷ keep p ds) (keep p ds)) (pick u (d ∷ keep p ds) (keep p ds)))
    split true u v a b ih = rw (a, b)
    split false true true a b ih = rw a (ap suc ih)
    split false true false a b ih = rw a (ap suc ih)
    split false false v a b ih = rw a ih

pub ascending_count : (p : Entry → Bool) (es : List Entry) → length (keep p (ascending es)) ≡ length (keep p es)
unfolding ascending keep
ascending_count p [] = refl
ascending_count p (e ∷ es) = placed_count p e (ascending es) ∙ split (p e) (ascending_count p es)
  where
    split : (t : Bool) → length (keep p (ascending es)) ≡ length (keep p es) → length (pick t (e ∷ keep p (ascending es)) (keep p (ascending es))) ≡ length
        (pick t (e ∷ keep p es) (keep p es))
    split true ih = ap suc ih
    split false ih = ih

pub entries_count : (p : Block → Bool) (rs : List Record) → length (keep (λ e. p e.block) (entries rs)) ≡ length (keep p (blocks rs))
unfolding entries keep
entries_count p [] = refl
entries_count p (r ∷ rs) = split (p r.block) (entries_count p rs)
  where
    split : (t : Bool) → length (keep (λ e. p e.block) (entries rs)) ≡ length (keep p (blocks rs))
        → length (pick t (record { position = used_by rs; bytes = r.bytes; block = r.block } ∷ keep (λ e. p e.block) (entries rs))
        (keep (λ e. p e.block) (entries rs))) ≡ length (pick t (r.block ∷ keep p (blocks rs)) (keep p (blocks rs)))
    split true ih = ap suc ih
    split false ih = ih

certifying_count : (c : Committee) (s : Bytes) (l : TransactionLocator) → length (certifying_positions c s l) ≡ length (certifiers c (blocks_of s) l)
unfolding certifying_positions certifiers blocks_of
certifying_count c s l =
    let p : (Entry → Bool) = λ e. certifies c (blocks_of s) l e.block in
    length-map (keep p (ascending (entries (records_of s)))) (λ e. e.position) ∙ ascending_count p (entries (records_of s)) ∙ entries_count
    (certifies c (blocks_of s) l) (records_of s)

pub certifying_meant : (c : Committee) (s : Bytes) (l : TransactionLocator) → store_in_order c s ≡ true → CertifyingMeant c s l
unfolding certifying_positions
certifying_meant c s l h =
    record {
      found = found;
      positions = refl;
      exactly = λ e. (named e, names e);
      ascending = pairs_pairwise (λ e d. reference_before (reference_of e) (reference_of d)) found (certifying_ascends c s l h);
      many = sym (length-map found (λ e. e.position)) ∙ certifying_count c s l;
    }
  where
    found : List Entry
    found = keep (λ e. certifies c (blocks_of s) l e.block) (ascending (entries (records_of s)))

    test : Entry → Bool
    test e = certifies c (blocks_of s) l e.block

    named : (e : Entry) → e ∈ found → CertifyingEntry c s l e
    named e m =
        let k = keep_in test (ascending (entries (records_of s))) m in
        let stands : e ∈ entries (records_of s) = ascending_in (entries (records_of s)) e k.0 in
        let x = certifies_true c (in_order_stored c s h) l e.block (unfold blocks_of in entry_block (records_of s) e stands) k.1 in
        record { stored = stands; unmarked = x.0; quorum = x.1 }

    names : (e : Entry) → CertifyingEntry c s l e → e ∈ found
    names e x =
        in_keep test (ascending (entries (records_of s))) (in_ascending (entries (records_of s)) e x.stored)
        (true_certifies c (in_order_stored c s h) l e.block (unfold blocks_of in entry_block (records_of s) e x.stored) x.unmarked x.quorum)
