-- Places that hold ascending stored shares can be looked up by halving. Assumes nothing.
use mathlib.Core.Path.{◌≡◌, refl, sym, ap, subst, ◌∙◌}
use mathlib.Core.Bool.{true}
use mathlib.Core.List.{List, [], ◌∷◌, ◌++◌, map, flatten}
use mathlib.Core.Option.{Option}
use Prim.Native.Nat.{ℕ, zero, suc, ◌+◌, ◌*◌, ◌<◌}
use native.Mathlib.Omega.{arith}
use lib.ListN.{length, get_or, drop, length-append}
use lib.Seq.{get_or-drop}
use Rattle.base.specs.Lists.{◌∈◌, here, there}
use Rattle.base.specs.Le.{Bytes}
use Rattle.committee.specs.Committee.{Committee}
use Rattle.record_spec.specs.Reference.{TransactionLocator, locator_before}
use Rattle.store_spec.specs.Layout.{Entry, entries, position_of, lookup}
use Rattle.store_spec.specs.Store.{records_of, store_in_order}
use Rattle.store_spec.specs.Entry.{is_entry}
use Rattle.store_spec.proofs.Check.{order_laid}
use Rattle.store_spec.proofs.Lookups.{lookup_in}
use Rattle.store_spec.proofs.Loops.{is_entry_lem}
use Rattle.store_spec.proofs.Search.{laid_out_lem}
use Rattle.final_spec.specs.Finality.{blocks_of}
use Rattle.final_spec.proofs.FinalList.{Ascending, and_then}
use Rattle.list_ordinary_spec.specs.Shares.{stored_shares}
use Rattle.load_spec.specs.Question.{place_words, named_by}
use Rattle.load_spec.proofs.Places.{found_entry, read_back, length_places}
use Rattle.load_places.specs.Listed.{place_at, Listed}
use Rattle.load_places.proofs.Halving.{next_place, named_in}

-- the position at a place is one of its shares' entries
position_at : (es : List Entry) (ls : List TransactionLocator) (rest : List ℕ) (i : ℕ) → i < length ls
    → (l : TransactionLocator) × (l ∈ ls) × (get_or (flatten (map (place_words es) ls) ++ rest) (2 * i) 0 ≡ position_of (lookup es l.block))
unfolding flatten place_words
position_at es [] rest i h = absurd (omega arith)
position_at es (l ∷ ls) rest zero h = (l, here, refl)
position_at es (l ∷ ls) rest (suc i) h =
    let x = position_at es ls rest i (omega arith) in
    let ps : List ℕ = flatten (map (place_words es) (l ∷ ls)) ++ rest in
    let two : 2 * suc i ≡ 2 + 2 * i = omega arith in
    (x.0, there x.1, ap (λ (n : ℕ). get_or ps n 0) two ∙ sym (get_or-drop 2 ps (2 * i) 0) ∙ x.2)

named_rises : (s : Bytes) (n : ℕ) (ps : List ℕ) → Ascending (named_by s n ps) → (i j : ℕ) → i < j → j < n → locator_before (place_at s ps i) (place_at s ps j) ≡
    true
unfolding named_by place_at
named_rises s zero ps a i j h k = absurd (omega arith)
named_rises s (suc n) ps a i zero h k = absurd (omega arith)
named_rises s (suc n) ps (and_then f a) zero (suc j) h k =
    f (place_at s ps (suc j)) (subst (λ (l : TransactionLocator). l ∈ named_by s n (drop 2 ps)) (next_place s ps j) (named_in s n (drop 2 ps) j (omega arith)))
named_rises s (suc n) ps (and_then f a) (suc i) (suc j) h k =
    rw (← next_place s ps i, ← next_place s ps j) (named_rises s n (drop 2 ps) a i j (omega arith) (omega arith))

module _ (c : Committee) (s : Bytes) (o : store_in_order c s ≡ true) (ls : List TransactionLocator) (up : Ascending ls)
    (stored : (l : TransactionLocator) → l ∈ ls → l ∈ stored_shares (blocks_of s)) (rest : List ℕ) where
  abbrev held : List ℕ
  held = flatten (map (place_words (entries (records_of s))) ls) ++ rest

  entry_there : (i : ℕ) → i < length ls → is_entry s (get_or held (2 * i) 0) ≡ true
  unfolding position_of
  entry_there i h =
      let x = position_at (entries (records_of s)) ls rest i h in
      let e = found_entry c s o x.0 (stored x.0 x.1) in
      let at : get_or held (2 * i) 0 ≡ e.0.position = x.2 ∙ ap (λ (q : Option Entry). position_of q) e.1 in
      rw at (is_entry_lem s e.0 (laid_out_lem s (order_laid c s o)).tested (lookup_in (entries (records_of s)) x.0.block e.0 e.1).0)

  pub listed_from : Listed s held (length ls)
  listed_from =
      record {
        long = omega (arith, length-append (flatten (map (place_words (entries (records_of s))) ls)) rest, length_places (entries (records_of s)) ls);
        entry = entry_there;
        rises = named_rises s (length ls) held (rw (read_back c s o ls stored rest) up);
      }
