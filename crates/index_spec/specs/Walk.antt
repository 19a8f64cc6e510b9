-- Machinery for the contracts of private functions: places, and the runs of a block found one after the other. Assumes nothing: these are definitions.
use Rattle.std.specs.Prelude.{ℕ, zero, suc, ◌+◌, ◌≤◌, ◌≡◌, true, List, [], ◌∷◌, ◌++◌, get_or, drop}
use Rattle.base.specs.Le.{Bytes, le_bytes}
use Rattle.committee_set.specs.AuthoritySet.{AuthoritySet, nobody}
use Rattle.record_spec.specs.Reference.{BlockReference, TransactionLocator, locator, reference_before}
use Rattle.index_spec.specs.Runs.{Run}
use Rattle.index_spec.specs.Part.{Stretch}

-- the place r, o is at or past the place q, e
pub data Past (q : BlockReference) (e : ℕ) (r : BlockReference) (o : ℕ) : Type 0 where
  by_block : reference_before q r ≡ true → Past q e r o
  by_offset : q ≡ r → e ≤ o → Past q e r o

-- where runs may begin: anywhere, or at or past a place
pub data Place : Type 0 where
  anywhere : Place
  beyond : BlockReference → ℕ → Place

abbrev pub At : Place → BlockReference → ℕ → Type 0
At anywhere r o = Unit {0}
At (beyond q e) r o = Past q e r o

-- the first of the longest stretches that begins at a place or past it, where nobody is named before
pub record NextRun (f : TransactionLocator → AuthoritySet) (p : Place) (x : Run) : Type 0 where
  pub there : At p x.reference x.start
  pub stretch : Stretch f x
  pub onward : f (locator x.reference x.end) ≡ x.votes → ⊥
  pub first : (l : TransactionLocator) → At p l.block l.offset → Past l.block (l.offset + 1) x.reference x.start → f l ≡ nobody

-- the runs found one after the other, each from the end of the one before, until nobody is named
pub data Unfolded (f : TransactionLocator → AuthoritySet) : Place → List Run → Type 0 where
  done : {p : Place} → ((l : TransactionLocator) → At p l.block l.offset → f l ≡ nobody) → Unfolded f p []
  more : {p : Place} {x : Run} {xs : List Run} → NextRun f p x → Unfolded f (beyond x.reference x.end) xs → Unfolded f p (x ∷ xs)

-- ---- runs read from words

unfoldable pub digest_of : ℕ → ℕ → ℕ → ℕ → Bytes
digest_of a b c d = le_bytes 8 a ++ (le_bytes 8 b ++ (le_bytes 8 c ++ le_bytes 8 d))

-- the run in the first ten words
unfoldable pub run_from : List ℕ → Run
run_from ws =
    record {
      reference = record {
        authority = get_or ws 0 0;
        round = get_or ws 1 0;
        digest = digest_of (get_or ws 2 0) (get_or ws 3 0) (get_or ws 4 0) (get_or ws 5 0);
      };
      start = get_or ws 6 0;
      end = get_or ws 7 0;
      votes = record { low = get_or ws 8 0; high = get_or ws 9 0 };
    }

-- n runs, one after the other
unfoldable pub runs_from : ℕ → List ℕ → List Run
runs_from zero ws = []
runs_from (suc n) ws = run_from ws ∷ runs_from n (drop 10 ws)

-- the part whose run count stands at p
unfoldable pub part_at : List ℕ → ℕ → List Run
part_at ix p = runs_from (get_or ix p 0) (drop (p + 1) ix)
