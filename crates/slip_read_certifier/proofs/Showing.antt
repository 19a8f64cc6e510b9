-- A certifier, with what its voters show. Assumes nothing.
use mathlib.Core.Path.{◌≡◌, refl, ◌∙◌}
use mathlib.Core.Bool.{Bool, false}
use mathlib.Core.List.{List}
use mathlib.Core.Option.{Option}
use Prim.Native.Nat.{ℕ, ◌+◌, ◌≤◌}
use lib.ListN.{length, get_or}
use Rattle.base.specs.Lists.{pick}
use Rattle.base.specs.Le.{Bytes}
use Rattle.committee.specs.Committee.{Committee, broken, is_quorum}
use Rattle.committee_set.specs.AuthoritySet.{AuthoritySet, stake_of}
use Rattle.record_spec.specs.Reference.{TransactionLocator}
use Rattle.record_spec.specs.Block.{Block}
use Rattle.final_readings_spec.specs.Readings.{Reading}
use Rattle.record_reference_bytes.specs.Step.{reference_at}
use Rattle.slip_spec.specs.Supplied.{supplied_blocks}
use Rattle.slip_spec.specs.Paths.{named, to_block, on_from}
use Rattle.slip_read_records.specs.Places.{Places}
use Rattle.slip_read_paths.specs.declared.Led as code
use Rattle.slip_read_verdicts.specs.Verdict.{worse}
use Rattle.slip_read_paths.specs.Walk.{LedTo}
use Rattle.slip_read_ancestry.specs.Lacking.{Right}
use Rattle.slip_read_voters.specs.Step as voters
use Rattle.slip_read_certifier.specs.Verdict.{own_verdict, certifier_verdict}
use Rattle.slip_read_certifier.specs.Step.{Stands, Known, ReadOne}
use Rattle.slip_read_certifier.proofs.Joining.{quorum_same, shown_of, certifier_found, certifier_quorum}
use Rattle.slip_read_certifier.proofs.Certifying.{certifier_reads}

-- ---- one certifier, with what its voters and its ancestry show

module _ (c : Committee) (s : Bytes) (p : ℕ) (q : Bytes) (order votes lacking rejecting : List ℕ) (certifier : code.Led) (end : ℕ) (authors : AuthoritySet)
    (shown own standing : ℕ)
    (sound : broken c ≡ false) (fit : Right q) (places : Places q (supplied_blocks q) order)
    (h : p + 49 ≤ length s) (r : voters.Read s (p + 49) (get_or s (p + 48) 0) q order votes certifier end authors shown)
    (led : LedTo q order certifier (on_from to_block (named (supplied_blocks q) (reference_at s p))))
    (alone : (o : Option Block) → LedTo q order certifier (on_from to_block o) → own ≡ own_verdict o)
    (stands : Stands lacking rejecting certifier authors standing) where
  abbrev given : Option Block
  given = named (supplied_blocks q) (reference_at s p)

  reads_one : (v : ℕ)
      → ((reading : Reading) (l : TransactionLocator) → Known reading q order l votes lacking rejecting → v ≡ certifier_verdict reading c (supplied_blocks q) l
      r.voters given)
      → ReadOne c s p q order votes lacking rejecting end v
  reads_one v f =
      record {
        certifier = record { reference = reference_at s p; voters = r.voters };
        reads = certifier_reads s p h r.voters end r.reads r.ascend;
        long = h;
        inside = r.inside;
        named_by = refl;
        shows = f;
      }

  shown_with : (reading : Reading) (l : TransactionLocator) → Known reading q order l votes lacking rejecting
      → worse (worse own shown) standing ≡ shown_of reading c (supplied_blocks q) l r.voters given
  unfolding Stands
  shown_with reading l m =
      rw (alone given led, r.shows l m.noted given led, stands reading q order l r.voters given fit places m.lacks m.rejects r.speak led)

  pub one_found : (v : ℕ) → v ≡ worse (worse own shown) standing → (v ≡ 0 → ⊥) → ReadOne c s p q order votes lacking rejecting end v
  one_found v e f = reads_one v (λ reading l m. certifier_found reading c (supplied_blocks q) l r.voters given v (e ∙ shown_with reading l m) f)

  pub one_quorum : (v : ℕ) (t : Bool) → v ≡ worse (worse own shown) standing → v ≡ 0 → t ≡ is_quorum c (stake_of c authors) → ReadOne c s p q order votes
      lacking rejecting end (pick t 0 1)
  one_quorum v t e z f =
      reads_one (pick t 0 1)
      (λ reading l m. certifier_quorum reading c (supplied_blocks q) l r.voters given v t (e ∙ shown_with reading l m) z
      (f ∙ quorum_same c authors _ sound r.speak))
