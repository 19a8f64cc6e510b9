-- The claims about records and their orders hold. Assumes nothing.
use mathlib.Core.Path.{◌≡◌, refl, sym}
use Prim.Native.Nat.{ℕ}
use mathlib.Core.Bool.{true}
use mathlib.Core.List.{[], ◌∷◌}
use mathlib.Core.Option.{Option, none, some}
use lib.Dec.{ltb, leb, eqb}
use lib.ListN.{length}
use borrow.Author.Tests.{ltb-true, leb-true, eqb-true}
use Rattle.base.specs.Lists.{all_of}
use Rattle.base.specs.Le.{Bytes}
use Rattle.base.proofs.Tests.{and_left, and_right, fails, not_both}
use Rattle.base.proofs.Lists.{every, all_every}
use Rattle.base.proofs.Le.{AllBytes}
use Rattle.base.proofs.Read.{complete_reads}
use Rattle.record_spec.specs.Reference.{BlockReference, TransactionLocator}
use Rattle.record_spec.specs.Block.{Statement, share, accept, reject, vote_range, Block}
use Rattle.record_spec.specs.Claims.{are_bytes, fits_reference, fits_locator, fits_other, fits_statement, fits_block, fits_time, fits_in, ReadsIn, WritesIn}
use Rattle.record_spec.specs.Claims.{ReadsWhatIsWritten, WritesWhatIsRead, PlacesMeant, Claims}
use Rattle.record_spec.specs.Record.{Edition, old, timed, Timed, read_in, bytes_in, edition_for}
use Rattle.record_spec.proofs.References.{reference_irrefl, reference_trans, reference_total, locator_irrefl, locator_trans, locator_total}
use Rattle.record_spec.proofs.Runs.{shared_cover}
use Rattle.record_spec.proofs.Records.{ReferenceFits, LocatorFits, OtherFits, StatementFits, BlockFits, TimeFits, InFits, in_reads, read_back}
use Rattle.record_spec.proofs.Records.{timed_of_timed_bytes, timed_back}
use Rattle.record_spec.proofs.Places.{stands_in}

-- ---- the tests of the claims say what the laws ask

pub bytes_fit : (s : Bytes) → are_bytes s ≡ true → AllBytes s
unfolding are_bytes all_of
bytes_fit [] h = tt
bytes_fit (x ∷ s) h = (ltb-true x 256 (and_left (ltb x 256) _ h), bytes_fit s (and_right (ltb x 256) _ h))

pub reference_fits : (r : BlockReference) → fits_reference r ≡ true → ReferenceFits r
unfolding fits_reference
reference_fits r h =
    let h₁ = and_right (ltb r.authority 18446744073709551616) _ h in
    let h₂ = and_right (ltb r.round 18446744073709551616) _ h₁ in
    record {
      author = ltb-true r.authority 18446744073709551616 (and_left _ _ h);
      round = ltb-true r.round 18446744073709551616 (and_left _ _ h₁);
      size = eqb-true (length r.digest) 32 (and_left _ _ h₂);
      bytes = bytes_fit r.digest (and_right (eqb (length r.digest) 32) _ h₂);
    }

pub locator_fits : (l : TransactionLocator) → fits_locator l ≡ true → LocatorFits l
unfolding fits_locator
locator_fits l h =
    record {
      block = reference_fits l.block (and_left _ _ h);
      offset = ltb-true l.offset 18446744073709551616 (and_right (fits_reference l.block) _ h);
    }

other_fits : (o : Option TransactionLocator) → fits_other o ≡ true → OtherFits o
unfolding fits_other
other_fits none h = tt
other_fits (some l) h = locator_fits l h

statement_fits : (s : Statement) → fits_statement s ≡ true → StatementFits s
unfolding fits_statement
statement_fits (share v) h = (ltb-true (length v) 65536 (and_left _ _ h), bytes_fit v (and_right (ltb (length v) 65536) _ h))
statement_fits (accept l) h = locator_fits l h
statement_fits (reject l o) h = (locator_fits l (and_left _ _ h), other_fits o (and_right (fits_locator l) _ h))
statement_fits (vote_range r) h =
    let k = and_right (fits_reference r.block) _ h in
    record {
      block = reference_fits r.block (and_left _ _ h);
      start = ltb-true r.start 18446744073709551616 (and_left _ _ k);
      end = ltb-true r.end 18446744073709551616 (and_right (ltb r.start 18446744073709551616) _ k);
    }

block_fits : (b : Block) → fits_block b ≡ true → BlockFits b
unfolding fits_block
block_fits b h =
    let h₁ = and_right (fits_reference b.reference) _ h in
    let h₂ = and_right (leb (length b.includes) 256) _ h₁ in
    let h₃ = and_right (all_of fits_reference b.includes) _ h₂ in
    record {
      reference = reference_fits b.reference (and_left _ _ h);
      few_includes = leb-true (length b.includes) 256 (and_left _ _ h₁);
      few_statements = leb-true (length b.statements) 1024 (and_left _ _ h₃);
      includes = every reference_fits b.includes (all_every fits_reference b.includes (and_left _ _ h₂));
      statements = every statement_fits b.statements (all_every fits_statement b.statements (and_right (leb (length b.statements) 1024) _ h₃));
    }

pub time_fits : (e : Edition) (o : Option ℕ) → fits_time e o ≡ true → TimeFits e o
unfolding fits_time
time_fits old none h = tt
time_fits old (some x) h = absurd (not_both h refl)
time_fits timed none h = absurd (not_both h refl)
time_fits timed (some x) h = ltb-true x 18446744073709551616 h

in_fits : (e : Edition) (t : Timed) → fits_in e t ≡ true → InFits e t
unfolding fits_in
in_fits e t h = record { block = block_fits t.block (and_left _ _ h); time = time_fits e t.time (and_right (fits_block t.block) _ h) }

-- ---- the claims

reads_in_lem : ReadsIn
unfolding ReadsIn
reads_in_lem e t h = complete_reads (read_in e) (bytes_in e t) t (in_reads e t (in_fits e t h))

writes_in_lem : WritesIn
unfolding WritesIn
writes_in_lem e r t b h = sym (read_back e r t (bytes_fit r b) h).are

reads_what_is_written : ReadsWhatIsWritten
unfolding ReadsWhatIsWritten
reads_what_is_written t h = timed_of_timed_bytes t (in_fits (edition_for t.time) t h)

writes_what_is_read : WritesWhatIsRead
unfolding WritesWhatIsRead
writes_what_is_read r t h k = sym (timed_back r t (bytes_fit r h) k).are

places_meant : PlacesMeant
unfolding PlacesMeant
places_meant r t b h = stands_in r t (bytes_fit r b) h

pub claimed : Claims
claimed =
    record {
      reads_in = reads_in_lem;
      writes_in = writes_in_lem;
      reads = reads_what_is_written;
      writes = writes_what_is_read;
      places = places_meant;
      references = record { irreflexive = λ r. fails _ (reference_irrefl r); transitive = reference_trans; total = reference_total };
      locators = record { irreflexive = λ l. fails _ (locator_irrefl l); transitive = locator_trans; total = locator_total };
      runs = shared_cover;
    }
