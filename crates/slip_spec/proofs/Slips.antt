-- Slips there and back: what is written is read, and what is read had been written so. Assumes nothing.
use mathlib.Core.Path.{◌≡◌, refl, sym, ◌∙◌}
use mathlib.Core.List.{List, [], ◌∷◌, ◌++◌, map, append_assoc, flatten, append-nil}
use mathlib.Core.Bool.{Bool, true, false}
use mathlib.Core.Option.{some, none-ne-some}
use Prim.Native.Nat.{ℕ, ◌^◌, ◌<◌}
use native.Mathlib.Omega.{arith}
use lib.Dec.{ltb, eqb, lit<}
use lib.ListN.{length}
use borrow.Author.Tests.{ltb-true, eqb-true, eqb-false}
use Rattle.base.specs.Lists.{all_of}
use Rattle.base.specs.Le.{le_bytes}
use Rattle.base.specs.Read.{give, fail, onward, ◌>>=◌, items, number, given, complete}
use Rattle.base.proofs.Tests.{and_left, and_right}
use Rattle.base.proofs.Lists.{Every, every, all_every}
use Rattle.base.proofs.Le.{AllBytes, le_at_byte}
use Rattle.base.proofs.Fixed.{number_at}
use Rattle.base.proofs.Read.{part, items_reads, number_reads, ReadsBack, repeated_reads, complete_reads, Back, give_back, given_back, bind_back, map_back}
use Rattle.base.proofs.Read.{Items, items_back, Number, number_back, One, Many, repeated_back, complete_back}
use Rattle.record_spec.specs.Record.{reference_bytes, locator_bytes}
use Rattle.record_spec.specs.Claims.{fits_reference, fits_locator}
use Rattle.record_spec.proofs.Records.{ReferenceFits, LocatorFits, reference_reads, locator_reads, reference_back, locator_back, byte_reads, one_byte}
use Rattle.record_spec.proofs.Claimed.{bytes_fit, reference_fits, locator_fits}
use Rattle.final_readings_spec.specs.Readings.{Reading, old, withdrawing, reading_of}
use Rattle.slip_spec.specs.Slip.{SlipVoter, SlipCertifier, Slip, voters_ascend, certifiers_ascend, read_voter, read_certifier, read_body, read_first}
use Rattle.slip_spec.specs.Slip.{names_reading, read_slip, voter_bytes, certifier_bytes, reading_byte, slip_bytes, fits_voter, fits_certifier, fits_slip}

-- ---- the limits: what fits a slip

pub record VoterFits (v : SlipVoter) : Type 0 where
  pub author : v.author < 256 ^ 8
  pub short : length v.path < 256 ^ 2
  pub bytes : AllBytes v.path

pub record CertifierFits (k : SlipCertifier) : Type 0 where
  pub reference : ReferenceFits k.reference
  pub few : length k.voters < 256 ^ 1
  pub voters : Every VoterFits k.voters
  pub ascend : voters_ascend k.voters ≡ true

pub record SlipFits (s : Slip) : Type 0 where
  pub locator : LocatorFits s.locator
  pub few : length s.certifiers < 256 ^ 2
  pub certifiers : Every CertifierFits s.certifiers
  pub ascend : certifiers_ascend s.certifiers ≡ true

-- ---- forward

pub voter_reads : (v : SlipVoter) → VoterFits v → ReadsBack read_voter voter_bytes v
unfolding read_voter voter_bytes ◌>>=◌ onward give
voter_reads v h t =
    rw (
      append_assoc (le_bytes 8 v.author) (le_bytes 2 (length v.path) ++ v.path) t,
      number_reads 8 v.author (le_bytes 2 (length v.path) ++ v.path ++ t) h.author,
      append_assoc (le_bytes 2 (length v.path)) v.path t,
      number_reads 2 (length v.path) (v.path ++ t) h.short,
      items_reads (length v.path) v.path t refl,
    )

pub certifier_reads : (k : SlipCertifier) → CertifierFits k → ReadsBack read_certifier certifier_bytes k
unfolding read_certifier certifier_bytes given ◌>>=◌ onward give
certifier_reads k h t =
    let vs : List ℕ = flatten (map voter_bytes k.voters) in
    rw (
      append_assoc (reference_bytes k.reference) (le_bytes 1 (length k.voters) ++ vs) t,
      reference_reads k.reference h.reference (le_bytes 1 (length k.voters) ++ vs ++ t),
      append_assoc (le_bytes 1 (length k.voters)) vs t,
      number_reads 1 (length k.voters) (vs ++ t) h.few,
      repeated_reads read_voter voter_bytes k.voters (every voter_reads k.voters h.voters) t,
      h.ascend,
    )

-- the byte of a reading is a byte, names a reading, and that one
byte_small : (reading : Reading) → reading_byte reading < 256
unfolding reading_byte
byte_small old = lit< tt
byte_small withdrawing = lit< tt

byte_names : (reading : Reading) → ltb (reading_byte reading) 2 ≡ true
unfolding reading_byte
byte_names old = refl
byte_names withdrawing = refl

byte_reading : (reading : Reading) → reading_of (eqb (reading_byte reading) 1) ≡ reading
unfolding reading_byte
byte_reading old = refl
byte_reading withdrawing = refl

-- and of the bytes that name one, it is the one that is read
reading_byte_lem : (first : ℕ) → ltb first 2 ≡ true → first ≡ reading_byte (reading_of (eqb first 1))
unfolding reading_byte
reading_byte_lem first h = go (eqb first 1) refl
  where
    go : (t : Bool) → eqb first 1 ≡ t → first ≡ reading_byte (reading_of t)
    go true e = eqb-true first 1 e
    go false e = let k = ltb-true first 2 h in let n = eqb-false first 1 e in omega (arith, k, n)

-- every slip within the limits is read back from its bytes
pub first_reads : (s : Slip) → SlipFits s → read_first (slip_bytes s) ≡ some (part s [])
unfolding read_first read_body slip_bytes given ◌>>=◌ onward give
first_reads s h =
    let ks : List ℕ = flatten (map certifier_bytes s.certifiers) in
    rw (
      ← append-nil ks,
      byte_reads (reading_byte s.reading) (locator_bytes s.locator ++ (le_bytes 2 (length s.certifiers) ++ (ks ++ []))) (byte_small s.reading),
      byte_names s.reading,
      byte_reading s.reading,
      locator_reads s.locator h.locator (le_bytes 2 (length s.certifiers) ++ (ks ++ [])),
      number_reads 2 (length s.certifiers) (ks ++ []) h.few,
      repeated_reads read_certifier certifier_bytes s.certifiers (every certifier_reads s.certifiers h.certifiers) [],
      h.ascend,
    )

pub read_slip_slip_bytes : (s : Slip) → SlipFits s → read_slip (slip_bytes s) ≡ some s
unfolding read_slip
read_slip_slip_bytes s h = complete_reads read_first (slip_bytes s) s (first_reads s h)

-- ---- back

pub voter_back : Back read_voter (One voter_bytes VoterFits)
unfolding read_voter voter_bytes
voter_back =
    bind_back _ _ (Number 8) (One voter_bytes VoterFits) (number_back 8) λ a x p.
    bind_back _ _ (Number 2) _ (number_back 2) λ n y q.
    map_back _ (λ d. record { author = a; path = d }) (Items n) _ (items_back n) λ d z r.
    record {
      are = rw (p.are, q.are, r.are, r.many);
      right = record { author = p.fits; short = rw r.many q.fits; bytes = r.bytes };
    }

pub certifier_back : Back read_certifier (One certifier_bytes CertifierFits)
unfolding read_certifier certifier_bytes
certifier_back =
    bind_back _ _ (One reference_bytes ReferenceFits) (One certifier_bytes CertifierFits) reference_back λ b x p.
    bind_back _ _ (Number 1) _ (number_back 1) λ n y q.
    bind_back _ _ (Many voter_bytes VoterFits n) _ (repeated_back voter_bytes VoterFits read_voter n voter_back) λ vs z r.
    given_back (voters_ascend vs) _ _ λ h.
    give_back _ (record { reference = b; voters = vs })
    (record {
      are = rw (p.are, q.are, r.are, r.many, append-nil (flatten (map voter_bytes vs)));
      right = record { reference = p.right; few = rw r.many q.fits; voters = r.right; ascend = h };
    })

pub first_back : Back read_first (One slip_bytes SlipFits)
unfolding read_first read_body slip_bytes
first_back =
    bind_back _ _ (Number 1) (One slip_bytes SlipFits) (number_back 1) λ m w o.
    given_back (ltb m 2) _ _ λ e.
    bind_back _ _ (One locator_bytes LocatorFits) _ locator_back λ l x p.
    bind_back _ _ (Number 2) _ (number_back 2) λ n y q.
    bind_back _ _ (Many certifier_bytes CertifierFits n) _ (repeated_back certifier_bytes CertifierFits read_certifier n certifier_back) λ ks z r.
    given_back (certifiers_ascend ks) _ _ λ h.
    give_back _ (record { reading = reading_of (eqb m 1); locator = l; certifiers = ks })
    (record {
      are = rw (o.are, one_byte m o.fits, ← reading_byte_lem m e, p.are, q.are, r.are, r.many, append-nil (flatten (map certifier_bytes ks)));
      right = record { locator = p.right; few = rw r.many q.fits; certifiers = r.right; ascend = h };
    })

-- bytes that are read name a reading
pub read_names : (r : List ℕ) (s : Slip) → read_slip r ≡ some s → names_reading r ≡ true
unfolding read_slip names_reading complete given fail
read_names [] s h = absurd (none-ne-some s (unfold read_first ◌>>=◌ onward number items in h))
read_names (first ∷ r) s h = go (ltb first 2) refl (sym on ∙ h)
  where
    on : complete (read_first (first ∷ r)) ≡ complete (given (ltb first 2) (read_body (reading_of (eqb first 1))) r)
    on = unfold read_first ◌>>=◌ onward in rw (number_at 1 (first ∷ r) 0 (omega arith), le_at_byte (first ∷ r) 0 (omega arith))

    go : (t : Bool) → ltb first 2 ≡ t → complete (given t (read_body (reading_of (eqb first 1))) r) ≡ some s → ltb first 2 ≡ true
    go true e k = e
    go false e k = absurd (none-ne-some s k)

-- what the bytes are read as is what was written, and it is within the limits
pub slip_bytes_read_slip : (r : List ℕ) (s : Slip) → AllBytes r → read_slip r ≡ some s → slip_bytes s ≡ r
unfolding read_slip
slip_bytes_read_slip r s h k = sym (complete_back read_first (One slip_bytes SlipFits) first_back r s h k).are

-- ---- the tests of the claims say what the laws ask

voter_fits : (v : SlipVoter) → fits_voter v ≡ true → VoterFits v
unfolding fits_voter
voter_fits v h =
    let k = and_right (ltb v.author 18446744073709551616) _ h in
    record {
      author = ltb-true v.author 18446744073709551616 (and_left _ _ h);
      short = ltb-true (length v.path) 65536 (and_left _ _ k);
      bytes = bytes_fit v.path (and_right (ltb (length v.path) 65536) _ k);
    }

certifier_fits : (k : SlipCertifier) → fits_certifier k ≡ true → CertifierFits k
unfolding fits_certifier
certifier_fits k h =
    let h₁ = and_right (fits_reference k.reference) _ h in
    let h₂ = and_right (ltb (length k.voters) 256) _ h₁ in
    record {
      reference = reference_fits k.reference (and_left _ _ h);
      few = ltb-true (length k.voters) 256 (and_left _ _ h₁);
      voters = every voter_fits k.voters (all_every fits_voter k.voters (and_left _ _ h₂));
      ascend = and_right (all_of fits_voter k.voters) _ h₂;
    }

pub slip_fits : (s : Slip) → fits_slip s ≡ true → SlipFits s
unfolding fits_slip
slip_fits s h =
    let h₁ = and_right (fits_locator s.locator) _ h in
    let h₂ = and_right (ltb (length s.certifiers) 65536) _ h₁ in
    record {
      locator = locator_fits s.locator (and_left _ _ h);
      few = ltb-true (length s.certifiers) 65536 (and_left _ _ h₁);
      certifiers = every certifier_fits s.certifiers (all_every fits_certifier s.certifiers (and_left _ _ h₂));
      ascend = and_right (all_of fits_certifier s.certifiers) _ h₂;
    }
