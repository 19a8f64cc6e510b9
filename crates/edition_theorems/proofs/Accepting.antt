-- Records of either edition accepted as their blocks. Assumes nothing.
use mathlib.Core.Path.{◌≡◌, refl, sym, ◌∙◌}
use mathlib.Core.List.{List, [], ◌∷◌, ◌++◌, map}
use mathlib.Core.Option.{Option, none, some}
use mathlib.Core.Bool.{Bool, true, not, ◌&&◌}
use Prim.Native.Nat.{ℕ}
use Rattle.base.specs.Lists.{any_of}
use Rattle.base.specs.Le.{Bytes}
use Rattle.base.specs.Checks.{Check, ◌⇒◌, passes}
use Rattle.base.proofs.Tests.{and_right, not_both}
use Rattle.committee.specs.Committee.{Committee}
use Rattle.record_spec.specs.Reference.{BlockReference, same_reference}
use Rattle.record_spec.specs.Block.{Block}
use Rattle.record_spec.specs.Verify.{head_checks, body_checks}
use Rattle.record_spec.specs.Record.{Edition, old, timed, Timed, timed_of, block_of, time_in, well_formed, block_in, bytes_in, edition_for, timed_bytes}
use Rattle.record_spec.specs.Claims.{are_bytes, fits_block, fits_time, fits_in, ReadsWhatIsWritten, WritesWhatIsRead}
use Rattle.record_spec.proofs.Records.{block_of_lem, timed_of_lem}
use Rattle.record_spec.proofs.Claimed as records
use Rattle.store_spec.specs.Layout.{blocks, Record, read_record}
use Rattle.store_spec.specs.Accept.{is_stored, block_checks, all_accepted}
use Rattle.edition_theorems.specs.Claims.{SameAccepted, Accepting, Apart}

-- ---- reading

-- what fits an edition is of that edition
edition_fits : (e : Edition) (o : Option ℕ) → fits_time e o ≡ true → edition_for o ≡ e
unfolding fits_time edition_for
edition_fits old none h = refl
edition_fits old (some x) h = absurd (not_both h refl)
edition_fits timed none h = absurd (not_both h refl)
edition_fits timed (some x) h = refl

record-read : (e : Edition) (t : Timed) → fits_in e t ≡ true → read_record (bytes_in e t) ≡ some (record { bytes = bytes_in e t; block = t.block })
unfolding fits_in read_record block_of ReadsWhatIsWritten timed_bytes
record-read e t h =
    let own : edition_for t.time ≡ e = edition_fits e t.time (and_right (fits_block t.block) _ h) in
    let back : timed_of (bytes_in e t) ≡ some t = rw own at ((records.claimed).reads t (rw own h)) in
    rw back

-- a well-formed record is its block, written with its time
own_bytes : (r : Bytes) → are_bytes r ≡ true → well_formed r ≡ true → r ≡ timed_bytes (record { block = block_in r; time = time_in r })
unfolding WritesWhatIsRead
own_bytes r b w = sym ((records.claimed).writes r _ b (timed_of_lem r (block_in r) (block_of_lem r w)))

pub records_apart : (r q : Bytes) → are_bytes r ≡ true → are_bytes q ≡ true → well_formed r ≡ true → well_formed q ≡ true → block_in r ≡ block_in q → Apart r q
records_apart r q a b v w h =
    record { block = block_in q; one = time_in r; other = time_in q; first = rw h at (own_bytes r a v); second = own_bytes q b w }

-- ---- accepting, over blocks

any_map : {A B : Type 0} (f : A → B) (p : B → Bool) (xs : List A) → any_of (λ x. p (f x)) xs ≡ any_of p (map f xs)
unfolding any_of
any_map f p [] = refl
any_map f p (x ∷ xs) = rw (any_map f p xs)

stored_among : List Block → BlockReference → Bool
stored_among bs i = any_of (λ b. same_reference b.reference i) bs

checks_among : Committee → List Block → Block → List Check
checks_among c bs b =
    head_checks c b
    ++ ((stored_among bs b.reference ⇒ 23)
    ∷ body_checks c b
    ++ ((any_of (λ i. not (stored_among bs i)) b.includes ⇒ 30)
    ∷ []))

accepted_among : Committee → List Block → Bool
accepted_among c [] = true
accepted_among c (b ∷ older) = passes (checks_among c older b) && accepted_among c older

stored_among_lem : (rs : List Record) (i : BlockReference) → is_stored rs i ≡ stored_among (blocks rs) i
unfolding is_stored stored_among
stored_among_lem rs i = any_map (λ r. r.block) (λ b. same_reference b.reference i) rs

any_same : {A : Type 0} (p q : A → Bool) (xs : List A) → ((x : A) → p x ≡ q x) → any_of p xs ≡ any_of q xs
unfolding any_of
any_same p q [] h = refl
any_same p q (x ∷ xs) h = rw (h x, any_same p q xs h)

checks_among_lem : (c : Committee) (rs : List Record) (b : Block) → block_checks c rs b ≡ checks_among c (blocks rs) b
unfolding block_checks checks_among
checks_among_lem c rs b =
    rw (
      stored_among_lem rs b.reference,
      any_same (λ i. not (is_stored rs i)) (λ i. not (stored_among (blocks rs) i)) b.includes (λ i. rw (stored_among_lem rs i)),
    )

accepted_among_lem : (c : Committee) (rs : List Record) → all_accepted c rs ≡ accepted_among c (blocks rs)
unfolding all_accepted accepted_among
accepted_among_lem c [] = refl
accepted_among_lem c (r ∷ older) = rw (checks_among_lem c older r.block, accepted_among_lem c older)

same_accepted : (c : Committee) (rs qs : List Record) → blocks rs ≡ blocks qs → SameAccepted c rs qs
same_accepted c rs qs h =
    record {
      checks = λ b. checks_among_lem c rs b ∙ rw h (sym (checks_among_lem c qs b));
      accepted = accepted_among_lem c rs ∙ rw h (sym (accepted_among_lem c qs));
    }

pub accepting : Accepting
accepting = record { read = record-read; same = same_accepted }
