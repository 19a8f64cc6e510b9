-- Block records there and back, with the edition as a parameter: what is written is read, and what is read had been written so. Assumes nothing.
use mathlib.Core.Path.{◌≡◌, refl, sym, ap, ◌∙◌, subst}
use mathlib.Core.List.{List, [], ◌∷◌, ◌++◌, map, append_assoc, flatten, append-nil}
use mathlib.Core.Option
use mathlib.Core.Option.{Option, none, some, some-injective, none-ne-some}
use mathlib.Core.Bool.{Bool, true, false, not, ◌&&◌}
use Prim.Native.Nat.{ℕ, zero, suc, ◌+◌, ◌*◌, ◌%◌, ◌^◌, ◌≤◌, ◌<◌}
use native.Mathlib.Nat.{lt_trans}
use native.Mathlib.Omega.{arith}
use lib.Dec.{ltb, leb, eqb, lit<}
use lib.ListN.{length, get_or, take, drop, length-append}
use lib.Seq.{take_at, drop-append-add, get_or-take, get_or-drop}
use borrow.Author.Tests.{lt-ltb, ltb-true, le-leb, leb-true, eqb-true, eqb-false}
use Rattle.base.specs.Lists.{pick, same, is_none}
use Rattle.base.specs.Le.{le_bytes}
use Rattle.base.specs.Read.{Read, give, fail, onward, ◌>>=◌, number, given, complete}
use Rattle.base.proofs.Tests.{and_left, and_right, not_both, flag_back}
use Rattle.base.proofs.Lists.{Every, none_of, and, every}
use Rattle.base.proofs.Orders.{same_refl, same_true}
use Rattle.base.proofs.Le.{AllBytes, length_le_bytes}
use Rattle.base.proofs.Read.{part, items_reads, number_reads, ReadsBack, repeated_reads, complete_reads, Back, give_back, fail_back, given_back, bind_back}
use Rattle.base.proofs.Read.{map_back, Items, items_back, Number, number_back, One, Many, repeated_back, complete_back}
use Rattle.record_spec.specs.Reference.{BlockReference, TransactionLocator, TransactionLocatorRange, new_range}
use Rattle.record_spec.specs.Block.{Statement, share, accept, reject, vote_range, Block}
use Rattle.record_spec.specs.Record.{read_reference, read_locator, read_share, read_accept, read_other, read_reject, read_range, read_kind, read_statement}
use Rattle.record_spec.specs.Record.{Edition, old, timed, Timed, edition_bytes, read_time, read_in, edition_of, timed_of, block_of, time_of, time_in}
use Rattle.record_spec.specs.Record.{well_formed}
use Rattle.record_spec.specs.Record.{no_block, block_in, reference_bytes, locator_bytes, other_bytes, statement_bytes, time_bytes, bytes_in, edition_for}
use Rattle.record_spec.specs.Record.{timed_bytes}

-- ---- the limits: what fits a record

pub record ReferenceFits (r : BlockReference) : Type 0 where
  pub author : r.authority < 256 ^ 8
  pub round : r.round < 256 ^ 8
  pub size : length r.digest ≡ 32
  pub bytes : AllBytes r.digest

pub record LocatorFits (l : TransactionLocator) : Type 0 where
  pub block : ReferenceFits l.block
  pub offset : l.offset < 256 ^ 8

pub record RangeFits (r : TransactionLocatorRange) : Type 0 where
  pub block : ReferenceFits r.block
  pub start : r.start < 256 ^ 8
  pub end : r.end < 256 ^ 8

abbrev pub OtherFits : Option TransactionLocator → Type 0
OtherFits none = Unit {0}
OtherFits (some l) = LocatorFits l

abbrev pub StatementFits : Statement → Type 0
StatementFits (share payload) = (length payload < 256 ^ 2) × AllBytes payload
StatementFits (accept l) = LocatorFits l
StatementFits (reject l other) = LocatorFits l × OtherFits other
StatementFits (vote_range r) = RangeFits r

pub record BlockFits (b : Block) : Type 0 where
  pub reference : ReferenceFits b.reference
  pub few_includes : length b.includes ≤ 256
  pub few_statements : length b.statements ≤ 1024
  pub includes : Every ReferenceFits b.includes
  pub statements : Every StatementFits b.statements

abbrev pub TimeFits : Edition → Option ℕ → Type 0
TimeFits old none = Unit {0}
TimeFits old (some x) = ⊥
TimeFits timed none = ⊥
TimeFits timed (some x) = x < 18446744073709551616

pub record InFits (e : Edition) (t : Timed) : Type 0 where
  pub block : BlockFits t.block
  pub time : TimeFits e t.time

-- ---- forward

pub reference_reads : (r : BlockReference) → ReferenceFits r → ReadsBack read_reference reference_bytes r
unfolding read_reference reference_bytes ◌>>=◌ onward give
reference_reads r h t =
    rw (
      append_assoc (le_bytes 8 r.authority) (le_bytes 8 r.round ++ r.digest) t,
      number_reads 8 r.authority (le_bytes 8 r.round ++ r.digest ++ t) h.author,
      append_assoc (le_bytes 8 r.round) r.digest t,
      number_reads 8 r.round (r.digest ++ t) h.round,
      items_reads 32 r.digest t h.size,
    )

pub locator_reads : (l : TransactionLocator) → LocatorFits l → ReadsBack read_locator locator_bytes l
unfolding read_locator locator_bytes ◌>>=◌ onward give
locator_reads l h t =
    rw (
      append_assoc (reference_bytes l.block) (le_bytes 8 l.offset) t,
      reference_reads l.block h.block (le_bytes 8 l.offset ++ t),
      number_reads 8 l.offset t h.offset,
    )

-- a byte, as a number of one byte
pub one_byte : (k : ℕ) → k < 256 → le_bytes 1 k ≡ k ∷ []
unfolding le_bytes
one_byte k h = let e : k % 256 ≡ k = omega arith in rw e

pub byte_reads : (k : ℕ) (t : List ℕ) → k < 256 → number 1 (k ∷ t) ≡ some (part k t)
byte_reads k t h = rw (one_byte k h) at (number_reads 1 k t h)

pub statement_reads : (s : Statement) → StatementFits s → ReadsBack read_statement statement_bytes s
unfolding read_statement statement_bytes other_bytes read_other read_kind read_share read_accept read_reject read_range new_range ◌>>=◌ onward give
statement_reads (share v) h t =
    rw (
      append_assoc (le_bytes 2 (length v)) v t,
      byte_reads 0 (le_bytes 2 (length v) ++ (v ++ t)) (lit< tt),
      number_reads 2 (length v) (v ++ t) h.0,
      items_reads (length v) v t refl,
    )
statement_reads (accept l) h t = rw (byte_reads 1 (locator_bytes l ++ t) (lit< tt), locator_reads l h t)
statement_reads (reject l none) h t =
    rw (
      append_assoc (locator_bytes l) (0 ∷ []) t,
      byte_reads 2 (locator_bytes l ++ 0 ∷ t) (lit< tt),
      locator_reads l h.0 (0 ∷ t),
      byte_reads 0 t (lit< tt),
    )
statement_reads (reject l (some m)) h t =
    rw (
      append_assoc (locator_bytes l) (1 ∷ locator_bytes m) t,
      byte_reads 2 (locator_bytes l ++ 1 ∷ (locator_bytes m ++ t)) (lit< tt),
      locator_reads l h.0 (1 ∷ (locator_bytes m ++ t)),
      byte_reads 1 (locator_bytes m ++ t) (lit< tt),
      locator_reads m h.1 t,
    )
statement_reads (vote_range r) h t =
    rw (
      append_assoc (reference_bytes r.block) (le_bytes 8 r.start ++ le_bytes 8 r.end) t,
      append_assoc (le_bytes 8 r.start) (le_bytes 8 r.end) t,
      byte_reads 3 (reference_bytes r.block ++ (le_bytes 8 r.start ++ (le_bytes 8 r.end ++ t))) (lit< tt),
      reference_reads r.block h.block (le_bytes 8 r.start ++ (le_bytes 8 r.end ++ t)),
      number_reads 8 r.start (le_bytes 8 r.end ++ t) h.start,
      number_reads 8 r.end t h.end,
    )

-- the mark's byte
mark_fits : (m : Bool) → pick m 1 0 < 256
mark_fits true = lit< tt
mark_fits false = lit< tt

mark_low : (m : Bool) → leb (pick m 1 0) 1 ≡ true
mark_low true = refl
mark_low false = refl

-- a time of 64 bits fits 16 bytes
wide_enough : (x : ℕ) → x < 18446744073709551616 → x < 256 ^ 16
wide_enough x h = lt_trans h (lit< tt)

time_reads : (e : Edition) (o : Option ℕ) → TimeFits e o → ReadsBack (read_time e) time_bytes o
unfolding read_time time_bytes given ◌>>=◌ onward give
time_reads old none h t = refl
time_reads old (some x) h t = absurd h
time_reads timed none h t = absurd h
time_reads timed (some x) h t = rw (number_reads 16 x t (wide_enough x h), lt-ltb x 18446744073709551616 h)

pub three_bytes : (e : Edition) → length (edition_bytes e) ≡ 3
unfolding edition_bytes
three_bytes old = refl
three_bytes timed = refl

-- every block within the limits is read back from its bytes, in either edition
pub in_reads : (e : Edition) (t : Timed) → InFits e t → read_in e (bytes_in e t) ≡ some (part t [])
unfolding read_in bytes_in flatten given ◌>>=◌ onward give
in_reads e t h =
    let b : Block = t.block in
    let is : List ℕ = flatten (map reference_bytes b.includes) in
    let ss : List ℕ = flatten (map statement_bytes b.statements) in
    let rest : List ℕ = time_bytes t.time ++ (is ++ (ss ++ [])) in
    let counts : List ℕ = le_bytes 2 (length b.statements) ++ (edition_bytes e ++ rest) in
    rw (
      reference_reads b.reference h.block.reference (pick b.marked 1 0 ∷ (le_bytes 2 (length b.includes) ++ counts)),
      byte_reads (pick b.marked 1 0) (le_bytes 2 (length b.includes) ++ counts) (mark_fits b.marked),
      number_reads 2 (length b.includes) counts (omega (arith, h.block.few_includes)),
      number_reads 2 (length b.statements) (edition_bytes e ++ rest) (omega (arith, h.block.few_statements)),
      items_reads 3 (edition_bytes e) rest (three_bytes e),
      mark_low b.marked,
      le-leb (length b.includes) 256 h.block.few_includes,
      le-leb (length b.statements) 1024 h.block.few_statements,
      same_refl (edition_bytes e),
      flag_back b.marked,
      time_reads e t.time h.time (is ++ (ss ++ [])),
      repeated_reads read_reference reference_bytes b.includes (every reference_reads b.includes h.block.includes) (ss ++ []),
      repeated_reads read_statement statement_bytes b.statements (every statement_reads b.statements h.block.statements) [],
    )

-- ---- back

pub reference_back : Back read_reference (One reference_bytes ReferenceFits)
unfolding read_reference reference_bytes
reference_back =
    bind_back _ _ (Number 8) (One reference_bytes ReferenceFits) (number_back 8) λ a x p.
    bind_back _ _ (Number 8) _ (number_back 8) λ n y q.
    map_back _ (λ d. record { authority = a; round = n; digest = d }) (Items 32) _ (items_back 32) λ d z r.
    record {
      are = rw (p.are, q.are, r.are);
      right = record { author = p.fits; round = q.fits; size = r.many; bytes = r.bytes };
    }

pub locator_back : Back read_locator (One locator_bytes LocatorFits)
unfolding read_locator locator_bytes
locator_back =
    bind_back _ _ (One reference_bytes ReferenceFits) (One locator_bytes LocatorFits) reference_back λ b x p.
    map_back _ (λ o. record { block = b; offset = o }) (Number 8) _ (number_back 8) λ o y q.
    record { are = rw (p.are, q.are); right = record { block = p.right; offset = q.fits } }

-- what follows the kind byte k is a statement of that kind
abbrev pub After : ℕ → List ℕ → Statement → Type 0
After k y s = One statement_bytes StatementFits (k ∷ y) s

share_back : Back read_share (After 0)
unfolding read_share statement_bytes
share_back =
    bind_back _ _ (Number 2) (After 0) (number_back 2) λ n x p.
    map_back _ share (Items n) _ (items_back n) λ v y q.
    record { are = rw (p.are, q.are, q.many); right = (rw q.many p.fits, q.bytes) }

accept_back : Back read_accept (After 1)
unfolding read_accept statement_bytes
accept_back =
    map_back _ accept (One locator_bytes LocatorFits) (After 1) locator_back λ l x p.
    record { are = rw p.are; right = p.right }

other_back : (k : ℕ) → Back (read_other k) (λ y o. One other_bytes OtherFits (k ∷ y) o)
unfolding read_other other_bytes
other_back zero = give_back _ none (record { are = refl; right = tt })
other_back (suc zero) =
    map_back _ some (One locator_bytes LocatorFits) (λ y o. One other_bytes OtherFits (1 ∷ y) o) locator_back λ l x p.
    record { are = rw p.are; right = p.right }
other_back (suc (suc k)) = fail_back _

reject_back : Back read_reject (After 2)
unfolding read_reject statement_bytes
reject_back =
    bind_back _ _ (One locator_bytes LocatorFits) (After 2) locator_back λ l x p.
    bind_back _ _ (Number 1) _ (number_back 1) λ k y q.
    map_back _ (reject l) (λ z o. One other_bytes OtherFits (k ∷ z) o) _ (other_back k) λ o z r.
    record { are = rw (p.are, q.are, one_byte k q.fits, ← r.are); right = (p.right, r.right) }

range_back : Back read_range (After 3)
unfolding read_range statement_bytes new_range
range_back =
    bind_back _ _ (One reference_bytes ReferenceFits) (After 3) reference_back λ b x p.
    bind_back _ _ (Number 8) _ (number_back 8) λ s y q.
    map_back _ (λ e. vote_range (new_range b s e)) (Number 8) _ (number_back 8) λ e z r.
    record { are = rw (p.are, q.are, r.are); right = record { block = p.right; start = q.fits; end = r.fits } }

pub kind_back : (k : ℕ) → Back (read_kind k) (After k)
unfolding read_kind
kind_back k = go (eqb k 0) (eqb k 1) (eqb k 2) (eqb k 3) refl refl refl refl
  where
    at : (n : ℕ) (m : Read Statement) → eqb k n ≡ true → Back m (After n) → Back m (After k)
    at n m e h = rw (eqb-true k n e) h

    go : (t0 t1 t2 t3 : Bool) → eqb k 0 ≡ t0 → eqb k 1 ≡ t1 → eqb k 2 ≡ t2 → eqb k 3 ≡ t3
        → Back (pick t0 read_share (pick t1 read_accept (pick t2 read_reject (pick t3 read_range fail)))) (After k)
    go true t1 t2 t3 e0 e1 e2 e3 = at 0 read_share e0 share_back
    go false true t2 t3 e0 e1 e2 e3 = at 1 read_accept e1 accept_back
    go false false true t3 e0 e1 e2 e3 = at 2 read_reject e2 reject_back
    go false false false true e0 e1 e2 e3 = at 3 read_range e3 range_back
    go false false false false e0 e1 e2 e3 = fail_back (After k)

pub statement_back : Back read_statement (One statement_bytes StatementFits)
unfolding read_statement
statement_back =
    bind_back _ read_kind (Number 1) (One statement_bytes StatementFits) (number_back 1) λ k x p.
    rw (p.are, one_byte k p.fits) (kind_back k)

time_back : (e : Edition) → Back (read_time e) (One time_bytes (TimeFits e))
unfolding read_time time_bytes
time_back old = give_back _ none (record { are = refl; right = tt })
time_back timed =
    bind_back _ _ (Number 16) (One time_bytes (TimeFits timed)) (number_back 16) λ x y p.
    given_back (ltb x 18446744073709551616) _ _ λ h.
    give_back _ (some x) (record { are = rw (append-nil y) p.are; right = ltb-true x 18446744073709551616 h })

-- what the tests of a record's head say
record Head (e : Edition) (mark ins sts : ℕ) (zeros : List ℕ) : Type 0 where
  low : mark ≤ 1
  few_includes_lem : ins ≤ 256
  few_statements_lem : sts ≤ 1024
  edition : zeros ≡ edition_bytes e

head_tests : (e : Edition) (m i s : ℕ) (zs : List ℕ) → leb m 1 && leb i 256 && leb s 1024 && same zs (edition_bytes e) ≡ true → Head e m i s zs
head_tests e m i s zs h =
    let three : leb m 1 && leb i 256 && leb s 1024 ≡ true = and_left (leb m 1 && leb i 256 && leb s 1024) _ h in
    let two : leb m 1 && leb i 256 ≡ true = and_left (leb m 1 && leb i 256) _ three in
    record {
      low = leb-true m 1 (and_left (leb m 1) _ two);
      few_includes_lem = leb-true i 256 (and_right (leb m 1) _ two);
      few_statements_lem = leb-true s 1024 (and_right (leb m 1 && leb i 256) _ three);
      edition = same_true zs (edition_bytes e) (and_right (leb m 1 && leb i 256 && leb s 1024) _ h);
    }

-- a mark of at most 1 is the byte of its test
pub mark_byte : (m : ℕ) → m ≤ 1 → m ≡ pick (eqb m 1) 1 0
mark_byte m h = go (eqb m 1) refl
  where
    go : (t : Bool) → eqb m 1 ≡ t → m ≡ pick t 1 0
    go true e = eqb-true m 1 e
    go false e = let ne : m ≡ 1 → ⊥ = eqb-false m 1 e in omega (arith, ne)

in_back : (e : Edition) → Back (read_in e) (One (bytes_in e) (InFits e))
unfolding read_in bytes_in flatten
in_back e =
    bind_back _ _ (One reference_bytes ReferenceFits) (One (bytes_in e) (InFits e)) reference_back λ r x₁ p₁.
    bind_back _ _ (Number 1) _ (number_back 1) λ m x₂ p₂.
    bind_back _ _ (Number 2) _ (number_back 2) λ i x₃ p₃.
    bind_back _ _ (Number 2) _ (number_back 2) λ s x₄ p₄.
    bind_back _ _ (Items 3) _ (items_back 3) λ zs x₅ p₅.
    given_back _ _ _ λ h.
    bind_back _ _ (One time_bytes (TimeFits e)) _ (time_back e) λ o x₆ p₆.
    bind_back _ _ (Many reference_bytes ReferenceFits i) _ (repeated_back reference_bytes ReferenceFits read_reference i reference_back) λ is x₇ p₇.
    map_back _ (λ ss. record { block = record { reference = r; marked = eqb m 1; includes = is; statements = ss }; time = o })
    (Many statement_bytes StatementFits s) _ (repeated_back statement_bytes StatementFits read_statement s statement_back) λ ss x₈ p₈.
    let t : Head e m i s zs = head_tests e m i s zs h in
    record {
      are =
          rw (
            p₁.are,
            p₂.are,
            one_byte m p₂.fits,
            ← mark_byte m t.low,
            p₃.are,
            p₄.are,
            p₅.are,
            t.edition,
            p₆.are,
            p₇.are,
            p₈.are,
            p₇.many,
            p₈.many,
            append-nil (flatten (map statement_bytes ss)),
          );
      right =
          record {
            block = record {
              reference = p₁.right;
              few_includes = rw p₇.many t.few_includes_lem;
              few_statements = rw p₈.many t.few_statements_lem;
              includes = p₇.right;
              statements = p₈.right;
            };
            time = p₆.right;
          };
    }

-- what a record is read as is what was written, and it is within the limits
pub read_back : (e : Edition) (r : List ℕ) (t : Timed) → AllBytes r → complete (read_in e r) ≡ some t → One (bytes_in e) (InFits e) r t
read_back e r t h k = complete_back (read_in e) (One (bytes_in e) (InFits e)) (in_back e) r t h k

-- ---- lengths

pub length_reference : (r : BlockReference) → ReferenceFits r → length (reference_bytes r) ≡ 48
unfolding reference_bytes
length_reference r h = simp (length-append, length_le_bytes, h.size)

pub length_includes : (is : List BlockReference) → Every ReferenceFits is → length (flatten (map reference_bytes is)) ≡ 48 * length is
unfolding flatten
length_includes [] none_of = refl
length_includes (i ∷ is) (and h hs) = omega (
  arith,
  length-append (reference_bytes i) (flatten (map reference_bytes is)),
  length_reference i h,
  length_includes
      is hs,
)

-- ---- where the parts stand

drop_past : (a t : List ℕ) (n k : ℕ) → length a ≡ n → drop (n + k) (a ++ t) ≡ drop k t
drop_past a t n k e = rw (← e) (drop-append-add a t k)

module _ (e : Edition) (t : Timed) (f : BlockFits t.block) where
  abbrev is : List ℕ
  is = flatten (map reference_bytes t.block.includes)

  abbrev ss : List ℕ
  ss = flatten (map statement_bytes t.block.statements) ++ []

  -- past the first 53 bytes
  past_head : (k : ℕ) → drop (53 + k) (bytes_in e t) ≡ drop k (edition_bytes e ++ (time_bytes t.time ++ (is ++ ss)))
  unfolding bytes_in flatten
  past_head k =
      let b : Block = t.block in
      let i = length b.includes in
      let n = length b.statements in
      let rest : List ℕ = edition_bytes e ++ (time_bytes t.time ++ (is ++ ss)) in
      let g : 53 + k ≡ 48 + (1 + (2 + (2 + k))) = omega arith in
      rw g
      (drop_past (reference_bytes b.reference) (pick b.marked 1 0 ∷ (le_bytes 2 i ++ (le_bytes 2 n ++ rest))) 48 (1 + (2 + (2 + k)))
      (length_reference b.reference f.reference)
      ∙ drop_past (pick b.marked 1 0 ∷ []) (le_bytes 2 i ++ (le_bytes 2 n ++ rest)) 1 (2 + (2 + k)) refl
      ∙ drop_past (le_bytes 2 i) (le_bytes 2 n ++ rest) 2 (2 + k) (length_le_bytes 2 i)
      ∙ drop_past (le_bytes 2 n) rest 2 k (length_le_bytes 2 n))

  pub past_edition : (k : ℕ) → drop (56 + k) (bytes_in e t) ≡ drop k (time_bytes t.time ++ (is ++ ss))
  past_edition k =
      let g : 56 + k ≡ 53 + (3 + k) = omega arith in
      rw g (past_head (3 + k) ∙ drop_past (edition_bytes e) (time_bytes t.time ++ (is ++ ss)) 3 k (three_bytes e))

  pub past_includes : (k : ℕ) → drop (56 + length (time_bytes t.time) + 48 * length t.block.includes + k) (bytes_in e t) ≡ drop k
      (flatten (map statement_bytes t.block.statements))
  past_includes k =
      let n = length t.block.includes in
      let g : 56 + length (time_bytes t.time) + 48 * n + k ≡ 56 + (length (time_bytes t.time) + (48 * n + k)) = omega arith in
      rw g
      (past_edition (length (time_bytes t.time) + (48 * n + k))
      ∙ drop_past (time_bytes t.time) (is ++ ss) (length (time_bytes t.time)) (48 * n + k) refl
      ∙ drop_past is ss (48 * n) k (length_includes t.block.includes f.includes)
      ∙ ap (λ (l : List ℕ). drop k l) (append-nil (flatten (map statement_bytes t.block.statements))))

  pub edition_place : take 3 (drop 53 (bytes_in e t)) ≡ edition_bytes e
  edition_place = ap (λ (l : List ℕ). take 3 l) (past_head 0) ∙ take_at (edition_bytes e) (time_bytes t.time ++ (is ++ ss)) 3 (three_bytes e)

-- the bytes of an edition say which it is
edition_told : (e : Edition) → pick (eqb (get_or (edition_bytes e) 0 0) 2) timed old ≡ e
unfolding edition_bytes
edition_told old = refl
edition_told timed = refl

pub edition_said : (e : Edition) (t : Timed) → BlockFits t.block → edition_of (bytes_in e t) ≡ e
unfolding edition_of
edition_said e t f =
    let first : get_or (bytes_in e t) 53 0 ≡ get_or (edition_bytes e) 0 0 =
    sym (get_or-drop 53 (bytes_in e t) 0 0) ∙ sym (get_or-take 3 (drop 53 (bytes_in e t)) 0 0 (lit< tt))
    ∙ ap (λ (l : List ℕ). get_or l 0 0) (edition_place e t f) in
    rw first (edition_told e)

-- ---- either edition

pub timed_of_timed_bytes : (t : Timed) → InFits (edition_for t.time) t → timed_of (timed_bytes t) ≡ some t
unfolding timed_of timed_bytes
timed_of_timed_bytes t h =
    let e : Edition = edition_for t.time in
    rw (edition_said e t h.block) (complete_reads (read_in e) (bytes_in e t) t (in_reads e t h))

-- a time that fits an edition is of that edition
edition_of_lem : (e : Edition) (o : Option ℕ) → TimeFits e o → edition_for o ≡ e
unfolding edition_for
edition_of_lem old none h = refl
edition_of_lem old (some x) h = absurd h
edition_of_lem timed none h = absurd h
edition_of_lem timed (some x) h = refl

pub timed_back : (r : List ℕ) (t : Timed) → AllBytes r → timed_of r ≡ some t → One timed_bytes (λ u. InFits (edition_for u.time) u) r t
unfolding timed_of timed_bytes
timed_back r t b h =
    let e : Edition = edition_of r in
    let o : One (bytes_in e) (InFits e) r t = read_back e r t b h in
    let f : edition_for t.time ≡ e = edition_of_lem e t.time o.right.time in
    record { are = rw f o.are; right = rw f o.right }

-- ---- blocks

timed_block : (r : List ℕ) (b : Block) → block_of r ≡ some b → (t : Timed) × ((timed_of r ≡ some t) × (t.block ≡ b))
unfolding block_of
timed_block r b h = go (timed_of r) refl h
  where
    go : (o : Option Timed) → timed_of r ≡ o → Option.map (λ t. t.block) o ≡ some b → (t : Timed) × ((timed_of r ≡ some t) × (t.block ≡ b))
    go none e k = absurd (none-ne-some b k)
    go (some t) e k = (t, (e, some-injective _ _ k))

pub block_of_fits : (r : List ℕ) (b : Block) → AllBytes r → block_of r ≡ some b → BlockFits b
block_of_fits r b h k =
    let t = timed_block r b k in
    subst BlockFits t.1.1 (timed_back r t.0 h t.1.0).right.block

-- a record that is well formed is read as the block in it
pub block_of_lem : (s : List ℕ) → well_formed s ≡ true → block_of s ≡ some (block_in s)
unfolding well_formed block_in is_none
block_of_lem s h = go (block_of s) refl h
  where
    go : (o : Option Block) → block_of s ≡ o → not (is_none o) ≡ true → block_of s ≡ some (Option.get_or (block_of s) no_block)
    go none e k = absurd (not_both k refl)
    go (some b) e k = rw e

-- a block that is read is the one in the record
pub block_in_lem : (s : List ℕ) (b : Block) → block_of s ≡ some b → block_in s ≡ b
unfolding block_in
block_in_lem s b h = rw h

-- and its time is the one in the record
pub timed_of_lem : (s : List ℕ) (b : Block) → block_of s ≡ some b → timed_of s ≡ some (record { block = b; time = time_in s })
unfolding time_in time_of
timed_of_lem s b h = go (timed_block s b h)
  where
    go : (t : Timed) × ((timed_of s ≡ some t) × (t.block ≡ b)) → timed_of s ≡ some (record { block = b; time = time_of (timed_of s) })
    go (t, (e, f)) = rw (e, ← f)
