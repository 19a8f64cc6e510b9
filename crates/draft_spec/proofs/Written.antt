-- The written record shows what was given, and a record without neighbouring accepts is written anew. Assumes nothing.
use mathlib.Core.Path.{◌≡◌, refl, sym, ◌∙◌}
use mathlib.Core.List.{List, [], ◌∷◌, ◌++◌}
use mathlib.Core.Option.{Option, none, some, some-injective, none-ne-some}
use mathlib.Core.Bool.{Bool, true, false}
use Prim.Native.Nat.{ℕ, ◌^◌, ◌≤◌, ◌<◌}
use native.Mathlib.Omega.{arith}
use lib.Dec.{ltb}
use lib.ListN.{length, drop, length-append, length-drop}
use lib.Seq.{take_at, drop_at}
use borrow.Author.Tests.{ltb-true, ltb-false, le-ltb, eqb-true, eq-eqb, not-false}
use Rattle.base.specs.Lists.{pick, all_of, any_of, is_none}
use Rattle.base.specs.Le.{Bytes}
use Rattle.base.specs.Checks.{passes, refused, answered, checked}
use Rattle.base.proofs.Tests.{and_left, and_right, neither_left, neither_right, flag_back}
use Rattle.base.proofs.Lists.{Every, none_of, and, every}
use Rattle.base.proofs.Le.{AllBytes}
use Rattle.base.proofs.Checks.{passes_first, passes_others, passes_left, passes_right, checked_answered, checked_refused}
use Rattle.base.proofs.UpTo.{ReadAll}
use Rattle.record_spec.specs.Reference.{BlockReference, TransactionLocatorRange, locator}
use Rattle.record_spec.specs.Block.{Statement, share, accept, reject, vote_range, Block}
use Rattle.record_spec.specs.Record.{Timed, block_of, well_formed, reference_bytes, edition_for, timed_bytes}
use Rattle.record_spec.specs.Claims.{are_bytes}
use Rattle.record_spec.proofs.Claimed.{bytes_fit, time_fits}
use Rattle.record_spec.proofs.Records.{ReferenceFits, StatementFits, BlockFits, mark_byte, timed_of_timed_bytes, timed_back}
use Rattle.draft_spec.specs.Draft.{Draft, Request, includes_in, statements_in, with_parts, draft_in, given_bytes, taken_apart}
use Rattle.draft_spec.specs.Joining.{joined, no_neighbours}
use Rattle.draft_spec.specs.Writing.{written_block, record_bytes, is_long, form_checks, write_checks, write_draft, write_timed}
use Rattle.draft_spec.specs.Claims.{fits_request, LentMeant, Shows, WrittenWell, is_time, WrittenShows, RefusedStays, WrittenAnew}
use Rattle.draft_spec.proofs.Joining.{joins}
use Rattle.draft_spec.proofs.Joined.{joins_spread, joins_every, joined_alone}
use Rattle.draft_spec.proofs.Given.{GivenFits, statements_read, includes_read, statements_back, includes_back}

-- ---- what was read from the lent bytes

record RequestFits (q : Request) : Type 0 where
  author : q.author < 256 ^ 8
  round : q.round < 256 ^ 8
  digest : AllBytes q.digest
  includes : AllBytes q.includes
  statements : AllBytes q.statements

request_fits : (q : Request) → fits_request q ≡ true → RequestFits q
unfolding fits_request
request_fits q h =
    let h₁ = and_right (ltb q.author 18446744073709551616) _ h in
    let h₂ = and_right (ltb q.round 18446744073709551616) _ h₁ in
    let h₃ = and_right (are_bytes q.digest) _ h₂ in
    record {
      author = ltb-true q.author 18446744073709551616 (and_left _ _ h);
      round = ltb-true q.round 18446744073709551616 (and_left _ _ h₁);
      digest = bytes_fit q.digest (and_left _ _ h₂);
      includes = bytes_fit q.includes (and_left _ _ h₃);
      statements = bytes_fit q.statements (and_right (are_bytes q.includes) _ h₃);
    }

record Drafted (q : Request) (d : Draft) : Type 0 where
  author : d.author ≡ q.author
  round : d.round ≡ q.round
  digest : d.digest ≡ q.digest
  mark : d.mark ≡ q.mark
  includes : ReadAll reference_bytes ReferenceFits q.includes d.includes
  statements : ReadAll given_bytes GivenFits q.statements d.statements

drafted : (q : Request) (d : Draft) → RequestFits q → draft_in q ≡ some d → Drafted q d
unfolding draft_in with_parts
drafted q d f h = go (includes_in q.includes) (statements_in q.statements) refl refl h
  where
    go : (is : Option (List BlockReference)) (ss : Option (List Statement)) → includes_in q.includes ≡ is → statements_in q.statements ≡ ss → with_parts q
        is ss ≡ some d → Drafted q d
    go none ss e k g = absurd (none-ne-some d g)
    go (some is) none e k g = absurd (none-ne-some d g)
    go (some is) (some ss) e k g =
        rw (← some-injective _ _ g)
        (record {
          author = refl;
          round = refl;
          digest = refl;
          mark = refl;
          includes = includes_back q.includes is f.includes e;
          statements = statements_back q.statements ss f.statements k;
        })

pub lent_meant : LentMeant
unfolding LentMeant
lent_meant q d f e =
    let g : Drafted q d = drafted q d (request_fits q f) e in
    record { includes = sym g.includes.are; statements = sym g.statements.are }

-- ---- what the checks say

pub record Writable (d : Draft) : Type 0 where
  pub size : length d.digest ≡ 32
  pub mark : d.mark ≤ 1
  pub few_includes_lem : length d.includes ≤ 256
  pub short : any_of is_long d.statements ≡ false
  pub few_statements_lem : length (joined d.statements) ≤ 1024

pub writable : (d : Draft) → passes (form_checks d) ≡ true → Writable d
unfolding form_checks
writable d h =
    let h₁ = passes_others _ _ h in
    let h₂ = passes_others _ _ h₁ in
    let h₃ = passes_others _ _ h₂ in
    let h₄ = passes_others _ _ h₃ in
    record {
      size = eqb-true (length d.digest) 32 (not-false _ (passes_first _ _ h));
      mark = ltb-false 1 d.mark (passes_first _ _ h₁);
      few_includes_lem = ltb-false 256 (length d.includes) (passes_first _ _ h₂);
      short = passes_first _ _ h₃;
      few_statements_lem = ltb-false 1024 (length (joined d.statements)) (passes_first _ _ h₄);
    }

short_one : (s : Statement) → is_long s ≡ false → GivenFits s → StatementFits s
unfolding is_long
short_one (share v) e f = (omega (arith, ltb-false 65535 (length v) e), f.1)
short_one (accept l) e f = f
short_one (reject l o) e f = f
short_one (vote_range r) e f = f

short_fits : (ss : List Statement) → any_of is_long ss ≡ false → Every GivenFits ss → Every StatementFits ss
unfolding any_of
short_fits [] h none_of = none_of
short_fits (s ∷ ss) h (and f fs) = and (short_one s (neither_left _ _ h) f) (short_fits ss (neither_right (is_long s) _ h) fs)

range_fits : (r : TransactionLocatorRange) → r.start < r.end → r.end < 1048576 → StatementFits (accept (locator r.block r.start)) → StatementFits
    (vote_range r)
unfolding locator
range_fits r k l h = record { block = h.block; start = h.offset; end = omega arith }

block_fits : (q : Request) (d : Draft) → RequestFits q → Drafted q d → Writable d → BlockFits (written_block d)
unfolding written_block
block_fits q d f g w =
    record {
      reference = record { author = rw g.author f.author; round = rw g.round f.round; size = w.size; bytes = rw g.digest f.digest };
      few_includes = w.few_includes_lem;
      few_statements = w.few_statements_lem;
      includes = g.includes.right;
      statements = joins_every range_fits (joins d.statements) (short_fits d.statements w.short g.statements.right);
    }

-- ---- the slice afterwards

module _ (o : Option ℕ) where
  shows_given : is_time o ≡ true → (q : Request) (d : Draft) → RequestFits q → draft_in q ≡ some d → passes (form_checks d) ≡ true
      → Shows o q (record_bytes o d)
  unfolding is_time record_bytes written_block
  shows_given t q d f e p =
      let g : Drafted q d = drafted q d f e in
      let w : Writable d = writable d p in
      record {
        draft = d;
        given = e;
        block = written_block d;
        reads = timed_of_timed_bytes (record { block = written_block d; time = o })
            (record { block = block_fits q d f g w; time = time_fits (edition_for o) o t });
        author = g.author;
        round = g.round;
        digest = g.digest;
        mark = sym (mark_byte d.mark w.mark) ∙ g.mark;
        includes = refl;
        statements = joins d.statements;
        places = refl;
        spread = joins_spread (joins d.statements);
      }

  shows_well : (q : Request) (r : Bytes) → Shows o q r → well_formed r ≡ true
  unfolding well_formed block_of is_none
  shows_well q r s = rw s.reads

  -- the first n bytes, and those past them
  front_well : (q : Request) (out r : Bytes) (n : ℕ) → length r ≡ n → length r ≤ length out → Shows o q r → WrittenWell o q out n (r ++ drop (length r) out)
  front_well q out r n e k s =
      record {
        fits = omega arith;
        well_formed = rw (take_at r (drop (length r) out) n e) (shows_well q r s);
        shows = rw (take_at r (drop (length r) out) n e) s;
        past = drop_at r (drop (length r) out) n e ∙ rw e;
        size = omega (arith, length-append r (drop (length r) out), length-drop (length r) out);
      }

  drafted_well : is_time o ≡ true → (q : Request) (d : Draft) (out : Bytes) (n : ℕ) → RequestFits q → draft_in q ≡ some d → (write_draft o (some d) out).answer
      ≡
      answered n
      → WrittenWell o q out n (write_draft o (some d) out).out
  unfolding write_draft write_checks
  drafted_well t q d out n f e h =
      let c = checked_answered (write_checks o d out) (length (record_bytes o d)) n h in
      let fits : ltb (length out) (length (record_bytes o d)) ≡ false = passes_first _ _ (passes_right (form_checks d) _ c.0) in
      rw c.0
      (front_well q out (record_bytes o d) n c.1 (ltb-false (length out) (length (record_bytes o d)) fits)
      (shows_given t q d f e (passes_left (form_checks d) _ c.0)))

pub written_shows : WrittenShows
unfolding WrittenShows write_timed write_draft
written_shows o q out n t f h = go (draft_in q) refl h
  where
    go : (p : Option Draft) → draft_in q ≡ p → (write_draft o p out).answer ≡ answered n → WrittenWell o q out n (write_draft o p out).out
    go none e k = let z : ◌≡◌ {A = ℕ} 0 1 = cc in absurd (omega arith)
    go (some d) e k = drafted_well o t q d out n (request_fits q f) e k

-- ---- a refusal writes nothing

pub refused_stays : RefusedStays
unfolding RefusedStays write_timed write_draft
refused_stays o q out n h = go (draft_in q) h
  where
    go : (p : Option Draft) → (write_draft o p out).answer ≡ refused n → (write_draft o p out).out ≡ out
    go none k = refl
    go (some d) k = rw (checked_refused (write_checks o d out) (length (record_bytes o d)) n k)

-- ---- written anew

-- the draft of a block
draft_of : Block → Draft
draft_of b =
    record {
      author = b.reference.authority;
      round = b.reference.round;
      digest = b.reference.digest;
      mark = pick b.marked 1 0;
      includes = b.includes;
      statements = b.statements;
    }

given_one : (s : Statement) → StatementFits s → GivenFits s
given_one (share v) f = (omega (arith, f.0), f.1)
given_one (accept l) f = f
given_one (reject l o) f = f
given_one (vote_range r) f = f

apart_reads : (b : Block) → BlockFits b → draft_in (taken_apart b) ≡ some (draft_of b)
unfolding draft_in taken_apart with_parts draft_of
apart_reads b f = rw (includes_read b.includes f.includes, statements_read b.statements (every given_one b.statements f.statements))

none_long : (ss : List Statement) → Every StatementFits ss → any_of is_long ss ≡ false
unfolding any_of is_long
none_long [] none_of = refl
none_long (s ∷ ss) (and f fs) = rw (short s f) (none_long ss fs)
  where
    short : (s : Statement) → StatementFits s → is_long s ≡ false
    short (share v) f = le-ltb 65535 (length v) (omega (arith, f.0))
    short (accept l) f = refl
    short (reject l o) f = refl
    short (vote_range r) f = refl

mark_low : (m : Bool) → ltb 1 (pick m 1 0) ≡ false
mark_low true = refl
mark_low false = refl

module _ (t : Timed) (f : BlockFits t.block) (k : no_neighbours t.block.statements ≡ true) where
  abbrev b : Block
  b = t.block

  anew_bytes : record_bytes t.time (draft_of b) ≡ timed_bytes t
  unfolding record_bytes written_block draft_of
  anew_bytes = rw (flag_back b.marked, joined_alone b.statements k)

  anew_passes : (out : Bytes) → length (timed_bytes t) ≤ length out → passes (write_checks t.time (draft_of b) out) ≡ true
  unfolding write_checks form_checks passes all_of draft_of
  anew_passes out l =
      rw (
        eq-eqb (length b.reference.digest) 32 f.reference.size,
        mark_low b.marked,
        le-ltb 256 (length b.includes) f.few_includes,
        none_long b.statements f.statements,
        joined_alone b.statements k,
        le-ltb 1024 (length b.statements) f.few_statements,
        anew_bytes,
        le-ltb (length out) (length (timed_bytes t)) l,
      )

  anew_written : (out : Bytes) → length (timed_bytes t) ≤ length out
      → write_timed t.time (taken_apart b) out ≡ record { answer = answered (length (timed_bytes t)); out = timed_bytes t ++ drop (length (timed_bytes t)) out }
  unfolding write_timed write_draft checked
  anew_written out l = rw (apart_reads b f, anew_passes out l, anew_bytes)

pub written_anew : WrittenAnew
unfolding WrittenAnew
written_anew r out t a e k l =
    let o = timed_back r t (bytes_fit r a) e in
    let same : timed_bytes t ≡ r = sym o.are in
    rw same at (anew_written t o.right.block k out (rw same l))
