-- Writing a record: the first refusal or its length, and the lent slice afterwards. Assumes nothing: these are definitions.
use Rattle.std.specs.Prelude.{ℕ, Bool, false, not, List, [], ◌∷◌, ◌++◌, ltb, eqb, length, drop}
use Rattle.std.proofs.Math.Option.{Option, none, some}
use Rattle.base.specs.Lists.{pick, any_of}
use Rattle.base.specs.Le.{Bytes}
use Rattle.base.specs.Checks.{Check, ◌⇒◌, passes, Answer, refused, checked}
use Rattle.record_spec.specs.Block.{Statement, share, accept, reject, vote_range, Block}
use Rattle.record_spec.specs.Record.{timed_bytes}
use Rattle.draft_spec.specs.Draft.{Draft, Request, draft_in}
use Rattle.draft_spec.specs.Joining.{joined}

-- 02: "A share's offset is its place in the written record": the block that is written
unfoldable pub written_block : Draft → Block
written_block d =
    record {
      reference = record { authority = d.author; round = d.round; digest = d.digest };
      marked = eqb d.mark 1;
      includes = d.includes;
      statements = joined d.statements;
    }

-- 02: "it writes one record"; "the writer writes 2 where a time is given"
unfoldable pub record_bytes : Option ℕ → Draft → Bytes
record_bytes o d = timed_bytes (record { block = written_block d; time = o })

-- 02: "A payload over 65,535 bytes"
unfoldable pub is_long : Statement → Bool
is_long (share payload) = ltb 65535 (length payload)
is_long (accept l) = false
is_long (reject l other) = false
is_long (vote_range r) = false

-- 02: "A payload over 65,535 bytes, a kind or mark outside 01, over 256 includes or, after joining, over 1,024 statements answer 51"; a digest
-- not of 32 bytes too
unfoldable pub form_checks : Draft → List Check
form_checks d =
    (not (eqb (length d.digest) 32) ⇒ 51)
    ∷ (ltb 1 d.mark ⇒ 51)
    ∷ (ltb 256 (length d.includes) ⇒ 51)
    ∷ (any_of is_long d.statements ⇒ 51)
    ∷ (ltb 1024 (length (joined d.statements)) ⇒ 51)
    ∷ []

-- 02: "then a slice too short answers 50"
unfoldable pub write_checks : Option ℕ → Draft → Bytes → List Check
write_checks o d out = form_checks d ++ ((ltb (length out) (length (record_bytes o d)) ⇒ 50) ∷ [])

-- what writing answers, and the slice that it was lent afterwards
pub record Written : Type 0 where
  pub answer : Answer ℕ
  pub out : Bytes

-- 02: "writes one record into a lent slice and answers its length; as with every writer below, bytes past it stay"
unfoldable pub write_draft : Option ℕ → Option Draft → Bytes → Written
write_draft o none out = record { answer = refused 51; out = out }
write_draft o (some d) out =
    record {
      answer = checked (write_checks o d out) (length (record_bytes o d));
      out = pick (passes (write_checks o d out)) (record_bytes o d ++ drop (length (record_bytes o d)) out) out;
    }

-- with the time of its creation, where one is given
unfoldable pub write_timed : Option ℕ → Request → Bytes → Written
write_timed o q out = write_draft o (draft_in q) out

unfoldable pub write_record : Request → Bytes → Written
write_record q out = write_timed none q out
