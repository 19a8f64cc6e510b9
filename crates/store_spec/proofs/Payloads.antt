-- The stretch that the payload question gives is the share's payload. Assumes nothing.
use mathlib.Core.Path.{◌≡◌, sym, ap, ◌∙◌}
use mathlib.Core.List.{List, [], ◌∷◌, ◌++◌, map, flatten}
use mathlib.Core.Option.{some, some-injective, none-ne-some}
use mathlib.Core.Bool.{Bool, true}
use Prim.Native.Nat.{ℕ, zero, suc, ◌+◌, ◌*◌}
use native.Mathlib.Omega.{arith}
use lib.ListN.{length, take, drop, get_elem?, take-append-drop}
use Rattle.base.specs.Lists.{pick, sum_of, ◌∈◌, here, there}
use Rattle.base.specs.Le.{Bytes, le_bytes}
use Rattle.base.proofs.Lists.{Every, none_of, and, find_in, find_every}
use Rattle.base.proofs.Le.{AllBytes, length_le_bytes}
use Rattle.base.proofs.Parts.{PartOf, part_taken, part_complete, part_left, part_right, part_part, part_at_lem, part_same}
use Rattle.committee.specs.Committee.{Committee}
use Rattle.record_spec.specs.Reference.{TransactionLocator, same_reference}
use Rattle.record_spec.specs.Block.{Statement, share, Block}
use Rattle.record_spec.specs.Record.{Edition, Timed, edition_bytes, block_of, time_in, reference_bytes, statement_bytes, statement_start, time_bytes, bytes_in}
use Rattle.record_spec.specs.Record.{edition_for, timed_bytes}
use Rattle.record_spec.proofs.Records.{BlockFits, three_bytes, length_reference, length_includes, timed_back, block_in_lem, timed_of_lem}
use Rattle.record_spec.proofs.Places.{starts}
use Rattle.store_spec.specs.Layout.{Record, Entry, reference_of, entries, next_position, entry_bytes, body_bytes, header_bytes, layout, lookup}
use Rattle.store_spec.specs.Store.{used_length, records_of, store_in_order}
use Rattle.store_spec.specs.Payload.{share_stretch, payload_of, payload_at, stretch_of}
use Rattle.store_spec.proofs.Store.{Right, InOrder, in_order_lem, records_of_right, records_of_bytes, right_block, length_body, length_header}

-- ---- in a block's bytes

statement_part : (ss : List Statement) (o : ℕ) (s : Statement) → get_elem? ss o ≡ some s
    → PartOf (flatten (map statement_bytes ss)) (statement_bytes s) (sum_of (map (λ x. length (statement_bytes x)) (take o ss)))
unfolding flatten sum_of
statement_part [] o s h = absurd (none-ne-some s h)
statement_part (x ∷ ss) zero s h = rw (← some-injective _ _ h)
    (part_left (statement_bytes x) (statement_bytes x) (flatten (map statement_bytes ss)) 0 (part_complete (statement_bytes x)))
statement_part (x ∷ ss) (suc o) s h = part_right (statement_bytes x) (flatten (map statement_bytes ss)) (statement_bytes s) _ (statement_part ss o s h)

share_part : (v : Bytes) → PartOf (statement_bytes (share v)) v 3
unfolding statement_bytes
share_part v =
    let kind : List ℕ = 0 ∷ le_bytes 2 (length v) in
    part_at_lem (kind ++ v) v (length kind + 0) 3 (omega (arith, length_le_bytes 2 (length v))) (part_right kind v v 0 (part_complete v))

-- a statement stands where statement_start says
timed_part : (e : Edition) (t : Timed) (o : ℕ) (s : Statement) → BlockFits t.block → get_elem? t.block.statements o ≡ some s
    → PartOf (bytes_in e t) (statement_bytes s) (56 + length (time_bytes t.time) + 48 * length t.block.includes + sum_of
    (map (λ x. length (statement_bytes x)) (take o t.block.statements)))
unfolding bytes_in flatten
timed_part e t o s f h =
    let b : Block = t.block in
    part_at_lem (bytes_in e t) (statement_bytes s) _ _
    (omega (
      arith,
      length_reference b.reference f.reference,
      length_le_bytes 2 (length b.includes),
      length_le_bytes 2 (length b.statements),
      three_bytes e,
      length_includes b.includes f.includes,
    ))
    (part_right (reference_bytes b.reference) _ _ _
    (part_right (pick b.marked 1 0 ∷ []) _ _ _
    (part_right (le_bytes 2 (length b.includes)) _ _ _
    (part_right (le_bytes 2 (length b.statements)) _ _ _
    (part_right (edition_bytes e) _ _ _
    (part_right (time_bytes t.time) _ _ _
    (part_right (flatten (map reference_bytes b.includes)) _ _ _
    (part_left (flatten (map statement_bytes b.statements)) _ [] (sum_of (map (λ x. length (statement_bytes x)) (take o b.statements)))
    (statement_part b.statements o s h)))))))))

record-part : (r : Bytes) (b : Block) (o : ℕ) (s : Statement) → AllBytes r → block_of r ≡ some b → get_elem? b.statements o ≡ some s → PartOf r
    (statement_bytes s) (statement_start r o)
unfolding statement_start timed_bytes
record-part r b o s bytes h k =
    let t : Timed = record { block = b; time = time_in r } in
    let one = timed_back r t bytes (timed_of_lem r b h) in
    rw (block_in_lem r b h, starts r t bytes (timed_of_lem r b h)) (part_same r _ (statement_bytes s) _ one.are
    (timed_part (edition_for (time_in r)) t o s one.right.block k))

-- ---- in the store

pub entry_part : (es : List Entry) (e : Entry) → PartOf (entry_bytes es e) e.bytes 8
unfolding entry_bytes
entry_part es e =
    part_at_lem (entry_bytes es e) e.bytes (length (le_bytes 4 (next_position es e)) + (length (le_bytes 4 (length e.bytes)) + 0)) 8
    (omega (arith, length_le_bytes 4 (next_position es e), length_le_bytes 4 (length e.bytes)))
    (part_right (le_bytes 4 (next_position es e)) _ _ _ (part_right (le_bytes 4 (length e.bytes)) e.bytes e.bytes 0 (part_complete e.bytes)))

-- an entry stands at its position
pub body_part : (es : List Entry) (rs : List Record) (e : Entry) → e ∈ entries rs → (n : ℕ) × PartOf (body_bytes es (entries rs)) (entry_bytes es e) n ×
    (16 + n ≡ e.position)
unfolding body_bytes entries
body_part es [] e x' = elim x' [ ]
body_part es (r ∷ rs) e here =
    let body : List ℕ = body_bytes es (entries rs) in
    (length body + 0, part_right body (entry_bytes es e) (entry_bytes es e) 0 (part_complete (entry_bytes es e)), omega (arith, length_body es rs))
body_part es (r ∷ rs) e (there m) =
    let p = body_part es rs e m in
    (p.0, part_left (body_bytes es (entries rs)) (entry_bytes es e) _ p.0 p.1, p.2)

pub layout_part : (rs : List Record) (e : Entry) → e ∈ entries rs → PartOf (layout rs) e.bytes (e.position + 8)
unfolding layout
layout_part rs e m =
    let es : List Entry = entries rs in
    let p = body_part es rs e m in
    part_at_lem (layout rs) e.bytes (length (header_bytes rs) + (p.0 + 8)) (e.position + 8) (omega (arith, length_header rs, p.2))
    (part_right (header_bytes rs) (body_bytes es es) e.bytes (p.0 + 8)
    (part_part (body_bytes es es) (entry_bytes es e) e.bytes p.0 8 p.1 (entry_part es e)))

-- what a stored entry's bytes are
record Stored (e : Entry) : Type 0 where
  says : block_of e.bytes ≡ some e.block
  bytes : AllBytes e.bytes

stored : (rs : List Record) → Every Right rs → Every (λ r. AllBytes r.bytes) rs → Every Stored (entries rs)
unfolding entries
stored [] none_of none_of = none_of
stored (r ∷ rs) (and h hs) (and b bs) = and (record { says = right_block r h; bytes = b }) (stored rs hs bs)

-- the stretch that is given back is the share's payload
pub payload_is : (c : Committee) (s : Bytes) → AllBytes s → store_in_order c s ≡ true → (l : TransactionLocator) (e : Entry) (v : Bytes)
    → lookup (entries (records_of s)) l.block ≡ some e → get_elem? e.block.statements l.offset ≡ some (share v) → stretch_of (payload_at s l) s ≡ v
unfolding payload_at payload_of share_stretch stretch_of lookup
payload_is c s b h l e v f g =
    let rs : List Record = records_of s in
    let i : InOrder c s = in_order_lem c s h in
    let u : ℕ = used_length s in
    let here-is : Entry → Bool = λ d. same_reference (reference_of d) l.block in
    let q : Stored e = find_every here-is (entries rs) e f (stored rs (records_of_right s) (records_of_bytes s b)) in
    let split : s ≡ layout rs ++ drop u s = sym (take-append-drop u s) ∙ ap (λ (k : Bytes). k ++ drop u s) i.used in
    let outer : PartOf s e.bytes (e.position + 8) = part_same s _ e.bytes _ split
    (part_left (layout rs) e.bytes (drop u s) _ (layout_part rs e (find_in here-is (entries rs) e f))) in
    let inner : PartOf e.bytes v (statement_start e.bytes l.offset + 3) =
    part_part e.bytes (statement_bytes (share v)) v _ 3 (record-part e.bytes e.block l.offset (share v) q.bytes q.says g) (share_part v) in
    rw (f, g) (part_taken s v _ (part_at_lem s v _ (e.position + 8 + statement_start e.bytes l.offset + 3) (omega arith)
    (part_part s e.bytes v _ _ outer inner)))
