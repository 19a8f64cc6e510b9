-- Store and table stay in order and of bytes while records are told of. Assumes nothing.
use mathlib.Core.Path.{◌≡◌, refl, sym, ap, subst, ◌∙◌}
use mathlib.Core.Bool.{Bool, true, false}
use mathlib.Core.List.{List, [], ◌∷◌, flatten}
use mathlib.Core.Option.{Option, none, some, map, some-injective, none-ne-some}
use Prim.Native.Nat.{ℕ, zero, suc, ◌+◌}
use native.Mathlib.Omega.{arith}
use lib.Dec.{ltb}
use lib.ListN.{length, take, drop, replicate, length-replicate, take-append-drop}
use Rattle.base.specs.Lists.{pick}
use Rattle.base.specs.Le.{Bytes, le_bytes, le_at}
use Rattle.base.specs.Checks.{refusal, passes, Answer, refused, answered}
use Rattle.base.proofs.Le.{AllBytes, bytes_append, bytes_left, bytes_drop, bytes_le_bytes}
use Rattle.base.proofs.Lists.{Every, none_of, and}
use Rattle.committee.specs.Committee.{Committee}
use Rattle.record_spec.specs.Block.{Block}
use Rattle.record_spec.specs.Record.{block_of}
use Rattle.store_spec.specs.Layout.{Record, Entry, read_record, used_by, entries, first_position, next_position, entry_bytes, body_bytes, header_bytes, layout}
use Rattle.store_spec.specs.Store.{records_of, store_holding}
use Rattle.store_spec.proofs.Store.{records_of_bytes}
use Rattle.feed_spec.specs.Feed.{Lent, Fed, lent_of, feed_checks, refused_feed, accepted_feed, feed_record, feed}
use Rattle.feed_spec.proofs.Keeping.{State, feed_keeps}
use Rattle.mission_theorems.specs.Feeds.{fresh}
use Rattle.listing_input.specs.declared.Size.{Size}
use Rattle.listing_input.specs.declared.Size.TheVariants.{End, Broken, Of}
use Rattle.listing_input.specs.Input.{size_of}
use Rattle.listing_feed_steps.proofs.Feeds.{fresh_state}
use Rattle.listing_spec.specs.Output.{Frame, nothing, broken, framed, frame_of, frame_at, after_record, Feeding, start, fed_to, refused_with, accepted_with}
use Rattle.listing_spec.specs.Output.{left_by}
use Rattle.listing_spec.specs.Output.{told_by, told}
use Rattle.listing_theorems.specs.Whole.{Records, ends, goes}

-- ---- a store of bytes stays one

zero_bytes : (n : ℕ) → AllBytes (replicate n 0)
zero_bytes zero = tt
zero_bytes (suc n) = (omega arith, zero_bytes n)

bytes_take : (n : ℕ) (s : Bytes) → AllBytes s → AllBytes (take n s)
bytes_take n s h = bytes_left (take n s) (drop n s) (subst AllBytes (sym (take-append-drop n s)) h)

header_bytes_lem : (rs : List Record) → AllBytes (header_bytes rs)
unfolding header_bytes flatten
header_bytes_lem rs =
    bytes_append (le_bytes 4 (first_position (entries rs))) _ (bytes_le_bytes 4 (first_position (entries rs)))
    (bytes_append (le_bytes 4 (used_by rs)) _ (bytes_le_bytes 4 (used_by rs))
    (bytes_append (le_bytes 2 (length rs)) _ (bytes_le_bytes 2 (length rs)) (bytes_append (replicate 6 0) [] (zero_bytes 6) tt)))

body_bytes_lem : (es : List Entry) (rs : List Record) → Every (λ r. AllBytes r.bytes) rs → AllBytes (body_bytes es (entries rs))
unfolding body_bytes entry_bytes entries
body_bytes_lem es [] none_of = tt
body_bytes_lem es (r ∷ rs) (and h k) =
    bytes_append (body_bytes es (entries rs)) _ (body_bytes_lem es rs k)
    (bytes_append (le_bytes 4 (next_position es _)) _ (bytes_le_bytes 4 (next_position es _))
    (bytes_append (le_bytes 4 (length r.bytes)) r.bytes (bytes_le_bytes 4 (length r.bytes)) h))

layout_bytes : (rs : List Record) → Every (λ r. AllBytes r.bytes) rs → AllBytes (layout rs)
unfolding layout
layout_bytes rs h = bytes_append (header_bytes rs) (body_bytes (entries rs) (entries rs)) (header_bytes_lem rs) (body_bytes_lem (entries rs) rs h)

record-bytes : (b : Bytes) (r : Record) → read_record b ≡ some r → b ≡ r.bytes
unfolding read_record
record-bytes b r h = go (block_of b) h
  where
    go : (o : Option Block) → map (λ x. record { bytes = b; block = x }) o ≡ some r → b ≡ r.bytes
    go none k = absurd (none-ne-some r k)
    go (some x) k = ap (λ (q : Record). q.bytes) (some-injective _ _ k)

feed_bytes : (c : Committee) (m : Lent) (b : Bytes) → AllBytes b → AllBytes m.store → AllBytes (feed c m b).store
unfolding feed feed_record refused_feed accepted_feed store_holding
feed_bytes c m b h k = go (read_record b) refl
  where
    taken : (r : Record) → read_record b ≡ some r → (t : Bool)
        → AllBytes (pick t (accepted_feed c m r) (refused_feed m (refusal (feed_checks c m (some r))))).store
    taken r e true =
        bytes_append (layout (r ∷ records_of m.store)) _
        (layout_bytes (r ∷ records_of m.store) (and (subst AllBytes (record-bytes b r e) h) (records_of_bytes m.store k)))
        (bytes_drop (used_by (r ∷ records_of m.store)) m.store k)
    taken r e false = k

    go : (o : Option Record) → read_record b ≡ o → AllBytes (feed_record c m o).store
    go none e = k
    go (some r) e = taken r e (passes (feed_checks c m (some r)))

-- ---- while records are told of

pub record Held (c : Committee) (m : Feeding) : Type 0 where
  pub state : State c m.store m.table
  pub bytes : AllBytes m.store
  pub words : length m.table ≡ 6145

held_start : (c : Committee) → Held c start
unfolding start fresh
held_start c =
    record {
      state = fresh_state c 65520 6145 (omega arith) (omega arith);
      bytes = bytes_append (layout []) (replicate 65520 0) (layout_bytes [] none_of) (zero_bytes 65520);
      words = length-replicate {A = ℕ} 6145 0;
    }

frame_bytes : (z : Size) (s : Bytes) → AllBytes s → (b : Bytes) → frame_of z s ≡ framed b → AllBytes b
unfolding frame_of
frame_bytes z s h b e = go z e
  where
    framed_same : (x y : Bytes) → framed x ≡ framed y → x ≡ y
    framed_same x y k = cc

    never : (t : Bool) (n : ℕ) → pick t broken (framed (take n s)) ≡ framed b → AllBytes b
    never true n k = absurd (let q : ◌≡◌ {A = ℕ} 0 1 = cc in omega arith)
    never false n k = subst AllBytes (framed_same (take n s) b k) (bytes_take n s h)

    go : (z : Size) → frame_of z s ≡ framed b → AllBytes b
    go End k = absurd (let q : ◌≡◌ {A = ℕ} 0 1 = cc in omega arith)
    go Broken k = absurd (let q : ◌≡◌ {A = ℕ} 0 1 = cc in omega arith)
    go (Of n) k = never (ltb (length s) n) n k

module _ (c : Committee) where
  by_answer : (m : Feeding) (f : Fed) (a : Answer ℕ) → Held c (left_by m f) → Held c (told_by m f a).left
  unfolding told_by refused_with accepted_with
  by_answer m f (refused n) h = record { state = h.state; bytes = h.bytes; words = h.words }
  by_answer m f (answered n) h = record { state = h.state; bytes = h.bytes; words = h.words }

  held_told : (m : Feeding) (z : Frame) → ((b : Bytes) → z ≡ framed b → AllBytes b) → Held c m → Held c (told c m z).left
  unfolding told refused_with fed_to left_by
  held_told m nothing f h = h
  held_told m broken f h = record { state = h.state; bytes = h.bytes; words = h.words }
  held_told m (framed b) f h =
      let l : Lent = lent_of m.store m.table (replicate 6145 0) (replicate 8192 0) in
      let kept = feed_keeps c l b h.state in
      by_answer m (feed c l b) (feed c l b).answer
      (record { state = kept.state; bytes = feed_bytes c l b (f b refl) h.bytes; words = kept.table ∙ h.words })

  one : (m : Feeding) (s : Bytes) → AllBytes s → Held c m → Held c (told c m (frame_at s)).left
  unfolding frame_at
  one m s h k = held_told m (frame_at s) (frame_bytes (size_of (take 4 s)) (drop 4 s) (bytes_drop 4 s h)) k

  held_on : {m left : Feeding} {s lines : Bytes} → Records c m s lines left → AllBytes s → Held c m → Held c left
  unfolding after_record
  held_on {m} {s = s} (ends e) h k = one m s h k
  held_on {m} {s = s} (goes e on) h k = held_on on (bytes_drop (4 + le_at 4 s 0) s h) (one m s h k)

  pub held_records : {left : Feeding} {s lines : Bytes} → Records c start s lines left → AllBytes s → Held c left
  held_records on h = held_on on h (held_start c)
