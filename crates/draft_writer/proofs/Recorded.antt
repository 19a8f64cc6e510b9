-- The parts of a record one after the other, and the writer's answers. Assumes nothing.
use mathlib.Core.Path.{◌≡◌, refl, sym, ◌∙◌}
use mathlib.Core.List.{List, [], ◌∷◌, ◌++◌}
use mathlib.Core.Option.{Option, none, some}
use mathlib.Core.Bool.{Bool, true, false, not, ◌&&◌}
use Prim.Native.Nat.{ℕ, ◌+◌, ◌≤◌, ◌<◌}
use native.Mathlib.Nat.{zero-add}
use native.Mathlib.Omega.{arith}
use lib.Dec.{ltb}
use lib.ListN.{length, drop, length-append}
use lib.Seq.{sets, sets-eq}
use borrow.Author.Tests.{lt-ltb, le-ltb}
use Rattle.base.specs.Lists.{pick, all_of}
use Rattle.base.specs.Checks.{Check, ◌⇒◌, refusal, passes, refused, answered, checked}
use Rattle.base.proofs.Tests.{not_both}
use Rattle.base.proofs.Lists.{Every, none_of, and}
use Rattle.base.proofs.Checks.{refusal_append}
use Rattle.base.proofs.Passing.{passes_append}
use Rattle.base.proofs.Le.{sets_append}
use Rattle.record_spec.specs.Record.{time_bytes}
use Rattle.draft_spec.specs.Draft.{Draft, Request, draft_in}
use Rattle.draft_spec.specs.Joining.{joined}
use Rattle.draft_spec.specs.Writing.{record_bytes, form_checks, write_checks, write_draft, write_timed}
use Rattle.draft_size.specs.Step.{sized_up}
use Rattle.std.specs.Prelude.{Some, None}
use Rattle.std.specs.declared.option.Option as code
use Rattle.draft_size.proofs.Sizing.{Plan}

-- ---- the record in the slice

-- what is written from the front on
pub record-written : (l a b t c d : List ℕ) (k n : ℕ) → length a ≡ 48 → length b ≡ 5 → length t ≡ 3 + k → length c ≡ n → 56 + k + n + length d ≤ length l
    → sets (sets (sets (sets (sets l 0 a) 48 b) 53 t) (56 + k) c) (56 + k + n) d ≡ (a ++ (b ++ (t ++ (c ++ d)))) ++ drop
    (length (a ++ (b ++ (t ++ (c ++ d))))) l
record-written l a b t c d k n p q u r h =
    let all = a ++ (b ++ (t ++ (c ++ d))) in
    let size : length all ≡ 56 + k + n + length d = omega (
      arith,
      length-append a (b ++ (t ++ (c ++ d))),
      length-append b (t ++ (c ++ d)),
      length-append t
          (c ++ d),
      length-append c d,
    ) in
    let body : 53 + (3 + k) ≡ 56 + k = omega arith in
    sym (rw (
      sets_append a (b ++ (t ++ (c ++ d))) l 0,
      p,
      sets_append b (t ++ (c ++ d)) (sets l 0 a) 48,
      q,
      sets_append t (c ++ d) (sets (sets l 0 a) 48 b) 53,
      u,
      body,
      sets_append c d (sets (sets (sets l 0 a) 48 b) 53 t) (56 + k),
      r,
    ))
    ∙ sets-eq all l 0 (omega arith)
    ∙ rw (zero-add (length all))

-- ---- the answers

refusal_same : (n : ℕ) (ks : List Check) → Every (λ k. k.number ≡ n) ks → passes ks ≡ false → refusal ks ≡ n
unfolding passes all_of refusal
refusal_same n [] none_of h = absurd (not_both refl h)
refusal_same n (k ∷ ks) (and e es) h = go k.applies h (refusal_same n ks es)
  where
    go : (t : Bool) → not t && passes ks ≡ false → (passes ks ≡ false → refusal ks ≡ n) → pick t k.number (refusal ks) ≡ n
    go true k ih = e
    go false k ih = ih k

-- one check
one_fails : (n : ℕ) (t : Bool) → t ≡ true → passes ((t ⇒ n) ∷ []) ≡ false
unfolding passes all_of
one_fails n t h = rw h

one_passes : (n : ℕ) (t : Bool) → t ≡ false → passes ((t ⇒ n) ∷ []) ≡ true
unfolding passes all_of
one_passes n t h = rw h

-- a draft to which 51 applies
malformed : (d : Draft) → sized_up (some d) ≡ None → passes (form_checks d) ≡ false
unfolding sized_up
malformed d k = test (passes (form_checks d)) k
  where
    test : (t : Bool) → pick {A = code.Option (ℕ × ℕ)} t (Some (length (joined d.statements), length (record_bytes none d))) None ≡ None → t ≡ false
    test true k = let z : ◌≡◌ {A = ℕ} 0 1 = cc in absurd (omega arith)
    test false k = refl

refuses_draft : (o : Option ℕ) (d : Draft) (out : List ℕ) → passes (form_checks d) ≡ false → write_draft o (some d) out ≡ record
    { answer = refused 51; out = out }
unfolding form_checks write_draft checked write_checks
refuses_draft o d out f =
    let short = (ltb (length out) (length (record_bytes o d)) ⇒ 50) ∷ [] in
    let none_passes : passes (form_checks d ++ short) ≡ false = rw (passes_append (form_checks d) short, f) in
    let first : refusal (form_checks d ++ short) ≡ 51 =
    rw (refusal_append (form_checks d) short, f) (refusal_same 51 (form_checks d) (and refl (and refl (and refl (and refl (and refl none_of))))) f) in
    rw (none_passes, first)

module _ (o : Option ℕ) (q : Request) (out : List ℕ) where
  -- 51
  pub refuses_form : sized_up (draft_in q) ≡ None → write_timed o q out ≡ record { answer = refused 51; out = out }
  unfolding write_timed write_draft
  refuses_form h = go (draft_in q) h
    where
      go : (x : Option Draft) → sized_up x ≡ None → write_draft o x out ≡ record { answer = refused 51; out = out }
      go none k = refl
      go (some d) k = refuses_draft o d out (malformed d k)

  module _ (count bytes : ℕ) (p : Plan q count bytes) where
    -- 50
    pub refuses_short : length out < bytes + length (time_bytes o) → write_timed o q out ≡ record { answer = refused 50; out = out }
    unfolding write_timed write_draft checked write_checks refusal
    refuses_short h =
        let d = p.draft in
        let short = (ltb (length out) (length (record_bytes o d)) ⇒ 50) ∷ [] in
        let applies : ltb (length out) (length (record_bytes o d)) ≡ true = lt-ltb (length out) (length (record_bytes o d)) (omega (arith, p.whole o)) in
        let stops : passes short ≡ false = one_fails 50 _ applies in
        let none_passes : passes (form_checks d ++ short) ≡ false = rw (passes_append (form_checks d) short, p.passed, stops) in
        let then : refusal (form_checks d ++ short) ≡ 50 = rw (refusal_append (form_checks d) short, p.passed, applies) in
        rw (p.given, none_passes, then)

    pub writes_record : bytes + length (time_bytes o) ≤ length out → write_timed o q out ≡ record
        { answer = answered (bytes + length (time_bytes o)); out = record_bytes o p.draft ++ drop (length (record_bytes o p.draft)) out }
    unfolding write_timed write_draft checked write_checks
    writes_record h =
        let d = p.draft in
        let short = (ltb (length out) (length (record_bytes o d)) ⇒ 50) ∷ [] in
        let room : ltb (length out) (length (record_bytes o d)) ≡ false = le-ltb (length out) (length (record_bytes o d)) (omega (arith, p.whole o)) in
        let goes : passes short ≡ true = one_passes 50 _ room in
        let all_pass : passes (form_checks d ++ short) ≡ true = rw (passes_append (form_checks d) short, p.passed, goes) in
        rw (p.given, all_pass, ← p.whole o)
