-- The claims about the store: the chain of next positions, a fresh store, accepting. Assumes nothing.
use Prim.Native.Nat.{◌≤◌}
use mathlib.Core.Path.{◌≡◌, refl, sym, subst, ◌∙◌}
use mathlib.Core.Logic.{◌⊎◌, inl, inr}
use mathlib.Core.Bool.{Bool, true, false}
use mathlib.Core.List.{List, [], ◌∷◌, ◌++◌}
use mathlib.Core.Option.{Option, none, some, none-ne-some, some-injective}
use native.Mathlib.Omega.{arith}
use lib.ListN.{length, drop, length-append}
use lib.Seq.{take_at, drop_at}
use borrow.Author.Tests.{le-leb, le-ltb, lt-leb}
use Rattle.base.specs.Lists.{pick, keep, is_none, all_of, ◌∈◌, here, there}
use Rattle.base.specs.Le.{Bytes}
use Rattle.base.specs.Checks.{passes}
use Rattle.base.proofs.Tests.{and_left, and_right, fails, not_both}
use Rattle.base.proofs.Lists.{Every, none_of, and}
use Rattle.base.proofs.Members.{in_empty, in_cases, in_keep, keep_in}
use Rattle.committee.specs.Committee.{Committee}
use Rattle.record_spec.proofs.References.{reference_trans}
use Rattle.record_spec.proofs.Claimed.{bytes_fit}
use Rattle.store_spec.specs.Layout.{Record, Entry, reference_of, lesser, least, position_of, next_position, used_by, layout}
use Rattle.store_spec.specs.Accept.{block_checks, all_accepted}
use Rattle.store_spec.specs.Store.{used_length, records_of, allowed_length, store_full, store_holding}
use Rattle.store_spec.specs.Payload.{share_stretch, payload_of, payload_at, payload_checks, payload}
use Rattle.store_spec.specs.Claims.{NextOf, next, last, ChainMeant, Accepts, from_fresh, accepting, InOrderAccepted, FreshInOrder, AcceptingKeepsOrder}
use Rattle.store_spec.specs.Claims.{StoredShareMeant, PayloadMeant}
use Rattle.store_spec.proofs.Payloads.{payload_is}
use Rattle.store_spec.proofs.Shares.{stored_share, share_stored, share_has_payload}
use Rattle.store_spec.proofs.Chain.{lower, lower_self}
use Rattle.store_spec.proofs.Store.{Right, length_layout, read_record_some, records_of_right, InOrder, in_order_lem, used_within, used_is, Holding, holding}
use Rattle.store_spec.proofs.Store.{holding_again, accepting as accepting-holds, fresh_held}

-- ---- the least entry

-- one of them, and none is lower
record LeastOf (es : List Entry) (d : Entry) : Type 0 where
  stands : d ∈ es
  lowest : (f : Entry) → f ∈ es → lower f d ≡ false

-- what is not lower than d is not lower than what is lower than d
below : (e d f : Entry) → lower e d ≡ true → lower f d ≡ false → lower f e ≡ false
below e d f h k = fails (lower f e) (λ t. not_both (reference_trans (reference_of f) (reference_of e) (reference_of d) t h) k)

least_none : (es : List Entry) → least es ≡ none → (f : Entry) → f ∈ es → ⊥
unfolding least lesser
least_none [] h f m = in_empty m
least_none (e ∷ es) h f m = go (least es) h
  where
    other : (d : Entry) (t : Bool) → pick t (some e) (some d) ≡ none → ⊥
    other d true k = none-ne-some e (sym k)
    other d false k = none-ne-some d (sym k)

    go : (o : Option Entry) → lesser e o ≡ none → ⊥
    go none k = none-ne-some e (sym k)
    go (some d) k = other d (lower e d) k

least_of : (es : List Entry) (d : Entry) → least es ≡ some d → LeastOf es d
unfolding least lesser
least_of [] d h = absurd (none-ne-some d h)
least_of (e ∷ es) d h = go (least es) refl h (least_of es)
  where
    alone : least es ≡ none → e ≡ d → LeastOf (e ∷ es) d
    alone k q = subst (λ (x : Entry). LeastOf (e ∷ es) x) q (record { stands = here; lowest = λ f m. first f (in_cases m) })
      where
        first : (f : Entry) → (f ≡ e) ⊎ (f ∈ es) → lower f e ≡ false
        first f (inl r) = rw r (lower_self e)
        first f (inr m) = absurd (least_none es k f m)

    pair : (x : Entry) → LeastOf es x → (t : Bool) → lower e x ≡ t → pick t (some e) (some x) ≡ some d → LeastOf (e ∷ es) d
    pair x l true k q = let r : e ≡ d = some-injective _ _ q in subst (λ (y : Entry). LeastOf (e ∷ es) y) r
        (record { stands = here; lowest = λ f m. first f (in_cases m) })
      where
        first : (f : Entry) → (f ≡ e) ⊎ (f ∈ es) → lower f e ≡ false
        first f (inl r) = rw r (lower_self e)
        first f (inr m) = below e x f k (l.lowest f m)
    pair x l false k q = let r : x ≡ d = some-injective _ _ q in subst (λ (y : Entry). LeastOf (e ∷ es) y) r
        (record { stands = there l.stands; lowest = λ f m. first f (in_cases m) })
      where
        first : (f : Entry) → (f ≡ e) ⊎ (f ∈ es) → lower f x ≡ false
        first f (inl r) = rw r k
        first f (inr m) = l.lowest f m

    go : (o : Option Entry) → least es ≡ o → lesser e o ≡ some d → ((x : Entry) → least es ≡ some x → LeastOf es x) → LeastOf (e ∷ es) d
    go none k q ih = alone k (some-injective _ _ q)
    go (some x) k q ih = pair x (ih x k) (lower e x) refl q

-- ---- the claims

pub chain_meant : ChainMeant
unfolding ChainMeant next_position position_of
chain_meant es e = go (least (keep (lower e) es)) refl
  where
    go : (o : Option Entry) → least (keep (lower e) es) ≡ o → NextOf es e (position_of o)
    go none k = last (λ f m. fails (lower e f) (λ t. least_none (keep (lower e) es) k f (in_keep (lower e) es m t)))
    go (some d) k =
        let l : LeastOf (keep (lower e) es) d = least_of (keep (lower e) es) d k in
        let r = keep_in (lower e) es l.stands in
        next d r.0 r.1 (λ f m t. l.lowest f (in_keep (lower e) es m t))

pub fresh_in_order : FreshInOrder
unfolding FreshInOrder allowed_length store_holding used_by
fresh_in_order c past h =
    let s : Bytes = layout [] ++ past in
    let same : drop 16 s ≡ past = drop_at (layout []) past 16 (length_layout []) in
    rw same at (fresh_held c s (rw (le-leb 16 (length s) (omega (arith, length-append (layout []) past, length_layout []))) (le-leb (length s) 4294967295 h))
    ).order

pub accepting_keeps_order : AcceptingKeepsOrder
unfolding AcceptingKeepsOrder
accepting_keeps_order c s r o e p f = (accepting-holds c s r o (read_record_some r.bytes r e) p f).order

-- accepted records are held once they were accepted one after the other
accepts_all : (c : Committee) (rs : List Record) (s : Bytes) → allowed_length s ≡ true → Every Right rs → length rs ≤ 1024 → used_by rs ≤ length s
    → all_accepted
    c rs ≡ true
    → Accepts c s rs (store_holding rs s)
unfolding used_by all_accepted store_full
accepts_all c [] s a none_of few fits acc = from_fresh
accepts_all c (r ∷ rs) s a (and h hs) few fits acc = subst (λ (x : Bytes). Accepts c s (r ∷ rs) x) same
    (accepting r (accepts_all c rs s a hs (omega arith) (omega arith) older) h passed room)
  where
    older : all_accepted c rs ≡ true
    older = and_right (passes (block_checks c rs r.block)) _ acc

    before : Holding c rs s
    before = holding c rs s a hs (omega arith) (omega arith) older

    passed : passes (block_checks c (records_of (store_holding rs s)) r.block) ≡ true
    passed = rw before.records (and_left (passes (block_checks c rs r.block)) _ acc)

    room : store_full (store_holding rs s) r ≡ false
    room = rw (before.records, before.size, le-ltb (length s) (used_by (r ∷ rs)) fits, lt-leb 1024 (length rs) (omega arith))

    same : store_holding (r ∷ records_of (store_holding rs s)) (store_holding rs s) ≡ store_holding (r ∷ rs) s
    same = rw before.records (holding_again r rs s)

pub in_order_accepted : InOrderAccepted
unfolding InOrderAccepted store_holding allowed_length
in_order_accepted c s h f e =
    let i : InOrder c s = in_order_lem c s h in
    let rs : List Record = records_of s in
    let fits : used_by rs ≤ length f = omega (arith, e, used_within c s i) in
    record {
      after = store_holding rs f;
      accepts = accepts_all c rs f (rw e i.allowed) (records_of_right s) i.few fits i.accepted;
      used = take_at (layout rs) (drop (used_by rs) f) (used_length s) (length_layout rs ∙ sym (used_is c s i)) ∙ sym i.used;
    }

pub payload_meant : PayloadMeant
unfolding PayloadMeant payload payload_checks payload_at payload_of share_stretch is_none passes all_of
payload_meant c s b n h l e v f g = rw (n, h, share_has_payload c s h l, f, g) (rw (f, g) at (payload_is c s (bytes_fit s b) h l e v f g))

pub stored_share_meant : StoredShareMeant
unfolding StoredShareMeant
stored_share_meant bs l = (stored_share bs l, share_stored bs l)
