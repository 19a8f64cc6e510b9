-- No check of a feed looks at payloads. Assumes nothing.
use mathlib.Core.Path.{◌≡◌, refl, sym, ap, ap₂, ◌∙◌}
use mathlib.Core.Bool.{Bool, true, false, not, ◌&&◌}
use mathlib.Core.List.{List, [], ◌∷◌, ◌++◌, map, flatten}
use mathlib.Core.Option.{Option, some}
use Prim.Native.Nat.{ℕ, ◌+◌, ◌-◌, ◌*◌}
use lib.Dec.{eqb}
use lib.ListN.{length, length-map}
use Rattle.base.specs.Lists.{pick, any_of, all_of, pairwise, find, holds, is_empty, sum_of, count_from, same}
use Rattle.base.specs.Checks.{Check, ◌⇒◌}
use Rattle.committee.specs.Committee.{Committee}
use Rattle.committee_set.specs.AuthoritySet.{member}
use Rattle.committee_aggregator.specs.StakeAggregator.{aggregator_in_order}
use Rattle.record_spec.specs.Reference.{BlockReference, TransactionLocatorRange, same_reference}
use Rattle.record_spec.specs.Block.{Statement, share, accept, reject, vote_range, Block, author, round, is_share_at, voted_range, counted_offsets, event_room}
use Rattle.record_spec.specs.Verify.{head_checks, include_checks, statement_checks, previous_authors, clock_valid, body_checks}
use Rattle.store_spec.specs.Layout.{Record, used_by, Entry, entries}
use Rattle.store_spec.specs.Accept.{is_stored, block_checks}
use Rattle.pending_spec.specs.Items.{Item, item_before, item_full}
use Rattle.pending_spec.specs.Table.{table_of, items_of, shares_in, item_suits, item_stored, item_in_order, table_in_order}
use Rattle.load_spec.specs.Needs.{emptied, without_payloads}
use Rattle.payload_theorems.specs.Apart.{Shape, shape}
use Rattle.payload_theorems.specs.Claims.{Seen, seen}
use Rattle.payload_theorems.proofs.Blocks.{share_at, same_range}

-- ---- a block by itself

statement_same : (s : Statement) → statement_checks (emptied s) ≡ statement_checks s
unfolding statement_checks emptied
statement_same (share p) = refl
statement_same (accept l) = refl
statement_same (reject l other) = refl
statement_same (vote_range r) = refl

statements_same : (ss : List Statement) → flatten (map statement_checks (map emptied ss)) ≡ flatten (map statement_checks ss)
unfolding flatten
statements_same [] = refl
statements_same (s ∷ ss) = ap₂ (λ (xs ys : List Check). xs ++ ys) (statement_same s) (statements_same ss)

empty_same : (ss : List Statement) → is_empty (map emptied ss) ≡ is_empty ss
unfolding is_empty
empty_same [] = refl
empty_same (s ∷ ss) = refl

rooms_same : (ss : List Statement) → sum_of (map (λ s. counted_offsets (voted_range s)) (map emptied ss))
    ≡ sum_of (map (λ s. counted_offsets (voted_range s)) ss)
unfolding sum_of
rooms_same [] = refl
rooms_same (s ∷ ss) = ap₂ (λ (q : Option TransactionLocatorRange) (n : ℕ). counted_offsets q + n) (same_range s) (rooms_same ss)

pub room_same : (b : Block) → event_room (without_payloads b) ≡ event_room b
unfolding event_room without_payloads
room_same b = ap (λ (n : ℕ). 3 * n) (rooms_same b.statements)

-- ---- accepting it after others

-- a record of the reference is among them
stored_as : List Shape → BlockReference → Bool
stored_as xs i = any_of (λ x. same_reference x.block.reference i) xs

stored_as_lem : (rs : List Record) (i : BlockReference) → is_stored rs i ≡ stored_as (map shape rs) i
unfolding is_stored any_of stored_as shape without_payloads
stored_as_lem [] i = refl
stored_as_lem (r ∷ rs) i = rw (stored_as_lem rs i)

-- the checks of a block after others
checks_as : Committee → List Shape → Block → List Check
checks_as c xs b =
    head_checks c b
    ++ ((stored_as xs b.reference ⇒ 23)
    ∷ body_checks c b
    ++ ((any_of (λ i. not (stored_as xs i)) b.includes ⇒ 30)
    ∷ []))

head_same : (c : Committee) (b : Block) → head_checks c (without_payloads b) ≡ head_checks c b
unfolding head_checks without_payloads
head_same c b = rw (empty_same b.statements)

body_same : (c : Committee) (b : Block) → body_checks c (without_payloads b) ≡ body_checks c b
unfolding body_checks include_checks clock_valid previous_authors without_payloads
body_same c b =
    ap (λ (ks : List Check). flatten (map (include_checks c b) b.includes) ++ (ks ++ ((not (eqb (round b) 0) && not (clock_valid c b) ⇒ 29) ∷ [])))
    (statements_same b.statements)

checks_as_lem : (c : Committee) (rs : List Record) (b : Block) → block_checks c rs b ≡ checks_as c (map shape rs) (without_payloads b)
unfolding block_checks checks_as without_payloads
checks_as_lem c rs b =
    ap₂ (λ (ks ls : List Check). ks ++ ls) (sym (head_same c b))
    (ap₂ (λ (f : BlockReference → Bool) (ls : List Check). (f b.reference ⇒ 23) ∷ ls ++ ((any_of (λ i. not (f i)) b.includes ⇒ 30) ∷ []))
    (λ j i. stored_as_lem rs i j) (sym (body_same c b)))

pub checks_same : (c : Committee) (rs qs : List Record) (b d : Block) → map shape rs ≡ map shape qs → without_payloads b ≡ without_payloads d
    → block_checks c rs b ≡ block_checks c qs d
checks_same c rs qs b d e f = checks_as_lem c rs b ∙ ap₂ (checks_as c) e f ∙ sym (checks_as_lem c qs d)

-- ---- where records stand

used_as : List Shape → ℕ
used_as [] = 16
used_as (x ∷ xs) = used_as xs + (8 + x.size)

used_as_lem : (rs : List Record) → used_by rs ≡ used_as (map shape rs)
unfolding used_by used_as shape
used_as_lem [] = refl
used_as_lem (r ∷ rs) = rw (used_as_lem rs)

pub used_same : (rs qs : List Record) → map shape rs ≡ map shape qs → used_by rs ≡ used_by qs
used_same rs qs e = used_as_lem rs ∙ ap used_as e ∙ sym (used_as_lem qs)

pub length_same : (rs qs : List Record) → map shape rs ≡ map shape qs → length rs ≡ length qs
length_same rs qs e = sym (length-map rs shape) ∙ ap (λ (xs : List Shape). length xs) e ∙ length-map qs shape

entries_as : List Shape → List Seen
entries_as [] = []
entries_as (x ∷ xs) = record { position = used_as xs; block = x.block } ∷ entries_as xs

entries_as_lem : (rs : List Record) → map seen (entries rs) ≡ entries_as (map shape rs)
unfolding entries entries_as seen shape
entries_as_lem [] = refl
entries_as_lem (r ∷ rs) =
    ap₂ {C = List Seen} (λ (n : ℕ) (xs : List Seen). record { position = n; block = without_payloads r.block } ∷ xs) (used_as_lem rs) (entries_as_lem rs)

pub entries_same : (rs qs : List Record) → map shape rs ≡ map shape qs → map seen (entries rs) ≡ map seen (entries qs)
entries_same rs qs e = entries_as_lem rs ∙ ap entries_as e ∙ sym (entries_as_lem qs)

-- ---- a table beside its store (11)

pub shared_same : (b : Block) (o : ℕ) → is_share_at (without_payloads b) o ≡ is_share_at b o
unfolding is_share_at without_payloads
shared_same b o = share_at b.statements o

suits_same : (x : Item) (b : Block) → item_suits x (without_payloads b) ≡ item_suits x b
unfolding item_suits shares_in
suits_same x b =
    unfold without_payloads in
    ap (λ (p : ℕ → Bool). all_of p (count_from x.start (x.end - x.start)) && member x.aggregator.votes (author b)) (λ j o. shared_same b o j)

stored_seen : List Seen → Item → Bool
stored_seen ys x = holds (λ y. item_suits x y.block) (find (λ y. eqb y.position x.position) ys)

stored_seen_lem : (es : List Entry) (x : Item) → item_stored es x ≡ stored_seen (map seen es) x
unfolding item_stored stored_seen find holds seen
stored_seen_lem [] x = refl
stored_seen_lem (e ∷ es) x = go (eqb e.position x.position) (stored_seen_lem es x)
  where
    go : (t : Bool) → holds (λ d. item_suits x d.block) (find (λ d. eqb d.position x.position) es) ≡ stored_seen (map seen es) x
        → holds (λ d. item_suits x d.block) (pick t (some e) (find (λ d. eqb d.position x.position) es))
        ≡ holds (λ y. item_suits x y.block) (pick t (some (seen e)) (find (λ y. eqb y.position x.position) (map seen es)))
    go true h = sym (suits_same x e.block)
    go false h = h

pub table_same : (c : Committee) (es ds : List Entry) (t : List ℕ) → map seen es ≡ map seen ds → table_in_order c es t ≡ table_in_order c ds t
unfolding table_in_order item_in_order
table_same c es ds t e =
    ap (λ (p : Item → Bool). same t (table_of (length t) (items_of t)) &&
    (pairwise item_before (items_of t) && all_of (λ x. item_full x && (p x && aggregator_in_order c x.aggregator)) (items_of t)))
    (λ j x. (stored_seen_lem es x ∙ ap (λ (ys : List Seen). stored_seen ys x) e ∙ sym (stored_seen_lem ds x)) j)
