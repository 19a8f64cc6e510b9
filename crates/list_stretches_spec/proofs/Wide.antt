-- The final list: nothing changes between the edges of votes, and its stretches are alike throughout. Assumes nothing.
use mathlib.Core.Path.{◌≡◌, sym, ap, subst, ◌∙◌}
use mathlib.Core.Logic.{◌↔◌}
use mathlib.Core.Bool.{Bool, true, false}
use mathlib.Core.List.{List, ◌∷◌, map}
use mathlib.Core.Option.{Option}
use Prim.Native.Nat.{ℕ, ◌+◌, ◌-◌, ◌≤◌, ◌<◌}
use native.Mathlib.Omega.{arith}
use native.Mathlib.Decide.{ℕ_discrete}
use lib.ListN.{length, length-map}
use Rattle.base.specs.Lists.{keep, count_from, sum_of, ◌∈◌, here, there}
use Rattle.base.specs.Le.{Bytes}
use Rattle.base.specs.Checks.{Answer, answered}
use Rattle.base.proofs.Tests.{fails, same_test, and_left, and_right}
use Rattle.base.proofs.Members.{map_in, count_from_in, all_in}
use Rattle.committee.specs.Committee.{Committee, is_quorum}
use Rattle.committee_set.specs.AuthoritySet.{set_of, stake_of}
use Rattle.record_spec.specs.Reference.{BlockReference, TransactionLocator, TransactionLocatorRange, locator, new_range, offsets, locators}
use Rattle.record_spec.specs.Block.{Block, author, spans}
use Rattle.store_spec.specs.Layout.{Entry, entries, ascending}
use Rattle.store_spec.specs.Store.{records_of, store_in_order}
use Rattle.final_spec.specs.Voters.{votes_for, certifies, certifiers, is_final}
use Rattle.final_spec.specs.Finality.{blocks_of, certifying_positions}
use Rattle.final_spec.specs.NextFinal.{next_final, AskedOf}
use Rattle.final_spec.specs.NextFinal as asking
use Rattle.final_spec.proofs.Asked.{next_answers}
use Rattle.final_spec.proofs.Candidates.{least_final_lem}
use Rattle.final_spec.proofs.Certifying.{certifying_meant}
use Rattle.store_spec.proofs.Visit.{ascending_in}
use Rattle.final_spec.proofs.Growing.{certifies_mono, final_votes}
use Rattle.final_spec.proofs.Votes.{Covered, spanned, is_spanned}
use Rattle.base.proofs.Lists.{keep_same}
use Rattle.store_spec.proofs.Lookups.{entry_block}
use Rattle.list_stretches_spec.specs.Stretches.{Listing, edges_by, wide, FinalStretch, stretch_locators, agree, certified_alike, goes_on, stretch_at}
use Rattle.list_stretches_spec.specs.Claims.{SameBefore, Edges, Lawful, Gives, done, onward, WideGives, Alike, StretchesAlike}
use Rattle.list_stretches_spec.proofs.Nearest.{edge_start, edge_end}
use Rattle.list_stretches_spec.proofs.Ends.{agrees}
use Rattle.list_stretches_spec.proofs.Spreading.{begun, shown_ends}

-- ---- ranges that tell the votes of blocks, as `spans` does

pub record Over (f : Block → List TransactionLocatorRange) (b : Block) (l : TransactionLocator) : Type 0 where
  pub range : TransactionLocatorRange
  pub stands : range ∈ f b
  pub covering : Covered range l

pub record Telling (f : Block → List TransactionLocatorRange) : Type 0 where
  pub over : (b : Block) (l : TransactionLocator) → votes_for b l ≡ true → Over f b l
  pub votes : (b : Block) (l : TransactionLocator) → Over f b l → votes_for b l ≡ true

module _ {f : Block → List TransactionLocatorRange} (told : Telling f) (bs : List Block) (r : BlockReference) (o : ℕ) (gap : o + 1 ∈ edges_by f bs r → ⊥) where
  not_edge : {e : ℕ} → e ∈ edges_by f bs r → e ≡ o + 1 → ⊥
  not_edge {e} m h = gap (subst (λ (n : ℕ). n ∈ edges_by f bs r) h m)

  pub forth : (d : Block) → d ∈ bs → votes_for d (locator r o) ≡ true → votes_for d (locator r (o + 1)) ≡ true
  unfolding locator
  forth d m h =
      let x = told.over d (locator r o) h in
      let k = x.covering in
      told.votes d (locator r (o + 1))
      (record {
        range = x.range;
        stands = x.stands;
        covering = record
            { of = k.of; from = omega (arith, k.from); below = up k.below (not_edge (edge_end f bs r d x.range m x.stands k.of)) };
      })
    where
      up : {e : ℕ} → o < e → (e ≡ o + 1 → ⊥) → o + 1 < e
      up {e} h n = go (ℕ_discrete e (o + 1))
        where
          go : Dec (e ≡ o + 1) → o + 1 < e
          go (yes q) = absurd (n q)
          go (no q) = omega arith

  pub back : (d : Block) → d ∈ bs → votes_for d (locator r (o + 1)) ≡ true → votes_for d (locator r o) ≡ true
  unfolding locator
  back d m h =
      let x = told.over d (locator r (o + 1)) h in
      let k = x.covering in
      told.votes d (locator r o)
      (record {
        range = x.range;
        stands = x.stands;
        covering = record
            { of = k.of; from = down k.from (not_edge (edge_start f bs r d x.range m x.stands k.of)); below = omega (arith, k.below) };
      })
    where
      down : {e : ℕ} → e ≤ o + 1 → (e ≡ o + 1 → ⊥) → e ≤ o
      down {e} h n = go (ℕ_discrete e (o + 1))
        where
          go : Dec (e ≡ o + 1) → e ≤ o
          go (yes q) = absurd (n q)
          go (no q) = omega arith

  module _ (c : Committee) where
    certifies_same : (b : Block) → certifies c bs (locator r (o + 1)) b ≡ certifies c bs (locator r o) b
    certifies_same b =
        same_test _ (certifies c bs (locator r o) b) (certifies_mono c bs (locator r (o + 1)) (locator r o) back b)
        (certifies_mono c bs (locator r o) (locator r (o + 1)) forth b)

    final_same : is_final c bs (locator r (o + 1)) ≡ is_final c bs (locator r o)
    unfolding is_final certifiers
    final_same = ap (λ (p : Block → Bool). is_quorum c (stake_of c (set_of (map author (keep p bs))))) (λ i b. certifies_same b i)

    pub same_before : SameBefore bs (wide c bs) r o
    same_before = record { shows = final_same; certifies = λ b m. certifies_same b }

-- the edges of any ranges that tell the votes are edges of the final list
pub wide_edges : {f : Block → List TransactionLocatorRange} → Telling f → (c : Committee) (bs : List Block) (r : BlockReference) → Edges bs (wide c bs) r
    (edges_by f bs r)
wide_edges told c bs r o gap = same_before told bs r o gap c

-- ---- the final list is lawful

pub by_spans : Telling spans
by_spans =
    record {
      over = λ b l h. let x = spanned b l h in record { range = x.span; stands = x.stands; covering = x.covering };
      votes = λ b l x. is_spanned b l (record { span = x.range; stands = x.stands; covering = x.covering });
    }

in_sum : (e : ℕ) (es : List ℕ) → e ∈ es → e ≤ sum_of es
unfolding sum_of
in_sum e mathlib.Core.List.[] x' = elim x' [ ]
in_sum e (x ∷ es) here = omega arith
in_sum e (x ∷ es) (there m) = omega (arith, in_sum e es m)

wide_bounded : (c : Committee) (bs : List Block) (r : BlockReference) (o : ℕ) → sum_of (edges_by spans bs r) ≤ o → is_final c bs (locator r o) ≡ false
unfolding locator
wide_bounded c bs r o h =
    fails (is_final c bs (locator r o)) λ t.
    let v = final_votes c bs (locator r o) t in
    let x = spanned v.block (locator r o) v.votes in
    omega (
      arith,
      x.covering.below,
      in_sum x.span.end (edges_by spans bs r)
          (edge_end spans bs r v.block x.span v.stands x.stands x.covering.of),
    )

pub wide_lawful_lem : (c : Committee) (bs : List Block) → Lawful bs (wide c bs)
wide_lawful_lem c bs = record {
  next = least_final_lem c bs;
  edges = wide_edges by_spans c bs;
  bound = λ r. sum_of (edges_by spans bs r);
  bounded = wide_bounded
      c bs;
}

-- ---- what it gives

-- a list gives what a question gives that answers its next locator
pub gives_asked : (k : Listing) (next : Option TransactionLocator → Answer (Option TransactionLocator)) →
    ((after : Option TransactionLocator) → next after ≡ answered (k.next after))
    → {after : Option TransactionLocator} {ls : List TransactionLocator} → Gives k after ls ↔ AskedOf next after ls
gives_asked k next answers = (to, from)
  where
    to : {x : Option TransactionLocator} {ms : List TransactionLocator} → Gives k x ms → AskedOf next x ms
    to {x} (done e) = asking.done (answers x ∙ ap {B = Answer (Option TransactionLocator)} answered e)
    to {x} (onward e g) = asking.onward (answers x ∙ ap {B = Answer (Option TransactionLocator)} answered e) (to g)

    told_one : (o q : Option TransactionLocator) → ◌≡◌ {A = Answer (Option TransactionLocator)} (answered o) (answered q) → o ≡ q
    told_one o q e = cc

    from : {x : Option TransactionLocator} {ms : List TransactionLocator} → AskedOf next x ms → Gives k x ms
    from {x} (asking.done e) = done (told_one _ _ (sym (answers x) ∙ e))
    from {x} (asking.onward e g) = onward (told_one _ _ (sym (answers x) ∙ e)) (from g)

pub wide_gives_lem : WideGives
unfolding WideGives
wide_gives_lem c s b h after ls = gives_asked (wide c (blocks_of s)) (next_final c s) (λ x. next_answers c s x b h)

-- ---- its stretches are alike throughout

module _ (c : Committee) (s : Bytes) (l m : TransactionLocator) (h : certified_alike (blocks_of s) (wide c (blocks_of s)) l m ≡ true) where
  alike_block : (b : Block) → b ∈ blocks_of s → certifies c (blocks_of s) m b ≡ certifies c (blocks_of s) l b
  unfolding certified_alike
  alike_block b i = agrees _ _ (all_in (λ d. agree (certifies c (blocks_of s) l d) (certifies c (blocks_of s) m d)) (blocks_of s) h i)

  pub alike_certifiers : certifiers c (blocks_of s) m ≡ certifiers c (blocks_of s) l
  unfolding certifiers
  alike_certifiers = keep_same (certifies c (blocks_of s) m) (certifies c (blocks_of s) l) (blocks_of s) alike_block

  pub alike_positions : certifying_positions c s m ≡ certifying_positions c s l
  unfolding certifying_positions blocks_of
  alike_positions =
      ap (map (λ (e : Entry). e.position))
      (keep_same (λ (e : Entry). certifies c (blocks_of s) m e.block) (λ (e : Entry). certifies c (blocks_of s) l e.block)
      (ascending (entries (records_of s)))
      (λ e i. alike_block e.block (entry_block (records_of s) e (ascending_in (entries (records_of s)) e i))))

-- as many positions as certifying blocks
pub positions_many : (c : Committee) (s : Bytes) (l : TransactionLocator) → store_in_order c s ≡ true → length (certifying_positions c s l) ≡ length
    (certifiers c (blocks_of s) l)
positions_many c s l h = let x = certifying_meant c s l h in ap length x.positions ∙ length-map x.found (λ e. e.position) ∙ x.many

-- the locators of a stretch
pub stretch_in : (t : FinalStretch) (m : TransactionLocator) → m ∈ stretch_locators t → t.first ≤ t.end → (o : ℕ) ×
    ((t.first ≤ o) × ((o < t.end) × (locator t.block o ≡ m)))
unfolding stretch_locators locators offsets new_range
stretch_in t m i h =
    let x = map_in (locator t.block) (count_from t.first (t.end - t.first)) i in
    let k = count_from_in t.first (t.end - t.first) x.1 in
    (x.0, (k.0, (omega (arith, k), x.2)))

pub alike_at : (c : Committee) (s : Bytes) → store_in_order c s ≡ true → (a : TransactionLocator) (o : ℕ) → goes_on (blocks_of s) (wide c (blocks_of s)) a o
    ≡ true
    → Alike c s (stretch_at c (blocks_of s) (wide c (blocks_of s)) a) (locator a.block o)
unfolding stretch_at goes_on certifiers locator
alike_at c s h a o g =
    let l : TransactionLocator = locator a.block o in
    let k : certified_alike (blocks_of s) (wide c (blocks_of s)) a l ≡ true = and_right (is_final c (blocks_of s) l) _ g in
    record {
      final = and_left _ _ g;
      certifying = alike_positions c s a l k;
      many = positions_many c s l h ∙ ap length (alike_certifiers c s a l k);
      stake = ap (λ (ds : List Block). stake_of c (set_of (map author ds))) (alike_certifiers c s a l k);
    }

stretch_all : (c : Committee) (s : Bytes) → store_in_order c s ≡ true → (a : TransactionLocator) → is_final c (blocks_of s) a ≡ true → (l : TransactionLocator)
    → l ∈ stretch_locators (stretch_at c (blocks_of s) (wide c (blocks_of s)) a) → Alike c s (stretch_at c (blocks_of s) (wide c (blocks_of s)) a) l
unfolding stretch_at
stretch_all c s h a f l i =
    let e = shown_ends c (blocks_of s) (wide c (blocks_of s)) (wide_lawful_lem c (blocks_of s)) a f in
    let x = stretch_in (stretch_at c (blocks_of s) (wide c (blocks_of s)) a) l i (omega (arith, e.longer)) in
    subst (Alike c s (stretch_at c (blocks_of s) (wide c (blocks_of s)) a)) x.1.1.1 (alike_at c s h a x.0 (e.goes x.0 x.1.0 x.1.1.0))

pub stretches_alike : StretchesAlike
unfolding StretchesAlike
stretches_alike c s h n after t m l i =
    let x = begun c (blocks_of s) (wide c (blocks_of s)) (wide_lawful_lem c (blocks_of s)) n after t m in
    subst (λ (u : FinalStretch). l ∈ stretch_locators u → Alike c s u l) x.stretch (stretch_all c s h x.at x.shown l) i
