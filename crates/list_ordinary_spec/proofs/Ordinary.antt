-- The ordinary list: nothing changes between the edges of votes, and its stretches are the wide ones cut to runs of shares. Assumes nothing.
use mathlib.Core.Path.{◌≡◌, refl, ap₂, subst, ◌∙◌}
use mathlib.Core.Bool.{Bool, true, ◌&&◌}
use mathlib.Core.List.{List}
use Prim.Native.Nat.{ℕ, ◌+◌, ◌≤◌, ◌<◌}
use native.Mathlib.Omega.{arith}
use native.Mathlib.Decide.{dec_lt, dec_le}
use Rattle.base.specs.Lists.{◌∈◌}
use Rattle.base.proofs.Tests.{not_both, fails, same_test, and_both, and_left, and_right}
use Rattle.committee.specs.Committee.{Committee}
use Rattle.record_spec.specs.Reference.{BlockReference, TransactionLocator, TransactionLocatorRange, locator, new_range, one_range}
use Rattle.record_spec.specs.Block.{Block, is_share_at, spans}
use Rattle.record_spec.proofs.Spans.{share_span}
use Rattle.store_spec.specs.Shares.{is_stored_share}
use Rattle.store_spec.proofs.Shares.{stored_share, share_stored}
use Rattle.final_spec.specs.Voters.{is_final}
use Rattle.final_spec.specs.Finality.{blocks_of}
use Rattle.list_stretches_spec.specs.Stretches.{edges_by, wide, certified_alike, goes_on, EndsAt, stretch_end}
use Rattle.list_stretches_spec.specs.Claims.{Edges, Lawful}
use Rattle.list_stretches_spec.proofs.Nearest.{edge_start, edge_end}
use Rattle.list_stretches_spec.proofs.Ends.{end_meant}
use Rattle.list_stretches_spec.proofs.Wide.{Telling, wide_edges, by_spans, wide_lawful_lem, gives_asked}
use Rattle.list_ordinary_spec.specs.FinalShares.{is_final_share, next_final_share}
use Rattle.list_ordinary_spec.specs.Ordinary.{ordinary}
use Rattle.list_ordinary_spec.specs.Claims.{CutShort, WideCut, OrdinaryGives}
use Rattle.list_ordinary_spec.proofs.Least.{final_of, least_final_share_lem}
use Rattle.list_ordinary_spec.proofs.Asked.{next_share_answers}

-- ---- ranges that tell the shares of blocks too

-- a range around a share of the block, of shares only
pub record Around (f : Block → List TransactionLocatorRange) (b : Block) (o : ℕ) : Type 0 where
  pub range : TransactionLocatorRange
  pub stands : range ∈ f b
  pub of : range.block ≡ b.reference
  pub from : range.start ≤ o
  pub below : o < range.end
  pub shares : (k : ℕ) → range.start ≤ k → k < range.end → is_share_at b k ≡ true

abbrev pub Surrounding : (Block → List TransactionLocatorRange) → Type 0
Surrounding f = (b : Block) (o : ℕ) → is_share_at b o ≡ true → Around f b o

pub around_one : Surrounding spans
unfolding is_share_at spans one_range new_range locator
around_one b o h =
    record {
      range = one_range (locator b.reference (0 + o));
      stands = share_span b.reference 0 o b.statements h;
      of = refl;
      from = omega arith;
      below = omega arith;
      shares = λ k (i : 0 + o ≤ k) (j : k < 0 + o + 1). let e : k ≡ o = omega arith in rw e h;
    }

module _ {f : Block → List TransactionLocatorRange} (round : Surrounding f) (bs : List Block) (r : BlockReference) (o : ℕ) (gap : o + 1 ∈ edges_by f bs r → ⊥)
  where
    share_forth : (b : Block) → b ∈ bs → b.reference ≡ r → is_share_at b o ≡ true → is_share_at b (o + 1) ≡ true
    share_forth b m e h = let x = round b o h in go x (dec_lt (o + 1) x.range.end)
      where
        go : (x : Around f b o) → Dec (o + 1 < x.range.end) → is_share_at b (o + 1) ≡ true
        go x (yes k) = x.shares (o + 1) (omega (arith, x.from)) k
        go x (no k) =
            let z : x.range.end ≡ o + 1 = omega (arith, x.below) in
            absurd (gap (subst (λ (n : ℕ). n ∈ edges_by f bs r) z (edge_end f bs r b x.range m x.stands (x.of ∙ e))))

    share_back : (b : Block) → b ∈ bs → b.reference ≡ r → is_share_at b (o + 1) ≡ true → is_share_at b o ≡ true
    share_back b m e h = let x = round b (o + 1) h in go x (dec_le x.range.start o)
      where
        go : (x : Around f b (o + 1)) → Dec (x.range.start ≤ o) → is_share_at b o ≡ true
        go x (yes k) = x.shares o k (omega (arith, x.below))
        go x (no k) =
            let z : x.range.start ≡ o + 1 = omega (arith, x.from) in
            absurd (gap (subst (λ (n : ℕ). n ∈ edges_by f bs r) z (edge_start f bs r b x.range m x.stands (x.of ∙ e))))

    pub same_share : is_stored_share bs (locator r (o + 1)) ≡ is_stored_share bs (locator r o)
    unfolding locator
    same_share =
        same_test (is_stored_share bs (locator r (o + 1))) (is_stored_share bs (locator r o))
        (λ h.
        let x = stored_share bs (locator r (o + 1)) h in
        share_stored bs (locator r o) (record {
          block = x.block;
          stored = x.stored;
          named = x.named;
          shared = share_back x.block x.stored x.named
              x.shared;
        }))
        (λ h.
        let x = stored_share bs (locator r o) h in
        share_stored bs (locator r (o + 1)) (record {
          block = x.block;
          stored = x.stored;
          named = x.named;
          shared = share_forth x.block x.stored
              x.named x.shared;
        }))

-- the edges of any ranges that tell votes and shares are edges of the ordinary list
pub ordinary_edges : {f : Block → List TransactionLocatorRange} → Telling f → Surrounding f → (c : Committee) (bs : List Block) (r : BlockReference) → Edges
    bs (ordinary c bs) r (edges_by f bs r)
unfolding is_final_share
ordinary_edges told round c bs r o gap =
    let x = wide_edges told c bs r o gap in
    record { shows = ap₂ {C = Bool} (λ t u. t && u) (same_share round bs r o gap) x.shows; certifies = x.certifies }

-- ---- the ordinary list is lawful

pub ordinary_lawful : (c : Committee) (bs : List Block) → Lawful bs (ordinary c bs)
ordinary_lawful c bs =
    record {
      next = least_final_share_lem c bs;
      edges = ordinary_edges by_spans around_one c bs;
      bound = (wide_lawful_lem c bs).bound;
      bounded = λ r o h. fails (is_final_share c bs (locator r o)) (λ t. not_both (final_of c bs (locator r o) t) ((wide_lawful_lem c bs).bounded r o h));
    }

pub ordinary_gives : OrdinaryGives
unfolding OrdinaryGives
ordinary_gives c s b h after ls = gives_asked (ordinary c (blocks_of s)) (next_final_share c s) (next_share_answers c s b h)

-- ---- a wide stretch cut to a run of shares

module _ (c : Committee) (bs : List Block) (l : TransactionLocator) where
  -- it goes on in the ordinary list where it does in the wide one, at a stored share
  pub goes_share : (o : ℕ) → goes_on bs (ordinary c bs) l o ≡ true → (is_stored_share bs (locator l.block o) ≡ true) × (goes_on bs (wide c bs) l o ≡ true)
  unfolding goes_on certified_alike is_final_share
  goes_share o h =
      let s = and_left _ _ h in (
        and_left _ _ s,
        and_both _ _ (and_right (is_stored_share bs (locator l.block o)) _ s)
            (and_right (is_stored_share bs (locator l.block o) && is_final c bs (locator l.block o)) _ h),
      )

  pub share_goes : (o : ℕ) → is_stored_share bs (locator l.block o) ≡ true → goes_on bs (wide c bs) l o ≡ true → goes_on bs (ordinary c bs) l o ≡ true
  unfolding goes_on certified_alike is_final_share
  share_goes o s h = and_both _ _ (and_both _ _ s (and_left _ _ h)) (and_right (is_final c bs (locator l.block o)) _ h)

  wide_cut_at : is_final_share c bs l ≡ true → CutShort c bs l (stretch_end bs (ordinary c bs) l)
  wide_cut_at h =
      let a = (end_meant bs (ordinary c bs) l (ordinary_lawful c bs) h).ends in
      let b = (end_meant bs (wide c bs) l (wide_lawful_lem c bs) (final_of c bs l h)).ends in
      record {
        inside = inside a b (dec_le (stretch_end bs (ordinary c bs) l) (stretch_end bs (wide c bs) l));
        shares = λ o i j. (goes_share o (a.goes o i j)).0;
        cut = λ j. fails (is_stored_share bs (locator l.block (stretch_end bs (ordinary c bs) l)))
            (λ s. not_both (share_goes (stretch_end bs (ordinary c bs) l) s (b.goes (stretch_end bs (ordinary c bs) l) (omega (arith, a.longer)) j))
            a.stops);
      }
    where
      inside : {x y : ℕ} → EndsAt bs (ordinary c bs) l x → EndsAt bs (wide c bs) l y → Dec (x ≤ y) → x ≤ y
      inside a b (yes i) = i
      inside {x} {y} a b (no i) = absurd (not_both (goes_share y (a.goes y (omega (arith, b.longer)) (omega arith))).1 b.stops)

pub wide_cut_lem : WideCut
unfolding WideCut
wide_cut_lem c bs l h = wide_cut_at c bs l h
