-- What accepting a record writes: four bytes of the entry below it, and its own entry after all others. Assumes nothing.
use mathlib.Core.Path.{◌≡◌, refl, sym, ◌∙◌}
use mathlib.Core.List.{List, [], ◌∷◌, ◌++◌, append_assoc}
use Prim.Native.Nat.{ℕ, suc, ◌+◌, ◌-◌, ◌≤◌, ◌<◌}
use native.Mathlib.Omega.{arith}
use native.Mathlib.Nat.{zero-add, suc-add}
use lib.ListN.{length, set, length-append, length-set}
use lib.Seq.{sets, sets-eq, set-append_left, take-append_seam, drop-append-add, drop_at}
use mathlib.Core.Bool.{Bool, true, false}
use Rattle.base.specs.Lists.{pick, ◌∈◌, here, there}
use Rattle.base.specs.Le.{le_bytes}
use Rattle.base.proofs.Lists.{Every, none_of, and, every, every_in, every_append, Pairs, no_pairs, with_later}
use Rattle.base.proofs.Le.{length_le_bytes}
use Rattle.store_spec.specs.Layout.{Record, used_by, Entry, reference_of, placed, ascending, entries, next_position, entry_bytes, body_bytes}
use Rattle.record_spec.specs.Reference.{reference_before}
use Rattle.store_spec.proofs.Chain.{Distinct, placed_every, ascending_every, next_last, next_lower, next_higher}
use Rattle.store_spec.proofs.Store.{length_body, entries_below, Within, entries_within}

-- stores in the front part, and at the seam
pub sets_left : (vs b e : List ℕ) (i : ℕ) → i + length vs ≤ length b → sets (b ++ e) i vs ≡ sets b i vs ++ e
sets_left [] b e i h = refl
sets_left (v ∷ vs) b e i h = rw (set-append_left b e i v (omega arith)) (sets_left vs (set b i v) e (suc i) (simp length-set (omega arith)))

pub sets_seam : (vs b ws t : List ℕ) → length ws ≡ length vs → sets (b ++ (ws ++ t)) (length b) vs ≡ b ++ (vs ++ t)
sets_seam vs b ws t h =
    sets-eq vs (b ++ (ws ++ t)) (length b) (omega (arith, length-append b (ws ++ t), length-append ws t))
    ∙ rw (take-append_seam b (ws ++ t), drop-append-add b (ws ++ t) (length vs), drop_at ws t (length vs) h) (append_assoc b vs t)

-- entries whose next positions are the same have the same bytes
pub body_same : (es ds : List Entry) (rs : List Record) → Every (λ e. next_position ds e ≡ next_position es e) (entries rs) → body_bytes ds (entries rs) ≡
    body_bytes es (entries rs)
unfolding entries body_bytes entry_bytes
body_same es ds [] none_of = refl
body_same es ds (r ∷ rs) (and h hs) = rw (h, body_same es ds rs hs)

-- the next position of the entry at p is v, all others are as before
pub record Changed (es ds : List Entry) (p v : ℕ) (e : Entry) : Type 0 where
  pub there_is : e.position ≡ p → next_position ds e ≡ v
  pub others : (e.position ≡ p → ⊥) → next_position ds e ≡ next_position es e

-- where one next position changes, the four bytes of it are stored
pub body_patched : (es ds : List Entry) (p v : ℕ) (rs : List Record) (d : Entry) → d ∈ entries rs → d.position ≡ p → Every (Changed es ds p v) (entries rs)
    → body_bytes ds (entries rs) ≡ sets (body_bytes es (entries rs)) (p - 16) (le_bytes 4 v)
unfolding entries body_bytes entry_bytes
body_patched es ds p v [] d x3 q _ = elim x3 [ ]
body_patched es ds p v (r ∷ rs) d here q (and h hs) =
    let b : List ℕ = body_bytes es (entries rs) in
    let t : List ℕ = le_bytes 4 (length r.bytes) ++ r.bytes in
    let at : p - 16 ≡ length b = omega (arith, length_body es rs) in
    rw (h.there_is q, below q, at)
    (sym (sets_seam (le_bytes 4 v) b (le_bytes 4 (next_position es d)) t (length_le_bytes 4 _ ∙ sym (length_le_bytes 4 v))))
  where
    below : used_by rs ≡ p → body_bytes ds (entries rs) ≡ body_bytes es (entries rs)
    below q = body_same es ds rs (apart (entries rs) (entries_below rs) hs)
      where
        apart : (fs : List Entry) → Every (λ e. e.position < used_by rs) fs → Every (Changed es ds p v) fs → Every
            (λ e. next_position ds e ≡ next_position es e) fs
        apart [] none_of none_of = none_of
        apart (f ∷ fs) (and l ls) (and k ks) = and (k.others (λ e. omega arith)) (apart fs ls ks)
body_patched es ds p v (r ∷ rs) d (there m) q (and h hs) =
    let b : List ℕ = body_bytes es (entries rs) in
    let w : Within (used_by rs) d = every_in (entries rs) d (entries_within rs) m in
    let away : used_by rs ≡ p → ⊥ = λ (e : used_by rs ≡ p). omega (arith, w.upto, q) in
    rw (body_patched es ds p v rs d m q hs, h.others away)
    (sym (sets_left (le_bytes 4 v) b _ (p - 16) (omega (arith, length_le_bytes 4 v, length_body es rs, w.from, w.upto, q))))

-- ---- the whole store

sets_next : (vs : List ℕ) (x : ℕ) (l : List ℕ) (i : ℕ) → sets (x ∷ l) (suc i) vs ≡ x ∷ sets l i vs
sets_next [] x l i = refl
sets_next (v ∷ vs) x l i = sets_next vs x (set l i v) (suc i)

pub sets_right : (a l : List ℕ) (i : ℕ) (vs : List ℕ) → sets (a ++ l) (length a + i) vs ≡ a ++ sets l i vs
sets_right [] l i vs = rw (zero-add i)
sets_right (x ∷ a) l i vs = rw (suc-add (length a) i, sets_next vs x (a ++ l) (length a + i), sets_right a l i vs)

-- ---- which next position changes

-- entries at different positions
abbrev pub Apart : Entry → Entry → Type 0
Apart e f = e.position ≡ f.position → ⊥

pub entries_apart : (rs : List Record) → Pairs Apart (entries rs)
unfolding entries
entries_apart [] = no_pairs
entries_apart (r ∷ rs) =
    let new : Entry = record { position = used_by rs; bytes = r.bytes; block = r.block } in
    with_later {x = new} (every {Q = Apart new} (λ e (l : e.position < used_by rs) (q : used_by rs ≡ e.position). omega arith) (entries rs)
    (entries_below rs)) (entries_apart rs)

placed_apart : (e : Entry) (ds : List Entry) → Every (Apart e) ds → Pairs Apart ds → Pairs Apart (placed e ds)
unfolding placed
placed_apart e [] none_of no_pairs = with_later none_of no_pairs
placed_apart e (d ∷ ds) (and a as') (with_later h hs) = go (reference_before (reference_of e) (reference_of d)) (placed_apart e ds as' hs)
  where
    go : (t : Bool) → Pairs Apart (placed e ds) → Pairs Apart (pick t (e ∷ d ∷ ds) (d ∷ placed e ds))
    go true q = with_later (and a as') (with_later h hs)
    go false q = with_later (placed_every e ds (λ s. a (sym s)) h) q

pub ascending_apart : (es : List Entry) → Pairs Apart es → Pairs Apart (ascending es)
unfolding ascending
ascending_apart [] no_pairs = no_pairs
ascending_apart (e ∷ es) (with_later h hs) = placed_apart e (ascending es) (ascending_every es h) (ascending_apart es hs)

-- what holds of the sorted entries holds of the entries
placed_back : {P : Entry → Type 0} (e : Entry) (ds : List Entry) → Every P (placed e ds) → P e × Every P ds
unfolding placed
placed_back e [] (and h none_of) = (h, none_of)
placed_back {P} e (d ∷ ds) q = go (reference_before (reference_of e) (reference_of d)) q (placed_back e ds)
  where
    go : (t : Bool) → Every P (pick t (e ∷ d ∷ ds) (d ∷ placed e ds)) → (Every P (placed e ds) → P e × Every P ds) → P e × Every P (d ∷ ds)
    go true (and h hs) ih = (h, hs)
    go false (and h hs) ih = ((ih hs).0, and h (ih hs).1)

pub ascending_back : {P : Entry → Type 0} (es : List Entry) → Every P (ascending es) → Every P es
unfolding ascending
ascending_back [] none_of = none_of
ascending_back (e ∷ es) q = let p = placed_back e (ascending es) q in and p.0 (ascending_back es p.1)

module _ (es : List Entry) (new d : Entry) (far : Distinct (new ∷ es)) (zs ys : List Entry) (split : ascending es ≡ zs ++ (d ∷ []) ++ ys)
    (low : Every (λ x. reference_before (reference_of x) (reference_of new) ≡ true) (zs ++ (d ∷ [])))
    (high : Every (λ y. reference_before (reference_of new) (reference_of y) ≡ true) ys) (apart : Pairs Apart (ascending es)) where
  abbrev pub Goal : Entry → Type 0
  Goal = Changed es (new ∷ es) d.position new.position

  same_next : (e : Entry) → Apart e d → next_position (new ∷ es) e ≡ next_position es e → Goal e
  same_next e a h = record { there_is = λ q. absurd (a q); others = λ n. h }

  lows : (as' bs : List Entry) → zs ≡ as' ++ bs → Every (λ e. Apart e d) bs → Every Goal bs
  lows as' [] q none_of = none_of
  lows as' (e ∷ bs) q (and a rest) = and (same_next e a (next bs q)) (lows (as' ++ (e ∷ [])) bs (q ∙ sym (append_assoc as' (e ∷ []) bs)) rest)
    where
      next : (cs : List Entry) → zs ≡ as' ++ e ∷ cs → next_position (new ∷ es) e ≡ next_position es e
      next [] q = next_lower es new far (zs ++ (d ∷ [])) ys split low high as' [] e d (rw q (append_assoc as' (e ∷ []) (d ∷ [])))
      next (f ∷ cs) q = next_lower es new far (zs ++ (d ∷ [])) ys split low high as' (cs ++ (d ∷ [])) e f (rw q (append_assoc as' (e ∷ f ∷ cs) (d ∷ [])))

  highs : (as' bs : List Entry) → ys ≡ as' ++ bs → Every (λ e. Apart e d) bs → Every Goal bs
  highs as' [] q none_of = none_of
  highs as' (e ∷ bs) q (and a rest) =
      and (same_next e a (next_higher es new far (zs ++ (d ∷ [])) ys split low high as' bs e q))
      (highs (as' ++ (e ∷ [])) bs (q ∙ sym (append_assoc as' (e ∷ []) bs)) rest)

  middle : (xs : List Entry) → Pairs Apart (xs ++ d ∷ ys) → Every (λ e. Apart e d) xs × Every (λ e. Apart e d) ys
  middle [] (with_later h hs) = (none_of, every (λ e a s. a (sym s)) ys h)
  middle (x ∷ xs) (with_later h hs) = let m = middle xs hs in (and (at xs h) m.0, m.1)
    where
      at : (us : List Entry) → Every (Apart x) (us ++ d ∷ ys) → Apart x d
      at [] (and k ks) = k
      at (u ∷ us) (and k ks) = at us ks

  -- a new entry above d and below what follows it changes the next position of d alone
  pub one_changed : Every Goal es
  one_changed =
      let complete : ascending es ≡ zs ++ d ∷ ys = split ∙ append_assoc zs (d ∷ []) ys in
      let m = middle zs (rw complete at apart) in
      ascending_back es (rw complete (every_append zs (d ∷ ys) (lows [] zs refl m.0)
      (and (record { there_is = λ q. next_last es new far (zs ++ (d ∷ [])) ys split low high zs d refl; others = λ n. absurd (n refl) })
      (highs [] ys refl m.1))))
