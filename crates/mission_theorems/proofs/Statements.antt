-- The statements of one block, as one locator sees them: each vote for it is counted, and what it announced is told. Assumes nothing.
use mathlib.Core.Path.{◌≡◌, refl, ap, ◌∙◌, subst}
use mathlib.Core.Bool.{Bool, true, false}
use mathlib.Core.List.{List, [], ◌∷◌, ◌++◌, map, map-append, append_assoc, append-nil}
use mathlib.Core.Option
use mathlib.Core.Option.{Option, none, some}
use Prim.Native.Nat.{ℕ, suc, ◌+◌}
use native.Mathlib.Omega.{arith}
use lib.ListN.{get_elem?}
use Rattle.base.specs.Lists.{pick, keep, holds}
use Rattle.committee.specs.Committee.{AuthorityIndex, Committee, known}
use Rattle.committee_aggregator.specs.StakeAggregator.{StakeAggregator, counted, has_quorum}
use Rattle.record_spec.specs.Reference.{BlockReference, TransactionLocator, TransactionLocatorRange, same_reference, covers}
use Rattle.record_spec.specs.Block.{Statement, Block, voted_range}
use Rattle.store_spec.specs.Layout.{Record, Entry, entries, lookup}
use Rattle.pending_spec.proofs.Items.{held_at}
use Rattle.feed_spec.specs.ProcessBlock.{Event, Processing, vote, votes}
use Rattle.feed_spec.proofs.ProcessBlock.{Sound, sound_vote}
use Rattle.feed_spec.proofs.View.{position_in, held_vote, processed_by, processed_vote}
use Rattle.mission_theorems.specs.Shares.{Place, Vote, is_vote_for, votes_from, votes_under, announces, announced_by}
use Rattle.mission_theorems.proofs.Standing.{after_vote, tells, Stands, stands_vote}

-- ---- what events announce

-- where an event announces
abbrev place_in : ℕ → Event → Place
place_in k v = record { feed = k; statement = v.statement }

-- the announcements of a locator are by those of the events that announce it
announced_keep : (k : ℕ) (b : Block) (vs : List Event) (l : TransactionLocator) → announced_by k b vs l ≡ map (place_in k) (keep (announces b l) vs)
unfolding announced_by keep
announced_keep k b [] l = refl
announced_keep k b (v ∷ vs) l = go (announces b l v) (announced_keep k b vs l)
  where
    go : (t : Bool) → announced_by k b vs l ≡ map (place_in k) (keep (announces b l) vs)
        → pick t (place_in k v ∷ announced_by k b vs l) (announced_by k b vs l)
        ≡ map (place_in k) (pick t (v ∷ keep (announces b l) vs) (keep (announces b l) vs))
    go true e = ap {B = List Place} (λ ps. place_in k v ∷ ps) e
    go false e = e

-- an event processed tells the place of its statement
told_place : (c : Committee) (k i o : ℕ) (h : Option StakeAggregator) → map (place_in k) (processed_by c i o h) ≡ tells c (record { feed = k; statement = i }) h
unfolding processed_by tells
told_place c k i o none = refl
told_place c k i o (some g) = go (has_quorum c g)
  where
    go : (t : Bool) → map (place_in k) (pick t (record { kind = 1; statement = i; offset = o } ∷ []) []) ≡ pick t (record { feed = k; statement = i } ∷ []) []
    go true = refl
    go false = refl

-- ---- one statement

-- a statement that votes over a range votes under its reference
under_range : (b : Block) (i : ℕ) (s : Statement) (r : TransactionLocatorRange) (q : BlockReference) → get_elem? b.statements i ≡ some s → voted_range s ≡
    some r
    → votes_under b i q ≡ same_reference r.block q
unfolding votes_under holds
under_range b i s r q e f = rw (e, f)

module _ (c : Committee) (rs : List Record) (l : TransactionLocator) (e : Entry) (stored : lookup (entries rs) l.block ≡ some e)
    (k : ℕ) (b : Block) (a : AuthorityIndex) (author_known : known c a ≡ true) where
  abbrev held : Processing → Option StakeAggregator
  held z = held_at z.items (position_in (entries rs) l.block) l.offset

  abbrev told : Processing → List Place
  told z = announced_by k b z.events l

  -- the vote by the statement at i
  abbrev vote_at : ℕ → Vote
  vote_at i = record { place = record { feed = k; statement = i }; voter = a }

  told_by : (i : ℕ) (s : Statement) (r : TransactionLocatorRange) → get_elem? b.statements i ≡ some s → voted_range s ≡ some r → (z : Processing)
      → told (vote c (entries rs) a i (some r) z) ≡ told z ++ pick (covers r l) (tells c (vote_at i).place (Option.map (λ g. counted c g a) (held z))) []
  unfolding announces
  told_by i s r at votes z =
      announced_keep k b (vote c (entries rs) a i (some r) z).events l
      ∙ ap (map (place_in k)) (processed_vote c rs l e stored a i (λ n. votes_under b n l.block) r (under_range b i s r l.block at votes) z)
      ∙ map-append (place_in k) (keep (announces b l) z.events) (pick (covers r l) by [])
      ∙ rw (← announced_keep k b z.events l) (ap (λ (ps : List Place). told z ++ ps) (go (covers r l)))
    where
      by : List Event
      by = processed_by c i l.offset (Option.map (λ g. counted c g a) (held z))

      go : (t : Bool) → map (place_in k) (pick t by []) ≡ pick t (tells c (vote_at i).place (Option.map (λ g. counted c g a) (held z))) []
      go true = told_place c k i l.offset (Option.map (λ g. counted c g a) (held z))
      go false = refl

  stands_statement : (vs : List Vote) (ps : List Place) (i : ℕ) (s : Statement) → get_elem? b.statements i ≡ some s → (o : Option TransactionLocatorRange) →
      voted_range s ≡ o
      → (z : Processing) → Sound c (entries rs) z → Stands c l vs (held z) (ps ++ told z)
      → Stands c l (vs ++ pick (holds (λ r. covers r l) o) (vote_at i ∷ []) []) (held (vote c (entries rs) a i o z)) (ps ++ told (vote c (entries rs) a i o z))
  unfolding vote holds
  stands_statement vs ps i s at none f z w h = rw append-nil h
  stands_statement vs ps i s at (some r) f z w h =
      rw (
        held_vote c rs l e stored a i r z w.ordered,
        told_by i s r at f z,
        ← append_assoc ps (told z)
            (pick (covers r l) (tells c (vote_at i).place (Option.map (λ g. counted c g a) (held z))) []),
      )
      (go (covers r l))
    where
      go : (t : Bool) → Stands c l (vs ++ pick t (vote_at i ∷ []) []) (pick t (after_vote c a (held z)) (held z))
          (ps ++ told z ++ pick t (tells c (vote_at i).place (Option.map (λ g. counted c g a) (held z))) [])
      go true = stands_vote c l vs (held z) (ps ++ told z) (vote_at i) author_known h
      go false = rw (append-nil vs, append-nil (ps ++ told z)) h

  -- ---- all of them

  -- the statements from index i on
  pub stands_statements : (vs : List Vote) (ps : List Place) (i : ℕ) (ss : List Statement) → ((j : ℕ) → get_elem? b.statements (i + j) ≡ get_elem? ss j)
      → (z : Processing) → Sound c (entries rs) z → Stands c l vs (held z) (ps ++ told z)
      → Stands c l (vs ++ votes_from k a i ss l) (held (votes c (entries rs) a i ss z)) (ps ++ told (votes c (entries rs) a i ss z))
  unfolding votes votes_from is_vote_for
  stands_statements vs ps i [] at z w h = rw append-nil h
  stands_statements vs ps i (s ∷ ss) at z w h =
      subst (λ (us : List Vote). Stands c l us (held last) (ps ++ told last))
      (append_assoc vs (pick t (vote_at i ∷ []) []) (votes_from k a (i + 1) ss l) ∙ ap (λ (us : List Vote). vs ++ us) (join t))
      (stands_statements (vs ++ pick t (vote_at i ∷ []) []) ps (i + 1) ss later next (sound_vote c (entries rs) a author_known i (voted_range s) z w)
      (stands_statement vs ps i s first (voted_range s) refl z w h))
    where
      t : Bool
      t = holds (λ r. covers r l) (voted_range s)

      next : Processing
      next = vote c (entries rs) a i (voted_range s) z

      last : Processing
      last = votes c (entries rs) a (i + 1) ss next

      first : get_elem? b.statements i ≡ some s
      first = let n : i + 0 ≡ i = omega arith in rw n at (at 0)

      later : (j : ℕ) → get_elem? b.statements (i + 1 + j) ≡ get_elem? ss j
      later j = let n : i + 1 + j ≡ i + suc j = omega arith in rw n (at (suc j))

      join : (u : Bool) → pick u (vote_at i ∷ []) [] ++ votes_from k a (i + 1) ss l
          ≡ pick u (vote_at i ∷ votes_from k a (i + 1) ss l) (votes_from k a (i + 1) ss l)
      join true = refl
      join false = refl
