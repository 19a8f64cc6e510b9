-- Where a path leads. Assumes nothing.
use mathlib.Core.Path.{◌≡◌, refl, sym, subst}
use mathlib.Core.List.{List, [], ◌∷◌}
use mathlib.Core.Option.{Option, none, some, none-ne-some, some-injective}
use Prim.Native.Nat.{ℕ, zero, suc}
use native.Mathlib.Omega.{arith}
use lib.ListN.{get_elem?}
use Rattle.base.specs.Lists.{◌∈◌, here, there}
use Rattle.base.proofs.Lists.{find_passes, find_in}
use Rattle.record_spec.specs.Reference.{BlockReference, same_reference}
use Rattle.record_spec.specs.Block.{Block}
use Rattle.record_spec.proofs.References.{reference_same}
use Rattle.final_spec.specs.Ancestry.{Ancestor, itself, included}
use Rattle.slip_spec.specs.Paths.{named, to_block, nowhere, not_given, on_from, on_by, leads}
use Rattle.slip_spec.specs.Meaning.{OnPath, start, later}

-- what stands at a place is one of the elements
pub place_in : {A : Type 0} (xs : List A) (p : ℕ) (x : A) → get_elem? xs p ≡ some x → x ∈ xs
place_in [] p x h = absurd (none-ne-some x h)
place_in (y ∷ xs) zero x h = rw (← some-injective _ _ h) here
place_in (y ∷ xs) (suc p) x h = there (place_in xs p x h)

-- the block of a reference has it, and is one of the blocks
pub named_reference : (bs : List Block) (r : BlockReference) (b : Block) → named bs r ≡ some b → b.reference ≡ r
unfolding named
named_reference bs r b h = reference_same b.reference r (find_passes (λ d. same_reference d.reference r) bs b h)

pub named_in : (bs : List Block) (r : BlockReference) (b : Block) → named bs r ≡ some b → b ∈ bs
unfolding named
named_in bs r b h = find_in (λ d. same_reference d.reference r) bs b h

-- a path leads to one block
pub same_end : {b d : Block} → to_block b ≡ to_block d → b ≡ d
same_end e = cc

nowhere_no : {d : Block} → nowhere ≡ to_block d → ⊥
nowhere_no e = let z : ◌≡◌ {A = ℕ} 0 1 = cc in omega arith

not_given_no : {d : Block} → not_given ≡ to_block d → ⊥
not_given_no e = let z : ◌≡◌ {A = ℕ} 0 1 = cc in omega arith

-- the first step of a path
pub record Step (bs : List Block) (p : ℕ) (ps : List ℕ) (b d : Block) : Type 0 where
  pub include : BlockReference
  pub next : Block
  pub at : get_elem? b.includes p ≡ some include
  pub given : named bs include ≡ some next
  pub onward : leads bs ps next ≡ to_block d

pub first_step : (bs : List Block) (p : ℕ) (ps : List ℕ) (b d : Block) → leads bs (p ∷ ps) b ≡ to_block d → Step bs p ps b d
unfolding leads on_by on_from
first_step bs p ps b d h = by (get_elem? b.includes p) refl h
  where
    from : (r : BlockReference) (o : Option Block) → get_elem? b.includes p ≡ some r → named bs r ≡ o → on_from (leads bs ps) o ≡ to_block d → Step bs p ps b d
    from r none e f k = absurd (not_given_no k)
    from r (some i) e f k = record { include = r; next = i; at = e; given = f; onward = k }

    by : (o : Option BlockReference) → get_elem? b.includes p ≡ o → on_by bs (leads bs ps) o ≡ to_block d → Step bs p ps b d
    by none e k = absurd (nowhere_no k)
    by (some r) e k = from r (named bs r) e refl k

pub step_leads : (bs : List Block) (p : ℕ) (ps : List ℕ) (b d : Block) → Step bs p ps b d → leads bs (p ∷ ps) b ≡ to_block d
unfolding leads on_by on_from
step_leads bs p ps b d s = rw (s.at, s.given) s.onward

-- one step of a path: on to the include's block; past the end; to a block that is not given
pub leads_on : (bs : List Block) (p : ℕ) (ps : List ℕ) (b i : Block) (r : BlockReference) → get_elem? b.includes p ≡ some r → named bs r ≡ some i → leads bs
    (p ∷ ps) b ≡ leads bs ps i
unfolding leads on_by on_from
leads_on bs p ps b i r e f = rw (e, f)

pub leads_nowhere : (bs : List Block) (p : ℕ) (ps : List ℕ) (b : Block) → get_elem? b.includes p ≡ none → leads bs (p ∷ ps) b ≡ nowhere
unfolding leads on_by
leads_nowhere bs p ps b e = rw e

pub leads_not_given : (bs : List Block) (p : ℕ) (ps : List ℕ) (b : Block) (r : BlockReference) → get_elem? b.includes p ≡ some r → named bs r ≡ none → leads
    bs (p ∷ ps) b ≡ not_given
unfolding leads on_by on_from
leads_not_given bs p ps b r e f = rw (e, f)

-- what a path leads to is an ancestor wherever the blocks on the path are stored
pub path_ancestor : (bs cs : List Block) (ps : List ℕ) (b d : Block) → leads bs ps b ≡ to_block d → ((x : Block) → OnPath bs x ps b → x ∈ cs) → Ancestor cs d b
unfolding leads
path_ancestor bs cs [] b d h f = subst (λ (x : Block). Ancestor cs x b) (same_end h) (itself (f b start))
path_ancestor bs cs (p ∷ ps) b d h f =
    let s = first_step bs p ps b d h in
    included (f b start)
    (subst (λ (r : BlockReference). r ∈ b.includes) (sym (named_reference bs s.include s.next s.given))
    (place_in b.includes p s.include s.at))
    (path_ancestor bs cs ps s.next d s.onward (λ x y. f x (later s.at s.given y)))

-- what stands on a path is one of the blocks given
on_path_of : (bs : List Block) (d : Block) (ps : List ℕ) (b : Block) → b ∈ bs → OnPath bs d ps b → d ∈ bs
on_path_of bs d ps b m start = m
on_path_of bs d ps b m (later {ps = qs} {i = i} {r = r} e g y) = on_path_of bs d qs i (named_in bs r i g) y

pub on_path_in : (bs : List Block) (ps : List ℕ) (b d : Block) → b ∈ bs → OnPath bs d ps b → d ∈ bs
on_path_in bs ps b d m y = on_path_of bs d ps b m y
