-- Rows and children: the link of a row of a sound store is the one that is found at its place. Assumes nothing.
use Rattle.std.specs.Prelude.{Some}
use Prim.Native.Nat.{ℕ, zero, suc, ◌+◌, ◌<◌}
use mathlib.Core.Path.{◌≡◌, refl, sym, ap, subst, ◌∙◌}
use mathlib.Core.Bool.{Bool, true, false, cond}
use mathlib.Core.List.{List, [], ◌∷◌}
use mathlib.Core.Logic.{⊎_elim}
use native.Mathlib.Omega.{arith}
use native.Mathlib.Nat.{not-suc-le-zero}
use lib.ListN.{length, get_or}
use borrow.Author.Tests.{eq-eqb}
use Rattle.folds.proofs.Tests.{by_test}
use Rattle.folds.proofs.Each.{each_at}
use Rattle.store_rules.specs.Store.{Store, Link, lookup, links_of, link_at, is_offset, offset_of, child_at, parent_of, position_of, child_of}
use Rattle.store_rules.proofs.Sound.{Fits}
use Rattle.store_rules.proofs.Shaped.{of_offset, of_parent}
use Rattle.store_rules.proofs.Lookups.{hit, hit_is}
use Rattle.store_rules.proofs.LinkRows.{no_link, row_is}
use Rattle.store_rules.proofs.LinksAscend.{From, Behind, Climb, place, place_offset, climb_each}
use Rattle.store_rules.proofs.LinksFit.{rows_climb, rows_many}

-- what is found stands at its place
pub hit_place : (l : Link) (p q : ℕ) → hit l p q ≡ true → (l.parent ≡ p) × (place l ≡ q)
hit_place l p q h = let (o, e) = hit_is l p q h in (of_parent p l o, place_offset l (of_offset p l o) ∙ e)

-- of ascending links, one that comes later is not the first
pub hit_later : (l : Link) (p q : ℕ) → From l.parent (place l + 1) p q → hit l p q ≡ false
hit_later l p q a =
    by_test (hit l p q) (λ h. let (e, f) = hit_place l p q h in absurd (⊎_elim (λ b. omega arith) (λ (b, c). omega arith) a)) (λ h. h)

pub lookup_later : (l : Link) (ls : List Link) (p q : ℕ) → From l.parent (place l + 1) p q → lookup (l ∷ ls) p q ≡ lookup ls p q
unfolding lookup
lookup_later l ls p q a = ap (λ (z : Bool). cond z (Some l.child) (lookup ls p q)) (hit_later l p q a)

-- each offset of them is found at its place
climb_found : (ls : List Link) (p q e : ℕ) → Climb p q e ls → (k : ℕ) → k < length ls → (d : Link) → is_offset (get_or ls k d) ≡ true
    → lookup ls (get_or ls k d).parent (get_or ls k d).position ≡ Some (get_or ls k d).child
unfolding lookup
climb_found [] p q e c k h d o = absurd (not-suc-le-zero h)
climb_found (l ∷ ls) p q e c zero h d o = rw (o, eq-eqb l.parent l.parent refl, eq-eqb l.position l.position refl)
climb_found (l ∷ ls) p q e c (suc k) h d o =
    let x = get_or ls k d in
    let at : From l.parent (place l + 1) x.parent x.position
    = subst (From l.parent (place l + 1) x.parent) (place_offset x o) (each_at (Behind l) ls (climb_each ls l.parent (place l + 1) e c.1) k (omega arith) d) in
    lookup_later l ls x.parent x.position at ∙ climb_found ls l.parent (place l + 1) e c.1 k (omega arith) d o

pub row_child_lem : (s : Store) → Fits s → (k : ℕ) → k < s.link_count → is_offset (link_at s k) ≡ true → child_at s (parent_of s k) (position_of s k) ≡ Some (child_of s k)
unfolding child_at
row_child_lem s f k h o =
    let e : link_at s k ≡ get_or (links_of s) k no_link = row_is s (links_of s) refl k h no_link in
    subst (λ (l : Link). lookup (links_of s) l.parent l.position ≡ Some l.child) (sym e)
    (climb_found (links_of s) 0 0 s.object_count (rows_climb s f) k (omega (arith, rows_many s)) no_link (subst (λ (l : Link). is_offset l ≡ true) e o))

-- the offset of object p at its place
pub offset_child : (s : Store) → Fits s → (k p : ℕ) → k < s.link_count → offset_of p (link_at s k) ≡ true → child_at s p (position_of s k) ≡ Some (child_of s k)
offset_child s f k p h o =
    subst (λ (n : ℕ). child_at s n (position_of s k) ≡ Some (child_of s k)) (of_parent p (link_at s k) o) (row_child_lem s f k h (of_offset p (link_at s k) o))
