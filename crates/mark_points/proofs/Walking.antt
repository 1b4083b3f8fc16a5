-- The rows of an array walked: one slot, and one slot after another. Assumes nothing.
use Prim.Native.Nat.{ℕ, ◌+◌, ◌≤◌, ◌<◌}
use mathlib.Core.Path.{◌≡◌, refl, sym, ap, subst, ◌∙◌}
use mathlib.Core.Bool.{Bool, true, false, ◌&&◌, ◌||◌}
use mathlib.Core.List.{List, [], ◌∷◌, map}
use mathlib.Core.Logic.{⊎_elim}
use native.Mathlib.Omega.{arith}
use lib.Dec.{leb, ltb, eqb}
use lib.ListN.{length, get_or}
use lib.Seq.{ext_get_or}
use borrow.Author.Tests.{le-leb, lt-leb, lt-ltb, le-ltb, eqb-true, eq-eqb, ne_eqb}
use Rattle.folds.specs.Folds.{flat, upto}
use Rattle.folds.specs.Lists.{among}
use Rattle.folds.proofs.Among.{among_one, among-more}
use Rattle.folds.proofs.Folds.{length-upto}
use Rattle.folds.proofs.FromTheFront.{upto-at}
use Rattle.folds.proofs.Moved.{map-upto}
use Rattle.folds.proofs.Tests.{either, and_intro}
use Rattle.store_rules.specs.Store.{Store, lent, link_at, position_of, kind_of, offset_of, sound}
use Rattle.store_rules.proofs.Shaped.{of_offset}
use Rattle.store_rules.proofs.Sound.{Fits, sound_fits}
use Rattle.store_reader.specs.Rows.{orders, key_of, FirstRow}
use Rattle.store_reader.proofs.Rows.{span_rows}
use Rattle.store_walk.specs.Marks.{Offsets, also_between, also_at, Marks, Walked, Grown}
use Rattle.store_walk.proofs.Items.{span_own}
use Rattle.store_walk.proofs.Grown.{grown_none, grown_more, grown_same, grown_walk, grown_most}
use Rattle.mark_points.specs.Anchors.{Goes, WalksAt}

-- ---- one slot

-- from a position up to the next one
one_place : (q x : ℕ) → leb q x && ltb x (q + 1) ≡ eqb x q
one_place q x =
    ⊎_elim
    (λ (h : x < q). rw (lt-leb q x h, ne_eqb x q (omega arith)))
    (λ (h : q ≤ x).
    ⊎_elim
    (λ (g : x < q + 1). rw (le-leb q x h, lt-ltb x (q + 1) g, eq-eqb x q (omega arith)))
    (λ (g : q + 1 ≤ x). rw (le-leb q x h, le-ltb x (q + 1) g, ne_eqb x q (omega arith)))
    (either x (q + 1)))
    (either x q)

and_assoc : (a b c : Bool) → a && b && c ≡ a && (b && c)
and_assoc true b c = refl
and_assoc false b c = refl

module _ {s : Store} (p q : ℕ) {lo hi : ℕ} (f : Fits s) (short : q + 1 ≤ orders)
    (first : FirstRow s.links s.link_count (key_of p q) lo) (next : FirstRow s.links s.link_count (key_of p (q + 1)) hi) where
  -- the rows from the first at the position or past it up to the first past it
  slot_rows : (from : ℕ → Bool) (k : ℕ) → k < s.link_count → also_between from lo hi k ≡ also_at s from p (q ∷ []) k
  slot_rows from k h =
      ap (λ (b : Bool). from k || b)
      (span_rows s f p q (q + 1) first next short k h
      ∙ and_assoc (offset_of p (link_at s k)) (leb q (position_of s k)) (ltb (position_of s k) (q + 1))
      ∙ ap (λ (b : Bool). offset_of p (link_at s k) && b) (one_place q (position_of s k) ∙ sym (among_one (position_of s k) q)))

  -- which are offsets
  pub slot_offsets : Offsets s.links lo hi
  slot_offsets k a b =
      let h : k < s.link_count = omega (arith, next.within) in
      let own = sym (span_rows s f p q (q + 1) first next short k h) ∙ and_intro (leb lo k) (ltb k hi) (le-leb lo k a) (lt-ltb k hi b) in
      eqb-true (kind_of s k) 0 (of_offset p (link_at s k) (span_own p q (q + 1) (link_at s k) own))

  pub slot_grown : {from : ℕ → Bool} {e : ℕ} {w w' : List ℕ} {r : ℕ} → Marks s from e w → Walked s from lo hi e w w' r
      → Grown s from (also_at s from p (q ∷ [])) e w' r
  slot_grown {from} v d = grown_same f (slot_rows from) (grown_walk f v d)

-- ---- one slot after another

or_nothing : (a b : Bool) → a ≡ a || b && false
or_nothing true b = refl
or_nothing false true = refl
or_nothing false false = refl

gathered : (a b x y : Bool) → (a || b && x) || b && y ≡ a || b && (x || y)
gathered true b x y = refl
gathered false true x y = refl
gathered false false x y = refl

-- the rows in use are few
pub goes_few : {o l c : List ℕ} {e : ℕ} {w : List ℕ} → Goes o l c e w → get_or c 2 0 ≤ 262144
goes_few (from, g) = (sound_fits _ g.is_sound).links_most

module _ {o l c : List ℕ} {p e : ℕ} where
  -- a walk can go on after others
  pub walks_on : {qs w w' : List ℕ} {r : ℕ} → Goes o l c e w → WalksAt o l c p qs e w w' r → Goes o l c e w'
  walks_on (from, g) d =
      let now = d.grown g.bytes from g.is_sound g.marks in
      (_, record { bytes = g.bytes; is_sound = g.is_sound; marks = now.marks; early = g.early })

  pub walks_most : {qs w w' : List ℕ} {r : ℕ} → Goes o l c e w → WalksAt o l c p qs e w w' r → r ≤ 16777216
  walks_most (from, g) d = grown_most (sound_fits _ g.is_sound) (d.grown g.bytes from g.is_sound g.marks)

  -- no slot
  walks_none : {w : List ℕ} → WalksAt o l c p [] e w w 0
  unfolding among
  walks_none = record {
    grown = λ b from u v.
        let s : Store = lent b o l c in
        grown_same (sound_fits s u) (λ k h. or_nothing (from k) (offset_of p (link_at s k))) (grown_none v);
  }

  -- one slot more
  walks_more : (f : ℕ → ℕ) (j : ℕ) {w w' w'' : List ℕ} {r r' : ℕ} → WalksAt o l c p (upto f j) e w w' r → WalksAt o l c p (f j ∷ []) e w' w'' r'
      → WalksAt o l c p (upto f (j + 1)) e w w'' (r + r')
  walks_more f j {w} {w'} {w''} {r} {r'} x y = record { grown = go }
    where
      also : (b : List ℕ) (from : ℕ → Bool) (k : ℕ)
          → also_at (lent b o l c) (also_at (lent b o l c) from p (upto f j)) p (f j ∷ []) k ≡ also_at (lent b o l c) from p (upto f (j + 1)) k
      also b from k =
          let s : Store = lent b o l c in
          let at : ℕ = position_of s k in
          gathered (from k) (offset_of p (link_at s k)) (among at (upto f j)) (among at (f j ∷ []))
          ∙ ap (λ (z : Bool). from k || offset_of p (link_at s k) && z)
          (ap (λ (z : Bool). among at (upto f j) || z) (among_one at (f j)) ∙ sym (among-more f at j))

      go : (b : List ℕ) (from : ℕ → Bool) → sound (lent b o l c) ≡ true → Marks (lent b o l c) from e w
          → Grown (lent b o l c) from (also_at (lent b o l c) from p (upto f (j + 1))) e w'' (r + r')
      go b from u v =
          let g = x.grown b from u v in
          grown_same (sound_fits (lent b o l c) u) (λ k h. also b from k) (grown_more g (y.grown b (also_at (lent b o l c) from p (upto f j)) u g.marks))

-- ---- a loop over n slots, at the positions that f gives

pub record Walking (o l c : List ℕ) (p : ℕ) (f : ℕ → ℕ) (e : ℕ) (w₀ : List ℕ) (n j : ℕ) (w : List ℕ) (size : ℕ) : Type 0 where
  pub inside : j ≤ n
  pub long : length w ≡ length w₀
  pub walked : WalksAt o l c p (upto f j) e w₀ w size

module _ {o l c : List ℕ} {p : ℕ} {f : ℕ → ℕ} {e : ℕ} {w₀ : List ℕ} {n : ℕ} where
  pub walking_start : Walking o l c p f e w₀ n 0 w₀ 0
  unfolding flat
  walking_start = record { inside = omega arith; long = refl; walked = walks_none }

  module _ {j : ℕ} {w : List ℕ} {size : ℕ} (v : Walking o l c p f e w₀ n j w size) where
    pub walking_turn : j < n → {w' : List ℕ} {r : ℕ} → length w' ≡ length w → WalksAt o l c p (f j ∷ []) e w w' r
        → Walking o l c p f e w₀ n (j + 1) w' (size + r)
    walking_turn h long d = record { inside = omega arith; long = long ∙ v.long; walked = walks_more f j v.walked d }

    pub walking_stop : n ≤ j → WalksAt o l c p (upto f n) e w₀ w size
    walking_stop h = let z : j ≡ n = omega (arith, v.inside) in subst (λ (k : ℕ). WalksAt o l c p (upto f k) e w₀ w size) z v.walked

-- ---- the slots of all numbers of a list

slots_of_lem : (h : ℕ → ℕ) (ps : List ℕ) → upto (λ j. h (get_or ps j 0)) (length ps) ≡ map h ps
slots_of_lem h ps =
    sym (map-upto h (λ j. get_or ps j 0) (length ps))
    ∙ ap (map h) (ext_get_or 0 (upto (λ j. get_or ps j 0) (length ps)) ps (length-upto (λ j. get_or ps j 0) (length ps)) at)
  where
    at : (i : ℕ) → i < length (upto (λ j. get_or ps j 0) (length ps)) → get_or (upto (λ j. get_or ps j 0) (length ps)) i 0 ≡ get_or ps i 0
    at i l = upto-at (λ j. get_or ps j 0) (length ps) i 0 (omega (arith, length-upto (λ j. get_or ps j 0) (length ps)))

-- the loop over them
pub walking_all : {o l c : List ℕ} {p : ℕ} (h : ℕ → ℕ) (ps : List ℕ) {e : ℕ} {w₀ w : List ℕ} {j size : ℕ}
    → Walking o l c p (λ k. h (get_or ps k 0)) e w₀ (length ps) j w size → length ps ≤ j
    → WalksAt o l c p (map h ps) e w₀ w size
walking_all {o} {l} {c} {p} h ps {e} {w₀} {w} {j} {size} v end =
    subst (λ (qs : List ℕ). WalksAt o l c p qs e w₀ w size) (slots_of_lem h ps) (walking_stop v end)
