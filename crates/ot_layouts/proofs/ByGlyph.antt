-- Entries by glyph: entries in ascending order are the glyphs that they have, each with its class; the first glyph and the last, and with one more.
-- Assumes nothing.
use Prim.Native.Nat.{ℕ, zero, suc, ◌+◌, ◌<◌, ◌≤◌, min, max}
use mathlib.Core.Path.{◌≡◌, refl, sym, ap, ap₂, ◌∙◌}
use mathlib.Core.Bool.{Bool, true, false, cond}
use mathlib.Core.List.{List, [], ◌∷◌, ◌++◌}
use mathlib.Core.Logic.{⊎_elim}
use native.Mathlib.Nat.{not-suc-le-zero, le_of_suc-le-suc, eq-or-lt_of_le}
use native.Mathlib.Omega.{arith}
use lib.ListN.{length}
use lib.Dec.{eqb}
use borrow.Author.Tests.{eq-eqb, ne_eqb}
use Rattle.folds.specs.Folds.{flat}
use Rattle.folds.proofs.Tests.{true_false, either}
use Rattle.folds.proofs.Folds.{flat_none, flat_split}
use Rattle.folds.proofs.FromTheFront.{flat-cons, flat-same}
use Rattle.folds.proofs.Picked.{piece, picked_in, picked_out, picked_none, Adds, First, Last, unpicked, first_picked, last_picked}
use Rattle.ot_layouts.specs.Coverage.{Entry, Ascends, Under}
use Rattle.ot_layouts.specs.ClassDef.{first_glyph, last_glyph, class_in}
use Rattle.ot_layouts.proofs.RunStarts.{entry, taken}

-- ---- the entries' own glyphs and classes

-- an entry has glyph g
unfoldable pub has : List Entry → ℕ → Bool
has [] g = false
has (e ∷ es) g = cond (eqb e.glyph g) true (has es g)

has_below : (es : List Entry) (lo g : ℕ) → Ascends lo es → g < lo → has es g ≡ false
unfolding has
has_below [] lo g a l = refl
has_below (e ∷ es) lo g a l =
    let b : lo ≤ e.glyph = a.0 in
    rw (ne_eqb e.glyph g (omega arith)) (has_below es (e.glyph + 1) g a.1 (omega arith))

-- what stands at a glyph
abbrev at : List Entry → ℕ → List Entry
at es g = piece (has es) (λ x. entry x (class_in es x)) g

at_head : (e : Entry) (es : List Entry) (g : ℕ) → e.glyph ≡ g → at (e ∷ es) g ≡ e ∷ []
unfolding has class_in
at_head e es g h = rw (eq-eqb e.glyph g h) (ap {B = List Entry} (λ (x : ℕ). entry x e.class ∷ []) (sym h))

at_tail : (e : Entry) (es : List Entry) (g : ℕ) → (e.glyph ≡ g → ⊥) → at (e ∷ es) g ≡ at es g
unfolding has class_in
at_tail e es g h = rw (ne_eqb e.glyph g h)

at_below : (es : List Entry) (lo g : ℕ) → Ascends lo es → g < lo → at es g ≡ []
at_below es lo g a l = rw (has_below es lo g a l)

-- glyph by glyph, from lo on
abbrev From : ℕ → ℕ → Type 0
From n lo = (es : List Entry) → Ascends lo es → Under (lo + n) es → flat (λ j. at es (lo + j)) n ≡ es

module _ (n lo : ℕ) (low : From n (lo + 1)) where
  step : (j : ℕ) → lo + suc j ≡ lo + 1 + j
  step j = omega arith

  -- the glyphs behind the first are those of xs
  rest : (es xs : List Entry) → ((j : ℕ) → at es (lo + suc j) ≡ at xs (lo + suc j)) → Ascends (lo + 1) xs → Under (lo + suc n) xs → flat (λ j. at es (lo + suc j)) n ≡ xs
  rest es xs h a u =
      flat-same (λ j. at es (lo + suc j)) (λ j. at xs (lo + 1 + j)) n (λ j l. h j ∙ ap (at xs) (step j))
      ∙ low xs a (rw (← step n) u)

  here : (e : Entry) (es : List Entry) → Ascends (lo + 1) es → Under (lo + suc n) es → lo ≡ e.glyph → at (e ∷ es) (lo + 0) ++ flat (λ j. at (e ∷ es) (lo + suc j)) n ≡ e ∷ es
  here e es a u q =
      ap₂ (λ (x y : List Entry). x ++ y) (at_head e es (lo + 0) (omega arith)) (rest (e ∷ es) es (λ j. at_tail e es (lo + suc j) (omega arith)) a u)

  later : (es : List Entry) → Ascends (lo + 1) es → Under (lo + suc n) es → at es (lo + 0) ++ flat (λ j. at es (lo + suc j)) n ≡ es
  later es a u = ap₂ (λ (x y : List Entry). x ++ y) (at_below es (lo + 1) (lo + 0) a (omega arith)) (rest es es (λ j. refl) a u)

  more : From (suc n) lo
  more [] a u = flat-cons (λ j. at [] (lo + j)) n ∙ later [] tt tt
  more (e ∷ es) a u =
      flat-cons (λ j. at (e ∷ es) (lo + j)) n
      ∙ ⊎_elim (λ q. here e es (rw q a.1) u.1 q) (λ l. later (e ∷ es) (omega arith, a.1) u) (eq-or-lt_of_le a.0)

from : (n lo : ℕ) → From n lo
from zero lo [] a u = flat_none (λ j. at [] (lo + j))
from zero lo (e ∷ es) a u = let no : ⊥ = omega (arith, a.0, u.0) in absurd no
from (suc n) lo es a u = more n lo (from n (lo + 1)) es a u

pub taken_all : (es : List Entry) (n : ℕ) → Ascends 0 es → Under n es → taken (has es) (class_in es) n ≡ es
taken_all es n a u =
    let e : n ≡ 0 + n = omega arith in
    flat-same (at es) (λ j. at es (0 + j)) n (λ j l. ap (at es) (omega arith)) ∙ from n 0 es a (rw (← e) u)

-- ---- the first glyph and the last

last_behind : (es : List Entry) (e : Entry) → last_glyph (es ++ (e ∷ [])) ≡ e.glyph
unfolding last_glyph
last_behind [] e = refl
last_behind (x ∷ []) e = refl
last_behind (x ∷ y ∷ es) e = last_behind (y ∷ es) e

module _ (p : ℕ → Bool) (cl : ℕ → ℕ) where
  named : ℕ → Entry
  named g = entry g (cl g)

  pub first_taken : (n m : ℕ) → First p n m → first_glyph (taken p cl n) ≡ m
  unfolding first_glyph named
  first_taken n m r =
      let (rest, q) = flat_split (piece p named) m n r.below in
      ap first_glyph (q ∙ ap₂ (λ (x : List Entry) (b : Bool). x ++ cond b (named m ∷ []) [] ++ rest) (picked_none p named m r.none) r.here)

  pub last_taken : (n m : ℕ) → Last p n m → last_glyph (taken p cl n) ≡ m
  unfolding named
  last_taken zero m r = absurd (not-suc-le-zero r.below)
  last_taken (suc n) m r =
      ⊎_elim
      (λ e. let t : p n ≡ true = rw e at r.here in ap last_glyph (picked_in p named n t) ∙ last_behind (taken p cl n) (named n) ∙ sym e)
      (λ l. ap last_glyph (picked_out p named n (r.none n l (omega arith))) ∙ last_taken n m (record { below = l; here = r.here; none = λ k a b. r.none k a (omega arith) }))
      (eq-or-lt_of_le (le_of_suc-le-suc r.below))

-- with one glyph more
module _ (p q : ℕ → Bool) (x : ℕ) (a : Adds p x q) (cl : ℕ → ℕ) (n : ℕ) (l : x < n) where
  others : (k : ℕ) → p k ≡ true → q k ≡ true
  others k t = a.same k (λ e. true_false (sym t ∙ ap p e ∙ a.new)) ∙ t

  none : (k : ℕ) → (k ≡ x → ⊥) → p k ≡ false → q k ≡ false
  none k ne t = a.same k ne ∙ t

  pub first_adds : first_glyph (taken q cl n) ≡ cond (eqb (length (taken p cl n)) 0) x (min (first_glyph (taken p cl n)) x)
  first_adds = ⊎_elim some alone (either 0 (length (taken p cl n)))
    where
      some : 0 < length (taken p cl n) → first_glyph (taken q cl n) ≡ cond (eqb (length (taken p cl n)) 0) x (min (first_glyph (taken p cl n)) x)
      some h =
          let (m, r) = first_picked p (λ g. entry g (cl g)) n h in
          rw (ne_eqb (length (taken p cl n)) 0 (omega arith), first_taken p cl n m r)
          (first_taken q cl n (min m x)
          record {
            below = omega arith;
            here = ⊎_elim (λ u. let e : min m x ≡ m = omega arith in rw e (others m r.here)) (λ u. let e : min m x ≡ x = omega arith in rw e a.there) (either m x);
            none = λ k u. none k (omega arith) (r.none k (omega arith));
          })

      alone : length (taken p cl n) ≤ 0 → first_glyph (taken q cl n) ≡ cond (eqb (length (taken p cl n)) 0) x (min (first_glyph (taken p cl n)) x)
      alone h =
          let e : length (taken p cl n) ≡ 0 = omega arith in
          rw (eq-eqb (length (taken p cl n)) 0 e)
          (first_taken q cl n x (record { below = l; here = a.there; none = λ k u. none k (omega arith) (unpicked p (λ g. entry g (cl g)) n e k (omega arith)) }))

  pub last_adds : last_glyph (taken q cl n) ≡ cond (eqb (length (taken p cl n)) 0) x (max (last_glyph (taken p cl n)) x)
  last_adds = ⊎_elim some alone (either 0 (length (taken p cl n)))
    where
      some : 0 < length (taken p cl n) → last_glyph (taken q cl n) ≡ cond (eqb (length (taken p cl n)) 0) x (max (last_glyph (taken p cl n)) x)
      some h =
          let (m, r) = last_picked p (λ g. entry g (cl g)) n h in
          let b : m < n = r.below in
          rw (ne_eqb (length (taken p cl n)) 0 (omega arith), last_taken p cl n m r)
          (last_taken q cl n (max m x)
          record {
            below = omega arith;
            here = ⊎_elim (λ u. let e : max m x ≡ x = omega arith in rw e a.there) (λ u. let e : max m x ≡ m = omega arith in rw e (others m r.here)) (either m x);
            none = λ k u v. none k (omega arith) (r.none k (omega arith) v);
          })

      alone : length (taken p cl n) ≤ 0 → last_glyph (taken q cl n) ≡ cond (eqb (length (taken p cl n)) 0) x (max (last_glyph (taken p cl n)) x)
      alone h =
          let e : length (taken p cl n) ≡ 0 = omega arith in
          rw (eq-eqb (length (taken p cl n)) 0 e)
          (last_taken q cl n x (record { below = l; here = a.there; none = λ k u v. none k (omega arith) (unpicked p (λ g. entry g (cl g)) n e k v) }))
