-- The anchors of a class: which link rows they are, and what a walk of them adds. Assumes nothing.
use Rattle.std.specs.Prelude.{ℕ, ◌+◌, ◌*◌, ◌≤◌, ◌≡◌, Bool, true, false, List, [], ◌∷◌, map, get_or}
use Rattle.folds.specs.Folds.{upto}
use Rattle.ot_layouts.specs.MarkBasePos.{mark_slot, base_slot}
use Rattle.store_rules.specs.Store.{Store, lent, sound}
use Rattle.mark_arrays.specs.declared.ArrayLinks.{ArrayLinks}
use Rattle.store_reader.specs.Rows.{ParentRows}
use Rattle.store_walk.specs.Marks.{also_at, Marks, WalkReady, Grown}
use Rattle.cut_rules.specs.Cuts.{second}
use Rattle.mark_points.specs.declared.table_info.TableInfo.{TableInfo}
use Rattle.mark_points.specs.declared.anchors.Slot.{Slot}

-- the slots of class c in a base array of n classes: one a base
abbrev pub column_slots : ℕ → ℕ → ℕ → List ℕ
column_slots bases n c = upto (λ j. base_slot (j * n + c)) bases

-- a walk in epoch e can go on
abbrev pub Goes : List ℕ → List ℕ → List ℕ → ℕ → List ℕ → Type 0
Goes o l c e w = (from : ℕ → Bool) × WalkReady o l c from e w

-- and the rows of array a are known
abbrev pub Walkable : List ℕ → List ℕ → List ℕ → ArrayLinks → ℕ → List ℕ → Type 0
Walkable o l c a e w = ParentRows l (get_or c 2 0) a.object a.rows × Goes o l c e w

-- the rows of object p at these positions were walked, whatever the bytes of the store and the rows that had been walked
pub record WalksAt (o l c : List ℕ) (p : ℕ) (qs : List ℕ) (e : ℕ) (w w' : List ℕ) (r : ℕ) : Type 0 where
  pub grown : (b : List ℕ) (from : ℕ → Bool) → sound (lent b o l c) ≡ true → Marks (lent b o l c) from e w
      → Grown (lent b o l c) from (also_at (lent b o l c) from p qs) e w' r

-- the row of object p at position q was, if there is one; both rows that are told are rows in use, or right behind them
pub record WalksSlot (o l c : List ℕ) (p q e : ℕ) (w w' : List ℕ) (r : Slot) : Type 0 where
  pub walked : WalksAt o l c p (q ∷ []) e w w' r.size
  pub row_most : r.row ≤ get_or c 2 0
  pub next_most : r.next ≤ get_or c 2 0

-- row k is one of `from`, or of the column of class i, or of a mark at one of these places
abbrev pub also_class : Store → (ℕ → Bool) → TableInfo → ℕ → List ℕ → ℕ → Bool
also_class s from x i ps =
    let a = x.arrays in
    also_at s (also_at s from a.base_array (column_slots a.bases a.classes i)) a.mark_array (map mark_slot ps)

-- the rows of class i were walked
pub record WalksClass (o l c : List ℕ) (x : TableInfo) (i : ℕ) (ps : List ℕ) (e : ℕ) (w w' : List ℕ) (r : ℕ) : Type 0 where
  pub grown : (b : List ℕ) (from : ℕ → Bool) → sound (lent b o l c) ≡ true → Marks (lent b o l c) from e w
      → Grown (lent b o l c) from (also_class (lent b o l c) from x i ps) e w' r

-- at a cut the rows of class i were walked in edition 2; else nothing was, and its size is what it was before
pub record WalksAtCut (o l c : List ℕ) (x : TableInfo) (i : ℕ) (ps : List ℕ) (before edition e : ℕ) (w w' : List ℕ) (r : ℕ) : Type 0 where
  pub again : second edition ≡ true → WalksClass o l c x i ps e w w' r
  pub stays : second edition ≡ false → (r ≡ before) × (w' ≡ w)
