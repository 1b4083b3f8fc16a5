-- One walk after another: what the rows walked so far have added, each object once, also where these rows stand apart. Assumes nothing.
use Prim.Native.Nat.{ℕ, ◌+◌, ◌≤◌, ◌<◌}
use mathlib.Core.Bool.{Bool}
use mathlib.Core.List.{List}
use mathlib.Core.Path.{◌≡◌, ◌∙◌}
use native.Mathlib.Omega.{arith}
use Rattle.folds.proofs.Tally.{tally_le}
use Rattle.store_rules.specs.Store.{Store, Link, size_of}
use Rattle.store_rules.specs.Reach.{marked, reached, reach_size, item_size, rows_of}
use Rattle.store_rules.proofs.Reaching.{size_same}
use Rattle.store_rules.proofs.Sound.{Fits, sizes_most}
use Rattle.store_walk.specs.Marks.{also_between, Marks, Walked, Grown}
use Rattle.store_walk.proofs.Marks.{marks_same, marks_after}

module _ {s : Store} {e : ℕ} where
  -- no walk yet
  pub grown_none : {from : ℕ → Bool} {w : List ℕ} → Marks s from e w → Grown s from from e w 0
  grown_none v = record { marks = v; size = omega arith }

  -- some walks after others
  pub grown_more : {a b c : ℕ → Bool} {w w' : List ℕ} {r r' : ℕ} → Grown s a b e w r → Grown s b c e w' r' → Grown s a c e w' (r + r')
  grown_more g h = record { marks = h.marks; size = omega (arith, g.size, h.size) }

  -- what the walks of item i's rows have added is S(i), where objects count as seen from item a on
  pub grown_item : (rows : ℕ → ℕ → Link → Bool) (a i : ℕ) {w : List ℕ} {r : ℕ}
      → Grown s (rows_of s rows a i) (rows_of s rows a (i + 1)) e w r → r ≡ item_size s rows a i
  unfolding item_size
  grown_item rows a i g = omega (arith, g.size)

  module _ (f : Fits s) where
    -- the same rows under another name
    pub grown_same : {a b c : ℕ → Bool} {w : List ℕ} {r : ℕ} → ((k : ℕ) → k < s.link_count → b k ≡ c k) → Grown s a b e w r → Grown s a c e w r
    grown_same {b = b} {c = c} h g = record { marks = marks_same f g.marks h; size = g.size ∙ size_same s f b c h }

    -- one walk
    pub grown_walk : {from : ℕ → Bool} {lo hi : ℕ} {w w' : List ℕ} {total : ℕ} → Marks s from e w
        → Walked s from lo hi e w w' total → Grown s from (also_between from lo hi) e w' total
    grown_walk v d = record { marks = marks_after f v d; size = d.size }

    -- each object counts once
    pub grown_most : {from more : ℕ → Bool} {w : List ℕ} {r : ℕ} → Grown s from more e w r → r ≤ 16777216
    unfolding reach_size
    grown_most {more = more} g = omega (arith, g.size, tally_le (size_of s) (marked (reached s more)) s.object_count, sizes_most s f)
