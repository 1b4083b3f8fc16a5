-- How the code's account of a table that is being filled stands to the cut rule's. Assumes nothing.
use Rattle.std.specs.Prelude.{ℕ, ◌≤◌, ◌≡◌, Bool, List, length}
use Rattle.folds.specs.Lists.{put}
use Rattle.cut_rules.specs.Cuts.{Rule, Cutting, cost_at_cut, cut_due, cut_here, go_on, after}
use Rattle.cut_filling.specs.declared.Filling.{Filling}

-- f is the code's account of c
pub record Fills (f : Filling) (c : Cutting) : Type 0 where
  pub first : f.first ≡ c.first
  pub sum : f.sum ≡ c.sum
  pub cuts : f.cuts ≡ length c.cuts

-- the cuts stand at the front of the lent list, which came as d
pub record Listed (f : Filling) (c : Cutting) (d l : List ℕ) : Type 0 where
  pub fills : Fills f c
  pub listed : l ≡ put d 0 c.cuts

-- by any rule of that edition, of which what stands beside the items up to i is `beside`: whether a cut is due at item i
abbrev pub IsDue : Filling → ℕ → ℕ → ℕ → ℕ → Bool → Type 0
IsDue f i cost beside e b = (r : Rule) (c : Cutting) → r.edition ≡ e → r.beside c.first i ≡ beside → Fills f c → b ≡ cut_due r c i cost

-- an item was added
abbrev pub ItemAdded : Filling → ℕ → Filling → Type 0
ItemAdded f cost f' = (c : Cutting) (d l : List ℕ) → Listed f c d l → Listed f' (go_on c cost) d l

-- by any rule with that start, by which item i costs so much at a cut: item i was cut at, whatever it cost before
abbrev pub Cut : Filling → ℕ → ℕ → ℕ → List ℕ → Filling → List ℕ → Type 0
Cut f i cost start l f' l' =
    (r : Rule) (c : Cutting) (d : List ℕ) (before : ℕ) → r.start ≡ start → cost_at_cut r i before ≡ cost → Listed f c d l → Listed f' (cut_here r c i before) d l'

-- the places cs stand at the front of the lent list, which came as d, and n is how many there are
pub record Placed (cs d l : List ℕ) (n : ℕ) : Type 0 where
  pub count : n ≡ length cs
  pub places : l ≡ put d 0 cs

-- the items below i have been weighed by the rule
pub record Filled (r : Rule) (d : List ℕ) (i : ℕ) (f : Filling) (l : List ℕ) : Type 0 where
  pub listed : Listed f (after r i) d l
  pub first : (after r i).first ≤ i
  pub few : f.cuts ≤ i
  -- a start and an item at most: a sum that goes on from there stays within 65,535
  pub small : f.sum ≤ 67108864
  pub room : r.count ≤ length d
