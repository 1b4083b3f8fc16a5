-- Weighing an item, in the code's account and in the cut rule's. Assumes nothing.
use Prim.Native.Nat.{ℕ, ◌+◌, ◌≤◌, ◌<◌}
use mathlib.Core.Path.{◌≡◌, refl, sym, ap, ◌∙◌}
use mathlib.Core.Bool.{Bool, true, false, ◌&&◌}
use mathlib.Core.List.{List, [], ◌∷◌}
use native.Mathlib.Omega.{arith}
use lib.Dec.{leb, ltb}
use lib.ListN.{length, drop, set, length-append, length-drop}
use borrow.Author.Tests.{lt-ltb, le-ltb, le-leb, ne_eqb}
use Rattle.folds.specs.Lists.{put}
use Rattle.folds.proofs.Tests.{and_first}
use Rattle.folds.proofs.Put.{put-set}
use Rattle.cut_rules.specs.Cuts.{Rule, Cutting, least_cut, cost_at_cut, exceeds, cut_due, cut_here, go_on, after}
use Rattle.cut_filling.specs.Filling.{Fills, Listed}
use Rattle.cut_filling.specs.declared.Filling.{Filling}

pub nothing_yet : (r : Rule) (start : ℕ) → r.start ≡ start → Fills (record { first = 0; sum = start; cuts = 0 }) (after r 0)
unfolding after
nothing_yet r start e = record { first = refl; sum = sym e; cuts = refl }

-- ---- whether a cut is due

module _ (f : Filling) (i cost beside e : ℕ) (r : Rule) (c : Cutting) (edition : r.edition ≡ e) (stands : r.beside c.first i ≡ beside) (w : Fills f c) where
  same_weight : c.sum + cost + r.beside c.first i ≡ f.sum + cost + beside
  same_weight = omega (arith, stands, w.sum)

  pub not-due : f.sum + cost + beside ≤ 65535 → cut_due r c i cost ≡ false
  unfolding cut_due exceeds
  not-due h = and_first (exceeds r c i cost) (leb (least_cut r.edition) i) (le-ltb 65535 (c.sum + cost + r.beside c.first i) (omega (arith, same_weight)))

  module _ (h : 65535 < f.sum + cost + beside) where
    due_from : cut_due r c i cost ≡ leb (least_cut r.edition) i
    unfolding cut_due exceeds
    due_from =
        ap (λ (b : Bool). b && leb (least_cut r.edition) i) (lt-ltb 65535 (c.sum + cost + r.beside c.first i) (omega (arith, same_weight)))

    pub due_second : e ≡ 2 → cut_due r c i cost ≡ ltb 0 i
    unfolding least_cut
    due_second two = due_from ∙ ap (λ (x : ℕ). leb (least_cut x) i) (edition ∙ two)

    pub due_first : (e ≡ 2 → ⊥) → cut_due r c i cost ≡ true
    unfolding least_cut
    due_first ne = due_from ∙ rw (ne_eqb r.edition 2 (λ two. ne (sym edition ∙ two))) (le-leb 0 i (omega arith))

-- ---- an item that is added, and one that is cut at

pub adding : (f : Filling) (cost : ℕ) (c : Cutting) (d l : List ℕ) → Listed f c d l
    → Listed (record { first = f.first; sum = f.sum + cost; cuts = f.cuts }) (go_on c cost) d l
unfolding go_on
adding f cost c d l w =
    record {
      fills = record { first = w.fills.first; sum = ap (λ (s : ℕ). s + cost) w.fills.sum; cuts = w.fills.cuts };
      listed = w.listed;
    }

-- a list written at the front that does not fill what is there leaves room for one number more
room_behind : (d xs l : List ℕ) → l ≡ put d 0 xs → length xs < length l → length xs < length d
unfolding put
room_behind d xs l e h =
    let z : 0 + length xs ≡ length xs = omega arith in
    omega (arith, ap length e, length-append xs (drop (0 + length xs) d), length-drop (0 + length xs) d)

pub cutting : (f : Filling) (i cost start : ℕ) (l : List ℕ) (r : Rule) (c : Cutting) (d : List ℕ) (before : ℕ) → r.start ≡ start → cost_at_cut r i before ≡ cost
    → Listed f c d l → f.cuts < length l → Listed (record { first = i; sum = start + cost; cuts = f.cuts + 1 }) (cut_here r c i before) d (set l f.cuts i)
unfolding cut_here
cutting f i cost start l r c d before starts costs w room =
    let n : f.cuts ≡ length c.cuts = w.fills.cuts in
    record {
      fills = record { first = refl; sum = omega (arith, starts, costs); cuts = omega (arith, length-append c.cuts (i ∷ [])) };
      listed =
          ap (λ (x : List ℕ). set x f.cuts i) w.listed
          ∙ put-set d 0 c.cuts f.cuts i (omega arith) (omega (arith, room_behind d c.cuts l w.listed (omega arith)));
    }
