-- What is known of one table of a split: its items, and its part of the covered glyphs. Assumes nothing.
use Prim.Native.Nat.{ℕ, ◌+◌, ◌<◌, ◌≤◌}
use mathlib.Core.Path.{◌≡◌, sym, subst, ◌∙◌}
use mathlib.Core.List.{List}
use native.Mathlib.Omega.{arith}
use lib.ListN.{length, get_or}
use Rattle.folds.specs.Lists.{part}
use Rattle.folds.proofs.Parts.{length_part, get_d_default}
use Rattle.glyph_rules.specs.Entries.{within}
use Rattle.cut_rules.specs.Ranges.{from}
use Rattle.cut_rules.proofs.CutPlaces.{range_high}
use Rattle.cut_parts.specs.Tables.{paired, high_at, PartEnd, Halved, Parted}
use Rattle.cut_parts.proofs.Parting.{halved_none, halved_next, within_part}

module _ (gs ks cs : List ℕ) (n : ℕ) (p : Parted gs ks cs n) where
  -- where the part of a table ends, which starts at a
  next_half : (lo k a r : ℕ) → k ≤ length cs → lo ≤ high_at n cs k → Halved ks lo a → PartEnd ks a (high_at n cs k) r → Halved ks (high_at n cs k) r
  next_half lo k a r h m v e = halved_next ks lo (high_at n cs k) a r (λ i j. p.parted k i j h) m v e

  pub same_part : (a b : ℕ) → a ≤ b → b ≤ length ks → length (part ks a b) ≡ length (part gs a b)
  same_part a b h m = let e = p.same in length_part ks a b h m ∙ sym (length_part gs a b h (omega arith))

  pub first_high : high_at n cs 0 ≡ from cs 0
  first_high = get_d_default cs 0 n 0 p.some

  -- the kept table
  module _ (a : ℕ) (e : PartEnd ks 0 (from cs 0) a) where
    pub kept_half : Halved ks (high_at n cs 0) a
    kept_half = next_half 0 0 0 a (omega arith) (omega arith) (halved_none ks) (subst (λ (h : ℕ). PartEnd ks 0 h a) (sym first_high) e)

    pub kept_entries : within 0 (from cs 0) (paired gs ks) ≡ paired (part gs 0 a) (part ks 0 a)
    kept_entries = within_part gs ks 0 (from cs 0) 0 a p.same (halved_none ks) (subst (λ (h : ℕ). Halved ks h a) first_high kept_half) (omega arith)

  -- new table j, whose part starts at a
  module _ (j a r : ℕ) (h : j < length cs) (v : Halved ks (high_at n cs j) a) (e : PartEnd ks a (get_or cs (j + 1) n) r) where
    new_low : high_at n cs j ≡ from cs j
    new_low = get_d_default cs j n 0 h

    pub new_rises : from cs j < get_or cs (j + 1) n
    new_rises = (range_high n cs p.places j h).0

    pub new_inside : get_or cs (j + 1) n ≤ n
    new_inside = (range_high n cs p.places j h).1

    pub new_half : Halved ks (high_at n cs (j + 1)) r
    new_half = next_half (high_at n cs j) (j + 1) a r (omega arith) (omega (arith, new_low, new_rises)) v e

    pub new_entries : within (from cs j) (get_or cs (j + 1) n) (paired gs ks) ≡ paired (part gs a r) (part ks a r)
    new_entries = within_part gs ks (from cs j) (get_or cs (j + 1) n) a r p.same (subst (λ (x : ℕ). Halved ks x a) new_low v) new_half e.after

    pub new_same : length (part ks a r) ≡ length (part gs a r)
    new_same = same_part a r e.after e.inside
