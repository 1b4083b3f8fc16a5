-- The class definition that is written for a range of items: its classes are the old one's, less the first, and its runs can be counted. Assumes nothing.
use Prim.Native.Nat.{ℕ, ◌-◌, ◌<◌}
use mathlib.Core.Path.{◌≡◌}
use mathlib.Core.Bool.{Bool, false, not}
use mathlib.Core.List.{List}
use native.Mathlib.Omega.{arith}
use lib.Dec.{eqb}
use borrow.Author.Tests.{eqb-false, not-true}
use Rattle.folds.proofs.Each.{Each, each_map, each_sift, each_at}
use Rattle.folds.specs.Lists.{Bytes}
use Rattle.ot_layouts.specs.Coverage.{Entry, Ascends, Under}
use Rattle.ot_layouts.specs.ClassDef.{named, class_of}
use Rattle.ot_layouts.proofs.Runs.{ascends_sift, under_sift}
use Rattle.ot_layouts.proofs.RunCount.{many}
use Rattle.ot_layouts.proofs.RunStarts.{entry}
use Rattle.ot_layouts.proofs.Octets.{bytes_u16}
use Rattle.ot_layouts.proofs.Entries.{Agrees}
use Rattle.ot_layouts.proofs.RangesCounted.{few_runs, class_slack}
use Rattle.glyph_rules.specs.Entries.{within, reduced}
use Rattle.glyph_rules.proofs.Entries.{within_ascends, within_under, ascends_reduced, under_reduced, within_agrees}
use Rattle.store_rules.specs.Store.{Store, linked_bytes, linked_at}
use Rattle.store_rules.proofs.Bytes.{object_bytes_lem}
use Rattle.pair_rules.specs.Table.{shape, entries_of}
use Rattle.pair_rules.proofs.Entries.{entries_agree}
use Rattle.pair_rules.specs.Reads.{Reads}
use Rattle.pair_rules.proofs.Checks.{entries_ascend, entries_under, class_read}

-- the entry's class is what f gives its glyph, less lo
abbrev pub GivenBy : (ℕ → ℕ) → ℕ → Entry → Type 0
GivenBy f lo e = e.class ≡ f e.glyph - lo

given-reduced : (f : ℕ → ℕ) (lo : ℕ) (es : List Entry) → Agrees f es → Each (GivenBy f lo) (reduced lo es)
given-reduced f lo es a = each_map (λ (e : Entry). f e.glyph ≡ e.class) (GivenBy f lo) (λ e. entry e.glyph (e.class - lo)) (λ e z. omega arith) es a

-- and is not 0: the entries that a class definition names
abbrev NamedBy : (ℕ → ℕ) → ℕ → Entry → Type 0
NamedBy f lo e = GivenBy f lo e × (e.class ≡ 0 → ⊥)

given-named : (f : ℕ → ℕ) (lo : ℕ) (es : List Entry) → Each (GivenBy f lo) es → Each (NamedBy f lo) (named es)
unfolding named
given-named f lo es a =
    each_sift (GivenBy f lo) (NamedBy f lo) (λ e. not (eqb e.class 0)) (λ e h q. (h, eqb-false e.class 0 (not-true (eqb e.class 0) q))) es a

module _ (s : Store) (t : ℕ) (reads : Reads s t) (two : eqb (shape s t).format 1 ≡ false) (lo hi : ℕ) where
  abbrev es : List Entry
  es = within lo hi (entries_of s t)

  pub range_given : Each (GivenBy (class_of (linked_bytes s t 8)) lo) (reduced lo es)
  range_given = given-reduced (class_of (linked_bytes s t 8)) lo es (within_agrees (class_of (linked_bytes s t 8)) lo hi (entries_of s t) (entries_agree s t two))

  pub range_runs_few : Bytes s.bytes → many (named (reduced lo es)) < 65536
  unfolding named
  range_runs_few octets =
      let b = linked_bytes s t 8 in
      let rs = reduced lo es in
      let up : Ascends 0 rs = ascends_reduced lo es 0 (within_ascends lo hi (entries_of s t) 0 (entries_ascend s t reads)) in
      let under : Under 65536 rs = under_reduced lo es 65536 (within_under lo hi (entries_of s t) 65536 (entries_under s t reads octets)) in
      let is_named : Entry → Bool = λ e. not (eqb e.class 0) in
      few_runs (named rs) (class_of b) lo (ascends_sift is_named rs 0 up) (under_sift is_named rs 65536 under)
      (class_slack b (bytes_u16 b (object_bytes_lem s octets (linked_at s t 8))) (class_read s t reads.parts two).1)
      (λ k d l. each_at (NamedBy (class_of b) lo) (named rs) (given-named (class_of b) lo rs range_given) k l d)
