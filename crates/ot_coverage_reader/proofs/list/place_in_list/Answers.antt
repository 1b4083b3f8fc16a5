-- `list::place_in_list` meets its contract: where the glyphs change over from those below it, it stands or is nowhere. Assumes nothing.
use Rattle.std.specs.Prelude.{Some, None}
use mathlib.Core.Path.{◌≡◌, refl}
use mathlib.Core.List.{List, [], ◌∷◌}
use mathlib.Core.Logic.{⊎_elim}
use Prim.Native.Nat.{ℕ, ◌+◌, ◌<◌}
use native.Mathlib.Omega.{arith}
use borrow.Author.Rules.{rules}
use borrow.Author.Tests.{ltb-true, ltb-false}
use lib.ListN.{length}
use Rattle.folds.specs.Folds.{upto}
use Rattle.folds.specs.Lists.{find}
use Rattle.folds.proofs.Folds.{length-upto}
use Rattle.folds.proofs.Find.{find_at, find_no, find-one, find-other}
use Rattle.folds.proofs.Halving.{Parts, ends_below, apart}
use Rattle.ot_layouts.specs.Coverage.{glyph_at, cover_place}
use Rattle.ot_layouts.proofs.CoverageRead.{Listed, header_list}
use Rattle.ot_coverage_reader.proofs.list.place_in_list.Goals.{else-k-count-via-then-k-count+else-u16_at-glyph, else-k-count-via-else-k-count}
use Rattle.ot_coverage_reader.proofs.list.place_in_list.Goals as goal

module _ {part : List ℕ} {count g k : ℕ} (listed : Listed part count) (p : Parts (glyph_at part) count g k) where
  hit : k < count → glyph_at part k ≡ g → Some k ≡ cover_place part g
  unfolding cover_place
  hit l e =
      let z : length (upto (glyph_at part) k) + 0 ≡ k = omega (arith, length-upto (glyph_at part) k) in
      let f : find (upto (glyph_at part) count) g ≡ Some (length (upto (glyph_at part) k) + 0)
      = find_at (λ j. glyph_at part j ∷ []) g k count 0 l
      (λ j m. find-other (glyph_at part j) g (omega (arith, ends_below listed.read.rising p j m)))
      (find-one (glyph_at part k) g e) in
      rw (listed.glyphs, f, z)

  miss : (k < count → g < glyph_at part k) → None ≡ cover_place part g
  unfolding cover_place
  miss h =
      let f : find (upto (glyph_at part) count) g ≡ None
      = find_no (λ j. glyph_at part j ∷ []) g count
      (λ j m. find-other (glyph_at part j) g (⊎_elim (λ h. omega arith) (λ h. omega arith) (apart listed.read.rising p h j m))) in
      rw (listed.glyphs, f)

pub partition_point-k-requires-clause-callable : goal.partition_point-k-requires-clause-callable
partition_point-k-requires-clause-callable c k _ l =
    let long = (header_list _ _ c.requires refl).read.long in
    (λ κs p q r s t. omega arith, λ κs p q r s t. omega arith, λ κs p q r s t u. omega arith)

pub overflow_mul-k : goal.overflow_mul-k
overflow_mul-k c = let long = (header_list _ _ c.requires refl).read.long in omega arith

pub overflow_add-k : goal.overflow_add-k
overflow_add-k c = let long = (header_list _ _ c.requires refl).read.long in omega arith

pub u16_at-requires : goal.u16_at-requires
u16_at-requires c = let long = (header_list _ _ c.requires refl).read.long in omega arith

pub returns-then-u16_at-glyph : goal.returns-then-u16_at-glyph
returns-then-u16_at-glyph c =
    let p : Parts (glyph_at c.args.part.now) c.args.count c.args.glyph c.partition_point-k.result =
    record { within = omega arith; before = λ l. ltb-true _ _ (search rules); at = λ l. ltb-false _ _ (search rules) } in
    hit (header_list _ _ c.requires refl) p c.if-k-count.true (omega arith)

pub returns-else-k-count : goal.returns-else-k-count
returns-else-k-count c =
    let p : Parts (glyph_at c.args.part.now) c.args.count c.args.glyph c.partition_point-k.result =
    record { within = omega arith; before = λ l. ltb-true _ _ (search rules); at = λ l. ltb-false _ _ (search rules) } in
    miss (header_list _ _ c.requires refl) p
    (elim c.else-k-count.branch [ else-k-count-via-then-k-count+else-u16_at-glyph w ↦ λ l. let h = p.at l in omega arith | else-k-count-via-else-k-count w ↦ λ l. omega arith ])
