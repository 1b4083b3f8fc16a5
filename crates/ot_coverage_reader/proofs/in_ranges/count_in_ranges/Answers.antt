-- `in_ranges::count_in_ranges` meets its contract: the last range is numbered by the glyphs before it, and rising ranges end within sixteen bits. Assumes nothing.
use mathlib.Core.Path.{◌≡◌, refl, ap, ◌∙◌}
use mathlib.Core.List.{List}
use Prim.Native.Nat.{ℕ, ◌+◌, ◌-◌, ◌≤◌, ◌<◌}
use native.Mathlib.Omega.{arith}
use lib.ListN.{length}
use Rattle.folds.specs.Folds.{before, sum}
use Rattle.folds.proofs.Folds.{before_more, sum_none, sum_more}
use Rattle.ot_layouts.specs.Coverage.{start_at, end_at, beside_at, size_at, cover_glyphs}
use Rattle.ot_layouts.proofs.CoverageRead.{Ranged, header_ranges, length_ranges, sizes_under}
use Rattle.ot_coverage_reader.proofs.in_ranges.count_in_ranges.Goals as goal

counted : {part : List ℕ} {count : ℕ} → Ranged part count → length (cover_glyphs part) ≡ sum (size_at part) count
counted {part} {count} r = ap length r.glyphs ∙ length_ranges part count

none_there : {part : List ℕ} {count : ℕ} → Ranged part count → count ≡ 0 → (0 ≡ length (cover_glyphs part)) × (0 ≤ 65536)
none_there {part} {count} r e = (omega (arith, counted r, ap (sum (size_at part)) e, sum_none (size_at part)), omega arith)

last_there : {part : List ℕ} {count b e x : ℕ} → Ranged part count → 0 < count → e < 65536
    → b ≡ start_at part (count - 1) → e ≡ end_at part (count - 1) → x ≡ beside_at part (count - 1)
    → (x + (e + 1 - b) ≡ length (cover_glyphs part)) × (x + (e + 1 - b) ≤ 65536)
last_there {part} {count} {b} {e} {x} r l m pb pe px =
    let q : count - 1 + 1 ≡ count = omega arith in
    let total : sum (size_at part) count ≡ x + (e + 1 - b) = omega (arith, ap (sum (size_at part)) q, sum_more (size_at part) (count - 1), r.index (count - 1) (omega arith)) in
    let top : before (λ j. end_at part j + 1) count ≡ e + 1 = omega (arith, ap (before (λ j. end_at part j + 1)) q, before_more (λ j. end_at part j + 1) (count - 1)) in
    (omega (arith, counted r), omega (arith, sizes_under part count r.read.rising))

pub returns-then-count-eq0 : goal.returns-then-count-eq0
returns-then-count-eq0 c = none_there (header_ranges _ _ c.requires refl) c.if-count-eq0.true

pub overflow_mul-last : goal.overflow_mul-last
overflow_mul-last c =
    let read : Ranged c.args.part.now c.args.count = header_ranges _ _ c.requires refl in
    omega (arith, read.read.long)

pub overflow_add-last : goal.overflow_add-last
overflow_add-last c =
    let read : Ranged c.args.part.now c.args.count = header_ranges _ _ c.requires refl in
    omega (arith, read.read.long)

pub u16_at-requires : goal.u16_at-requires
u16_at-requires c =
    let read : Ranged c.args.part.now c.args.count = header_ranges _ _ c.requires refl in
    omega (arith, read.read.long)

pub overflow_mul-last-2 : goal.overflow_mul-last-2
overflow_mul-last-2 c =
    let read : Ranged c.args.part.now c.args.count = header_ranges _ _ c.requires refl in
    omega (arith, read.read.long)

pub overflow_add-last-2 : goal.overflow_add-last-2
overflow_add-last-2 c =
    let read : Ranged c.args.part.now c.args.count = header_ranges _ _ c.requires refl in
    omega (arith, read.read.long)

pub u16_at-requires-2 : goal.u16_at-requires-2
u16_at-requires-2 c =
    let read : Ranged c.args.part.now c.args.count = header_ranges _ _ c.requires refl in
    omega (arith, read.read.long)

pub overflow_mul-last-3 : goal.overflow_mul-last-3
overflow_mul-last-3 c =
    let read : Ranged c.args.part.now c.args.count = header_ranges _ _ c.requires refl in
    omega (arith, read.read.long)

pub overflow_add-last-3 : goal.overflow_add-last-3
overflow_add-last-3 c =
    let read : Ranged c.args.part.now c.args.count = header_ranges _ _ c.requires refl in
    omega (arith, read.read.long)

pub u16_at-requires-3 : goal.u16_at-requires-3
u16_at-requires-3 c =
    let read : Ranged c.args.part.now c.args.count = header_ranges _ _ c.requires refl in
    omega (arith, read.read.long)

pub overflow_sub-result : goal.overflow_sub-result
overflow_sub-result c =
    let read : Ranged c.args.part.now c.args.count = header_ranges _ _ c.requires refl in
    omega (arith, read.read.rising.ordered (c.args.count - 1) (omega arith))

pub returns : goal.returns
returns c =
    let read : Ranged c.args.part.now c.args.count = header_ranges _ _ c.requires refl in
    last_there (read) (omega arith) (omega arith) (c.from-start.ensures ∙ c.u16_at.ensures) (c.from-end.ensures ∙ c.u16_at-2.ensures) (c.from-index.ensures ∙ c.u16_at-3.ensures)
