-- `list::list_into` meets its contract: one glyph is written a turn. Assumes nothing.
use mathlib.Core.Path.{◌≡◌, refl, sym, ap₂, subst}
use mathlib.Core.List.{List}
use Prim.Native.Nat.{ℕ, ◌+◌, ◌≤◌, ◌<◌}
use native.Mathlib.Omega.{arith}
use lib.ListN.{length, set}
use Rattle.folds.specs.Lists.{put}
use Rattle.folds.proofs.Writing.{Writing, write_start, write_turn, write_stop}
use Rattle.ot_layouts.specs.Coverage.{glyph_at, cover_glyphs}
use Rattle.ot_layouts.proofs.CoverageRead.{header_list}
use Rattle.ot_coverage_reader.specs.Coverage.{AsList}
use Rattle.ot_coverage_reader.proofs.list.list_into.Invariants.{Inv}
use Rattle.ot_coverage_reader.proofs.list.list_into.Goals as goal

start : (part : List ℕ) (count : ℕ) (out : List ℕ) → AsList part count → count ≤ length out → Inv part count out out 0
start part count out r l =
    let room : 0 + count ≤ length out = omega arith in
    record { listed = header_list part _ r refl; room = room; writing = write_start (glyph_at part) out 0 count room }

turn : {part : List ℕ} {count : ℕ} {out₀ out : List ℕ} {k v : ℕ} → Inv part count out₀ out k → k < count → v ≡ glyph_at part k → Inv part count out₀ (set out k v) (k + 1)
turn {part} {count} {out₀} {out} {k} {v} i l e =
    let z : 0 + k ≡ k = omega arith in
    let w = write_turn (glyph_at part) out₀ 0 count i.room out k i.writing l in
    record { listed = i.listed; room = i.room; writing = subst (λ (o : List ℕ). Writing (glyph_at part) out₀ 0 count o (k + 1)) (ap₂ (set out) z (sym e)) w }

done : {part : List ℕ} {count : ℕ} {out₀ out : List ℕ} {k : ℕ} → Inv part count out₀ out k → count ≤ k → out ≡ put out₀ 0 (cover_glyphs part)
done {part} {count} {out₀} {out} {k} i l = rw i.listed.glyphs (write_stop (glyph_at part) out₀ 0 count i.room out k i.writing l)

pub loop-k-init : goal.loop-k-init
loop-k-init c = start _ _ _ c.requires.as_list c.requires.count_in_bounds

pub loop-k-preserved : goal.loop-k-preserved
loop-k-preserved c = turn c.loop-k.invariant c.loop-k-test.true c.u16_at.ensures

pub returns : goal.returns
returns c = done c.loop-k.invariant c.loop-k-test.false
