-- `pair_sets::few_rise` meets its contract: the first `k` glyphs rise, and `last` is the last of them. Assumes nothing.
use Prim.Native.Nat.{ℕ, ◌+◌, ◌-◌}
use mathlib.Core.Path.{◌≡◌, refl, sym, ap, ◌∙◌}
use mathlib.Core.Bool.{true}
use native.Mathlib.Omega.{arith}
use Rattle.pair_sets.specs.Rising.{rises}
use Rattle.pair_sets.proofs.Widths.{record_within}
use Rattle.pair_sets.proofs.Ascending.{rises_none, rises_not, rises_more}
use Rattle.pair_sets.proofs.few_rise.Goals as goal

pub returns-then-count-eq0 : goal.returns-then-count-eq0
returns-then-count-eq0 c = sym (rises_none _ _ 0 (c.args.count - 1) (omega arith))

pub glyph_of-last-requires : goal.glyph_of-last-requires
glyph_of-last-requires c = let a = c.args in omega (arith, record_within (2 + a.size) 0 a.count (omega arith))

pub loop-k-init : goal.loop-k-init
loop-k-init c = (c.glyph_of-last.ensures, rises_none _ _ 0 0 refl)

pub glyph_of-glyph-requires : goal.glyph_of-glyph-requires
glyph_of-glyph-requires c = let a = c.args in omega (arith, record_within (2 + a.size) c.loop-k.k a.count (omega arith))

pub returns-then-glyph-last : goal.returns-then-glyph-last
returns-then-glyph-last c =
    let k : ℕ = c.loop-k.k - 1 in
    let count = c.args.count in
    rises_not _ _ 0 (count - 1) k c.loop-k.k (omega arith) c.loop-k.invariant.0 c.glyph_of-glyph.ensures (omega arith) (omega arith) c.if-glyph-last.true

pub loop-k-preserved : goal.loop-k-preserved
loop-k-preserved c =
    let k : ℕ = c.loop-k.k - 1 in
    let e : k + 1 ≡ c.loop-k.k = omega arith in
    let same : c.loop-k.k + 1 - 1 ≡ c.loop-k.k = omega arith in
    let (last, up) = c.loop-k.invariant in
    let more : rises c.args.set.now c.args.size 0 (k + 1) ≡ true = rises_more _ _ 0 k k c.loop-k.k (sym e) last c.glyph_of-glyph.ensures (omega arith) up c.if-glyph-last.false in
    rw same (c.glyph_of-glyph.ensures, rw e at more)

pub returns : goal.returns
returns c =
    let e : c.args.count - 1 ≡ c.loop-k.k - 1 = omega arith in
    sym (ap (λ (n : ℕ). rises c.args.set.now c.args.size 0 n) e ∙ c.loop-k.invariant.1)
