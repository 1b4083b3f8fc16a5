-- `write::write_list` meets its contract. In the loop the first `k` glyphs stand behind the head. Assumes nothing.
use mathlib.Core.Path.{◌≡◌, refl, sym, ap, ◌∙◌}
use mathlib.Core.List.{List, ◌++◌}
use Prim.Native.Nat.{ℕ, ◌+◌, ◌*◌, ◌≤◌, ◌<◌}
use native.Mathlib.Omega.{arith}
use lib.ListN.{length, get_or, take}
use lib.Seq.{length-take-le, take_all}
use Rattle.folds.specs.Lists.{put}
use Rattle.folds.proofs.Put.{put-nil, put_then}
use Rattle.ot_layouts.specs.Numbers.{be16, words}
use Rattle.ot_layouts.proofs.Numbers.{length-words}
use Rattle.ot_layouts.proofs.Words.{words_none, words_more}
use Rattle.ot_coverage_writer.proofs.write.write_list.Invariants.{Inv}
use Rattle.ot_coverage_writer.proofs.write.write_list.Goals as goal

start : (g out : List ℕ) (first : ℕ) → first + 2 * length g ≤ length out → Inv g out out first 0
start g out first r = record { room = r; within = omega arith; same = refl; is = rw (words_none g) (put-nil out first) }

turn : {g out₀ out out' : List ℕ} {first k : ℕ} → Inv g out₀ out first k → k < length g → length out' ≡ length out → out' ≡ put out (first + 2 * k) (be16 (get_or g k 0))
    → Inv g out₀ out' first (k + 1)
turn {g} {out₀} {out} {out'} {first} {k} i l n h =
    let q : first + 2 * k ≡ first + length (words (take k g)) = omega (arith, length-words (take k g), length-take-le k g i.within) in
    record {
      room = i.room;
      within = omega arith;
      same = n ∙ i.same;
      is = put_then _ _ _ _ _ i.is h q (omega (arith, i.room)) ∙ ap (put out₀ first) (sym (words_more g k l));
    }

done : (d : List ℕ) (at : ℕ) {g out₀ out : List ℕ} {k : ℕ} → Inv g out₀ out (at + 4) k → length g ≤ k → at ≤ length d → out₀ ≡ put d at (be16 1 ++ be16 (length g))
    → out ≡ put d at (be16 1 ++ be16 (length g) ++ words g)
unfolding be16
done d at {g} {out₀} {out} {k} i l m h = put_then _ _ _ _ _ h (i.is ∙ ap (λ (x : List ℕ). put out₀ (at + 4) (words x)) (take_all k g l)) refl m

pub loop-k-init : goal.loop-k-init
loop-k-init c = start _ _ _ (omega arith)

pub loop-k-preserved : goal.loop-k-preserved
loop-k-preserved c = turn c.loop-k.invariant c.loop-k-test.true c.put_u16.auto.out c.put_u16.ensures

pub returns : goal.returns
returns c = done _ _ c.loop-k.invariant c.loop-k-test.false (omega arith) c.put_head.ensures
