-- `write::write_ranges` meets its contract. In the loop the ranges written and those of the glyphs from `from` on are all, and the glyphs from `from` to `k` follow one another. Assumes nothing.
use mathlib.Core.Path.{◌≡◌, refl, sym, ap, ◌∙◌}
use mathlib.Core.Bool.{true, false}
use mathlib.Core.List.{List, [], ◌++◌, append_assoc, append-nil}
use Prim.Native.Nat.{ℕ, ◌+◌, ◌-◌, ◌*◌, ◌≤◌, ◌<◌}
use native.Mathlib.Omega.{arith}
use lib.ListN.{length, get_or, length-append}
use Rattle.folds.specs.Lists.{put}
use Rattle.folds.proofs.Put.{put-nil, put_then}
use Rattle.ot_layouts.specs.Numbers.{be16}
use Rattle.ot_layouts.specs.Coverage.{Run, runs, plain, cover_ranges}
use Rattle.ot_layouts.proofs.Runs.{starting_at, starting_again}
use Rattle.ot_layouts.proofs.CoverageLength.{length_cover_ranges}
use Rattle.ot_coverage_writer.specs.Joins.{joins_next}
use Rattle.ot_coverage_writer.proofs.Tails.{tail, tail_none, tail_own, joins_next_lem, tail_join, tail_part}
use Rattle.ot_coverage_writer.proofs.write.write_ranges.Invariants.{Inv}
use Rattle.ot_coverage_writer.proofs.write.write_ranges.Goals as goal

start : (g out : List ℕ) (at : ℕ) → at + 6 * length (runs (plain g)) ≤ length out → Inv g out out at at 0 0
start g out at r =
    record {
      room = r;
      within = omega arith;
      from_le = omega arith;
      same = refl;
      written = [];
      is = put-nil out at;
      end_is = omega arith;
      rest = refl;
      begun = sym (tail_own g 0);
      level = λ l. refl;
    }

join : {g out₀ out : List ℕ} {at end from k : ℕ} → Inv g out₀ out at end from k → k < length g → joins_next g k ≡ true → Inv g out₀ out at end from (k + 1)
join {g} {out₀} {out} {at} {end} {from} {k} i l h =
    record {
      room = i.room;
      within = omega arith;
      from_le = omega (arith, i.from_le);
      same = i.same;
      written = i.written;
      is = i.is;
      end_is = i.end_is;
      rest = i.rest;
      begun = i.begun ∙ ap (starting_at (get_or g from 0)) (tail_join g k h) ∙ starting_again (get_or g from 0) (get_or g k 0) (tail g (k + 1));
      level = λ m. omega (arith, i.level l, (joins_next_lem g k h).1);
    }

-- the range that ends at k
abbrev range : List ℕ → ℕ → ℕ → List ℕ
range g from k = be16 (get_or g from 0) ++ be16 (get_or g k 0) ++ be16 from

six : (g : List ℕ) (from k : ℕ) → length (range g from k) ≡ 6
unfolding be16
six g from k = refl

module _ {g out₀ out : List ℕ} {at end from k : ℕ} (i : Inv g out₀ out at end from k) (l : k < length g) (h : joins_next g k ≡ false) where
  next : cover_ranges from (tail g from) ≡ range g from k ++ cover_ranges (k + 1) (tail g (k + 1))
  unfolding cover_ranges
  next =
      let e : from + (get_or g k 0 + 1 - get_or g from 0) ≡ k + 1 = omega (arith, i.level l, i.from_le) in
      ap (cover_ranges from) (i.begun ∙ ap (starting_at (get_or g from 0)) (tail_part g k l h))
      ∙ ap (λ (n : ℕ). range g from k ++ cover_ranges n (tail g (k + 1))) e

  -- there is room for one more range
  more : end + 6 ≤ length out₀
  more =
      omega (
        arith,
        i.room,
        i.end_is,
        ap length i.rest,
        length-append i.written (cover_ranges from (tail g from)),
        ap length next,
        length-append (range g from k) (cover_ranges (k + 1) (tail g (k + 1))),
        six g from k,
        length_cover_ranges 0 (runs (plain g)),
      )

  part : {out' : List ℕ} → length out' ≡ length out → out' ≡ put out end (range g from k) → Inv g out₀ out' at (end + 6) (k + 1) (k + 1)
  part {out'} n e =
      record {
        room = i.room;
        within = omega arith;
        from_le = omega arith;
        same = n ∙ i.same;
        written = i.written ++ range g from k;
        is = put_then _ _ _ _ _ i.is e i.end_is (omega (arith, i.room));
        end_is = omega (arith, i.end_is, length-append i.written (range g from k), six g from k);
        rest =
            append_assoc i.written (range g from k) (cover_ranges (k + 1) (tail g (k + 1)))
            ∙ ap (λ (x : List ℕ). i.written ++ x) (sym next)
            ∙ i.rest;
        begun = sym (tail_own g (k + 1));
        level = λ m. refl;
      }

done : (d : List ℕ) (at count : ℕ) {g out₀ out : List ℕ} {end from k : ℕ} → Inv g out₀ out (at + 4) end from k → length g ≤ k → at ≤ length d → out₀ ≡ put d at (be16 2 ++ be16 count)
    → out ≡ put d at (be16 2 ++ be16 count ++ cover_ranges 0 (runs (plain g)))
unfolding be16 cover_ranges
done d at count {g} {out₀} {out} {end} {from} {k} i l m h =
    let none : tail g from ≡ [] = i.begun ∙ ap (starting_at (get_or g from 0)) (tail_none g k l) in
    let all : i.written ≡ cover_ranges 0 (runs (plain g)) = sym (append-nil i.written) ∙ ap (λ (rs : List Run). i.written ++ cover_ranges from rs) (sym none) ∙ i.rest in
    put_then _ _ _ _ _ h (i.is ∙ ap (put out₀ (at + 4)) all) refl m

pub loop-k-init : goal.loop-k-init
loop-k-init c = start _ _ _ (omega (arith, c.requires.count_value))

pub loop-k-preserved-then-joins_next : goal.loop-k-preserved-then-joins_next
loop-k-preserved-then-joins_next c = join c.loop-k.invariant c.loop-k-test.true (sym c.joins_next.ensures ∙ c.if-joins_next.true)

pub put_range-requires : goal.put_range-requires
put_range-requires c =
    let ends : (joins_next c.args.glyphs.now c.loop-k.k ≡ false) = sym c.joins_next.ensures ∙ c.if-joins_next.false in
    let room_at : c.loop-k.end + 6 ≤ length c.put_head.new.out = more c.loop-k.invariant c.loop-k-test.true (ends) in
    omega (arith, room_at)

pub overflow_add-end-in-loop-k : goal.overflow_add-end-in-loop-k
overflow_add-end-in-loop-k c =
    let ends : (joins_next c.args.glyphs.now c.loop-k.k ≡ false) = sym c.joins_next.ensures ∙ c.if-joins_next.false in
    let room_at : c.loop-k.end + 6 ≤ length c.put_head.new.out = more c.loop-k.invariant c.loop-k-test.true (ends) in
    omega (arith, room_at)

pub loop-k-preserved : goal.loop-k-preserved
loop-k-preserved c =
    let ends : (joins_next c.args.glyphs.now c.loop-k.k ≡ false) = sym c.joins_next.ensures ∙ c.if-joins_next.false in
    part c.loop-k.invariant c.loop-k-test.true (ends) c.put_range.auto.out c.put_range.ensures

pub returns : goal.returns
returns c = done _ _ _ c.loop-k.invariant c.loop-k-test.false (omega arith) c.put_head.ensures
