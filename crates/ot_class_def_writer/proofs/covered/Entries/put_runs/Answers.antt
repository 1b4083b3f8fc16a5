-- `ot_class_def_writer::covered::Entries::put_runs` meets its contract: the ranges written, and those of the entries left, are all ranges. Assumes nothing.
use Prim.Native.Nat.{ℕ, ◌+◌, ◌-◌, ◌*◌, ◌≤◌, ◌<◌}
use mathlib.Core.Path.{◌≡◌, refl, sym, ap, ◌∙◌}
use mathlib.Core.List.{List, [], ◌++◌, append_assoc, append-nil}
use native.Mathlib.Omega.{arith}
use lib.ListN.{length, get_or, drop, length-append}
use Rattle.folds.specs.Lists.{put}
use Rattle.folds.proofs.Put.{put-nil, put_then}
use Rattle.ot_layouts.specs.Numbers.{be16}
use Rattle.ot_layouts.specs.Coverage.{Entry, Run, runs}
use Rattle.ot_layouts.specs.ClassDef.{named, class_ranges}
use Rattle.ot_layouts.proofs.Runs.{runs_none}
use Rattle.ot_layouts.proofs.RangeBytes.{length-class_ranges}
use Rattle.ot_layouts.proofs.Named.{named_none}
use Rattle.ot_ranges.specs.Ranges.{range_bytes}
use Rattle.ot_class_def_writer.specs.declared.covered.Entries.{Entries}
use Rattle.ot_class_def_writer.specs.Entries.{entries_of, RunTo}
use Rattle.ot_class_def_writer.proofs.Rest.{from_none, from_skip, from_run}
use Rattle.ot_class_def_writer.proofs.covered.Entries.put_runs.Invariants.{Inv, spans}
use Rattle.ot_class_def_writer.proofs.covered.Entries.put_runs.Goals as goal

start : (en : Entries) (out : List ℕ) (at : ℕ) → at + 6 * length (runs (named (entries_of en))) ≤ length out → Inv en out at out at 0
start en out at l =
    record { within = omega arith; room = l; kept = refl; done = []; end_is = omega arith; is = put-nil out at; whole = refl }

module _ {en : Entries} {out₀ : List ℕ} {at : ℕ} {out : List ℕ} {end k : ℕ} (i : Inv en out₀ at out end k) where
  module _ {r : ℕ} (t : RunTo en.glyphs.now en.classes.now k r) (n : en.first < get_or en.classes.now k 0) where
    -- the range of entries k to r
    abbrev piece : List ℕ
    piece = range_bytes (get_or en.glyphs.now k 0) (get_or en.glyphs.now r 0) (get_or en.classes.now k 0 - en.first)

    six : length piece ≡ 6
    unfolding be16
    six = refl

    grown : spans (entries_of en) ≡ i.done ++ piece ++ spans (drop (r + 1) (entries_of en))
    unfolding class_ranges
    grown =
        i.whole
        ∙ ap (λ (rs : List Run). i.done ++ class_ranges rs) (from_run en k r t n)
        ∙ sym (append_assoc i.done piece (spans (drop (r + 1) (entries_of en))))

    space : end + 6 ≤ length out
    space =
        omega (
          arith,
          i.end_is,
          i.room,
          i.kept,
          six,
          ap length grown,
          length-class_ranges (runs (named (entries_of en))),
          length-append (i.done ++ piece) (spans (drop (r + 1) (entries_of en))),
          length-append i.done piece,
        )

    turn : {out' : List ℕ} → length out' ≡ length out → out' ≡ put out end piece → Inv en out₀ at out' (end + 6) (r + 1)
    turn {out'} e p =
        record {
          within = omega (arith, t.within);
          room = i.room;
          kept = e ∙ i.kept;
          done = i.done ++ piece;
          end_is = omega (arith, i.end_is, six, length-append i.done piece);
          is = put_then out₀ at i.done end piece i.is p i.end_is (omega (arith, i.room));
          whole = grown;
        }

  skip : k < length en.glyphs.now → get_or en.classes.now k 0 ≤ en.first → Inv en out₀ at out end (k + 1)
  skip l n =
      record {
        within = omega arith;
        room = i.room;
        kept = i.kept;
        done = i.done;
        end_is = i.end_is;
        is = i.is;
        whole = i.whole ∙ ap (λ (es : List Entry). i.done ++ class_ranges (runs es)) (from_skip en k l n);
      }

  stop : length en.glyphs.now ≤ k → (out ≡ put out₀ at (spans (entries_of en))) × (end ≡ at + 6 * length (runs (named (entries_of en))))
  unfolding class_ranges
  stop l =
      let all : spans (entries_of en) ≡ i.done
      = i.whole
      ∙ ap (λ (es : List Entry). i.done ++ spans es) (from_none en k (omega (arith, i.within))) ∙ rw (named_none, runs_none) (append-nil i.done) in
      (i.is ∙ ap (put out₀ at) (sym all), omega (arith, i.end_is, ap length all, length-class_ranges (runs (named (entries_of en)))))

pub loop-k-init : goal.loop-k-init
loop-k-init c = start c.args.self.now _ _ c.requires.first_in_bounds

pub put_range-requires : goal.put_range-requires
put_range-requires c = space c.loop-k.invariant c.run_last-last.ensures c.if-self-class.true

pub overflow_add-end : goal.overflow_add-end
overflow_add-end c = let h = space c.loop-k.invariant c.run_last-last.ensures c.if-self-class.true in omega arith

pub loop-k-preserved-then-self-class : goal.loop-k-preserved-then-self-class
loop-k-preserved-then-self-class c = turn c.loop-k.invariant c.run_last-last.ensures c.if-self-class.true c.put_range.auto.out c.put_range.ensures

pub loop-k-preserved : goal.loop-k-preserved
loop-k-preserved c = skip c.loop-k.invariant c.loop-k-test.true c.if-self-class.false

pub returns : goal.returns
returns c = let all = stop c.loop-k.invariant c.loop-k-test.false in record { out_value = all.0; value = all.1 }
