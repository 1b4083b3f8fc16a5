-- `ot_class_def_writer::covered::Entries::put_classes` meets its contract: a glyph's class is that of the entries left, all no lower. Assumes nothing.
use Prim.Native.Nat.{ℕ, ◌+◌, ◌*◌, ◌≤◌, ◌<◌}
use mathlib.Core.Path.{◌≡◌, refl, sym, ap, ◌∙◌}
use mathlib.Core.List.{List, ◌∷◌}
use mathlib.Core.Logic.{⊎_elim}
use native.Mathlib.Omega.{arith}
use lib.ListN.{length, get_or, drop}
use Rattle.folds.specs.Lists.{put}
use Rattle.folds.proofs.Tests.{either}
use Rattle.folds.proofs.Folds.{flat_none}
use Rattle.folds.proofs.Put.{put-nil}
use Rattle.ot_layouts.specs.Coverage.{Entry, Ascends}
use Rattle.ot_layouts.specs.ClassDef.{named, class_in}
use Rattle.ot_layouts.proofs.Classes.{class_named}
use Rattle.ot_class_def_writer.specs.declared.covered.Entries.{Entries}
use Rattle.ot_class_def_writer.specs.Entries.{entries_of, OutlineOf}
use Rattle.ot_class_def_writer.specs.Written.{class_row}
use Rattle.ot_class_def_writer.specs.declared.named.Outline.{Outline}
use Rattle.ot_class_def_writer.proofs.Entries.{ascends_drop}
use Rattle.ot_class_def_writer.proofs.Rest.{nth, all_ascend, from_cons, from_none}
use Rattle.ot_class_def_writer.proofs.Ends.{named_from, start_is}
use Rattle.ot_class_def_writer.proofs.covered.Entries.put_classes.Given as goal

pub record Inv (en : Entries) (out₀ : List ℕ) (at start span : ℕ) (out : List ℕ) (k j : ℕ) : Type 0 where
  pub within : k ≤ length en.glyphs.now
  pub below : j ≤ span
  pub small : start + span ≤ 131072
  pub room : at + 2 * span ≤ length out₀
  pub kept : length out ≡ length out₀
  pub lower : Ascends (start + j) (drop k (entries_of en))
  pub class_is : (g : ℕ) → start + j ≤ g → class_in (named (entries_of en)) g ≡ class_in (drop k (entries_of en)) g
  pub is : out ≡ put out₀ at (class_row (named (entries_of en)) start j)

pub first-lower : (en : Entries) (o : Outline) → OutlineOf en o → Ascends (o.start + 0) (drop o.from (entries_of en))
first-lower en o p = ⊎_elim some_left none_left (either o.from (length en.glyphs.now))
  where
    some_left : o.from < length en.glyphs.now → Ascends (o.start + 0) (drop o.from (entries_of en))
    some_left l =
        let q = from_cons en o.from l in
        let d : Ascends 0 (nth en o.from ∷ drop (o.from + 1) (entries_of en)) = rw q at (ascends_drop (entries_of en) o.from 0 (all_ascend en)) in
        let s : o.start ≡ get_or en.glyphs.now o.from 0 = p.start_is ∙ sym (start_is en.glyphs.now en.classes.now en.first en.same_length o.from p.from_is l) in
        rw q (omega arith, d.1)

    none_left : length en.glyphs.now ≤ o.from → Ascends (o.start + 0) (drop o.from (entries_of en))
    none_left l = rw (from_none en o.from (omega (arith, p.from_is.within))) tt

pub start : (en : Entries) (out : List ℕ) (at : ℕ) (o : Outline) → OutlineOf en o → at + 2 * o.span ≤ length out
    → Inv en out at o.start o.span out o.from 0
start en out at o p l =
    let d = first-lower en o p in
    record {
      within = omega (arith, p.from_is.within);
      below = omega arith;
      small = omega (arith, p.low, p.spans);
      room = l;
      kept = refl;
      lower = d;
      class_is = λ g m.
          ap (λ (es : List Entry). class_in es g) (named_from en.glyphs.now en.classes.now en.first en.same_length o.from p.from_is)
          ∙ class_named (drop o.from (entries_of en)) (o.start + 0) g d;
      is = put-nil out at ∙ ap (put out at) (sym (flat_none _));
    }

abbrev pub invariant-loop-j : goal.invariant-loop-j
invariant-loop-j l = Inv l.self l.initial.out l.at l.start l.span l.out l.k l.j
