-- `ot_class_def_writer::covered::Entries::put_classes` meets its contract: a glyph's class is that of the entries left, all no lower. Assumes nothing.
use Prim.Native.Nat.{ℕ, ◌+◌, ◌-◌, ◌*◌, ◌≤◌, ◌<◌}
use mathlib.Core.Path.{◌≡◌, sym, ap, ◌∙◌}
use mathlib.Core.Bool.{Bool, true, false, ◌&&◌}
use mathlib.Core.List.{List, ◌∷◌, ◌++◌}
use mathlib.Core.Logic.{⊎_elim}
use native.Mathlib.Omega.{arith}
use lib.ListN.{length, get_or, drop}
use lib.Dec.{ltb, eqb}
use borrow.Author.Tests.{ltb-true, eqb-true, eqb-false, lt-ltb, eq-eqb, ne_eqb}
use Rattle.folds.specs.Lists.{put}
use Rattle.folds.proofs.Tests.{and_both, either}
use Rattle.folds.proofs.Folds.{flat-more}
use Rattle.folds.proofs.FromTheFront.{length_even}
use Rattle.folds.proofs.Put.{put_then}
use Rattle.ot_layouts.specs.Numbers.{be16}
use Rattle.ot_layouts.specs.Coverage.{Entry, Ascends}
use Rattle.ot_layouts.specs.ClassDef.{named, class_in}
use Rattle.ot_layouts.proofs.Numbers.{length-be16}
use Rattle.ot_layouts.proofs.Runs.{ascends_lower}
use Rattle.ot_layouts.proofs.Classes.{class_below}
use Rattle.ot_class_def_writer.specs.declared.covered.Entries.{Entries}
use Rattle.ot_class_def_writer.specs.Entries.{entries_of}
use Rattle.ot_class_def_writer.specs.Written.{class_row}
use Rattle.ot_class_def_writer.proofs.Rest.{nth, from_cons, from_none}
use Rattle.ot_class_def_writer.proofs.covered.Entries.put_classes.Invariants.{Inv, start}
use Rattle.ot_class_def_writer.proofs.covered.Entries.put_classes.Goals as goal

-- entry k is that of glyph g
abbrev is_at : List ℕ → ℕ → ℕ → Bool
is_at gs k g = ltb k (length gs) && eqb (get_or gs k 0) g

is-at : (gs : List ℕ) (k g : ℕ) → is_at gs k g ≡ true → (k < length gs) × (get_or gs k 0 ≡ g)
is-at gs k g h = let (a, b) = and_both (ltb k (length gs)) (eqb (get_or gs k 0) g) h in (ltb-true k (length gs) a, eqb-true (get_or gs k 0) g b)

class-first : (e : Entry) (es : List Entry) (g : ℕ) → e.glyph ≡ g → class_in (e ∷ es) g ≡ e.class
unfolding class_in
class-first e es g h = rw (eq-eqb e.glyph g h)

class-next : (e : Entry) (es : List Entry) (g : ℕ) → (e.glyph ≡ g → ⊥) → class_in (e ∷ es) g ≡ class_in es g
unfolding class_in
class-next e es g h = rw (ne_eqb e.glyph g h)

module _ {en : Entries} {out₀ : List ℕ} {at start span : ℕ} {out : List ℕ} {k j : ℕ} (i : Inv en out₀ at start span out k j) (l : j < span) where
  long : length (class_row (named (entries_of en)) start j) ≡ 2 * j
  long = length_even (λ n. be16 (class_in (named (entries_of en)) (start + n))) 2 (λ n. length-be16 (class_in (named (entries_of en)) (start + n))) j

  -- one class more
  more : {v : ℕ} {out' : List ℕ} → v ≡ class_in (named (entries_of en)) (start + j) → out' ≡ put out (at + 2 * j) (be16 v)
      → out' ≡ put out₀ at (class_row (named (entries_of en)) start (j + 1))
  more {v} {out'} e p =
      put_then out₀ at (class_row (named (entries_of en)) start j) (at + 2 * j) (be16 v) i.is p (omega (arith, long)) (omega (arith, i.room))
      ∙ ap (λ (n : ℕ). put out₀ at (class_row (named (entries_of en)) start j ++ be16 n)) e
      ∙ ap (put out₀ at) (sym (flat-more (λ n. be16 (class_in (named (entries_of en)) (start + n))) j))

  module _ {t : Bool} (s : t ≡ is_at en.glyphs.now k (start + j)) where
    module _ (h : t ≡ true) where
      here : (k < length en.glyphs.now) × (get_or en.glyphs.now k 0 ≡ start + j)
      here = is-at en.glyphs.now k (start + j) (sym s ∙ h)

      inside : k < length en.glyphs.now
      inside = here.0

      hit : {out' : List ℕ} {v : ℕ} → length out' ≡ length out → v ≡ get_or en.classes.now k 0 - en.first
          → out' ≡ put out (at + 2 * j) (be16 v) → Inv en out₀ at start span out' (k + 1) (j + 1)
      hit {out'} {v} e w p =
          let g : get_or en.glyphs.now k 0 ≡ start + j = here.1 in
          let q = from_cons en k inside in
          let it : class_in (named (entries_of en)) (start + j) ≡ get_or en.classes.now k 0 - en.first
          = i.class_is (start + j) (omega arith)
          ∙ ap (λ (es : List Entry). class_in es (start + j)) q
          ∙ class-first (nth en k) (drop (k + 1) (entries_of en)) (start + j) g in
          let d : Ascends (start + j) (nth en k ∷ drop (k + 1) (entries_of en)) = rw q at i.lower in
          record {
            within = omega (arith, inside);
            below = omega arith;
            small = i.small;
            room = i.room;
            kept = e ∙ i.kept;
            lower = ascends_lower (drop (k + 1) (entries_of en)) (get_or en.glyphs.now k 0 + 1) (start + (j + 1)) (omega arith) d.1;
            class_is = λ x m. i.class_is x (omega arith) ∙ ap (λ (es : List Entry). class_in es x) q
                ∙ class-next (nth en k) (drop (k + 1) (entries_of en)) x (λ z. omega arith);
            is = more (w ∙ sym it) p;
          }

    module _ (h : t ≡ false) where
      beyond : Ascends (start + (j + 1)) (drop k (entries_of en))
      beyond = ⊎_elim some_left none_left (either k (length en.glyphs.now))
        where
          some_left : k < length en.glyphs.now → Ascends (start + (j + 1)) (drop k (entries_of en))
          some_left m =
              let q = from_cons en k m in
              let d : Ascends (start + j) (nth en k ∷ drop (k + 1) (entries_of en)) = rw q at i.lower in
              let w : start + j ≤ get_or en.glyphs.now k 0 = d.0 in
              let n : eqb (get_or en.glyphs.now k 0) (start + j) ≡ false = rw (lt-ltb k (length en.glyphs.now) m) at (sym s ∙ h) in
              let z = eqb-false (get_or en.glyphs.now k 0) (start + j) n in
              rw q (⊎_elim (λ u. absurd (z (omega arith))) (λ u. omega arith) (either (get_or en.glyphs.now k 0) (start + j + 1)), d.1)

          none_left : length en.glyphs.now ≤ k → Ascends (start + (j + 1)) (drop k (entries_of en))
          none_left m = rw (from_none en k (omega (arith, i.within))) tt

      miss : {out' : List ℕ} → length out' ≡ length out → out' ≡ put out (at + 2 * j) (be16 0) → Inv en out₀ at start span out' k (j + 1)
      miss {out'} e p =
          record {
            within = i.within;
            below = omega arith;
            small = i.small;
            room = i.room;
            kept = e ∙ i.kept;
            lower = beyond;
            class_is = λ x m. i.class_is x (omega arith);
            is = more (sym (i.class_is (start + j) (omega arith) ∙ class_below (drop k (entries_of en)) (start + (j + 1)) (start + j) beyond (omega arith))) p;
          }

stop : {en : Entries} {out₀ : List ℕ} {at start span : ℕ} {out : List ℕ} {k j : ℕ} → Inv en out₀ at start span out k j → span ≤ j
    → out ≡ put out₀ at (class_row (named (entries_of en)) start span)
stop {en} {out₀} {at} {start} {span} {out} {k} {j} i l =
    let e : j ≡ span = omega (arith, i.below) in
    i.is ∙ ap (λ (n : ℕ). put out₀ at (class_row (named (entries_of en)) start n)) e

pub loop-j-init : goal.loop-j-init
loop-j-init c = start c.args.self.now _ _ c.args.outline c.requires.outlines c.requires.span_in_bounds

pub bounds-self-k : goal.bounds-self-k
bounds-self-k c = let h = inside c.loop-j.invariant c.loop-j-test.true c.stands.ensures c.if-stands.true in omega arith

pub loop-j-preserved-then-stands : goal.loop-j-preserved-then-stands
loop-j-preserved-then-stands c =
    hit c.loop-j.invariant c.loop-j-test.true c.stands.ensures c.if-stands.true c.put_u16.auto.out c.reduced.ensures c.put_u16.ensures

pub loop-j-preserved : goal.loop-j-preserved
loop-j-preserved c = miss c.loop-j.invariant c.loop-j-test.true c.stands.ensures c.if-stands.false c.put_u16-in-loop-j.auto.out c.put_u16-in-loop-j.ensures

pub returns : goal.returns
returns c = stop c.loop-j.invariant c.loop-j-test.false
