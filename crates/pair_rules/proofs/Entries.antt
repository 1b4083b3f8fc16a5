-- The covered glyphs of a table with their items. Assumes nothing.
use Prim.Native.Nat.{ℕ}
use mathlib.Core.Path.{◌≡◌, sym, subst, ◌∙◌}
use mathlib.Core.Bool.{true, false}
use mathlib.Core.List.{map}
use lib.ListN.{get_or, length}
use lib.Dec.{eqb}
use Rattle.folds.specs.Folds.{upto}
use Rattle.folds.proofs.Tests.{by_test}
use Rattle.folds.proofs.FromTheFront.{upto_get_d}
use Rattle.folds.proofs.Moved.{map-upto}
use Rattle.ot_layouts.specs.Coverage.{Entry}
use Rattle.ot_layouts.specs.ClassDef.{class_of}
use Rattle.ot_layouts.proofs.RunStarts.{entry}
use Rattle.ot_layouts.proofs.Entries.{map-glyphs, Agrees, agrees_glyphs}
use Rattle.store_rules.specs.Store.{Store, linked_bytes}
use Rattle.pair_rules.specs.Table.{shape, entries_of, glyphs_of}

pub entries1 : (s : Store) (t : ℕ) → eqb (shape s t).format 1 ≡ true → entries_of s t ≡ upto (λ k. entry (get_or (glyphs_of s t) k 0) k) (length (glyphs_of s t))
unfolding entries_of
entries1 s t e = rw e

pub entries2 : (s : Store) (t : ℕ) → eqb (shape s t).format 1 ≡ false → entries_of s t ≡ map (λ g. entry g (class_of (linked_bytes s t 8) g)) (glyphs_of s t)
unfolding entries_of
entries2 s t e = rw e

pub entries_glyphs : (s : Store) (t : ℕ) → map (λ e. e.glyph) (entries_of s t) ≡ glyphs_of s t
unfolding entries_of
entries_glyphs s t =
    by_test (eqb (shape s t).format 1)
    (λ e. rw e (map-upto (λ (e : Entry). e.glyph) (λ k. record { glyph = get_or (glyphs_of s t) k 0; class = k }) (length (glyphs_of s t)) ∙ upto_get_d (glyphs_of s t) 0))
    (λ e. rw e (map-glyphs (class_of (linked_bytes s t 8)) (glyphs_of s t)))

-- in format 2 each entry's class is class definition 1's
pub entries_agree : (s : Store) (t : ℕ) → eqb (shape s t).format 1 ≡ false → Agrees (class_of (linked_bytes s t 8)) (entries_of s t)
entries_agree s t e = subst (Agrees (class_of (linked_bytes s t 8))) (sym (entries2 s t e)) (agrees_glyphs (class_of (linked_bytes s t 8)) (glyphs_of s t))
