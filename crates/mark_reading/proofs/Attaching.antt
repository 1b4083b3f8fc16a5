-- The attachment of two glyphs, by their places. Assumes nothing.
use Rattle.std.specs.Prelude.{Option, Some, None}
use Prim.Native.Nat.{ℕ, ◌<◌}
use mathlib.Core.Path.{◌≡◌, refl, sym, ◌∙◌}
use mathlib.Core.Bool.{Bool, true, false}
use mathlib.Core.List.{List}
use native.Mathlib.Omega.{arith}
use lib.Dec.{ltb}
use borrow.Author.Tests.{ltb-true}
use Rattle.folds.specs.Lists.{given, and_then}
use Rattle.ot_layouts.specs.Coverage.{cover_place}
use Rattle.store_rules.specs.Store.{Store, bytes_of}
use Rattle.mark_rules.specs.Table.{marks_in, bases_in}
use Rattle.mark_rules.specs.Attachments.{mark_place, base_place, attach_of}
use Rattle.mark_checks.specs.declared.MarkTable.{MarkTable}
use Rattle.mark_checks.specs.Opens.{Opens}
use Rattle.mark_checks.proofs.Opened.{marks_are, bases_are}
use Rattle.mark_reading.specs.declared.anchors.Anchors.{Anchors}
use Rattle.mark_reading.specs.Reading.{attached_as, place_below, attach_at}

-- a place that was found is one of the first n
place_low : (b : List ℕ) (g n i : ℕ) → Some i ≡ place_below b g n → i < n
unfolding place_below and_then
place_low b g n i e = go (cover_place b g) e
  where
    test : (k : ℕ) (x : Bool) → ltb k n ≡ x → Some i ≡ given x k → i < n
    test k true q h = let z : i ≡ k = cc in omega (arith, ltb-true k n q)
    test k false q h = let z : ◌≡◌ {A = ℕ} 0 1 = cc in absurd (omega arith)

    go : (o : Option ℕ) → Some i ≡ and_then o (λ k. given (ltb k n) k) → i < n
    go None h = let z : ◌≡◌ {A = ℕ} 0 1 = cc in absurd (omega arith)
    go (Some k) h = test k (ltb k n) refl h

module _ {s : Store} {t : ℕ} {p : MarkTable} (o : Opens s t p) (m b : ℕ)
    (r : Option ℕ) (e : r ≡ place_below (bytes_of s p.coverage.object) m p.marks.count) where
  mark_place_lem : r ≡ mark_place s t m
  unfolding mark_place place_below
  mark_place_lem = e ∙ rw (o.coverage.linked, marks_are o)

  pub no_mark_place : r ≡ None → attached_as None ≡ attach_of s t m b
  unfolding attach_of and_then
  no_mark_place y = rw (← mark_place_lem, y)

  module _ {i : ℕ} (y : r ≡ Some i) (z : Option ℕ) (d : z ≡ place_below (bytes_of s p.base_coverage.object) b p.bases.count) where
    base_place_lem : z ≡ base_place s t b
    unfolding base_place place_below
    base_place_lem = d ∙ rw (o.base_coverage.linked, bases_are o)

    pub no_base_place : z ≡ None → attached_as None ≡ attach_of s t m b
    unfolding attach_of and_then
    no_base_place w = rw (← mark_place_lem, y, ← base_place_lem, w)

    module _ {j : ℕ} (w : z ≡ Some j) where
      pub places_low : (i < marks_in s t) × (j < bases_in s t)
      places_low = (
        omega (arith, place_low _ m p.marks.count i (sym (y) ∙ e), marks_are o),
        omega (arith, place_low _ b p.bases.count j (sym (w) ∙ d), bases_are o),
      )

      pub both_places : (q : Option Anchors) → attached_as q ≡ attach_at s t i j → attached_as q ≡ attach_of s t m b
      unfolding attach_of attach_at and_then
      both_places q h = rw (← mark_place_lem, y, ← base_place_lem, w) h
