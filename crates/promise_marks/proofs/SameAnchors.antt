-- A table of a range of classes has the anchors of these classes that the old table had. Assumes nothing.
use Prim.Native.Nat.{ℕ, ◌+◌, ◌-◌, ◌<◌, ◌≤◌}
use mathlib.Core.Path.{◌≡◌, refl, sym, ap, subst, ◌∙◌}
use mathlib.Core.Bool.{true}
use mathlib.Core.List.{List}
use mathlib.Core.Logic.{inl, inr}
use native.Mathlib.Omega.{arith}
use lib.ListN.{length, get_or}
use Rattle.folds.proofs.Each.{Each, each_upto, each_moved, each_at}
use Rattle.folds.proofs.Moved.{has_moved}
use Rattle.folds.proofs.InRange.{between_is, is_between}
use Rattle.ot_layouts.specs.MarkBasePos.{mark_class}
use Rattle.store_rules.specs.Store.{Store}
use Rattle.mark_rules.specs.Table.{Mark, marks_in, bases_in, mark_bytes, mark_anchor, marks_of, mark_at, marks_within, in_classes, base_anchor}
use Rattle.mark_rules.specs.Written.{no_mark}
use Rattle.mark_rules.specs.Reads.{Reads}
use Rattle.mark_rules.proofs.Marks.{marks_many, mark_is, reduce}
use Rattle.mark_rules.proofs.Anchors.{Anchor}
use Rattle.promise_marks.proofs.View.{View, view_marks, view_bases, view_anchor}

module _ {s : Store} {t : ℕ} {s' : Store} {u lo hi : ℕ} (v : View s t s' u lo hi) (old : Reads s t) (j : ℕ) (small : lo + j ≤ hi) where
  -- a mark of the view is an old one of the range
  abbrev Was : Mark → Type 0
  Was m = (i : ℕ) × (i < marks_in s t) × (lo ≤ mark_class (mark_bytes s t) i) × (m ≡ reduce lo (mark_at s t i))

  abbrev Is : Mark → Type 0
  Is m = (i : ℕ) × (i < marks_in s t) × (m ≡ mark_at s t i)

  was_in : (m : Mark) → Is m → in_classes lo hi m.class ≡ true → Was (reduce lo m)
  unfolding mark_at
  was_in m (i, l, e) h =
      let (a, b) = between_is lo hi m.class h in
      (i, l, subst (λ (x : Mark). lo ≤ x.class) e a, ap (reduce lo) e)

  marks_were : Each Was (marks_of s' u)
  unfolding marks_within marks_of
  marks_were =
      subst (Each Was) (sym (view_marks v old))
      (each_moved Is Was (reduce lo) (λ m. in_classes lo hi m.class) was_in (marks_of s t)
      (each_upto Is (mark_at s t) (marks_in s t) (λ i l. (i, l, refl))))

  pub anchor_old : (c : ℕ) → Anchor s' u 0 j c → Anchor s t lo (lo + j) c
  unfolding mark_at
  anchor_old c (inl (i, l, a, b, e)) =
      let (k, m, low, f) = each_at Was (marks_of s' u) marks_were i (omega (arith, marks_many s' u)) no_mark in
      let same : mark_at s' u i ≡ reduce lo (mark_at s t k) = sym (mark_is s' u i l) ∙ f in
      let class : mark_class (mark_bytes s' u) i ≡ mark_class (mark_bytes s t) k - lo = ap (λ (m : Mark). m.class) same in
      let anchor : mark_anchor s' u i ≡ mark_anchor s t k = ap (λ (m : Mark). m.anchor) same in
      inl (k, m, low, omega arith, sym anchor ∙ e)
  anchor_old c (inr (i, k, l, m, a, b, e)) =
      let h = v.high in
      let base : i < bases_in s t = omega (arith, view_bases v old) in
      inr (i, lo + k, base, omega arith, omega arith, omega arith, sym (view_anchor v old i k base (omega arith)) ∙ e)

  pub anchor_new : (c : ℕ) → Anchor s t lo (lo + j) c → Anchor s' u 0 j c
  unfolding mark_at marks_within
  anchor_new c (inl (i, l, a, b, e)) =
      let at : get_or (marks_of s t) i no_mark ≡ mark_at s t i = mark_is s t i l in
      let inside : in_classes lo hi (get_or (marks_of s t) i no_mark).class ≡ true
      = ap (λ (m : Mark). in_classes lo hi m.class) at ∙ is_between lo hi (mark_class (mark_bytes s t) i) a (omega arith) in
      let (k, m, f) = has_moved (reduce lo) (λ m. in_classes lo hi m.class) no_mark no_mark (marks_of s t) i (omega (arith, marks_many s t)) inside in
      let n : k < marks_in s' u = omega (arith, ap length (view_marks v old), marks_many s' u) in
      let same : mark_at s' u k ≡ reduce lo (mark_at s t i)
      = sym (mark_is s' u k n) ∙ ap (λ (ms : List Mark). get_or ms k no_mark) (view_marks v old) ∙ f ∙ ap (reduce lo) at in
      let class : mark_class (mark_bytes s' u) k ≡ mark_class (mark_bytes s t) i - lo = ap (λ (m : Mark). m.class) same in
      let anchor : mark_anchor s' u k ≡ mark_anchor s t i = ap (λ (m : Mark). m.anchor) same in
      inl (k, n, omega arith, omega arith, anchor ∙ e)
  anchor_new c (inr (i, k, l, m, a, b, e)) =
      let z : lo + (k - lo) ≡ k = omega arith in
      inr (
        i,
        k - lo,
        omega (arith, view_bases v old),
        omega (arith, v.classes),
        omega arith,
        omega arith,
        view_anchor v old i (k - lo) l (omega arith) ∙ ap (base_anchor s t i) z ∙ e,
      )
