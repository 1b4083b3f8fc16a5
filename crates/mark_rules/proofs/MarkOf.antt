-- The mark of a glyph: it stands at the glyph's place in the mark coverage; in a range of classes; and the attachment by it. Assumes nothing.
use Rattle.std.specs.Prelude.{Option, Some, None}
use Prim.Native.Nat.{ℕ, zero, suc, ◌+◌, ◌<◌, ◌≤◌}
use mathlib.Core.Path.{◌≡◌, refl, sym, ap, subst, ◌∙◌}
use mathlib.Core.Bool.{Bool, true, false, cond}
use mathlib.Core.List.{List, [], ◌∷◌}
use native.Mathlib.Omega.{arith}
use native.Mathlib.Nat.{not-suc-le-zero}
use lib.ListN.{length, get_or}
use lib.Dec.{eqb, ltb}
use borrow.Author.Tests.{lt-ltb, le-ltb, ltb-true, ltb-false, eqb-true, ne_eqb}
use Rattle.folds.specs.Folds.{upto, flat}
use Rattle.folds.specs.Lists.{find, here, given, and_then, sift}
use Rattle.folds.proofs.Tests.{by_test}
use Rattle.folds.proofs.Folds.{upto-cons}
use Rattle.folds.proofs.Each.{Each}
use Rattle.ot_layouts.specs.Coverage.{cover_place}
use Rattle.store_rules.specs.Store.{Store}
use Rattle.mark_rules.specs.Table.{Mark, in_classes, marks_within, marks_in, marks_of, mark_at, glyphs_of, base_anchor}
use Rattle.mark_rules.specs.Attachments.{Anchors, anchors, mark_place, base_place, attach_of}
use Rattle.mark_rules.specs.Reads.{Reads}
use Rattle.mark_rules.proofs.Marks.{Rises, reduce, reduced}

-- the first mark with glyph g
unfoldable pub mark_of : List Mark → ℕ → Option Mark
mark_of [] g = None
mark_of (m ∷ ms) g = cond (eqb m.glyph g) (Some m) (mark_of ms g)

-- a mark that is found is one of them
pub mark_each : (P : Mark → Type 0) (ms : List Mark) (g : ℕ) → Each P ms → (m : Mark) → mark_of ms g ≡ Some m → P m
unfolding mark_of
mark_each P [] g a m e = let z : ◌≡◌ {A = ℕ} 0 1 = cc in absurd (omega arith)
mark_each P (x ∷ ms) g a m e = go (eqb x.glyph g) e (λ f. mark_each P ms g a.1 m f)
  where
    go : (b : Bool) → cond b (Some x) (mark_of ms g) ≡ Some m → (mark_of ms g ≡ Some m → P m) → P m
    go true e i = let z : x ≡ m = cc in subst P z a.0
    go false e i = i e

-- ---- by place

-- one further on
further : (n i : ℕ) → ltb (suc i) (suc n) ≡ ltb i n
further n i =
    by_test (ltb i n)
    (λ e. let h = ltb-true i n e in lt-ltb (suc i) (suc n) (omega arith) ∙ sym e)
    (λ e. let h = ltb-false i n e in le-ltb (suc i) (suc n) (omega arith) ∙ sym e)

-- what f gives at a place that was found, if it lies below n
abbrev at_place : (ℕ → Mark) → ℕ → Option ℕ → Option Mark
at_place f n o = and_then o λ i. given (ltb i n) (f i)

marks_found : (gs : List ℕ) (f : ℕ → Mark) (n g : ℕ) → n ≤ length gs → ((k : ℕ) → k < n → (f k).glyph ≡ get_or gs k 0)
    → mark_of (upto f n) g ≡ at_place f n (find gs g)
unfolding flat find and_then mark_of
marks_found gs f zero g l e = none_there (find gs g)
  where
    none_there : (o : Option ℕ) → None ≡ at_place f 0 o
    none_there None = refl
    none_there (Some i) = sym (ap (λ (b : Bool). given b (f i)) (le-ltb i 0 (omega arith)))
marks_found [] f (suc n) g l e = absurd (not-suc-le-zero l)
marks_found (x ∷ gs) f (suc n) g l e =
    ap (λ (ms : List Mark). mark_of ms g) (upto-cons f n)
    ∙ ap (λ (y : ℕ). cond (eqb y g) (Some (f 0)) rest) (e 0 (omega arith))
    ∙ go (eqb x g) (find gs g) (marks_found gs (λ j. f (suc j)) n g (omega arith) (λ k m. e (suc k) (omega arith)))
  where
    rest : Option Mark
    rest = mark_of (upto (λ j. f (suc j)) n) g

    go : (b : Bool) (o : Option ℕ) → rest ≡ at_place (λ j. f (suc j)) n o → cond b (Some (f 0)) rest ≡ at_place f (suc n) (here b o)
    go true o i = sym (ap (λ (b : Bool). given b (f 0)) (lt-ltb 0 (suc n) (omega arith)))
    go false None i = i
    go false (Some k) i = i ∙ ap (λ (b : Bool). given b (f (suc k))) (sym (further n k))

mark_by_place : (s : Store) (t : ℕ) → Reads s t → (g : ℕ) → mark_of (marks_of s t) g ≡ and_then (mark_place s t g) λ i. Some (mark_at s t i)
unfolding marks_of mark_at mark_place cover_place and_then
mark_by_place s t r g = marks_found (glyphs_of s t) (mark_at s t) (marks_in s t) g r.enough (λ k l. refl) ∙ placed (find (glyphs_of s t) g)
  where
    tested : (b : Bool) (i : ℕ) → given b (mark_at s t i) ≡ and_then (given b i) λ i. Some (mark_at s t i)
    tested true i = refl
    tested false i = refl

    placed : (o : Option ℕ) → at_place (mark_at s t) (marks_in s t) o ≡ and_then (and_then o λ i. given (ltb i (marks_in s t)) i) λ i. Some (mark_at s t i)
    placed None = refl
    placed (Some i) = tested (ltb i (marks_in s t)) i

-- ---- in a range of classes

none_above : (ms : List Mark) (lo g : ℕ) → Rises lo ms → g < lo → mark_of ms g ≡ None
unfolding mark_of
none_above [] lo g a h = refl
none_above (m ∷ ms) lo g a h =
    let l : lo ≤ m.glyph = a.0 in
    rw (ne_eqb m.glyph g (λ e. omega arith)) (none_above ms (m.glyph + 1) g a.1 (omega arith))

-- a mark, if its class lies in the range
abbrev pub only : ℕ → ℕ → Mark → Option Mark
only lo hi m = given (in_classes lo hi m.class) m

-- the mark of a glyph in a range is the mark of the glyph, if it lies in the range
pub mark_within : (lo hi : ℕ) (ms : List Mark) (n g : ℕ) → Rises n ms → mark_of (marks_within lo hi ms) g ≡ and_then (mark_of ms g) (only lo hi)
unfolding marks_within sift and_then mark_of
mark_within lo hi [] n g a = refl
mark_within lo hi (m ∷ ms) n g a = go (in_classes lo hi m.class) refl (eqb m.glyph g) refl (mark_within lo hi ms (m.glyph + 1) g a.1)
  where
    kept : List Mark
    kept = sift (λ m. in_classes lo hi m.class) ms

    past : eqb m.glyph g ≡ true → mark_of ms g ≡ None
    past e = let z = eqb-true m.glyph g e in none_above ms (m.glyph + 1) g a.1 (omega arith)

    go : (x : Bool) → in_classes lo hi m.class ≡ x → (y : Bool) → eqb m.glyph g ≡ y → mark_of kept g ≡ and_then (mark_of ms g) (only lo hi)
        → mark_of (cond x (m ∷ kept) kept) g ≡ and_then (cond y (Some m) (mark_of ms g)) (only lo hi)
    go true e true f i = rw (f, e)
    go true e false f i = rw f i
    go false e true f i = i ∙ ap (λ (o : Option Mark). and_then o (only lo hi)) (past f) ∙ rw e
    go false e false f i = i

pub mark_reduced : (lo : ℕ) (ms : List Mark) (g : ℕ) → mark_of (reduced lo ms) g ≡ and_then (mark_of ms g) λ m. Some (reduce lo m)
unfolding and_then mark_of
mark_reduced lo [] g = refl
mark_reduced lo (m ∷ ms) g = go (eqb m.glyph g) (mark_reduced lo ms g)
  where
    go : (b : Bool) → mark_of (reduced lo ms) g ≡ (and_then (mark_of ms g) λ m. Some (reduce lo m))
        → cond b (Some (reduce lo m)) (mark_of (reduced lo ms) g) ≡ and_then (cond b (Some m) (mark_of ms g)) λ m. Some (reduce lo m)
    go true i = refl
    go false i = i

-- ---- the attachment by a mark

-- of a mark to base glyph b
unfoldable pub attach_mark : Store → ℕ → ℕ → Mark → Option Anchors
attach_mark s t b m =
    and_then (base_place s t b) λ j.
    and_then m.anchor λ a.
    and_then (base_anchor s t j m.class) λ c.
    Some (anchors a c)

pub attach_by_mark : (s : Store) (t : ℕ) → Reads s t → (g b : ℕ) → attach_of s t g b ≡ and_then (mark_of (marks_of s t) g) (attach_mark s t b)
unfolding attach_of attach_mark mark_at and_then
attach_by_mark s t r g b = placed (mark_place s t g) ∙ sym (ap (λ (o : Option Mark). and_then o (attach_mark s t b)) (mark_by_place s t r g))
  where
    placed : (o : Option ℕ) → (and_then o λ i. attach_mark s t b (mark_at s t i)) ≡ and_then (and_then o λ i. Some (mark_at s t i)) (attach_mark s t b)
    placed None = refl
    placed (Some i) = refl
