-- Entries, and the classes that a function gives their glyphs. Assumes nothing.
use Prim.Native.Nat.{ℕ, ◌+◌, ◌≤◌}
use mathlib.Core.Path.{◌≡◌, refl, sym, ap, ap₂, ◌∙◌}
use mathlib.Core.List.{List, [], ◌∷◌, map}
use native.Mathlib.Omega.{arith}
use borrow.Author.Tests.{eq-eqb, ne_eqb}
use Rattle.folds.proofs.Each.{Each}
use Rattle.ot_layouts.specs.Coverage.{Entry, plain, Ascends, Under}
use Rattle.ot_layouts.specs.ClassDef.{class_in}
use Rattle.ot_layouts.proofs.RunStarts.{entry}

-- each entry's class is what f gives its glyph
abbrev pub Agrees : (ℕ → ℕ) → List Entry → Type 0
Agrees f es = Each (λ e. f e.glyph ≡ e.class) es

agrees_change : (f g : ℕ → ℕ) (es : List Entry) (lo : ℕ) → Ascends lo es → ((x : ℕ) → lo ≤ x → f x ≡ g x) → Agrees f es → Agrees g es
agrees_change f g [] lo a h b = tt
agrees_change f g (e ∷ es) lo a h b =
    let l : lo ≤ e.glyph = a.0 in
    (sym (h e.glyph l) ∙ b.0, agrees_change f g es (e.glyph + 1) a.1 (λ x m. h x (omega arith)) b.1)

pub agrees_glyphs : (f : ℕ → ℕ) (gs : List ℕ) → Agrees f (map (λ g. entry g (f g)) gs)
agrees_glyphs f [] = tt
agrees_glyphs f (g ∷ gs) = (refl, agrees_glyphs f gs)

-- entries in ascending order go by their own classes
pub agrees_self : (es : List Entry) (lo : ℕ) → Ascends lo es → Agrees (class_in es) es
unfolding class_in
agrees_self [] lo a = tt
agrees_self (e ∷ es) lo a = (
  rw (eq-eqb e.glyph e.glyph refl),
  agrees_change (class_in es) (class_in (e ∷ es)) es (e.glyph + 1) a.1 (λ x h. rw (ne_eqb e.glyph x (λ z. omega arith))) (agrees_self es (e.glyph + 1) a.1),
)

pub agrees_map : (f : ℕ → ℕ) (es : List Entry) → Agrees f es → map (λ (g : ℕ). record { glyph = g; class = f g }) (map (λ e. e.glyph) es) ≡ es
agrees_map f [] a = refl
agrees_map f (e ∷ es) a =
    ap₂ (λ (x : Entry) (y : List Entry). x ∷ y) (λ i. record { glyph = e.glyph; class = a.0 i }) (agrees_map f es a.1)

pub map-glyphs : (f : ℕ → ℕ) (gs : List ℕ) → map (λ (e : Entry). e.glyph) (map (λ (g : ℕ). entry g (f g)) gs) ≡ gs
map-glyphs f [] = refl
map-glyphs f (g ∷ gs) = ap {B = List ℕ} (λ x. g ∷ x) (map-glyphs f gs)

-- ---- their glyphs alone

pub ascends_plain : (es : List Entry) (lo : ℕ) → Ascends lo es → Ascends lo (plain (map (λ e. e.glyph) es))
ascends_plain [] lo a = tt
ascends_plain (e ∷ es) lo a = (a.0, ascends_plain es (e.glyph + 1) a.1)

pub under_plain : (es : List Entry) (n : ℕ) → Under n es → Under n (plain (map (λ e. e.glyph) es))
under_plain [] n u = tt
under_plain (e ∷ es) n u = (u.0, under_plain es n u.1)
