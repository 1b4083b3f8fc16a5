-- The first and the last entry that is named, by index: where the named entries start, and how many glyphs they span. Assumes nothing.
use Prim.Native.Nat.{ℕ, zero, suc, ◌+◌, ◌-◌, ◌≤◌, ◌<◌}
use mathlib.Core.Path.{◌≡◌, sym, ap, ap₂, ◌∙◌}
use mathlib.Core.List.{List, [], ◌∷◌}
use mathlib.Core.Logic.{⊎_elim}
use native.Mathlib.Nat.{not-suc-le-zero}
use native.Mathlib.Omega.{arith}
use lib.ListN.{length, get_or, drop}
use Rattle.folds.proofs.Tests.{either}
use Rattle.ot_layouts.specs.Coverage.{Entry, plain, Ascends}
use Rattle.ot_layouts.specs.ClassDef.{first_glyph, last_glyph, span, named}
use Rattle.ot_layouts.proofs.Named.{named_none, named_keep, named_drop, named_last}
use Rattle.ot_class_def_writer.specs.Entries.{reduced_entries, FirstNamed, LastNamed}
use Rattle.ot_class_def_writer.proofs.Entries.{entry_at, no_entry, length_entries, entries_at, ascends_at, rest_cons, rest_none}

-- glyphs ascend with their places
ascends_le : (gs : List ℕ) (lo i j : ℕ) → Ascends lo (plain gs) → i ≤ j → j < length gs → get_or gs i 0 ≤ get_or gs j 0
ascends_le [] lo i j a l m = absurd (not-suc-le-zero m)
ascends_le (g ∷ gs) lo zero zero a l m = omega arith
ascends_le (g ∷ gs) lo zero (suc j) a l m = omega (arith, ascends_at gs (g + 1) j a.1 (omega arith))
ascends_le (g ∷ gs) lo (suc i) zero a l m = absurd (omega arith)
ascends_le (g ∷ gs) lo (suc i) (suc j) a l m = ascends_le gs (g + 1) i j a.1 (omega arith) (omega arith)

-- glyphs of sixteen bits are 65,536 at most
pub few_glyphs : (gs : List ℕ) → Ascends 0 (plain gs) → ((i : ℕ) → get_or gs i 0 < 65536) → length gs ≤ 65536
few_glyphs [] a u = omega arith
few_glyphs (g ∷ gs) a u = omega (arith, ascends_at (g ∷ gs) 0 (length gs) a (omega arith), u (length gs))

span_of : {es : List Entry} {a b : ℕ} (x : Entry) (xs : List Entry) → es ≡ x ∷ xs → last_glyph (x ∷ xs) ≡ b → a ≡ first_glyph es → b + 1 - a ≡ span es
unfolding span first_glyph
span_of x xs p q g = ap₂ (λ (u v : ℕ). u + 1 - v) (sym q) (g ∙ ap first_glyph p) ∙ sym (ap span p)

module _ (gs cs : List ℕ) (first : ℕ) (same : length cs ≡ length gs) where
  class_none : (k : ℕ) → k < length gs → get_or cs k 0 ≤ first → (get_or (reduced_entries gs cs first) k no_entry).class ≡ 0
  class_none k l h = ap (λ (e : Entry). e.class) (entries_at gs cs first k same l) ∙ (omega arith)

  module _ (lo : ℕ) (f : FirstNamed cs first lo) where
    pub named_from : named (reduced_entries gs cs first) ≡ named (drop lo (reduced_entries gs cs first))
    named_from =
        named_drop (reduced_entries gs cs first) lo no_entry (omega (arith, f.within, length_entries gs cs first same))
        (λ i l. class_none i (omega (arith, f.within)) (f.unnamed i l))

    pub none_named : length gs ≤ lo → named (reduced_entries gs cs first) ≡ []
    none_named l = named_from ∙ ap named (rest_none gs cs first same lo (omega (arith, f.within))) ∙ named_none

    module _ (l : lo < length gs) where
      first_above : first < get_or cs lo 0
      first_above = f.is_named (omega arith)

      named_first : named (reduced_entries gs cs first) ≡ entry_at gs cs first lo ∷ named (drop (lo + 1) (reduced_entries gs cs first))
      named_first =
          named_from ∙ ap named (rest_cons gs cs first same lo l)
          ∙ named_keep (entry_at gs cs first lo) (drop (lo + 1) (reduced_entries gs cs first)) (λ z. let h = first_above in omega arith)

      pub start_is : get_or gs lo 0 ≡ first_glyph (named (reduced_entries gs cs first))
      unfolding first_glyph
      start_is = rw named_first

      module _ (end : ℕ) (t : LastNamed cs first end) where
        pub some_named : lo < end
        some_named = ⊎_elim (λ h. h) (λ h. let n = first_above in let u = t.unnamed lo h (omega arith) in absurd (omega arith)) (either lo end)

        last_place : end ≡ end - 1 + 1
        last_place = let h = some_named in omega arith

        inside : end - 1 < length gs
        inside = let h = some_named in let w = t.within in omega arith

        pub ordered : Ascends 0 (plain gs) → get_or gs lo 0 ≤ get_or gs (end - 1) 0
        ordered a = ascends_le gs 0 lo (end - 1) a (let h = some_named in omega arith) inside

        last_one : (x : Entry) × (xs : List Entry) × (named (reduced_entries gs cs first) ≡ x ∷ xs) × (last_glyph (x ∷ xs) ≡ (get_or (reduced_entries gs cs first) (end - 1) no_entry).glyph)
        last_one =
            let h = inside in
            let w = length_entries gs cs first same in
            named_last (reduced_entries gs cs first) (end - 1) no_entry (omega arith)
            (λ z. let n = t.is_named (end - 1) last_place in
            let e : get_or cs (end - 1) 0 - first ≡ 0 = sym (ap (λ (y : Entry). y.class) (entries_at gs cs first (end - 1) same inside)) ∙ z in omega arith)
            (λ i m k. class_none i (omega arith) (t.unnamed i (omega arith) (omega arith)))

        pub span_is : get_or gs (end - 1) 0 + 1 - get_or gs lo 0 ≡ span (named (reduced_entries gs cs first))
        span_is =
            let (x, xs, p, q) = last_one in
            span_of x xs p (q ∙ ap (λ (y : Entry). y.glyph) (entries_at gs cs first (end - 1) same inside)) start_is
