-- A table's parts, from its marks as entries: the bytes do not depend on anchors. Assumes nothing.
use Prim.Native.Nat.{ℕ, ◌-◌}
use mathlib.Core.Path.{◌≡◌, refl, sym, ap, ap₂, ◌∙◌}
use mathlib.Core.List.{List, [], ◌∷◌, map, map-map}
use lib.ListN.{length, get_or, get_or-map}
use Rattle.folds.specs.Folds.{flat}
use Rattle.folds.proofs.FromTheFront.{flat-same}
use Rattle.folds.proofs.Moved.{length-map}
use Rattle.ot_layouts.specs.Numbers.{words}
use Rattle.ot_layouts.specs.Coverage.{Entry}
use Rattle.glyph_rules.specs.Entries.{within}
use Rattle.glyph_rules.proofs.Entries.{in_range}
use Rattle.cut_parts.specs.Tables.{paired}
use Rattle.cut_parts.proofs.Sifting.{sift-map}
use Rattle.cut_parts.proofs.Parting.{paired_glyphs, paired_items}
use Rattle.mark_rules.specs.Table as table
use Rattle.mark_rules.specs.Table.{Mark}
use Rattle.mark_rules.specs.Written.{no_mark, new_coverage, new_mark_array, new_base_array, new_parts}
use Rattle.mark_new_table.specs.Arrays.{mark_of, mark_array_of}
use Rattle.mark_new_objects.specs.Marks.{entry_from, entries_from, mark_from, marks_from}
use Rattle.mark_new_objects.specs.Objects.{parts_of}

-- the parts of a table of these entries
abbrev pub parts_from : ℕ → ℕ → ℕ → List Entry → List (List ℕ)
parts_from bases lo hi es = parts_of (map (λ (e : Entry). e.glyph) es) (map (λ (e : Entry). e.class) es) bases lo hi

within_from : (lo hi : ℕ) (ms : List Mark) → entries_from (table.marks_within lo hi ms) ≡ within lo hi (entries_from ms)
unfolding within table.marks_within
within_from lo hi ms = sym (sift-map entry_from (in_range lo hi) ms)

array_from : (lo : ℕ) (ms : List Mark) → new_mark_array lo ms ≡ mark_array_of lo (map (λ (m : Mark). m.class) ms)
unfolding new_mark_array mark_array_of
array_from lo ms =
    let ks = map (λ (m : Mark). m.class) ms in
    let n : length ms ≡ length ks = sym (length-map (λ (m : Mark). m.class) ms) in
    ap words
    (ap₂ (λ (x : ℕ) (y : List ℕ). x ∷ y) n
    (flat-same (λ k. ((get_or ms k no_mark).class - lo) ∷ 0 ∷ []) (mark_of lo ks) (length ms)
    (λ k h. ap (λ (c : ℕ). (c - lo) ∷ 0 ∷ []) (sym (get_or-map (λ (m : Mark). m.class) ms k no_mark)))
    ∙ ap (flat (mark_of lo ks)) n))

pub parts_from_lem : (ms : List Mark) (bases lo hi : ℕ) → new_parts ms bases lo hi ≡ parts_from bases lo hi (within lo hi (entries_from ms))
unfolding new_parts new_coverage
parts_from_lem ms bases lo hi =
    let w = table.marks_within lo hi ms in
    let es = within lo hi (entries_from ms) in
    let gs : map (λ (m : Mark). m.glyph) w ≡ map (λ (e : Entry). e.glyph) es =
    sym (map-map (λ (e : Entry). e.glyph) entry_from w) ∙ ap (map (λ (e : Entry). e.glyph)) (within_from lo hi ms) in
    let ks : map (λ (m : Mark). m.class) w ≡ map (λ (e : Entry). e.class) es =
    sym (map-map (λ (e : Entry). e.class) entry_from w) ∙ ap (map (λ (e : Entry). e.class)) (within_from lo hi ms) in
    ap (λ (x : List ℕ). new_coverage w ∷ x ∷ new_base_array bases (hi - lo) ∷ []) (array_from lo w)
    ∙ ap₂ (λ (x y : List ℕ). parts_of x y bases lo hi) gs ks

pub entries_back : (es : List Entry) → entries_from (map mark_from es) ≡ es
entries_back [] = refl
entries_back (e ∷ es) = ap (λ (x : List Entry). e ∷ x) (entries_back es)

-- of glyphs and classes, of which these are the table's
pub parts_paired : (gs ks gs' ks' : List ℕ) (bases lo hi : ℕ) → length ks' ≡ length gs' → within lo hi (paired gs ks) ≡ paired gs' ks'
    → new_parts (marks_from gs ks) bases lo hi ≡ parts_of gs' ks' bases lo hi
parts_paired gs ks gs' ks' bases lo hi same e =
    parts_from_lem (marks_from gs ks) bases lo hi
    ∙ ap (λ (es : List Entry). parts_from bases lo hi (within lo hi es)) (entries_back (paired gs ks))
    ∙ ap (parts_from bases lo hi) e
    ∙ ap₂ (λ (x y : List ℕ). parts_of x y bases lo hi) (paired_glyphs gs' ks' same) (paired_items gs' ks' same)
