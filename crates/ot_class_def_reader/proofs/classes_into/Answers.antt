-- `ot_class_def_reader::classes_into` meets its contract: by its header a class definition is a list of classes or ranges. Assumes nothing.
use Rattle.std.specs.Prelude.{Some}
use Prim.Native.Nat.{ℕ}
use mathlib.Core.Path.{◌≡◌, sym, ap, ◌∙◌}
use mathlib.Core.List.{List, map}
use Rattle.folds.specs.Lists.{put}
use Rattle.ot_layouts.specs.ClassDef.{class_def_of, class_of}
use Rattle.ot_layouts.specs.declared.Kind.TheVariants as Kind
use Rattle.ot_layouts.specs.declared.Header.{Header}
use Rattle.ot_layouts.proofs.ClassDefRead.{header_list, header_ranges}
use Rattle.ot_class_def_reader.specs.Lookup.{list_class, range_class}
use Rattle.ot_class_def_reader.proofs.Filled.{map_same}
use Rattle.ot_class_def_reader.proofs.classes_into.Goals as goal

module _ (part : List ℕ) (h : Header) (r : class_def_of part ≡ Some h) (gs out : List ℕ) {out' : List ℕ} where
  as_list_lem : h.kind ≡ Kind.List → out' ≡ put out 0 (map (list_class part h.count) gs) → out' ≡ put out 0 (map (class_of part) gs)
  as_list_lem k e = e ∙ ap (put out 0) (sym (map_same (class_of part) (list_class part h.count) (header_list part h r k).class gs))

  as_ranges_lem : h.kind ≡ Kind.Ranges → out' ≡ put out 0 (map (range_class part h.count) gs) → out' ≡ put out 0 (map (class_of part) gs)
  as_ranges_lem k e = e ∙ ap (put out 0) (sym (map_same (class_of part) (range_class part h.count) (header_ranges part h r k).class gs))

pub list_classes-requires : goal.list_classes-requires
list_classes-requires c = record { part_len = (header_list _ c.args.header c.requires.part_value c.in-List.is).long; glyphs_in_bounds = c.requires.glyphs_in_bounds }

pub range_classes-requires : goal.range_classes-requires
range_classes-requires c = record { count_value = (header_ranges _ c.args.header c.requires.part_value c.in-Ranges.is).fits; ascending = c.requires.ascending; glyphs_in_bounds = c.requires.glyphs_in_bounds }

pub returns-in-List : goal.returns-in-List
returns-in-List c = as_list_lem _ c.args.header c.requires.part_value c.args.glyphs.now c.args.out.now c.in-List.is c.list_classes.ensures

pub returns-in-Ranges : goal.returns-in-Ranges
returns-in-Ranges c = as_ranges_lem _ c.args.header c.requires.part_value c.args.glyphs.now c.args.out.now c.in-Ranges.is c.range_classes.ensures
