-- `ot_class_def_reader::class_of` meets its contract: by its header a class definition is a list of classes or ranges. Assumes nothing.
use mathlib.Core.Path.{sym, ◌∙◌}
use Rattle.ot_layouts.proofs.ClassDefRead.{header_list, header_ranges}
use Rattle.ot_class_def_reader.proofs.class_of.Goals as goal

pub class_in_list-requires : goal.class_in_list-requires
class_in_list-requires c = (header_list _ c.args.header c.requires c.in-List.is).long

pub class_in_ranges-requires : goal.class_in_ranges-requires
class_in_ranges-requires c = (header_ranges _ c.args.header c.requires c.in-Ranges.is).fits

pub returns-in-List : goal.returns-in-List
returns-in-List c = c.class_in_list.ensures ∙ sym ((header_list _ c.args.header c.requires c.in-List.is).class _)

pub returns-in-Ranges : goal.returns-in-Ranges
returns-in-Ranges c = c.class_in_ranges.ensures ∙ sym ((header_ranges _ c.args.header c.requires c.in-Ranges.is).class _)
